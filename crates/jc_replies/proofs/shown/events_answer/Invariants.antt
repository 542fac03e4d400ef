use Rattle.std.proofs.Common.{take}
use Rattle.jc_answers.specs.Parts.{HasItems}
use Rattle.jc_replies.specs.ReplyTexts.{event_texts}
use Rattle.jc_replies.proofs.shown.events_answer.Given as goal

-- the events so far
abbrev pub invariant-loop-event : goal.invariant-loop-event
invariant-loop-event l = HasItems l.list (event_texts l.names (take l.event-index l.events))
