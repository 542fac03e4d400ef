use Rattle.std.proofs.Common.{◌≡◌, take, string_bytes}
use Rattle.jc_session.specs.Texts.{event_lines}
use Rattle.jc_session.proofs.texts.event_lines.Given as goal

-- the events so far
abbrev pub invariant-loop-event : goal.invariant-loop-event
invariant-loop-event l = string_bytes l.text ≡ event_lines l.names (take l.event-index l.events)
