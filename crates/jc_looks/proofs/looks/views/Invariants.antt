use Rattle.std.proofs.Common.{take}
use Rattle.jc_answers.specs.Parts.{HasItems}
use Rattle.jc_looks.specs.Looks.{view_text, texts_from}
use Rattle.jc_looks.proofs.looks.views.Given as goal

-- those of the replicas below p
abbrev pub invariant-loop-p : goal.invariant-loop-p
invariant-loop-p l = HasItems l.all (texts_from view_text 0 l.net.names (take l.p l.net.history.now.states))
