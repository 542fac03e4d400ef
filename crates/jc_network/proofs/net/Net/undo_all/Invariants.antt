use Rattle.jc_network.proofs.GivenHistoryLemmas.{HasUndone}
use Rattle.jc_network.proofs.net.Net.undo_all.Given as goal

abbrev pub invariant-loop-taken : goal.invariant-loop-taken
invariant-loop-taken l = record { undone : HasUndone l.initial.self l.self l._taken }
