use Rattle.std.proofs.Common.{◌≡◌}
use Rattle.jc_network.proofs.GivenHistoryLemmas.{HaveLed}
use Rattle.jc_network.proofs.net.Net.lead.Given as goal

abbrev pub invariant-loop-event : goal.invariant-loop-event
invariant-loop-event l = (l.at ≡ l.event-index) × HaveLed l.initial.self l.self l.given l.event-index
