use Rattle.std.proofs.Common.{◌≡◌}
use Rattle.jc_parser.specs.ScenarioReader.{events_at}
use Rattle.jc_parser.proofs.LoopsLemmas.{with_front}
use Rattle.jc_parser.proofs.scenarios.events.Given as goal

-- the events so far, and those to come
abbrev pub invariant-events : goal.invariant-events
invariant-events l = events_at l.fn.version 100000 l.fn.cursor ≡ with_front l.events.items (events_at l.fn.version l.left l.cursor)

abbrev pub decreases-events : goal.decreases-events
decreases-events l = l.left
