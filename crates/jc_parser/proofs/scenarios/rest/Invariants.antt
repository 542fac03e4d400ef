use Rattle.std.proofs.Common.{◌≡◌, map}
use Rattle.jc_parser.specs.ScenarioReader.{tail_at, rest_at}
use Rattle.jc_parser.specs.ScenarioViews.{part_view, names_of}
use Rattle.jc_parser.proofs.ScenarioLoopsLemmas.{then_parts}
use Rattle.jc_parser.proofs.scenarios.rest.Given as goal

-- the replicas so far, and what is to come
abbrev pub invariant-replicas : goal.invariant-replicas
invariant-replicas l = rest_at l.fn.version 100000 63 l.fn.cursor ≡ then_parts (map part_view l.replicas.items) (tail_at l.fn.version 100000 l.left (names_of l.replicas.items) l.cursor)

abbrev pub decreases-replicas : goal.decreases-replicas
decreases-replicas l = l.left
