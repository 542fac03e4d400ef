use Rattle.std.proofs.Common.{drop}
use Rattle.json.specs.Tree.{items_tokens}
use Rattle.jc_json.proofs.GainsLemmas.{Wrote}
use Rattle.jc_json.specs.Values.{string_items}
use Rattle.jc_journal.specs.StuckLine.{offering_from}
use Rattle.jc_journal.proofs.stuck.write_offering.Given as goal

-- the names of the replicas below p are written
abbrev pub invariant-loop-p : goal.invariant-loop-p
invariant-loop-p l =
    Wrote l.initial.out l.out (items_tokens (string_items (offering_from l.p l.net.names l.id (drop l.p l.net.history.now.states)))) (items_tokens (string_items (offering_from 0 l.net.names l.id l.net.history.now.states)))
