use Rattle.std.proofs.Common.{◌<◌, length, drop, sym, subst, ap, arith, add-one}
use Rattle.json.specs.Tree.{items_tokens}
use Rattle.jc_network.proofs.MembersLemmas.{some_at}
use Rattle.jc_json.proofs.GainsLemmas.{Wrote, wrote_more}
use Rattle.jc_json.specs.Values.{string_items}
use Rattle.jc_journal.specs.StuckLine.{offering_from}
use Rattle.jc_journal.proofs.StuckLineLemmas.{offering_next}
use Rattle.jc_journal.proofs.stuck.write_offering.Goals as goal

pub loop-p-preserved : goal.loop-p-preserved
loop-p-preserved c =
    let N = c.args.net.now.history.now.states in
    let names = c.args.net.now.names in
    let p = c.loop-p.p in
    let n = ap length c.names.ensures.names in
    let each = c.names.ensures.each in
    let few = c.names.ensures.few in
    let l : p < length N = omega (arith, n, each, few, c.loop-p-test.true) in
    let x = some_at N p l in
    subst (λ q. Wrote c.begin_array.new.self c.write_if_offering.new.out (items_tokens (string_items (offering_from q names c.args.id (drop q N)))) (items_tokens (string_items (offering_from 0 names c.args.id N)))) (sym (add-one p))
    (wrote_more _ _ _ _ _ _ _ (offering_next names c.args.id N p x.0 x.1) (c.in_ok-write_if_offering.ensures x.0 x.1) c.loop-p.invariant)
