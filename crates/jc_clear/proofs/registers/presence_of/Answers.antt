use Rattle.std.proofs.Common.{rules, ◌≡◌, sym}
use Rattle.jc_tree.proofs.WellFormedLemmas.{presence_rises}
use Rattle.jc_clear.proofs.ClearRulesLemmas.{presence_there, presence_absent}
use Rattle.jc_clear.proofs.registers.presence_of.Goals as goal

pub returns-in_ok-push-in-Some-clause-ok : goal.returns-in_ok-push-in-Some-clause-ok
returns-in_ok-push-in-Some-clause-ok g c at n =
    let e : c.in_ok-ids-in-Some.ids.items ≡ c.in-Some.ids.now = search rules in
    presence_there _ _ c.in-Some.ids.now _ _ _ (sym (c.in-Some.ensures at n)) e c.in_ok-push-in-Some.ensures.ok

pub returns-in_ok-push-in-Some-clause-rises : goal.returns-in_ok-push-in-Some-clause-rises
returns-in_ok-push-in-Some-clause-rises g c =
    let e : c.in_ok-ids-in-Some.ids.items ≡ c.in-Some.ids.now = search rules in
    presence_rises c.requires.0 c.args.key.key.now c.in-Some.ids.now _ (g.S.TreeStore.tree c.args.store.now).now (g.met.S.TreeStore.kept c.args.store.now) (g.met.S.TreeStore.there _ _ _ c.requires.1) (sym (c.in-Some.ensures c.requires.0 c.requires.1)) e

pub returns-in_ok-push-in-None-clause-ok : goal.returns-in_ok-push-in-None-clause-ok
returns-in_ok-push-in-None-clause-ok g c at n =
    presence_absent _ _ _ _ _ (sym (c.in-None.ensures at n)) c.new.ensures.items c.in_ok-push-in-None.ensures.ok
