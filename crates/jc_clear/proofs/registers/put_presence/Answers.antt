use Rattle.std.proofs.Common.{sym, ◌∙◌}
use Rattle.jc_clear.proofs.ClearRulesLemmas.{presence_stays, later_or_same}
use Rattle.jc_clear.proofs.registers.put_presence.Goals as goal

pub returns-then-is_set-clause-ok : goal.returns-then-is_set-clause-ok
returns-then-is_set-clause-ok g c at n =
    presence_stays at c.args.key.key.now c.args.ids.now (g.S.TreeStore.tree c.args.store.now) (g.met.S.TreeStore.there _ _ _ n) (sym (c.presence_by.ensures at n) ∙ c.is_set.ensures.0 c.if-is_set.true)

pub returns-clause-kept : goal.returns-clause-kept
returns-clause-kept g c =
    later_or_same c.set_presence_at.result _ _ _ _ (c.set_presence_at.ensures.ok c.requires.named.0 c.requires.named.1) c.set_presence_at.ensures.err
