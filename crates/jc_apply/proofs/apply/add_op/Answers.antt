use Rattle.jc_tree.proofs.TreeLemmas.{later_changed}
use Rattle.jc_apply.proofs.LinksLemmas.{none_presence}
use Rattle.jc_apply.proofs.ApplyRulesLemmas.{adds, adds_none}
use Rattle.jc_apply.proofs.apply.add_op.Goals as goal

pub returns-in-Delete-clause-ok : goal.returns-in-Delete-clause-ok
returns-in-Delete-clause-ok g c at named =
    adds_none at c.args.key.now c.args.op.now.id c.args.op.now.mutation _ (g.met.S.TreeStore.there _ _ _ named) c.in-Delete.is

pub returns-in_ok-was-in_default-clause-ok : goal.returns-in_ok-was-in_default-clause-ok
returns-in_ok-was-in_default-clause-ok g c at named =
    adds at c.args.key.now c.key.result.now c.args.op.now.id c.args.op.now.mutation _ _ _ c.key.ensures c.in_default.not-Delete (c.in_ok-was-in_default.ensures.was at named) (c.in_ok-was-in_default.ensures.ok at named)

pub returns-in_ok-was-in_default-clause-links : goal.returns-in_ok-was-in_default-clause-links
returns-in_ok-was-in_default-clause-links g c at named =
    none_presence at c.key.result.now _ _ _ (g.met.S.TreeStore.there _ _ _ named) (c.in_ok-was-in_default.ensures.ok at named)

pub returns-in_ok-was-in_default-clause-kept : goal.returns-in_ok-was-in_default-clause-kept
returns-in_ok-was-in_default-clause-kept g c = later_changed _ _ _ _ (c.in_ok-was-in_default.ensures.ok c.requires.0 c.requires.1)
