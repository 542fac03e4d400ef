use Rattle.std.proofs.Common.{ℕ, ◌∙◌, ap}
use Rattle.jc_rules.specs.Trace.{at_depth}
use Rattle.jc_apply.proofs.ApplyRulesLemmas.{deleted}
use Rattle.jc_apply.proofs.LinksLemmas.{none_cleared}
use Rattle.jc_apply.proofs.apply.delete.Goals as goal

pub returns-clause-ok : goal.returns-clause-ok
returns-clause-ok g c at named =
    deleted at c.args.op.now _ _ _ _ _ _ _ c.requires.deletes c.in_ok-open.ensures.ok (c.in_ok-clear_elem_at.ensures.ok at named) (c.close.ensures ∙ ap (λ (n : ℕ). at_depth n c.clear_elem_at.new.trace) c.depth-depth.ensures)

pub returns-clause-links : goal.returns-clause-links
returns-clause-links g c at named =
    none_cleared _ _ _ _ _ _ _ (g.met.S.TreeStore.there _ _ _ named) (c.in_ok-clear_elem_at.ensures.ok at named)
