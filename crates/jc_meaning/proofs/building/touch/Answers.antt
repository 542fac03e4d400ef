use Rattle.std.proofs.Common.{not, ◌&&◌, sym, ◌∙◌, ap}
use Rattle.jc_rules.proofs.ContextsAtLemmas.{there}
use Rattle.jc_meaning.specs.Meaning.{is_cleared}
use Rattle.jc_meaning.proofs.EffectsPresenceLemmas.{withheld, touched_there}
use Rattle.jc_meaning.proofs.building.touch.Goals as goal

pub returns-then-is_delete : goal.returns-then-is_delete
returns-then-is_delete g c =
    withheld c.args.ops.now c.args.op.now c.args.at.now c.args.key.now _ (ap (λ b. not b && not (is_cleared c.args.ops.now c.args.at.now c.args.key.now c.args.op.now.id)) (sym c.if-is_delete.ensures))

pub returns-then-is_cleared : goal.returns-then-is_cleared
returns-then-is_cleared g c =
    withheld c.args.ops.now c.args.op.now c.args.at.now c.args.key.now _ (ap (λ b. not b && not (is_cleared c.args.ops.now c.args.at.now c.args.key.now c.args.op.now.id)) (sym c.if-is_delete.ensures) ∙ ap not (sym c.if-is_cleared.ensures))

pub returns : goal.returns
returns g c =
    touched_there c.args.ops.now c.args.op.now c.args.at.now c.args.key.now _ _ _ (sym c.if-is_delete.ensures) (sym c.if-is_cleared.ensures) (there c.args.at.now _ c.requires) c.in_ok-_was.ensures.ok.now
