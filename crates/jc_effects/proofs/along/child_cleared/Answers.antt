use Rattle.std.proofs.Common.{sym, ◌∙◌}
use Rattle.jc_effects.proofs.PartsTargetLemmas.{none_inside, loses_inside}
use Rattle.jc_effects.proofs.along.child_cleared.Goals as goal

pub returns-then-is_clearing : goal.returns-then-is_clearing
returns-then-is_clearing g c =
    let o = c.args.change.now.op.now in
    let old = (g.S.TreeStore.tree c.args.change.now.old.now).now in
    let new = (g.S.TreeStore.tree c.args.change.now.new.now).now in
    c.child_below.ensures o.cursor.path c.requires.contexts (loses_inside o old new c.requires.changed c.args.tagged.now (sym c.is_clearing.ensures ∙ c.if-is_clearing.true))

pub returns-else-is_clearing : goal.returns-else-is_clearing
returns-else-is_clearing g c =
    let old = (g.S.TreeStore.tree c.args.change.now.old.now).now in
    let new = (g.S.TreeStore.tree c.args.change.now.new.now).now in
    none_inside c.args.change.now.op.now old new c.requires.changed c.args.tagged.now (sym c.is_clearing.ensures ∙ c.if-is_clearing.false)
