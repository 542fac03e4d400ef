use Rattle.std.proofs.Common.{sym, ◌∙◌, ap, subst}
use Rattle.jc_rules.specs.Context.{next}
use Rattle.jc_meaning.specs.Seen.{seen}
use Rattle.jc_effects.proofs.PartsInsertLemmas.{WalkedTo, walk_begins, walk_goes, walk_ends, walk_nearer}
use Rattle.jc_effects.proofs.along.key_before.Goals as goal

pub loop-id-init : goal.loop-id-init
loop-id-init g c =
    let o = c.args.change.now.op.now in
    let old = (g.S.TreeStore.tree c.args.change.now.old.now).now in
    let new = (g.S.TreeStore.tree c.args.change.now.new.now).now in
    subst (WalkedTo o (seen o.cursor.path old)) (sym c.in_ok-key.ensures) (walk_begins o old new c.requires.changed c.requires.inserts)

pub loop-id-smaller : goal.loop-id-smaller
loop-id-smaller g c =
    let o = c.args.change.now.op.now in
    let old = (g.S.TreeStore.tree c.args.change.now.old.now).now in
    let greater = c.greater_element.ensures.some c.in-Some.id c.in-Some.is in
    walk_nearer o (seen o.cursor.path old) c.loop-id.key c.in-Some.id c.loop-id.invariant (ap (λ p. next c.loop-id.key (seen p old)) (sym c.as_slice-path.ensures.keys) ∙ sym c.link_in.ensures ∙ greater.0)

pub loop-id-preserved : goal.loop-id-preserved
loop-id-preserved g c =
    let o = c.args.change.now.op.now in
    let old = (g.S.TreeStore.tree c.args.change.now.old.now).now in
    let greater = c.greater_element.ensures.some c.in-Some.id c.in-Some.is in
    walk_goes o (seen o.cursor.path old) c.loop-id.key c.in-Some.id c.loop-id.invariant (ap (λ p. next c.loop-id.key (seen p old)) (sym c.as_slice-path.ensures.keys) ∙ sym c.link_in.ensures ∙ greater.0) greater.1

pub returns : goal.returns
returns g c =
    let o = c.args.change.now.op.now in
    let old = (g.S.TreeStore.tree c.args.change.now.old.now).now in
    walk_ends o (seen o.cursor.path old) c.loop-id.key c.loop-id.invariant
    (λ i e. c.greater_element.ensures.none c.in_default.is i (c.link_in.ensures ∙ ap (λ p. next c.loop-id.key (seen p old)) c.as_slice-path.ensures.keys ∙ e))
