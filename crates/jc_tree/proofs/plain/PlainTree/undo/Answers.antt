use Rattle.std.proofs.Common.{◌≡◌, ◌∷◌, ◌++◌, [], refl, sym, ap, subst, ◌∙◌}
use Rattle.std.specs.List.{AllByRecursion}
use Rattle.jc_rules.specs.WellFormed.{IsWellFormedContext}
use Rattle.jc_tree.specs.Undo.{tree_undone, earlier_contents}
use Rattle.jc_tree.specs.Named.{AreNamed}
use Rattle.jc_tree.proofs.UndoLemmas.{contents_latest, kept_undone}
use Rattle.jc_tree.proofs.plain.PlainTree.undo.Goals as goal

pub invariant_of-self : goal.invariant_of-self
invariant_of-self c =
    let old = c.args.self.now in
    let undo = c.in-Some.field-0 in
    let back : c.restore_at.new.self ≡ tree_undone (undo ∷ []) old.root = c.restore_at.ensures ∙ rw (c.as_slice.ensures.value, c.in-Some.at-is, c.in-Some.former-is) refl in
    let parts = kept_undone IsWellFormedContext c.pop.new.self.items undo old.root (subst (λ us. AllByRecursion IsWellFormedContext (earlier_contents us old.root)) c.in-Some.ensures.items old.earlier_kept) in
    let names = kept_undone (AreNamed old.paths.items) c.pop.new.self.items undo old.root (subst (λ us. AllByRecursion (AreNamed old.paths.items) (earlier_contents us old.root)) c.in-Some.ensures.items old.earlier_named) in
    record {
      root_kept = rw back parts.1;
      earlier_kept = rw back parts.0;
      root_named = rw back names.1;
      earlier_named = rw back names.0;
    }

pub returns-in-Some-clause-history : goal.returns-in-Some-clause-history
returns-in-Some-clause-history c =
    let old = c.args.self.now in
    let undo = c.in-Some.field-0 in
    let back : c.restore_at.new.self ≡ tree_undone (undo ∷ []) old.root = c.restore_at.ensures ∙ rw (c.as_slice.ensures.value, c.in-Some.at-is, c.in-Some.former-is) refl in
    ap (λ r. earlier_contents c.pop.new.self.items r ++ r ∷ []) back ∙ sym (contents_latest c.pop.new.self.items undo old.root) ∙ ap (λ us. earlier_contents us old.root) (sym c.in-Some.ensures.items)
