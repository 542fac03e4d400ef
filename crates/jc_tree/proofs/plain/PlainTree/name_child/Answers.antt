use Rattle.std.proofs.Common.{◌≡◌, [], ◌∷◌, ◌++◌, refl, sym, ◌∙◌, subst, is_ok}
use Rattle.std.proofs.lemmas.Option.{same_Some}
use Rattle.jc_tree.specs.Undo.{earlier_contents}
use Rattle.jc_tree.specs.Named.{IsNamed}
use Rattle.jc_tree.proofs.NamedLemmas.{named_pushed, all_named_pushed, last_named, path_more}
use Rattle.jc_tree.proofs.plain.PlainTree.name_child.Goals as goal

pub invariant_of-self : goal.invariant_of-self
invariant_of-self c =
    let old = c.args.self.now in
    record {
      root_kept = old.root_kept;
      earlier_kept = old.earlier_kept;
      root_named = rw c.push-2.ensures.items (named_pushed (is_ok c.push-2.result) old.paths.items c.push.new.self old.root old.root_named);
      earlier_named = rw c.push-2.ensures.items (all_named_pushed (is_ok c.push-2.result) old.paths.items c.push.new.self (earlier_contents old.undos.items old.root) old.earlier_named);
    }

pub returns-clause-named : goal.returns-clause-named
returns-clause-named c at e none =
    let paths = c.args.self.now.paths.items in
    let begin : c.in_ok-path.path.items ≡ at = c.in_ok-path.ensures ∙ same_Some _ _ (sym c.path.ensures ∙ e) in
    let whole : c.push.new.self.items ≡ at ++ c.args.key.now ∷ [] = rw (c.in_ok-push.ensures.items, begin, c.in_ok-copy.ensures) refl in
    subst (λ at. IsNamed (paths ++ c.push.new.self ∷ []) at) whole (last_named paths c.push.new.self) (rw c.in_ok-push-2.ensures.items at none)

pub returns-clause-stay : goal.returns-clause-stay
returns-clause-stay c n at is = rw c.in_ok-push-2.ensures.items (path_more c.args.self.now.paths.items c.push.new.self n at is)
