use Rattle.std.proofs.Common.{◌≡◌, ◌∷◌, ◌++◌, [], sym, ◌∙◌}
use Rattle.std.proofs.lemmas.Option.{same_Some}
use Rattle.jc_rules.specs.WellFormed.{IsWellFormedContext}
use Rattle.jc_tree.specs.declared.plain.Undo.{Undo}
use Rattle.jc_tree.specs.Undo.{earlier_contents}
use Rattle.jc_tree.specs.Named.{AreNamed}
use Rattle.jc_tree.proofs.WellFormedLemmas.{kept-changed_at, kept-pushed}
use Rattle.jc_tree.proofs.UndoLemmas.{contents_changed}
use Rattle.jc_tree.proofs.NamedLemmas.{change_keeps}
use Rattle.jc_tree.proofs.plain.PlainTree.change.Goals as goal

pub returns-clause-earlier : goal.returns-clause-earlier
returns-clause-earlier c =
    let old = c.args.self.now in
    let at = c.requires.named.0 in
    let place = c.requires.named.1 in
    let undo : Undo = record { at = c.in_ok-at.at; former = c.in_ok-former.former } in
    let path : c.in_ok-at.at.items ≡ at = c.in_ok-at.ensures ∙ same_Some _ _ (sym c.path.ensures ∙ place.named) in
    let whole : c.as_slice.result.now ≡ at = c.as_slice.ensures.value ∙ path in
    contents_changed c.push.result old.undos.items c.reserve.new.self.items _ undo c.args.change at old.root c.change_at.new.self _ _ c.push.ensures.full c.in_ok-reserve.ensures.ok c.in_ok-reserve.ensures.items c.push.ensures.items place.there old.root_kept c.requires.named.2 (rw whole at c.in_ok-former.ensures.ok) path (rw whole at c.in_ok-former.ensures.former)

pub invariant_of-self-2 : goal.invariant_of-self-2
invariant_of-self-2 c =
    let old = c.args.self.now in
    let at = c.requires.named.0 in
    let place = c.requires.named.1 in
    let undo : Undo = record { at = c.in_ok-at.at; former = c.in_ok-former.former } in
    let path : c.in_ok-at.at.items ≡ at = c.in_ok-at.ensures ∙ same_Some _ _ (sym c.path.ensures ∙ place.named) in
    let whole : c.as_slice.result.now ≡ at = c.as_slice.ensures.value ∙ path in
    let earlier : earlier_contents c.push.new.self.items c.change_at.new.self ≡ earlier_contents old.undos.items old.root ++ old.root ∷ [] = contents_changed c.push.result old.undos.items c.reserve.new.self.items _ undo c.args.change at old.root c.change_at.new.self _ _ c.push.ensures.full c.in_ok-reserve.ensures.ok c.in_ok-reserve.ensures.items c.push.ensures.items place.there old.root_kept c.requires.named.2 (rw whole at c.in_ok-former.ensures.ok) path (rw whole at c.in_ok-former.ensures.former) in
    record {
      root_kept = rw (rw whole at c.in_ok-former.ensures.ok) (kept-changed_at at c.args.change old.root old.root_kept place.there c.requires.fit);
      earlier_kept = rw earlier (kept-pushed IsWellFormedContext (earlier_contents old.undos.items old.root) old.root old.earlier_kept old.root_kept);
      root_named = rw (rw whole at c.in_ok-former.ensures.ok) c.requires.named.3;
      earlier_named = rw earlier (kept-pushed (AreNamed old.paths.items) (earlier_contents old.undos.items old.root) old.root old.earlier_named old.root_named);
    }

pub returns-clause-names_stay : goal.returns-clause-names_stay
returns-clause-names_stay c p q named =
    let old = c.args.self.now in
    let at = c.requires.named.0 in
    let place = c.requires.named.1 in
    let whole : c.as_slice.result.now ≡ at = c.as_slice.ensures.value ∙ c.in_ok-at.ensures ∙ same_Some _ _ (sym c.path.ensures ∙ place.named) in
    record {
      named = named.named;
      there = rw (rw whole at c.in_ok-former.ensures.ok) (change_keeps at q c.args.change old.root place.there c.requires.named.2 named.there);
    }
