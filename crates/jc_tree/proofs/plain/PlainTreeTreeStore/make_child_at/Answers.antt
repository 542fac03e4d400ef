use Rattle.std.proofs.Common.{[], ◌∷◌, ◌++◌, ◌∙◌}
use Rattle.jc_tree.specs.Change.{changed_at}
use Rattle.jc_tree.specs.Undo.{earlier_contents}
use Rattle.jc_tree.specs.Named.{IsPlaceOf}
use Rattle.jc_tree.specs.declared.node.Change.TheVariants.{Child}
use Rattle.jc_tree.proofs.NamedLemmas.{new_node, new_is, child_named, on_both}
use Rattle.jc_tree.proofs.plain.PlainTreeTreeStore.make_child_at.Goals as goal

pub change-requires : goal.change-requires
change-requires c =
    let old = c.args.self.now in
    let new = c.name_child.new.self in
    let at = c.requires.0 in
    let place = c.requires.1 in
    let key = c.args.key.now in
    let moved : IsPlaceOf new.paths.items new.root c.args.place.number at = record { named = c.name_child.ensures.stay c.args.place.number at place.named; there = rw c.name_child.ensures.root place.there } in
    let named = c.in_ok-name_child.ensures.named at place.named in
    record {
      named = (at, moved, rw (c.in_ok-copy-2.ensures, c.name_child.ensures.root) c.requires.2, rw c.in_ok-copy-2.ensures (child_named new.paths.items at key (new_node key) new.root (new_is key c.in_default.not-RegT) moved.there new.root_named named));
      fit = tt;
    }

pub returns-clause-ok : goal.returns-clause-ok
returns-clause-ok c at place =
    let old = c.args.self.now in
    let new = c.name_child.new.self in
    let moved : IsPlaceOf new.paths.items new.root c.args.place.number at = record { named = c.name_child.ensures.stay c.args.place.number at place.named; there = rw c.name_child.ensures.root place.there } in
    let copy = c.in_ok-copy-2.ensures in
    let root = c.name_child.ensures.root in
    let undos = c.name_child.ensures.undos in
    on_both c.change.result (c.change.ensures.root at moved) c.change.ensures.earlier (λ now earlier. record {
      now = now ∙ (λ i. changed_at at (Child (copy i)) (root i));
      earlier = earlier ∙ (λ i. earlier_contents (undos i) (root i) ++ root i ∷ []);
    })

pub returns-clause-names_stay : goal.returns-clause-names_stay
returns-clause-names_stay c p at place = c.change.ensures.names_stay p at record { named = c.name_child.ensures.stay p.number at place.named; there = rw c.name_child.ensures.root place.there }
