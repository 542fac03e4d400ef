use Rattle.std.proofs.Common.{◌≡◌, ◌∷◌, ◌++◌, [], ◌∙◌, ap}
use Rattle.jc_rules.specs.ContextsAt.{context_at}
use Rattle.jc_tree.specs.Change.{changed_by}
use Rattle.jc_tree.specs.Arena.{content_of_arena, flat_at, former_of_flat}
use Rattle.jc_tree.specs.declared.arena.Undo.{Undo}
use Rattle.jc_tree.proofs.ArenaChangesLemmas.{Changes, with_change, inside_changes}
use Rattle.jc_tree.proofs.ArenaHistoryLemmas.{good_pushed, changed_tree}
use Rattle.jc_tree.proofs.ArenaCallsLemmas.{nodes_changed, former_there, pushed_ok}
use Rattle.jc_tree.proofs.ArenaPlacesLemmas.{numbers_stay, nodes_stay}
use Rattle.jc_tree.proofs.UndoLemmas.{pushed}
use Rattle.jc_tree.proofs.arena.ArenaTree.change_node.Goals as goal

pub invariant_of-self-2 : goal.invariant_of-self-2
invariant_of-self-2 c =
    let self = c.args.self.now in
    let ns = self.nodes.items in
    let i = c.args.node in
    let made = nodes_changed ns i c.args.change c.index_mut.result.now c.change.new.self (rw c.number-number.ensures at c.index_mut.ensures.value) c.requires.within c.in_ok-former.ensures.ok in
    let former : c.new-former.result ≡ former_of_flat c.args.change (flat_at ns i) = c.new-former.ensures ∙ former_there ns i c.args.change c.index_mut.result.now _ (rw c.number-number.ensures at c.index_mut.ensures.value) c.requires.within c.in_ok-former.ensures.former in
    let change = inside_changes ns c.requires.there.0 i c.args.change self.good c.requires.there.1 c.requires.within c.requires.inside c.requires.fit in
    let undo : Undo = record { node = i; former = c.new-former.result } in
    let all : c.push.new.self.items ≡ self.undos.items ++ undo ∷ [] = c.push.ensures.items ∙ pushed c.push.result c.reserve.new.self.items undo _ _ c.push.ensures.full c.in_ok-reserve.ensures.ok ∙ ap (λ us. us ++ undo ∷ []) c.in_ok-reserve.ensures.items in
    record {
      good = rw (c.number-number.ensures, made) change.good;
      earlier_good = rw (all, c.number-number.ensures, made) (good_pushed self.undos.items undo ns (with_change c.args.change i ns) self.earlier_good self.good (rw former change.back));
    }

pub returns-clause-ok : goal.returns-clause-ok
returns-clause-ok c at path =
    let self = c.args.self.now in
    let ns = self.nodes.items in
    let i = c.args.node in
    let made = nodes_changed ns i c.args.change c.index_mut.result.now c.change.new.self (rw c.number-number.ensures at c.index_mut.ensures.value) c.requires.within c.in_ok-former.ensures.ok in
    let former : c.new-former.result ≡ former_of_flat c.args.change (flat_at ns i) = c.new-former.ensures ∙ former_there ns i c.args.change c.index_mut.result.now _ (rw c.number-number.ensures at c.index_mut.ensures.value) c.requires.within c.in_ok-former.ensures.former in
    let change = inside_changes ns at i c.args.change self.good path c.requires.within c.requires.inside c.requires.fit in
    let undo : Undo = record { node = i; former = c.new-former.result } in
    let here : Changes ns (with_change c.args.change i ns) at (changed_by c.args.change (context_at at (content_of_arena ns))) i c.new-former.result = rw former change in
    let all : c.push.new.self.items ≡ self.undos.items ++ undo ∷ [] = pushed_ok c.push.result _ c.reserve.new.self.items c.push.new.self.items undo c.unwrap.ensures c.push.ensures.items ∙ ap (λ us. us ++ undo ∷ []) c.in_ok-reserve.ensures.items in
    rw (c.number-number.ensures, made) (changed_tree ns (with_change c.args.change i ns) self.undos.items c.push.new.self.items undo at _ here all)

pub returns-clause-names_stay : goal.returns-clause-names_stay
returns-clause-names_stay c p at named =
    let self = c.args.self.now in
    let ns = self.nodes.items in
    let i = c.args.node in
    let made = nodes_changed ns i c.args.change c.index_mut.result.now c.change.new.self (rw c.number-number.ensures at c.index_mut.ensures.value) c.requires.within c.in_ok-former.ensures.ok in
    let change = inside_changes ns c.requires.there.0 i c.args.change self.good c.requires.there.1 c.requires.within c.requires.inside c.requires.fit in
    rw (c.number-number.ensures, made) (nodes_stay ns (with_change c.args.change i ns) change.good (numbers_stay ns i c.args.change self.good c.requires.within) at p.number named)
