use Rattle.std.proofs.Common.{◌≡◌, ℕ, ◌∷◌, ◌++◌, [], slice_set, sym, ◌∙◌, ap, subst}
use Rattle.jc_rules.specs.Context.{with_content, new_content}
use Rattle.jc_rules.specs.ContextsAt.{context_at}
use Rattle.jc_tree.specs.Arena.{content_of_arena}
use Rattle.jc_tree.specs.ArenaUndo.{IsGood, AreGood, tree_of_arena}
use Rattle.jc_tree.specs.declared.arena.Undo.{Undo}
use Rattle.jc_tree.proofs.ArenaChangesLemmas.{Changes, with_child, child_changes}
use Rattle.jc_tree.proofs.ArenaStepsLemmas.{content_absent}
use Rattle.jc_tree.proofs.ArenaPlacesLemmas.{place_inside, at_number, names_last}
use Rattle.jc_tree.proofs.ArenaHistoryLemmas.{good_pushed, changed_tree}
use Rattle.jc_tree.proofs.UndoLemmas.{pushed}
use Rattle.jc_tree.proofs.ArenaCallsLemmas.{nodes_made, nodes_left, pushed_ok}
use Rattle.jc_tree.proofs.SortedMapLemmas.{as_err}
use Rattle.jc_tree.proofs.arena.ArenaTree.make_node.Goals as goal

pub index_mut-requires : goal.index_mut-requires
index_mut-requires c =
    let self = c.args.self.now in
    let at = c.requires.absent.0 in
    let there = c.requires.absent.1.walk in
    let within = place_inside self.nodes.items at c.args.place.number self.good there in
    rw (c.reserve-2.new.self.ok.0, c.in_ok-reserve-2.ensures.items) within

pub invariant_of-self-in-Break-branch-6 : goal.invariant_of-self-in-Break-branch-6
invariant_of-self-in-Break-branch-6 c =
    let self = c.args.self.now in
    let left = nodes_left self.nodes.items c.reserve-2.new.self.items c.args.place.number c.index_mut.result.now c.name_child.new.self c.in_ok-reserve-2.ensures.items c.index_mut.ensures.value c.in_err-name_child.ensures.err in
    record {
      good = subst (λ l. IsGood l) (sym left) self.good;
      earlier_good = subst (λ l. AreGood c.reserve.new.self.items l) (sym left) (subst (λ us. AreGood us self.nodes.items) (sym c.in_ok-reserve.ensures.items) self.earlier_good);
    }

pub returns-in_err-name_child-clause-err : goal.returns-in_err-name_child-clause-err
returns-in_err-name_child-clause-err c =
    let left = nodes_left c.args.self.now.nodes.items c.reserve-2.new.self.items c.args.place.number c.index_mut.result.now c.name_child.new.self c.in_ok-reserve-2.ensures.items c.index_mut.ensures.value c.in_err-name_child.ensures.err in
    let kept : tree_of_arena (slice_set c.reserve-2.new.self.items c.args.place.number c.name_child.new.self) c.reserve.new.self.items ≡ tree_of_arena c.args.self.now.nodes.items c.args.self.now.undos.items = λ j. tree_of_arena (left j) (c.in_ok-reserve.ensures.items j) in
    as_err _ kept

pub invariant_of-self-2 : goal.invariant_of-self-2
invariant_of-self-2 c =
    let self = c.args.self.now in
    let at = c.requires.absent.0 in
    let there = c.requires.absent.1.walk in
    let ns = self.nodes.items in
    let within = place_inside ns at c.args.place.number self.good there in
    let key = c.args.key.now in
    let made = nodes_made ns c.reserve-2.new.self.items c.push.new.self.items c.args.place.number c.new.result key c.in_ok-copy.copy c.index_mut.result.now c.name_child.new.self c.in_ok-child.child c.in_ok-reserve-2.ensures.items c.index_mut.ensures.value within c.in_ok-copy.ensures (c.new.ensures ∙ c.len-number.ensures ∙ self.nodes.ok.0) c.in_ok-name_child.ensures.ok c.in_ok-child.ensures (pushed_ok c.push.result _ _ c.push.new.self.items _ c.unwrap.ensures c.push.ensures.items) in
    let absent = content_absent ns at c.args.place.number key self.good there within c.requires.context c.requires.absent.2 in
    let change : Changes ns c.push.new.self.items at (with_content key (new_content key) (context_at at (content_of_arena ns))) c.args.place.number c.former_of_node-former.result = rw (made, c.former_of_node-former.ensures, c.in_ok-name.ensures) (child_changes ns at c.args.place.number key self.good there within c.requires.context absent) in
    let undo : ℕ → Undo = λ i. record { node = i; former = c.former_of_node-former.result } in
    let all : c.push-2.new.self.items ≡ self.undos.items ++ undo c.args.place.number ∷ [] = c.push-2.ensures.items ∙ pushed c.push-2.result c.reserve.new.self.items (undo c.new-node.result) _ _ c.push-2.ensures.full c.in_ok-reserve.ensures.ok ∙ ap (λ us. us ++ undo c.new-node.result ∷ []) c.in_ok-reserve.ensures.items ∙ ap (λ i. self.undos.items ++ undo i ∷ []) c.new-node.ensures in
    record {
      good = change.good;
      earlier_good = rw all (good_pushed self.undos.items (undo c.args.place.number) ns c.push.new.self.items self.earlier_good self.good change.back);
    }

pub returns-clause-ok : goal.returns-clause-ok
returns-clause-ok c at named =
    let self = c.args.self.now in
    let ns = self.nodes.items in
    let within = place_inside ns at c.args.place.number self.good named.walk in
    let key = c.args.key.now in
    let made = nodes_made ns c.reserve-2.new.self.items c.push.new.self.items c.args.place.number c.new.result key c.in_ok-copy.copy c.index_mut.result.now c.name_child.new.self c.in_ok-child.child c.in_ok-reserve-2.ensures.items c.index_mut.ensures.value within c.in_ok-copy.ensures (c.new.ensures ∙ c.len-number.ensures ∙ self.nodes.ok.0) c.in_ok-name_child.ensures.ok c.in_ok-child.ensures (pushed_ok c.push.result _ _ c.push.new.self.items _ c.unwrap.ensures c.push.ensures.items) in
    let absent = content_absent ns c.requires.absent.0 c.args.place.number key self.good c.requires.absent.1.walk within c.requires.context c.requires.absent.2 in
    let undo : ℕ → Undo = λ i. record { node = i; former = c.former_of_node-former.result } in
    let change : Changes ns c.push.new.self.items at (with_content key (new_content key) (context_at at (content_of_arena ns))) c.args.place.number c.former_of_node-former.result = rw (made, c.former_of_node-former.ensures, c.in_ok-name.ensures) (child_changes ns at c.args.place.number key self.good named.walk within c.requires.context absent) in
    let all : c.push-2.new.self.items ≡ self.undos.items ++ undo c.args.place.number ∷ [] = pushed_ok c.push-2.result _ c.reserve.new.self.items c.push-2.new.self.items (undo c.new-node.result) c.unwrap-2.ensures c.push-2.ensures.items ∙ ap (λ us. us ++ undo c.new-node.result ∷ []) c.in_ok-reserve.ensures.items ∙ ap (λ i. self.undos.items ++ undo i ∷ []) c.new-node.ensures in
    changed_tree ns c.push.new.self.items self.undos.items c.push-2.new.self.items (undo c.args.place.number) at _ change all

pub returns-clause-names_stay : goal.returns-clause-names_stay
returns-clause-names_stay c p q named =
    let self = c.args.self.now in
    let ns = self.nodes.items in
    let at = c.requires.absent.0 in
    let there = c.requires.absent.1.walk in
    let within = place_inside ns at c.args.place.number self.good there in
    let key = c.args.key.now in
    let made = nodes_made ns c.reserve-2.new.self.items c.push.new.self.items c.args.place.number c.new.result key c.in_ok-copy.copy c.index_mut.result.now c.name_child.new.self c.in_ok-child.child c.in_ok-reserve-2.ensures.items c.index_mut.ensures.value within c.in_ok-copy.ensures (c.new.ensures ∙ c.len-number.ensures ∙ self.nodes.ok.0) c.in_ok-name_child.ensures.ok c.in_ok-child.ensures (pushed_ok c.push.result _ _ c.push.new.self.items _ c.unwrap.ensures c.push.ensures.items) in
    let absent = content_absent ns at c.args.place.number key self.good there within c.requires.context c.requires.absent.2 in
    let change = child_changes ns at c.args.place.number key self.good there within c.requires.context absent in
    rw made (at_number (with_child key c.args.place.number ns) q p.number change.good (names_last ns c.args.place.number key self.good within absent q p.number named.walk))

pub returns-in_err-name_child-clause-names_stay : goal.returns-in_err-name_child-clause-names_stay
returns-in_err-name_child-clause-names_stay c p q named =
    let left = nodes_left c.args.self.now.nodes.items c.reserve-2.new.self.items c.args.place.number c.index_mut.result.now c.name_child.new.self c.in_ok-reserve-2.ensures.items c.index_mut.ensures.value c.in_err-name_child.ensures.err in
    rw left named
