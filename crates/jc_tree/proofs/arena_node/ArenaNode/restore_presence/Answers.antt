use Rattle.std.proofs.Common.{List, refl, sym, ◌∙◌, ap, subst, arith}
use Rattle.jc_tree.specs.Tree.{or_no_entries, has_ids, count_present}
use Rattle.jc_tree.specs.Tables.MayNumber.{same}
use Rattle.jc_tree.proofs.CountedLemmas.{counted_restore, restored_absent}
use Rattle.jc_tree.proofs.ArenaNodeLemmas.{within_presences, count_within}
use Rattle.jc_rules.specs.declared.id.Id.{Id}
use Rattle.jc_rules.specs.declared.key.Key.{Key}
use Rattle.jc_rules.specs.Order.{key_cmp}
use Rattle.jc_tree.specs.Undo.{restored}
use Rattle.jc_tree.specs.Blocks.{AreFit}
use Rattle.jc_tree.specs.Numbered.{column_entries}
use Rattle.jc_tree.proofs.FitNodesLemmas.{differ_restored, bit_restored, gone_removed}
use Rattle.jc_tree.proofs.arena_node.ArenaNode.restore_presence.Goals as goal

pub recounted-self-inside-requires-clause-within : goal.recounted-self-inside-requires-clause-within
recounted-self-inside-requires-clause-within c =
    omega (arith, counted_restore c.self.inside.present c.args.key.now _ c.self.invariant.count c.in-Some.ids _ c.args.former _ _ c.in-Some.ensures.stood (c.is_inhabited-is.ensures ∙ ap (λ o. has_ids (or_no_entries o)) c.as_ref.ensures.value) c.is_empty.ensures c.restore_set_in.ensures.ok, c.count.ensures, count_within c.restore_set_in.new.sets c.self.inside.keys)

pub recounted-self-inside-requires-clause-counted : goal.recounted-self-inside-requires-clause-counted
recounted-self-inside-requires-clause-counted c =
    omega (arith, counted_restore c.self.inside.present c.args.key.now _ c.self.invariant.count c.in-Some.ids _ c.args.former _ _ c.in-Some.ensures.stood (c.is_inhabited-is.ensures ∙ ap (λ o. has_ids (or_no_entries o)) c.as_ref.ensures.value) c.is_empty.ensures c.restore_set_in.ensures.ok)

pub invariant_of-self : goal.invariant_of-self
invariant_of-self c = record {
  within = within_presences c.args.key.now c.self.inside.keys c.self.inside.keys c.self.inside.maps.items c.self.inside.lists.items c.self.inside.registers.items c.self.inside.presences c.self.inside.links.items c.self.invariant.within (same refl) c.restore_set_in.new.sets c.restore_set_in.ensures.within;
  count = omega (arith, counted_restore c.self.inside.present c.args.key.now _ c.self.invariant.count c.in-Some.ids _ c.args.former _ _ c.in-Some.ensures.stood (c.is_inhabited-is.ensures ∙ ap (λ o. has_ids (or_no_entries o)) c.as_ref.ensures.value) c.is_empty.ensures c.restore_set_in.ensures.ok, c.recounted-self-inside.ensures);
  fit =
      let es = column_entries c.self.inside.presences c.self.inside.keys in
      let links = column_entries c.self.inside.links.items c.self.inside.keys in
      subst (λ (q : List (Key × List Id)). AreFit c.self.inside.keys.keys links q c.mark.new.self) (sym c.restore_set_in.ensures.ok)
      (c.mark.ensures.fit c.self.inside.keys.keys links es (restored key_cmp c.args.key.now c.args.former es) c.args.key.now c.number_in-number.ensures.distinct c.number_in-number.ensures.number (differ_restored c.args.key.now c.args.former es) (bit_restored c.args.key.now c.args.former c.in-Some.ids _ es (gone_removed c.args.key.now c.self.inside.presences c.self.inside.keys c.number_in-number.ensures.numbered) (sym c.in-Some.ensures.stood) (c.is_inhabited-is.ensures ∙ ap (λ o. has_ids (or_no_entries o)) c.as_ref.ensures.value)) c.self.invariant.fit);
}

pub invariant_of-self-in_default : goal.invariant_of-self-in_default
invariant_of-self-in_default c =
    let kept = c.restore_set_in.ensures.ok ∙ restored_absent c.args.key.now c.args.former _ (sym c.restore_set_in.ensures.stood ∙ c.in_default.is) in
    record {
      within = within_presences c.args.key.now c.self.inside.keys c.self.inside.keys c.self.inside.maps.items c.self.inside.lists.items c.self.inside.registers.items c.self.inside.presences c.self.inside.links.items c.self.invariant.within (same refl) c.restore_set_in.new.sets c.restore_set_in.ensures.within;
      count = c.self.invariant.count ∙ ap count_present (sym kept);
      fit = subst (λ (q : List (Key × List Id)). AreFit c.self.inside.keys.keys (column_entries c.self.inside.links.items c.self.inside.keys) q c.self.inside.blocks) (sym kept) c.self.invariant.fit;
    }
