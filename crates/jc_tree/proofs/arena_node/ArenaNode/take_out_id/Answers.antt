use Rattle.std.proofs.Common.{List, refl, sym, ◌∙◌, subst, arith}
use Rattle.jc_tree.specs.Tables.MayNumber.{same}
use Rattle.jc_tree.proofs.CountedLemmas.{counted_out}
use Rattle.jc_tree.proofs.ArenaNodeLemmas.{within_presences, count_within}
use Rattle.jc_rules.specs.declared.id.Id.{Id}
use Rattle.jc_rules.specs.declared.key.Key.{Key}
use Rattle.jc_rules.specs.Order.{key_cmp}
use Rattle.jc_rules.specs.Entries.{find}
use Rattle.jc_tree.specs.Undo.{out_of_set}
use Rattle.jc_tree.specs.Blocks.{AreFit}
use Rattle.jc_tree.specs.Numbered.{column_entries}
use Rattle.jc_tree.proofs.FitNodesLemmas.{differ_out, bit_out, bits_out, fit_as_present}
use Rattle.jc_tree.proofs.arena_node.ArenaNode.take_out_id.Goals as goal

pub recounted-self-inside-requires-clause-within : goal.recounted-self-inside-requires-clause-within
recounted-self-inside-requires-clause-within c =
    omega (arith, counted_out c.self.inside.present c.args.key _ c.self.invariant.count c.args.id _ _ c.take_out_in-last.ensures.last c.take_out_in-last.ensures.ok, c.count.ensures, count_within c.take_out_in-last.new.sets c.self.inside.keys)

pub recounted-self-inside-requires-clause-counted : goal.recounted-self-inside-requires-clause-counted
recounted-self-inside-requires-clause-counted c =
    omega (arith, counted_out c.self.inside.present c.args.key _ c.self.invariant.count c.args.id _ _ c.take_out_in-last.ensures.last c.take_out_in-last.ensures.ok)

pub invariant_of-self : goal.invariant_of-self
invariant_of-self c = record {
  within = within_presences c.args.key c.self.inside.keys c.self.inside.keys c.self.inside.maps.items c.self.inside.lists.items c.self.inside.registers.items c.self.inside.presences c.self.inside.links.items c.self.invariant.within (same refl) c.take_out_in-last.new.sets c.take_out_in-last.ensures.within;
  count = omega (arith, counted_out c.self.inside.present c.args.key _ c.self.invariant.count c.args.id _ _ c.take_out_in-last.ensures.last c.take_out_in-last.ensures.ok, c.recounted-self-inside.ensures);
  fit =
      let es = column_entries c.self.inside.presences c.self.inside.keys in
      let links = column_entries c.self.inside.links.items c.self.inside.keys in
      subst (λ (q : List (Key × List Id)). AreFit c.self.inside.keys.keys links q c.mark.new.self) (sym c.take_out_in-last.ensures.ok)
      (c.mark.ensures.fit c.self.inside.keys.keys links es (out_of_set c.args.key c.args.id (find key_cmp c.args.key es) es) c.args.key c.number_in-number.ensures.distinct c.number_in-number.ensures.number (differ_out c.args.key c.args.id es) (bit_out c.args.key c.args.id es (sym c.take_out_in-last.ensures.last ∙ c.if-last.true)) c.self.invariant.fit);
}

pub invariant_of-self-else-last : goal.invariant_of-self-else-last
invariant_of-self-else-last c = record {
  within = within_presences c.args.key c.self.inside.keys c.self.inside.keys c.self.inside.maps.items c.self.inside.lists.items c.self.inside.registers.items c.self.inside.presences c.self.inside.links.items c.self.invariant.within (same refl) c.take_out_in-last.new.sets c.take_out_in-last.ensures.within;
  count = omega (arith, counted_out c.self.inside.present c.args.key _ c.self.invariant.count c.args.id _ _ c.take_out_in-last.ensures.last c.take_out_in-last.ensures.ok, c.recounted-self-inside.ensures);
  fit =
      let es = column_entries c.self.inside.presences c.self.inside.keys in
      let links = column_entries c.self.inside.links.items c.self.inside.keys in
      subst (λ (q : List (Key × List Id)). AreFit c.self.inside.keys.keys links q c.self.inside.blocks) (sym c.take_out_in-last.ensures.ok)
      (fit_as_present c.self.inside.keys.keys links es (out_of_set c.args.key c.args.id (find key_cmp c.args.key es) es) c.self.inside.blocks (bits_out c.args.key c.args.id es (sym c.take_out_in-last.ensures.last ∙ c.if-last.false)) c.self.invariant.fit);
}
