use Rattle.std.proofs.Common.{sym, ◌∙◌, ap, arith}
use Rattle.jc_rules.specs.Order.{key_cmp}
use Rattle.jc_rules.specs.Entries.{put}
use Rattle.jc_tree.specs.Arena.{Flat}
use Rattle.jc_tree.proofs.SortedMapLemmas.{as_err}
use Rattle.jc_tree.proofs.CountedLemmas.{counted_put}
use Rattle.jc_tree.proofs.ArenaNodeLemmas.{within_presences, seen_presences, count_within}
use Rattle.jc_tree.specs.Tree.{count_present}
use Rattle.jc_tree.specs.Numbered.{column_entries}
use Rattle.jc_tree.proofs.TablesLemmas.{may_same}
use Rattle.jc_tree.proofs.FitNodesLemmas.{fit_seen, differ_put, bit_put}
use Rattle.jc_tree.proofs.arena_node.ArenaNode.put_presence.Goals as goal

pub returns-in_err-former-clause-err : goal.returns-in_err-former-clause-err
returns-in_err-former-clause-err c = as_err _ (seen_presences c.args.key c.self.inside.keys c.put_set_in.new.keys c.self.inside.maps.items c.self.inside.lists.items c.self.inside.registers.items c.self.inside.presences c.self.inside.links.items c.self.invariant.within c.put_set_in.ensures.numbers c.args.self.now c.self.view_is c.put_set_in.new.sets _ (c.in_err-former.ensures.err ∙ (ap (λ (d : Flat). d.presences) c.self.view_is)))

pub invariant_of-self : goal.invariant_of-self
invariant_of-self c = record {
  within = within_presences c.args.key c.self.inside.keys c.put_set_in.new.keys c.self.inside.maps.items c.self.inside.lists.items c.self.inside.registers.items c.self.inside.presences c.self.inside.links.items c.self.invariant.within c.put_set_in.ensures.numbers c.put_set_in.new.sets c.put_set_in.ensures.within;
  count = c.self.invariant.count ∙ ap count_present (sym c.in_err-former.ensures.err);
  fit = fit_seen c.args.key c.self.inside.keys c.put_set_in.new.keys c.put_set_in.ensures.numbers _ _ _ _ c.self.inside.blocks (may_same c.args.key c.self.inside.links.items c.self.inside.keys c.put_set_in.new.keys c.put_set_in.ensures.numbers c.self.invariant.within.links) c.in_err-former.ensures.err c.self.invariant.fit;
}

pub recounted-self-inside-requires-clause-within : goal.recounted-self-inside-requires-clause-within
recounted-self-inside-requires-clause-within c =
    omega (arith, counted_put c.self.inside.present c.args.key _ c.self.invariant.count c.args.ids _ _ _ _ c.is_empty-is.ensures c.is_inhabited-was.ensures (c.as_ref.ensures.value ∙ c.in_ok-former.ensures.former) c.in_ok-former.ensures.ok, c.count.ensures, count_within c.put_set_in.new.sets c.put_set_in.new.keys)

pub recounted-self-inside-requires-clause-counted : goal.recounted-self-inside-requires-clause-counted
recounted-self-inside-requires-clause-counted c =
    omega (arith, counted_put c.self.inside.present c.args.key _ c.self.invariant.count c.args.ids _ _ _ _ c.is_empty-is.ensures c.is_inhabited-was.ensures (c.as_ref.ensures.value ∙ c.in_ok-former.ensures.former) c.in_ok-former.ensures.ok)

pub invariant_of-self-2 : goal.invariant_of-self-2
invariant_of-self-2 c = record {
  within = within_presences c.args.key c.self.inside.keys c.put_set_in.new.keys c.self.inside.maps.items c.self.inside.lists.items c.self.inside.registers.items c.self.inside.presences c.self.inside.links.items c.self.invariant.within c.put_set_in.ensures.numbers c.put_set_in.new.sets c.put_set_in.ensures.within;
  count = omega (arith, counted_put c.self.inside.present c.args.key _ c.self.invariant.count c.args.ids _ _ _ _ c.is_empty-is.ensures c.is_inhabited-was.ensures (c.as_ref.ensures.value ∙ c.in_ok-former.ensures.former) c.in_ok-former.ensures.ok, c.recounted-self-inside.ensures);
  fit =
      let es = column_entries c.self.inside.presences c.self.inside.keys in
      fit_seen c.args.key c.self.inside.keys c.put_set_in.new.keys c.put_set_in.ensures.numbers _ _ (put key_cmp c.args.key c.args.ids es) _ _ (may_same c.args.key c.self.inside.links.items c.self.inside.keys c.put_set_in.new.keys c.put_set_in.ensures.numbers c.self.invariant.within.links) c.in_ok-former.ensures.ok
      (c.mark.ensures.fit c.self.inside.keys.keys (column_entries c.self.inside.links.items c.self.inside.keys) es (put key_cmp c.args.key c.args.ids es) c.args.key c.number_in-number.ensures.distinct c.number_in-number.ensures.number (differ_put c.args.key c.args.ids es) (bit_put c.args.key c.args.ids c.is_empty-is.result es c.is_empty-is.ensures) c.self.invariant.fit);
}

pub returns-clause-ok : goal.returns-clause-ok
returns-clause-ok c = seen_presences c.args.key c.self.inside.keys c.put_set_in.new.keys c.self.inside.maps.items c.self.inside.lists.items c.self.inside.registers.items c.self.inside.presences c.self.inside.links.items c.self.invariant.within c.put_set_in.ensures.numbers c.args.self.now c.self.view_is c.put_set_in.new.sets _ (c.in_ok-former.ensures.ok ∙ ap (λ es. put key_cmp c.args.key c.args.ids es) (ap (λ (d : Flat). d.presences) c.self.view_is))
