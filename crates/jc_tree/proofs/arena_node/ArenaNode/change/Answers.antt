use Rattle.std.proofs.Common.{List, sym, ◌∙◌, ap}
use Rattle.jc_rules.specs.declared.key.Key.{Key}
use Rattle.jc_rules.specs.Context.{Register}
use Rattle.jc_rules.specs.Order.{key_cmp, id_cmp}
use Rattle.jc_rules.specs.Entries.{find, put}
use Rattle.jc_tree.specs.Arena.{Flat, changed_flat}
use Rattle.jc_tree.specs.Tree.{or_no_entries}
use Rattle.jc_tree.proofs.SortedMapLemmas.{on_err}
use Rattle.jc_tree.proofs.ArenaNodeLemmas.{within_registers, count_stays, fit_stays, seen_registers}
use Rattle.jc_tree.proofs.arena_node.ArenaNode.change.Goals as goal
use Rattle.jc_tree.proofs.NodeLemmas.{on_ok}

pub invariant_of-self : goal.invariant_of-self
invariant_of-self c = record {
  within = within_registers c.in-PutValue.key c.self.inside.keys c.put_value_in.new.keys c.self.inside.maps.items c.self.inside.lists.items c.self.inside.registers.items c.self.inside.presences c.self.inside.links.items c.self.invariant.within c.put_value_in.ensures.numbers c.put_value_in.new.registers.items c.put_value_in.ensures.within;
  count = count_stays c.in-PutValue.key c.self.inside.keys c.put_value_in.new.keys c.self.inside.maps.items c.self.inside.lists.items c.self.inside.registers.items c.self.inside.presences c.self.inside.links.items c.self.invariant.within c.put_value_in.ensures.numbers c.self.inside.present c.self.invariant.count;
  fit = fit_stays c.in-PutValue.key c.self.inside.keys c.put_value_in.new.keys c.self.inside.presences c.self.inside.links.items c.self.inside.blocks c.self.invariant.within c.put_value_in.ensures.numbers c.self.invariant.fit;
}

pub returns-in-PutValue-clause-ok : goal.returns-in-PutValue-clause-ok
returns-in-PutValue-clause-ok c =
    on_ok c.put_value_in.result (λ e. seen_registers c.in-PutValue.key c.self.inside.keys c.put_value_in.new.keys c.self.inside.maps.items c.self.inside.lists.items c.self.inside.registers.items c.self.inside.presences c.self.inside.links.items c.self.invariant.within c.put_value_in.ensures.numbers c.args.self.now c.self.view_is c.put_value_in.new.registers.items _ (e ∙ ap (λ (es : List (Key × Register)). put key_cmp c.in-PutValue.key (put id_cmp c.in-PutValue.id c.in-PutValue.value (or_no_entries (find key_cmp c.in-PutValue.key es))) es) (ap (λ (d : Flat). d.registers) c.self.view_is)) ∙ ap (λ h. changed_flat h c.args.self.now) (sym c.in-PutValue.is)) c.put_value_in.ensures.ok

pub returns-in-PutValue-clause-err : goal.returns-in-PutValue-clause-err
returns-in-PutValue-clause-err c =
    on_err c.put_value_in.result (λ e. seen_registers c.in-PutValue.key c.self.inside.keys c.put_value_in.new.keys c.self.inside.maps.items c.self.inside.lists.items c.self.inside.registers.items c.self.inside.presences c.self.inside.links.items c.self.invariant.within c.put_value_in.ensures.numbers c.args.self.now c.self.view_is c.put_value_in.new.registers.items _ (e ∙ (ap (λ (d : Flat). d.registers) c.self.view_is))) c.put_value_in.ensures.err
