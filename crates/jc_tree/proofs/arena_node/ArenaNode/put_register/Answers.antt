use Rattle.std.proofs.Common.{◌∙◌, ap}
use Rattle.jc_rules.specs.Order.{key_cmp}
use Rattle.jc_rules.specs.Entries.{put}
use Rattle.jc_tree.specs.Arena.{Flat}
use Rattle.jc_tree.proofs.SortedMapLemmas.{as_err}
use Rattle.jc_tree.proofs.ArenaNodeLemmas.{within_registers, count_stays, fit_stays, seen_registers}
use Rattle.jc_tree.proofs.arena_node.ArenaNode.put_register.Goals as goal

pub invariant_of-self : goal.invariant_of-self
invariant_of-self c = record {
  within = within_registers c.args.key c.self.inside.keys c.put_in.new.keys c.self.inside.maps.items c.self.inside.lists.items c.self.inside.registers.items c.self.inside.presences c.self.inside.links.items c.self.invariant.within c.put_in.ensures.numbers c.put_in.new.column.items c.put_in.ensures.within;
  count = count_stays c.args.key c.self.inside.keys c.put_in.new.keys c.self.inside.maps.items c.self.inside.lists.items c.self.inside.registers.items c.self.inside.presences c.self.inside.links.items c.self.invariant.within c.put_in.ensures.numbers c.self.inside.present c.self.invariant.count;
  fit = fit_stays c.args.key c.self.inside.keys c.put_in.new.keys c.self.inside.presences c.self.inside.links.items c.self.inside.blocks c.self.invariant.within c.put_in.ensures.numbers c.self.invariant.fit;
}

pub returns-in_err-former-clause-err : goal.returns-in_err-former-clause-err
returns-in_err-former-clause-err c = as_err _ (seen_registers c.args.key c.self.inside.keys c.put_in.new.keys c.self.inside.maps.items c.self.inside.lists.items c.self.inside.registers.items c.self.inside.presences c.self.inside.links.items c.self.invariant.within c.put_in.ensures.numbers c.args.self.now c.self.view_is c.put_in.new.column.items _ (c.in_err-former.ensures.err ∙ (ap (λ (d : Flat). d.registers) c.self.view_is)))

pub invariant_of-self-2 : goal.invariant_of-self-2
invariant_of-self-2 c = record {
  within = within_registers c.args.key c.self.inside.keys c.put_in.new.keys c.self.inside.maps.items c.self.inside.lists.items c.self.inside.registers.items c.self.inside.presences c.self.inside.links.items c.self.invariant.within c.put_in.ensures.numbers c.put_in.new.column.items c.put_in.ensures.within;
  count = count_stays c.args.key c.self.inside.keys c.put_in.new.keys c.self.inside.maps.items c.self.inside.lists.items c.self.inside.registers.items c.self.inside.presences c.self.inside.links.items c.self.invariant.within c.put_in.ensures.numbers c.self.inside.present c.self.invariant.count;
  fit = fit_stays c.args.key c.self.inside.keys c.put_in.new.keys c.self.inside.presences c.self.inside.links.items c.self.inside.blocks c.self.invariant.within c.put_in.ensures.numbers c.self.invariant.fit;
}

pub returns-clause-ok : goal.returns-clause-ok
returns-clause-ok c = seen_registers c.args.key c.self.inside.keys c.put_in.new.keys c.self.inside.maps.items c.self.inside.lists.items c.self.inside.registers.items c.self.inside.presences c.self.inside.links.items c.self.invariant.within c.put_in.ensures.numbers c.args.self.now c.self.view_is c.put_in.new.column.items _ (c.in_ok-former.ensures.ok ∙ ap (λ es. put key_cmp c.args.key c.args.pairs es) (ap (λ (d : Flat). d.registers) c.self.view_is))
