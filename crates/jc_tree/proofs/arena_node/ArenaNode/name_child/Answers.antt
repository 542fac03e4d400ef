use Rattle.std.proofs.Common.{sym, ◌∙◌, ap}
use Rattle.jc_rules.specs.Order.{key_cmp}
use Rattle.jc_rules.specs.Entries.{put}
use Rattle.jc_tree.specs.Arena.{Flat, with_child_number}
use Rattle.jc_tree.proofs.SortedMapLemmas.{as_err}
use Rattle.jc_tree.proofs.ArenaNodeLemmas.{within_maps, within_lists, count_stays, fit_stays, seen_maps, seen_lists}
use Rattle.jc_tree.proofs.arena_node.ArenaNode.name_child.Goals as goal
use Rattle.jc_tree.proofs.arena_node.ArenaNode.name_child.Goals.{in-Name-3, in-Doc-3, in-Name-4, in-Doc-4}

pub invariant_of-self : goal.invariant_of-self
invariant_of-self c = record {
  within = within_maps c.in-MapT.key c.self.inside.keys c.put_in.new.keys c.self.inside.maps.items c.self.inside.lists.items c.self.inside.registers.items c.self.inside.presences c.self.inside.links.items c.self.invariant.within c.put_in.ensures.numbers c.put_in.new.column.items c.put_in.ensures.within;
  count = count_stays c.in-MapT.key c.self.inside.keys c.put_in.new.keys c.self.inside.maps.items c.self.inside.lists.items c.self.inside.registers.items c.self.inside.presences c.self.inside.links.items c.self.invariant.within c.put_in.ensures.numbers c.self.inside.present c.self.invariant.count;
  fit = fit_stays c.in-MapT.key c.self.inside.keys c.put_in.new.keys c.self.inside.presences c.self.inside.links.items c.self.inside.blocks c.self.invariant.within c.put_in.ensures.numbers c.self.invariant.fit;
}

pub returns-in_err-put_in-in-MapT-clause-err : goal.returns-in_err-put_in-in-MapT-clause-err
returns-in_err-put_in-in-MapT-clause-err c = as_err _ (seen_maps c.in-MapT.key c.self.inside.keys c.put_in.new.keys c.self.inside.maps.items c.self.inside.lists.items c.self.inside.registers.items c.self.inside.presences c.self.inside.links.items c.self.invariant.within c.put_in.ensures.numbers c.args.self.now c.self.view_is c.put_in.new.column.items _ (c.in_err-put_in-in-MapT.ensures.err ∙ (ap (λ (d : Flat). d.maps) c.self.view_is)))

pub invariant_of-self-in_ok-put_in-in-MapT : goal.invariant_of-self-in_ok-put_in-in-MapT
invariant_of-self-in_ok-put_in-in-MapT c = record {
  within = within_maps c.in-MapT.key c.self.inside.keys c.put_in.new.keys c.self.inside.maps.items c.self.inside.lists.items c.self.inside.registers.items c.self.inside.presences c.self.inside.links.items c.self.invariant.within c.put_in.ensures.numbers c.put_in.new.column.items c.put_in.ensures.within;
  count = count_stays c.in-MapT.key c.self.inside.keys c.put_in.new.keys c.self.inside.maps.items c.self.inside.lists.items c.self.inside.registers.items c.self.inside.presences c.self.inside.links.items c.self.invariant.within c.put_in.ensures.numbers c.self.inside.present c.self.invariant.count;
  fit = fit_stays c.in-MapT.key c.self.inside.keys c.put_in.new.keys c.self.inside.presences c.self.inside.links.items c.self.inside.blocks c.self.invariant.within c.put_in.ensures.numbers c.self.invariant.fit;
}

pub invariant_of-self-in_ok-put_in-in-MapT-2 : goal.invariant_of-self-in_ok-put_in-in-MapT-2
invariant_of-self-in_ok-put_in-in-MapT-2 c = record {
  within = within_maps c.in-MapT.key c.self.inside.keys c.put_in.new.keys c.self.inside.maps.items c.self.inside.lists.items c.self.inside.registers.items c.self.inside.presences c.self.inside.links.items c.self.invariant.within c.put_in.ensures.numbers c.put_in.new.column.items c.put_in.ensures.within;
  count = count_stays c.in-MapT.key c.self.inside.keys c.put_in.new.keys c.self.inside.maps.items c.self.inside.lists.items c.self.inside.registers.items c.self.inside.presences c.self.inside.links.items c.self.invariant.within c.put_in.ensures.numbers c.self.inside.present c.self.invariant.count;
  fit = fit_stays c.in-MapT.key c.self.inside.keys c.put_in.new.keys c.self.inside.presences c.self.inside.links.items c.self.inside.blocks c.self.invariant.within c.put_in.ensures.numbers c.self.invariant.fit;
}

pub invariant_of-self-in_err-put_in-in-ListT : goal.invariant_of-self-in_err-put_in-in-ListT
invariant_of-self-in_err-put_in-in-ListT c = record {
  within = within_lists c.in-ListT.key c.self.inside.keys c.put_in-in-ListT.new.keys c.self.inside.maps.items c.self.inside.lists.items c.self.inside.registers.items c.self.inside.presences c.self.inside.links.items c.self.invariant.within c.put_in-in-ListT.ensures.numbers c.put_in-in-ListT.new.column.items c.put_in-in-ListT.ensures.within;
  count = count_stays c.in-ListT.key c.self.inside.keys c.put_in-in-ListT.new.keys c.self.inside.maps.items c.self.inside.lists.items c.self.inside.registers.items c.self.inside.presences c.self.inside.links.items c.self.invariant.within c.put_in-in-ListT.ensures.numbers c.self.inside.present c.self.invariant.count;
  fit = fit_stays c.in-ListT.key c.self.inside.keys c.put_in-in-ListT.new.keys c.self.inside.presences c.self.inside.links.items c.self.inside.blocks c.self.invariant.within c.put_in-in-ListT.ensures.numbers c.self.invariant.fit;
}

pub returns-in_err-put_in-in-ListT-clause-err : goal.returns-in_err-put_in-in-ListT-clause-err
returns-in_err-put_in-in-ListT-clause-err c = as_err _ (seen_lists c.in-ListT.key c.self.inside.keys c.put_in-in-ListT.new.keys c.self.inside.maps.items c.self.inside.lists.items c.self.inside.registers.items c.self.inside.presences c.self.inside.links.items c.self.invariant.within c.put_in-in-ListT.ensures.numbers c.args.self.now c.self.view_is c.put_in-in-ListT.new.column.items _ (c.in_err-put_in-in-ListT.ensures.err ∙ (ap (λ (d : Flat). d.lists) c.self.view_is)))

pub invariant_of-self-in_ok-put_in-in-ListT : goal.invariant_of-self-in_ok-put_in-in-ListT
invariant_of-self-in_ok-put_in-in-ListT c = record {
  within = within_lists c.in-ListT.key c.self.inside.keys c.put_in-in-ListT.new.keys c.self.inside.maps.items c.self.inside.lists.items c.self.inside.registers.items c.self.inside.presences c.self.inside.links.items c.self.invariant.within c.put_in-in-ListT.ensures.numbers c.put_in-in-ListT.new.column.items c.put_in-in-ListT.ensures.within;
  count = count_stays c.in-ListT.key c.self.inside.keys c.put_in-in-ListT.new.keys c.self.inside.maps.items c.self.inside.lists.items c.self.inside.registers.items c.self.inside.presences c.self.inside.links.items c.self.invariant.within c.put_in-in-ListT.ensures.numbers c.self.inside.present c.self.invariant.count;
  fit = fit_stays c.in-ListT.key c.self.inside.keys c.put_in-in-ListT.new.keys c.self.inside.presences c.self.inside.links.items c.self.inside.blocks c.self.invariant.within c.put_in-in-ListT.ensures.numbers c.self.invariant.fit;
}

pub invariant_of-self-in_ok-put_in-in-ListT-2 : goal.invariant_of-self-in_ok-put_in-in-ListT-2
invariant_of-self-in_ok-put_in-in-ListT-2 c = record {
  within = within_lists c.in-ListT.key c.self.inside.keys c.put_in-in-ListT.new.keys c.self.inside.maps.items c.self.inside.lists.items c.self.inside.registers.items c.self.inside.presences c.self.inside.links.items c.self.invariant.within c.put_in-in-ListT.ensures.numbers c.put_in-in-ListT.new.column.items c.put_in-in-ListT.ensures.within;
  count = count_stays c.in-ListT.key c.self.inside.keys c.put_in-in-ListT.new.keys c.self.inside.maps.items c.self.inside.lists.items c.self.inside.registers.items c.self.inside.presences c.self.inside.links.items c.self.invariant.within c.put_in-in-ListT.ensures.numbers c.self.inside.present c.self.invariant.count;
  fit = fit_stays c.in-ListT.key c.self.inside.keys c.put_in-in-ListT.new.keys c.self.inside.presences c.self.inside.links.items c.self.inside.blocks c.self.invariant.within c.put_in-in-ListT.ensures.numbers c.self.invariant.fit;
}

pub returns-in_ok-put_in-in-MapT-clause-ok : goal.returns-in_ok-put_in-in-MapT-clause-ok
returns-in_ok-put_in-in-MapT-clause-ok c =
    let e = seen_maps c.in-MapT.key c.self.inside.keys c.put_in.new.keys c.self.inside.maps.items c.self.inside.lists.items c.self.inside.registers.items c.self.inside.presences c.self.inside.links.items c.self.invariant.within c.put_in.ensures.numbers c.args.self.now c.self.view_is c.put_in.new.column.items _ (c.in_ok-put_in-in-MapT.ensures.ok ∙ ap (λ es. put key_cmp c.in-MapT.key c.args.number es) (ap (λ (d : Flat). d.maps) c.self.view_is)) ∙ ap (λ k. with_child_number k c.args.number c.args.self.now) (sym c.in-MapT.is) in
    elim c.match-key-3.branch [ in-Name-3 w ↦ w.self-is ∙ e | in-Doc-3 w ↦ w.self-is ∙ e ]

pub returns-in_ok-put_in-in-ListT-clause-ok : goal.returns-in_ok-put_in-in-ListT-clause-ok
returns-in_ok-put_in-in-ListT-clause-ok c =
    let e = seen_lists c.in-ListT.key c.self.inside.keys c.put_in-in-ListT.new.keys c.self.inside.maps.items c.self.inside.lists.items c.self.inside.registers.items c.self.inside.presences c.self.inside.links.items c.self.invariant.within c.put_in-in-ListT.ensures.numbers c.args.self.now c.self.view_is c.put_in-in-ListT.new.column.items _ (c.in_ok-put_in-in-ListT.ensures.ok ∙ ap (λ es. put key_cmp c.in-ListT.key c.args.number es) (ap (λ (d : Flat). d.lists) c.self.view_is)) ∙ ap (λ k. with_child_number k c.args.number c.args.self.now) (sym c.in-ListT.is) in
    elim c.match-key-5.branch [ in-Name-4 w ↦ w.self-is ∙ e | in-Doc-4 w ↦ w.self-is ∙ e ]
