use Rattle.std.proofs.Common.{◌≡◌, Option, sym, ◌∙◌, ap, subst, arith}
use Rattle.jc_rules.specs.declared.value.Value.{Value}
use Rattle.jc_rules.specs.Order.{id_cmp}
use Rattle.jc_rules.specs.Entries.{replaced, keys_of}
use Rattle.jc_rules.specs.Ids.{AreRising}
use Rattle.jc_rules.specs.Context.{Register}
use Rattle.jc_rules.proofs.OrderLemmas.{ids_total, exact_ids}
use Rattle.jc_rules.proofs.EntriesLemmas.{rising-put}
use Rattle.jc_tree.specs.Sorted.{IsEntryAt}
use Rattle.jc_tree.specs.Undo.{removed, restored}
use Rattle.jc_tree.proofs.SortedLemmas.{standing_within, put-standing, replaced-standing, removed-standing, restored-absent, sorted_left}
use Rattle.jc_tree.proofs.lists.Pairs.restore.Goals as goal
use Rattle.jc_tree.proofs.lists.Pairs.restore.Goals.{in-Number-1, in-Str-1, in-True-1, in-Number-2, in-Str-2, in-True-2}

pub returns-in_default : goal.returns-in_default
returns-in_default c = sym (restored-absent ids_total exact_ids c.args.id c.args.self.now c.in_default.field-0 c.args.former c.in_default.ensures)

pub index_mut-requires : goal.index_mut-requires
index_mut-requires c =
    let r = c.self.inside.pairs.items in
    let stands : IsEntryAt c.args.id r c.in-Ok.place = subst (λ (s : Register). IsEntryAt c.args.id s c.in-Ok.place) (sym c.self.view_is) c.in-Ok.ensures in
    omega (arith, standing_within c.args.id r c.in-Ok.place stands, c.self.inside.pairs.ok.0)

pub invariant_of-self : goal.invariant_of-self
invariant_of-self c =
    let r = c.self.inside.pairs.items in
    let v = c.in-Some.value in
    let stands : IsEntryAt c.args.id r c.in-Ok.place = subst (λ (s : Register). IsEntryAt c.args.id s c.in-Ok.place) (sym c.self.view_is) c.in-Ok.ensures in
    subst (λ (s : Register). AreRising (keys_of s)) (put-standing ids_total exact_ids c.args.id r c.in-Ok.place c.index_mut.result.now v c.self.invariant stands c.index_mut.ensures.value) (rising-put ids_total exact_ids c.args.id v r c.self.invariant)

pub invariant_of-self-in-Some-2 : goal.invariant_of-self-in-Some-2
invariant_of-self-in-Some-2 c =
    let r = c.self.inside.pairs.items in
    let v = c.in-Some.value in
    let stands : IsEntryAt c.args.id r c.in-Ok.place = subst (λ (s : Register). IsEntryAt c.args.id s c.in-Ok.place) (sym c.self.view_is) c.in-Ok.ensures in
    subst (λ (s : Register). AreRising (keys_of s)) (put-standing ids_total exact_ids c.args.id r c.in-Ok.place c.index_mut.result.now v c.self.invariant stands c.index_mut.ensures.value) (rising-put ids_total exact_ids c.args.id v r c.self.invariant)

pub invariant_of-self-in-Some-3 : goal.invariant_of-self-in-Some-3
invariant_of-self-in-Some-3 c =
    let r = c.self.inside.pairs.items in
    let v = c.in-Some.value in
    let stands : IsEntryAt c.args.id r c.in-Ok.place = subst (λ (s : Register). IsEntryAt c.args.id s c.in-Ok.place) (sym c.self.view_is) c.in-Ok.ensures in
    subst (λ (s : Register). AreRising (keys_of s)) (put-standing ids_total exact_ids c.args.id r c.in-Ok.place c.index_mut.result.now v c.self.invariant stands c.index_mut.ensures.value) (rising-put ids_total exact_ids c.args.id v r c.self.invariant)

pub remove-requires : goal.remove-requires
remove-requires c =
    let r = c.self.inside.pairs.items in
    let stands : IsEntryAt c.args.id r c.in-Ok.place = subst (λ (s : Register). IsEntryAt c.args.id s c.in-Ok.place) (sym c.self.view_is) c.in-Ok.ensures in
    omega (arith, standing_within c.args.id r c.in-Ok.place stands, c.self.inside.pairs.ok.0)

pub invariant_of-self-in-None : goal.invariant_of-self-in-None
invariant_of-self-in-None c = subst (λ (s : Register). AreRising (keys_of s)) (sym c.remove.ensures.items) (sorted_left id_cmp c.self.inside.pairs.items c.in-Ok.place c.self.invariant)

pub invariant_of-self-in-None-2 : goal.invariant_of-self-in-None-2
invariant_of-self-in-None-2 c = subst (λ (s : Register). AreRising (keys_of s)) (sym c.remove.ensures.items) (sorted_left id_cmp c.self.inside.pairs.items c.in-Ok.place c.self.invariant)

pub invariant_of-self-in-None-3 : goal.invariant_of-self-in-None-3
invariant_of-self-in-None-3 c = subst (λ (s : Register). AreRising (keys_of s)) (sym c.remove.ensures.items) (sorted_left id_cmp c.self.inside.pairs.items c.in-Ok.place c.self.invariant)

pub returns-in-Some : goal.returns-in-Some
returns-in-Some c =
    let r = c.self.inside.pairs.items in
    let v = c.in-Some.value in
    let stands : IsEntryAt c.args.id r c.in-Ok.place = subst (λ (s : Register). IsEntryAt c.args.id s c.in-Ok.place) (sym c.self.view_is) c.in-Ok.ensures in
    let put = sym (replaced-standing ids_total exact_ids c.args.id r c.in-Ok.place c.index_mut.result.now v c.self.invariant stands c.index_mut.ensures.value) ∙ ap (λ (s : Register). replaced id_cmp c.args.id v s) c.self.view_is ∙ ap (λ (o : Option Value). restored id_cmp c.args.id o c.args.self.now) (sym c.in-Some.is) in
    elim c.match-index_mut-value.branch as (λ _. c.match-index_mut-value.self ≡ restored id_cmp c.args.id c.args.former c.args.self.now) [
      | in-Number-1 w ↦ w.self-is ∙ put
      | in-Str-1 w ↦ w.self-is ∙ put
      | in-True-1 w ↦ w.self-is ∙ put
    ]

pub returns-in-None : goal.returns-in-None
returns-in-None c =
    let r = c.self.inside.pairs.items in
    let stands : IsEntryAt c.args.id r c.in-Ok.place = subst (λ (s : Register). IsEntryAt c.args.id s c.in-Ok.place) (sym c.self.view_is) c.in-Ok.ensures in
    let left = c.remove.ensures.items ∙ sym (removed-standing ids_total exact_ids c.args.id r c.in-Ok.place c.self.invariant stands) ∙ ap (λ (s : Register). removed id_cmp c.args.id s) c.self.view_is ∙ ap (λ (o : Option Value). restored id_cmp c.args.id o c.args.self.now) (sym c.in-None.is) in
    elim c.match-remove.branch as (λ _. c.match-remove.self ≡ restored id_cmp c.args.id c.args.former c.args.self.now) [
      | in-Number-2 w ↦ w.self-is ∙ left
      | in-Str-2 w ↦ w.self-is ∙ left
      | in-True-2 w ↦ w.self-is ∙ left
    ]
