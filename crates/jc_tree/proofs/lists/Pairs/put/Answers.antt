use Rattle.std.proofs.Common.{Some, slice_set, sym, ◌∙◌, ap, subst}
use Rattle.jc_rules.specs.declared.value.Value.{Value}
use Rattle.jc_rules.specs.Order.{id_cmp}
use Rattle.jc_rules.specs.Entries.{find, put, keys_of}
use Rattle.jc_rules.specs.Ids.{AreRising}
use Rattle.jc_rules.specs.Context.{Register}
use Rattle.jc_rules.proofs.OrderLemmas.{ids_total, exact_ids}
use Rattle.jc_rules.proofs.EntriesLemmas.{rising-put}
use Rattle.jc_tree.specs.Sorted.{IsEntryAt, EntryBelongsAt}
use Rattle.jc_tree.proofs.SortedLemmas.{find-standing, find-absent, put-standing, put-absent}
use Rattle.jc_tree.proofs.lists.Pairs.put.Goals as goal

pub invariant_of-self : goal.invariant_of-self
invariant_of-self c =
    let r = c.self.inside.pairs.items in
    let stands : IsEntryAt c.args.id r c.in-Ok.place = subst (λ (s : Register). IsEntryAt c.args.id s c.in-Ok.place) (sym c.self.view_is) c.in-Ok.ensures in
    subst (λ (s : Register). AreRising (keys_of s)) (put-standing ids_total exact_ids c.args.id r c.in-Ok.place c.index_mut.result.now c.replace.new.dest c.self.invariant stands c.index_mut.ensures.value) (rising-put ids_total exact_ids c.args.id c.replace.new.dest r c.self.invariant)

pub invariant_of-self-in-Err : goal.invariant_of-self-in-Err
invariant_of-self-in-Err c =
    let r = c.self.inside.pairs.items in
    let belongs : EntryBelongsAt id_cmp c.args.id r c.in-Err.place = subst (λ (s : Register). EntryBelongsAt id_cmp c.args.id s c.in-Err.place) (sym c.self.view_is) c.in-Err.ensures in
    subst (λ (s : Register). AreRising (keys_of s)) (put-absent ids_total exact_ids c.args.id r c.in-Err.place c.args.value belongs ∙ sym c.in_ok-insert_pair-in-Err.ensures.items) (rising-put ids_total exact_ids c.args.id c.args.value r c.self.invariant)

pub returns-in-Ok-clause-ok : goal.returns-in-Ok-clause-ok
returns-in-Ok-clause-ok c =
    let r = c.self.inside.pairs.items in
    let stands : IsEntryAt c.args.id r c.in-Ok.place = subst (λ (s : Register). IsEntryAt c.args.id s c.in-Ok.place) (sym c.self.view_is) c.in-Ok.ensures in
    ap (λ (v : Value). slice_set r c.in-Ok.place (c.index_mut.result.now.0, v)) c.replace.ensures.after
    ∙ sym (put-standing ids_total exact_ids c.args.id r c.in-Ok.place c.index_mut.result.now c.args.value c.self.invariant stands c.index_mut.ensures.value)
    ∙ ap (λ (s : Register). put id_cmp c.args.id c.args.value s) c.self.view_is

pub returns-in-Ok-clause-former : goal.returns-in-Ok-clause-former
returns-in-Ok-clause-former c =
    let r = c.self.inside.pairs.items in
    let stands : IsEntryAt c.args.id r c.in-Ok.place = subst (λ (s : Register). IsEntryAt c.args.id s c.in-Ok.place) (sym c.self.view_is) c.in-Ok.ensures in
    ap (λ (v : Value). Some v) c.replace.ensures.value
    ∙ sym (find-standing ids_total exact_ids c.args.id r c.in-Ok.place c.index_mut.result.now c.self.invariant stands c.index_mut.ensures.value)
    ∙ ap (λ (s : Register). find id_cmp c.args.id s) c.self.view_is

pub returns-in_ok-insert_pair-in-Err-clause-ok : goal.returns-in_ok-insert_pair-in-Err-clause-ok
returns-in_ok-insert_pair-in-Err-clause-ok c =
    let r = c.self.inside.pairs.items in
    let belongs : EntryBelongsAt id_cmp c.args.id r c.in-Err.place = subst (λ (s : Register). EntryBelongsAt id_cmp c.args.id s c.in-Err.place) (sym c.self.view_is) c.in-Err.ensures in
    c.in_ok-insert_pair-in-Err.ensures.items
    ∙ sym (put-absent ids_total exact_ids c.args.id r c.in-Err.place c.args.value belongs)
    ∙ ap (λ (s : Register). put id_cmp c.args.id c.args.value s) c.self.view_is

pub returns-in_ok-insert_pair-in-Err-clause-former : goal.returns-in_ok-insert_pair-in-Err-clause-former
returns-in_ok-insert_pair-in-Err-clause-former c = sym (find-absent ids_total exact_ids c.args.id c.args.self.now c.in-Err.place c.in-Err.ensures)
