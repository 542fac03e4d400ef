use Rattle.std.proofs.Common.{◌-◌, length, slice_get, sym, ◌∙◌, ap}
use Rattle.std.proofs.lemmas.Option.{same_Some}
use Rattle.jc_rules.specs.declared.key.Key.{Key}
use Rattle.jc_rules.specs.Order.{key_cmp}
use Rattle.jc_tree.specs.Numbered.{Numbering}
use Rattle.jc_tree.specs.Undo.{removed}
use Rattle.jc_tree.proofs.SortedMapLemmas.{remove_is}
use Rattle.jc_tree.proofs.NumberedLemmas.{keys_left, popped_numbered}
use Rattle.jc_tree.proofs.keys.KeyTable.pop.Goals as goal

pub invariant_of-self : goal.invariant_of-self
invariant_of-self c =
    let k = c.in-Some.key.now in
    let left = keys_left k c.self.inside.keys.keys c.pop.new.self.keys c.pop.result (sym c.in-Some.ensures.key) c.pop.ensures.found.1 c.pop.ensures.keys in
    popped_numbered k _ _ c.self.invariant (sym c.in-Some.ensures.key) left (c.remove.ensures.entries ∙ remove_is k c.self.inside.order.entries)

pub returns-clause-left : goal.returns-clause-left
returns-clause-left c =
    let k = c.in-Some.key.now in
    let left = keys_left k c.self.inside.keys.keys c.pop.new.self.keys c.pop.result (sym c.in-Some.ensures.key) c.pop.ensures.found.1 c.pop.ensures.keys in
    popped_numbered k _ _ c.self.invariant (sym c.in-Some.ensures.key) left (c.remove.ensures.entries ∙ remove_is k c.self.inside.order.entries)

pub returns-clause-order : goal.returns-clause-order
returns-clause-order c = λ k h.
    let j = c.in-Some.key.now in
    let last = ap (λ (t : Numbering). slice_get t.keys (length t.keys - 1)) (sym c.self.view_is) ∙ sym c.in-Some.ensures.key in
    c.remove.ensures.entries ∙ remove_is j c.self.inside.order.entries
    ∙ ap (λ (t : Numbering). removed key_cmp j t.order) c.self.view_is
    ∙ ap (λ (i : Key). removed key_cmp i c.args.self.now.order) (same_Some j k (sym last ∙ h))
