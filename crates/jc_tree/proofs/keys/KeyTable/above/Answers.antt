use Rattle.std.proofs.Common.{option_copied, option_map, sym, ◌∙◌, ap}
use Rattle.jc_rules.specs.Order.{key_cmp}
use Rattle.jc_rules.specs.Entries.{find, keys_of}
use Rattle.jc_tree.specs.Numbered.{Numbering}
use Rattle.jc_tree.specs.Tree.{least_after}
use Rattle.jc_tree.proofs.SortedMapLemmas.{first_some, above_some, above_none}
use Rattle.jc_tree.proofs.NumberedLemmas.{first_found, above_found}
use Rattle.jc_tree.proofs.keys.KeyTable.above.Goals as goal

pub returns-in_default-clause-key : goal.returns-in_default-clause-key
returns-in_default-clause-key c =
    let es = c.self.inside.order.entries in
    sym (ap (λ (t : Numbering). least_after (option_copied c.args.after) (keys_of t.order)) (sym c.self.view_is)
    ∙ ap (λ o. least_after (option_copied o) (keys_of es)) c.in_default.is
    ∙ first_some es _ c.self.invariant.rise c.in_ok-key.ensures.first)

pub returns-in_default-clause-number : goal.returns-in_default-clause-number
returns-in_default-clause-number c =
    ap (λ (t : Numbering). find key_cmp c.in_ok-key.key.now t.order) (sym c.self.view_is) ∙ first_found (c.in_ok-key.key.now, c.in_ok-key.number.now) c.self.inside.order.entries c.in_ok-key.ensures.first

pub returns-in_err-key-2-clause-key : goal.returns-in_err-key-2-clause-key
returns-in_err-key-2-clause-key c =
    let es = c.self.inside.order.entries in
    ap (λ o. option_map (λ p. p.0.now) o) c.from_residual-in_err-key-2.ensures
    ∙ sym (ap (λ (t : Numbering). least_after (option_copied c.args.after) (keys_of t.order)) (sym c.self.view_is)
    ∙ ap (λ o. least_after (option_copied o) (keys_of es)) c.in-Some.is
    ∙ above_none c.in-Some.above.now es c.range-greater.result c.self.invariant.rise (c.range-greater.ensures.between tt) c.in_err-key-2.ensures.steps.0)

pub returns-clause-key : goal.returns-clause-key
returns-clause-key c =
    let es = c.self.inside.order.entries in
    sym (ap (λ (t : Numbering). least_after (option_copied c.args.after) (keys_of t.order)) (sym c.self.view_is)
    ∙ ap (λ o. least_after (option_copied o) (keys_of es)) c.in-Some.is
    ∙ above_some c.in-Some.above.now es c.range-greater.result _ _ c.self.invariant.rise (c.range-greater.ensures.between tt) c.in_ok-key-2.ensures.steps)

pub returns-clause-number : goal.returns-clause-number
returns-clause-number c =
    ap (λ (t : Numbering). find key_cmp c.in_ok-key-2.key.now t.order) (sym c.self.view_is)
    ∙ above_found c.in-Some.above.now c.self.inside.order.entries c.range-greater.result c.next.new.self (c.in_ok-key-2.key.now, c.in_ok-key-2.number.now) c.self.invariant.rise (c.range-greater.ensures.between tt) c.in_ok-key-2.ensures.steps
