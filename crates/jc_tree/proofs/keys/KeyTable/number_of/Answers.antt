use Rattle.std.proofs.Common.{◌≡◌, None, IfOk, sym, ◌∙◌, ap, subst}
use Rattle.indexmap.specs.IndexSet.{insert_key}
use Rattle.jc_rules.specs.contracts.key.KeyPartialEq.TheImpl.{eq-value}
use Rattle.jc_rules.specs.Order.{key_cmp}
use Rattle.jc_rules.specs.Entries.{find}
use Rattle.jc_tree.specs.Numbered.{IsNumbered, Numbering, GetsNumber}
use Rattle.jc_tree.proofs.NumberedLemmas.{number_given, numbered_again}
use Rattle.jc_tree.proofs.keys.KeyTable.number_of.Goals as goal

given : (c : goal.After-unwrap) → GetsNumber c.args.key.now c.len-number.result (record { keys = c.self.inside.keys.keys; order = c.self.inside.order.entries }) (record { keys = c.insert-2.new.self.keys; order = c.insert.new.self.entries })
given c =
    let none : find key_cmp c.args.key.now c.self.inside.order.entries ≡ None = ap (λ (t : Numbering). find key_cmp c.args.key.now t.order) c.self.view_is ∙ sym c.number.ensures.found ∙ c.in_default.is in
    number_given c.args.key.now c.in_ok-copy.copy c.in_ok-copy-2.field-0 c.len-number.result _ c.reserve.new.self.keys c.insert-2.new.self.keys c.insert.new.self.entries
    c.self.invariant none c.reserve.ensures.keys c.len-number.ensures.len c.in_ok-copy.ensures c.in_ok-copy-2.ensures
    (subst (λ r. IfOk r (λ b. c.insert-2.new.self.keys ≡ insert_key eq-value.it c.reserve.new.self.keys c.in_ok-copy.copy)) c.unwrap.ensures c.insert-2.ensures.keys)
    c.in_ok-insert.ensures.entries

pub invariant_of-self-2 : goal.invariant_of-self-2
invariant_of-self-2 c = numbered_again c.args.key.now c.len-number.result _ _ c.self.invariant (given c)

pub returns-clause-ok : goal.returns-clause-ok
returns-clause-ok c = subst (λ t. GetsNumber c.args.key.now c.len-number.result t (record { keys = c.insert-2.new.self.keys; order = c.insert.new.self.entries })) c.self.view_is (given c)

pub returns-clause-numbered : goal.returns-clause-numbered
returns-clause-numbered c = (subst IsNumbered c.self.view_is c.self.invariant, numbered_again c.args.key.now c.len-number.result _ _ c.self.invariant (given c))
