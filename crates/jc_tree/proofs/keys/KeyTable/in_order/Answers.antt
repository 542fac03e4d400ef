use Rattle.std.proofs.Common.{rules, ◌≡◌, ◌∙◌, ap}
use Rattle.jc_rules.specs.Entries.{keys_of}
use Rattle.jc_tree.specs.Numbered.{Numbering}
use Rattle.jc_tree.proofs.LentLemmas.{lent_begins, lent_goes_on, lent_ends}
use Rattle.jc_tree.proofs.keys.KeyTable.in_order.Goals as goal

pub loop-key-init : goal.loop-key-init
loop-key-init c =
    let all : c.into_iter-key-iterator.result ≡ c.self.inside.order.entries = search rules in
    lent_begins c.in_ok-lent.lent.items _ _ c.in_ok-lent.ensures.items all ∙ ap (λ (t : Numbering). keys_of t.order) c.self.view_is

pub loop-key-preserved : goal.loop-key-preserved
loop-key-preserved c =
    lent_goes_on c.loop-key.lent.items c.push.new.self.items c.loop-key.key-iterator _ c.in-Some.key _ c.in-Some.number.now (keys_of c.args.self.now.order) c.in-Some.ensures.steps c.in_ok-push.ensures.items c.loop-key.invariant

pub returns-clause-keys : goal.returns-clause-keys
returns-clause-keys c = lent_ends c.loop-key.lent.items _ _ c.in-None.ensures.steps.0 c.loop-key.invariant
