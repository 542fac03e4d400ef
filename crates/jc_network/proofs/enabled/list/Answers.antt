use Rattle.std.proofs.Common.{◌≡◌, true, false, refl, sym, ◌∙◌}
use Rattle.jc_network.proofs.EnabledRefinesLemmas.{lists_one}
use Rattle.jc_network.proofs.enabled.list.Goals as goal

pub returns-in_ok-push : goal.returns-in_ok-push
returns-in_ok-push g c =
    lists_one c.args.replica.now c.args.event c.in_ok-can.field-0 c.args.events.now.items c.push.new.self.items c.in_ok-can.ensures
    (λ t. c.in_ok-push.ensures.items)
    (λ f. let z : true ≡ false = sym c.if-branch.true ∙ f in cc)

pub returns-else-branch : goal.returns-else-branch
returns-else-branch g c =
    lists_one c.args.replica.now c.args.event c.in_ok-can.field-0 c.args.events.now.items c.args.events.now.items c.in_ok-can.ensures
    (λ t. let z : false ≡ true = sym c.if-branch.false ∙ t in cc)
    (λ f. refl)
