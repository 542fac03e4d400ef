use Rattle.std.proofs.Common.{◌≡◌, ◌-◌, List, length, filter, take, drop, true, sym, ap, subst, ◌∙◌}
use Rattle.std.specs.List.{AllByRecursion}
use Rattle.jc_rules.specs.declared.operation.Op.{Op}
use Rattle.jc_rules.specs.Table.{both}
use Rattle.jc_replica.specs.Operations.{identifiers, AreInOrder, IsHanded, AreHanded}
use Rattle.jc_replica.specs.Received.{is_new, AreAmong, HasEach, AreKeptOf, IsContiguousTo, IsKeptList}
use Rattle.jc_replica.specs.Undo.{without_ops}
use Rattle.jc_replica.proofs.ReceivedUnionLemmas.{both-in_order, all_both, taken_out}
use Rattle.jc_replica.proofs.ReceivedNewLemmas.{came_new}
use Rattle.jc_replica.proofs.ReceivedLemmas.{rest_is, fresh_new, fresh_order, fresh_all, united_with, united_kept}
use Rattle.jc_replica.proofs.received.Received.unite.Goals as goal

pub whole_to-counter-requires : goal.whole_to-counter-requires
whole_to-counter-requires c = subst AreInOrder (sym (c.as_slice-5.ensures ∙ (c.in_ok-reserve.ensures.items ∙ c.widen.ensures))) c.self.invariant.order

pub bring_in-requires-clause-rises : goal.bring_in-requires-clause-rises
bring_in-requires-clause-rises c =
    let os = c.self.inside.ops.items in
    let offered = c.args.offered.now in
    let start = c.up_to-start.result in
    let fresh = c.in_ok-fresh.fresh.items in
    let is : fresh ≡ filter (is_new os) (drop start offered) = c.in_ok-fresh.ensures ∙ (λ n. filter (is_new (c.as_slice.ensures n)) (rest_is start offered n)) in
    fresh_order os offered start fresh is c.requires

pub bring_in-requires-clause-new : goal.bring_in-requires-clause-new
bring_in-requires-clause-new c =
    let os = c.self.inside.ops.items in
    let offered = c.args.offered.now in
    let start = c.up_to-start.result in
    let fresh = c.in_ok-fresh.fresh.items in
    let is : fresh ≡ filter (is_new os) (drop start offered) = c.in_ok-fresh.ensures ∙ (λ n. filter (is_new (c.as_slice.ensures n)) (rest_is start offered n)) in
    subst (λ (xs : List Op). AllByRecursion (λ o. is_new xs o ≡ true) fresh) (sym (c.in_ok-reserve.ensures.items ∙ c.widen.ensures)) (fresh_new os offered start fresh is)

pub invariant_of-self-2 : goal.invariant_of-self-2
invariant_of-self-2 c =
    let os = c.self.inside.ops.items in
    let offered = c.args.offered.now in
    let start = c.up_to-start.result in
    let fresh = c.in_ok-fresh.fresh.items in
    let is : fresh ≡ filter (is_new os) (drop start offered) = c.in_ok-fresh.ensures ∙ (λ n. filter (is_new (c.as_slice.ensures n)) (rest_is start offered n)) in
    let now : c.bring_in.new.ops.items ≡ both os fresh = c.bring_in.ensures ∙ ap (λ (x : List Op). both x fresh) (c.in_ok-reserve.ensures.items ∙ c.widen.ensures) in
    let here : c.as_slice-5.result.now ≡ os = c.as_slice-5.ensures ∙ (c.in_ok-reserve.ensures.items ∙ c.widen.ensures) in
    let new : filter (is_new c.as_slice-5.result.now) (take (length offered - start) (drop start offered)) ≡ fresh = (λ n. filter (is_new (here n)) (rest_is start offered n)) ∙ sym is in
    let tells : (xs : List Op) → HasEach os xs → AreAmong fresh xs → IsContiguousTo c.sender_of-sender.result xs c.greatest_of-last.result → IsContiguousTo c.sender_of-sender.result xs c.whole_to-counter.result = λ xs each among. c.whole_to-counter.ensures xs (subst (λ (x : List Op). HasEach x xs) (sym here) each) (subst (λ (x : List Op). AreAmong x xs) (sym new) among) in
    subst (λ (x : List Op). IsKeptList x c.insert.new.self) (sym now) (united_kept os fresh c.self.inside.contiguous c.insert.new.self c.sender_of-sender.result c.greatest_of-last.result c.whole_to-counter.result c.self.invariant (fresh_order os offered start fresh is c.requires) (fresh_new os offered start fresh is) c.greatest_of-last.ensures.exact tells c.in_ok-insert.ensures.exact)

pub returns-clause-ok : goal.returns-clause-ok
returns-clause-ok c =
    let os = c.self.inside.ops.items in
    let offered = c.args.offered.now in
    let start = c.up_to-start.result in
    let fresh = c.in_ok-fresh.fresh.items in
    let is : fresh ≡ filter (is_new os) (drop start offered) = c.in_ok-fresh.ensures ∙ (λ n. filter (is_new (c.as_slice.ensures n)) (rest_is start offered n)) in
    let now : c.bring_in.new.ops.items ≡ both os fresh = c.bring_in.ensures ∙ ap (λ (x : List Op). both x fresh) (c.in_ok-reserve.ensures.items ∙ c.widen.ensures) in
    λ set sound kept of one. now ∙ united_with os offered start fresh is set c.sender_of-sender.result c.greatest_of-last.result c.self.invariant.order sound (subst (AreKeptOf set) (sym c.self.view_is) kept) of (c.sender_of-sender.ensures one) c.up_to-start.ensures.low (subst (IsContiguousTo c.sender_of-sender.result os) (sym c.greatest_of-last.ensures.exact) (c.self.invariant.missing c.sender_of-sender.result)) ∙ ap (λ (x : List Op). both x offered) c.self.view_is

pub returns-clause-back : goal.returns-clause-back
returns-clause-back c =
    let os = c.self.inside.ops.items in
    let offered = c.args.offered.now in
    let start = c.up_to-start.result in
    let fresh = c.in_ok-fresh.fresh.items in
    let is : fresh ≡ filter (is_new os) (drop start offered) = c.in_ok-fresh.ensures ∙ (λ n. filter (is_new (c.as_slice.ensures n)) (rest_is start offered n)) in
    let came : c.in_ok-came.came.items ≡ identifiers fresh = c.in_ok-came.ensures ∙ ap identifiers c.as_slice-2.ensures.value in
    let now : c.bring_in.new.ops.items ≡ both os fresh = c.bring_in.ensures ∙ ap (λ (x : List Op). both x fresh) (c.in_ok-reserve.ensures.items ∙ c.widen.ensures) in
    (λ n. without_ops (came n) (now n)) ∙ taken_out os fresh (fresh_new os offered start fresh is) ∙ c.self.view_is

pub returns-clause-order : goal.returns-clause-order
returns-clause-order c =
    let os = c.self.inside.ops.items in
    let offered = c.args.offered.now in
    let start = c.up_to-start.result in
    let fresh = c.in_ok-fresh.fresh.items in
    let is : fresh ≡ filter (is_new os) (drop start offered) = c.in_ok-fresh.ensures ∙ (λ n. filter (is_new (c.as_slice.ensures n)) (rest_is start offered n)) in
    let now : c.bring_in.new.ops.items ≡ both os fresh = c.bring_in.ensures ∙ ap (λ (x : List Op). both x fresh) (c.in_ok-reserve.ensures.items ∙ c.widen.ensures) in
    subst AreInOrder (sym now) (both-in_order os fresh c.self.invariant.order)

pub returns-clause-handed : goal.returns-clause-handed
returns-clause-handed c =
    let os = c.self.inside.ops.items in
    let offered = c.args.offered.now in
    let start = c.up_to-start.result in
    let fresh = c.in_ok-fresh.fresh.items in
    let is : fresh ≡ filter (is_new os) (drop start offered) = c.in_ok-fresh.ensures ∙ (λ n. filter (is_new (c.as_slice.ensures n)) (rest_is start offered n)) in
    let now : c.bring_in.new.ops.items ≡ both os fresh = c.bring_in.ensures ∙ ap (λ (x : List Op). both x fresh) (c.in_ok-reserve.ensures.items ∙ c.widen.ensures) in
    λ old new. subst AreHanded (sym now) (all_both IsHanded os fresh (subst AreHanded (sym c.self.view_is) old) (fresh_all os offered start fresh is IsHanded new))

pub returns-clause-came : goal.returns-clause-came
returns-clause-came c =
    let os = c.self.inside.ops.items in
    let offered = c.args.offered.now in
    let start = c.up_to-start.result in
    let fresh = c.in_ok-fresh.fresh.items in
    let is : fresh ≡ filter (is_new os) (drop start offered) = c.in_ok-fresh.ensures ∙ (λ n. filter (is_new (c.as_slice.ensures n)) (rest_is start offered n)) in
    let came : c.in_ok-came.came.items ≡ identifiers fresh = c.in_ok-came.ensures ∙ ap identifiers c.as_slice-2.ensures.value in
    let now : c.bring_in.new.ops.items ≡ both os fresh = c.bring_in.ensures ∙ ap (λ (x : List Op). both x fresh) (c.in_ok-reserve.ensures.items ∙ c.widen.ensures) in
    ap (λ (x : List Op). identifiers (filter (is_new x) c.bring_in.new.ops.items)) (sym c.self.view_is)
    ∙ ap (λ (x : List Op). identifiers (filter (is_new os) x)) now
    ∙ came_new os fresh c.self.invariant.order (fresh_order os offered start fresh is c.requires) (fresh_new os offered start fresh is)
    ∙ sym came
