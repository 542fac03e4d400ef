use Rattle.std.proofs.Common.{◌≡◌, ◌∷◌, [], List, sym, subst, ap, ◌∙◌, refl, arith, length-append}
use Rattle.std.proofs.lemmas.Iterator.Adapters.{YieldsList-from_vec}
use Rattle.std.proofs.lemmas.Iterator.Consumers.{YieldsList-so_far, YieldsList-turn, YieldsList-end}
use Rattle.std.proofs.lemmas.List.{map-id}
use Rattle.jc_rules.specs.declared.operation.Op.{Op}
use Rattle.jc_rules.specs.Table.{both, with_op}
use Rattle.jc_replica.specs.Operations.{AreInOrder}
use Rattle.jc_replica.specs.Received.{IsOpPlace}
use Rattle.jc_replica.proofs.ReceivedUnionLemmas.{turn, belongs, belongs_there, both-in_order, both-last}
use Rattle.jc_replica.proofs.received.bring_in.Goals as goal

in_order : (c : goal.After-place_of-arg-1) → AreInOrder c.as_slice.result.now
in_order c = subst AreInOrder (sym (c.as_slice.ensures ∙ c.loop-op.invariant.united)) (both-in_order c.args.ops.now.items c.loop-op.yielded c.requires.order)

pub place_of-requires : goal.place_of-requires
place_of-requires c = in_order c

pub unwrap_err-place-requires : goal.unwrap_err-place-requires
unwrap_err-place-requires c =
    let gives = c.into_iter-op-iterator.ensures.into_iter_gives in
    let all = YieldsList-from_vec {s = c.into_iter-op-iterator.result} c.args.fresh.items gives.0 (gives.1 ∙ c.args.fresh.ok.0) in
    let at = YieldsList-turn all c.loop-op.yielded c.loop-op.op-iterator c.loop-op.yielded_by c.next.result c.next.new.self c.in-Some.op c.in-Some.is c.next.ensures.steps in
    let so_far = YieldsList-so_far all c.loop-op.yielded c.loop-op.op-iterator c.loop-op.yielded_by in
    let t = turn c.args.ops.now.items c.args.fresh.items c.loop-op.yielded c.in-Some.op c.requires.rises c.requires.new so_far at in
    let now : c.as_slice.result.now ≡ both c.args.ops.now.items c.loop-op.yielded = c.as_slice.ensures ∙ c.loop-op.invariant.united in
    belongs c.in-Some.op.id (both c.args.ops.now.items c.loop-op.yielded) c.place_of.result t.absent (subst (λ (os : List Op). IsOpPlace c.in-Some.op.id os c.place_of.result) now c.place_of.ensures)

pub insert-requires-clause-within : goal.insert-requires-clause-within
insert-requires-clause-within c =
    (belongs_there c.in-Some.op.id c.loop-op.ops.items c.place_of.result c.unwrap_err-place.result (subst (λ (os : List Op). IsOpPlace c.in-Some.op.id os c.place_of.result) c.as_slice.ensures c.place_of.ensures) c.unwrap_err-place.ensures).within

pub insert-requires-clause-room : goal.insert-requires-clause-room
insert-requires-clause-room c =
    let gives = c.into_iter-op-iterator.ensures.into_iter_gives in
    let all = YieldsList-from_vec {s = c.into_iter-op-iterator.result} c.args.fresh.items gives.0 (gives.1 ∙ c.args.fresh.ok.0) in
    let at = YieldsList-turn all c.loop-op.yielded c.loop-op.op-iterator c.loop-op.yielded_by c.next.result c.next.new.self c.in-Some.op c.in-Some.is c.next.ensures.steps in
    let l = at.0 in
    omega (arith, c.loop-op.invariant.room, l, c.args.fresh.ok.0)

pub loop-op-preserved : goal.loop-op-preserved
loop-op-preserved c =
    let gives = c.into_iter-op-iterator.ensures.into_iter_gives in
    let all = YieldsList-from_vec {s = c.into_iter-op-iterator.result} c.args.fresh.items gives.0 (gives.1 ∙ c.args.fresh.ok.0) in
    let at = YieldsList-turn all c.loop-op.yielded c.loop-op.op-iterator c.loop-op.yielded_by c.next.result c.next.new.self c.in-Some.op c.in-Some.is c.next.ensures.steps in
    let so_far = YieldsList-so_far all c.loop-op.yielded c.loop-op.op-iterator c.loop-op.yielded_by in
    let t = turn c.args.ops.now.items c.args.fresh.items c.loop-op.yielded c.in-Some.op c.requires.rises c.requires.new so_far at in
    let p = belongs_there c.in-Some.op.id c.loop-op.ops.items c.place_of.result c.unwrap_err-place.result (subst (λ (os : List Op). IsOpPlace c.in-Some.op.id os c.place_of.result) c.as_slice.ensures c.place_of.ensures) c.unwrap_err-place.ensures in
    record {
      united = c.insert.ensures.items ∙ sym (p.place c.in-Some.op refl) ∙ ap (with_op c.in-Some.op) c.loop-op.invariant.united ∙ sym (both-last c.args.ops.now.items c.loop-op.yielded c.in-Some.op t.later);
      room = omega (arith, c.loop-op.invariant.room, c.insert.ensures.room, length-append c.loop-op.yielded (c.in-Some.op ∷ []));
    }

pub returns : goal.returns
returns c =
    let gives = c.into_iter-op-iterator.ensures.into_iter_gives in
    let all = YieldsList-from_vec {s = c.into_iter-op-iterator.result} c.args.fresh.items gives.0 (gives.1 ∙ c.args.fresh.ok.0) in
    let end = YieldsList-end all c.loop-op.yielded c.loop-op.op-iterator c.loop-op.yielded_by c.next.result c.next.new.self c.in-None.is c.next.ensures.steps in
    c.loop-op.invariant.united ∙ ap (both c.args.ops.now.items) (sym (map-id c.loop-op.yielded) ∙ end.0)
