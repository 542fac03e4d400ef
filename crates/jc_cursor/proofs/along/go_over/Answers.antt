use Rattle.std.proofs.Common.{◌≡◌, ◌<◌, ◌≤◌, ◌-◌, ◌+◌, ◌%◌, ℕ, refl, arith}
use Rattle.std.specs.Int.{bit_at}
use Rattle.jc_cursor.proofs.TraceGrowsLemmas.{not_grown}
use Rattle.jc_cursor.proofs.AlongSpansLemmas.{span_over, present_over, none_over, no_bits, grown_opened}
use Rattle.jc_cursor.proofs.along.go_over.Goals as goal

pub loop-left-init : goal.loop-left-init
loop-left-init c = record {
  rows = refl;
  present = omega arith;
  most = omega arith;
  grown = not_grown c.args.trace.now;
}

pub loop-left-preserved : goal.loop-left-preserved
loop-left-preserved c =
    let l = c.loop-left in
    let span = c.min-span.result in
    let most : span ≤ l.left = omega (arith, c.min-span.ensures) in
    let same : (i : ℕ) → i < span → bit_at l.rest i ≡ l.rest % 2 = λ i w. c.same_bits.ensures.same i (omega (arith, w, c.min-span.ensures)) in
    record {
      rows = span_over span l.left (l.left - span) l.rest c.bits_behind-rest.result (l.rest % 2) c.rule_by.result _ _ _ most refl c.bits_behind-rest.ensures same c.rule_by.ensures c.in_ok-open_times.ensures.ok l.invariant.rows;
      present = present_over span l.left (l.left - span) l.rest c.bits_behind-rest.result (l.rest % 2) c.present_by-present.result l.present (l.present + c.present_by-present.result) _ most refl c.bits_behind-rest.ensures same c.present_by-present.ensures.present refl l.invariant.present;
      most = omega (arith, most, c.present_by-present.ensures.most, l.invariant.most);
      grown = grown_opened span c.rule_by.result _ _ _ l.invariant.grown c.in_ok-open_times.ensures.ok;
    }

pub returns-clause-rows : goal.returns-clause-rows
returns-clause-rows c = none_over c.loop-left.left c.loop-left.rest _ _ (omega (arith, c.loop-left-test.false)) c.loop-left.invariant.rows

pub returns-clause-present : goal.returns-clause-present
returns-clause-present c = no_bits c.loop-left.left c.loop-left.rest _ _ (omega (arith, c.loop-left-test.false)) c.loop-left.invariant.present
