use Rattle.std.proofs.Common.{rules, ◌≡◌, ◌<◌, length, Some, slice_get, refl, sym, subst, ◌∙◌, arith, below_more}
use Rattle.std.proofs.lemmas.Option.{slice_get_within, slice_get_read, same_Some}
use Rattle.jc_rules.specs.declared.run.Run.{Run}
use Rattle.jc_debug.proofs.BreaksLemmas.{runs_have, runs_have_none}
use Rattle.jc_debug.proofs.debugger.has_rule.Goals as goal
use Rattle.jc_debug.proofs.debugger.has_rule.Goals.{else-eq-via-then-eq+else-run-gt0, else-eq-via-else-eq}

pub returns-then-run-gt0 : goal.returns-then-run-gt0
returns-then-run-gt0 c =
    let runs = c.args.runs.now in
    let run = c.run-item.result in
    let at : slice_get runs c.loop-run.run-index ≡ Some run = slice_get_read runs (length runs) c.loop-run.run-index run refl c.loop-run-test.true c.run-item.is in
    let same : run.rule ≡ c.args.rule = search rules in
    (λ _. runs_have runs c.loop-run.run-index run c.args.rule at same c.if-run-gt0.true, λ _. refl)

pub loop-run-preserved : goal.loop-run-preserved
loop-run-preserved c =
    let runs = c.args.runs.now in
    let run = c.run-item.result in
    let at : slice_get runs c.loop-run.run-index ≡ Some run = slice_get_read runs (length runs) c.loop-run.run-index run refl c.loop-run-test.true c.run-item.is in
    let other : run.rule ≡ c.args.rule → 0 < run.count → ⊥ = elim c.else-eq.branch [
      | else-eq-via-then-eq+else-run-gt0 w ↦ λ _ some. omega (arith, some, w.if-run-gt0.false)
      | else-eq-via-else-eq w ↦ λ same some. let differ : run.rule ≡ c.args.rule → ⊥ = search rules in differ same
    ] in
    record { none = λ k r lt. below_more (λ k. (r : Run) → slice_get runs k ≡ Some r → r.rule ≡ c.args.rule → 0 < r.count → ⊥) c.loop-run.run-index (λ k lt r. c.loop-run.invariant.none k r lt) (λ r is. subst (λ (x : Run). x.rule ≡ c.args.rule → 0 < x.count → ⊥) (same_Some run r (sym at ∙ is)) other) k lt r }

pub returns : goal.returns
returns c =
    let runs = c.args.runs.now in
    (λ y. cc, λ h. absurd (runs_have_none runs c.args.rule (λ k run at. c.loop-run.invariant.none k run (let w = slice_get_within runs k run at in omega (arith, w, c.loop-run-test.false)) at) h))
