use Rattle.std.proofs.Common.{◌≡◌, ℕ, ◌<◌, Some, slice_get}
use Rattle.jc_rules.specs.declared.run.Run.{Run}
use Rattle.jc_debug.proofs.debugger.has_rule.Given as goal

-- no row of the runs so far has the rule
abbrev pub invariant-loop-run : goal.invariant-loop-run
invariant-loop-run l = record {
  none : (k : ℕ) (r : Run) → k < l.run-index → slice_get l.runs k ≡ Some r → r.rule ≡ l.rule → 0 < r.count → ⊥;
}
