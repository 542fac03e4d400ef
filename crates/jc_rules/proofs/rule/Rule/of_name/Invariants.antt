use Rattle.std.proofs.Common.{◌≡◌, ◌≢◌, ℕ, ◌<◌}
use Rattle.jc_rules.specs.declared.rule.Rule.{Rule}
use Rattle.jc_rules.specs.RuleNames.{rule_name}
use Rattle.jc_rules.proofs.RefusalsLemmas.{rule_place}
use Rattle.jc_rules.proofs.rule.Rule.of_name.Given as goal

-- none of those before the index
abbrev pub invariant-loop-rule : goal.invariant-loop-rule
invariant-loop-rule l = (k : ℕ) → k < l.rule-index → (r : Rule) → rule_place r ≡ k → rule_name r ≢ l.name
