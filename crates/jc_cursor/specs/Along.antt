-- How a walk along a list goes over elements: words of the walk of `idx`.
use Rattle.std.specs.Prelude.{◌≡◌, ◌<◌, ◌≤◌, ◌+◌, ◌/◌, ◌%◌, ℕ, zero, suc}
use Rattle.jc_rules.specs.declared.id.Id.{Id}
use Rattle.jc_rules.specs.declared.key.Key.{Key}
use Rattle.jc_rules.specs.declared.rule.Rule.{Rule}
use Rattle.jc_rules.specs.declared.rule.Rule.TheVariants as R
use Rattle.jc_rules.specs.Context.{Context}
use Rattle.jc_rules.specs.Trace.{Rows, pushed, one_deeper}
use Rattle.jc_tree.specs.Stretches.{LeadsOver}

-- the rule that goes over an element, by its bit: whether it is present
abbrev pub rule_of_bit : ℕ → Rule
rule_of_bit zero = R.Idx4
rule_of_bit (suc n) = R.Idx3

-- the trace once so many elements were gone over, whose bits these are, the lowest first
abbrev pub gone_over : ℕ → ℕ → Rows → Rows
gone_over zero bits t = t
gone_over (suc n) bits t = gone_over n (bits / 2) (one_deeper (pushed t (rule_of_bit (bits % 2))))

-- how many of them are present
abbrev pub count_bits : ℕ → ℕ → ℕ
count_bits zero bits = 0
count_bits (suc n) bits = bits % 2 + count_bits n (bits / 2)

-- From the first key the walk has gone on to the second one, over one element or more; so many present ones were left to pass,
-- and so many still are.
pub record GoesOn (c : Context) (from : Key) (before : ℕ) (to : Key) (left : ℕ) (t u : Rows) : Type 0 where
  pub count : ℕ
  pub bits : ℕ
  pub least : Id
  pub some : 0 < count
  pub most : count ≤ before
  pub leads : LeadsOver c from count bits least to
  pub counted : before ≡ left + count_bits count bits
  pub rows : u ≡ gone_over count bits t
