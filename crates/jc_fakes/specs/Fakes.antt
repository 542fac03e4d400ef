-- Values and results of the sources and sinks for tests, which their contracts cite.
use Rattle.std.specs.Prelude.{ℕ, zero, suc, List, Option, Some, None, Result, Ok, Err}
use Rattle.jc_io.specs.declared.io.Failed.{Failed}
use Rattle.jc_fakes.specs.declared.Then.{Then}
use Rattle.jc_fakes.specs.declared.Then.TheVariants.{Fails, TakesNone}

-- The bytes that a sink in memory keeps, and the number of its failures.
pub record Kept : Type 0 where
  pub bytes : List ℕ
  pub failures : ℕ

-- the number of calls before the one that fails, after one more call; none once it has failed
abbrev pub one_call_on : Option ℕ → Option ℕ
one_call_on None = None
one_call_on (Some zero) = None
one_call_on (Some (suc n)) = Some n

-- the number of failures so far: one, once the call has failed
abbrev pub failures_made : Option ℕ → ℕ
failures_made None = 1
failures_made (Some n) = 0

-- the result of a write of some bytes without room
abbrev pub result_of_fake : Then → Result ℕ Failed
result_of_fake Fails = Err (record {})
result_of_fake TakesNone = Ok 0
