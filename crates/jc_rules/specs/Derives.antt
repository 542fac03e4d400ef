-- What a call that follows the table promises: a derivation of its answer, whose rows the trace gets.
use Rattle.std.specs.Prelude.{◌≡◌, ◌++◌}
use Rattle.jc_rules.specs.Derivation.{Question, Answer, gives, Derivation, conclusion, trace}
use Rattle.jc_rules.specs.Table.{Holds}
use Rattle.jc_rules.specs.Trace.{Rows}

-- a derivation gives the answer, and its rules were added to the trace at its depth
pub record Derives (q : Question) (a : Answer) (t u : Rows) : Type 0 where
  pub derivation : Derivation
  pub holds : Holds derivation
  pub concludes : conclusion derivation ≡ gives q a
  pub rows : u.rows ≡ t.rows ++ trace t.depth derivation
  pub depth : u.depth ≡ t.depth
