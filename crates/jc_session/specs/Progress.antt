-- The lines that were read and answered so far: the loop of `converse` keeps this.
use Rattle.std.specs.Prelude.{◌≡◌, ℕ, List, length, map, Option}
use Rattle.std.specs.List.{AllByRecursion}
use Rattle.std.specs.Io.KnownBytes.{Consumes}
use Rattle.jc_debug.specs.DebuggerState.{Session}
use Rattle.jc_session.specs.Lines.{Lacks, with_line_ends, whole_line}
use Rattle.jc_session.specs.Answers.{Origin}
use Rattle.jc_session.specs.SessionText.{AnswersLines}
use Rattle.jc_io.specs.Written.{Stream, Wrote}

-- Whole lines were read and answered, which led from the state A to B: what of the source was left at first and is left
-- now, the sink at first and now, and how many bytes and lines these were.
pub record SoFar
    (O : Origin) (A B : Session) (first now : Option (List ℕ)) (out_first out_now : Stream) (bytes count : ℕ)
    : Type 0 where
  pub whole : List (List ℕ)
  pub text : List ℕ
  pub no_lf : AllByRecursion (Lacks 10) whole
  pub gone : Consumes first now (with_line_ends whole)
  pub bytes_are : bytes ≡ length (with_line_ends whole)
  pub count_is : count ≡ length whole
  pub answers : AnswersLines O A (map whole_line whole) B text
  pub went : Wrote text out_first out_now
