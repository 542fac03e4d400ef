-- What one line is, without its end.
use Rattle.std.specs.Prelude.{◌≡◌, ℕ, List}
use Rattle.jc_answers.specs.Refusals.{lf_count}

-- There is no LF in the text.
pub record HasNoLf (text : List ℕ) : Type 0 where
  pub none : lf_count text ≡ 0
