-- What is appended to a list, by the test of what goes on: for the code.
use Rattle.std.specs.Prelude.{ℕ, List, ◌++◌, Bool, map}
use Rattle.jc_printer.specs.Canon.{quoted}
use Rattle.jc_answers.specs.declared.arrays.ArrayText.{ArrayText}
use Rattle.jc_answers.specs.Parts.{HasItems}
use Rattle.jc_expected.specs.Expected.{IsTest}

-- By each test of what goes on at an offset of a text, these texts were appended, quoted.
pub record Appends (text : List ℕ) (at : ℕ) (told : (List ℕ → Bool) → List (List ℕ)) (old new : ArrayText)
    : Type 0 where
  pub more : (goes_on : List ℕ → Bool) → IsTest text at goes_on
      → (ts : List (List ℕ)) → HasItems old (map quoted ts)
      → HasItems new (map quoted (ts ++ told goes_on))
