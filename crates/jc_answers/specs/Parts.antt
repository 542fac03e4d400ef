-- What is there of a text of JSON that isn't at its end, members in memory, and positions: for the code.
use Rattle.std.specs.Prelude.{◌≡◌, ℕ, ◌+◌, Bool, true, false, if◌then◌else◌, List, [], ◌∷◌, ◌++◌, Option, Some, None, map, codes, decimal, flat_map}
use Rattle.jc_printer.specs.Canon.{quoted}
use Rattle.jc_answers.specs.declared.objects.Value.{Value}
use Rattle.jc_answers.specs.declared.objects.Value.TheVariants as V
use Rattle.jc_answers.specs.declared.objects.Member.{Member}
use Rattle.jc_answers.specs.declared.arrays.ArrayText.{ArrayText}
use Rattle.jc_answers.specs.declared.refusals.Position.{Position}
use Rattle.jc_answers.specs.JsonTexts.{NamedText, member_text, with_commas}
use Rattle.jc_answers.specs.Refusals.{is_lf, is_continuation, line_behind, column_behind}

-- ---- objects

abbrev pub value_text : Value → List ℕ
value_text (V.Number n) = decimal n
value_text (V.Str s) = quoted s.now
value_text (V.Text text) = text.now

-- a member, unless it has no value
abbrev pub named : List ℕ → Option Value → List NamedText
named name None = []
named name (Some value) = (name, value_text value) ∷ []

abbrev pub member_of : Member → List NamedText
member_of m = named m.name.now m.value

-- those members that are there
abbrev pub members_of : List Member → List NamedText
members_of ms = flat_map member_of ms

-- an object without its end
abbrev pub object_begun : List NamedText → List ℕ
object_begun ms = codes "{" ++ with_commas (map member_text ms)

-- ---- arrays

abbrev pub has_some : List (List ℕ) → Bool
has_some [] = false
has_some (t ∷ ts) = true

-- what parts an item from those before it, where some are
abbrev pub comma_after : Bool → List ℕ
comma_after true = codes ","
comma_after false = []

-- The array has these items so far.
pub record HasItems (a : ArrayText) (ts : List (List ℕ)) : Type 0 where
  pub text : a.text.items ≡ codes "[" ++ with_commas ts
  pub begun : a.begun ≡ has_some ts

-- ---- positions

abbrev pub next_line : ℕ → ℕ → ℕ
next_line line byte = if is_lf byte then line + 1 else line

abbrev pub next_column : ℕ → ℕ → ℕ
next_column column byte = if is_lf byte then 1 else (if is_continuation byte then column else column + 1)

-- the position is that behind these bytes
pub record IsBehind (p : Position) (before : List ℕ) : Type 0 where
  pub line : p.line ≡ line_behind before
  pub column : p.column ≡ column_behind before
