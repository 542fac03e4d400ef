-- Refusals as answers: their names and numbers, and of a text the place in it.
use Rattle.std.specs.Prelude.{◌≡◌, ℕ, ◌+◌, ◌<◌, ◌≤◌, ◌⊎◌, ◌==◌, nat_le, nat_lt, Bool, not, ◌&&◌, if◌then◌else◌, List, [], ◌++◌, length, drop, filter, reverse, take, take_while, codes}
use Rattle.std.specs.List.{prefix_len}
use Rattle.jc_rules.specs.declared.limits.TheConstants.{MAX_TEXT}
use Rattle.jc_rules.specs.declared.refusal.Refusal.{Refusal}
use Rattle.jc_rules.specs.declared.refusal.Refusal.TheVariants as F
use Rattle.jc_rules.specs.Refusals.{refusal_name, refusal_number}
use Rattle.jc_syntax.specs.Lexemes.{IsTokenEnd}
use Rattle.jc_answers.specs.declared.refusals.Extent.{Extent}
use Rattle.jc_answers.specs.declared.refusals.Extent.TheVariants.{Token, Escape, Character, Byte}
use Rattle.jc_answers.specs.JsonTexts.{NamedText, number_member, string_member, text_member, object_text}

-- an object that has a refusal alone
abbrev pub refused_object : List NamedText → List ℕ
refused_object ms = object_text (text_member (codes "refused") (object_text ms))

-- its name and its number, which stand beside each other
abbrev pub refusal_members : Refusal → List NamedText
refusal_members refusal =
    string_member (codes "name") (refusal_name refusal) ++ number_member (codes "number") (refusal_number refusal)

-- a refusal without a place
abbrev pub refusal_answer : Refusal → List ℕ
refusal_answer refusal = refused_object (refusal_members refusal)

-- ---- lines and columns, by the bytes before them

abbrev pub is_lf : ℕ → Bool
is_lf b = b == 10

abbrev pub lf_count : List ℕ → ℕ
lf_count bytes = length (filter is_lf bytes)

-- a byte that goes on with a character
abbrev pub is_continuation : ℕ → Bool
is_continuation b = nat_le 128 b && nat_lt b 192

abbrev pub begins_character : ℕ → Bool
begins_character b = not (is_continuation b)

-- the bytes behind the last LF, from the right
abbrev pub since_lf : List ℕ → List ℕ
since_lf bytes = take_while (λ b. not (is_lf b)) (reverse bytes)

abbrev pub line_behind : List ℕ → ℕ
line_behind before = lf_count before + 1

abbrev pub column_behind : List ℕ → ℕ
column_behind before = length (filter begins_character (since_lf before)) + 1

-- ---- where it ends

-- what is refused at an offset: a token, or a number's run; an escape of six bytes; a character; a byte. A text that is too
-- long as a whole is so by the byte behind the limit.
abbrev pub extent_of : Refusal → ℕ → Extent
extent_of F.LoneSurrogate at = Escape
extent_of F.BadNumber at = Token
extent_of F.TextTooLong at = if nat_lt at MAX_TEXT then Token else Byte
extent_of F.Unexpected at = Token
extent_of F.IndexTooLarge at = Token
extent_of F.ReservedName at = Token
extent_of F.TooManyCommands at = Token
extent_of F.TooLongExpression at = Token
extent_of F.NoHeader at = Token
extent_of F.SameName at = Token
extent_of F.NoReplica at = Token
extent_of F.TooManyReplicas at = Token
extent_of F.UnknownReplica at = Token
extent_of F.TooManyEvents at = Token
extent_of refusal at = Character

-- the offset behind the character at an offset
abbrev pub after_character : List ℕ → ℕ → ℕ
after_character text at = (at + 1) + prefix_len is_continuation (drop (at + 1) text)

-- the offset behind what is refused at an offset of the text; where no token begins, behind its character
abbrev pub EndsWith : Extent → List ℕ → ℕ → ℕ → Type 0
EndsWith Token text at stop =
    IsTokenEnd text at stop
    ⊎ (((other : ℕ) → IsTokenEnd text at other → ⊥) × (stop ≡ after_character text at))
EndsWith Escape text at stop = stop ≡ at + 6
EndsWith Character text at stop = stop ≡ after_character text at
EndsWith Byte text at stop = stop ≡ at + 1

-- the same, also at the text's end
abbrev pub EndsAt : Refusal → List ℕ → ℕ → ℕ → Type 0
EndsAt refusal text at stop =
    ((length text ≤ at) × (stop ≡ at)) ⊎ ((at < length text) × EndsWith (extent_of refusal at) text at stop)

-- the members of a refusal at an offset of a text, with more behind the end
abbrev pub placed_members : List ℕ → Refusal → ℕ → ℕ → List NamedText → List NamedText
placed_members text refusal at stop more =
    number_member (codes "column") (column_behind (take at text)) ++ number_member (codes "end") stop
    ++ (more ++ (number_member (codes "line") (line_behind (take at text)) ++ refusal_members refusal
    ++ number_member (codes "offset") at))

-- The answer that refuses a text at an offset, with more members behind the end.
pub record IsRefusedTextWith (more : List NamedText) (text : List ℕ) (refusal : Refusal) (at : ℕ) (answer : List ℕ)
    : Type 0 where
  pub stop : ℕ
  pub ends : EndsAt refusal text at stop
  pub is : answer ≡ refused_object (placed_members text refusal at stop more)

-- The answer that refuses a text at an offset.
abbrev pub IsRefusedText : List ℕ → Refusal → ℕ → List ℕ → Type 0
IsRefusedText text refusal at answer = IsRefusedTextWith [] text refusal at answer
