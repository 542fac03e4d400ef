-- Texts of JSON, made of texts of values: an answer is made of these.
use Rattle.std.specs.Prelude.{ℕ, ◌-◌, List, [], ◌∷◌, ◌++◌, length, map, take, codes, decimal}
use Rattle.jc_printer.specs.Canon.{quoted}

-- a line of another command without its LF
abbrev pub unended : List ℕ → List ℕ
unended line = take (length line - 1) line

-- a member of an object: its name, and the text of its value
abbrev pub NamedText : Type 0
NamedText = List ℕ × List ℕ

abbrev pub number_member : List ℕ → ℕ → List NamedText
number_member name n = (name, decimal n) ∷ []

abbrev pub string_member : List ℕ → List ℕ → List NamedText
string_member name s = (name, quoted s) ∷ []

abbrev pub text_member : List ℕ → List ℕ → List NamedText
text_member name text = (name, text) ∷ []

-- texts with a comma between each two
abbrev pub with_commas : List (List ℕ) → List ℕ
with_commas [] = []
with_commas (t ∷ []) = t
with_commas (t ∷ u ∷ ts) = t ++ (codes "," ++ with_commas (u ∷ ts))

abbrev pub array_text : List (List ℕ) → List ℕ
array_text ts = codes "[" ++ (with_commas ts ++ codes "]")

abbrev pub member_text : NamedText → List ℕ
member_text m = quoted m.0 ++ (codes ":" ++ m.1)

-- the object with these members, in their order
abbrev pub object_text : List NamedText → List ℕ
object_text ms = codes "{" ++ (with_commas (map member_text ms) ++ codes "}")
