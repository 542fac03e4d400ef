-- Values and lists of texts as JSON that is written token by token; jc_effects, jc_journal and jc_view cite it. `names` has each
-- replica's name at its number.
use Rattle.std.specs.Prelude.{ℕ, List, [], ◌∷◌, map, codes, Option, Some, true, false}
use Rattle.json.specs.Json.{Json, null, boolean, number, string, array, object, Items, no_items, item, no_members, member}
use Rattle.json.specs.Word.{after_number}
use Rattle.jc_rules.specs.declared.id.Id.{Id}
use Rattle.jc_rules.specs.declared.value.Value.{Value}
use Rattle.jc_rules.specs.declared.value.Value.TheVariants as V
use Rattle.jc_json.specs.Json.{id_text}
use Rattle.jc_json.specs.declared.writing.Numbers.{Numbers}
use Rattle.jc_json.specs.declared.writing.Numbers.TheVariants.{Named, Plain}

-- a value as in dumps: a number's text is under the name `n`
abbrev pub dumped_value : Value → Json
dumped_value (V.Number s) = object (member (codes "n") (string s) no_members)
dumped_value (V.Str s) = string s
dumped_value V.True = boolean true
dumped_value V.False = boolean false
dumped_value V.Null = null
dumped_value V.EmptyMap = object no_members
dumped_value V.EmptyList = array no_items

-- A value as an application has it: a number's text stays as it is. A text that is no number of JSON, which no scenario
-- has, is a string.
abbrev pub number_json : Option (List ℕ) → List ℕ → Json
number_json (Some []) s = number s
number_json _ s = string s

abbrev pub value_json : Value → Json
value_json (V.Number s) = number_json (after_number s) s
value_json (V.Str s) = string s
value_json V.True = boolean true
value_json V.False = boolean false
value_json V.Null = null
value_json V.EmptyMap = object no_members
value_json V.EmptyList = array no_items

-- a value in one of both ways
abbrev pub written_value : Numbers → Value → Json
written_value Named v = dumped_value v
written_value Plain v = value_json v

-- a value with its identifier before it
abbrev pub pair_json : Numbers → List (List ℕ) → Id × Value → Json
pair_json ns names e = array (item (string (id_text names e.0)) (item (written_value ns e.1) no_items))

abbrev pub pair_items : Numbers → List (List ℕ) → List (Id × Value) → Items
pair_items ns names [] = no_items
pair_items ns names (e ∷ r) = item (pair_json ns names e) (pair_items ns names r)

abbrev pub string_items : List (List ℕ) → Items
string_items [] = no_items
string_items (s ∷ ss) = item (string s) (string_items ss)

abbrev pub strings_json : List (List ℕ) → Json
strings_json ss = array (string_items ss)

abbrev pub ids_json : List (List ℕ) → List Id → Json
ids_json names ids = strings_json (map (λ i. id_text names i) ids)
