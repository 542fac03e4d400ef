-- The dump of a replica's state: one JSON object, and its line. The contract of `dump_replica` cites it.
-- The list of names has the name of each replica at its number.
use Rattle.std.specs.Prelude.{ℕ, List, [], ◌∷◌, ◌++◌, length, map, filter, not, codes}
use Rattle.std.specs.Str.{bytes_eq}
use Rattle.serde_json.specs.Data.{unsigned, Data, boolean, number, string, array, no_items, item}
use Rattle.serde_json.specs.View.{items_of}
use Rattle.serde_json.specs.Written.{compact_text}
use Rattle.jc_rules.specs.declared.id.Id.{Id}
use Rattle.jc_rules.specs.declared.operation.Cursor.{Cursor}
use Rattle.jc_rules.specs.declared.operation.Op.{Op}
use Rattle.jc_rules.specs.declared.value.Value.{Value}
use Rattle.jc_rules.specs.State.{State, Bound, ACursor, Names, Pairs}
use Rattle.jc_json.specs.Json.{id_text, key_text, tagged_text, texts_data, ids_data, object_of, value_data, context_data}

-- ---- variables

abbrev pub pair_data : List (List ℕ) → Id × Value → Data
pair_data names e = array (item (string (id_text names e.0)) (item (value_data e.1) no_items))

abbrev pub pairs_data : List (List ℕ) → List (Id × Value) → Data
pairs_data names pairs = array (items_of (map (λ e. pair_data names e) pairs))

-- a cursor's path, then its last key
abbrev pub cursor_data : List (List ℕ) → Cursor → Data
cursor_data names c = texts_data (map (λ t. tagged_text names t) c.path ++ key_text names c.last ∷ [])

-- a cursor, the keys that were read, or the values with their identifiers
abbrev pub bound_data : List (List ℕ) → Bound → Data
bound_data names (ACursor c) = object_of ((codes "cursor", cursor_data names c) ∷ [])
bound_data names (Names keys) = object_of ((codes "keys", texts_data keys) ∷ [])
bound_data names (Pairs pairs) = object_of ((codes "values", pairs_data names pairs) ∷ [])

abbrev pub var_member : List (List ℕ) → List ℕ × Bound → List ℕ × Data
var_member names e = (e.0, bound_data names e.1)

abbrev pub vars_data : List (List ℕ) → List (List ℕ × Bound) → Data
vars_data names vars = object_of (map (var_member names) vars)

-- ---- the dump

abbrev pub ids_of_dumped : List Op → List Id
ids_of_dumped ops = map (λ o. o.id) ops

-- the members of the dump of a replica of this name in this state
abbrev pub dump_members : List (List ℕ) → List ℕ → State → List (List ℕ × Data)
dump_members names name A =
    (codes "acted", boolean A.acted)
    ∷ (codes "left", number (unsigned (length A.left)))
    ∷ (codes "name", string name)
    ∷ (codes "ops", ids_data names A.ops)
    ∷ (codes "queue", ids_data names (ids_of_dumped A.queue))
    ∷ (codes "recv", ids_data names (ids_of_dumped A.recv))
    ∷ (codes "send", ids_data names (ids_of_dumped A.send))
    ∷ (codes "tree", context_data names A.tree)
    ∷ (codes "vars", vars_data names A.vars)
    ∷ []

unfoldable pub dump_of : List (List ℕ) → List ℕ → State → Data
dump_of names name A = object_of (dump_members names name A)

-- the dump as compact JSON, and a line feed
unfoldable pub dump_line : List (List ℕ) → List ℕ → State → List ℕ
dump_line names name A = compact_text (dump_of names name A) ++ 10 ∷ []

-- ---- parts alone, as compact JSON

unfoldable pub cursor_text : List (List ℕ) → Cursor → List ℕ
cursor_text names c = compact_text (cursor_data names c)

unfoldable pub bound_text : List (List ℕ) → Bound → List ℕ
bound_text names b = compact_text (bound_data names b)

-- the members but for the tree
abbrev pub brief_members : List (List ℕ) → List ℕ → State → List (List ℕ × Data)
brief_members names name A = filter (λ m. not (bytes_eq m.0 (codes "tree"))) (dump_members names name A)

-- the dump without its tree
unfoldable pub brief_text : List (List ℕ) → List ℕ → State → List ℕ
brief_text names name A = compact_text (object_of (brief_members names name A))
