-- An operation in full, as JSON: its identifier, the version vector of those that it depends on, its cursor and its
-- mutation. The contracts of operation.rt cite it. The list of names has the name of each replica at its number.
use Rattle.std.specs.Prelude.{ℕ, suc, List, [], ◌∷◌, ◌++◌, ◌==◌, cond, codes, decimal}
use Rattle.json.specs.Json.{Json, number, string, object, Members, no_members, member}
use Rattle.jc_rules.specs.declared.id.Id.{Id}
use Rattle.jc_rules.specs.declared.key.Key.{Key}
use Rattle.jc_rules.specs.declared.key.Tagged.{Tagged}
use Rattle.jc_rules.specs.declared.operation.Cursor.{Cursor}
use Rattle.jc_rules.specs.declared.operation.Mutation.{Mutation}
use Rattle.jc_rules.specs.declared.operation.Mutation.TheVariants.{Assign, Insert, Delete}
use Rattle.jc_rules.specs.declared.operation.Op.{Op}
use Rattle.jc_rules.specs.VersionVectors.{greatest_of}
use Rattle.jc_json.specs.Json.{id_text, key_text, tagged_text}
use Rattle.jc_json.specs.Values.{dumped_value, strings_json}

-- ---- objects

-- a member of an object: its name and its value
abbrev pub NamedJson : Type 0
NamedJson = List ℕ × Json

abbrev pub json_members : List NamedJson → Members
json_members [] = no_members
json_members (e ∷ es) = member e.0 e.1 (json_members es)

-- the object with these members, in their order
abbrev pub json_object : List NamedJson → Json
json_object es = object (json_members es)

-- ---- operations

-- a cursor as in dumps: the texts of its path, then that of its last key
abbrev pub cursor_texts : List (List ℕ) → List Tagged → Key → List (List ℕ)
cursor_texts names [] last = key_text names last ∷ []
cursor_texts names (t ∷ path) last = tagged_text names t ∷ cursor_texts names path last

abbrev pub cursor_json : List (List ℕ) → Cursor → Json
cursor_json names c = strings_json (cursor_texts names c.path c.last)

-- a replica's counter under its name, unless it is 0
abbrev pub counter_member : List ℕ → ℕ → List NamedJson
counter_member name n = cond (n == 0) [] ((name, number (decimal n)) ∷ [])

-- the greatest counter in a set of identifiers of each of these replicas, of which the first one has the number p
abbrev pub counter_members : ℕ → List (List ℕ) → List Id → List NamedJson
counter_members p [] ids = []
counter_members p (name ∷ names) ids = counter_member name (greatest_of p ids) ++ counter_members (suc p) names ids

-- the version vector of a set of identifiers
abbrev pub vector_json : List (List ℕ) → List Id → Json
vector_json names ids = json_object (counter_members 0 names ids)

abbrev pub mutation_name : Mutation → List ℕ
mutation_name (Assign v) = codes "assign"
mutation_name (Insert v) = codes "insert"
mutation_name Delete = codes "delete"

abbrev pub mutation_value : Mutation → List NamedJson
mutation_value (Assign v) = (codes "value", dumped_value v) ∷ []
mutation_value (Insert v) = (codes "value", dumped_value v) ∷ []
mutation_value Delete = []

abbrev pub op_json : List (List ℕ) → Op → Json
op_json names o = json_object (
    (codes "cursor", cursor_json names o.cursor)
    ∷ (codes "deps", vector_json names o.deps)
    ∷ (codes "id", string (id_text names o.id))
    ∷ (codes "mutation", string (mutation_name o.mutation))
    ∷ mutation_value o.mutation)
