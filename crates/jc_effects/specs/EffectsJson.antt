-- What differs between two trees, as JSON. The list of names has the name of each replica at its number.
use Rattle.std.specs.Prelude.{ℕ, List, [], ◌∷◌, ◌++◌, map, codes, Bool, Option, Some, None}
use Rattle.json.specs.Json.{Json, null, boolean, string, array, object, Items, no_items, item, Members, no_members, member}
use Rattle.jc_rules.specs.declared.id.Id.{Id}
use Rattle.jc_rules.specs.declared.key.Key.{Key}
use Rattle.jc_rules.specs.declared.key.Next.{Next}
use Rattle.jc_rules.specs.declared.key.Next.TheVariants.{Tail, Elem as To}
use Rattle.jc_rules.specs.declared.key.Tagged.{Tagged}
use Rattle.jc_rules.specs.declared.key.Tagged.TheVariants.{MapT, ListT, RegT}
use Rattle.jc_rules.specs.Context.{Register}
use Rattle.jc_json.specs.Json.{id_text, key_text}
use Rattle.jc_json.specs.Values.{pair_items}
use Rattle.jc_json.specs.declared.writing.Numbers.TheVariants.{Named}
use Rattle.jc_effects.specs.Difference.{OwnDifference, Differences, no_difference, difference}

-- a value under a name
abbrev pub Labelled : Type 0
Labelled = List ℕ × Json

-- the members of an object, in this order
abbrev pub as_members : List Labelled → Members
as_members [] = no_members
as_members (e ∷ es) = member e.0 e.1 (as_members es)

abbrev pub as_items : List Json → Items
as_items [] = no_items
as_items (j ∷ js) = item j (as_items js)

-- the list under the name, unless it is empty
abbrev pub some_items : List ℕ → Items → List Labelled
some_items name no_items = []
some_items name (item j js) = (name, array (item j js)) ∷ []

abbrev pub id_json : List (List ℕ) → Id → Json
id_json names i = string (id_text names i)

abbrev pub some_ids : List (List ℕ) → List ℕ → List Id → List Labelled
some_ids names name ids = some_items name (as_items (map (id_json names) ids))

abbrev pub some_pairs : List (List ℕ) → List ℕ → Register → List Labelled
some_pairs names name r = some_items name (pair_items Named names r)

abbrev pub tag_word : Tagged → Json
tag_word (MapT k) = string (codes "map")
tag_word (ListT k) = string (codes "list")
tag_word (RegT k) = string (codes "register")

abbrev pub some_tags : List Tagged → List Labelled
some_tags tags = some_items (codes "made") (as_items (map tag_word tags))

-- what follows a key: an identifier's text, `tail`, or null where nothing is linked
abbrev pub link_json : List (List ℕ) → Option Next → Json
link_json names None = null
link_json names (Some Tail) = string (codes "tail")
link_json names (Some (To i)) = id_json names i

abbrev pub some_links : List (List ℕ) → Option (Option Next × Option Next) → List Labelled
some_links names None = []
some_links names (Some links) =
    (codes "next", array (item (link_json names links.0) (item (link_json names links.1) no_items))) ∷ []

abbrev pub if_shown : Option Bool → List Labelled
if_shown None = []
if_shown (Some b) = (codes "shown", boolean b) ∷ []

-- the members of a place, of which two are the places of its map and of its list
abbrev pub place_members : List (List ℕ) → Key → OwnDifference → Items → Items → List Labelled
place_members names k o m l =
    (some_ids names (codes "gained") o.gained ++ (codes "key", string (key_text names k)) ∷ [])
    ++ some_items (codes "list") l
    ++ (some_ids names (codes "lost") o.lost ++ some_tags o.made)
    ++ some_items (codes "map") m
    ++ (some_links names o.next
    ++ if_shown o.shown
    ++ some_pairs names (codes "taken") o.taken
    ++ some_pairs names (codes "written") o.written)

abbrev pub place_items : List (List ℕ) → Differences → Items
place_items names no_difference = no_items
place_items names (difference k o m l rest) =
    item (object (as_members (place_members names k o (place_items names m) (place_items names l))))
    (place_items names rest)

-- the list of what differs
abbrev pub effects_json : List (List ℕ) → Differences → Json
effects_json names x = array (place_items names x)
