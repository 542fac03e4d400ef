-- The document as an application sees it, and its line; the crate's contracts cite it. The list of names has the name of
-- each replica at its number.
use Rattle.std.specs.Prelude.{ℕ, zero, suc, List, [], ◌∷◌, ◌++◌, length, filter, codes, Bool, false, cond, ◌||◌, ◌==◌, Option, Some, None, is_some}
use Rattle.json.specs.Json.{Json, string, array, object, Items, no_items, item, Members, no_members, member}
use Rattle.json.specs.Print.{print}
use Rattle.json.specs.Tree.{json_tokens}
use Rattle.jc_rules.specs.declared.id.Id.{Id}
use Rattle.jc_rules.specs.declared.key.Key.{Key}
use Rattle.jc_rules.specs.declared.key.Key.TheVariants.{Doc, Head, Name, Elem}
use Rattle.jc_rules.specs.declared.key.Next.{Next}
use Rattle.jc_rules.specs.declared.key.Next.TheVariants as N
use Rattle.jc_rules.specs.declared.key.Tagged.{Tagged}
use Rattle.jc_rules.specs.declared.key.Tagged.TheVariants.{MapT, ListT}
use Rattle.jc_rules.specs.declared.operation.Op.{Op}
use Rattle.jc_rules.specs.Order.{key_cmp}
use Rattle.jc_rules.specs.Entries.{find}
use Rattle.jc_rules.specs.Ids.{has_id}
use Rattle.jc_rules.specs.Context.{Context, context, Children, no_child, child, Register, key_of_tagged}
use Rattle.jc_rules.specs.ReplicaNames.{name_at}
use Rattle.jc_rules.specs.WellFormed.{is_some_id}
use Rattle.jc_rules.specs.State.{State}
use Rattle.jc_rules.specs.Table.{op_of}
use Rattle.jc_json.specs.Values.{value_json, pair_items}
use Rattle.jc_json.specs.declared.writing.Numbers.TheVariants.{Plain}
use Rattle.jc_meaning.specs.Effects.{goes_through}
use Rattle.jc_meaning.specs.Seen.{ids_of_some}
use Rattle.jc_meaning.specs.Meaning.{holds_of}

-- ---- one place

abbrev pub with_part : List ℕ → Option Json → Members → Members
with_part k None ms = ms
with_part k (Some j) ms = member k j ms

abbrev pub with_values : List (List ℕ) → Register → Members
with_values names [] = no_members
with_values names (e ∷ r) = member (codes "values") (array (pair_items Plain names (e ∷ r))) no_members

abbrev pub parts_json : List (List ℕ) → Register → Option Json → Option Json → Json
parts_json names r m l = object (with_part (codes "list") l (with_part (codes "map") m (with_values names r)))

-- One alternative is shown as it is. Several are all shown, under a name that no member of a map has.
abbrev pub one_of : List (List ℕ) → Register → Option Json → Option Json → Json
one_of names (e ∷ []) None None = value_json e.1
one_of names [] (Some m) None = m
one_of names [] None (Some l) = l
one_of names r m l = object (member (codes "!conflict") (parts_json names r m l) no_members)

abbrev pub or_no_value : Option Register → Register
or_no_value None = []
or_no_value (Some r) = r

abbrev pub if_alive : Bool → Option Json → Option Json
if_alive alive part = cond alive part None

-- What is shown at a key: its values in the registers, and the map and the list, where they are alive.
abbrev pub at_key : List (List ℕ) → (Tagged → Bool) → List (Key × Json) → List (Key × Json) → List (Key × Register) → Key
    → Json
at_key names alive ms ls rs k =
    one_of names (or_no_value (find key_cmp k rs))
    (if_alive (alive (MapT k)) (find key_cmp k ms))
    (if_alive (alive (ListT k)) (find key_cmp k ls))

-- ---- what is alive

-- whether the operation with an identifier goes through a tagged key of the context at a path, or makes it
abbrev pub GoesThrough : Type 0
GoesThrough = Id → List Tagged → Tagged → Bool

abbrev pub some_goes : GoesThrough → List Tagged → Tagged → List Id → Bool
some_goes goes at t [] = false
some_goes goes at t (i ∷ is) = goes i at t || some_goes goes at t is

-- A map or a list is alive where an operation whose identifier is in the presence set of its key goes through it, or
-- makes it.
abbrev pub is_alive : GoesThrough → List Tagged → List (Key × List Id) → Tagged → Bool
is_alive goes at p t = some_goes goes at t (ids_of_some (find key_cmp (key_of_tagged t) p))

abbrev pub made_or : Option Op → Option Op → Option Op
made_or None o = o
made_or (Some o) p = Some o

-- the applied operation with the identifier, one that the replica made or received
abbrev pub applied_op : State → Id → Option Op
applied_op A i = cond (has_id i A.ops) (made_or (op_of i A.queue) (op_of i A.recv)) None

abbrev pub goes_by : State → GoesThrough
goes_by A i at t = holds_of (λ o. goes_through o at t) (applied_op A i)

-- ---- maps, lists, the document

-- the presence sets that aren't empty
abbrev pub present : List (Key × List Id) → List (Key × List Id)
present p = filter (λ e. is_some_id e.1) p

-- a name that begins with `!` gets one more in front
abbrev pub marked : List ℕ → List ℕ
marked [] = []
marked (b ∷ s) = cond (b == 33) (33 ∷ b ∷ s) (b ∷ s)

-- the names among the keys, in their order, each with what is shown there
abbrev pub members_at : (Key → Json) → List (Key × List Id) → Members
members_at show [] = no_members
members_at show ((Name s, ids) ∷ p) = member (marked s) (show (Name s)) (members_at show p)
members_at show (e ∷ p) = members_at show p

-- the elements that follow the key, at most as many as the number
abbrev pub followed : Option Next → (Id → List Id) → List Id
followed (Some (N.Elem i)) more = i ∷ more i
followed _ more = []

abbrev pub elements_after : ℕ → Key → List (Key × Next) → List Id
elements_after zero k n = []
elements_after (suc most) k n = followed (find key_cmp k n) (λ i. elements_after most (Elem i) n)

-- the elements that are present, each with what is shown there
abbrev pub visible_items_at : (Key → Json) → List (Key × List Id) → List Id → Items
visible_items_at show p [] = no_items
visible_items_at show p (i ∷ is) =
    cond (is_some (find key_cmp (Elem i) p))
    (item (show (Elem i)) (visible_items_at show p is))
    (visible_items_at show p is)

-- the map, or the list, that a context at a path is
abbrev mutual
  pub map_json : List (List ℕ) → GoesThrough → List Tagged → Context → Json
  map_json names goes at (context m l r p n) =
      object (members_at
      (at_key names (is_alive goes at (present p)) (maps_in names goes at m) (lists_in names goes at l) r)
      (present p))

  pub list_json : List (List ℕ) → GoesThrough → List Tagged → Context → Json
  list_json names goes at (context m l r p n) =
      array (visible_items_at
      (at_key names (is_alive goes at (present p)) (maps_in names goes at m) (lists_in names goes at l) r)
      (present p)
      (elements_after (length n) Head n))

  pub maps_in : List (List ℕ) → GoesThrough → List Tagged → Children → List (Key × Json)
  maps_in names goes at no_child = []
  maps_in names goes at (child k c cs) = (k, map_json names goes (at ++ MapT k ∷ []) c) ∷ maps_in names goes at cs

  pub lists_in : List (List ℕ) → GoesThrough → List Tagged → Children → List (Key × Json)
  lists_in names goes at no_child = []
  lists_in names goes at (child k c cs) = (k, list_json names goes (at ++ ListT k ∷ []) c) ∷ lists_in names goes at cs

-- the document of a tree, if there is one
abbrev pub document : List (List ℕ) → GoesThrough → Context → Option Json
document names goes (context m l r p n) =
    cond (is_some (find key_cmp Doc (present p)))
    (Some (at_key names (is_alive goes [] (present p)) (maps_in names goes [] m) (lists_in names goes [] l) r Doc))
    None

-- the document of a replica, if there is one
abbrev pub visible : List (List ℕ) → State → Option Json
visible names A = document names (goes_by A) A.tree

-- ---- the line of a replica

abbrev pub line_json : List ℕ → Option Json → Json
line_json name shown = object (with_part (codes "doc") shown (member (codes "name") (string name) no_members))

abbrev pub view_json : List (List ℕ) → List ℕ → State → Json
view_json names name A = line_json name (visible names A)

unfoldable pub view_line : List (List ℕ) → List ℕ → State → List ℕ
view_line names name A = print (json_tokens (view_json names name A)) ++ 10 ∷ []

-- the lines of replicas, of which the first one has the number p
abbrev pub views_from : ℕ → List (List ℕ) → List State → List ℕ
views_from p names [] = []
views_from p names (A ∷ network) = view_line names (name_at names p) A ++ views_from (suc p) names network

-- the line of each replica, in the order of their names
abbrev pub views_text : List (List ℕ) → List State → List ℕ
views_text names network = views_from 0 names network
