-- Contexts as numbered nodes in one list, and which such lists are sound: the fast store's words for its content.
use Rattle.std.specs.Prelude.{◌≡◌, ◌≢◌, ℕ, zero, suc, ◌<◌, List, [], ◌∷◌, ◌++◌, length, Bool, false, Option, Some, None, is_some, get_or, ◌==◌}
use Rattle.jc_rules.specs.declared.id.Id.{Id}
use Rattle.jc_rules.specs.declared.key.Key.{Key}
use Rattle.jc_rules.specs.declared.key.Key.TheVariants.{Head}
use Rattle.jc_rules.specs.declared.key.Next.{Next}
use Rattle.jc_rules.specs.declared.key.Next.TheVariants.{Tail}
use Rattle.jc_rules.specs.declared.key.Tagged.{Tagged}
use Rattle.jc_rules.specs.declared.key.Tagged.TheVariants.{MapT, ListT, RegT}
use Rattle.jc_rules.specs.Order.{id_cmp, key_cmp}
use Rattle.jc_rules.specs.Entries.{find, put, keys_of}
use Rattle.jc_rules.specs.Ids.{with_id}
use Rattle.jc_rules.specs.Context.{Context, context, children, Register, empty}
use Rattle.jc_rules.specs.ContextsAt.{node_at}
use Rattle.jc_tree.specs.ContextPaths.{paths, first_path}
use Rattle.jc_tree.specs.Tree.{or_no_entries}
use Rattle.jc_tree.specs.Sorted.{AreSorted}
use Rattle.jc_tree.specs.Undo.{removed, restored, out_of_set, restored_value, former_of_id, former_of_value}
use Rattle.jc_tree.specs.declared.node.Change.{Change}
use Rattle.jc_tree.specs.declared.node.Change.TheVariants.{Child, AddId, Presence, Link, PutValue, Register as SetRegister}
use Rattle.jc_tree.specs.declared.node.Former.{Former}
use Rattle.jc_tree.specs.declared.node.Former.TheVariants as F

-- a node: its children by their numbers, all else as in a context
pub record Flat : Type 0 where
  pub maps : List (Key × ℕ)
  pub lists : List (Key × ℕ)
  pub registers : List (Key × Register)
  pub presences : List (Key × List Id)
  pub links : List (Key × Next)

-- the keys under which something stands in a node
abbrev pub flat_keys : Flat → List Key
flat_keys n = keys_of n.maps ++ keys_of n.lists ++ keys_of n.registers ++ keys_of n.presences ++ keys_of n.links

-- the node of a new map
abbrev pub blank : Flat
blank = record { maps = []; lists = []; registers = []; presences = []; links = [] }

-- the node of a new list
abbrev pub blank_list : Flat
blank_list = record { maps = []; lists = []; registers = []; presences = []; links = (Head, Tail) ∷ [] }

-- the node of what is new under a tagged key
abbrev pub new_flat : Tagged → Flat
new_flat (ListT k) = blank_list
new_flat _ = blank

-- the node with a number
abbrev pub flat_at : List Flat → ℕ → Flat
flat_at ns i = get_or ns i blank

-- with each number's context
abbrev pub filled_all : (ℕ → Context) → List (Key × ℕ) → List (Key × Context)
filled_all g [] = []
filled_all g (e ∷ es) = (e.0, g e.1) ∷ filled_all g es

abbrev pub with_children : (ℕ → Context) → Flat → Context
with_children g n =
    context (children (filled_all g n.maps)) (children (filled_all g n.lists)) n.registers n.presences n.links

-- the context of the node with a number, as deep as the first number says
abbrev pub context_of : ℕ → List Flat → ℕ → Context
context_of zero ns i = empty
context_of (suc f) ns i = with_children (λ j. context_of f ns j) (flat_at ns i)

-- the content: the context of the first node
abbrev pub content_of_arena : List Flat → Context
content_of_arena ns = context_of (length ns) ns 0

-- the number of the child under a tagged key
abbrev pub child_number : Tagged → Flat → Option ℕ
child_number (MapT k) n = find key_cmp k n.maps
child_number (ListT k) n = find key_cmp k n.lists
child_number (RegT k) n = None

-- whether the tagged key is there
abbrev pub is_in : Tagged → Flat → Bool
is_in (MapT k) n = is_some (find key_cmp k n.maps)
is_in (ListT k) n = is_some (find key_cmp k n.lists)
is_in (RegT k) n = is_some (find key_cmp k n.registers)

abbrev pub go_on : {A B : Type 0} → Option A → (A → Option B) → Option B
go_on None f = None
go_on (Some x) f = f x

-- the number of the node to which a path leads from a number
abbrev pub walk : List Flat → ℕ → List Tagged → Option ℕ
walk ns i [] = Some i
walk ns i (t ∷ ts) = go_on (child_number t (flat_at ns i)) (λ j. walk ns j ts)

-- whether it is this number
abbrev pub is_number : ℕ → Option ℕ → Bool
is_number i None = false
is_number i (Some j) = j == i

-- the path that leads to the node with the number
abbrev pub path_to : List Flat → ℕ → List Tagged
path_to ns i = first_path (λ q. is_number i (walk ns 0 q)) (paths (content_of_arena ns))

-- the path leads to the node with the number, and is the one that is found for it
pub record IsNodeAt (ns : List Flat) (i : ℕ) (at : List Tagged) : Type 0 where
  pub path : path_to ns i ≡ at
  pub walk : walk ns 0 at ≡ Some i
  pub there : node_at at (content_of_arena ns) ≢ None

-- Children have greater numbers than the node above them, each node is the child of one node under one tagged key, and
-- children rise by key.
pub record IsSoundArena (ns : List Flat) : Type 0 where
  pub inner : (i j : ℕ) (t : Tagged) → child_number t (flat_at ns i) ≡ Some j → (i < j) × (j < length ns)
  pub once : (i u j : ℕ) (t s : Tagged) → child_number t (flat_at ns i) ≡ Some j → child_number s (flat_at ns u) ≡ Some j
      → (i ≡ u) × (t ≡ s)
  pub maps_rise : (i : ℕ) → AreSorted (flat_at ns i).maps
  pub lists_rise : (i : ℕ) → AreSorted (flat_at ns i).lists

abbrev pub with_registers : List (Key × Register) → Flat → Flat
with_registers r n = record { maps = n.maps; lists = n.lists; registers = r; presences = n.presences; links = n.links }

abbrev pub with_presences : List (Key × List Id) → Flat → Flat
with_presences p n = record { maps = n.maps; lists = n.lists; registers = n.registers; presences = p; links = n.links }

abbrev pub with_links : List (Key × Next) → Flat → Flat
with_links l n = record { maps = n.maps; lists = n.lists; registers = n.registers; presences = n.presences; links = l }

abbrev pub with_child_number : Tagged → ℕ → Flat → Flat
with_child_number (MapT k) i n = record {
  maps = put key_cmp k i n.maps;
  lists = n.lists;
  registers = n.registers;
  presences = n.presences;
  links = n.links;
}
with_child_number (ListT k) i n = record {
  maps = n.maps;
  lists = put key_cmp k i n.lists;
  registers = n.registers;
  presences = n.presences;
  links = n.links;
}
with_child_number (RegT k) i n = n

abbrev pub without_number : Tagged → Flat → Flat
without_number (MapT k) n = record {
  maps = removed key_cmp k n.maps;
  lists = n.lists;
  registers = n.registers;
  presences = n.presences;
  links = n.links;
}
without_number (ListT k) n = record {
  maps = n.maps;
  lists = removed key_cmp k n.lists;
  registers = n.registers;
  presences = n.presences;
  links = n.links;
}
without_number (RegT k) n = n

-- a change that makes no node
abbrev pub IsInside : Change → Type 0
IsInside (Child (RegT k)) = Unit {0}
IsInside (Child t) = ⊥
IsInside _ = Unit {0}

-- what such a change makes of a node
abbrev pub changed_flat : Change → Flat → Flat
changed_flat (Child (RegT k)) n = with_registers (put key_cmp k [] n.registers) n
changed_flat (Child t) n = n
changed_flat (AddId k i) n =
    with_presences (put key_cmp k (with_id i (or_no_entries (find key_cmp k n.presences))) n.presences) n
changed_flat (Presence k s) n = with_presences (put key_cmp k s n.presences) n
changed_flat (Link k x) n = with_links (put key_cmp k x n.links) n
changed_flat (PutValue k i v) n =
    with_registers (put key_cmp k (put id_cmp i v (or_no_entries (find key_cmp k n.registers))) n.registers) n
changed_flat (SetRegister k v) n = with_registers (put key_cmp k v n.registers) n

-- the undo record of a new node
abbrev pub former_of_node : Tagged → Former
former_of_node (MapT k) = F.Map k
former_of_node (ListT k) = F.List k
former_of_node (RegT k) = F.Same

-- the undo record of a change
abbrev pub former_of_flat : Change → Flat → Former
former_of_flat (Child (RegT k)) n = F.Register k (find key_cmp k n.registers)
former_of_flat (Child t) n = former_of_node t
former_of_flat (AddId k i) n = former_of_id k i (find key_cmp k n.presences)
former_of_flat (Presence k s) n = F.Presence k (find key_cmp k n.presences)
former_of_flat (Link k x) n = F.Link k (find key_cmp k n.links)
former_of_flat (PutValue k i v) n = former_of_value k i (find key_cmp k n.registers)
former_of_flat (SetRegister k v) n = F.Register k (find key_cmp k n.registers)

-- with that as it was
abbrev pub restored_flat : Former → Flat → Flat
restored_flat (F.Map k) n = without_number (MapT k) n
restored_flat (F.List k) n = without_number (ListT k) n
restored_flat (F.Register k o) n = with_registers (restored key_cmp k o n.registers) n
restored_flat (F.Value k i o) n = with_registers (restored_value k i o (find key_cmp k n.registers) n.registers) n
restored_flat (F.Presence k o) n = with_presences (restored key_cmp k o n.presences) n
restored_flat (F.Link k o) n = with_links (restored key_cmp k o n.links) n
restored_flat (F.NoId k i) n = with_presences (out_of_set k i (find key_cmp k n.presences) n.presences) n
restored_flat F.Same n = n
