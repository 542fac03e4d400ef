-- Contexts: what a node of a document contains. The table reads and changes them.
use Rattle.std.specs.Prelude.{List, [], ◌∷◌, ◌++◌, Option, Some, None}
use Rattle.jc_rules.specs.declared.id.Id.{Id}
use Rattle.jc_rules.specs.declared.key.Key.{Key}
use Rattle.jc_rules.specs.declared.key.Key.TheVariants.{Head}
use Rattle.jc_rules.specs.declared.key.Tagged.{Tagged}
use Rattle.jc_rules.specs.declared.key.Tagged.TheVariants.{MapT, ListT, RegT}
use Rattle.jc_rules.specs.declared.key.Next.{Next}
use Rattle.jc_rules.specs.declared.key.Next.TheVariants.{Tail}
use Rattle.jc_rules.specs.declared.value.Value.{Value}
use Rattle.jc_rules.specs.declared.value.Value.TheVariants as V
use Rattle.jc_rules.specs.Order.{key_cmp}
use Rattle.jc_rules.specs.Entries.{find, put, keys_of}

-- the values of a register, each with its operation's identifier, by identifier
abbrev pub Register : Type 0
Register = List (Id × Value)

-- a value that a register keeps: neither `{}` nor `[]`
abbrev pub IsPrimitive : Value → Type 0
IsPrimitive V.EmptyMap = ⊥
IsPrimitive V.EmptyList = ⊥
IsPrimitive _ = Unit {0}

-- The entries of a context by kind, those of each kind by key: children under mapT, children under listT, registers,
-- presence sets, and what follows each key of a list.
mutual
  pub data Context : Type 0 where
    context : Children → Children → List (Key × Register) → List (Key × List Id) → List (Key × Next) → Context

  pub data Children : Type 0 where
    no_child : Children
    child : Key → Context → Children → Children

-- children as the list of them
abbrev pub listed : Children → List (Key × Context)
listed no_child = []
listed (child k c cs) = (k, c) ∷ listed cs

abbrev pub children : List (Key × Context) → Children
children [] = no_child
children (e ∷ es) = child e.0 e.1 (children es)

abbrev pub maps : Context → List (Key × Context)
maps (context m l r p n) = listed m

abbrev pub lists : Context → List (Key × Context)
lists (context m l r p n) = listed l

abbrev pub registers : Context → List (Key × Register)
registers (context m l r p n) = r

abbrev pub presences : Context → List (Key × List Id)
presences (context m l r p n) = p

abbrev pub links : Context → List (Key × Next)
links (context m l r p n) = n

-- a new map
abbrev pub empty : Context
empty = context no_child no_child [] [] []

-- a new list
abbrev pub empty_list : Context
empty_list = context no_child no_child [] [] ((Head, Tail) ∷ [])

-- what is under a tagged key
pub data Content : Type 0 where
  Node : Context → Content
  Values : Register → Content

abbrev pub node_of : Option Context → Option Content
node_of None = None
node_of (Some c) = Some (Node c)

abbrev pub values_of : Option Register → Option Content
values_of None = None
values_of (Some r) = Some (Values r)

abbrev pub content : Tagged → Context → Option Content
content (MapT k) c = node_of (find key_cmp k (maps c))
content (ListT k) c = node_of (find key_cmp k (lists c))
content (RegT k) c = values_of (find key_cmp k (registers c))

-- with this content under the tagged key
abbrev pub with_content : Tagged → Content → Context → Context
with_content (MapT k) (Node d) (context m l r p n) = context (children (put key_cmp k d (listed m))) l r p n
with_content (ListT k) (Node d) (context m l r p n) = context m (children (put key_cmp k d (listed l))) r p n
with_content (RegT k) (Values v) (context m l r p n) = context m l (put key_cmp k v r) p n
with_content _ _ c = c

-- what is new under a tagged key
abbrev pub new_content : Tagged → Content
new_content (MapT k) = Node empty
new_content (ListT k) = Node empty_list
new_content (RegT k) = Values []

abbrev pub presence : Key → Context → Option (List Id)
presence k c = find key_cmp k (presences c)

abbrev pub with_presence : Key → List Id → Context → Context
with_presence k s (context m l r p n) = context m l r (put key_cmp k s p) n

abbrev pub next : Key → Context → Option Next
next k c = find key_cmp k (links c)

abbrev pub with_next : Key → Next → Context → Context
with_next k n (context m l r p ns) = context m l r p (put key_cmp k n ns)

abbrev pub key_of_tagged : Tagged → Key
key_of_tagged (MapT k) = k
key_of_tagged (ListT k) = k
key_of_tagged (RegT k) = k

-- the keys with a tag in the context
abbrev pub keys : Context → List Key
keys c = keys_of (maps c) ++ keys_of (lists c) ++ keys_of (registers c)
