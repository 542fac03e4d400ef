-- Identifiers, keys, values and trees of documents as JSON; jc_dump cites it. `names` has each replica's name at its
-- number.
use Rattle.std.specs.Prelude.{ℕ, List, [], ◌∷◌, ◌++◌, map, codes, decimal, true, false}
use Rattle.serde_json.specs.Data.{Data, null, boolean, string, array, object, no_items, Members, no_members, put}
use Rattle.serde_json.specs.View.{items_of}
use Rattle.serde_json.specs.Written.{compact_text}
use Rattle.jc_rules.specs.declared.id.Id.{Id}
use Rattle.jc_rules.specs.declared.key.Key.{Key}
use Rattle.jc_rules.specs.declared.key.Key.TheVariants.{Doc, Head, Name, Elem}
use Rattle.jc_rules.specs.declared.key.Tagged.{Tagged}
use Rattle.jc_rules.specs.declared.key.Tagged.TheVariants.{MapT, ListT, RegT}
use Rattle.jc_rules.specs.declared.key.Next.{Next}
use Rattle.jc_rules.specs.declared.key.Next.TheVariants as N
use Rattle.jc_rules.specs.declared.value.Value.{Value}
use Rattle.jc_rules.specs.declared.value.Value.TheVariants as V
use Rattle.jc_rules.specs.Context.{Context, context, Children, no_child, child, Register}
use Rattle.jc_rules.specs.ReplicaNames.{name_at}

-- ---- texts

-- `c@name`
abbrev pub id_text : List (List ℕ) → Id → List ℕ
id_text names i = decimal i.counter ++ codes "@" ++ name_at names i.replica

-- a map's key as a JSON string
abbrev pub key_text : List (List ℕ) → Key → List ℕ
key_text names Doc = codes "doc"
key_text names Head = codes "head"
key_text names (Name s) = compact_text (string s)
key_text names (Elem i) = id_text names i

-- a key's text and the bracket with which the name of its member ends
abbrev pub closed_text : List (List ℕ) → Key → List ℕ
closed_text names k = key_text names k ++ codes ")"

-- a kind of entry, and a key in brackets
abbrev pub entry_text : List ℕ → List (List ℕ) → Key → List ℕ
entry_text kind names k = kind ++ codes "(" ++ key_text names k ++ codes ")"

abbrev pub tagged_text : List (List ℕ) → Tagged → List ℕ
tagged_text names (MapT k) = entry_text (codes "mapT") names k
tagged_text names (ListT k) = entry_text (codes "listT") names k
tagged_text names (RegT k) = entry_text (codes "regT") names k

abbrev pub next_text : List (List ℕ) → Next → List ℕ
next_text names N.Tail = codes "tail"
next_text names (N.Elem i) = id_text names i

-- ---- lists and objects

abbrev pub texts_data : List (List ℕ) → Data
texts_data texts = array (items_of (map string texts))

abbrev pub ids_data : List (List ℕ) → List Id → Data
ids_data names ids = texts_data (map (λ i. id_text names i) ids)

-- with these members too, each in its place by the bytes of its name
abbrev pub put_all : List (List ℕ × Data) → Members → Members
put_all [] ms = ms
put_all (e ∷ es) ms = put_all es (put e.0 e.1 ms)

-- the object with these members, in the order of their names
abbrev pub object_of : List (List ℕ × Data) → Data
object_of es = object (put_all es no_members)

-- ---- values, contexts

abbrev pub value_data : Value → Data
value_data (V.Number s) = object_of ((codes "n", string s) ∷ [])
value_data (V.Str s) = string s
value_data V.True = boolean true
value_data V.False = boolean false
value_data V.Null = null
value_data V.EmptyMap = object_of []
value_data V.EmptyList = array no_items

abbrev pub value_member : List (List ℕ) → Id × Value → List ℕ × Data
value_member names e = (id_text names e.0, value_data e.1)

abbrev pub register_data : List (List ℕ) → Register → Data
register_data names r = object_of (map (value_member names) r)

abbrev pub register_member : List (List ℕ) → Key × Register → List ℕ × Data
register_member names e = (tagged_text names (RegT e.0), register_data names e.1)

abbrev pub presence_member : List (List ℕ) → Key × List Id → List ℕ × Data
presence_member names e = (entry_text (codes "pres") names e.0, ids_data names e.1)

abbrev pub next_member : List (List ℕ) → Key × Next → List ℕ × Data
next_member names e = (entry_text (codes "next") names e.0, string (next_text names e.1))

abbrev mutual
  pub context_data : List (List ℕ) → Context → Data
  context_data names (context m l r p n) =
      object_of (child_members names MapT m ++ child_members names ListT l ++ map (register_member names) r
      ++ map (presence_member names) p ++ map (next_member names) n)

  -- each child under its tagged key
  pub child_members : List (List ℕ) → (Key → Tagged) → Children → List (List ℕ × Data)
  child_members names tag no_child = []
  child_members names tag (child k c cs) =
      (tagged_text names (tag k), context_data names c) ∷ child_members names tag cs
