-- Where an operation can be applied, and which identifiers are linked: the words of `fits` and `apply_op`.
use Rattle.std.specs.Prelude.{◌≡◌, ◌≢◌, List, [], ◌∷◌, Option, Some, None}
use Rattle.std.specs.Option.{option_map}
use Rattle.std.specs.List.{AllByRecursion}
use Rattle.jc_rules.specs.declared.id.Id.{Id}
use Rattle.jc_rules.specs.declared.key.Key.{Key}
use Rattle.jc_rules.specs.declared.key.Key.TheVariants.{Elem}
use Rattle.jc_rules.specs.declared.key.Tagged.{Tagged}
use Rattle.jc_rules.specs.declared.key.Tagged.TheVariants.{MapT, ListT, RegT}
use Rattle.jc_rules.specs.declared.operation.Cursor.{Cursor}
use Rattle.jc_rules.specs.declared.operation.Mutation.{Mutation}
use Rattle.jc_rules.specs.declared.operation.Mutation.TheVariants.{Assign, Insert, Delete}
use Rattle.jc_rules.specs.declared.operation.Op.{Op}
use Rattle.jc_rules.specs.declared.value.Value.{Value}
use Rattle.jc_rules.specs.declared.value.Value.TheVariants.{EmptyMap, EmptyList, Null}
use Rattle.jc_rules.specs.Context.{Context, context, Children, no_child, child, Content, content, new_content, next}
use Rattle.jc_rules.specs.ContextsAt.{node_in, or_empty}

-- what holds of each operation with this cursor and this mutation, whoever made it
abbrev pub EachOp : Cursor → Mutation → (Op → Type 0) → Type 0
EachOp cursor mutation P = (o : Op) → o.cursor ≡ cursor → o.mutation ≡ mutation → P o

abbrev pub content_or_new : Tagged → Option Content → Content
content_or_new k None = new_content k
content_or_new k (Some x) = x

-- the context under the tagged key, or the new one that is made there
abbrev pub child_context : Tagged → Context → Option Context
child_context k c = node_in (Some (content_or_new k (content k c)))

-- only an insert asks for something: that its place is linked
abbrev pub FitsHere : Context → Key → Mutation → Type 0
FitsHere c k (Insert v) = next k c ≢ None
FitsHere c k (Assign v) = Unit {0}
FitsHere c k Delete = Unit {0}

abbrev pub InChild : Option Context → (Context → Type 0) → Type 0
InChild None P = ⊥
InChild (Some d) P = P d

-- the path leads through contexts, some of them new, to one where the mutation fits
abbrev pub Fits : Context → List Tagged → Key → Mutation → Type 0
Fits c [] k m = FitsHere c k m
Fits c (t ∷ ts) k m = InChild (child_context t c) (λ d. Fits d ts k m)

-- the context that was just made under a tagged key
abbrev pub made_under : Option Tagged → Context
made_under o = or_empty (node_in (option_map new_content o))

-- the identifier is linked in no list of the context
abbrev mutual
  pub IsUnlinked : Id → Context → Type 0
  IsUnlinked i (context m l r p n) = AllByRecursion (λ e. e.0 ≢ Elem i) n × AreUnlinked i m × AreUnlinked i l

  pub AreUnlinked : Id → Children → Type 0
  AreUnlinked i no_child = Unit {0}
  AreUnlinked i (child k c cs) = IsUnlinked i c × AreUnlinked i cs

-- the value that makes the map or the list under the tagged key
abbrev pub empty_of : Tagged → Value
empty_of (MapT k) = EmptyMap
empty_of (ListT k) = EmptyList
empty_of (RegT k) = Null
