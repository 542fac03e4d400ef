-- What an operation touches, clears, writes and makes at a place; `Meaning` is built on it. A place is a path and a
-- key: that of k in the context below P.
use Rattle.std.specs.Prelude.{List, [], ◌∷◌, Bool, true, false, not, ◌&&◌, cond, Option, Some, None, is_some}
use Rattle.jc_rules.specs.declared.id.Id.{Id}
use Rattle.jc_rules.specs.declared.key.Key.{Key}
use Rattle.jc_rules.specs.declared.key.Key.TheVariants as K
use Rattle.jc_rules.specs.declared.key.Tagged.{Tagged}
use Rattle.jc_rules.specs.declared.key.Tagged.TheVariants.{MapT, ListT, RegT}
use Rattle.jc_rules.specs.declared.operation.Op.{Op}
use Rattle.jc_rules.specs.declared.operation.Mutation.{Mutation}
use Rattle.jc_rules.specs.declared.operation.Mutation.TheVariants as M
use Rattle.jc_rules.specs.declared.value.Value.{Value}
use Rattle.jc_rules.specs.declared.value.Value.TheVariants as V
use Rattle.jc_rules.specs.Order.{same_key}
use Rattle.jc_rules.specs.Context.{key_of_tagged}

-- whether they are the same tagged key
abbrev pub same_tagged : Tagged → Tagged → Bool
same_tagged (MapT j) (MapT k) = same_key j k
same_tagged (ListT j) (ListT k) = same_key j k
same_tagged (RegT j) (RegT k) = same_key j k
same_tagged _ _ = false

abbrev pub same_path : List Tagged → List Tagged → Bool
same_path [] [] = true
same_path (t ∷ ts) (u ∷ us) = same_tagged t u && same_path ts us
same_path _ _ = false

-- whether the place of k below P is that of l below Q, or one above it
abbrev pub is_at_or_above : List Tagged → Key → List Tagged → Key → Bool
is_at_or_above [] k [] l = same_key k l
is_at_or_above [] k (u ∷ us) l = same_key k (key_of_tagged u)
is_at_or_above (t ∷ ts) k [] l = false
is_at_or_above (t ∷ ts) k (u ∷ us) l = same_tagged t u && is_at_or_above ts k us l

abbrev pub is_list_tag : Tagged → Bool
is_list_tag (ListT k) = true
is_list_tag _ = false

-- whether the path ends in a list; for the empty path the flag says so
abbrev pub list_at : Bool → List Tagged → Bool
list_at b [] = b
list_at b (t ∷ ts) = list_at (is_list_tag t) ts

-- the key that is changed: an insert's own element, else the cursor's last key
abbrev pub target_of : Mutation → Id → Key → Key
target_of (M.Insert v) i k = K.Elem i
target_of _ i k = k

abbrev pub target : Op → Key
target o = target_of o.mutation o.id o.cursor.last

abbrev pub is_delete : Mutation → Bool
is_delete M.Delete = true
is_delete _ = false

abbrev pub is_insert : Mutation → Bool
is_insert (M.Insert v) = true
is_insert _ = false

abbrev pub is_clearing : Mutation → Bool
is_clearing M.Delete = true
is_clearing (M.Assign V.EmptyMap) = true
is_clearing (M.Assign V.EmptyList) = true
is_clearing _ = false

-- it isn't a delete, and its target is there or further down
abbrev pub touches : Op → List Tagged → Key → Bool
touches o P k = not (is_delete o.mutation) && is_at_or_above P k o.cursor.path (target o)

-- it deletes, or assigns a new map or list, there or above
abbrev pub clears : Op → List Tagged → Key → Bool
clears o P k = is_clearing o.mutation && is_at_or_above o.cursor.path (target o) P k

-- a value that goes into a register
abbrev pub primitive : Value → Option Value
primitive V.EmptyMap = None
primitive V.EmptyList = None
primitive v = Some v

abbrev pub value_in : Mutation → Option Value
value_in (M.Assign v) = Some v
value_in (M.Insert v) = Some v
value_in M.Delete = None

abbrev pub primitive_in : Option Value → Option Value
primitive_in None = None
primitive_in (Some v) = primitive v

-- the value that it writes into the register there
abbrev pub written_by : Op → List Tagged → Key → Option Value
written_by o P k = cond (same_path o.cursor.path P && same_key (target o) k) (primitive_in (value_in o.mutation)) None

-- it assigns a primitive value there
abbrev pub overwrites : Op → List Tagged → Key → Bool
overwrites o P k = not (is_insert o.mutation) && is_some (written_by o P k)

-- whether the tagged key is the one that a value makes at a key
abbrev pub is_made_by : Option Value → Key → Tagged → Bool
is_made_by None k t = false
is_made_by (Some V.EmptyMap) k t = same_tagged (MapT k) t
is_made_by (Some V.EmptyList) k t = same_tagged (ListT k) t
is_made_by (Some v) k t = same_tagged (RegT k) t

-- whether the tagged key u at P is on the path, or made by a value for the key at its end
abbrev pub passed : List Tagged → Key → Option Value → List Tagged → Tagged → Bool
passed [] k v [] u = is_made_by v k u
passed [] k v (s ∷ ss) u = false
passed (t ∷ ts) k v [] u = same_tagged t u
passed (t ∷ ts) k v (s ∷ ss) u = same_tagged t s && passed ts k v ss u

-- the operation goes through the tagged key at P, or makes it
abbrev pub goes_through : Op → List Tagged → Tagged → Bool
goes_through o P u = passed o.cursor.path (target o) (value_in o.mutation) P u
