-- What building a meaning adds to a tree, step by step; the contracts of `building` and `ordering` cite it.
use Rattle.std.specs.Prelude.{◌≡◌, List, [], ◌∷◌, Bool, false, not, ◌||◌, ◌&&◌, cond, Option, Some, None}
use Rattle.jc_rules.specs.declared.id.Id.{Id}
use Rattle.jc_rules.specs.declared.key.Key.{Key}
use Rattle.jc_rules.specs.declared.key.Key.TheVariants as K
use Rattle.jc_rules.specs.declared.key.Tagged.{Tagged}
use Rattle.jc_rules.specs.declared.operation.Op.{Op}
use Rattle.jc_rules.specs.declared.value.Value.{Value}
use Rattle.jc_rules.specs.Order.{same_id, same_key}
use Rattle.jc_rules.specs.Ids.{has_id}
use Rattle.jc_rules.specs.Context.{Context, next, key_of_tagged}
use Rattle.jc_meaning.specs.Effects.{same_tagged, same_path, is_delete, touches, overwrites, written_by, goes_through, is_made_by}
use Rattle.jc_meaning.specs.Seen.{seen, ids_at, value_seen_at, has_tag}
use Rattle.jc_meaning.specs.Forest.{follow}
use Rattle.jc_meaning.specs.Meaning.{some_op, is_cleared, AreFilled}

-- the first of two values that is there
abbrev pub first_some : Option Value → Option Value → Option Value
first_some (Some v) w = Some v
first_some None w = w

-- Tags, identifiers and values come to a tree, and links stay as they are. Where no presence set was empty, none is.
pub record Grows (c d : Context) (tag : List Tagged → Tagged → Bool) (id : List Tagged → Key → Id → Bool)
    (value : List Tagged → Key → Id → Option Value) : Type 0 where
  pub tags : (P : List Tagged) (u : Tagged) → has_tag u (seen P d) ≡ (has_tag u (seen P c) || tag P u)
  pub ids : (P : List Tagged) (k : Key) (i : Id)
      → has_id i (ids_at k (seen P d)) ≡ (has_id i (ids_at k (seen P c)) || id P k i)
  pub values : (P : List Tagged) (k : Key) (i : Id)
      → value_seen_at i k (seen P d) ≡ first_some (value P k i) (value_seen_at i k (seen P c))
  pub links : (P : List Tagged) (k : Key) → next k (seen P d) ≡ next k (seen P c)
  pub filled : AreFilled c → AreFilled d

abbrev pub no_tag : List Tagged → Tagged → Bool
no_tag P u = false

abbrev pub no_id : List Tagged → Key → Id → Bool
no_id P k i = false

abbrev pub no_value : List Tagged → Key → Id → Option Value
no_value P k i = None

-- the one tagged key at one place
abbrev pub tag_here : List Tagged → Tagged → List Tagged → Tagged → Bool
tag_here at t P u = same_path at P && same_tagged t u

-- the one key at one place
abbrev pub key_here : List Tagged → Key → List Tagged → Key → Bool
key_here at k P l = same_path at P && same_key k l

-- what holds of the tagged key with which a path goes on at a place
abbrev pub along : {X : Type 0} → (Tagged → X → Bool) → List Tagged → List Tagged → X → Bool
along f [] P x = false
along f (t ∷ ts) [] x = f t x
along f (t ∷ ts) (s ∷ ss) x = same_tagged t s && along f ts ss x

-- the tagged keys on a path
abbrev pub tag_on : List Tagged → List Tagged → Tagged → Bool
tag_on path P u = along same_tagged path P u

-- the keys on a path
abbrev pub key_on : List Tagged → List Tagged → Key → Bool
key_on path P k = along (λ t l. same_key l (key_of_tagged t)) path P k

-- the operation's identifier, where the operation is no delete and nothing clears the identifier at the place
abbrev pub stays : List Op → Op → List Tagged → Key → Id → Bool
stays O o P k i = same_id i o.id && (not (is_delete o.mutation) && not (is_cleared O P k i))

-- the value that the operation with the identifier wrote is cleared there, or overwritten
abbrev pub is_gone : List Op → List Tagged → Key → Id → Bool
is_gone O P k i = is_cleared O P k i || some_op (λ a. overwrites a P k && has_id i a.deps) O

-- what one of the operations contributes
abbrev pub brings_id : List Op → Op → List Tagged → Key → Id → Bool
brings_id O o P k i = same_id i o.id && (touches o P k && not (is_cleared O P k i))

abbrev pub brings_value : List Op → Op → List Tagged → Key → Id → Option Value
brings_value O o P k i = cond (same_id i o.id && not (is_gone O P k i)) (written_by o P k) None

abbrev pub Brings : List Op → Op → Context → Context → Type 0
Brings O o c d = Grows c d (goes_through o) (brings_id O o) (brings_value O o)

-- the tagged key that a value makes under a key of a place
abbrev pub made_here : List Tagged → Key → Option Value → List Tagged → Tagged → Bool
made_here at k v P u = same_path at P && is_made_by v k u

-- The links at the place are the chain from the head through these elements, and all else stays as it was.
pub record LinksIds (at : List Tagged) (is : List Id) (c d : Context) : Type 0 where
  pub tags : (P : List Tagged) (u : Tagged) → has_tag u (seen P d) ≡ has_tag u (seen P c)
  pub ids : (P : List Tagged) (k : Key) (i : Id) → has_id i (ids_at k (seen P d)) ≡ has_id i (ids_at k (seen P c))
  pub values : (P : List Tagged) (k : Key) (i : Id) → value_seen_at i k (seen P d) ≡ value_seen_at i k (seen P c)
  pub links : (P : List Tagged) (k : Key)
      → next k (seen P d) ≡ cond (same_path at P) (follow K.Head is k) (next k (seen P c))
  pub filled : AreFilled c → AreFilled d
