-- About Effects: what an operation changes in what is seen (`Changes`), by its parts: identifier, deps, path,
-- last key, mutation.
use Rattle.std.proofs.Common.{◌≡◌, List, Bool, true, false, not, ◌||◌, ◌&&◌, cond, Option, Some, None, is_some, ◌⊎◌}
use Rattle.jc_rules.specs.declared.id.Id.{Id}
use Rattle.jc_rules.specs.declared.key.Key.{Key}
use Rattle.jc_rules.specs.declared.key.Key.TheVariants as K
use Rattle.jc_rules.specs.declared.key.Tagged.{Tagged}
use Rattle.jc_rules.specs.declared.operation.Op.{Op}
use Rattle.jc_rules.specs.declared.operation.Mutation.{Mutation}
use Rattle.jc_rules.specs.declared.value.Value.{Value}
use Rattle.jc_rules.specs.Order.{same_id, same_key}
use Rattle.jc_rules.specs.Ids.{has_id, with_id}
use Rattle.jc_rules.specs.Context.{Context, Content, content, new_content, with_presence, next, key_of_tagged}
use Rattle.jc_rules.specs.Derivation.{Answer, ToContext, ToContent}
use Rattle.jc_meaning.specs.Effects.{same_path, is_at_or_above, target_of, is_delete, is_insert, is_clearing, value_in, primitive_in, passed}
use Rattle.jc_meaning.specs.Seen.{context_or_new, seen, ids_at, value_seen_at, has_tag}
use Rattle.jc_meaning.specs.Forest.{follow}
use Rattle.jc_meaning.proofs.ChainLemmas.{after, key_in}
use Rattle.jc_meaning.proofs.InsertWalkLemmas.{Distinct}
use Rattle.jc_meaning.specs.ClearingEffects.{Tidy}

abbrev pub touched : List Tagged → Key → Mutation → List Tagged → Key → Bool
touched path k m P l = not (is_delete m) && is_at_or_above P l path k

abbrev pub cleared : List Tagged → Key → Mutation → List Tagged → Key → Bool
cleared path k m P l = is_clearing m && is_at_or_above path k P l

abbrev pub written : List Tagged → Key → Mutation → List Tagged → Key → Option Value
written path k m P l = cond (same_path path P && same_key k l) (primitive_in (value_in m)) None

abbrev pub overwritten : List Tagged → Key → Mutation → List Tagged → Key → Bool
overwritten path k m P l = not (is_insert m) && is_some (written path k m P l)

abbrev pub or_else : Option Value → Option Value → Option Value
or_else (Some v) w = Some v
or_else None w = w

pub record Changes (i : Id) (deps : List Id) (path : List Tagged) (last : Key) (m : Mutation) (c d : Context) : Type 0 where
  pub tags : (P : List Tagged) (u : Tagged) → has_tag u (seen P d) ≡ (has_tag u (seen P c) || passed path (target_of m i last) (value_in m) P u)
  pub ids : (P : List Tagged) (l : Key) (j : Id) → has_id j (ids_at l (seen P d)) ≡ ((same_id j i && touched path (target_of m i last) m P l) || (has_id j (ids_at l (seen P c)) && not (cleared path (target_of m i last) m P l && has_id j deps)))
  pub values : (P : List Tagged) (l : Key) (j : Id) → value_seen_at j l (seen P d) ≡ or_else (cond (same_id j i) (written path (target_of m i last) m P l) None) (cond ((cleared path (target_of m i last) m P l || overwritten path (target_of m i last) m P l) && has_id j deps) None (value_seen_at j l (seen P c)))
  pub links : is_insert m ≡ false → (P : List Tagged) (l : Key) → next l (seen P d) ≡ next l (seen P c)
  pub elsewhere : (P : List Tagged) (l : Key) → same_path path P ≡ false → next l (seen P d) ≡ next l (seen P c)
  pub linked : is_insert m ≡ true → (ns : List Id) → Distinct K.Head ns → key_in (K.Elem i) ns ≡ false → ((l : Key) → next l (seen path c) ≡ follow K.Head ns l) → (l : Key) → next l (seen path d) ≡ follow K.Head (after last i K.Head ns) l

-- nothing is at the new element or below it
abbrev pub Fresh : Id → List Tagged → Context → Type 0
Fresh i path c = (P : List Tagged) (l : Key) (j : Id) → is_at_or_above path (K.Elem i) P l ≡ true → (has_id j (ids_at l (seen P c)) ≡ false) × (value_seen_at j l (seen P c) ≡ None)

abbrev pub OfOperate : Context → Op → Answer → Type 0
OfOperate c o (ToContext d) = (b : Bool) → Tidy b c → (is_insert o.mutation ≡ true → Fresh o.id o.cursor.path c) → Changes o.id o.deps o.cursor.path o.cursor.last o.mutation c d
OfOperate c o _ = Unit {0}

abbrev pub node_content : Content → Tagged → Context
node_content x t = context_or_new (Some x) t

abbrev pub OfChild : Context → Tagged → Answer → Type 0
OfChild c t (ToContent x) = (content t c ≡ Some x) ⊎ ((content t c ≡ None) × (x ≡ new_content t))
OfChild c t _ = Unit {0}

abbrev pub OfAdd : Context → Tagged → Id → Mutation → Answer → Type 0
OfAdd c t i m (ToContext d) = (is_delete m ≡ true → d ≡ c) × (is_delete m ≡ false → d ≡ with_presence (key_of_tagged t) (with_id i (ids_at (key_of_tagged t) c)) c)
OfAdd c t i m _ = Unit {0}
