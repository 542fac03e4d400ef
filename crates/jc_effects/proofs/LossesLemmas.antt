-- About Laws: what goes below a key goes from the key's presence set too.
use Rattle.std.proofs.Common.{◌≡◌, List, [], ◌∷◌, ◌++◌, Bool, true, false, not, ◌||◌, ◌&&◌, refl, sym, ◌∙◌, subst}
use mathlib.Core.List.{append-nil, append_assoc}
use Rattle.jc_rules.specs.declared.id.Id.{Id}
use Rattle.jc_rules.specs.declared.key.Key.{Key}
use Rattle.jc_rules.specs.declared.key.Tagged.{Tagged}
use Rattle.jc_rules.specs.declared.operation.Op.{Op}
use Rattle.jc_rules.specs.Order.{same_id}
use Rattle.jc_rules.specs.Ids.{has_id}
use Rattle.jc_rules.specs.Context.{Context, content, key_of_tagged}
use Rattle.jc_rules.specs.ContextsAt.{first_key}
use Rattle.jc_meaning.specs.Effects.{touches, clears}
use Rattle.jc_meaning.specs.Seen.{context_or_new, seen, ids_at}
use Rattle.jc_meaning.specs.ClearingEffects.{Tidy, in_key}
use Rattle.jc_meaning.proofs.OrdersLemmas.{keys_eq, keys_self}
use Rattle.jc_meaning.proofs.ClearingEffectsLemmas.{seen_append}
use Rattle.jc_meaning.proofs.OperationActsLemmas.{Changes}
use Rattle.jc_effects.specs.Laws.{IsNextTree, LosesNone}
use Rattle.jc_effects.proofs.ElsewhereLemmas.{tidy_before, changes_of}

-- an identifier below a key is in the key's presence set
pub up : (c : Context) → Tidy false c → (R P : List Tagged) (k l : Key) (i : Id) → in_key k R l ≡ true → has_id i (ids_at l (seen (P ++ R) c)) ≡ true → has_id i (ids_at k (seen P c)) ≡ true
up c t [] P k l i e h = subst (λ z. has_id i (ids_at z (seen P c)) ≡ true) (sym (keys_eq k l e)) (subst (λ Q. has_id i (ids_at l (seen Q c)) ≡ true) (append-nil P) h)
up c t (u ∷ R) P k l i e h =
    let moved : has_id i (ids_at l (seen ((P ++ u ∷ []) ++ R) c)) ≡ true = subst (λ Q. has_id i (ids_at l (seen Q c)) ≡ true) (sym (append_assoc P (u ∷ []) R)) h in
    let next : has_id i (ids_at (first_key R l) (seen (P ++ u ∷ []) c)) ≡ true = up c t R (P ++ u ∷ []) (first_key R l) l i (keys_self (first_key R l)) moved in
    let inside : has_id i (ids_at (first_key R l) (context_or_new (content u (seen P c)) u)) ≡ true = subst (λ z. has_id i (ids_at (first_key R l) z) ≡ true) (seen_append P u c) next in
    subst (λ z. has_id i (ids_at z (seen P c)) ≡ true) (sym (keys_eq k (key_of_tagged u) e)) ((t P).under u (first_key R l) i inside)

not_dep : (s t x cl y : Bool) → t ≡ false → x ≡ true → cl ≡ true → true ≡ ((s && t) || (x && not (cl && y))) → y ≡ false
not_dep true false true true true a b c h = cc
not_dep false false true true true a b c h = cc
not_dep s t x cl false a b c h = refl
not_dep s true x cl true a b c h = cc
not_dep s false false cl true a b c h = cc
not_dep s false true false true a b c h = cc

stays : (s t x cl y : Bool) → x ≡ true → y ≡ false → ((s && t) || (x && not (cl && y))) ≡ true
stays true true x cl y a b = refl
stays true false true true false a b = refl
stays true false true false false a b = refl
stays false t true true false a b = refl
stays false t true false false a b = refl
stays s t false cl y a b = cc
stays s t x cl true a b = cc

pub down : (o : Op) (c d : Context) → IsNextTree o c d → (P : List Tagged) (k : Key) → clears o P k ≡ true → touches o P k ≡ false → LosesNone k (seen P c) (seen P d)
    → (R : List Tagged) (l : Key) → in_key k R l ≡ true → (i : Id) → has_id i (ids_at l (seen (P ++ R) c)) ≡ true → has_id i (ids_at l (seen (P ++ R) d)) ≡ true
down o c d x P k cl off keeps R l e i h =
    let m : Changes o.id o.deps o.cursor.path o.cursor.last o.mutation c d = changes_of o c d x in
    let there : has_id i (ids_at k (seen P c)) ≡ true = up c (tidy_before o c d x) R P k l i e h in
    let kept : true ≡ ((same_id i o.id && touches o P k) || (has_id i (ids_at k (seen P c)) && not (clears o P k && has_id i o.deps))) = sym (keeps i there) ∙ m.ids P k i in
    let free : has_id i o.deps ≡ false = not_dep (same_id i o.id) (touches o P k) (has_id i (ids_at k (seen P c))) (clears o P k) (has_id i o.deps) off there cl kept in
    m.ids (P ++ R) l i ∙ stays (same_id i o.id) (touches o (P ++ R) l) (has_id i (ids_at l (seen (P ++ R) c))) (clears o (P ++ R) l) (has_id i o.deps) h free
