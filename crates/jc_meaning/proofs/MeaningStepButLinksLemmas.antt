-- About Meaning: a derivation of one more operation leads to what the set with it means, but for links.
use Rattle.std.proofs.Common.{◌≡◌, List, [], ◌∷◌, Bool, true, false, not, ◌||◌, ◌&&◌, cond, Option, Some, None, refl, sym, ◌∙◌, ap, subst}
use Rattle.jc_rules.specs.declared.id.Id.{Id}
use Rattle.jc_rules.specs.declared.key.Key.{Key}
use Rattle.jc_rules.specs.declared.key.Tagged.{Tagged}
use Rattle.jc_rules.specs.declared.operation.Op.{Op}
use Rattle.jc_rules.specs.declared.value.Value.{Value}
use Rattle.jc_rules.specs.Order.{same_id}
use Rattle.jc_rules.specs.Ids.{has_id}
use Rattle.jc_rules.specs.Context.{Context}
use Rattle.jc_rules.specs.Derivation.{Operate, ToContext}
use Rattle.jc_rules.specs.Table.{op_of}
use Rattle.jc_rules.proofs.IdsLemmas.{same_id-true}
use Rattle.jc_meaning.specs.Effects.{is_insert, touches, clears, written_by, overwrites, goes_through}
use Rattle.jc_meaning.specs.Seen.{seen, ids_at, value_seen_at, has_tag}
use Rattle.jc_meaning.proofs.ChainLemmas.{later}
use Rattle.jc_meaning.proofs.OperationActsLemmas.{or_else, Changes, Fresh}
use Rattle.jc_rules.specs.Refused.{IsAnswered}
use Rattle.jc_meaning.specs.Meaning.{some_op, is_cleared, is_present, written_of, value_written, goes}
use Rattle.jc_meaning.proofs.NextOperationLemmas.{AllOps, NewFor, later_than, not_its_own}
use Rattle.jc_meaning.proofs.MeaningLemmas.{present_with}
use Rattle.jc_meaning.proofs.InsertEffectsLemmas.{operation_changes}
use Rattle.jc_meaning.specs.ClearingEffects.{Tidy}

-- the value of an identifier, with one operation more
module _ (S : List Op) (o : Op)
    (outside : op_of o.id S ≡ None)
    (uncleared : (P : List Tagged) (k : Key) → is_cleared S P k o.id ≡ false)
    (not_over : (P : List Tagged) (k : Key) → some_op (λ a. overwrites a P k && has_id o.id a.deps) S ≡ false)
    (not_own : has_id o.id o.deps ≡ false) where
  pub value_with : (P : List Tagged) (k : Key) (i : Id) → value_written (o ∷ S) P k i ≡ or_else (cond (same_id i o.id) (written_by o P k) None) (cond ((clears o P k || overwrites o P k) && has_id i o.deps) None (value_written S P k i))
  value_with P k i = by_cases (same_id i o.id) refl
    where
      own : (w : Option Value) (c v d x y : Bool) → d ≡ false → x ≡ false → y ≡ false → cond (((c && d) || x) || ((v && d) || y)) None w ≡ or_else w (cond ((c || v) && d) None None)
      own None true true false false false e f g = refl
      own None true false false false false e f g = refl
      own None false true false false false e f g = refl
      own None false false false false false e f g = refl
      own (Some w) true true false false false e f g = refl
      own (Some w) true false false false false e f g = refl
      own (Some w) false true false false false e f g = refl
      own (Some w) false false false false false e f g = refl
      own w c v true x y e f g = cc
      own w c v false true y e f g = cc
      own w c v false false true e f g = cc

      other : (w : Option Value) (c v d x y : Bool) → cond (((c && d) || x) || ((v && d) || y)) None w ≡ cond ((c || v) && d) None (cond (x || y) None w)
      other w true true true true y = refl
      other w true true true false y = refl
      other w true true false x y = refl
      other w true false true true y = refl
      other w true false true false y = refl
      other w true false false x y = refl
      other w false true true true y = refl
      other w false true true false y = refl
      other w false true false x y = refl
      other w false false d x y = refl

      none_there : (x : Bool) → None ≡ cond x None (written_of None P k)
      none_there true = refl
      none_there false = refl

      by_cases : (b : Bool) → same_id i o.id ≡ b → cond (((clears o P k && has_id i o.deps) || is_cleared S P k i) || ((overwrites o P k && has_id i o.deps) || some_op (λ a. overwrites a P k && has_id i a.deps) S)) None (written_of (cond b (Some o) (op_of i S)) P k)
          ≡ or_else (cond b (written_by o P k) None) (cond ((clears o P k || overwrites o P k) && has_id i o.deps) None (value_written S P k i))
      by_cases true e =
          let same : i ≡ o.id = same_id-true i o.id e in
          let none : op_of i S ≡ None = subst (λ q. op_of q S ≡ None) (sym same) outside in
          let gone : has_id i o.deps ≡ false = subst (λ q. has_id q o.deps ≡ false) (sym same) not_own in
          let clear : is_cleared S P k i ≡ false = subst (λ q. is_cleared S P k q ≡ false) (sym same) (uncleared P k) in
          let over : some_op (λ a. overwrites a P k && has_id i a.deps) S ≡ false = subst (λ q. some_op (λ a. overwrites a P k && has_id q a.deps) S ≡ false) (sym same) (not_over P k) in
          let old : None ≡ value_written S P k i = subst (λ q. None ≡ cond (is_cleared S P k i || some_op (λ a. overwrites a P k && has_id i a.deps) S) None (written_of q P k)) (sym none) (none_there (is_cleared S P k i || some_op (λ a. overwrites a P k && has_id i a.deps) S)) in
          own (written_by o P k) (clears o P k) (overwrites o P k) (has_id i o.deps) (is_cleared S P k i) (some_op (λ a. overwrites a P k && has_id i a.deps) S) gone clear over
          ∙ ap (λ v. or_else (written_by o P k) (cond ((clears o P k || overwrites o P k) && has_id i o.deps) None v)) old
      by_cases false e = other (written_of (op_of i S) P k) (clears o P k) (overwrites o P k) (has_id i o.deps) (is_cleared S P k i) (some_op (λ a. overwrites a P k && has_id i a.deps) S)

-- an identifier in no operation's deps
pub not_in_deps : (i : Id) (S : List Op) (f : Op → Bool) → AllOps (λ p. has_id i p.deps ≡ false) S → some_op (λ c. f c && has_id i c.deps) S ≡ false
not_in_deps i [] f h = refl
not_in_deps i (p ∷ ps) f h = rw (h.0, not_in_deps i ps f h.1) (no (f p))
  where
    no : (x : Bool) → ((x && false) || false) ≡ false
    no true = refl
    no false = refl

flip : (x y : Bool) → (x || y) ≡ (y || x)
flip true true = refl
flip true false = refl
flip false true = refl
flip false false = refl

-- The step theorem for tags, presences and registers: t is what S means in each, o comes next, t2 is what S with o means in each.
pub record MeansAt (O : List Op) (t : Context) : Type 0 where
  pub tags : (P : List Tagged) (u : Tagged) → has_tag u (seen P t) ≡ goes O P u
  pub ids : (P : List Tagged) (k : Key) (i : Id) → has_id i (ids_at k (seen P t)) ≡ is_present O P k i
  pub values : (P : List Tagged) (k : Key) (i : Id) → value_seen_at i k (seen P t) ≡ value_written O P k i

pub step_means : (S : List Op) (o : Op) (t t2 : Context) → op_of o.id S ≡ None → AllOps (λ p. has_id o.id p.deps ≡ false) S → has_id o.id o.deps ≡ false
    → Tidy false t → (is_insert o.mutation ≡ true → Fresh o.id o.cursor.path t) → MeansAt S t → IsAnswered (Operate t o) (ToContext t2) → MeansAt (o ∷ S) t2
step_means S o t t2 outside later own tidy fresh m a = record {
  tags = λ P u. k.tags P u ∙ ap (λ b. b || goes_through o P u) (m.tags P u) ∙ flip (goes S P u) (goes_through o P u);
  ids = λ P l i. k.ids P l i ∙ ap (λ b. (same_id i o.id && touches o P l) || (b && not (clears o P l && has_id i o.deps))) (m.ids P l i) ∙ sym (present_with S o outside uncleared own P l i);
  values = λ P l i. k.values P l i ∙ ap (λ v. or_else (cond (same_id i o.id) (written_by o P l) None) (cond ((clears o P l || overwrites o P l) && has_id i o.deps) None v)) (m.values P l i) ∙ sym (value_with S o outside uncleared (λ Q q. not_in_deps o.id S (λ c. overwrites c Q q) later) own P l i);
}
  where
    k : Changes o.id o.deps o.cursor.path o.cursor.last o.mutation t t2
    k = operation_changes false t t2 o tidy fresh a

    uncleared : (P : List Tagged) (k : Key) → is_cleared S P k o.id ≡ false
    uncleared P k = not_in_deps o.id S (λ c. clears c P k) later

pub step_new : (S : List Op) (o : Op) (t t2 : Context) → NewFor S o → Tidy false t → (is_insert o.mutation ≡ true → Fresh o.id o.cursor.path t) → MeansAt S t → IsAnswered (Operate t o) (ToContext t2) → MeansAt (o ∷ S) t2
step_new S o t t2 n tidy fresh m a = step_means S o t t2 n.outside (later_than S o n) (not_its_own S o n) tidy fresh m a
