-- About Laws: what comes to a place by an operation, and what goes.
use Rattle.std.proofs.Common.{◌≡◌, List, Bool, true, false, not, ◌||◌, ◌&&◌, cond, Option, Some, None, is_some, refl, sym, ◌∙◌, ap, subst}
use Rattle.jc_rules.specs.declared.id.Id.{Id}
use Rattle.jc_rules.specs.declared.key.Key.{Key}
use Rattle.jc_rules.specs.declared.key.Tagged.{Tagged}
use Rattle.jc_rules.specs.declared.operation.Op.{Op}
use Rattle.jc_rules.specs.declared.value.Value.{Value}
use Rattle.jc_rules.specs.Order.{same_id}
use Rattle.jc_rules.specs.Ids.{has_id}
use Rattle.jc_rules.specs.Context.{Context}
use Rattle.jc_rules.specs.Table.{op_of}
use Rattle.jc_rules.proofs.IdsLemmas.{same_id-true}
use Rattle.jc_meaning.specs.Effects.{touches, clears, written_by, overwrites}
use Rattle.jc_meaning.specs.Seen.{seen, ids_at, value_seen_at}
use Rattle.jc_meaning.specs.Meaning.{holds_of, is_cleared, some_op, written_of}
use Rattle.jc_meaning.proofs.OperationActsLemmas.{or_else, Changes}
use Rattle.jc_effects.specs.Laws.{IsNextTree, IsEffect}
use Rattle.jc_effects.proofs.ElsewhereLemmas.{changes_of}

-- the operation's identifier is nowhere before it
pub new_id : (o : Op) (c d : Context) → IsNextTree o c d → (P : List Tagged) (k : Key) (i : Id) → same_id i o.id ≡ true → has_id i (ids_at k (seen P c)) ≡ false
new_id o c d x P k i e = x.means.ids P k i ∙ go (op_of i x.set) (subst (λ j. op_of j x.set ≡ None) (sym (same_id-true i o.id e)) x.next.outside)
  where
    go : (p : Option Op) → p ≡ None → (holds_of (λ q. touches q P k) p && not (is_cleared x.set P k i)) ≡ false
    go None h = refl
    go (Some q) h = cc

pub new_value : (o : Op) (c d : Context) → IsNextTree o c d → (P : List Tagged) (k : Key) (i : Id) → same_id i o.id ≡ true → value_seen_at i k (seen P c) ≡ None
new_value o c d x P k i e = x.means.values P k i ∙ go (op_of i x.set) (is_cleared x.set P k i || some_op (λ a. overwrites a P k && has_id i a.deps) x.set) (subst (λ j. op_of j x.set ≡ None) (sym (same_id-true i o.id e)) x.next.outside)
  where
    go : (p : Option Op) (b : Bool) → p ≡ None → cond b None (written_of p P k) ≡ None
    go None true h = refl
    go None false h = refl
    go (Some q) b h = cc

came : (s t x cl y : Bool) → (s ≡ true → x ≡ false) → (((s && t) || (x && not (cl && y))) && not x) ≡ (s && t)
came true true true cl y f = let e : true ≡ false = f refl in cc
came true true false cl y f = refl
came true false true cl y f = let e : true ≡ false = f refl in cc
came true false false cl y f = refl
came false t true true true f = refl
came false t true true false f = refl
came false t true false y f = refl
came false t false cl y f = refl

went : (s t x cl y : Bool) → (s ≡ true → x ≡ false) → (x && not ((s && t) || (x && not (cl && y)))) ≡ (x && (cl && y))
went s t false cl y f = refl
went true t true cl y f = let e : true ≡ false = f refl in cc
went false t true true true f = refl
went false t true true false f = refl
went false t true false y f = refl

value_came : (s b : Bool) (w v : Option Value) → (s ≡ true → v ≡ None) → (is_some (or_else (cond s w None) (cond b None v)) && not (is_some v)) ≡ (s && is_some w)
value_came true b w (Some v) f = let e : Some v ≡ None = f refl in cc
value_came true b (Some w) None f = refl
value_came true true None None f = refl
value_came true false None None f = refl
value_came false true w None f = refl
value_came false false w None f = refl
value_came false true w (Some v) f = refl
value_came false false w (Some v) f = refl

value_went : (s b : Bool) (w v : Option Value) → (s ≡ true → v ≡ None) → (is_some v && not (is_some (or_else (cond s w None) (cond b None v)))) ≡ (is_some v && b)
value_went s b w None f = refl
value_went true b w (Some v) f = let e : Some v ≡ None = f refl in cc
value_went false true w (Some v) f = refl
value_went false false w (Some v) f = refl

pub effects : (o : Op) (c d : Context) → IsNextTree o c d → (P : List Tagged) (k : Key) (i : Id) → IsEffect o P k i (seen P c) (seen P d)
effects o c d x P k i =
    let m : Changes o.id o.deps o.cursor.path o.cursor.last o.mutation c d = changes_of o c d x in
    let s = same_id i o.id in
    let there = has_id i (ids_at k (seen P c)) in
    let was = value_seen_at i k (seen P c) in
    let gone = (clears o P k || overwrites o P k) && has_id i o.deps in
    record {
      gained = ap (λ z. z && not there) (m.ids P k i) ∙ came s (touches o P k) there (clears o P k) (has_id i o.deps) (new_id o c d x P k i);
      lost = ap (λ z. there && not z) (m.ids P k i) ∙ went s (touches o P k) there (clears o P k) (has_id i o.deps) (new_id o c d x P k i);
      written = ap (λ z. is_some z && not (is_some was)) (m.values P k i) ∙ value_came s gone (written_by o P k) was (new_value o c d x P k i);
      taken = ap (λ z. is_some was && not (is_some z)) (m.values P k i) ∙ value_went s gone (written_by o P k) was (new_value o c d x P k i);
    }
