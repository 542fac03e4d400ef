-- About Meaning: operations with version vectors mean what they mean with the dependencies that these represent.
use Rattle.std.proofs.Common.{◌≡◌, List, [], ◌∷◌, map, Bool, true, false, not, ◌||◌, ◌&&◌, cond, Option, Some, None, refl, sym, ◌∙◌, ap}
use Rattle.jc_rules.specs.declared.id.Id.{Id}
use Rattle.jc_rules.specs.declared.key.Key.{Key}
use Rattle.jc_rules.specs.declared.key.Key.TheVariants as K
use Rattle.jc_rules.specs.declared.key.Tagged.{Tagged}
use Rattle.jc_rules.specs.declared.operation.Op.{Op}
use Rattle.jc_rules.specs.declared.value.Value.{Value}
use Rattle.jc_rules.specs.Context.{Context}
use Rattle.jc_rules.specs.VersionVectors.{covered}
use Rattle.jc_rules.specs.Ids.{has_id}
use Rattle.jc_rules.specs.Order.{same_id}
use Rattle.jc_rules.specs.Sound.{IsSound}
use Rattle.jc_rules.specs.Table.{op_of}
use Rattle.jc_rules.proofs.IdsLemmas.{same_id-true}
use Rattle.jc_rules.proofs.RepresentationLemmas.{counters_tell}
use Rattle.jc_vectors.specs.StoredStates.{AreOf, stored_op}
use Rattle.jc_vectors.proofs.ApplyStandsLemmas.{deps_closed}
use Rattle.jc_meaning.specs.Effects.{list_at, touches, clears, overwrites, goes_through}
use Rattle.jc_meaning.specs.Seen.{seen}
use Rattle.jc_meaning.specs.Meaning.{some_op, holds_of, is_cleared, is_present, written_of, value_written, names, hangs_at, LinksOf, IsMeaning}
use Rattle.jc_meaning.proofs.LinkEffectsLemmas.{hangs_same}

some_kept : (f : Op → Bool) → ((o : Op) → f (stored_op o) ≡ f o) → (os : List Op) → some_op f (map stored_op os) ≡ some_op f os
some_kept f same [] = refl
some_kept f same (o ∷ os) = ap (λ b. b || some_op f (map stored_op os)) (same o) ∙ ap (λ b. f o || b) (some_kept f same os)

abbrev pub kept_of : Option Op → Option Op
kept_of None = None
kept_of (Some o) = Some (stored_op o)

pub found_kept : (i : Id) (os : List Op) → op_of i (map stored_op os) ≡ kept_of (op_of i os)
found_kept i [] = refl
found_kept i (o ∷ os) = go (same_id i o.id) (found_kept i os)
  where
    go : (b : Bool) → op_of i (map stored_op os) ≡ kept_of (op_of i os) → cond b (Some (stored_op o)) (op_of i (map stored_op os)) ≡ kept_of (cond b (Some o) (op_of i os))
    go true h = refl
    go false h = h

abbrev nothing_at : Bool → Option Value
nothing_at b = cond b None None

module _ (set : List Op) (sound : IsSound set) where
  -- an operation that some of these depend on
  depending : (f : Op → Bool) → ((o : Op) → f (stored_op o) ≡ f o) → (i : Id) (e : Op) → op_of i set ≡ Some e → (os : List Op) → AreOf set os
      → some_op (λ c. f c && has_id i c.deps) (map stored_op os) ≡ some_op (λ c. f c && has_id i c.deps) os
  depending f same i e known [] of = refl
  depending f same i e known (o ∷ os) of =
      let told : has_id i (covered o.deps) ≡ has_id i o.deps = counters_tell set o.deps sound (deps_closed set o.id o sound of.0) i e known in
      ap (λ b. (b && has_id i (covered o.deps)) || some_op (λ c. f c && has_id i c.deps) (map stored_op os)) (same o)
      ∙ ap (λ b. (f o && b) || some_op (λ c. f c && has_id i c.deps) (map stored_op os)) told
      ∙ ap (λ b. (f o && has_id i o.deps) || b) (depending f same i e known os of.1)

  found_in : (os : List Op) → AreOf set os → (i : Id) (o : Op) → op_of i os ≡ Some o → op_of i set ≡ Some o
  found_in [] of i o h = cc
  found_in (p ∷ ps) of i o h = go (same_id i p.id) refl (found_in ps of.1 i o) h
    where
      go : (b : Bool) → same_id i p.id ≡ b → (op_of i ps ≡ Some o → op_of i set ≡ Some o) → cond b (Some p) (op_of i ps) ≡ Some o → op_of i set ≡ Some o
      go true e ih g = ap (λ q. op_of q set) (same_id-true i p.id e) ∙ of.0 ∙ g
      go false e ih g = ih g

  module _ (own : List Op) (of : AreOf set own) where
    ids_kept : (P : List Tagged) (k : Key) (i : Id) → is_present (map stored_op own) P k i ≡ is_present own P k i
    ids_kept P k i = ap (λ z. holds_of (λ o. touches o P k) z && not (is_cleared (map stored_op own) P k i)) (found_kept i own) ∙ go (op_of i own) refl
      where
        go : (o : Option Op) → op_of i own ≡ o → (holds_of (λ o. touches o P k) (kept_of (op_of i own)) && not (is_cleared (map stored_op own) P k i)) ≡ (holds_of (λ o. touches o P k) (op_of i own) && not (is_cleared own P k i))
        go None e = rw e refl
        go (Some o) e = rw e (ap (λ b. touches o P k && not b) (depending (λ c. clears c P k) (λ o. refl) i o (found_in own of i o e) own of))

    values_kept : (P : List Tagged) (k : Key) (i : Id) → value_written (map stored_op own) P k i ≡ value_written own P k i
    values_kept P k i = ap (λ z. cond (is_cleared (map stored_op own) P k i || some_op (λ a. overwrites a P k && has_id i a.deps) (map stored_op own)) None (written_of z P k)) (found_kept i own) ∙ go (op_of i own) refl
      where
        nothing : (a b : Bool) → nothing_at a ≡ nothing_at b
        nothing true true = refl
        nothing true false = refl
        nothing false true = refl
        nothing false false = refl

        go : (o : Option Op) → op_of i own ≡ o
            → cond (is_cleared (map stored_op own) P k i || some_op (λ a. overwrites a P k && has_id i a.deps) (map stored_op own)) None (written_of (kept_of (op_of i own)) P k)
            ≡ cond (is_cleared own P k i || some_op (λ a. overwrites a P k && has_id i a.deps) own) None (written_of (op_of i own) P k)
        go None e = rw e (nothing (is_cleared (map stored_op own) P k i || some_op (λ a. overwrites a P k && has_id i a.deps) (map stored_op own)) (is_cleared own P k i || some_op (λ a. overwrites a P k && has_id i a.deps) own))
        go (Some o) e =
            let known = found_in own of i o e in
            rw e (
            ap (λ b. cond (b || some_op (λ a. overwrites a P k && has_id i a.deps) (map stored_op own)) None (written_of (Some o) P k)) (depending (λ c. clears c P k) (λ o. refl) i o known own of)
            ∙ ap (λ b. cond (is_cleared own P k i || b) None (written_of (Some o) P k)) (depending (λ a. overwrites a P k) (λ o. refl) i o known own of)
            )

    hangs_kept : (P : List Tagged) (k : Key) (i : Id) → hangs_at (map stored_op own) P k i ≡ hangs_at own P k i
    hangs_kept P k i = ap (holds_of (names P k)) (found_kept i own) ∙ go (op_of i own)
      where
        go : (o : Option Op) → holds_of (names P k) (kept_of o) ≡ holds_of (names P k) o
        go None = refl
        go (Some o) = refl

    links_kept : (b : Bool) (P : List Tagged) (c : Context) → LinksOf b (map stored_op own) P c → LinksOf b own P c
    links_kept false P c h = h
    links_kept true P c h = (h.0, hangs_same (hangs_at (map stored_op own) P) (hangs_at own P) (λ k i. sym (hangs_kept P k i)) K.Head None h.0 h.1, h.2)

    pub meant_kept : (t : Context) → IsMeaning (map stored_op own) t → IsMeaning own t
    meant_kept t m = record {
      means = record {
        tags = λ P u. m.means.tags P u ∙ some_kept (λ o. goes_through o P u) (λ o. refl) own;
        ids = λ P k i. m.means.ids P k i ∙ ids_kept P k i;
        values = λ P k i. m.means.values P k i ∙ values_kept P k i;
        links = λ P. links_kept (list_at false P) P (seen P t) (m.means.links P);
      };
      filled = m.filled;
    }
