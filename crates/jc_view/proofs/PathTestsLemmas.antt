-- About Parts: what the tests of `alive` decide of the paths of operations.
use Rattle.std.proofs.Common.{◌≡◌, List, [], ◌∷◌, length, arith, Bool, true, false, ◌&&◌, IsTrue, ◌↔◌, Option, refl, sym, ◌∙◌, ap, subst}
use Rattle.jc_rules.specs.declared.key.Key.{Key}
use Rattle.jc_rules.specs.declared.key.Tagged.{Tagged}
use Rattle.jc_rules.specs.declared.value.Value.{Value}
use Rattle.jc_rules.proofs.BoolLemmas.{not_so}
use Rattle.jc_meaning.specs.Effects.{same_tagged, passed}
use Rattle.jc_meaning.proofs.TagsLemmas.{tags_eq, tags_self}

pub tag_told : (b : Bool) (t u : Tagged) → (IsTrue b ↔ (t ≡ u)) → b ≡ same_tagged t u
tag_told true t u h = sym (subst (λ v. same_tagged t v ≡ true) (h.0 refl) (tags_self t))
tag_told false t u h = sym (not_so (same_tagged t u) (λ e. let z : false ≡ true = h.1 (tags_eq t u e) in cc))

-- a path that goes on through the tagged key
pub passed_last : (path : List Tagged) (k : Key) (v : Option Value) (at : List Tagged) (u t : Tagged) (ts : List Tagged) (b : Bool) → path ≡ t ∷ ts → length at ≡ 0 → b ≡ same_tagged t u → b ≡ passed path k v at u
passed_last path k v [] u t ts b e f h = rw e h
passed_last path k v (s ∷ ss) u t ts b e f h = absurd (omega (arith, f))

-- two paths that part, or go on together
pub passed_apart : (path : List Tagged) (k : Key) (v : Option Value) (at : List Tagged) (u t : Tagged) (ts : List Tagged) (s : Tagged) (ss : List Tagged) → path ≡ t ∷ ts → at ≡ s ∷ ss → (t ≡ s → ⊥) → false ≡ passed path k v at u
passed_apart path k v at u t ts s ss e f apart = rw (e, f) (ap (λ b. b && passed ts k v ss u) (sym (not_so (same_tagged t s) (λ h. apart (tags_eq t s h)))))

pub passed_on : (path : List Tagged) (k : Key) (v : Option Value) (at : List Tagged) (u t : Tagged) (ts : List Tagged) (s : Tagged) (ss : List Tagged) (r : Bool) → path ≡ t ∷ ts → at ≡ s ∷ ss → t ≡ s → r ≡ passed ts k v ss u → r ≡ passed path k v at u
passed_on path k v at u t ts s ss r e f same h = rw (e, f) (h ∙ ap (λ b. b && passed ts k v ss u) (sym (subst (λ w. same_tagged t w ≡ true) same (tags_self t))))
