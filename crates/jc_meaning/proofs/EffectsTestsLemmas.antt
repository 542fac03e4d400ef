-- About Effects: what the tests of `touching` decide of paths and places.
use Rattle.std.proofs.Common.{◌≡◌, List, ◌∷◌, Bool, true, false, ◌&&◌, IsTrue, ◌↔◌, Result, Ok, Err, OnOk, refl, sym, ◌∙◌, ap, subst}
use Rattle.jc_rules.specs.declared.key.Tagged.{Tagged}
use Rattle.jc_rules.specs.declared.key.Key.{Key}
use Rattle.jc_rules.proofs.BoolLemmas.{not_so}
use Rattle.jc_meaning.specs.Effects.{same_tagged, same_path, is_at_or_above}
use Rattle.jc_meaning.proofs.NextOperationLemmas.{paths_self, paths_eq}
use Rattle.jc_meaning.proofs.TagsLemmas.{tags_eq, tags_self}

pub path_told : (b : Bool) (P Q : List Tagged) → (IsTrue b ↔ (P ≡ Q)) → b ≡ same_path P Q
path_told true P Q h = sym (subst (λ R. same_path P R ≡ true) (h.0 refl) (paths_self P))
path_told false P Q h = sym (not_so (same_path P Q) (λ e. let z : false ≡ true = h.1 (paths_eq P Q e) in cc))

-- two paths that part, or go on together
pub above_apart : (path : List Tagged) (last : Key) (at : List Tagged) (key : Key) (t : Tagged) (ts : List Tagged) (u : Tagged) (us : List Tagged) → path ≡ t ∷ ts → at ≡ u ∷ us → (t ≡ u → ⊥) → false ≡ is_at_or_above path last at key
above_apart path last at key t ts u us e f apart = rw (e, f) (ap (λ b. b && is_at_or_above ts last us key) (sym (not_so (same_tagged t u) (λ h. apart (tags_eq t u h)))))

pub above_on : (path : List Tagged) (last : Key) (at : List Tagged) (key : Key) (t : Tagged) (ts : List Tagged) (u : Tagged) (us : List Tagged) (r : Bool) → path ≡ t ∷ ts → at ≡ u ∷ us → t ≡ u → r ≡ is_at_or_above ts last us key → r ≡ is_at_or_above path last at key
above_on path last at key t ts u us r e f same h = rw (e, f) (h ∙ ap (λ b. b && is_at_or_above ts last us key) (sym (subst (λ v. same_tagged t v ≡ true) same (tags_self t))))

pub on_ok : {A E : Type 0} (r : Result A E) (P Q : Type 0) → (P → Q) → OnOk r P → OnOk r Q
on_ok (Ok x) P Q f p = f p
on_ok (Err e) P Q f p = p
