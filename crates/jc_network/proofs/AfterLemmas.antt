-- Networks that follow from one another by events, for the proofs of this crate and of the crates above.
use Rattle.std.proofs.Common.{◌≡◌, ℕ, zero, suc, List, [], ◌∷◌, ◌++◌, length, take, slice_get, slice_set, Some, refl, sym, ◌∙◌, ap, subst}
use Rattle.jc_rules.specs.declared.operation.Event.{Event}
use Rattle.jc_rules.specs.declared.rule.Rule.{Rule}
use Rattle.jc_rules.specs.State.{State}
use Rattle.jc_rules.specs.Step.{After, Network, StepIn, AfterIn, replica_of}

-- one network after another
pub after_more : (N : Network) (es : List Event) (M : Network) (fs : List Event) (K : Network) → AfterIn N es M → AfterIn M fs K → AfterIn N (es ++ fs) K
after_more N [] M fs K a b = subst (λ (L : Network). AfterIn L fs K) (sym a) b
after_more N (e ∷ es) M fs K a b = (a.0, a.1, a.2, after_more a.0 es M fs K a.3 b)

-- one event more
pub after_one_more : (N : Network) (es : List Event) (M : Network) (e : Event) (K : Network) (rows : List (Rule × ℕ)) → AfterIn N es M → StepIn M e K rows → AfterIn N (es ++ e ∷ []) K
after_one_more N es M e K rows a s = after_more N es M (e ∷ []) K a (K, rows, s, refl)

-- events keep the version
pub after_version : (N : Network) (es : List Event) (M : Network) → AfterIn N es M → M.version ≡ N.version
after_version N [] M a = ap (λ (K : Network). K.version) (sym a)
after_version N (e ∷ es) M a = after_version a.0 es M a.3 ∙ a.2.version

-- a list with one element set has its length, the states of a network among them
pub states_set : {X : Type 0} (xs : List X) (p : ℕ) (x : X) → length (slice_set xs p x) ≡ length xs
states_set [] p x = refl
states_set (y ∷ xs) zero x = refl
states_set (y ∷ xs) (suc p) x = ap suc (states_set xs p x)

-- events add no replica
pub after_count : (N : List State) (es : List Event) (M : List State) → After N es M → length M ≡ length N
after_count N [] M a = ap length (sym a)
after_count N (e ∷ es) M a = after_count a.0 es M a.3 ∙ (ap length a.2.is_new ∙ states_set N (replica_of e) a.2.after)

-- the first elements, and the next one
pub take_more : {X : Type 0} (xs : List X) (k : ℕ) (x : X) → slice_get xs k ≡ Some x → take (suc k) xs ≡ take k xs ++ x ∷ []
take_more [] k x e = absurd cc
take_more (y ∷ xs) zero x e = let h : y ≡ x = cc in ap (λ z. z ∷ []) h
take_more (y ∷ xs) (suc k) x e = ap (λ l. y ∷ l) (take_more xs k x e)
