-- Lemmas about LastStep: the last step of a replica is that of its network.
use Rattle.std.proofs.Common.{◌≡◌, ◌≢◌, ℕ, zero, suc, ◌+◌, ◌-◌, ◌<◌, ◌⊎◌, inl, inr, List, [], ◌∷◌, ◌++◌, length, take, Option, Some, None, IfSome, IfNone, option_map, reverse, map, slice_get, slice_set, refl, sym, ◌∙◌, ap, subst, arith}
use Rattle.std.proofs.lemmas.Option.{same_Some, slice_get-map}
use Rattle.jc_rules.specs.declared.version.Version.{Version}
use Rattle.jc_rules.specs.State.{State}
use Rattle.jc_vectors.specs.StoredStates.{stored_state}
use Rattle.jc_replica.specs.declared.last_step.LastStep.{LastStep}
use Rattle.jc_replica.specs.LastStep.{IsLastStep, HasLastStep}
use Rattle.jc_replica.specs.ReplicaHistory.{ReplicaHistory}
use Rattle.jc_network.specs.Invariant.{IsNet}
use Rattle.jc_network.specs.LastStep.{NetHasLastStep}
use Rattle.jc_network.specs.NetworkHistory.{of_version, kept_of, network_of, earlier_of, network_history_of}
use Rattle.jc_network.proofs.InvariantLemmas.{now_reached, has_replica, undone, versions_before}
use Rattle.jc_network.proofs.MembersLemmas.{set_there, set_other}

-- each replica's stored state is that of its state
state_at : (version : Version) (count : ℕ) (is : List ℕ) (ps : List ReplicaHistory) → IsNet version count is ps → (q : ℕ) → option_map stored_state (slice_get (network_of ps) q) ≡ option_map (λ (p : ReplicaHistory). p.history.now) (slice_get ps q)
state_at version count is ps h q = go (slice_get ps q) refl
  where
    go : (o : Option ReplicaHistory) → slice_get ps q ≡ o → option_map stored_state (slice_get (network_of ps) q) ≡ option_map (λ (p : ReplicaHistory). p.history.now) (slice_get ps q)
    go None e =
        let kept : slice_get (kept_of ps) q ≡ None = slice_get-map (λ (p : ReplicaHistory). p.history.now) ps q ∙ ap (option_map (λ (p : ReplicaHistory). p.history.now)) e in
        let none : slice_get (network_of ps) q ≡ None = slice_get-map _ (kept_of ps) q ∙ ap (option_map _) kept in
        ap (option_map stored_state) none ∙ sym (ap (option_map (λ (p : ReplicaHistory). p.history.now)) e)
    go (Some p) e =
        let has = has_replica version count is ps h q p e in
        ap (option_map stored_state) has.there ∙ ap (λ (S : State). Some S) (sym has.kept) ∙ sym (ap (option_map (λ (r : ReplicaHistory). r.history.now)) e)

-- the last one of a list
from_end : {X : Type 0} (xs : List X) (n : ℕ) (x : X) → length xs ≡ n + 1 → Some x ≡ slice_get xs n → xs ≡ take n xs ++ x ∷ []
from_end [] n x l e = absurd (omega (arith, l))
from_end (y ∷ []) zero x l e = ap (λ z. z ∷ []) (sym (same_Some x y e))
from_end (y ∷ z ∷ ys) zero x l e = absurd (omega (arith, l))
from_end (y ∷ ys) (suc n) x l e = ap (λ zs. y ∷ zs) (from_end ys n x (omega (arith, l)) e)

some_there : {X : Type 0} (xs : List X) (n : ℕ) (x : X) → Some x ≡ slice_get xs n → 0 < length xs
some_there [] n x e = cc
some_there (y ∷ ys) n x e = omega arith

pub last_of : (xs ys : List ℕ) (x : ℕ) → ys ≡ xs → Some x ≡ slice_get ys (length ys - 1) → xs ≡ take (length xs - 1) xs ++ x ∷ []
last_of xs ys x e there =
    let is : Some x ≡ slice_get xs (length xs - 1) = there ∙ ap (λ (zs : List ℕ). slice_get zs (length zs - 1)) e in
    let some : 0 < length xs = some_there xs (length xs - 1) x is in
    from_end xs (length xs - 1) x (omega (arith, some)) is

-- where its replica returns one
pub if_some : {X : Type 0} (o : Option X) (P Q : X → Type 0) → ((x : X) → P x → Q x) → IfSome o P → IfSome o Q
if_some None P Q f h = tt
if_some (Some x) P Q f h = f x h

-- and it does
pub never_none : {X : Type 0} (o : Option X) (P Q : Type 0) → (P → ⊥) → IfNone o P → IfNone o Q
never_none None P Q f h = absurd (f h)
never_none (Some x) P Q f h = tt

pub net_has_last_step : (version : Version) (names : List (List ℕ)) (count : ℕ) (ps : List ReplicaHistory) (p : ℕ) (a : ReplicaHistory) (whose fewer : List ℕ) (step : LastStep) → whose ≡ fewer ++ p ∷ [] → IsNet version count (reverse whose) ps → slice_get ps p ≡ Some a → HasLastStep a.history step → NetHasLastStep (network_history_of version names (reverse whose) ps).history step
net_has_last_step version names count ps p a whose fewer step is inv there last =
    let b : ReplicaHistory = record { number = a.number; history = last.old } in
    let qs = slice_set ps p b in
    let back = undone version count ps p a b whose fewer is inv there refl (sym last.earlier) in
    let before = has_replica version count (reverse fewer) qs back.kept p b (set_there ps p a b there) in
    let after = has_replica version count (reverse whose) ps inv p a there in
    record {
      old = record { now = of_version version (network_of qs); earlier = map (of_version version) (earlier_of (reverse fewer) qs) };
      earlier = versions_before version count ps qs whose fewer back;
      reached = (back.kept.scripts, now_reached version count (reverse fewer) qs back.kept);
      number = p;
      before = before.at;
      after = after.at;
      was = before.there;
      is = after.there;
      did = subst (λ (S : State). IsLastStep S (stored_state after.at) step) before.kept (subst (λ (S : State). IsLastStep last.old.now S step) after.kept last.did);
      others = λ q other.
          state_at version count (reverse whose) ps inv q
          ∙ sym (ap (option_map (λ (r : ReplicaHistory). r.history.now)) (apart q other))
          ∙ sym (state_at version count (reverse fewer) qs back.kept q);
    }
  where
    apart : (q : ℕ) → q ≢ p → slice_get (slice_set ps p (record { number = a.number; history = last.old })) q ≡ slice_get ps q
    apart q other = go (set_other ps p q (record { number = a.number; history = last.old }))
      where
        go : (q ≡ p) ⊎ (slice_get (slice_set ps p (record { number = a.number; history = last.old })) q ≡ slice_get ps q) → slice_get (slice_set ps p (record { number = a.number; history = last.old })) q ≡ slice_get ps q
        go (inl e) = absurd (other e)
        go (inr e) = e
