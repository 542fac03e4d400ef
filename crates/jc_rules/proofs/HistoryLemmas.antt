-- About specs/History: what follows from the timeline of a history, the way back, and that only steps were made.
use Rattle.std.proofs.Common.{◌≡◌, ◌≤◌, ◌<◌, ◌+◌, ◌-◌, ℕ, zero, suc, List, [], ◌∷◌, ◌++◌, length, take, slice_get, unwrap_or, refl, sym, ◌∙◌, ap, subst, arith, append_assoc, append-nil, length-append, add-one}
use Rattle.jc_rules.specs.History.{History, timeline, first_of, last_or, one_back, IsLater}

-- two lists are the same, if they are with one thing more at the end
pub same_ends : {X : Type 0} (xs ys : List X) (x y : X) → xs ++ x ∷ [] ≡ ys ++ y ∷ [] → (xs ≡ ys) × (x ≡ y)
same_ends [] [] x y e = (refl, cc)
same_ends [] (b ∷ []) x y e = cc
same_ends [] (b ∷ c ∷ ys) x y e = cc
same_ends (a ∷ []) [] x y e = cc
same_ends (a ∷ c ∷ xs) [] x y e = cc
same_ends (a ∷ xs) (b ∷ ys) x y e =
    let tails : xs ++ x ∷ [] ≡ ys ++ y ∷ [] = cc in
    let heads : a ≡ b = cc in
    let rest = same_ends xs ys x y tails in
    (rw (heads, rest.0) refl, rest.1)

-- a timeline tells the history
pub same_history : {X : Type 0} (a b : History X) → timeline a ≡ timeline b → a ≡ b
same_history a b e =
    let ends = same_ends a.earlier b.earlier a.now b.now e in
    λ i. record { now = ends.1 i; earlier = ends.0 i }

take_front : {X : Type 0} (xs : List X) (x : X) (later : List X) → take (suc (length xs)) ((xs ++ x ∷ []) ++ later) ≡ xs ++ x ∷ []
take_front [] x later = refl
take_front (y ∷ ys) x later = ap (λ r. y ∷ r) (take_front ys x later)

last_end : {X : Type 0} (x y : X) (ys : List X) → last_or x (ys ++ y ∷ []) ≡ y
last_end x y [] = refl
last_end x y (z ∷ ys) = last_end z y ys

take_end : {X : Type 0} (x : X) (xs : List X) → take (length (xs ++ x ∷ []) - 1) (xs ++ x ∷ []) ≡ xs
take_end x [] = refl
take_end x (y ∷ xs) = go (length (xs ++ x ∷ [])) (some xs) (take_end x xs)
  where
    some : (ys : List _) → 0 < length (ys ++ x ∷ [])
    some [] = omega arith
    some (z ∷ ys) = omega arith

    go : (n : ℕ) → 0 < n → take (n - 1) (xs ++ x ∷ []) ≡ xs → take (suc n - 1) (y ∷ (xs ++ x ∷ [])) ≡ y ∷ xs
    go zero l e = absurd (omega (arith, l))
    go (suc n) l e =
        let f : suc n - 1 ≡ n = omega arith in
        let g : suc (suc n) - 1 ≡ suc n = omega arith in
        let h : take n (xs ++ x ∷ []) ≡ xs = subst (λ m. take m (xs ++ x ∷ []) ≡ xs) f e in
        rw g (ap (λ l2. y ∷ l2) h)

-- what a step led from is what the way back leads to
pub step_back : {X : Type 0} (a b : History X) → b.earlier ≡ timeline a → one_back b ≡ a
step_back {X} a b e = λ i. record { now = now i; earlier = earlier i }
  where
    now : last_or b.now b.earlier ≡ a.now
    now = ap (last_or b.now) e ∙ last_end b.now a.now a.earlier

    earlier : take (length b.earlier - 1) b.earlier ≡ a.earlier
    earlier = ap (λ l. take (length l - 1) l) e ∙ take_end a.now a.earlier

-- a step leaves the first as it is
pub first_more : {X : Type 0} (xs : List X) (x y z : X) → unwrap_or (slice_get ((xs ++ x ∷ []) ++ y ∷ []) 0) z ≡ unwrap_or (slice_get (xs ++ x ∷ []) 0) x
first_more [] x y z = refl
first_more (w ∷ xs) x y z = refl

pub first_step : {X : Type 0} (a b : History X) → b.earlier ≡ timeline a → first_of b ≡ first_of a
first_step a b e = ap (λ l. unwrap_or (slice_get (l ++ b.now ∷ []) 0) b.now) e ∙ first_more a.earlier a.now b.now b.now

pub still : {X : Type 0} (a : History X) → IsLater a a
still a = record { added = []; is = sym (append-nil (timeline a)) }

pub later_still : {X : Type 0} (a b c : History X) → IsLater a b → IsLater b c → IsLater a c
later_still a b c h k = record { added = h.added ++ k.added; is = rw (k.is, h.is) (append_assoc (timeline a) h.added k.added) }

pub later_step : {X : Type 0} (a b : History X) → b.earlier ≡ timeline a → IsLater a b
later_step a b e = record { added = b.now ∷ []; is = rw e refl }

-- as many steps as there were lead back to the history by then
pub undone : {X : Type 0} (a b c : History X) → IsLater a b → timeline c ≡ take (length a.earlier + 1) (timeline b) → c ≡ a
undone a b c h e = same_history c a (e ∙ rw (add-one, h.is) (take_front a.earlier a.now h.added))

pub mark_counts : {X : Type 0} (a b : History X) → IsLater a b → length a.earlier ≤ length b.earlier
mark_counts a b h =
    omega (arith, length-append b.earlier (b.now ∷ []), length-append a.earlier (a.now ∷ []), length-append (timeline a) h.added, ap length h.is)
