-- Lemmas about OpLists: a list behind spare ones, with one more or one less.
use Rattle.std.proofs.Common.{◌≡◌, ℕ, zero, suc, ◌+◌, ◌≤◌, ◌<◌, List, [], ◌∷◌, ◌++◌, length, take, drop, insert, remove, length-append, length-drop, refl, ◌∙◌, ap, arith}
use Rattle.jc_rules.specs.declared.operation.Op.{Op}
use Rattle.jc_replica.proofs.ReceivedLemmas.{take-drop}

-- one more, or one less, where those behind its place move
pub inserted_behind : (s p n : ℕ) (os : List Op) (o : Op) → n ≡ s + p → s ≤ length os → drop s (insert os n o) ≡ insert (drop s os) p o
inserted_behind zero p n os o e l = let same : n ≡ p = omega (arith, e) in ap (λ (m : ℕ). insert os m o) same
inserted_behind (suc s) p n [] o e l = absurd (omega arith)
inserted_behind (suc s) p zero (q ∷ os) o e l = absurd (omega (arith, e))
inserted_behind (suc s) p (suc n) (q ∷ os) o e l = inserted_behind s p n os o (omega (arith, e)) (omega arith)

pub removed_behind : (s p n : ℕ) (os : List Op) → n ≡ s + p → s ≤ length os → drop s (remove os n) ≡ remove (drop s os) p
removed_behind zero p n os e l = let same : n ≡ p = omega (arith, e) in ap (remove os) same
removed_behind (suc s) p n [] e l = absurd (omega arith)
removed_behind (suc s) p zero (q ∷ os) e l = absurd (omega (arith, e))
removed_behind (suc s) p (suc n) (q ∷ os) e l = removed_behind s p n os (omega (arith, e)) (omega arith)

-- one less, where those before its place move

dropped_past : (s : ℕ) (os rest : List Op) → s ≤ length os → drop (suc s) (take s os ++ rest) ≡ drop 1 rest
dropped_past zero os rest l = refl
dropped_past (suc s) [] rest l = absurd (omega arith)
dropped_past (suc s) (o ∷ os) rest l = dropped_past s os rest (omega arith)

last_taken : (p : ℕ) (os : List Op) → p < length os → (o : Op) × (drop p (take (suc p) os) ≡ o ∷ [])
last_taken p [] l = absurd (omega arith)
last_taken zero (o ∷ os) l = (o, refl)
last_taken (suc p) (o ∷ os) l = last_taken p os (omega arith)

taken_again : (p : ℕ) (os : List Op) → take p (take (suc p) os) ≡ take p os
taken_again zero os = refl
taken_again (suc p) [] = refl
taken_again (suc p) (o ∷ os) = ap (λ (x : List Op). o ∷ x) (taken_again p os)

turned : (p : ℕ) (os : List Op) → p < length os → drop 1 ((drop p (take (suc p) os) ++ take p (take (suc p) os)) ++ drop (suc p) os) ≡ remove os p
turned p os l =
    let one = last_taken p os l in
    rw (one.1, taken_again p os) refl

pub removed_before : (s p n k : ℕ) (os ws : List Op) → n ≡ s + 1 → k ≡ p + 1 → s + p < length os → ws ≡ drop p (take k (drop s os)) ++ take p (take k (drop s os)) → drop n (take s os ++ (ws ++ drop k (drop s os))) ≡ remove (drop s os) p
removed_before s p n k os ws ne ke l e =
    let n2 : n ≡ suc s = omega (arith, ne) in
    let k2 : k ≡ suc p = omega (arith, ke) in
    rw (n2, e, k2) (dropped_past s os _ (omega (arith, l)) ∙ turned p (drop s os) (omega (arith, l, length-drop s os)))

-- as long as before
pub turned_long : (s k : ℕ) (os ws : List Op) → length ws ≡ length (take k (drop s os)) → length (take s os ++ (ws ++ drop k (drop s os))) ≡ length os
turned_long s k os ws e =
    let mid = take k (drop s os) in
    let post = drop k (drop s os) in
    let parts : take s os ++ (mid ++ post) ≡ os = ap (λ (x : List Op). take s os ++ x) (take-drop k (drop s os)) ∙ take-drop s os in
    omega (arith, e, ap length parts, length-append (take s os) (mid ++ post), length-append mid post, length-append (take s os) (ws ++ post), length-append ws post)
