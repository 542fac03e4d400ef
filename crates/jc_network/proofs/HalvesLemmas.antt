-- Lemmas about lists in two parts, one element of which is changed. They serve the event that receives.
use Rattle.std.proofs.Common.{◌≡◌, ℕ, zero, suc, ◌<◌, List, [], ◌∷◌, ◌++◌, Some, length, slice_get, slice_set, slice_index_or, refl, ap}
use Rattle.std.proofs.lemmas.Option.{slice_get_read}

module _ {X : Type 0} where
  pub index_get : (xs : List X) (i : ℕ) (a : X) → i < length xs → a ≡ slice_index_or xs i a → slice_get xs i ≡ Some a
  index_get xs i a l e = slice_get_read xs (length xs) i a refl l e

  pub get_front : (xs ys : List X) (i : ℕ) (a : X) → slice_get xs i ≡ Some a → slice_get (xs ++ ys) i ≡ Some a
  get_front [] ys i a e = cc
  get_front (x ∷ xs) ys zero a e = e
  get_front (x ∷ xs) ys (suc i) a e = get_front xs ys i a e

  pub get_back : (xs ys : List X) (a : X) → slice_get ys 0 ≡ Some a → slice_get (xs ++ ys) (length xs) ≡ Some a
  get_back [] ys a e = e
  get_back (x ∷ xs) ys a e = get_back xs ys a e

  pub set_front : (xs ys : List X) (i : ℕ) (a b : X) → slice_get xs i ≡ Some a → slice_set (xs ++ ys) i b ≡ slice_set xs i b ++ ys
  set_front [] ys i a b e = cc
  set_front (x ∷ xs) ys zero a b e = refl
  set_front (x ∷ xs) ys (suc i) a b e = ap (λ l. x ∷ l) (set_front xs ys i a b e)

  pub set_back : (xs ys : List X) (b : X) → slice_set (xs ++ ys) (length xs) b ≡ xs ++ slice_set ys 0 b
  set_back [] ys b = refl
  set_back (x ∷ xs) ys b = ap (λ l. x ∷ l) (set_back xs ys b)
