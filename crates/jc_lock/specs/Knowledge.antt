-- What a seat knows under the numbers of passes, for the contracts of turns and of `close`.
-- A pass knows for its own number alone, so its list has one element.
use Rattle.std.specs.Prelude.{◌≡◌, ℕ, Bool, List, [], ◌∷◌, ◌++◌, length, drop, filter, nat_eq, zero, suc}
use mathlib.Core.List.{IsPrefix}
use Rattle.jc_lock.specs.declared.view.Known.{Known}

-- the entries that pass p made, in order
abbrev pub own : {E : Type 0} → (E → ℕ) → List E → ℕ → List E
own maker history p = filter (λ e. nat_eq (maker e) p) history

module _ {E : Type 0} where
  abbrev pub blank : ℕ → Known E
  blank p = record { number = p; seen = []; mine = [] }

  -- nothing is known yet for n numbers, from k on
  abbrev pub blanks : ℕ → ℕ → List (Known E)
  blanks k zero = []
  blanks k (suc n) = blank k ∷ blanks (suc k) n

  abbrev pub is_for : ℕ → Known E → Bool
  is_for p x = nat_eq x.number p

  abbrev pub first_of : List (Known E) → List (Known E)
  first_of [] = []
  first_of (x ∷ xs) = x ∷ []

  abbrev pub others_of : List (Known E) → List (Known E)
  others_of [] = []
  others_of (x ∷ xs) = xs

  abbrev pub number_in : List (Known E) → ℕ
  number_in [] = 0
  number_in (x ∷ xs) = x.number

  abbrev pub seen_in : List (Known E) → List E
  seen_in [] = []
  seen_in (x ∷ xs) = x.seen

  abbrev pub mine_in : List (Known E) → List E
  mine_in [] = []
  mine_in (x ∷ xs) = x.mine

  -- once the history is seen
  abbrev pub seen_to : List E → List (Known E) → List (Known E)
  seen_to history [] = []
  seen_to history (x ∷ xs) = record x { seen = history } ∷ xs

  -- once the history is seen, after it grew by entries of the pass
  abbrev pub grown_to : List E → List (Known E) → List (Known E)
  grown_to history [] = []
  grown_to history (x ∷ xs) = record x { seen = history; mine = x.mine ++ drop (length x.seen) history } ∷ xs

module _ {E : Type 0} (maker : E → ℕ) where
  -- what was seen is a prefix of the history, in which the pass has the entries that it made and no others
  abbrev pub IsTrueOf : List E → Known E → Type 0
  IsTrueOf history x = IsPrefix x.seen history × (own maker history x.number ≡ x.mine)

  abbrev pub AllTrueOf : List E → List (Known E) → Type 0
  AllTrueOf history [] = Unit {0}
  AllTrueOf history (x ∷ xs) = IsTrueOf history x × AllTrueOf history xs

  -- the same of the first alone
  abbrev pub Continues : List (Known E) → List E → Type 0
  Continues known history = IsPrefix (seen_in known) history × (own maker history (number_in known) ≡ mine_in known)
