-- About Blocks: which blocks are fit once a block, a link or a presence set changed.
use Rattle.std.proofs.Common.{◌≡◌, ◌≢◌, ◌==◌, ◌<◌, ◌≤◌, ◌+◌, ◌/◌, ◌%◌, ◌^◌, ◌⊎◌, inl, inr, ℕ, zero, suc, List, [], ◌∷◌, ◌++◌, length, take, slice_get, slice_set, slice_index_or, Option, is_some, IfSome, Some, None, Bool, true, false, cond, refl, sym, ◌∙◌, ap, subst, true≢false, arith}
use Rattle.std.proofs.lemmas.Bool.{eqb-true, eq-eqb}
use Rattle.std.proofs.lemmas.Option.{same_Some, slice_get_within}
use Rattle.std.specs.Int.{bit_at}
use Rattle.std.proofs.lemmas.Nat.{shr-shr}
use Rattle.jc_tree.specs.Stretches.{LeadsOverEntries}
use Rattle.jc_rules.specs.declared.id.Id.{Id}
use Rattle.jc_rules.specs.declared.key.Key.{Key}
use Rattle.jc_rules.specs.declared.key.Key.TheVariants.{Elem}
use Rattle.jc_rules.specs.declared.key.Next.{Next}
use Rattle.jc_rules.specs.Order.{key_cmp}
use Rattle.jc_rules.specs.Entries.{find}
use Rattle.jc_tree.specs.Tree.{or_no_entries, has_ids}
use Rattle.jc_tree.specs.Arena.{go_on}
use Rattle.jc_tree.specs.declared.blocks.Spot.{Spot}
use Rattle.jc_tree.specs.declared.blocks.Told.{Told}
use Rattle.jc_tree.proofs.TablesLemmas.{slot_here}
use Rattle.jc_tree.specs.Blocks.{Members, member, AreSpots, IsAtMost, presence_bit, IsLinked, IsBehind, AreFit, AreNumbered, DifferAt, IsLastLinked}

-- lists

module _ {X : Type 0} where
  -- what is at a place once one place was written
  pub set_cases : (xs : List X) (n m : ℕ) (x y : X) → slice_get (slice_set xs n x) m ≡ Some y → ((m ≡ n) × (y ≡ x)) ⊎ ((m ≢ n) × (slice_get xs m ≡ Some y))
  set_cases [] n m x y h = cc
  set_cases (z ∷ zs) zero zero x y h = inl (refl, sym (same_Some x y h))
  set_cases (z ∷ zs) zero (suc m) x y h = inr (λ e. absurd (omega (arith, e)), h)
  set_cases (z ∷ zs) (suc n) zero x y h = inr (λ e. absurd (omega (arith, e)), h)
  set_cases (z ∷ zs) (suc n) (suc m) x y h = elim (set_cases zs n m x y h) [
    | inl p ↦ inl (ap suc p.0, p.1)
    | inr p ↦ inr (λ e. p.0 (omega (arith, e)), p.1)
  ]

  pub set_same : (xs : List X) (n : ℕ) (x : X) → n < length xs → slice_get (slice_set xs n x) n ≡ Some x
  set_same [] n x h = absurd (omega (arith, h))
  set_same (z ∷ zs) zero x h = refl
  set_same (z ∷ zs) (suc n) x h = set_same zs n x (omega (arith, h))

  pub set_other : (xs : List X) (n m : ℕ) (x : X) → m ≢ n → slice_get (slice_set xs n x) m ≡ slice_get xs m
  set_other [] n m x d = refl
  set_other (z ∷ zs) zero zero x d = absurd (d refl)
  set_other (z ∷ zs) zero (suc m) x d = refl
  set_other (z ∷ zs) (suc n) zero x d = refl
  set_other (z ∷ zs) (suc n) (suc m) x d = set_other zs n m x (λ e. d (ap suc e))

  -- what is at a place of the first ones
  pub taken : (k : ℕ) (xs : List X) (n : ℕ) (y : X) → slice_get (take k xs) n ≡ Some y → slice_get xs n ≡ Some y
  taken zero xs n y h = cc
  taken (suc k) [] n y h = cc
  taken (suc k) (x ∷ xs) zero y h = h
  taken (suc k) (x ∷ xs) (suc n) y h = taken k xs n y h

  pub taken_within : (k : ℕ) (xs : List X) (n : ℕ) (y : X) → slice_get (take k xs) n ≡ Some y → n < k
  taken_within zero xs n y h = cc
  taken_within (suc k) [] n y h = cc
  taken_within (suc k) (x ∷ xs) zero y h = omega arith
  taken_within (suc k) (x ∷ xs) (suc n) y h = omega (arith, taken_within k xs n y h)

  pub taken_again : (k : ℕ) (xs : List X) (n : ℕ) → n < k → slice_get (take k xs) n ≡ slice_get xs n
  taken_again zero xs n h = absurd (omega (arith, h))
  taken_again (suc k) [] n h = refl
  taken_again (suc k) (x ∷ xs) zero h = refl
  taken_again (suc k) (x ∷ xs) (suc n) h = taken_again k xs n (omega (arith, h))

  -- what is at a place once one more is at the end
  pub appended : (xs : List X) (x : X) (n : ℕ) (y : X) → slice_get (xs ++ x ∷ []) n ≡ Some y → ((n ≡ length xs) × (y ≡ x)) ⊎ ((n < length xs) × (slice_get xs n ≡ Some y))
  appended [] x zero y h = inl (refl, sym (same_Some x y h))
  appended [] x (suc n) y h = cc
  appended (z ∷ zs) x zero y h = inr (omega arith, h)
  appended (z ∷ zs) x (suc n) y h = elim (appended zs x n y h) [
    | inl p ↦ inl (ap suc p.0, p.1)
    | inr p ↦ inr (omega (arith, p.0), p.1)
  ]

  pub some_there : (xs : List X) (n : ℕ) → n < length xs → slice_get xs n ≢ None
  some_there [] n h e = omega (arith, h)
  some_there (x ∷ xs) zero h e = cc
  some_there (x ∷ xs) (suc n) h e = some_there xs n (omega (arith, h)) e

  pub past : (xs : List X) (n : ℕ) → length xs ≤ n → slice_get xs n ≡ None
  past [] n h = refl
  past (x ∷ xs) zero h = absurd (omega (arith, h))
  past (x ∷ xs) (suc n) h = past xs n (omega (arith, h))

not_past : (n k : ℕ) → (k ≤ n → ⊥) → n < k
not_past n zero f = absurd (f (omega arith))
not_past zero (suc k) f = omega arith
not_past (suc n) (suc k) f = omega (arith, not_past n k (λ h. f (omega (arith, h))))

-- members

-- the block of a member
pub block_of : (bs : List Members) (b s n : ℕ) → member bs b s ≡ Some n → (x : Members) × (slice_get bs b ≡ Some x) × (slice_get x.numbers s ≡ Some n)
block_of bs b s n h = go (slice_get bs b) refl h
  where
    go : (o : Option Members) → slice_get bs b ≡ o → go_on o (λ x. slice_get x.numbers s) ≡ Some n → (x : Members) × (slice_get bs b ≡ Some x) × (slice_get x.numbers s ≡ Some n)
    go None e h = cc
    go (Some x) e h = (x, e, h)

pub is_member : (bs : List Members) (b s n : ℕ) (x : Members) → slice_get bs b ≡ Some x → slice_get x.numbers s ≡ Some n → member bs b s ≡ Some n
is_member bs b s n x h i = ap (λ o. go_on o (λ x. slice_get x.numbers s)) h ∙ i

-- the members once one block changed
pub changed_member : (bs : List Members) (b c s n : ℕ) (y : Members) → member (slice_set bs b y) c s ≡ Some n → ((c ≡ b) × (slice_get y.numbers s ≡ Some n)) ⊎ ((c ≢ b) × (member bs c s ≡ Some n))
changed_member bs b c s n y h =
    let z = block_of (slice_set bs b y) c s n h in
    elim (set_cases bs b c y z.0 z.1) [
      | inl p ↦ inl (p.0, ap (λ (w : Members). slice_get w.numbers s) (sym p.1) ∙ z.2)
      | inr p ↦ inr (p.0, is_member bs c s n z.0 p.1 z.2)
    ]

-- spots

-- what is found is the only place
pub only_place : (o : Option Spot) (p : Spot) (bs : List Members) (number : ℕ) → o ≡ Some p → ((b s : ℕ) → member bs b s ≡ Some number → o ≡ Some (record { block = b; index = s })) → (b s : ℕ) → member bs b s ≡ Some number → (b ≡ p.block) × (s ≡ p.index)
only_place o p bs number is only b s h =
    let e : record { block = b; index = s } ≡ p = same_Some (record { block = b; index = s }) p (sym (only b s h) ∙ is) in
    (ap (λ (q : Spot). q.block) e, ap (λ (q : Spot). q.index) e)

pub only_place_in : (o : Option Spot) (p : Spot) (bs now : List Members) (number : ℕ) → bs ≡ now → o ≡ Some p → ((b s : ℕ) → member now b s ≡ Some number → o ≡ Some (record { block = b; index = s })) → (b s : ℕ) → member bs b s ≡ Some number → (b ≡ p.block) × (s ≡ p.index)
only_place_in o p bs now number v is only b s h = only_place o p now number is only b s (ap (λ (l : List Members). member l b s) (sym v) ∙ h)

no_spot : (o : Option Spot) (p : Spot) → o ≡ None → o ≡ Some p → ⊥
no_spot None p h i = cc
no_spot (Some q) p h i = cc

-- where none is found there is none
pub no_place : (o : Option Spot) (bs : List Members) (number : ℕ) → o ≡ None → ((b s : ℕ) → member bs b s ≡ Some number → o ≡ Some (record { block = b; index = s })) → (b s : ℕ) → member bs b s ≢ Some number
no_place o bs number is only b s h = no_spot o (record { block = b; index = s }) is (only b s h)

pub no_place_in : (o : Option Spot) (bs now : List Members) (number : ℕ) → bs ≡ now → o ≡ None → ((b s : ℕ) → member now b s ≡ Some number → o ≡ Some (record { block = b; index = s })) → (b s : ℕ) → member bs b s ≢ Some number
no_place_in o bs now number v is only b s h = no_place o now number is only b s (ap (λ (l : List Members). member l b s) (sym v) ∙ h)

pub none_there : (o : Option Spot) → is_some o ≡ false → o ≡ None
none_there None h = refl
none_there (Some p) h = cc

-- the block at a place of a list that is lent
pub lent_block : (bs now : List Members) (b : ℕ) (x : Members) → bs ≡ now → b < length now → x ≡ slice_index_or bs b x → slice_get bs b ≡ Some x
lent_block bs now b x v w e = slot_here bs b x (omega (arith, w, ap length v)) e

-- the block's number there
pub lent_number : (bs now : List Members) (b s n : ℕ) (x : Members) → bs ≡ now → slice_get bs b ≡ Some x → member now b s ≡ Some n → slice_get x.numbers s ≡ Some n
lent_number bs now b s n x v h i = sym (ap (λ o. go_on o (λ z. slice_get z.numbers s)) h) ∙ ap (λ (l : List Members). member l b s) v ∙ i

-- what was a member where a block kept its first numbers
pub fewer_kept : (bs : List Members) (b k : ℕ) (x y : Members) → slice_get bs b ≡ Some x → y.numbers ≡ take k x.numbers → (c s n : ℕ) → member (slice_set bs b y) c s ≡ Some n → member bs c s ≡ Some n
fewer_kept bs b k x y h e c s n g = elim (changed_member bs b c s n y g) [
  | inl p ↦ ap (λ d. member bs d s) p.0 ∙ is_member bs b s n x h (taken k x.numbers s n (ap (λ (l : List ℕ). slice_get l s) (sym e) ∙ p.1))
  | inr p ↦ p.1
]

-- where the block keeps what is before the number, it is nowhere
pub none_behind : (bs : List Members) (b index number : ℕ) (x y : Members) → slice_get bs b ≡ Some x → y.numbers ≡ take index x.numbers → ((c s : ℕ) → member bs c s ≡ Some number → (c ≡ b) × (s ≡ index)) → (c s : ℕ) → member (slice_set bs b y) c s ≢ Some number
none_behind bs b index number x y h e only c s g = elim (changed_member bs b c s number y g) [
  | inl p ↦
      let f : slice_get (take index x.numbers) s ≡ Some number = ap (λ (l : List ℕ). slice_get l s) (sym e) ∙ p.1 in
      let at : s ≡ index = (only b s (is_member bs b s number x h (taken index x.numbers s number f))).1 in
      omega (arith, at, taken_within index x.numbers s number f)
  | inr p ↦ p.0 (only c s p.1).0
]

-- numbers that are nowhere, once one more is
pub gone_once_more : (old new : List Members) (first number : ℕ) → ((n : ℕ) → first ≤ n → n < number → (b s : ℕ) → member old b s ≢ Some n) → ((b s : ℕ) → member new b s ≢ Some number) → ((b s n : ℕ) → member new b s ≡ Some n → member old b s ≡ Some n) → (n : ℕ) → first ≤ n → n < number + 1 → (b s : ℕ) → member new b s ≢ Some n
gone_once_more old new first number gone last fewer n from below b s h = go (n == number) refl
  where
    go : (q : Bool) → (n == number) ≡ q → ⊥
    go true q = last b s (h ∙ ap Some (eqb-true n number q))
    go false q =
        let apart : n ≢ number = λ e. true≢false (sym (eq-eqb n number e) ∙ q) in
        gone n from (omega (arith, below, apart)) b s (fewer b s n h)

-- spots once a block kept its first numbers
pub spots_kept : (spots : List Spot) (bs : List Members) (b k : ℕ) (x y : Members) → slice_get bs b ≡ Some x → y.numbers ≡ take k x.numbers → AreSpots spots bs → AreSpots spots (slice_set bs b y)
spots_kept spots bs b k x y h e a = λ c s n g. elim (changed_member bs b c s n y g) [
  | inl p ↦
      a b s n (is_member bs b s n x h (taken k x.numbers s n (ap (λ (l : List ℕ). slice_get l s) (sym e) ∙ p.1)))
      ∙ ap (λ d. Some (record { block = d; index = s })) (sym p.0)
  | inr p ↦ a c s n p.1
]

pub spots_same : (spots : List Spot) (bs : List Members) (b : ℕ) (x y : Members) → slice_get bs b ≡ Some x → y.numbers ≡ x.numbers → AreSpots spots bs → AreSpots spots (slice_set bs b y)
spots_same spots bs b x y h e a = λ c s n g. elim (changed_member bs b c s n y g) [
  | inl p ↦
      a b s n (is_member bs b s n x h (ap (λ (l : List ℕ). slice_get l s) (sym e) ∙ p.1))
      ∙ ap (λ d. Some (record { block = d; index = s })) (sym p.0)
  | inr p ↦ a c s n p.1
]

-- once one more number has a spot, which had none
pub spots_added : (spots : List Spot) (bs : List Members) (b index number : ℕ) (x y : Members) → slice_get bs b ≡ Some x → index ≡ length x.numbers → y.numbers ≡ x.numbers ++ number ∷ [] → number < length spots → ((c s : ℕ) → member bs c s ≢ Some number) → AreSpots spots bs → AreSpots (slice_set spots number (record { block = b; index = index })) (slice_set bs b y)
spots_added spots bs b index number x y h i e w none a = λ c s n g. elim (changed_member bs b c s n y g) [
  | inl p ↦ here c s n p.0 (appended x.numbers number s n (ap (λ (l : List ℕ). slice_get l s) (sym e) ∙ p.1))
  | inr p ↦ there c s n p.1
]
  where
    there : (c s n : ℕ) → member bs c s ≡ Some n → slice_get (slice_set spots number (record { block = b; index = index })) n ≡ Some (record { block = c; index = s })
    there c s n g = set_other spots number n _ (λ q. none c s (g ∙ ap Some q)) ∙ a c s n g

    here : (c s n : ℕ) → c ≡ b → ((s ≡ length x.numbers) × (n ≡ number)) ⊎ ((s < length x.numbers) × (slice_get x.numbers s ≡ Some n)) → slice_get (slice_set spots number (record { block = b; index = index })) n ≡ Some (record { block = c; index = s })
    here c s n q (inl p) =
        ap (slice_get (slice_set spots number (record { block = b; index = index }))) p.1
        ∙ set_same spots number (record { block = b; index = index }) w
        ∙ (λ j. Some (record { block = sym q j; index = (i ∙ sym p.0) j }))
    here c s n q (inr p) = there c s n (ap (λ d. member bs d s) q ∙ is_member bs b s n x h p.1)

-- a block that begins with the number
pub spots_begun : (spots : List Spot) (bs : List Members) (b number : ℕ) (y : Members) → y.numbers ≡ number ∷ [] → number < length spots → ((c s : ℕ) → member bs c s ≢ Some number) → AreSpots spots bs → AreSpots (slice_set spots number (record { block = b; index = 0 })) (slice_set bs b y)
spots_begun spots bs b number y e w none a = λ c s n g. elim (changed_member bs b c s n y g) [
  | inl p ↦ here c s n p.0 (ap (λ (l : List ℕ). slice_get l s) (sym e) ∙ p.1)
  | inr p ↦ set_other spots number n _ (λ q. none c s (p.1 ∙ ap Some q)) ∙ a c s n p.1
]
  where
    here : (c s n : ℕ) → c ≡ b → slice_get (number ∷ []) s ≡ Some n → slice_get (slice_set spots number (record { block = b; index = 0 })) n ≡ Some (record { block = c; index = s })
    here c zero n q f =
        ap (slice_get (slice_set spots number (record { block = b; index = 0 }))) (sym (same_Some number n f))
        ∙ set_same spots number (record { block = b; index = 0 }) w
        ∙ ap (λ d. Some (record { block = d; index = 0 })) (sym q)
    here c (suc s) n q f = cc

-- more spots
pub spots_more : (spots more : List Spot) (bs : List Members) → ((n : ℕ) (p : Spot) → slice_get spots n ≡ Some p → slice_get more n ≡ Some p) → AreSpots spots bs → AreSpots more bs
spots_more spots more bs f a = λ b s n h. f n (record { block = b; index = s }) (a b s n h)

-- one empty block more
pub spots_before : (spots : List Spot) (bs : List Members) (y : Members) → y.numbers ≡ [] → AreSpots spots bs → AreSpots spots (bs ++ y ∷ [])
spots_before spots bs y e a = λ b s n h.
    let z = block_of (bs ++ y ∷ []) b s n h in
    elim (appended bs y b z.0 z.1) [
      | inl p ↦ let no : None ≡ Some n = ap (λ (l : List ℕ). slice_get l s) (sym e) ∙ ap (λ (x : Members). slice_get x.numbers s) (sym p.1) ∙ z.2 in cc
      | inr p ↦ a b s n (is_member bs b s n z.0 p.1 z.2)
    ]

-- fit blocks

module _ (keys : List Key) (links : List (Key × Next)) (presences : List (Key × List Id)) where
  -- once one block changed
  pub fit_set : (bs : List Members) (b : ℕ) (y : Members) → ((s n m : ℕ) → slice_get y.numbers s ≡ Some n → slice_get y.numbers (suc s) ≡ Some m → IsBehind keys links presences y (suc s) n m) → ((c s n m : ℕ) (x : Members) → c ≢ b → slice_get bs c ≡ Some x → slice_get x.numbers s ≡ Some n → slice_get x.numbers (suc s) ≡ Some m → IsBehind keys links presences x (suc s) n m) → AreFit keys links presences (slice_set bs b y)
  fit_set bs b y f g = λ c s n m x h i j. elim (set_cases bs b c y x h) [
    | inl p ↦ subst (λ (w : Members). IsBehind keys links presences w (suc s) n m) (sym p.1) (f s n m (ap (λ (w : Members). slice_get w.numbers s) (sym p.1) ∙ i) (ap (λ (w : Members). slice_get w.numbers (suc s)) (sym p.1) ∙ j))
    | inr p ↦ g c s n m x p.0 p.1 i j
  ]

  -- a block that kept its first numbers
  pub fit_kept : (bs : List Members) (b k : ℕ) (x y : Members) → slice_get bs b ≡ Some x → y.numbers ≡ take k x.numbers → y.bits ≡ x.bits → y.least ≡ x.least → AreFit keys links presences bs → AreFit keys links presences (slice_set bs b y)
  fit_kept bs b k x y h e f g fit =
      fit_set bs b y (λ s n m i j.
      let w = fit b s n m x h (taken k x.numbers s n (ap (λ (l : List ℕ). slice_get l s) (sym e) ∙ i)) (taken k x.numbers (suc s) m (ap (λ (l : List ℕ). slice_get l (suc s)) (sym e) ∙ j)) in
      record {
        id = w.id;
        numbered = w.numbered;
        linked = w.linked;
        bit = ap (λ d. bit_at d (suc s)) f ∙ w.bit;
        least = subst (λ i. IsAtMost i w.id) (sym g) w.least;
      })
      (λ c s n m x d i j l. fit c s n m x i j l)

  -- a block with at most one number
  pub fit_begun : (bs : List Members) (b number : ℕ) (y : Members) → y.numbers ≡ number ∷ [] → AreFit keys links presences bs → AreFit keys links presences (slice_set bs b y)
  fit_begun bs b number y e fit =
      fit_set bs b y (λ s n m i j. let no : None ≡ Some m = ap (λ (l : List ℕ). slice_get l (suc s)) (sym e) ∙ j in cc)
      (λ c s n m x d i j l. fit c s n m x i j l)

  -- one empty block more
  pub fit_more : (bs : List Members) (y : Members) → y.numbers ≡ [] → AreFit keys links presences bs → AreFit keys links presences (bs ++ y ∷ [])
  fit_more bs y e fit = λ c s n m x h i j. elim (appended bs y c x h) [
    | inl p ↦ let no : None ≡ Some n = ap (λ (l : List ℕ). slice_get l s) (sym e) ∙ ap (λ (w : Members). slice_get w.numbers s) (sym p.1) ∙ i in cc
    | inr p ↦ fit c s n m x p.1 i j
  ]

  -- One number more at the end of a block.
  pub fit_added : (bs : List Members) (b number : ℕ) (id : Id) (is : Bool) (x y : Members) → slice_get bs b ≡ Some x → y.numbers ≡ x.numbers ++ number ∷ [] → bit_at y.bits (length x.numbers) ≡ cond is 1 0 → ((i : ℕ) → i < length x.numbers → bit_at y.bits i ≡ bit_at x.bits i) → IsAtMost y.least id → ((i : Id) → IsAtMost x.least i → IsAtMost y.least i) → slice_get keys number ≡ Some (Elem id) → presence_bit (Elem id) presences ≡ cond is 1 0 → IsLastLinked keys links bs b id → AreFit keys links presences bs → AreFit keys links presences (slice_set bs b y)
  fit_added bs b number id is x y h e same others least lesser numbered bit linked fit =
      fit_set bs b y (λ s n m i j. pair s n m (ap (λ (l : List ℕ). slice_get l s) (sym e) ∙ i) (ap (λ (l : List ℕ). slice_get l (suc s)) (sym e) ∙ j)) (λ c s n m x d i j l. fit c s n m x i j l)
    where
      -- the number before it
      before : (s n : ℕ) → s < length x.numbers → slice_get (x.numbers ++ number ∷ []) s ≡ Some n → slice_get x.numbers s ≡ Some n
      before s n w i = elim (appended x.numbers number s n i) [
        | inl p ↦ absurd (omega (arith, w, p.0))
        | inr p ↦ p.1
      ]

      pair : (s n m : ℕ) → slice_get (x.numbers ++ number ∷ []) s ≡ Some n → slice_get (x.numbers ++ number ∷ []) (suc s) ≡ Some m → IsBehind keys links presences y (suc s) n m
      pair s n m i j = elim (appended x.numbers number (suc s) m j) [
        | inl p ↦
            let there = before s n (omega (arith, p.0)) i in
            let none : member bs b (suc s) ≡ None = ap (λ o. go_on o (λ z. slice_get z.numbers (suc s))) h ∙ past x.numbers (suc s) (omega (arith, p.0)) in
            record {
              id = id;
              numbered = ap (slice_get keys) p.1 ∙ numbered;
              linked = linked s n (is_member bs b s n x h there) none;
              bit = ap (bit_at y.bits) p.0 ∙ same ∙ sym bit;
              least = least;
            }
        | inr p ↦
            let w = fit b s n m x h (before s n (omega (arith, p.0)) i) p.1 in
            record {
              id = w.id;
              numbered = w.numbered;
              linked = w.linked;
              bit = others (suc s) p.0 ∙ w.bit;
              least = lesser w.id w.least;
            }
      ]

  -- fewer keys, all of which a block's numbers have
  pub fit_fewer : (first end : ℕ) (bs : List Members) → length keys ≤ end → ((n : ℕ) → first ≤ n → n < end → (b s : ℕ) → member bs b s ≢ Some n) → AreFit keys links presences bs → AreFit (take first keys) links presences bs
  fit_fewer first end bs w gone fit = λ b s n m x h i j.
      let z = fit b s n m x h i j in
      record {
        id = z.id;
        numbered = still b (suc s) m x h j (Elem z.id) z.numbered ∙ z.numbered;
        linked = record { key = z.linked.key; numbered = still b s n x h i z.linked.key z.linked.numbered ∙ z.linked.numbered; linked = z.linked.linked };
        bit = z.bit;
        least = z.least;
      }
    where
      still : (b s n : ℕ) (x : Members) → slice_get bs b ≡ Some x → slice_get x.numbers s ≡ Some n → (k : Key) → slice_get keys n ≡ Some k → slice_get (take first keys) n ≡ slice_get keys n
      still b s n x h i k g =
          let v : n < length keys = slice_get_within keys n k g in
          taken_again first keys n (not_past n first (λ u. gone n u (omega (arith, v, w)) b s (is_member bs b s n x h i)))

-- where what follows a key changed

module _ (keys : List Key) (presences : List (Key × List Id)) (k : Key) (old new : List (Key × Next)) (d : DifferAt k old new) where
  -- the other keys are linked as they were
  relinked : (n : ℕ) (i : Id) → IsLinked keys old n i → (slice_get keys n ≡ Some k → ⊥) → IsLinked keys new n i
  relinked n i w f = record {
    key = w.key;
    numbered = w.numbered;
    linked = d w.key (λ e. f (w.numbered ∙ ap Some e)) ∙ w.linked;
  }

  pub fit_relinked : (bs : List Members) → ((b s n : ℕ) → member bs b s ≡ Some n → member bs b (suc s) ≢ None → slice_get keys n ≡ Some k → ⊥) → AreFit keys old presences bs → AreFit keys new presences bs
  fit_relinked bs f fit = λ b s n m x h i j.
      let w = fit b s n m x h i j in
      record {
        id = w.id;
        numbered = w.numbered;
        linked = relinked n w.id w.linked (f b s n (is_member bs b s n x h i) (λ e. let no : None ≡ Some m = sym e ∙ is_member bs b (suc s) m x h j in cc));
        bit = w.bit;
        least = w.least;
      }

  -- what is behind the number of the key is cut off
  pub fit_cut : (bs : List Members) (b index number : ℕ) (x y : Members) → AreNumbered keys → slice_get keys number ≡ Some k → slice_get bs b ≡ Some x → ((c s : ℕ) → member bs c s ≡ Some number → (c ≡ b) × (s ≡ index)) → y.numbers ≡ take (suc index) x.numbers → y.bits ≡ x.bits → y.least ≡ x.least → AreFit keys old presences bs → AreFit keys new presences (slice_set bs b y)
  fit_cut bs b index number x y distinct numbered h only e f g fit =
      fit_relinked (slice_set bs b y) behind (fit_kept keys old presences bs b (suc index) x y h e f g fit)
    where
      last : (c s : ℕ) → c ≡ b → s ≡ index → member (slice_set bs b y) c (suc s) ≡ None
      last c s p q = go (member (slice_set bs b y) c (suc s)) refl
        where
          go : (o : Option ℕ) → member (slice_set bs b y) c (suc s) ≡ o → member (slice_set bs b y) c (suc s) ≡ None
          go None r = r
          go (Some m) r = elim (changed_member bs b c (suc s) m y r) [
            | inl z ↦ absurd (omega (arith, q, taken_within (suc index) x.numbers (suc s) m (ap (λ (l : List ℕ). slice_get l (suc s)) (sym e) ∙ z.1)))
            | inr z ↦ absurd (z.0 p)
          ]

      behind : (c s n : ℕ) → member (slice_set bs b y) c s ≡ Some n → member (slice_set bs b y) c (suc s) ≢ None → slice_get keys n ≡ Some k → ⊥
      behind c s n i more key =
          let at : n ≡ number = distinct k n number key numbered in
          elim (changed_member bs b c s n y i) [
            | inl p ↦
                let there : slice_get x.numbers s ≡ Some n = taken (suc index) x.numbers s n (ap (λ (l : List ℕ). slice_get l s) (sym e) ∙ p.1) in
                more (last c s p.0 (only b s (is_member bs b s number x h (there ∙ ap Some at))).1)
            | inr p ↦ p.0 (only c s (p.1 ∙ ap Some at)).0
          ]

-- where a presence set changed

module _ (keys : List Key) (links : List (Key × Next)) (k : Key) (old new : List (Key × List Id)) (d : DifferAt k old new) where
  other_bit : (j : Key) → j ≢ k → presence_bit j new ≡ presence_bit j old
  other_bit j e = ap (λ o. cond (has_ids (or_no_entries o)) 1 0) (d j e)

  -- the key isn't that of a block's number
  pub fit_apart : (bs : List Members) → ((b s n : ℕ) → member bs b s ≡ Some n → slice_get keys n ≡ Some k → ⊥) → AreFit keys links old bs → AreFit keys links new bs
  fit_apart bs f fit = λ b s n m x h i j.
      let w = fit b s n m x h i j in
      record {
        id = w.id;
        numbered = w.numbered;
        linked = w.linked;
        bit = w.bit ∙ sym (other_bit (Elem w.id) (λ e. f b (suc s) m (is_member bs b (suc s) m x h j) (w.numbered ∙ ap Some e)));
        least = w.least;
      }

  -- the number of the key is at that index of that block and nowhere else
  pub fit_marked : (bs : List Members) (b index number : ℕ) (is : Bool) (x y : Members) → AreNumbered keys → slice_get keys number ≡ Some k → presence_bit k new ≡ cond is 1 0 → slice_get bs b ≡ Some x → slice_get x.numbers index ≡ Some number → ((c s : ℕ) → member bs c s ≡ Some number → (c ≡ b) × (s ≡ index)) → y.numbers ≡ x.numbers → (index < length x.numbers → bit_at y.bits index ≡ cond is 1 0) → ((i : ℕ) → i < length x.numbers → i ≢ index → bit_at y.bits i ≡ bit_at x.bits i) → y.least ≡ x.least → AreFit keys links old bs → AreFit keys links new (slice_set bs b y)
  fit_marked bs b index number is x y distinct numbered bit h there only e same others g fit =
      fit_set keys links new bs b y (λ s n m i j. pair s n m (ap (λ (l : List ℕ). slice_get l s) (sym e) ∙ i) (ap (λ (l : List ℕ). slice_get l (suc s)) (sym e) ∙ j)) elsewhere
    where
      other_key : (i : Id) (m : ℕ) → slice_get keys m ≡ Some (Elem i) → m ≢ number → Elem i ≢ k
      other_key i m f c q = c (distinct k m number (f ∙ ap Some q) numbered)

      pair : (s n m : ℕ) → slice_get x.numbers s ≡ Some n → slice_get x.numbers (suc s) ≡ Some m → IsBehind keys links new y (suc s) n m
      pair s n m i j = go (m == number) refl
        where
          w : IsBehind keys links old x (suc s) n m
          w = fit b s n m x h i j

          within : suc s < length x.numbers
          within = slice_get_within x.numbers (suc s) m j

          go : (q : Bool) → (m == number) ≡ q → IsBehind keys links new y (suc s) n m
          go true q =
              let at : m ≡ number = eqb-true m number q in
              let place : suc s ≡ index = (only b (suc s) (is_member bs b (suc s) number x h (j ∙ ap Some at))).1 in
              let key : Elem w.id ≡ k = same_Some (Elem w.id) k (sym w.numbered ∙ ap (slice_get keys) at ∙ numbered) in
              record {
                id = w.id;
                numbered = w.numbered;
                linked = w.linked;
                bit = ap (bit_at y.bits) place ∙ same (subst (λ i. i < length x.numbers) place within) ∙ sym bit ∙ ap (λ j. presence_bit j new) (sym key);
                least = subst (λ i. IsAtMost i w.id) (sym g) w.least;
              }
          go false q =
              let apart : m ≢ number = λ at. true≢false (sym (eq-eqb m number at) ∙ q) in
              let place : suc s ≢ index = λ at. apart (same_Some m number (sym j ∙ ap (slice_get x.numbers) at ∙ there)) in
              record {
                id = w.id;
                numbered = w.numbered;
                linked = w.linked;
                bit = others (suc s) within place ∙ w.bit ∙ sym (other_bit (Elem w.id) (other_key w.id m w.numbered apart));
                least = subst (λ i. IsAtMost i w.id) (sym g) w.least;
              }

      elsewhere : (c s n m : ℕ) (z : Members) → c ≢ b → slice_get bs c ≡ Some z → slice_get z.numbers s ≡ Some n → slice_get z.numbers (suc s) ≡ Some m → IsBehind keys links new z (suc s) n m
      elsewhere c s n m z apart f i j =
          let w : IsBehind keys links old z (suc s) n m = fit c s n m z f i j in
          record {
            id = w.id;
            numbered = w.numbered;
            linked = w.linked;
            bit = w.bit ∙ sym (other_bit (Elem w.id) (other_key w.id m w.numbered (λ at. apart (only c (suc s) (is_member bs c (suc s) number z f (j ∙ ap Some at))).0)));
            least = w.least;
          }

-- what a block tells

module _ (keys : List Key) (links : List (Key × Next)) (presences : List (Key × List Id)) (bs : List Members) (b : ℕ) (x : Members) (h : slice_get bs b ≡ Some x) (fit : AreFit keys links presences bs) where
  -- from one number of the block to a later one
  pub leads_over : (count index number last bits : ℕ) (least : Id) (k : Key) (i : Id) → slice_get x.numbers index ≡ Some number → slice_get keys number ≡ Some k → bits ≡ x.bits / 2 ^ suc index → least ≡ x.least → slice_get x.numbers (index + count) ≡ Some last → slice_get keys last ≡ Some (Elem i) → LeadsOverEntries links presences k count bits least (Elem i)
  leads_over zero index number last bits least k i n f w g l e =
      let same : number ≡ last = same_Some number last (sym n ∙ ap (slice_get x.numbers) (omega arith) ∙ l) in
      same_Some k (Elem i) (sym f ∙ ap (slice_get keys) same ∙ e)
  leads_over (suc count) index number last bits least k i n f w g l e = go (slice_get x.numbers (suc index)) refl (λ m bits k. leads_over count (suc index) m last bits least k i)
    where
      within : index + suc count < length x.numbers
      within = slice_get_within x.numbers (index + suc count) last l

      go : (o : Option ℕ) → slice_get x.numbers (suc index) ≡ o → ((m bits : ℕ) (k : Key) → slice_get x.numbers (suc index) ≡ Some m → slice_get keys m ≡ Some k → bits ≡ x.bits / 2 ^ suc (suc index) → least ≡ x.least → slice_get x.numbers (suc index + count) ≡ Some last → slice_get keys last ≡ Some (Elem i) → LeadsOverEntries links presences k count bits least (Elem i)) → LeadsOverEntries links presences k (suc count) bits least (Elem i)
      go None r ih = absurd (some_there x.numbers (suc index) (omega (arith, within)) r)
      go (Some m) r ih =
          let z : IsBehind keys links presences x (suc index) number m = fit b index number m x h n r in
          let key : z.linked.key ≡ k = same_Some z.linked.key k (sym z.linked.numbered ∙ f) in (
            z.id,
            ap (λ j. find key_cmp j links) (sym key) ∙ z.linked.linked,
            ap (λ d. d % 2) w ∙ z.bit,
            subst (λ j. IsAtMost j z.id) (sym g) z.least,
            ih m (bits / 2) (Elem z.id) r z.numbered (ap (λ d. d / 2) w ∙ shr-shr x.bits (suc index) 1 ∙ ap (λ d. x.bits / 2 ^ d) (omega arith)) g (ap (slice_get x.numbers) (omega arith) ∙ l) e,
          )

pub told_over : (bs : List Members) (b index number : ℕ) (x : Members) (r : Option Told) → slice_get bs b ≡ Some x → slice_get x.numbers index ≡ Some number → IfSome r (λ told. told.bits ≡ x.bits / 2 ^ suc index) → IfSome r (λ told. told.least ≡ x.least) → IfSome r (λ told. slice_get x.numbers (index + told.count) ≡ Some told.last) → IfSome r (λ told. (keys : List Key) (links : List (Key × Next)) (presences : List (Key × List Id)) (k : Key) (i : Id) → slice_get keys number ≡ Some k → slice_get keys told.last ≡ Some (Elem i) → AreFit keys links presences bs → LeadsOverEntries links presences k told.count told.bits told.least (Elem i))
told_over bs b index number x None h n e f g = tt
told_over bs b index number x (Some told) h n e f g = λ keys links presences k i numbered last fit. leads_over keys links presences bs b x h fit told.count index number told.last told.bits told.least k i n numbered e f g last

-- of blocks that are seen as another list
pub told_at : (bs now : List Members) (number : ℕ) (r : Option Told) → IfSome r (λ told. (keys : List Key) (links : List (Key × Next)) (presences : List (Key × List Id)) (k : Key) (i : Id) → slice_get keys number ≡ Some k → slice_get keys told.last ≡ Some (Elem i) → AreFit keys links presences bs → LeadsOverEntries links presences k told.count told.bits told.least (Elem i)) → bs ≡ now → IfSome r (λ told. (keys : List Key) (links : List (Key × Next)) (presences : List (Key × List Id)) (k : Key) (i : Id) → slice_get keys number ≡ Some k → slice_get keys told.last ≡ Some (Elem i) → AreFit keys links presences now → LeadsOverEntries links presences k told.count told.bits told.least (Elem i))
told_at bs now number None h v = tt
told_at bs now number (Some told) h v = λ keys links presences k i numbered last fit. h keys links presences k i numbered last (subst (AreFit keys links presences) (sym v) fit)
