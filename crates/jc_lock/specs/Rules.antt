-- The rule of the lock's table (`InTurn` of lock.rt), which holds between any two steps.
-- Word 0 is the number of tickets drawn, word 1 the ticket whose turn it is, and word 2 the length of the history. The
-- one slot holds the value.
use Rattle.std.specs.Prelude.{◌≡◌, ℕ, ◌+◌, ◌*◌, ◌^◌, ◌<◌, ◌≤◌, Bool, true, false, List, [], ◌∷◌, length, slice_index, nat_eq, sum_by, count_by, All, Some, Option, if◌then◌else◌}
use mathlib.Core.Option.{some}
use lib.ListN.{get_elem?}
use Rattle.atomic_table.specs.Table.{State}
use Rattle.jc_lock.specs.declared.view.Known.{Known}
use Rattle.jc_lock.specs.declared.view.View.{View}
use Rattle.jc_lock.specs.declared.view.Terms.{Terms}
use Rattle.jc_lock.specs.declared.view.Stage.{Stage}
use Rattle.jc_lock.specs.declared.view.Stage.TheVariants.{Rests, Waits, Holds}
use Rattle.jc_lock.specs.Knowledge.{is_for, AllTrueOf}

-- the count of the seat's tickets, 0 or 1, and how often it has the ticket t
abbrev pub ticket_count : Stage → ℕ
ticket_count Rests = 0
ticket_count (Waits u) = 1
ticket_count (Holds u) = 1

abbrev pub count_of_ticket : ℕ → Stage → ℕ
count_of_ticket t Rests = 0
count_of_ticket t (Waits u) = if nat_eq u t then 1 else 0
count_of_ticket t (Holds u) = if nat_eq u t then 1 else 0

abbrev pub has_turn : Stage → Bool
has_turn Rests = false
has_turn (Waits u) = false
has_turn (Holds u) = true

-- the count is 1 at most, and where it is 1 the fact holds
abbrev pub OnceAnd : ℕ → Type 0 → Type 0
OnceAnd n P = (n ≤ 1) × (0 < n → P)

module _ {E O : Type 0} where
  abbrev pub tickets_of : View E O → ℕ
  tickets_of v = ticket_count v.stage

  abbrev pub times_ticket : ℕ → View E O → ℕ
  times_ticket t v = count_of_ticket t v.stage

  abbrev pub takes_left : View E O → ℕ
  takes_left v = v.left

  -- how often the seat knows for pass p
  abbrev pub times_known : ℕ → View E O → ℕ
  times_known p v = count_by (is_for p) v.knows

  abbrev pub NoTurn : List (View E O) → Type 0
  NoTurn views = (j : ℕ) (v : View E O) → get_elem? views j ≡ some v → has_turn v.stage ≡ false

module _ {E : Type 0} where
  -- a seat that waits or holds a turn is of one pass; one that holds a turn has the ticket that is due, and has seen
  -- the whole history
  abbrev pub FitsStage : ℕ → List E → List (Known E) → Stage → Type 0
  FitsStage due history known Rests = Unit {0}
  FitsStage due history known (Waits t) = (x : Known E) × (known ≡ x ∷ [])
  FitsStage due history known (Holds t) = (x : Known E) × (known ≡ x ∷ []) × (x.seen ≡ history) × (t ≡ due)

  abbrev pub FitsSeat : {O : Type 0} → (E → ℕ) → ℕ → List E → O → View E O → Type 0
  FitsSeat maker due history o v =
      (0 < length v.knows → v.origin ≡ Some o)
      × AllTrueOf maker history v.knows
      × FitsStage due history v.knows v.stage

module _ {K E O : Type 0} (origin : K → O) (list : K → List E) (maker : E → ℕ) where
  -- There is one history. Each ticket is drawn and served once, and there are no more than the terms allow. Each number
  -- of a pass is known at one seat at most.
  -- While no seat has the turn the value at home has the history for its list, and the origin of the value that the
  -- lock was opened with.
  pub record IsKept (terms : Terms K) (s : State (Option K) (View E O)) : Type 0 where
    pub history : List E
    pub wide : length s.words ≡ 3
    pub queue : slice_index s.words 0 ≡ slice_index s.words 1 + sum_by tickets_of s.views
    pub tickets : (t : ℕ)
        → OnceAnd (sum_by (times_ticket t) s.views) ((slice_index s.words 1 ≤ t) × (t < slice_index s.words 0))
    pub budget : slice_index s.words 0 + sum_by takes_left s.views ≡ terms.passes * terms.takes
    pub small : terms.passes * terms.takes < 2 ^ 56
    pub numbers : (p : ℕ) → OnceAnd (sum_by (times_known p) s.views) (p < terms.passes)
    pub seats : (j : ℕ) (v : View E O) → get_elem? s.views j ≡ some v
        → FitsSeat maker (slice_index s.words 1) history (origin terms.opened.value) v
    pub at_home : NoTurn s.views
        → (x : K)
        × (get_elem? s.homes 0 ≡ some (some (Some x)))
        × (origin x ≡ origin terms.opened.value)
        × (list x ≡ history)
    pub counted : slice_index s.words 2 ≡ length history
    pub makers : All (λ e. maker e < terms.passes) history
