-- What a seat learns by each step on the lock's words, and what its view becomes: the definitions of plays.rt.
use Rattle.std.specs.Prelude.{◌≡◌, ◌≢◌, ℕ, ◌+◌, ◌-◌, ◌*◌, List, [], ◌∷◌, ◌++◌, length, Option, Some, None}
use Rattle.atomic_table.specs.declared.shared.Seat.{Seat}
use Rattle.atomic_table.specs.Table.{Me, Step, rest}
use Rattle.jc_lock.specs.declared.view.View.{View}
use Rattle.jc_lock.specs.declared.view.Terms.{Terms}
use Rattle.jc_lock.specs.declared.view.Stage.{Stage}
use Rattle.jc_lock.specs.declared.view.Stage.TheVariants.{Rests, Waits, Holds}
use Rattle.jc_lock.specs.Knowledge.{blanks, first_of, others_of, seen_to, grown_to, Continues}

-- the ticket, or 0
abbrev pub ticket_in : Stage → ℕ
ticket_in Rests = 0
ticket_in (Waits t) = t
ticket_in (Holds t) = t

-- the list of the value, empty where there is none
abbrev pub option_list : {K E : Type 0} → (K → List E) → Option K → List E
option_list list (Some x) = list x
option_list list None = []

-- the list of the value in the slot that was taken last
abbrev pub list_in : {K E : Type 0} → (K → List E) → List (ℕ × Option K) → List E
list_in list [] = []
list_in list (c ∷ cs) = option_list list c.1

module _ {E O : Type 0} where
  abbrev pub with_ticket : View E O → ℕ → View E O
  with_ticket v t = record v { stage = Waits t; left = v.left - 1 }

  abbrev pub with_turn : View E O → ℕ → List E → View E O
  with_turn v t history = record v { stage = Holds t; knows = seen_to history v.knows }

  abbrev pub at_rest : View E O → View E O
  at_rest v = record v { stage = Rests }

  abbrev pub with_seen : View E O → List E → View E O
  with_seen v history = record v { knows = seen_to history v.knows }

  abbrev pub with_grown : View E O → List E → View E O
  with_grown v history = record v { knows = grown_to history v.knows }

  -- the view of the seat that deals, once its first number is dealt, and that of the seat that gets it
  abbrev pub rest_of_deal : View E O → View E O
  rest_of_deal v = record v { left = v.left - v.share; knows = others_of v.knows }

  abbrev pub next_of_deal : View E O → View E O
  next_of_deal v = record v { left = v.share; knows = first_of v.knows }

  abbrev pub join_of : View E O → View E O → View E O
  join_of v w = record v { left = v.left + w.left; knows = w.knows ++ v.knows }

  abbrev pub spent_view : View E O
  spent_view = record { stage = Rests; left = 0; share = 0; origin = None; knows = [] }

  -- the view of the seat that has n passes to deal, from the number k on
  abbrev pub dealer : O → ℕ → ℕ → ℕ → View E O
  dealer o takes k n = record { stage = Rests; left = n * takes; share = takes; origin = Some o; knows = blanks k n }

abbrev pub first_dealer : {K E O : Type 0} → (K → O) → Terms K → View E O
first_dealer origin terms = dealer (origin terms.opened.value) terms.takes 0 terms.passes

abbrev Sat : Type 0 → Type 0 → Type 0 → Type 0
Sat K E O = Me (Option K) (View E O)

-- a step, the seat before it, the number that it found, and the seat after it
abbrev pub Draws : {K E O : Type 0} → Step (Option K) → Sat K E O → ℕ → Sat K E O → Type 0
Draws step me found me' = me' ≡ (with_ticket me.0 found, me.1)

abbrev pub PassesOn : {K E O : Type 0} → Step (Option K) → Sat K E O → ℕ → Sat K E O → Type 0
PassesOn step me found me' = me' ≡ (at_rest me.0, rest me.1)

module _ {K E O : Type 0} (origin : K → O) (list : K → List E) (maker : E → ℕ) where
  -- the ticket t has the turn, and the value
  abbrev pub Starts : ℕ → Sat K E O → Sat K E O → Type 0
  Starts t me me' =
      (x : K)
      × (me' ≡ (with_turn me.0 t (list x), (0, Some x) ∷ me.1))
      × (me.0.origin ≡ Some (origin x))
      × Continues maker me.0.knows (list x)

  abbrev pub Looks : Step (Option K) → Sat K E O → ℕ → Sat K E O → Type 0
  Looks step me found me' =
      (found ≡ ticket_in me.0.stage → Starts found me me')
      × (found ≢ ticket_in me.0.stage → me' ≡ me)

abbrev pub Publishes : {K E O : Type 0} → (K → List E) → Step (Option K) → Sat K E O → ℕ → Sat K E O → Type 0
Publishes list step me found me' = me' ≡ (with_grown me.0 (list_in list me.1), me.1)

abbrev pub ReadsWord : {K E O : Type 0} → (E → ℕ) → Step (Option K) → Sat K E O → ℕ → Sat K E O → Type 0
ReadsWord {E = E} maker step me found me' =
    (history : List E)
    × (me' ≡ (with_seen me.0 history, me.1))
    × (found ≡ length history)
    × Continues maker me.0.knows history

abbrev pub IsSameSeat : {S V : Type 0} → Seat S V → Seat S V → Type 0
IsSameSeat a b = (b.table_id ≡ a.table_id) × (b.id ≡ a.id)
