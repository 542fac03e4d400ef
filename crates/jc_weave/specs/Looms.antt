-- A loom: which replica makes the next event, and what a turn changes. Weaving says by it which schedule a seed gives.
use Rattle.std.specs.Prelude.{◌≡◌, ◌≢◌, ℕ, ◌+◌, ◌<◌, ◌%◌, List, [], ◌∷◌, Bool, true, false, ◌&&◌, cond, nat_eq, length, Option, Some, None, slice_get, slice_set, slice_index}
use Rattle.rand_pcg.specs.Lcg.{Lcg}
use Rattle.rand_pcg.specs.Pcg.{pcg32}
use Rattle.jc_rules.specs.declared.operation.Event.{Event}
use Rattle.jc_rules.specs.declared.rule.Rule.{Rule}
use Rattle.jc_rules.specs.Refused.{Cause, IsStuckIn}
use Rattle.jc_rules.specs.State.{State}
use Rattle.jc_rules.specs.Step.{Network, StepIn}
use Rattle.jc_rules.specs.Syntax.{Cmd}
use Rattle.jc_choice.specs.declared.phase.Phase.{Phase}
use Rattle.jc_choice.specs.declared.phase.Phase.TheVariants as P
use Rattle.jc_choice.specs.Chosen.{choice, is_yield}

-- The network, the phase of each replica, the numbers of the replicas that haven't left, the generator, and how many
-- events may still be made.
pub record Loom : Type 0 where
  pub network : Network
  pub phases : List Phase
  pub live : List ℕ
  pub generator : Lcg
  pub left : ℕ

-- ---- who waits

-- one command is left, and it is a yield
abbrev pub is_last_yield : List Cmd → Bool
is_last_yield [] = false
is_last_yield (c ∷ []) = is_yield c
is_last_yield (c ∷ d ∷ rest) = false

abbrev pub has_sent : Phase → Bool
has_sent P.Start = false
has_sent (P.Receiving q) = true
has_sent P.Applying = true

abbrev pub is_state_waiting : Option State → Phase → Bool
is_state_waiting None phase = false
is_state_waiting (Some A) phase = is_last_yield A.left && has_sent phase

abbrev pub phase_or_start : Option Phase → Phase
phase_or_start None = P.Start
phase_or_start (Some phase) = phase

abbrev pub phase_at : List Phase → ℕ → Phase
phase_at phases p = phase_or_start (slice_get phases p)

-- Replica p has sent at a yield that is its last command: what it receives there is the last that it hears.
abbrev pub is_waiting : List State → List Phase → ℕ → Bool
is_waiting states phases p = is_state_waiting (slice_get states p) (phase_at phases p)

-- ---- who is drawn

-- those that don't wait
abbrev pub eager_of : List State → List Phase → List ℕ → List ℕ
eager_of states phases [] = []
eager_of states phases (p ∷ ps) =
    cond (is_waiting states phases p) (eager_of states phases ps) (p ∷ eager_of states phases ps)

abbrev pub or_all : List ℕ → List ℕ → List ℕ
or_all [] all = all
or_all (p ∷ ps) all = p ∷ ps

-- those that don't wait, or all where each waits
abbrev pub pool : List State → List Phase → List ℕ → List ℕ
pool states phases live = or_all (eager_of states phases live) live

-- the one at the generator's next word, modulo their number
abbrev pub drawn_of : List ℕ → Lcg → ℕ
drawn_of ps generator = slice_index ps ((pcg32 generator).0 % length ps)

abbrev pub drawn_replica : Loom → ℕ
drawn_replica L = drawn_of (pool L.network.states L.phases L.live) L.generator

-- what the drawn replica chooses
abbrev pub drawn_choice : Loom → Option (Event × Phase)
drawn_choice L = choice L.network.states (drawn_replica L) (phase_at L.phases (drawn_replica L))

-- ---- turns

-- The drawn replica makes an event; or it chooses none, and leaves; or the event that it chooses is stuck for this
-- cause, and it leaves.
pub data LoomTurn : Type 0 where
  makes : Event → LoomTurn
  finishes : ℕ → LoomTurn
  gets_stuck : Event → Cause → LoomTurn

abbrev pub without_replica : ℕ → List ℕ → List ℕ
without_replica p [] = []
without_replica p (q ∷ qs) = cond (nat_eq q p) (without_replica p qs) (q ∷ without_replica p qs)

-- The drawn replica makes the event that it chooses.
pub record MakesChosen (L : Loom) (e : Event) (M : Loom) : Type 0 where
  pub next : Phase
  pub rows : List (Rule × ℕ)
  pub is_chosen : drawn_choice L ≡ Some (e, next)
  pub step : StepIn L.network e M.network rows
  pub phases : M.phases ≡ slice_set L.phases (drawn_replica L) next
  pub live : M.live ≡ L.live
  pub generator : M.generator ≡ (pcg32 L.generator).1
  pub left : M.left + 1 ≡ L.left

-- The drawn replica leaves, and nothing else changes but the generator.
pub record LeavesLoom (L M : Loom) : Type 0 where
  pub network : M.network ≡ L.network
  pub phases : M.phases ≡ L.phases
  pub live : M.live ≡ without_replica (drawn_replica L) L.live
  pub generator : M.generator ≡ (pcg32 L.generator).1
  pub left : M.left ≡ L.left

-- The event that the drawn replica chooses is stuck.
pub record ChoosesStuck (L : Loom) (e : Event) (why : Cause) : Type 0 where
  pub next : Phase
  pub is_chosen : drawn_choice L ≡ Some (e, next)
  pub is_stuck : IsStuckIn L.network e why

abbrev pub DoesTurn : Loom → LoomTurn → Loom → Type 0
DoesTurn L (makes e) M = MakesChosen L e M
DoesTurn L (finishes p) M = (p ≡ drawn_replica L) × (drawn_choice L ≡ None) × LeavesLoom L M
DoesTurn L (gets_stuck e why) M = ChoosesStuck L e why × LeavesLoom L M

-- A turn. There is one only where an event may be made and a replica hasn't left.
pub record IsLoomTurn (L : Loom) (t : LoomTurn) (M : Loom) : Type 0 where
  pub room : 0 < L.left
  pub some : L.live ≢ []
  pub does : DoesTurn L t M

-- one loom follows from another by the turns, in their order
abbrev pub WeavesTo : Loom → List LoomTurn → Loom → Type 0
WeavesTo L [] M = L ≡ M
WeavesTo L (t ∷ ts) M = (K : Loom) × IsLoomTurn L t K × WeavesTo K ts M
