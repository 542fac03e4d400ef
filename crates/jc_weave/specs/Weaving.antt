-- The schedule of a scenario that a seed gives, and how each replica ended: the contract of `weave`.
use Rattle.std.specs.Prelude.{◌≡◌, ◌⊎◌, ℕ, ◌+◌, List, [], ◌∷◌, ◌++◌, map, length, nat_eq, find, slice_get, Option, Some, None}
use Rattle.rand_pcg.specs.Lcg.{Lcg, started, increment_of}
use Rattle.rand_pcg.specs.Pcg.{multiplier_64}
use Rattle.jc_rules.specs.declared.operation.Event.{Event}
use Rattle.jc_rules.specs.State.{State}
use Rattle.jc_rules.specs.Step.{Network, replica_of}
use Rattle.jc_rules.specs.Syntax.{Cmd}
use Rattle.jc_network.specs.declared.fault.Stuck.{Stuck}
use Rattle.jc_network.specs.Given.{IsStart}
use Rattle.jc_network.specs.Steps.{stuck_for}
use Rattle.jc_scenario.specs.WellFormed.{Scenario}
use Rattle.jc_choice.specs.declared.phase.Phase.{Phase}
use Rattle.jc_choice.specs.declared.phase.Phase.TheVariants as P
use Rattle.jc_choice.specs.declared.end.End.{End}
use Rattle.jc_choice.specs.declared.end.End.TheVariants as N
use Rattle.jc_choice.specs.Legal.{own_events}
use Rattle.jc_weave.specs.Looms.{Loom, LoomTurn, makes, finishes, gets_stuck, IsLoomTurn, WeavesTo}

-- ---- the first loom

-- the generator of the seed; its stream is that of the generator's reference
abbrev pub seeded : ℕ → Lcg
seeded seed = started 64 multiplier_64 seed (increment_of 64 54)

-- each replica is at the start of a yield
abbrev pub all_start : List (List ℕ) → List Phase
all_start names = map (λ name. P.Start) names

-- the numbers from k on, one for each name
abbrev pub numbers_from : ℕ → List (List ℕ) → List ℕ
numbers_from k [] = []
numbers_from k (name ∷ names) = k ∷ numbers_from (k + 1) names

abbrev pub loom : Network → List Phase → List ℕ → Lcg → ℕ → Loom
loom network phases live generator left = record {
  network = network;
  phases = phases;
  live = live;
  generator = generator;
  left = left;
}

-- before all turns: no replica has left, and as many events as the limit may be made
abbrev pub first_loom : Scenario → Network → ℕ → ℕ → Loom
first_loom s start seed limit = loom start (all_start s.names) (numbers_from 0 s.names) (seeded seed) limit

-- ---- what turns give

abbrev pub with_made : LoomTurn → List Event → List Event
with_made (makes e) es = e ∷ es
with_made (finishes p) es = es
with_made (gets_stuck e why) es = es

-- the events that were made
abbrev pub made_events : List LoomTurn → List Event
made_events [] = []
made_events (t ∷ ts) = with_made t (made_events ts)

abbrev pub with_stuck : LoomTurn → List Stuck → List Stuck
with_stuck (makes e) stucks = stucks
with_stuck (finishes p) stucks = stucks
with_stuck (gets_stuck e why) stucks = stuck_for why e ∷ stucks

-- the events that were stuck
abbrev pub stuck_events : List LoomTurn → List Stuck
stuck_events [] = []
stuck_events (t ∷ ts) = with_stuck t (stuck_events ts)

-- ---- how each replica ended

abbrev pub end_of_left : List Cmd → End
end_of_left [] = N.Finished
end_of_left (c ∷ rest) = N.LimitReached

abbrev pub end_of_state : Option State → End
end_of_state None = N.Finished
end_of_state (Some A) = end_of_left A.left

abbrev pub end_or : Option Stuck → End → End
end_or None end = end
end_or (Some stuck) end = N.StuckAt stuck

-- Where replica p got stuck, this is its end. Else it has finished where no command is left to it, and the limit was
-- met where one is.
abbrev pub end_in : List Stuck → List State → ℕ → End
end_in stucks states p =
    end_or (find (λ (stuck : Stuck). nat_eq (replica_of stuck.event) p) stucks) (end_of_state (slice_get states p))

abbrev pub ends_in : List Stuck → List State → List (List ℕ) → List End
ends_in stucks states names = map (end_in stucks states) (numbers_from 0 names)

-- how many events each replica made
abbrev pub counts_in : List Event → List (List ℕ) → List ℕ
counts_in schedule names = map (λ p. length (own_events schedule p)) (numbers_from 0 names)

-- ---- the schedule of a seed

-- The loom after turns from the scenario's start; these events were made, and these were stuck.
pub record IsLoomAfter
    (s : Scenario) (seed limit : ℕ) (M : Loom) (schedule : List Event) (stucks : List Stuck) : Type 0 where
  pub start : Network
  pub is_start : IsStart s start
  pub turns : List LoomTurn
  pub weaves : WeavesTo (first_loom s start seed limit) turns M
  pub events : schedule ≡ made_events turns
  pub stuck : stucks ≡ stuck_events turns

-- One turn more, by which the events that were made and those that were stuck grow.
pub record IsOneTurnMore (L M : Loom) (before after : List Event) (stucks more : List Stuck) : Type 0 where
  pub turn : LoomTurn
  pub is_turn : IsLoomTurn L turn M
  pub events : after ≡ before ++ with_made turn []
  pub stuck : more ≡ stucks ++ with_stuck turn []

-- The turns of the seed go on until no event may be made or each replica has left. The schedule is that of the events
-- that were made, and this is the network after them, and how each replica ended.
pub record IsWoven
    (s : Scenario) (seed limit : ℕ) (schedule : List Event) (network : Network) (ends : List End) : Type 0 where
  pub last : Loom
  pub stucks : List Stuck
  pub after : IsLoomAfter s seed limit last schedule stucks
  pub is_over : (last.left ≡ 0) ⊎ (last.live ≡ [])
  pub is_network : network ≡ last.network
  pub are_ends : ends ≡ ends_in stucks network.states s.names
