-- About specs/Weaving: a stuck event names replicas of the scenario, and how many ends and counts there are.
use Rattle.std.proofs.Common.{arith, ◌≡◌, ℕ, ◌+◌, List, [], ◌∷◌, ◌++◌, refl, sym, ◌∙◌, subst, length, map, find, nat_eq, slice_get, Option, Some, None, Bool, true, false, if◌then◌else◌}
use Rattle.std.specs.Prelude.{All}
use Rattle.std.proofs.lemmas.List.{length-map}
use Rattle.std.proofs.lemmas.List.Elements.{All-nil, All-cons, All-head, All-tail}
use Rattle.std.proofs.lemmas.Option.{same_Some, none-some}
use Rattle.jc_rules.specs.declared.operation.Event.{Event}
use Rattle.jc_rules.specs.Refused.{Cause}
use Rattle.jc_rules.specs.State.{State}
use Rattle.jc_rules.specs.Step.{Network, replica_of}
use Rattle.jc_rules.specs.Syntax.{Cmd}
use Rattle.jc_printer.specs.Canon.{AreNamed}
use Rattle.jc_network.specs.declared.fault.Stuck.{Stuck}
use Rattle.jc_network.specs.Laws.{starts}
use Rattle.jc_network.specs.RunInvariant.{IsWell}
use Rattle.jc_network.specs.Steps.{stuck_for}
use Rattle.jc_network.proofs.AfterLemmas.{after_one_more}
use Rattle.jc_network.proofs.RunInvariantStartLemmas.{start_well, after_well}
use Rattle.jc_scenario.specs.WellFormed.{Scenario, IsWellFormedScenario}
use Rattle.jc_choice.specs.declared.end.End.{End}
use Rattle.jc_choice.specs.declared.end.End.TheVariants as N
use Rattle.jc_choice.specs.Legal.{IsLegal}
use Rattle.jc_choice.proofs.ChosenNamesLemmas.{IsNamedChoice, chosen_named}
use Rattle.jc_choice.proofs.LegalGrowsLemmas.{legal_states}
use Rattle.jc_choice.proofs.ChosenNowLemmas.{as_many}
use Rattle.jc_weave.specs.Looms.{Loom, LoomTurn, makes, finishes, gets_stuck, ChoosesStuck, WeavesTo, phase_at, drawn_replica}
use Rattle.jc_weave.specs.Weaving.{first_loom, stuck_events, numbers_from, end_of_left, end_of_state, end_or, end_in, ends_in, counts_in, IsWoven}
use Rattle.jc_weave.proofs.WeavingChosenLemmas.{chooser}

-- an event of replicas of the scenario, with the cause for which it is stuck
pub record IsOfReplicas (n : ℕ) (stuck : Stuck) : Type 0 where
  pub why : Cause
  pub event : Event
  pub is : stuck ≡ stuck_for why event
  pub named : AreNamed event n

stuck_of_replicas : (s : Scenario) (before : List Event) (L : Loom) (e : Event) (why : Cause) → IsWellFormedScenario s → IsLegal before s L.network → ChoosesStuck L e why → IsOfReplicas (length s.names) (stuck_for why e)
stuck_of_replicas s before L e why formed legal c =
    let states = L.network.states in
    let d = drawn_replica L in
    let phase = phase_at L.phases d in
    let well : IsWell states = after_well (starts s.scripts) (s.given ++ before) states (start_well s.scripts) (legal_states s before L.network legal) in
    let named = subst (IsNamedChoice (length states)) c.is_chosen (chosen_named states d phase well (chooser states d phase c.next e c.is_chosen)) in
    record { why = why; event = e; is = refl; named = subst (AreNamed e) (as_many s before L.network legal ∙ formed.each) named }

along : (s : Scenario) (before : List Event) (L M : Loom) (ts : List LoomTurn) → IsWellFormedScenario s → IsLegal before s L.network → WeavesTo L ts M → All (IsOfReplicas (length s.names)) (stuck_events ts)
along s before L M [] formed legal w = All-nil (IsOfReplicas (length s.names))
along s before L M (makes e ∷ ts) formed legal w =
    let m = w.1.does in
    along s (before ++ e ∷ []) w.0 M ts formed (record { start = legal.start; is_start = legal.is_start; after = after_one_more legal.start before L.network e w.0.network m.rows legal.after m.step }) w.2
along s before L M (finishes p ∷ ts) formed legal w = along s before w.0 M ts formed (subst (IsLegal before s) (sym w.1.does.2.network) legal) w.2
along s before L M (gets_stuck e why ∷ ts) formed legal w =
    All-cons (IsOfReplicas (length s.names)) (stuck_for why e) (stuck_events ts) (stuck_of_replicas s before L e why formed legal w.1.does.0)
    (along s before w.0 M ts formed (subst (IsLegal before s) (sym w.1.does.1.network) legal) w.2)

-- what is found is one of all
found_of_all : (P : Stuck → Type 0) (f : Stuck → Bool) (stucks : List Stuck) (stuck : Stuck) → All P stucks → find f stucks ≡ Some stuck → P stuck
found_of_all P f [] stuck all is = absurd (none-some _ is)
found_of_all P f (t ∷ stucks) stuck all is = go (f t) is (found_of_all P f stucks stuck (All-tail P t stucks all))
  where
    go : (b : Bool) → (if b then Some t else find f stucks) ≡ Some stuck → (find f stucks ≡ Some stuck → P stuck) → P stuck
    go true here more = subst P (same_Some t stuck here) (All-head P t stucks all)
    go false later more = more later

-- an end of a replica that is stuck has such an event
abbrev pub IsEndOfReplicas : ℕ → End → Type 0
IsEndOfReplicas n N.Finished = Unit {0}
IsEndOfReplicas n (N.StuckAt stuck) = IsOfReplicas n stuck
IsEndOfReplicas n N.LimitReached = Unit {0}
IsEndOfReplicas n N.NoMemory = ⊥

state_end : (n : ℕ) (o : Option State) → IsEndOfReplicas n (end_of_state o)
state_end n None = tt
state_end n (Some A) = go A.left
  where
    go : (left : List Cmd) → IsEndOfReplicas n (end_of_left left)
    go [] = tt
    go (c ∷ rest) = tt

end_of_replicas : (n : ℕ) (stucks : List Stuck) (states : List State) (p : ℕ) → All (IsOfReplicas n) stucks → IsEndOfReplicas n (end_in stucks states p)
end_of_replicas n stucks states p all = go (find is_own stucks) (found_of_all (IsOfReplicas n) is_own stucks)
  where
    is_own : Stuck → Bool
    is_own stuck = nat_eq (replica_of stuck.event) p

    go : (o : Option Stuck) → ((stuck : Stuck) → All (IsOfReplicas n) stucks → o ≡ Some stuck → IsOfReplicas n stuck) → IsEndOfReplicas n (end_or o (end_of_state (slice_get states p)))
    go None known = state_end n (slice_get states p)
    go (Some stuck) known = known stuck all refl

mapped : (P : End → Type 0) (f : ℕ → End) (ps : List ℕ) → ((p : ℕ) → P (f p)) → All P (map f ps)
mapped P f [] each = All-nil P
mapped P f (p ∷ ps) each = All-cons P (f p) (map f ps) (each p) (mapped P f ps each)

-- no end of a woven schedule is want of memory, and a stuck event names replicas of the scenario
pub ends_of_replicas : (s : Scenario) (seed limit : ℕ) (schedule : List Event) (network : Network) (ends : List End) → IsWellFormedScenario s → IsWoven s seed limit schedule network ends → All (IsEndOfReplicas (length s.names)) ends
ends_of_replicas s seed limit schedule network ends formed x =
    let a = x.after in
    let n = length s.names in
    let first = first_loom s a.start seed limit in
    let known = along s [] first x.last a.turns formed (record { start = a.start; is_start = a.is_start; after = refl }) a.weaves in
    let all : All (IsOfReplicas n) x.stucks = subst (All (IsOfReplicas n)) (sym a.stuck) known in
    subst (All (IsEndOfReplicas n)) (sym x.are_ends) (mapped (IsEndOfReplicas n) (end_in x.stucks network.states) (numbers_from 0 s.names) (λ p. end_of_replicas n x.stucks network.states p all))

numbers_long : (k : ℕ) (names : List (List ℕ)) → length (numbers_from k names) ≡ length names
numbers_long k [] = refl
numbers_long k (n ∷ ns) = omega (arith, numbers_long (k + 1) ns)

-- an end and a count for each replica
pub ends_long : (stucks : List Stuck) (states : List State) (names : List (List ℕ)) → length (ends_in stucks states names) ≡ length names
ends_long stucks states names = length-map (numbers_from 0 names) (end_in stucks states) ∙ numbers_long 0 names

pub counts_long : (schedule : List Event) (names : List (List ℕ)) → length (counts_in schedule names) ≡ length names
counts_long schedule names = length-map (numbers_from 0 names) _ ∙ numbers_long 0 names
