-- Of `Answers`: the events of a network that aren't stuck are a list, and one alone.
use Rattle.std.proofs.Common.{◌≡◌, ◌⊎◌, inl, inr, List, [], ◌∷◌, refl, ap}
use Rattle.jc_rules.specs.declared.operation.Event.{Event}
use Rattle.jc_rules.specs.Step.{Network}
use Rattle.jc_rules.proofs.VersionLemmas.{stuck_in_has_none}
use Rattle.jc_network.specs.Enabled.{AreChosen, no_more, chosen, left_out, AreEnabled, HasStep, IsNotStuck, IsAnyStuck, candidates}
use Rattle.jc_network.specs.Invariant.{IsFromStart}
use Rattle.jc_network.specs.Laws.{StepOrStuck}
use Rattle.jc_network.proofs.EnabledLemmas.{decided_in}

-- ---- one list

-- the events chosen from a list are one list
chosen_once : {Yes No : Event → Type 0} (cs ls ms : List Event) → ((e : Event) → Yes e → No e → ⊥) → AreChosen Yes No cs ls → AreChosen Yes No cs ms → ls ≡ ms
chosen_once cs ls ms never no_more no_more = refl
chosen_once cs ls ms never (chosen {event = e} {asked = ds} {listed = xs} y a) (chosen {listed = ys} z b) = ap (λ l. e ∷ l) (chosen_once ds xs ys never a b)
chosen_once cs ls ms never (chosen {event = e} y a) (left_out n b) = absurd (never e y n)
chosen_once cs ls ms never (left_out {event = e} n a) (chosen y b) = absurd (never e y n)
chosen_once cs ls ms never (left_out {asked = ds} {listed = xs} n a) (left_out {listed = ys} m b) = chosen_once ds xs ys never a b

pub one_enabled : (N : Network) (ls ms : List Event) → AreEnabled N (candidates N) ls → AreEnabled N (candidates N) ms → ls ≡ ms
one_enabled N ls ms listed other = chosen_once {Yes = IsNotStuck N} {No = IsAnyStuck N} (candidates N) ls ms (λ e free stuck. free stuck.0 stuck.1) listed other

-- ---- some list

some_chosen : (N : Network) → ((event : Event) → IsNotStuck N event ⊎ IsAnyStuck N event) → (asked : List Event) → (listed : List Event) × AreEnabled N asked listed
some_chosen N either [] = ([], no_more)
some_chosen N either (event ∷ asked) =
    let (listed, are) = some_chosen N either asked in
    elim (either event) [
      | inl free ↦ (event ∷ listed, chosen free are)
      | inr stuck ↦ (listed, left_out stuck are)
    ]

free_or_stuck : (N : Network) (event : Event) → HasStep N event ⊎ IsAnyStuck N event → IsNotStuck N event ⊎ IsAnyStuck N event
free_or_stuck N event (inl (new, rows, step)) = inl (λ why stuck. stuck_in_has_none N new event why rows stuck step)
free_or_stuck N event (inr stuck) = inr stuck

pub some_enabled : StepOrStuck → (N : Network) → IsFromStart N.states → (events : List Event) × AreEnabled N (candidates N) events
some_enabled law N (scripts, reached) = some_chosen N (λ event. free_or_stuck N event (decided_in N (λ e. (law scripts N.states reached e).0) event)) (candidates N)
