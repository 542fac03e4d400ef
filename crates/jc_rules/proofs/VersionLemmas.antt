-- About specs/Step and Version: in a network of a version an event has one step at most, and one that is stuck has none.
use Rattle.std.proofs.Common.{◌≡◌, ℕ, List, [], ◌∷◌, refl, sym, ◌∙◌, ap}
use Rattle.jc_rules.specs.declared.operation.Event.{Event}
use Rattle.jc_rules.specs.declared.rule.Rule.{Rule}
use Rattle.jc_rules.specs.Refused.{Cause, IsStuck, no_replica, no_sender, refused, IsStuckIn, replica_missing, sender_missing, wrong_version, question_refused}
use Rattle.jc_rules.specs.Step.{After, Network, StepIn, AfterIn}
use Rattle.jc_rules.specs.Version.{Allows}
use Rattle.jc_rules.proofs.StepLemmas.{one_step}
use Rattle.jc_rules.proofs.RefusedLemmas.{stuck_has_none, one_stuck}

same_network : (N M : Network) → N.version ≡ M.version → N.states ≡ M.states → N ≡ M
same_network N M e f i = record { version = e i; states = f i }

pub one_step_in : (network : Network) (event : Event) (new other : Network) (rows other_rows : List (Rule × ℕ)) → StepIn network event new rows → StepIn network event other other_rows → (new ≡ other) × (rows ≡ other_rows)
one_step_in network event new other rows other_rows a b =
    let one = one_step network.states event new.states other.states rows other_rows a.step b.step in
    (same_network new other (a.version ∙ sym b.version) one.0, one.1)

pub one_after_in : (network : Network) (events : List Event) (last other : Network) → AfterIn network events last → AfterIn network events other → last ≡ other
one_after_in network [] last other a b = sym a ∙ b
one_after_in network (e ∷ es) last other a b =
    let same : a.0 ≡ b.0 = (one_step_in network e a.0 b.0 a.1 b.1 a.2 b.2).0 in
    one_after_in b.0 es last other (rw (← same) (a.3)) b.3

-- without their version they follow from one another all the same
pub after_states : (network : Network) (events : List Event) (last : Network) → AfterIn network events last → After network.states events last.states
after_states network [] last a = ap (λ (N : Network). N.states) a
after_states network (e ∷ es) last a = (a.0.states, a.1, a.2.step, after_states a.0 es last a.3)

-- what is stuck for another cause than its version is stuck in the states alone
abbrev InStates : Network → Event → Cause → Type 0
InStates network event why = IsStuck network.states event why

pub stuck_states : (network : Network) (event : Event) (why : Cause) → Allows event network.version → IsStuckIn network event why → InStates network event why
stuck_states network event why allowed (replica_missing e) = no_replica e
stuck_states network event why allowed (sender_missing e) = no_sender e
stuck_states network event why allowed (wrong_version e f n) = absurd (n allowed)
stuck_states network event why allowed (question_refused e f a r) = refused e f r

-- and so is the other way round
pub stuck_in : (network : Network) (event : Event) (why : Cause) → Allows event network.version → InStates network event why → IsStuckIn network event why
stuck_in network event why allowed (no_replica e) = replica_missing e
stuck_in network event why allowed (no_sender e) = sender_missing e
stuck_in network event why allowed (refused e f r) = question_refused e f allowed r

pub stuck_in_has_none : (network new : Network) (event : Event) (why : Cause) (rows : List (Rule × ℕ)) → IsStuckIn network event why → StepIn network event new rows → ⊥
stuck_in_has_none network new event why rows h s =
    stuck_has_none network.states new.states event why rows (stuck_states network event why s.allowed h) s.step

pub one_stuck_in : (network : Network) (event : Event) (why other : Cause) → IsStuckIn network event why → IsStuckIn network event other → why ≡ other
one_stuck_in network event why other (wrong_version e f n) (wrong_version g h m) = refl
one_stuck_in network event why other (wrong_version e f n) (replica_missing g) = cc
one_stuck_in network event why other (wrong_version e f n) (sender_missing g) = cc
one_stuck_in network event why other (wrong_version e f n) (question_refused g h a r) = absurd (n a)
one_stuck_in network event why other (replica_missing e) (wrong_version g h m) = cc
one_stuck_in network event why other (sender_missing e) (wrong_version g h m) = cc
one_stuck_in network event why other (question_refused e f a r) (wrong_version g h m) = absurd (m a)
one_stuck_in network event why other (replica_missing e) (replica_missing f) = refl
one_stuck_in network event why other (replica_missing e) (sender_missing f) = refl
one_stuck_in network event why other (replica_missing e) (question_refused g h a r) = cc
one_stuck_in network event why other (sender_missing e) (replica_missing f) = refl
one_stuck_in network event why other (sender_missing e) (sender_missing f) = refl
one_stuck_in network event why other (sender_missing e) (question_refused g h a r) = cc
one_stuck_in network event why other (question_refused e f a r) (replica_missing g) = cc
one_stuck_in network event why other (question_refused e f a r) (sender_missing g) = cc
one_stuck_in network event why other (question_refused e f a r) (question_refused g h b s) =
    one_stuck network.states event why other (refused e f r) (refused g h s)
