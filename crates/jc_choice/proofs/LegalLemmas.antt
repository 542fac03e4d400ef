-- About specs/Laws: a scenario may have each schedule that leads from its start.
use Rattle.std.proofs.Common.{arith, ◌≡◌, ℕ, ◌≤◌, ◌<◌, List, [], ◌∷◌, ◌++◌, Option, Some, None, Contains, refl, sym, ◌∙◌, ap, subst, length, slice_get}
use Rattle.std.specs.Prelude.{All}
use Rattle.std.proofs.lemmas.List.{length-map}
use Rattle.std.proofs.lemmas.List.Elements.{All-nil, All-cons, All-tail}
use Rattle.std.proofs.lemmas.Option.{same_Some, slice_get_within}
use Rattle.jc_rules.specs.declared.id.Id.{Id}
use Rattle.jc_rules.specs.declared.operation.Op.{Op}
use Rattle.jc_rules.specs.declared.operation.Event.{Event}
use Rattle.jc_rules.specs.declared.operation.Event.TheVariants as E
use Rattle.jc_rules.specs.declared.rule.Rule.{Rule}
use Rattle.jc_rules.specs.State.{State, start}
use Rattle.jc_rules.specs.Step.{Step, After, Network, AfterIn, replica_of, read_by, send_of}
use Rattle.jc_rules.specs.Table.{op_of}
use Rattle.jc_rules.specs.Version.{Allows}
use Rattle.jc_rules.proofs.RepresentationLemmas.{looked_up}
use Rattle.jc_parser.specs.LegalSymbols.{IsCounterBelow}
use Rattle.jc_printer.specs.Canon.{AreNamed}
use Rattle.jc_scenario.specs.WellFormed.{Scenario, IsWellFormedScenario}
use Rattle.jc_network.specs.Given.{before_given}
use Rattle.jc_network.specs.Laws.{starts}
use Rattle.jc_network.specs.RunInvariant.{IsMadeOp, IsWell, CountsCommands, commands_left}
use Rattle.jc_network.specs.Refines.{AreShort}
use Rattle.jc_network.proofs.AfterLemmas.{after_count, after_version}
use Rattle.jc_network.proofs.StartLemmas.{short_scripts}
use Rattle.jc_network.proofs.CountersLemmas.{start_counted, step_counted}
use Rattle.jc_network.proofs.EventDidLemmas.{Did, bound, made, sent, received, took, applied, done, did}
use Rattle.jc_network.proofs.RunInvariantStartLemmas.{start_well}
use Rattle.jc_network.proofs.RunInvariantLemmas.{step_well}
use Rattle.jc_network.proofs.OfferedLemmas.{left_bound}
use Rattle.jc_choice.specs.Legal.{IsLegal}
use Rattle.jc_choice.specs.Laws.{with_schedule}
use Rattle.jc_choice.proofs.LegalGrowsLemmas.{legal_states}

-- replicas and counters that the event may name in a scenario of n replicas
abbrev IsFit : ℕ → Event → Type 0
IsFit n e = AreNamed e n × IsCounterBelow e

abbrev id_or : Id → Event → Id
id_or i (E.Take p q j) = j
id_or i (E.Apply p j) = j
id_or i _ = i

-- what is applied was received
received_op : (A B : State) (p : ℕ) (i : Id) (read : List Op) → Did A (E.Apply p i) read B → (o : Op) × (op_of i A.recv ≡ Some o)
received_op A B p i read (bound q rest x e b is left s new) = cc
received_op A B p i read (made q rest c e cur m t is left s op new) = cc
received_op A B p i read (sent q rest is left new) = cc
received_op A B p i read (received q r rest is left new) = cc
received_op A B p i read (took q r j rest o is left found new) = cc
received_op A B p i read (applied q j rest o t is left there new_id deps op new) = (o, ap (λ e. op_of (id_or i e) A.recv) is ∙ there)
received_op A B p i read (done q rest is left new) = cc

-- what is taken is offered
taken_op : (A B : State) (p q : ℕ) (i : Id) (read : List Op) → Did A (E.Take p q i) read B → (o : Op) × (op_of i read ≡ Some o)
taken_op A B p q i read (bound r rest x e b is left s new) = cc
taken_op A B p q i read (made r rest c e cur m t is left s op new) = cc
taken_op A B p q i read (sent r rest is left new) = cc
taken_op A B p q i read (received r s rest is left new) = cc
taken_op A B p q i read (took r s j rest o is left found new) = (o, ap (λ e. op_of (id_or i e) read) is ∙ found)
taken_op A B p q i read (applied r j rest o t is left there new_id deps op new) = cc
taken_op A B p q i read (done r rest is left new) = cc

there_is : (o : Option State) (read : List Op) → send_of o ≡ Some read → (A : State) × (o ≡ Some A) × (A.send ≡ read)
there_is None read e = cc
there_is (Some A) read e = (A, refl, same_Some A.send read e)

module _ (total : ℕ) (few : total < 4294967296) (N : List State) (w : IsWell N) (c : CountsCommands total N) where
  -- an operation that was made names a replica, and its counter is small
  made_fit : (p : ℕ) (o : Op) → p < length N → IsMadeOp N o → IsFit (length N) (E.Apply p o.id)
  made_fit p o low m =
      let counter = c.counters o m in
      ((low, slice_get_within N o.id.replica m.at m.there), omega (arith, counter, few))

  event_fit : (e : Event) (A B : State) (read : List Op) → slice_get N (replica_of e) ≡ Some A → read_by e N ≡ Some read → Did A e read B → IsFit (length N) e
  event_fit (E.Exec p) A B read there reads d = (slice_get_within N p A there, tt)
  event_fit (E.Send p) A B read there reads d = (slice_get_within N p A there, tt)
  event_fit (E.Recv p q) A B read there reads d =
      let other = there_is (slice_get N q) read reads in
      ((slice_get_within N p A there, slice_get_within N q other.0 other.1), tt)
  event_fit (E.Take p q i) A B read there reads d =
      let other = there_is (slice_get N q) read reads in
      let of = taken_op A B p q i read d in
      let at = looked_up i read of.0 of.1 in
      let offered = w.sets.sent q other.0 of.0 other.1 (subst (λ (os : List Op). Contains os of.0) (sym other.2) at.1) in
      let fit = made_fit q of.0 (slice_get_within N q other.0 other.1) offered.1 in
      subst (λ j. IsFit (length N) (E.Take p q j)) at.0 ((slice_get_within N p A there, fit.0.0, fit.0.1), fit.1)
  event_fit (E.Apply p i) A B read there reads d =
      let of = received_op A B p i read d in
      let at = looked_up i A.recv of.0 of.1 in
      subst (λ j. IsFit (length N) (E.Apply p j)) at.0 (made_fit p of.0 (slice_get_within N p A there) (w.sets.received p A of.0 there at.1))
  event_fit (E.Done p) A B read there reads d = (slice_get_within N p A there, tt)

  step_fit : (e : Event) (M : List State) (rows : List (Rule × ℕ)) → Step N e M rows → IsFit (length N) e
  step_fit e M rows s =
      event_fit e s.before s.after s.read s.is_there s.reads (did s.before e s.read s.after (record { derivation = s.derivation; holds = s.holds; concludes = s.concludes }))

all_fit : (total : ℕ) → total < 4294967296 → (N : List State) (es : List Event) (M : List State) → IsWell N → CountsCommands total N → After N es M → All (IsFit (length N)) es
all_fit total few N [] M w c after = All-nil (IsFit (length N))
all_fit total few N (e ∷ es) M w c after =
    let first : IsFit (length N) e = step_fit total few N w c e after.0 after.1 after.2 in
    let same : length after.0 ≡ length N = after_count N (e ∷ []) after.0 (after.0, after.1, after.2, refl) in
    let rest = all_fit total few after.0 es M (step_well N e after.0 after.1 w after.2) (step_counted total N e after.0 after.1 w c after.2) after.3 in
    All-cons (IsFit (length N)) e es first (subst (λ n. All (IsFit n) es) same rest)

-- each event of a history is one that its network's version has
all_allowed : (N : Network) (es : List Event) (M : Network) → AfterIn N es M → All (λ e. Allows e N.version) es
all_allowed N [] M after = All-nil (λ e. Allows e N.version)
all_allowed N (e ∷ es) M after =
    All-cons (λ f. Allows f N.version) e es after.2.allowed
    (subst (λ v. All (λ f. Allows f v) es) after.2.version (all_allowed after.0 es M after.3))

all_behind : (P : Event → Type 0) (xs ys : List Event) → All P (xs ++ ys) → All P ys
all_behind P [] ys all = all
all_behind P (x ∷ xs) ys all = all_behind P xs ys (All-tail P x (xs ++ ys) all)

pub well_formed_with : (s : Scenario) (history : List Event) (N : Network) → IsWellFormedScenario s → IsLegal history s N → length history ≤ 100000 → IsWellFormedScenario (with_schedule s history)
well_formed_with s history N well legal small =
    let many : length s.scripts ≤ 64 = omega (arith, well.each, well.few) in
    let short : AreShort s.scripts = short_scripts s.scripts many well.formed in
    let bounded = left_bound s.scripts short.each in
    let total = commands_left (starts s.scripts) in
    let few : total < 4294967296 = omega (arith, bounded, many) in
    let count : length (starts s.scripts) ≡ length s.names = length-map s.scripts start ∙ well.each in
    let events = s.given ++ history in
    let all : All (IsFit (length s.names)) events = subst (λ n. All (IsFit n) events) count (all_fit total few (starts s.scripts) events N.states (start_well s.scripts) (start_counted s.scripts) (legal_states s history N legal)) in
    let fit : All (IsFit (length s.names)) history = all_behind (IsFit (length s.names)) s.given history all in
    let version : legal.start.version ≡ s.version = after_version (before_given s) s.given legal.start legal.is_start in
    record {
      some = well.some;
      few = well.few;
      legal = well.legal;
      free = well.free;
      rising = well.rising;
      each = well.each;
      formed = well.formed;
      commands = well.commands;
      first_given = well.first_given;
      given_short = well.given_short;
      given_known = well.given_known;
      given_counters = well.given_counters;
      short = small;
      known = λ k d low. (fit k d low).0;
      counters = λ k d low. (fit k d low).1;
      allowed = subst (λ v. All (λ e. Allows e v) history) version (all_allowed legal.start history N legal.after);
    }
