-- Lemmas about Given: given events lead from one network to another, and aren't passed on the way back.
use Rattle.std.proofs.Common.{◌≡◌, ℕ, ◌+◌, ◌<◌, ◌≤◌, Result, Err, Some, Bool, true, false, IsTrue, IsFalse, zero, suc, map, slice_get, unwrap_or, drop, set, List, [], ◌∷◌, ◌++◌, length, take, get_or, refl, sym, ◌∙◌, ap, subst, arith}
use Rattle.std.specs.declared.alloc.Global.{Global}
use Rattle.std.specs.declared.vec.Vec.{Vec}
use Rattle.std.proofs.lemmas.Grind.{common_steps}
use Rattle.std.proofs.lemmas.List.{take_more, take_all, length-map}
use Rattle.std.proofs.lemmas.Option.{slice_get-get_or}
use Rattle.jc_rules.specs.declared.operation.Event.{Event}
use Rattle.jc_rules.specs.declared.version.Version.{Version}
use Rattle.jc_rules.specs.State.{State, start}
use Rattle.jc_rules.specs.Step.{Network, AfterIn}
use Rattle.jc_rules.specs.Trace.{Rows}
use Rattle.jc_rules.proofs.VersionLemmas.{after_states}
use Rattle.jc_rules.specs.History.{timeline, begun, first_of}
use Rattle.jc_rules.proofs.HistoryLemmas.{first_step}
use Rattle.jc_replica.specs.ReplicaHistory.{ReplicaHistory}
use Rattle.jc_scenario.specs.WellFormed.{Scenario, IsWellFormedScenario}
use Rattle.jc_network.specs.declared.fault.StartFault.{StartFault}
use Rattle.jc_network.specs.declared.fault.StartFault.TheVariants as S
use Rattle.jc_network.specs.declared.fault.StepFault.{StepFault}
use Rattle.jc_network.specs.declared.fault.StepFault.TheVariants as E
use Rattle.jc_network.specs.declared.fault.Stuck.{Stuck}
use Rattle.jc_network.specs.declared.fault.Unstarted.{Unstarted}
use Rattle.jc_network.specs.declared.fault.Unstarted.TheVariants as U
use Rattle.jc_network.specs.Abstract.{real}
use Rattle.jc_network.specs.NetworkHistory.{NetworkHistory, StepsTo, begin_now, network_history_of, kept_of, network_of, of_version}
use Rattle.jc_network.specs.Given.{before_given, AreParts, IsBeforeGiven, IsStart, IsStarted, IsGivenFault, IsUnstartedFault}
use Rattle.jc_network.specs.Laws.{starts, IsReached}
use Rattle.jc_network.specs.Steps.{IsStuckFor}
use Rattle.jc_network.specs.Invariant.{IsInRun, IsNet}
use Rattle.jc_network.proofs.AfterLemmas.{after_more, after_one_more, after_count}
use Rattle.jc_network.proofs.InvariantLemmas.{now_in_run, length_end}
use Rattle.jc_network.proofs.StartLemmas.{short_scripts}

-- ---- from the parts of a scenario to its start

-- a network can begin with those of a well-formed one
pub has_parts : (s : Scenario) → IsWellFormedScenario s → AreParts s.names s.scripts
has_parts s h =
    let each = h.each in
    let few = h.few in
    record { each = each; short = short_scripts s.scripts (omega (arith, each, few)) h.formed }

-- where its given events have led, it begins
pub has_started : (s : Scenario) (first now last : NetworkHistory) (given : List Event) → IsBeforeGiven s.version s.names s.scripts first → given ≡ s.given → AfterIn first.history.now given now.history.now → now.names ≡ first.names → last ≡ record now { history = begun now.history.now } → IsStarted s last
has_started s first now last given before all led names is =
    subst (IsStarted s) (sym is)
    (record {
      names = names ∙ before.called;
      start = subst (λ (N : Network). AfterIn N s.given now.history.now) before.network (subst (λ (es : List Event). AfterIn first.history.now es now.history.now) all led);
      earlier = refl;
    })

-- or one of them is the first that is stuck
pub has_stuck : (s : Scenario) (first : NetworkHistory) (given : List Event) (at : ℕ) (t : Stuck) → IsBeforeGiven s.version s.names s.scripts first → given ≡ s.given → IsGivenFault first.history.now given at t → IsGivenFault (before_given s) s.given at t
has_stuck s first given at t before all h =
    subst (λ (N : Network). IsGivenFault N s.given at t) before.network (subst (λ (es : List Event). IsGivenFault first.history.now es at t) all h)

-- as a fault has it, with the names
pub told_given : (s : Scenario) (fault : Unstarted) (names : Vec (List ℕ) Global) (at : ℕ) (t : Stuck) → fault ≡ U.Given names at t → IsUnstartedFault s fault → (names.items ≡ s.names) × IsGivenFault (before_given s) s.given at t
told_given s fault names at t is h = subst (λ (f : Unstarted). IsUnstartedFault s f) is h

-- ---- the start of a scenario

-- it is reached from its scripts
pub start_reached : (s : Scenario) (network : Network) → IsStart s network → IsReached s.scripts network.states
start_reached s network h = (s.given, after_states (before_given s) s.given network h)

-- with a replica for each script
pub start_each : (s : Scenario) (network : Network) → IsStart s network → length network.states ≡ length s.scripts
start_each s network h =
    after_count (starts s.scripts) s.given network.states (after_states (before_given s) s.given network h) ∙ length-map s.scripts start

-- ---- one given event after another

-- what there was before all steps, where none was made
first_now : (c : NetworkHistory) → c.history.earlier ≡ [] → first_of c.history ≡ c.history.now
first_now c e = ap (λ (l : List Network). unwrap_or (slice_get (l ++ c.history.now ∷ []) 0) c.history.now) e

-- The first i of the given events have led from the one to the other, which has counted them.
pub record HaveLed (first now : NetworkHistory) (given : List Event) (i : ℕ) : Type 0 where
  pub after : AfterIn first.history.now (take i given) now.history.now
  pub counted : length now.history.earlier ≡ i
  pub from : first_of now.history ≡ first.history.now
  pub names : now.names ≡ first.names

pub led_none : (first : NetworkHistory) (given : List Event) → first.history.earlier ≡ [] → HaveLed first first given 0
led_none first given e = record { after = refl; counted = ap length e; from = first_now first e; names = refl }

pub led_more : (first old new : NetworkHistory) (given : List Event) (i : ℕ) (d : Event) (rows : Rows) → i < length given → HaveLed first old given i → StepsTo old (get_or given i d) new rows → HaveLed first new given (i + 1)
led_more first old new given i d rows l h s =
    let event = get_or given i d in
    let front : take (i + 1) given ≡ take i given ++ event ∷ [] = take_more given i d l in
    let more : length new.history.earlier ≡ length old.history.earlier + 1 = ap length s.earlier ∙ length_end old.history.earlier old.history.now in
    let c = h.counted in
    record {
      after = subst (λ (es : List Event). AfterIn first.history.now es new.history.now) (sym front) (after_one_more first.history.now (take i given) old.history.now event new.history.now rows.rows h.after s.step);
      counted = omega (arith, more, c);
      from = first_step old.history new.history s.earlier ∙ h.from;
      names = s.names ∙ h.names;
    }

-- so many steps don't fill it
pub led_short : (first now : NetworkHistory) (given : List Event) (i : ℕ) → i < length given → length given ≤ 100000 → HaveLed first now given i → 100000 ≤ length now.history.earlier → ⊥
led_short first now given i l m h f = let c = h.counted in absurd (omega (arith, l, m, c, f))

pub led_all : (first now : NetworkHistory) (given : List Event) (i : ℕ) → length given ≡ i → HaveLed first now given i → AfterIn first.history.now given now.history.now
led_all first now given i n h = subst (λ (es : List Event). AfterIn first.history.now es now.history.now) (take_all i given (omega (arith, n))) h.after

led_stuck : (first now : NetworkHistory) (given : List Event) (i : ℕ) (d : Event) (at : ℕ) (s : Stuck) → i < length given → HaveLed first now given i → at ≡ i + 1 → IsStuckFor now.history.now (get_or given i d) s → IsGivenFault first.history.now given at s
led_stuck first now given i d at s l h n stuck = record {
  event = get_or given i d;
  why = stuck.why;
  is = stuck.is;
  stuck = record {
    before = i;
    network = now.history.now;
    at_is = n;
    led = h.after;
    is = slice_get-get_or given i d l;
    stuck = stuck.stuck;
  };
}

-- the fault of the first given event that is stuck
pub lead_fails : {X : Type 0} (first now : NetworkHistory) (given : List Event) (i n : ℕ) (d : Event) (r : Result X StepFault) (t : Stuck) → i < length given → n ≡ i → HaveLed first now given i → ((s : Stuck) → r ≡ Err (E.Stuck s) → IsStuckFor now.history.now (get_or given i d) s) → r ≡ Err (E.Stuck t) → (at : ℕ) (s : Stuck) → ◌≡◌ {A = Result (Unit {0}) StartFault} (Err (S.Given (n + 1) t)) (Err (S.Given at s)) → IsGivenFault first.history.now given at s
lead_fails first now given i n d r t l c h told is at s e =
    let place : n + 1 ≡ at = cc in
    let same : t ≡ s = cc in
    let number : at ≡ i + 1 = sym place ∙ ap (λ (k : ℕ). k + 1) c in
    led_stuck first now given i d at s l h number (subst (IsStuckFor now.history.now (get_or given i d)) same (told t is))

-- ---- the way back from there

-- i steps were taken back
pub record HasUndone (first now : NetworkHistory) (i : ℕ) : Type 0 where
  pub counted : length now.history.earlier + i ≡ length first.history.earlier
  pub from : first_of now.history ≡ first_of first.history
  pub names : now.names ≡ first.names

pub undone_none : (c : NetworkHistory) → HasUndone c c 0
undone_none c = record { counted = omega arith; from = refl; names = refl }

pub undone_more : (first old new : NetworkHistory) (i : ℕ) (was : Bool) → i < length first.history.earlier → HasUndone first old i → (IsTrue was → old.history.earlier ≡ timeline new.history) → new.names ≡ old.names → (IsFalse was → (new ≡ old) × (old.history.earlier ≡ [])) → HasUndone first new (i + 1)
undone_more first old new i true l h back names none =
    let earlier : old.history.earlier ≡ timeline new.history = back refl in
    let more : length old.history.earlier ≡ length new.history.earlier + 1 = ap length earlier ∙ length_end new.history.earlier new.history.now in
    let c = h.counted in
    record {
      counted = omega (arith, more, c);
      from = sym (first_step new.history old.history earlier) ∙ h.from;
      names = names ∙ h.names;
    }
undone_more first old new i false l h back names none =
    let empty : length old.history.earlier ≡ 0 = ap length (none refl).1 in
    let c = h.counted in
    absurd (omega (arith, l, empty, c))

none_left : {X : Type 0} (xs : List X) → length xs ≡ 0 → xs ≡ []
none_left [] e = refl
none_left (x ∷ xs) e = absurd (omega (arith, e))

pub undone_all : (first now : NetworkHistory) (i : ℕ) → length first.history.earlier ≡ i → HasUndone first now i → now ≡ record first { history = begun (first_of first.history) }
undone_all first now i n h =
    let c = h.counted in
    let empty : now.history.earlier ≡ [] = none_left now.history.earlier (omega (arith, c, n)) in
    let state : now.history.now ≡ first_of first.history = sym (first_now now empty) ∙ h.from in
    let names = h.names in
    λ j. record { names = names j; history = record { now = state j; earlier = empty j } }

-- all steps taken back, the network is what it was before the given events
pub led_back : (first now last : NetworkHistory) (given : List Event) (i : ℕ) → first.history.earlier ≡ [] → HaveLed first now given i → last ≡ record now { history = begun (first_of now.history) } → last ≡ first
led_back first now last given i e h is =
    let state = h.from in
    let empty = sym e in
    let names = h.names in
    is ∙ (λ j. record { names = names j; history = record { now = state j; earlier = empty j } })

-- where the next event was refused, too
pub refused_back : (first now same last : NetworkHistory) (given : List Event) (i : ℕ) → first.history.earlier ≡ [] → HaveLed first now given i → same ≡ now → last ≡ record same { history = begun (first_of same.history) } → last ≡ first
refused_back first now same last given i e h kept is =
    led_back first now last given i e h (is ∙ ap (λ (c : NetworkHistory). record c { history = begun (first_of c.history) }) kept)

-- a network whose steps so far aren't counted is kept all the same
pub uncounted : (version : Version) (count : ℕ) (whose : List ℕ) (ps : List ReplicaHistory) → IsNet version count whose ps → IsNet version count [] ps
uncounted version count whose ps h =
    let run = now_in_run version count whose ps h in
    let now = of_version version (network_of ps) in
    record {
      each = h.each;
      numbered = h.numbered;
      backed = tt;
      scripts = h.scripts;
      first = network_of ps;
      runs = (
        record {
          short = run.short;
          given = run.given ++ run.events;
          before = after_more (of_version version (starts h.scripts)) run.given (of_version version h.first) run.events now run.before run.led;
          events = [];
          led = refl;
          set = run.set;
          seen = run.seen;
        },
        refl,
      );
    }

-- ---- where the replicas' histories begin anew

pub states_kept : (ps : List ReplicaHistory) → kept_of (map begin_now ps) ≡ kept_of ps
states_kept [] = refl
states_kept (p ∷ ps) = ap (λ (As : List State). p.history.now ∷ As) (states_kept ps)

number_kept : (ps : List ReplicaHistory) (p : ℕ) (replica : ReplicaHistory) → slice_get (map begin_now ps) p ≡ Some replica → (old : ReplicaHistory) × (slice_get ps p ≡ Some old) × (old.number ≡ replica.number)
number_kept [] p replica h = cc
number_kept (q ∷ ps) zero replica h = (q, refl, let e : begin_now q ≡ replica = cc in ap (λ (r : ReplicaHistory). r.number) e)
number_kept (q ∷ ps) (suc p) replica h = number_kept ps p replica h

pub begins_anew : (version : Version) (count : ℕ) (whose : List ℕ) (ps : List ReplicaHistory) → IsNet version count whose ps → IsNet version count [] (map begin_now ps)
begins_anew version count whose ps h =
    let now = uncounted version count whose ps h in
    record {
      each = length-map ps begin_now ∙ now.each;
      numbered = λ p replica e. let old = number_kept ps p replica e in sym old.2 ∙ now.numbered p old.0 old.1;
      backed = tt;
      scripts = now.scripts;
      first = now.first;
      runs = subst (λ (As : List State). IsInRun version now.scripts now.first (real As) As × (real As ≡ now.first)) (sym (states_kept ps)) now.runs;
    }

pub history_anew : (version : Version) (names : List (List ℕ)) (whose : List ℕ) (ps : List ReplicaHistory) → network_history_of version names [] (map begin_now ps) ≡ record (network_history_of version names whose ps) { history = begun (of_version version (network_of ps)) }
history_anew version names whose ps = ap (λ (As : List State). record { names = names; history = begun (of_version version (real As)) }) (states_kept ps)

-- one more begins
pub one_more_begins : (ps : List ReplicaHistory) (p : ℕ) (r d : ReplicaHistory) → p < length ps → r ≡ begin_now (get_or (map begin_now (take p ps) ++ drop p ps) p d) → set (map begin_now (take p ps) ++ drop p ps) p r ≡ map begin_now (take (suc p) ps) ++ drop (suc p) ps
one_more_begins [] p r d l h = absurd (omega arith)
one_more_begins (q ∷ ps) zero r d l h = ap (λ (t : ReplicaHistory). t ∷ ps) h
one_more_begins (q ∷ ps) (suc p) r d l h = ap (λ (ts : List ReplicaHistory). begin_now q ∷ ts) (one_more_begins ps p r d (omega arith) h)

-- all of them, where a call was lent the whole list
pub all_begin : (ps lent new : List ReplicaHistory) (n : ℕ) → n ≡ length ps → lent ≡ ps → new ≡ map begin_now lent → take n (new ++ drop (length new) ps) ≡ map begin_now ps
all_begin ps lent new n e l h = grind (arith, common_steps)
