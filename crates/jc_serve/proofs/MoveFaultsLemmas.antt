-- What moves are refused for: one cause alone, and where events lead to a position none on the way there.
use Rattle.std.proofs.Common.{◌≡◌, ℕ, ◌<◌, ◌≤◌, List, length, take, slice_get, Some, ap, sym, subst, ◌∙◌, arith}
use Rattle.jc_rules.specs.declared.limits.TheConstants.{MAX_EVENTS}
use Rattle.jc_rules.specs.declared.operation.Event.{Event}
use Rattle.jc_rules.specs.declared.refusal.Refusal.{Refusal}
use Rattle.jc_rules.specs.Step.{Network, AfterIn}
use Rattle.jc_scenario.specs.WellFormed.{Scenario}
use Rattle.jc_network.specs.declared.fault.Stuck.{Stuck}
use Rattle.jc_debug.specs.declared.fault.DebugFault.{DebugFault}
use Rattle.jc_debug.specs.declared.fault.DebugFault.TheVariants as D
use Rattle.jc_debug.specs.DebuggerState.{IsNetworkAt, MakesEvent, IsStuckAt}
use Rattle.jc_debug.specs.Invariant.{Seen, IsDebugger, IsMoved, start_of}
use Rattle.jc_debug.specs.Moves.{IsMoveFault, IsStuckHere}
use Rattle.jc_debug.proofs.InvariantLemmas.{after_first, is_at}
use Rattle.jc_debug.proofs.LawsLemmas.{cut, none_makes}
use Rattle.jc_serve.specs.declared.served.Served.{Served as AnyServed}
use Rattle.jc_serve.specs.AnswerOf.{IsInService}
use Rattle.jc_serve.specs.InMemory.{state_of, IsServing}
use Rattle.jc_serve.specs.Marks.{Served, moved_to}
use Rattle.jc_serve.specs.Moves.{ArePaired, HasNetworkAt, SharesFirst}

pub refused_for : (why r : Refusal) (old new : Seen) (n : ℕ) (fault : DebugFault) → fault ≡ D.Refused r → IsMoveFault why old new n fault → fault ≡ D.Refused why
refused_for why r old new n fault is h =
    let f : IsMoveFault why old new n (D.Refused r) = subst (λ k. IsMoveFault why old new n k) is h in
    is ∙ ap D.Refused f.0

-- ---- positions to which events lead

-- none before such a position is stuck
pub never_stuck : (why : Refusal) (old new : Seen) (n : ℕ) (s : Stuck) (fault : DebugFault) → fault ≡ D.Stuck s → HasNetworkAt old n → IsMoveFault why old new n fault → ⊥
never_stuck why old new n s fault is there h =
    let f : IsMoveFault why old new n (D.Stuck s) = subst (λ k. IsMoveFault why old new n k) is h in
    let made = cut (start_of old) old.schedule f.0 n there.0 f.1.short there.1.within there.1.after in
    none_makes (start_of old) old.schedule f.0 made.0 f.2.event made.1 f.2.why made.2 f.2.stuck

on_trail : (d : Seen) (n : ℕ) (trail : IsDebugger d) (lt : n < length d.traces) → IsNetworkAt (start_of d) d.schedule n (trail.follows n lt).before
on_trail d n trail lt =
    let f = trail.follows n lt in
    let w = trail.within in
    record { within = omega (arith, w, lt); after = after_first d trail n (omega (arith, lt)) f.before f.is_before }

-- behind the first events, where they are the same
both_at : (S T : Network) (es fs : List Event) (n : ℕ) (N : Network) → S ≡ T → take n es ≡ take n fs → n ≤ length es → IsNetworkAt T fs n N → IsNetworkAt S es n N
both_at S T es fs n N start first within h = record {
  within = within;
  after = subst (λ (X : Network). AfterIn X (take n es) N) (sym start) (subst (λ (gs : List Event). AfterIn T gs N) (sym first) h.after);
}

pub aside_there : (x : AnyServed) (n : ℕ) → IsDebugger x.here → ArePaired x → n < length x.here.traces → HasNetworkAt x.aside n
aside_there x n trail p lt =
    let there = on_trail x.here n trail lt in
    let le = there.within in
    let same = ap length p.schedule in
    let before = (trail.follows n lt).before in
    (before, both_at (start_of x.aside) (start_of x.here) x.aside.schedule x.here.schedule n before p.start (ap (take n) p.schedule) (omega (arith, le, same)) there)

-- the debugger here has moved on its schedule
pub paired_moved : (x : AnyServed) (h : Seen) (n : ℕ) → IsInService x → IsMoved x.here h n → ArePaired (record x { here = h })
paired_moved x h n (s, start, v) m = record {
  start = v.aside.is_start ∙ (sym v.here.is_start ∙ sym m.start);
  schedule = v.same ∙ sym m.schedule;
}

-- what was looked at elsewhere leaves a way back
pub still_there : (x y : AnyServed) (was : ℕ)
    → IsInService x
    → IsDebugger x.here
    → was ≡ length x.here.traces
    → ((s : Scenario) (start : Network) → IsServing s start x → ((n : ℕ) × (state_of y ≡ moved_to (state_of x) n)) × IsServing s start y)
    → HasNetworkAt y.here was
still_there x y was (s, start, v) trail at h =
    let (moved, w) = h s start v in
    let same : y.here.schedule ≡ x.here.schedule = ap (λ (S : Served). S.schedule) moved.1 in
    let there : IsNetworkAt (start_of x.here) x.here.schedule was x.here.net.history.now = subst (λ (k : ℕ). IsNetworkAt (start_of x.here) x.here.schedule k x.here.net.history.now) (sym at) (is_at x.here trail) in
    let le = there.within in
    let longer = ap length same in
    (x.here.net.history.now, both_at (start_of y.here) (start_of x.here) y.here.schedule x.here.schedule was x.here.net.history.now (w.here.is_start ∙ sym v.here.is_start) (ap (take was) same) (omega (arith, le, longer)) there)

-- ---- an event that the debugger here has made

pub shared_there : (aside here : Seen) (n : ℕ) → IsDebugger here → SharesFirst aside here n → HasNetworkAt aside n
shared_there aside here n trail shares =
    let before = (trail.follows n shares.made).before in
    (before, both_at (start_of aside) (start_of here) aside.schedule here.schedule n before shares.start shares.first shares.within (on_trail here n trail shares.made))

pub never_full : (aside here brought : Seen) (n : ℕ) → IsDebugger here → SharesFirst aside here n → IsMoved aside brought n → length brought.traces ≡ MAX_EVENTS → ⊥
never_full aside here brought n trail shares moved full =
    let within = trail.within in
    let short = trail.short in
    let made = shares.made in
    let position = moved.position in
    absurd (omega (arith, within, short, made, position, full))

pub never_stuck_beside : (aside here brought : Seen) (n : ℕ) (event : Event) (s : Stuck) → IsDebugger here → SharesFirst aside here n → IsMoved aside brought n → slice_get here.schedule n ≡ Some event → IsStuckHere brought event s → ⊥
never_stuck_beside aside here brought n event s trail shares moved is stuck =
    let f = trail.follows n shares.made in
    let le = trail.within in
    let made = shares.made in
    let beside : IsNetworkAt (start_of brought) brought.schedule n brought.net.history.now = subst (λ (k : ℕ). IsNetworkAt (start_of brought) brought.schedule k brought.net.history.now) moved.position stuck.is_at in
    let at : IsNetworkAt (start_of here) here.schedule n brought.net.history.now =
    both_at (start_of here) (start_of brought) here.schedule brought.schedule n brought.net.history.now (sym shares.start ∙ sym moved.start) (sym shares.first ∙ ap (take n) (sym moved.schedule)) (omega (arith, le, made)) beside in
    let makes : MakesEvent (start_of here) here.schedule n f.event f.rows.rows = record { before = f.before; after = f.after; is_at = on_trail here n trail shares.made; is = f.is_event; step = f.step } in
    let sticks : IsStuckAt (start_of here) here.schedule n event stuck.stuck.why = record { before = brought.net.history.now; is_at = at; is = is; stuck = stuck.stuck.stuck } in
    none_makes (start_of here) here.schedule n f.event event f.rows.rows stuck.stuck.why makes sticks
