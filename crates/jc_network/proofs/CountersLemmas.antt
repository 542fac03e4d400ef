-- Lemmas about RunInvariant: counters and the number of commands that were run.
use Rattle.std.proofs.Common.{◌≡◌, ℕ, zero, suc, ◌+◌, ◌≤◌, List, [], ◌∷◌, Some, Bool, true, false, ◌||◌, Contains, ◌⊎◌, inl, inr, slice_get, slice_set, length, refl, sym, ◌∙◌, ap, subst, arith}
use Rattle.std.proofs.lemmas.Option.{same_Some}
use Rattle.jc_rules.specs.declared.id.Id.{Id}
use Rattle.jc_rules.specs.declared.operation.Op.{Op}
use Rattle.jc_rules.specs.declared.operation.Event.{Event}
use Rattle.jc_rules.specs.Order.{same_id}
use Rattle.jc_rules.specs.Ids.{has_id, greatest}
use Rattle.jc_rules.specs.State.{State}
use Rattle.jc_rules.specs.Step.{Step, After, replica_of}
use Rattle.jc_rules.specs.Syntax.{Cmd}
use Rattle.jc_rules.proofs.IdsLemmas.{same_id-self}
use Rattle.jc_network.specs.RunInvariant.{IsReplicaAt, IsMadeOp, IsWell, commands_left, CountsCommands}
use Rattle.jc_network.specs.Laws.{starts, CountersAreRun}
use Rattle.jc_network.proofs.MembersLemmas.{in_with, set_there, set_other}
use Rattle.jc_network.proofs.EventDidLemmas.{new_op, Did, bound, made, sent, received, took, applied, done, did}
use Rattle.jc_network.proofs.RunInvariantLemmas.{step_well}
use Rattle.jc_network.proofs.RunInvariantStartLemmas.{none_made, start_well, after_well, held_made}

-- one replica's commands
set_left : (N : List State) (p : ℕ) (A B : State) → IsReplicaAt N p A → commands_left (slice_set N p B) + length A.left ≡ commands_left N + length B.left
set_left [] p A B e = cc
set_left (C ∷ N) zero A B e = let s : length C.left ≡ length A.left = ap (λ (S : State). length S.left) (same_Some C A e) in omega (arith, s)
set_left (C ∷ N) (suc p) A B e = omega (arith, set_left N p A B e)

-- what a step did to commands and queue
record Runs (A B : State) : Type 0 where
  left : length B.left ≤ length A.left
  queue : (x : Op) → Contains B.queue x → Contains A.queue x ⊎ ((x.id.counter ≡ greatest A.ops + 1) × (length B.left + 1 ≡ length A.left))

runs : (A : State) (event : Event) (read : List Op) (B : State) → Did A event read B → Runs A B
runs A event read B (bound p rest x e b is left s new) =
    let f : length A.left ≡ length rest + 1 = ap length left ∙ omega arith in
    subst (λ (S : State). Runs A S) (sym new) (record { left = omega (arith, f); queue = λ y k. inl k })
runs A event read B (made p rest c e cur m t is left s op new) = subst (λ (S : State). Runs A S) (sym new) (record { left = omega (arith, f); queue = λ y k. go y (in_with (new_op p A cur m) A.queue y k) })
  where
    f : length A.left ≡ length rest + 1
    f = ap length left ∙ omega arith

    go : (y : Op) → (new_op p A cur m ≡ y) ⊎ Contains A.queue y → Contains A.queue y ⊎ ((y.id.counter ≡ greatest A.ops + 1) × (length rest + 1 ≡ length A.left))
    go y (inl h) = inr (ap (λ (z : Op). z.id.counter) (sym h), sym f)
    go y (inr h) = inl h
runs A event read B (sent p rest is left new) = subst (λ (S : State). Runs A S) (sym new) (record { left = omega arith; queue = λ y k. inl k })
runs A event read B (received p q rest is left new) = subst (λ (S : State). Runs A S) (sym new) (record { left = omega arith; queue = λ y k. inl k })
runs A event read B (took p q i rest o is left found new) = subst (λ (S : State). Runs A S) (sym new) (record { left = omega arith; queue = λ y k. inl k })
runs A event read B (applied p i rest o t is left there new_id deps op new) = subst (λ (S : State). Runs A S) (sym new) (record { left = omega arith; queue = λ y k. inl k })
runs A event read B (done p rest is left new) =
    let f : length A.left ≡ length rest + 1 = ap length left ∙ omega arith in
    subst (λ (S : State). Runs A S) (sym new) (record { left = omega (arith, f); queue = λ y k. inl k })

-- a bound of all counters is one of the greatest
greatest_within : (s : List Id) (l total : ℕ) → l ≤ total → ((i : Id) → has_id i s ≡ true → i.counter + l ≤ total) → greatest s + l ≤ total
greatest_within [] l total h f = omega (arith, h)
greatest_within (i ∷ s) l total h f =
    let first : i.counter + l ≤ total = f i (rw (same_id-self i) refl) in
    let rest : greatest s + l ≤ total = greatest_within s l total h (λ j d. f j (or_right (same_id j i) (has_id j s) d)) in
    omega (arith, first, rest)
  where
    or_right : (a b : Bool) → b ≡ true → a || b ≡ true
    or_right true b e = refl
    or_right false b e = e

module _ (N : List State) (p : ℕ) (A B : State) (total : ℕ) (there : IsReplicaAt N p A) (w : IsWell N) (c : CountsCommands total N) (r : Runs A B) where
  applied_within : (i : Id) → has_id i A.ops ≡ true → i.counter + commands_left N ≤ total
  applied_within i d = let x = w.sets.applied p A i there d in go x.0 x.1 x.2
    where
      go : (o : Op) → Contains A.queue o ⊎ Contains A.recv o → o.id ≡ i → i.counter + commands_left N ≤ total
      go o (inl k) e = let s : o.id.counter ≡ i.counter = ap (λ (j : Id). j.counter) e in let b = c.counters o (record { at = A; there = ap (slice_get N) ((w.sets.own p A o there k).0) ∙ there; queued = k }) in omega (arith, s, b)
      go o (inr k) e = let s : o.id.counter ≡ i.counter = ap (λ (j : Id). j.counter) e in let b = c.counters o (w.sets.received p A o there k) in omega (arith, s, b)

  counted_after : CountsCommands total (slice_set N p B)
  counted_after = record { left = let l = c.left in let s = r.left in omega (arith, set_left N p A B there, l, s); counters = counters }
    where
      still : (o : Op) → IsMadeOp N o → o.id.counter + commands_left (slice_set N p B) ≤ total
      still o m = let b = c.counters o m in let s = r.left in omega (arith, set_left N p A B there, b, s)

      new : (o : Op) → (o.id.counter ≡ greatest A.ops + 1) × (length B.left + 1 ≡ length A.left) → o.id.counter + commands_left (slice_set N p B) ≤ total
      new o x = let g = greatest_within A.ops (commands_left N) total c.left applied_within in let s = x.0 in let t = x.1 in omega (arith, set_left N p A B there, g, s, t)

      in_queue : (o : Op) → o.id.replica ≡ p → Contains A.queue o ⊎ ((o.id.counter ≡ greatest A.ops + 1) × (length B.left + 1 ≡ length A.left)) → o.id.counter + commands_left (slice_set N p B) ≤ total
      in_queue o s (inl k) = still o (record { at = A; there = ap (slice_get N) s ∙ there; queued = k })
      in_queue o s (inr x) = new o x

      counters : (o : Op) → IsMadeOp (slice_set N p B) o → o.id.counter + commands_left (slice_set N p B) ≤ total
      counters o m = go (set_other N p o.id.replica B)
        where
          go : (o.id.replica ≡ p) ⊎ (slice_get (slice_set N p B) o.id.replica ≡ slice_get N o.id.replica) → o.id.counter + commands_left (slice_set N p B) ≤ total
          go (inl s) =
              let f : slice_get (slice_set N p B) o.id.replica ≡ Some B = ap (slice_get (slice_set N p B)) s ∙ set_there N p A B there in
              let same : m.at ≡ B = same_Some m.at B (sym m.there ∙ f) in
              in_queue o s (r.queue o (subst (λ (S : State). Contains S.queue o) same m.queued))
          go (inr s) = still o (record { at = m.at; there = sym s ∙ m.there; queued = m.queued })

pub step_counted : (total : ℕ) (N : List State) (event : Event) (M : List State) (rows : _) → IsWell N → CountsCommands total N → Step N event M rows → CountsCommands total M
step_counted total N event M rows w c s =
    subst (CountsCommands total) (sym s.is_new)
    (counted_after N (replica_of event) s.before s.after total s.is_there w c
    (runs s.before event s.read s.after (did s.before event s.read s.after (record { derivation = s.derivation; holds = s.holds; concludes = s.concludes }))))

pub after_counted : (total : ℕ) (N : List State) (events : List Event) (M : List State) → IsWell N → CountsCommands total N → After N events M → CountsCommands total M
after_counted total N [] M w c a = subst (CountsCommands total) a c
after_counted total N (e ∷ es) M w c a = after_counted total a.0 es M (step_well N e a.0 a.1 w a.2) (step_counted total N e a.0 a.1 w c a.2) a.3

pub start_counted : (scripts : List (List Cmd)) → CountsCommands (commands_left (starts scripts)) (starts scripts)
start_counted scripts = record { left = omega arith; counters = λ o m. none_made scripts o m }

-- no counter is above the number of commands that were run
pub run_counted : CountersAreRun
run_counted scripts network r o k =
    let total = commands_left (starts scripts) in
    let well = after_well (starts scripts) r.0 network (start_well scripts) r.1 in
    let counted = after_counted total (starts scripts) r.0 network (start_well scripts) (start_counted scripts) r.1 in
    counted.counters o (held_made network well o k)
