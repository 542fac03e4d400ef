-- Lemmas about Enabled: which events are candidates, and that no other event can be made.
use Rattle.std.proofs.Common.{◌≡◌, ◌≢◌, ℕ, zero, suc, ◌+◌, ◌≤◌, ◌<◌, List, [], ◌∷◌, ◌++◌, length, Option, Some, None, Contains, ◌⊎◌, inl, inr, slice_get, refl, sym, ◌∙◌, ap, subst, arith}
use Rattle.std.specs.List.{AllByRecursion}
use Rattle.std.specs.declared.cmp.Ordering.TheVariants.{Less, Equal}
use Rattle.std.proofs.Math.Nat.{eq-or-lt_of_le}
use Rattle.std.proofs.lemmas.Option.{same_Some}
use Rattle.std.proofs.lemmas.List.Elements.{Contains-append_left, Contains-append_right, Contains-append_cases, Contains-push, Contains-push_cases}
use Rattle.jc_rules.specs.declared.id.Id.{Id}
use Rattle.jc_rules.specs.declared.operation.Event.{Event}
use Rattle.jc_rules.specs.declared.operation.Event.TheVariants.{Exec, Send, Recv, Take, Apply, Done}
use Rattle.jc_rules.specs.declared.operation.Op.{Op}
use Rattle.jc_rules.specs.declared.version.Version.{Version}
use Rattle.jc_rules.specs.declared.version.Version.TheVariants.{One, Two}
use Rattle.jc_rules.specs.declared.refusal.Refusal.{Refusal}
use Rattle.jc_rules.specs.declared.refusal.Refusal.TheVariants as F
use Rattle.jc_rules.specs.Order.{id_cmp}
use Rattle.jc_rules.specs.Refused.{Cause, because, Refused, IsYieldEvent, IsStuckIn, no_yield, not_at_yield, not_received, not_offered, replica_missing, sender_missing, wrong_version, question_refused}
use Rattle.jc_rules.specs.State.{State}
use Rattle.jc_rules.specs.Derivation.{Occur}
use Rattle.jc_rules.specs.Step.{replica_of, send_of, read_by, Network}
use Rattle.jc_rules.specs.Version.{Allows}
use Rattle.jc_rules.specs.Syntax.{Cmd, Yield}
use Rattle.jc_rules.specs.Table.{op_of}
use Rattle.jc_rules.proofs.IdsLemmas.{equal_itself}
use Rattle.jc_rules.proofs.VersionLemmas.{stuck_in, stuck_in_has_none}
use Rattle.jc_replica.specs.Operations.{identifiers, AreInOrder}
use Rattle.jc_network.specs.Enabled.{receivings, takings_of, takings_from, takings, applyings, applyings_of, events_from, candidates, AreChosen, no_more, chosen, left_out, IsAnyStuck, AreEnabled, IsOfOther, OthersAreStuck, HasStep, AreOnce}
use Rattle.jc_network.proofs.EventsDecideLemmas.{StepsOrStuck, yield_or_not}
use Rattle.jc_network.proofs.MembersLemmas.{none_in, first_in, later_in, in_cons, op_in}

-- ---- chosen events

pub chosen_append : {Yes No : Event → Type 0} {cs ls ds ms : List Event} → AreChosen Yes No cs ls → AreChosen Yes No ds ms → AreChosen Yes No (cs ++ ds) (ls ++ ms)
chosen_append no_more b = b
chosen_append (chosen y a) b = chosen y (chosen_append a b)
chosen_append (left_out n a) b = left_out n (chosen_append a b)

-- by other words that say the same of the events that are asked for
pub chosen_as : {Yes No Y N : Event → Type 0} {cs ls : List Event} → ((e : Event) → Contains cs e → Yes e → Y e) → ((e : Event) → Contains cs e → No e → N e) → AreChosen Yes No cs ls → AreChosen Y N cs ls
chosen_as f g no_more = no_more
chosen_as f g (chosen {event = e} {asked = cs} y a) =
    chosen (f e (first_in e cs) y) (chosen_as (λ x k. f x (later_in x e cs k)) (λ x k. g x (later_in x e cs k)) a)
chosen_as f g (left_out {event = e} {asked = cs} n a) =
    left_out (g e (first_in e cs) n) (chosen_as (λ x k. f x (later_in x e cs k)) (λ x k. g x (later_in x e cs k)) a)

-- what is listed was asked for
listed_in : {Yes No : Event → Type 0} {cs ls : List Event} → AreChosen Yes No cs ls → (e : Event) → Contains ls e → Contains cs e × Yes e
listed_in no_more e k = none_in e k
listed_in {Yes = Yes} (chosen {event = c} {asked = cs} {listed = ls} y a) e k = go (in_cons e c ls k) (listed_in a e)
  where
    go : (c ≡ e) ⊎ Contains ls e → (Contains ls e → Contains cs e × Yes e) → Contains (c ∷ cs) e × Yes e
    go (inl s) f = (subst (λ x. Contains (c ∷ cs) x) s (first_in c cs), subst Yes s y)
    go (inr m) f = let x = f m in (later_in e c cs x.0, x.1)
listed_in (left_out {event = c} {asked = cs} n a) e k = let x = listed_in a e k in (later_in e c cs x.0, x.1)

-- what was asked for is listed or left out
asked_in : {Yes No : Event → Type 0} {cs ls : List Event} → AreChosen Yes No cs ls → (e : Event) → Contains cs e → Contains ls e ⊎ No e
asked_in no_more e k = none_in e k
asked_in {No = No} (chosen {event = c} {asked = cs} {listed = ls} y a) e k = go (in_cons e c cs k) (asked_in a e)
  where
    later : Contains ls e ⊎ No e → Contains (c ∷ ls) e ⊎ No e
    later (inl m) = inl (later_in e c ls m)
    later (inr n) = inr n

    go : (c ≡ e) ⊎ Contains cs e → (Contains cs e → Contains ls e ⊎ No e) → Contains (c ∷ ls) e ⊎ No e
    go (inl s) f = inl (subst (λ x. Contains (c ∷ ls) x) s (first_in c ls))
    go (inr m) f = later (f m)
asked_in {No = No} (left_out {event = c} {asked = cs} {listed = ls} n a) e k = go (in_cons e c cs k) (asked_in a e)
  where
    go : (c ≡ e) ⊎ Contains cs e → (Contains cs e → Contains ls e ⊎ No e) → Contains ls e ⊎ No e
    go (inl s) f = inr (subst No s n)
    go (inr m) f = f m

once_listed : {Yes No : Event → Type 0} {cs ls : List Event} → AreChosen Yes No cs ls → AreOnce cs → AreOnce ls
once_listed no_more o = tt
once_listed (chosen {event = c} y a) o = (λ k. o.0 ((listed_in a c k).0), once_listed a o.1)
once_listed (left_out n a) o = once_listed a o.1

-- ---- events that are asked for

in_receivings : (p n : ℕ) (e : Event) → Contains (receivings p n) e → (q : ℕ) × (q < n) × (e ≡ Recv p q)
in_receivings p zero e k = none_in e k
in_receivings p (suc n) e k = go (Contains-push_cases (receivings p n) (Recv p n) e k) (in_receivings p n e)
  where
    go : Contains (receivings p n) e ⊎ (Recv p n ≡ e) → (Contains (receivings p n) e → (q : ℕ) × (q < n) × (e ≡ Recv p q)) → (q : ℕ) × (q < suc n) × (e ≡ Recv p q)
    go (inl m) f = let x = f m in let l : x.0 < n = x.1 in (x.0, omega (arith, l), x.2)
    go (inr s) f = (n, omega arith, sym s)

receiving_in : (p n q : ℕ) → q < n → Contains (receivings p n) (Recv p q)
receiving_in p zero q l = absurd (omega (arith, l))
receiving_in p (suc n) q l = go (eq-or-lt_of_le {n = q} {m = n} (omega (arith, l))) (receiving_in p n q)
  where
    go : (q ≡ n) ⊎ (q < n) → (q < n → Contains (receivings p n) (Recv p q)) → Contains (receivings p (suc n)) (Recv p q)
    go (inl s) f = subst (λ m. Contains (receivings p (suc n)) (Recv p m)) (sym s) (Contains-push (receivings p n) (Recv p n))
    go (inr m) f = Contains-append_left (receivings p n) (Recv p n ∷ []) (Recv p q) (f m)

in_applyings : (p : ℕ) (os : List Op) (e : Event) → Contains (applyings p os) e → (o : Op) × Contains os o × (e ≡ Apply p o.id)
in_applyings p [] e k = none_in e k
in_applyings p (o ∷ os) e k = go (in_cons e (Apply p o.id) (applyings p os) k) (in_applyings p os e)
  where
    go : (Apply p o.id ≡ e) ⊎ Contains (applyings p os) e → (Contains (applyings p os) e → (x : Op) × Contains os x × (e ≡ Apply p x.id)) → (x : Op) × Contains (o ∷ os) x × (e ≡ Apply p x.id)
    go (inl s) f = (o, first_in o os, sym s)
    go (inr m) f = let x = f m in (x.0, later_in x.0 o os x.1, x.2)

applying_in : (p : ℕ) (os : List Op) (o : Op) → Contains os o → Contains (applyings p os) (Apply p o.id)
applying_in p [] o k = none_in o k
applying_in p (x ∷ os) o k = go (in_cons o x os k) (applying_in p os o)
  where
    go : (x ≡ o) ⊎ Contains os o → (Contains os o → Contains (applyings p os) (Apply p o.id)) → Contains (applyings p (x ∷ os)) (Apply p o.id)
    go (inl s) f = subst (λ (y : Op). Contains (applyings p (x ∷ os)) (Apply p y.id)) s (first_in (Apply p x.id) (applyings p os))
    go (inr m) f = later_in (Apply p o.id) (Apply p x.id) (applyings p os) (f m)

in_takings_of : (p q : ℕ) (os : List Op) (e : Event) → Contains (takings_of p q os) e → (o : Op) × Contains os o × (e ≡ Take p q o.id)
in_takings_of p q [] e k = none_in e k
in_takings_of p q (o ∷ os) e k = go (in_cons e (Take p q o.id) (takings_of p q os) k) (in_takings_of p q os e)
  where
    go : (Take p q o.id ≡ e) ⊎ Contains (takings_of p q os) e → (Contains (takings_of p q os) e → (x : Op) × Contains os x × (e ≡ Take p q x.id)) → (x : Op) × Contains (o ∷ os) x × (e ≡ Take p q x.id)
    go (inl s) f = (o, first_in o os, sym s)
    go (inr m) f = let x = f m in (x.0, later_in x.0 o os x.1, x.2)

taking_in_of : (p q : ℕ) (os : List Op) (o : Op) → Contains os o → Contains (takings_of p q os) (Take p q o.id)
taking_in_of p q [] o k = none_in o k
taking_in_of p q (x ∷ os) o k = go (in_cons o x os k) (taking_in_of p q os o)
  where
    go : (x ≡ o) ⊎ Contains os o → (Contains os o → Contains (takings_of p q os) (Take p q o.id)) → Contains (takings_of p q (x ∷ os)) (Take p q o.id)
    go (inl s) f = subst (λ (y : Op). Contains (takings_of p q (x ∷ os)) (Take p q y.id)) s (first_in (Take p q x.id) (takings_of p q os))
    go (inr m) f = later_in (Take p q o.id) (Take p q x.id) (takings_of p q os) (f m)

-- a take of what the replica at place i of these offers
record IsTakingAt (p q i : ℕ) (states : List State) (e : Event) : Type 0 where
  number : ℕ
  number_is : number ≡ q + i
  at : State
  there : slice_get states i ≡ Some at
  op : Op
  offered : Contains at.send op
  is : e ≡ Take p number op.id

in_takings_from : (p q : ℕ) (states : List State) (e : Event) → Contains (takings_from p q states) e → (i : ℕ) × IsTakingAt p q i states e
in_takings_from p q [] e k = none_in e k
in_takings_from p q (B ∷ states) e k = go (Contains-append_cases (takings_of p q B.send) (takings_from p (suc q) states) e k) (in_takings_from p (suc q) states e)
  where
    here : (o : Op) × Contains B.send o × (e ≡ Take p q o.id) → (i : ℕ) × IsTakingAt p q i (B ∷ states) e
    here (o, c, s) = (0, record { number = q; number_is = omega arith; at = B; there = refl; op = o; offered = c; is = s })

    later : (i : ℕ) × IsTakingAt p (suc q) i states e → (i : ℕ) × IsTakingAt p q i (B ∷ states) e
    later (i, x) = let n = x.number_is in (suc i, record { number = x.number; number_is = omega (arith, n); at = x.at; there = x.there; op = x.op; offered = x.offered; is = x.is })

    go : Contains (takings_of p q B.send) e ⊎ Contains (takings_from p (suc q) states) e → (Contains (takings_from p (suc q) states) e → (i : ℕ) × IsTakingAt p (suc q) i states e) → (i : ℕ) × IsTakingAt p q i (B ∷ states) e
    go (inl m) f = here (in_takings_of p q B.send e m)
    go (inr m) f = later (f m)

taking_in_from : (p q : ℕ) (states : List State) (i n : ℕ) (B : State) (o : Op) → slice_get states i ≡ Some B → n ≡ q + i → Contains B.send o → Contains (takings_from p q states) (Take p n o.id)
taking_in_from p q [] i n B o t s c = cc
taking_in_from p q (C ∷ states) zero n B o t s c =
    let same : C ≡ B = same_Some C B t in
    let number : n ≡ q = omega (arith, s) in
    subst (λ m. Contains (takings_from p q (C ∷ states)) (Take p m o.id)) (sym number)
    (Contains-append_left (takings_of p q C.send) (takings_from p (suc q) states) (Take p q o.id) (taking_in_of p q C.send o (subst (λ (S : State). Contains S.send o) (sym same) c)))
taking_in_from p q (C ∷ states) (suc i) n B o t s c =
    Contains-append_right (takings_of p q C.send) (takings_from p (suc q) states) (Take p n o.id) (taking_in_from p (suc q) states i n B o t (omega (arith, s)) c)

-- a take of what one of the network's replicas offers
pub record IsTaking (N : Network) (p : ℕ) (e : Event) : Type 0 where
  pub second : N.version ≡ Two
  pub sender : ℕ
  pub at : State
  pub there : slice_get N.states sender ≡ Some at
  pub op : Op
  pub offered : Contains at.send op
  pub is : e ≡ Take p sender op.id

in_takings : (N : Network) (p : ℕ) (e : Event) → Contains (takings N.version p N.states) e → IsTaking N p e
in_takings N p e k = go N.version refl k
  where
    found : (i : ℕ) × IsTakingAt p 0 i N.states e → N.version ≡ Two → IsTaking N p e
    found (i, x) v =
        let n = x.number_is in
        let same : i ≡ x.number = omega (arith, n) in
        record { second = v; sender = x.number; at = x.at; there = ap (slice_get N.states) (sym same) ∙ x.there; op = x.op; offered = x.offered; is = x.is }

    go : (v : Version) → N.version ≡ v → Contains (takings v p N.states) e → IsTaking N p e
    go One w m = none_in e m
    go Two w m = found (in_takings_from p 0 N.states e m) w

taking_in : (N : Network) (p : ℕ) (e : Event) → IsTaking N p e → Contains (takings N.version p N.states) e
taking_in N p e h =
    subst (λ x. Contains (takings N.version p N.states) x) (sym h.is)
    (subst (λ v. Contains (takings v p N.states) (Take p h.sender h.op.id)) (sym h.second)
    (taking_in_from p 0 N.states h.sender h.sender h.at h.op h.there (omega arith) h.offered))

-- which event of a replica it is
pub data IsEventOf (N : Network) (p : ℕ) (os : List Op) (e : Event) : Type 0 where
  of_exec : e ≡ Exec p → IsEventOf N p os e
  of_send : e ≡ Send p → IsEventOf N p os e
  of_recv : (q : ℕ) → q < length N.states → e ≡ Recv p q → IsEventOf N p os e
  of_take : IsTaking N p e → IsEventOf N p os e
  of_apply : (o : Op) → Contains os o → e ≡ Apply p o.id → IsEventOf N p os e
  of_done : e ≡ Done p → IsEventOf N p os e

module _ (N : Network) (p : ℕ) (os : List Op) where
  abbrev n : ℕ
  n = length N.states

  abbrev ts : List Event
  ts = takings N.version p N.states

  abbrev pub early : List Event
  early = Exec p ∷ Send p ∷ receivings p n

  in_early : (e : Event) → Contains early e → IsEventOf N p os e
  in_early e k = first (in_cons e (Exec p) (Send p ∷ receivings p n) k)
    where
      third : (q : ℕ) × (q < n) × (e ≡ Recv p q) → IsEventOf N p os e
      third x = of_recv x.0 x.1 x.2

      second : (Send p ≡ e) ⊎ Contains (receivings p n) e → IsEventOf N p os e
      second (inl s) = of_send (sym s)
      second (inr m) = third (in_receivings p n e m)

      first : (Exec p ≡ e) ⊎ Contains (Send p ∷ receivings p n) e → IsEventOf N p os e
      first (inl s) = of_exec (sym s)
      first (inr m) = second (in_cons e (Send p) (receivings p n) m)

  pub in_events : (e : Event) → Contains (applyings_of N p os) e → IsEventOf N p os e
  in_events e k = last (Contains-push_cases ((early ++ ts) ++ applyings p os) (Done p) e k)
    where
      applied : (o : Op) × Contains os o × (e ≡ Apply p o.id) → IsEventOf N p os e
      applied x = of_apply x.0 x.1 x.2

      front : Contains early e ⊎ Contains ts e → IsEventOf N p os e
      front (inl m) = in_early e m
      front (inr m) = of_take (in_takings N p e m)

      before : Contains (early ++ ts) e ⊎ Contains (applyings p os) e → IsEventOf N p os e
      before (inl m) = front (Contains-append_cases early ts e m)
      before (inr m) = applied (in_applyings p os e m)

      last : Contains ((early ++ ts) ++ applyings p os) e ⊎ (Done p ≡ e) → IsEventOf N p os e
      last (inl m) = before (Contains-append_cases (early ++ ts) (applyings p os) e m)
      last (inr s) = of_done (sym s)

  front_in : (e : Event) → Contains (early ++ ts) e → Contains (applyings_of N p os) e
  front_in e k = Contains-append_left ((early ++ ts) ++ applyings p os) (Done p ∷ []) e (Contains-append_left (early ++ ts) (applyings p os) e k)

  early_in : (e : Event) → Contains early e → Contains (applyings_of N p os) e
  early_in e k = front_in e (Contains-append_left early ts e k)

  events_in : (e : Event) → IsEventOf N p os e → Contains (applyings_of N p os) e
  events_in e (of_exec s) = subst (λ x. Contains (applyings_of N p os) x) (sym s) (early_in (Exec p) (first_in (Exec p) (Send p ∷ receivings p n)))
  events_in e (of_send s) = subst (λ x. Contains (applyings_of N p os) x) (sym s) (early_in (Send p) (later_in (Send p) (Exec p) (Send p ∷ receivings p n) (first_in (Send p) (receivings p n))))
  events_in e (of_recv q l s) = subst (λ x. Contains (applyings_of N p os) x) (sym s) (early_in (Recv p q) (later_in (Recv p q) (Exec p) (Send p ∷ receivings p n) (later_in (Recv p q) (Send p) (receivings p n) (receiving_in p n q l))))
  events_in e (of_take h) = front_in e (Contains-append_right early ts e (taking_in N p e h))
  events_in e (of_apply o k s) =
      subst (λ x. Contains (applyings_of N p os) x) (sym s)
      (Contains-append_left ((early ++ ts) ++ applyings p os) (Done p ∷ []) (Apply p o.id) (Contains-append_right (early ++ ts) (applyings p os) (Apply p o.id) (applying_in p os o k)))
  events_in e (of_done s) = subst (λ x. Contains (applyings_of N p os) x) (sym s) (Contains-push ((early ++ ts) ++ applyings p os) (Done p))

  whose : (e : Event) → IsEventOf N p os e → replica_of e ≡ p
  whose e (of_exec s) = ap replica_of s
  whose e (of_send s) = ap replica_of s
  whose e (of_recv q l s) = ap replica_of s
  whose e (of_take h) = ap replica_of h.is
  whose e (of_apply o k s) = ap replica_of s
  whose e (of_done s) = ap replica_of s

  pub event_of : (e : Event) → Contains (applyings_of N p os) e → replica_of e ≡ p
  event_of e k = whose e (in_events e k)

-- an event of the replica at place i of these
pub record IsFrom (N : Network) (p i : ℕ) (states : List State) (e : Event) : Type 0 where
  pub number : ℕ
  pub is : number ≡ p + i
  pub at : State
  pub there : slice_get states i ≡ Some at
  pub event : IsEventOf N number at.recv e

pub in_from : (N : Network) (p : ℕ) (states : List State) (e : Event) → Contains (events_from N p states) e → (i : ℕ) × IsFrom N p i states e
in_from N p [] e k = none_in e k
in_from N p (A ∷ states) e k = go (Contains-append_cases (applyings_of N p A.recv) (events_from N (suc p) states) e k) (in_from N (suc p) states e)
  where
    later : (i : ℕ) × IsFrom N (suc p) i states e → (i : ℕ) × IsFrom N p i (A ∷ states) e
    later (i, x) = let s = x.is in (suc i, record { number = x.number; is = omega (arith, s); at = x.at; there = x.there; event = x.event })

    go : Contains (applyings_of N p A.recv) e ⊎ Contains (events_from N (suc p) states) e → (Contains (events_from N (suc p) states) e → (i : ℕ) × IsFrom N (suc p) i states e) → (i : ℕ) × IsFrom N p i (A ∷ states) e
    go (inl m) f = (0, record { number = p; is = omega arith; at = A; there = refl; event = in_events N p A.recv e m })
    go (inr m) f = later (f m)

from_in : (N : Network) (p : ℕ) (states : List State) (i q : ℕ) (A : State) (e : Event) → slice_get states i ≡ Some A → q ≡ p + i → IsEventOf N q A.recv e → Contains (events_from N p states) e
from_in N p [] i q A e t s h = cc
from_in N p (B ∷ states) zero q A e t s h =
    let same : B ≡ A = same_Some B A t in
    let number : q ≡ p = omega (arith, s) in
    let here : IsEventOf N p B.recv e = subst (λ (S : State). IsEventOf N p S.recv e) (sym same) (subst (λ m. IsEventOf N m A.recv e) number h) in
    Contains-append_left (applyings_of N p B.recv) (events_from N (suc p) states) e (events_in N p B.recv e here)
from_in N p (B ∷ states) (suc i) q A e t s h =
    Contains-append_right (applyings_of N p B.recv) (events_from N (suc p) states) e (from_in N (suc p) states i q A e t (omega (arith, s)) h)

pub asked_of : (N : Network) (p : ℕ) (A : State) (e : Event) → slice_get N.states p ≡ Some A → IsEventOf N p A.recv e → Contains (candidates N) e
asked_of N p A e t h = from_in N 0 N.states p p A e t (omega arith) h

-- ---- each once

in_one : {X : Type 0} {A : Type 0} (x y : X) → Contains (y ∷ []) x → (y ≡ x → A) → A
in_one {A = A} x y k f = go (in_cons x y [] k)
  where
    go : (y ≡ x) ⊎ Contains [] x → A
    go (inl s) = f s
    go (inr m) = none_in x m

once_append : (xs ys : List Event) → AreOnce xs → AreOnce ys → ((e : Event) → Contains xs e → Contains ys e → ⊥) → AreOnce (xs ++ ys)
once_append [] ys a b d = b
once_append (x ∷ xs) ys a b d = (λ k. go (Contains-append_cases xs ys x k), once_append xs ys a.1 b (λ e k m. d e (later_in e x xs k) m))
  where
    go : Contains xs x ⊎ Contains ys x → ⊥
    go (inl k) = a.0 k
    go (inr m) = d x (first_in x xs) m

once_one : (e : Event) → AreOnce (e ∷ [])
once_one e = (λ k. none_in e k, tt)

once_receivings : (p n : ℕ) → AreOnce (receivings p n)
once_receivings p zero = tt
once_receivings p (suc n) = once_append (receivings p n) (Recv p n ∷ []) (once_receivings p n) (once_one (Recv p n)) (λ e k m. in_one e (Recv p n) m (λ s. apart e s (in_receivings p n e k)))
  where
    apart : (e : Event) → Recv p n ≡ e → (q : ℕ) × (q < n) × (e ≡ Recv p q) → ⊥
    apart e s (q, l, t) =
        let both : Recv p n ≡ Recv p q = s ∙ t in
        let same : n ≡ q = cc in
        omega (arith, same, l)

less_in : (i : Id) (os : List Op) → AllByRecursion (λ j. id_cmp i j ≡ Less) (identifiers os) → (o : Op) → Contains os o → id_cmp i o.id ≡ Less
less_in i [] h o k = none_in o k
less_in i (x ∷ os) h o k = go (in_cons o x os k) (less_in i os h.1 o)
  where
    go : (x ≡ o) ⊎ Contains os o → (Contains os o → id_cmp i o.id ≡ Less) → id_cmp i o.id ≡ Less
    go (inl s) f = subst (λ (y : Op). id_cmp i y.id ≡ Less) s h.0
    go (inr m) f = f m

once_takings_of : (p q : ℕ) (os : List Op) → AreInOrder os → AreOnce (takings_of p q os)
once_takings_of p q [] h = tt
once_takings_of p q (o ∷ os) h = (λ k. again (in_takings_of p q os (Take p q o.id) k), once_takings_of p q os h.1)
  where
    again : (x : Op) × Contains os x × (Take p q o.id ≡ Take p q x.id) → ⊥
    again (x, k, s) =
        let same : o.id ≡ x.id = cc in
        let less : id_cmp o.id o.id ≡ Less = subst (λ (i : Id). id_cmp o.id i ≡ Less) (sym same) (less_in o.id os h.0 x k) in
        let e : Equal ≡ Less = sym (equal_itself o.id) ∙ less in
        cc

-- each replica's offers stand by identifier
abbrev pub AreSentInOrder : List State → Type 0
AreSentInOrder states = (i : ℕ) (A : State) → slice_get states i ≡ Some A → AreInOrder A.send

once_takings_from : (p q : ℕ) (states : List State) → AreSentInOrder states → AreOnce (takings_from p q states)
once_takings_from p q [] f = tt
once_takings_from p q (B ∷ states) f =
    once_append (takings_of p q B.send) (takings_from p (suc q) states)
    (once_takings_of p q B.send (f 0 B refl))
    (once_takings_from p (suc q) states (λ i C t. f (suc i) C t))
    (λ e k m. apart e (in_takings_of p q B.send e k) (in_takings_from p (suc q) states e m))
  where
    apart : (e : Event) → (o : Op) × Contains B.send o × (e ≡ Take p q o.id) → (i : ℕ) × IsTakingAt p (suc q) i states e → ⊥
    apart e (o, c, s) (i, x) =
        let both : Take p q o.id ≡ Take p x.number x.op.id = sym s ∙ x.is in
        let same : q ≡ x.number = cc in
        let n = x.number_is in
        omega (arith, same, n)

once_takings : (v : Version) (p : ℕ) (states : List State) → AreSentInOrder states → AreOnce (takings v p states)
once_takings One p states f = tt
once_takings Two p states f = once_takings_from p 0 states f

once_applyings : (p : ℕ) (os : List Op) → AreInOrder os → AreOnce (applyings p os)
once_applyings p [] h = tt
once_applyings p (o ∷ os) h = (λ k. again (in_applyings p os (Apply p o.id) k), once_applyings p os h.1)
  where
    again : (x : Op) × Contains os x × (Apply p o.id ≡ Apply p x.id) → ⊥
    again (x, k, s) =
        let same : o.id ≡ x.id = cc in
        let less : id_cmp o.id o.id ≡ Less = subst (λ (i : Id). id_cmp o.id i ≡ Less) (sym same) (less_in o.id os h.0 x k) in
        let e : Equal ≡ Less = sym (equal_itself o.id) ∙ less in
        cc

-- the sorts of events in their order
abbrev sort_of : Event → ℕ
sort_of (Exec p) = 0
sort_of (Send p) = 1
sort_of (Recv p q) = 2
sort_of (Take p q i) = 3
sort_of (Apply p i) = 4
sort_of (Done p) = 5

sort_receivings : (p n : ℕ) (e : Event) → Contains (receivings p n) e → sort_of e ≡ 2
sort_receivings p n e k = let x = in_receivings p n e k in ap sort_of x.2

sort_applyings : (p : ℕ) (os : List Op) (e : Event) → Contains (applyings p os) e → sort_of e ≡ 4
sort_applyings p os e k = let x = in_applyings p os e k in ap sort_of x.2

sort_second : (p n : ℕ) (e : Event) → Contains (Send p ∷ receivings p n) e → (1 ≤ sort_of e) × (sort_of e ≤ 2)
sort_second p n e k = go (in_cons e (Send p) (receivings p n) k)
  where
    go : (Send p ≡ e) ⊎ Contains (receivings p n) e → (1 ≤ sort_of e) × (sort_of e ≤ 2)
    go (inl s) = let r : 1 ≡ sort_of e = ap sort_of s in (omega (arith, r), omega (arith, r))
    go (inr m) = let r : sort_of e ≡ 2 = sort_receivings p n e m in (omega (arith, r), omega (arith, r))

sort_early : (p n : ℕ) (e : Event) → Contains (Exec p ∷ Send p ∷ receivings p n) e → sort_of e ≤ 2
sort_early p n e k = go (in_cons e (Exec p) (Send p ∷ receivings p n) k)
  where
    go : (Exec p ≡ e) ⊎ Contains (Send p ∷ receivings p n) e → sort_of e ≤ 2
    go (inl s) = let r : 0 ≡ sort_of e = ap sort_of s in omega (arith, r)
    go (inr m) = (sort_second p n e m).1

sort_takings : (N : Network) (p : ℕ) (e : Event) → Contains (takings N.version p N.states) e → sort_of e ≡ 3
sort_takings N p e k = let x = in_takings N p e k in ap sort_of x.is

abbrev front_of : Network → ℕ → List Event
front_of N p = Exec p ∷ Send p ∷ receivings p (length N.states)

sort_front : (N : Network) (p : ℕ) (e : Event) → Contains (front_of N p ++ takings N.version p N.states) e → sort_of e ≤ 3
sort_front N p e k = go (Contains-append_cases (front_of N p) (takings N.version p N.states) e k)
  where
    go : Contains (front_of N p) e ⊎ Contains (takings N.version p N.states) e → sort_of e ≤ 3
    go (inl m) = let l = sort_early p (length N.states) e m in omega (arith, l)
    go (inr m) = let r = sort_takings N p e m in omega (arith, r)

sort_before : (N : Network) (p : ℕ) (os : List Op) (e : Event) → Contains ((front_of N p ++ takings N.version p N.states) ++ applyings p os) e → sort_of e ≤ 4
sort_before N p os e k = go (Contains-append_cases (front_of N p ++ takings N.version p N.states) (applyings p os) e k)
  where
    go : Contains (front_of N p ++ takings N.version p N.states) e ⊎ Contains (applyings p os) e → sort_of e ≤ 4
    go (inl m) = let l = sort_front N p e m in omega (arith, l)
    go (inr m) = let r = sort_applyings p os e m in omega (arith, r)

once_early : (p n : ℕ) → AreOnce (Exec p ∷ Send p ∷ receivings p n)
once_early p n = (no_exec, (no_send, once_receivings p n))
  where
    no_exec : Contains (Send p ∷ receivings p n) (Exec p) → ⊥
    no_exec k = let l : 1 ≤ 0 = (sort_second p n (Exec p) k).0 in omega (arith, l)

    no_send : Contains (receivings p n) (Send p) → ⊥
    no_send k = let l : 1 ≡ 2 = sort_receivings p n (Send p) k in omega (arith, l)

once_front : (N : Network) (p : ℕ) → AreSentInOrder N.states → AreOnce (front_of N p ++ takings N.version p N.states)
once_front N p f =
    once_append (front_of N p) (takings N.version p N.states) (once_early p (length N.states)) (once_takings N.version p N.states f)
    (λ e k m. let l = sort_early p (length N.states) e k in let r = sort_takings N p e m in omega (arith, l, r))

once_events : (N : Network) (p : ℕ) (os : List Op) → AreSentInOrder N.states → AreInOrder os → AreOnce (applyings_of N p os)
once_events N p os f h =
    once_append ((front_of N p ++ takings N.version p N.states) ++ applyings p os) (Done p ∷ [])
    (once_append (front_of N p ++ takings N.version p N.states) (applyings p os) (once_front N p f) (once_applyings p os h) apart)
    (once_one (Done p))
    last
  where
    apart : (e : Event) → Contains (front_of N p ++ takings N.version p N.states) e → Contains (applyings p os) e → ⊥
    apart e k m = let l = sort_front N p e k in let r = sort_applyings p os e m in omega (arith, l, r)

    last : (e : Event) → Contains ((front_of N p ++ takings N.version p N.states) ++ applyings p os) e → Contains (Done p ∷ []) e → ⊥
    last e k m = in_one e (Done p) m (λ s. let l = sort_before N p os e k in let r : 5 ≡ sort_of e = ap sort_of s in omega (arith, l, r))

once_from : (N : Network) (p : ℕ) (states : List State) → AreSentInOrder N.states → ((i : ℕ) (A : State) → slice_get states i ≡ Some A → AreInOrder A.recv) → AreOnce (events_from N p states)
once_from N p [] g f = tt
once_from N p (A ∷ states) g f =
    once_append (applyings_of N p A.recv) (events_from N (suc p) states)
    (once_events N p A.recv g (f 0 A refl))
    (once_from N (suc p) states g (λ i B t. f (suc i) B t))
    (λ e k m. apart e (event_of N p A.recv e k) (in_from N (suc p) states e m))
  where
    apart : (e : Event) → replica_of e ≡ p → (i : ℕ) × IsFrom N (suc p) i states e → ⊥
    apart e s (i, x) = let t = x.is in let u : replica_of e ≡ x.number = whose N x.number x.at.recv e x.event in omega (arith, s, t, u)

pub once_asked : (N : Network) → AreSentInOrder N.states → ((i : ℕ) (A : State) → slice_get N.states i ≡ Some A → AreInOrder A.recv) → AreOnce (candidates N)
once_asked N g f = once_from N 0 N.states g f

-- ---- no other event can be made

below_length : {X : Type 0} (xs : List X) (q : ℕ) (x : X) → slice_get xs q ≡ Some x → q < length xs
below_length [] q x e = cc
below_length (y ∷ xs) zero x e = omega arith
below_length (y ∷ xs) (suc q) x e = omega (arith, below_length xs q x e)

abbrev Stuck : Network → Event → Type 0
Stuck N event = (why : Refusal) × IsOfOther why × IsStuckIn N event (because why)

abbrev AskedOrStuck : Network → Event → Type 0
AskedOrStuck N event = Contains (candidates N) event ⊎ Stuck N event

module _ (N : Network) where
  where_there : (e : Event) → ((A : State) → slice_get N.states (replica_of e) ≡ Some A → AskedOrStuck N e) → AskedOrStuck N e
  where_there e f = go (slice_get N.states (replica_of e)) refl
    where
      go : (o : Option State) → slice_get N.states (replica_of e) ≡ o → AskedOrStuck N e
      go None t = inr (F.NoSuchReplica, tt, replica_missing t)
      go (Some A) t = f A t

  receives : (p q : ℕ) (A : State) → slice_get N.states p ≡ Some A → AskedOrStuck N (Recv p q)
  receives p q A t = go (slice_get N.states q) refl
    where
      go : (o : Option State) → slice_get N.states q ≡ o → AskedOrStuck N (Recv p q)
      go None u = inr (F.NoSuchReplica, tt, sender_missing (ap send_of u))
      go (Some B) u = inl (asked_of N p A (Recv p q) t (of_recv q (below_length N.states q B u) refl))

  -- a question that a yield comes before, where one condition more fails
  unyielded : (e : Event) (A : State) (read : List Op) (why : Refusal) → slice_get N.states (replica_of e) ≡ Some A → read_by e N.states ≡ Some read → Allows e N.version → IsYieldEvent e → IsOfOther why → ((rest : List Cmd) → A.left ≡ Yield ∷ rest → Refused (Occur A e read) (because why)) → Stuck N e
  unyielded e A read why t r a y w f = go A.left refl
    where
      at_command : (c : Cmd) (rest : List Cmd) → A.left ≡ c ∷ rest → (c ≡ Yield) ⊎ (c ≢ Yield) → Stuck N e
      at_command c rest l (inl s) = (why, w, question_refused t r a (f rest (l ∙ ap (λ d. d ∷ rest) s)))
      at_command c rest l (inr n) = (F.NotAtYield, tt, question_refused t r a (not_at_yield y l n))

      go : (left : List Cmd) → A.left ≡ left → Stuck N e
      go [] l = (F.NoCommand, tt, question_refused t r a (no_yield y l))
      go (c ∷ rest) l = at_command c rest l (yield_or_not c)

  applies : (p : ℕ) (i : Id) (A : State) → slice_get N.states p ≡ Some A → AskedOrStuck N (Apply p i)
  applies p i A t = go (op_of i A.recv) refl
    where
      go : (o : Option Op) → op_of i A.recv ≡ o → AskedOrStuck N (Apply p i)
      go None u = inr (unyielded (Apply p i) A [] F.NotReceived t refl tt tt tt (λ rest l. not_received l u))
      go (Some o) u =
          let x = op_in i A.recv o u in
          inl (asked_of N p A (Apply p i) t (of_apply o x.0 (ap (λ j. Apply p j) (sym x.1))))

  takes : (p q : ℕ) (i : Id) (A : State) → slice_get N.states p ≡ Some A → AskedOrStuck N (Take p q i)
  takes p q i A t = go (slice_get N.states q) refl
    where
      offered : (B : State) → slice_get N.states q ≡ Some B → N.version ≡ Two → (o : Option Op) → op_of i B.send ≡ o → AskedOrStuck N (Take p q i)
      offered B u v None f =
          inr (unyielded (Take p q i) A B.send F.NotReceived t (ap send_of u) (subst (Allows (Take p q i)) (sym v) tt) tt tt (λ rest l. not_offered l f))
      offered B u v (Some o) f =
          let x = op_in i B.send o f in
          inl (asked_of N p A (Take p q i) t (of_take (record { second = v; sender = q; at = B; there = u; op = o; offered = x.0; is = ap (λ j. Take p q j) (sym x.1) })))

      by_version : (B : State) → slice_get N.states q ≡ Some B → (v : Version) → N.version ≡ v → AskedOrStuck N (Take p q i)
      by_version B u One v = inr (F.WrongVersion, tt, wrong_version t (ap send_of u) (λ a. subst (Allows (Take p q i)) v a))
      by_version B u Two v = offered B u v (op_of i B.send) refl

      go : (o : Option State) → slice_get N.states q ≡ o → AskedOrStuck N (Take p q i)
      go None u = inr (F.NoSuchReplica, tt, sender_missing (ap send_of u))
      go (Some B) u = by_version B u N.version refl

  asked_or_stuck : (e : Event) → AskedOrStuck N e
  asked_or_stuck (Exec p) = where_there (Exec p) (λ A t. inl (asked_of N p A (Exec p) t (of_exec refl)))
  asked_or_stuck (Send p) = where_there (Send p) (λ A t. inl (asked_of N p A (Send p) t (of_send refl)))
  asked_or_stuck (Recv p q) = where_there (Recv p q) (λ A t. receives p q A t)
  asked_or_stuck (Take p q i) = where_there (Take p q i) (λ A t. takes p q i A t)
  asked_or_stuck (Apply p i) = where_there (Apply p i) (λ A t. applies p i A t)
  asked_or_stuck (Done p) = where_there (Done p) (λ A t. inl (asked_of N p A (Done p) t (of_done refl)))

pub others_are_stuck : OthersAreStuck
others_are_stuck N event f = go (asked_or_stuck N event)
  where
    go : AskedOrStuck N event → Stuck N event
    go (inl k) = absurd (f k)
    go (inr s) = s

-- ---- each event has a step or is stuck

abbrev pub StepsOrStuckIn : Network → Event → Type 0
StepsOrStuckIn N event = HasStep N event ⊎ IsAnyStuck N event

allowed_or_not : (event : Event) (version : Version) → Allows event version ⊎ (Allows event version → ⊥)
allowed_or_not (Take p q i) One = inr (λ a. a)
allowed_or_not (Take p q i) Two = inl tt
allowed_or_not _ version = inl tt

pub decided_in : (N : Network) → ((event : Event) → StepsOrStuck N.states event) → (event : Event) → StepsOrStuckIn N event
decided_in N decided event = go (allowed_or_not event N.version) (decided event)
  where
    there : (A : State) → slice_get N.states (replica_of event) ≡ Some A → (Allows event N.version → ⊥) → (o : Option (List Op)) → read_by event N.states ≡ o → StepsOrStuckIn N event
    there A t bars None r = inr (because F.NoSuchReplica, sender_missing r)
    there A t bars (Some read) r = inr (because F.WrongVersion, wrong_version t r bars)

    other : (Allows event N.version → ⊥) → (o : Option State) → slice_get N.states (replica_of event) ≡ o → StepsOrStuckIn N event
    other bars None t = inr (because F.NoSuchReplica, replica_missing t)
    other bars (Some A) t = there A t bars (read_by event N.states) refl

    go : Allows event N.version ⊎ (Allows event N.version → ⊥) → StepsOrStuck N.states event → StepsOrStuckIn N event
    go (inl a) (inl (M, rows, s)) = inl (record { version = N.version; states = M }, rows, record { allowed = a; version = refl; step = s })
    go (inl a) (inr (why, s)) = inr (why, stuck_in N event why a s)
    go (inr bars) d = other bars (slice_get N.states (replica_of event)) refl

-- ---- what is listed has a step, and nothing else has

module _ (N : Network) (decided : (event : Event) → StepsOrStuckIn N event) (listed : List Event) (enabled : AreEnabled N (candidates N) listed) where
  has_step : (event : Event) → Contains listed event → HasStep N event
  has_step event k = go (decided event)
    where
      go : StepsOrStuckIn N event → HasStep N event
      go (inl s) = s
      go (inr (why, s)) = absurd ((listed_in enabled event k).1 why s)

  is_listed : (event : Event) → HasStep N event → Contains listed event
  is_listed event (new, rows, step) = go (asked_or_stuck N event)
    where
      never : {X : Type 0} (why : Cause) → IsStuckIn N event why → X
      never why s = absurd (stuck_in_has_none N new event why rows s step)

      or_stuck : Contains listed event ⊎ IsAnyStuck N event → Contains listed event
      or_stuck (inl m) = m
      or_stuck (inr (why, s)) = never why s

      go : AskedOrStuck N event → Contains listed event
      go (inl k) = or_stuck (asked_in enabled event k)
      go (inr (why, is, s)) = never (because why) s

  pub enabled_are_once : AreSentInOrder N.states → ((i : ℕ) (A : State) → slice_get N.states i ≡ Some A → AreInOrder A.recv) → AreOnce listed
  enabled_are_once g f = once_listed enabled (once_asked N g f)

  pub enabled_is_step : (event : Event) → (Contains listed event → HasStep N event) × (HasStep N event → Contains listed event)
  enabled_is_step event = (has_step event, is_listed event)
