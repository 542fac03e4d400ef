-- Lemmas about Refines: what an event makes of stored states, it makes of those that they represent.
use Rattle.std.proofs.Common.{◌≡◌, ◌≢◌, ℕ, zero, suc, List, [], ◌∷◌, Option, Some, None, IfSome, Contains, ◌⊎◌, inl, inr, map, slice_get, slice_set, refl, sym, ◌∙◌, ap, subst, arith}
use Rattle.std.specs.List.{AllByRecursion}
use Rattle.std.proofs.lemmas.Option.{same_Some}
use Rattle.jc_rules.specs.declared.id.Id.{Id}
use Rattle.jc_rules.specs.declared.operation.Event.{Event}
use Rattle.jc_rules.specs.declared.operation.Event.TheVariants.{Exec, Recv, Take}
use Rattle.jc_rules.specs.declared.operation.Op.{Op}
use Rattle.jc_rules.specs.Refused.{Cause, IsStuck, refused}
use Rattle.jc_rules.specs.State.{State, start}
use Rattle.jc_rules.specs.Step.{replica_of, read_by, send_of}
use Rattle.jc_rules.specs.Syntax.{Cmd}
use Rattle.jc_rules.specs.Table.{op_of, with_op}
use Rattle.jc_rules.specs.Trace.{Rows}
use Rattle.jc_vectors.specs.StoredStates.{HasOwn, stored_op}
use Rattle.jc_vectors.proofs.OwnAreAppliedLemmas.{own_are_applied}
use Rattle.jc_vectors.proofs.StoredStatesLemmas.{state_stays}
use Rattle.jc_replica.specs.Answers.{Occurs, RefusedFor}
use Rattle.jc_replica.specs.Operations.{AreOfOne, AreOwn}
use Rattle.jc_replica.specs.ReplicaHistory.{ReplicaHistory}
use Rattle.jc_replica.specs.Refines.{IsSeenAs, HasOwnFor, IsRead, LeadsReplica, grown, queued}
use Rattle.jc_network.specs.Laws.{starts}
use Rattle.jc_network.specs.RunInvariant.{IsReplicaAt, IsMadeOp, HasSoundOps}
use Rattle.jc_network.specs.Refines.{HasSeen, AreSeen, IsAsked, StepsOn}
use Rattle.jc_network.proofs.MembersLemmas.{none_in, first_in, later_in, in_cons, still_with, now_with, set_there}
use Rattle.jc_network.proofs.RunInvariantStartLemmas.{started}
use Rattle.jc_network.proofs.AfterLemmas.{states_set}

pub all_in : {X : Type 0} (P : X → Type 0) (xs : List X) → AllByRecursion P xs → (x : X) → Contains xs x → P x
all_in P [] h x c = none_in x c
all_in P (y ∷ ys) h x c = go (in_cons x y ys c) (all_in P ys h.1 x)
  where
    go : (y ≡ x) ⊎ Contains ys x → (Contains ys x → P x) → P x
    go (inl e) f = subst P e h.0
    go (inr k) f = f k

is_same : (q p : ℕ) → (q ≡ p) ⊎ (q ≢ p)
is_same zero zero = inl refl
is_same zero (suc p) = inr (λ e. cc)
is_same (suc q) zero = inr (λ e. cc)
is_same (suc q) (suc p) = go (is_same q p)
  where
    go : (q ≡ p) ⊎ (q ≢ p) → (suc q ≡ suc p) ⊎ (suc q ≢ suc p)
    go (inl e) = inl (ap suc e)
    go (inr f) = inr (λ e. f (omega (arith, e)))

set_else : (xs : List State) (p q : ℕ) (b : State) → q ≢ p → slice_get (slice_set xs p b) q ≡ slice_get xs q
set_else [] p q b f = refl
set_else (x ∷ xs) zero zero b f = absurd (f refl)
set_else (x ∷ xs) zero (suc q) b f = refl
set_else (x ∷ xs) (suc p) zero b f = refl
set_else (x ∷ xs) (suc p) (suc q) b f = set_else xs p q b (λ e. f (ap suc e))

-- what an event's promise asks, where all own operations are applied
own_for : (event : Event) (set : List Op) (p : ℕ) (A : State) → HasOwn set p A → HasOwnFor event set p A
own_for (Exec q) set p A h = h
own_for _ set p A h = tt

-- ---- the start

seen_start : (p : ℕ) (s : List Cmd) → IsSeenAs [] p (start s) (start s)
seen_start p s =
    record {
      stands = record {
        sound = record {
          counted = λ o c. none_in o c;
          one_each = λ o c. none_in o c;
          rising = λ o c. none_in o c;
          closed = λ o c. none_in o c;
          in_order = λ e o c. none_in e c;
        };
        is = refl;
        applied = record { rises = tt; known = λ i h. cc; closed = λ i o h e. cc };
        made = tt;
        offered = tt;
        received = tt;
        knows = (tt, tt, tt, tt);
      };
      own = λ e c. none_in e c;
    }

pub start_seen : (scripts : List (List Cmd)) → AreSeen [] (starts scripts) (starts scripts)
start_seen scripts =
    record {
      all = λ o c. none_in o c;
      as_many = refl;
      each = λ p K e. record {
        at = K;
        there = e;
        seen = let x = started scripts p K e in subst (λ S. IsSeenAs [] p S S) (sym x.1) (seen_start p x.0);
      };
    }

-- ---- what is read

kept_own : (q : ℕ) (os : List Op) → ((o : Op) → Contains os o → o.id.replica ≡ q) → AreOwn q (map stored_op os)
kept_own q [] f = tt
kept_own q (o ∷ os) f = (f o (first_in o os), kept_own q os (λ x c. f x (later_in x o os c)))

pub of_one : (q : ℕ) (os : List Op) → ((o : Op) → Contains os o → o.id.replica ≡ q) → AreOfOne (map stored_op os)
of_one q [] f = tt
of_one q (o ∷ os) f = kept_own o.id.replica os (λ x c. f x (later_in x o os c) ∙ sym (f o (first_in o os)))

pub record Reads (set : List Op) (network : List State) (event : Event) (read : List Op) : Type 0 where
  pub os : List Op
  pub reads : read_by event network ≡ Some os
  pub is : IsRead set os read

reads_nothing : (set : List Op) (network : List State) (event : Event) (read : List Op) → read_by event network ≡ Some [] → Some [] ≡ Some read → Reads set network event read
reads_nothing set network event read e h =
    let s : [] ≡ read = same_Some [] read h in
    record { os = []; reads = e; is = subst (λ r. IsRead set [] r) s (record { of = tt; is = refl; one = tt }) }

module _ (set : List Op) (network kept : List State) (sound : HasSoundOps network) (seen : AreSeen set network kept) where
  reads_sent : (p q : ℕ) (read : List Op) (found : Option State) → slice_get kept q ≡ found → send_of found ≡ Some read → Reads set network (Recv p q) read
  reads_sent p q read None e h = cc
  reads_sent p q read (Some K) e h =
      let x = seen.each q K e in
      let s : K.send ≡ read = same_Some K.send read h in
      record {
        os = x.at.send;
        reads = ap send_of x.there;
        is = record {
          of = x.seen.stands.offered;
          is = sym s ∙ ap (λ (S : State). S.send) x.seen.stands.is;
          one = subst AreOfOne (sym (ap (λ (S : State). S.send) x.seen.stands.is) ∙ s) (of_one q x.at.send (λ o c. (sound.sent q x.at o x.there c).0));
        };
      }

  -- to take one operation reads what is offered, as to receive does
  reads_to_take : (p q : ℕ) (i : Id) (read : List Op) → Reads set network (Recv p q) read → Reads set network (Take p q i) read
  reads_to_take p q i read r = record { os = r.os; reads = r.reads; is = r.is }

  pub reads_stand : (event : Event) (read : List Op) → read_by event kept ≡ Some read → Reads set network event read
  reads_stand (Recv p q) read h = reads_sent p q read (slice_get kept q) refl h
  reads_stand (Take p q i) read h = reads_to_take p q i read (reads_sent p q read (slice_get kept q) refl h)
  reads_stand event read h = reads_nothing set network event read refl h

  -- ---- the states after

  module _ (p : ℕ) (A now K new : State) (at : IsReplicaAt network p A) (was : IsReplicaAt kept p K) (known : IsSeenAs set p A K) where
    still_queued : (m : Option Op) (o : Op) → Contains A.queue o → Contains (queued m A.queue) o
    still_queued None o c = c
    still_queued (Some n) o c = still_with n A.queue o c

    still_made : (m : Option Op) → now.queue ≡ queued m A.queue → (o : Op) → IsMadeOp network o → IsMadeOp (slice_set network p now) o
    still_made m e o h = go (is_same o.id.replica p)
      where
        go : (o.id.replica ≡ p) ⊎ (o.id.replica ≢ p) → IsMadeOp (slice_set network p now) o
        go (inl s) =
            let same : h.at ≡ A = same_Some h.at A (sym h.there ∙ (ap (slice_get network) s ∙ at)) in
            let in_queue : Contains A.queue o = subst (λ (S : State). Contains S.queue o) same h.queued in
            record {
              at = now;
              there = ap (slice_get (slice_set network p now)) s ∙ set_there network p A now at;
              queued = subst (λ l. Contains l o) (sym e) (still_queued m o in_queue);
            }
        go (inr f) = record { at = h.at; there = set_else network p o.id.replica now f ∙ h.there; queued = h.queued }

    new_made : (n : Op) → now.queue ≡ with_op n A.queue → op_of n.id set ≡ None → n.id.replica ≡ p → IsMadeOp (slice_set network p now) n
    new_made n e fresh own =
        record {
          at = now;
          there = ap (slice_get (slice_set network p now)) own ∙ set_there network p A now at;
          queued = subst (λ l. Contains l n) (sym e) (now_with n A.queue (λ x c s. other x s (all_in (λ o. op_of o.id set ≡ Some o) A.queue known.stands.made x c)));
        }
      where
        other : (x : Op) → x.id ≡ n.id → op_of x.id set ≡ Some x → ⊥
        other x s h = let g : Some x ≡ None = sym h ∙ (ap (λ i. op_of i set) s ∙ fresh) in cc

    all_made : (m : Option Op) → now.queue ≡ queued m A.queue → IfSome m (λ o. (op_of o.id set ≡ None) × (o.id.replica ≡ p)) → (o : Op) → Contains (grown m set) o → IsMadeOp (slice_set network p now) o
    all_made None e f o c = still_made None e o (seen.all o c)
    all_made (Some n) e f o c = go (in_cons o n set c)
      where
        go : (n ≡ o) ⊎ Contains set o → IsMadeOp (slice_set network p now) o
        go (inl s) = subst (IsMadeOp (slice_set network p now)) s (new_made n e f.0 f.1)
        go (inr k) = still_made (Some n) e o (seen.all o k)

    stays : (m : Option Op) → IsSeenAs (grown m set) p now new → IfSome m (λ o. (op_of o.id set ≡ None) × (o.id.replica ≡ p)) → (q : ℕ) (B L : State) → q ≢ p → IsSeenAs set q B L → IsSeenAs (grown m set) q B L
    stays None is f q B L d h = h
    stays (Some n) is f q B L d h =
        record {
          stands = state_stays set n B L h.stands f.0 is.stands.sound;
          own = own_are_applied.with_more set n q B h.own (λ e. absurd (d (sym e ∙ f.1)));
        }

    each_after : (m : Option Op) → IsSeenAs (grown m set) p now new → IfSome m (λ o. (op_of o.id set ≡ None) × (o.id.replica ≡ p)) → (q : ℕ) (L : State) → IsReplicaAt (slice_set kept p new) q L → HasSeen (grown m set) q (slice_set network p now) L
    each_after m is f q L e = go (is_same q p)
      where
        go : (q ≡ p) ⊎ (q ≢ p) → HasSeen (grown m set) q (slice_set network p now) L
        go (inl s) =
            let same : new ≡ L = same_Some new L (sym (set_there kept p K new was) ∙ (sym (ap (slice_get (slice_set kept p new)) s) ∙ e)) in
            record {
              at = now;
              there = ap (slice_get (slice_set network p now)) s ∙ set_there network p A now at;
              seen = subst (λ n. IsSeenAs (grown m set) n now L) (sym s) (subst (IsSeenAs (grown m set) p now) same is);
            }
        go (inr d) =
            let x = seen.each q L (sym (set_else kept p q new d) ∙ e) in
            record { at = x.at; there = set_else network p q now d ∙ x.there; seen = stays m is f q x.at L d x.seen }

    seen_after : (m : Option Op) → IsSeenAs (grown m set) p now new → now.queue ≡ queued m A.queue → IfSome m (λ o. (op_of o.id set ≡ None) × (o.id.replica ≡ p)) → AreSeen (grown m set) (slice_set network p now) (slice_set kept p new)
    seen_after m is e f =
        record {
          all = all_made m e f;
          as_many = states_set network p now ∙ (seen.as_many ∙ sym (states_set kept p new));
          each = each_after m is f;
        }

  -- ---- the event

  pub steps_on : (event : Event) (read : List Op) (old new : ReplicaHistory) (rows : Rows) → IsAsked kept event read old → Occurs event read old new rows → StepsOn network event rows (slice_set kept (replica_of event) new.history.now)
  steps_on event read old new rows asked occurs =
      let x = seen.each (replica_of event) old.history.now asked.there in
      let r = reads_stand event read asked.reads in
      let known = subst (λ n. IsSeenAs set n x.at old.history.now) (sym asked.number) x.seen in
      let l = subst (λ n. LeadsReplica set event n r.os x.at new.history.now rows) asked.number (occurs.leads set r.os x.at known.stands (own_for event set old.number x.at known.own) r.is) in
      record {
        new = slice_set network (replica_of event) l.now;
        set = grown l.made set;
        step = record {
          before = x.at;
          after = l.now;
          read = r.os;
          derivation = l.derives.derivation;
          is_there = x.there;
          reads = r.reads;
          holds = l.derives.holds;
          concludes = l.derives.concludes;
          is_new = refl;
          is_trace = l.derives.rows;
        };
        depth = l.derives.depth;
        seen = seen_after (replica_of event) x.at l.now old.history.now new.history.now x.there asked.there x.seen l.made (record { stands = l.stands; own = l.own x.seen.own }) l.queue l.fresh;
      }

  pub is_stuck : (event : Event) (read : List Op) (old : ReplicaHistory) (why : Cause) → IsAsked kept event read old → RefusedFor event read old why → IsStuck network event why
  is_stuck event read old why asked refuses =
      let x = seen.each (replica_of event) old.history.now asked.there in
      let r = reads_stand event read asked.reads in
      refused x.there r.reads (refuses set r.os x.at x.seen.stands r.is)
