-- Lemmas about Enabled: what replicas list by their stored states holds of the network that these represent.
use Rattle.std.proofs.Common.{◌≡◌, ℕ, suc, ◌+◌, ◌<◌, List, [], ◌∷◌, ◌++◌, length, take, map, get_or, Some, Bool, true, false, Result, Ok, Err, OnOk, add-one, Contains, IsSome, ◌⊎◌, inl, inr, slice_get, refl, sym, ◌∙◌, ap, subst, arith, append-nil, append_assoc}
use Rattle.std.proofs.lemmas.List.{take_more, length-map, length-take-le}
use Rattle.std.proofs.lemmas.Option.{same_Some, slice_get-get_or}
use Rattle.jc_rules.specs.declared.operation.Event.{Event}
use Rattle.jc_rules.specs.declared.operation.Event.TheVariants.{Exec, Send, Recv, Take, Apply, Done}
use Rattle.jc_rules.specs.declared.version.Version.{Version}
use Rattle.jc_rules.specs.declared.version.Version.TheVariants.{One, Two}
use Rattle.jc_rules.specs.declared.operation.Op.{Op}
use Rattle.jc_rules.specs.Derivation.{Occur}
use Rattle.jc_rules.specs.Refused.{Cause, IsStuckIn, Refused, replica_missing, sender_missing, wrong_version, question_refused}
use Rattle.jc_rules.specs.State.{State}
use Rattle.jc_rules.specs.Step.{replica_of, read_by, send_of, Network}
use Rattle.jc_rules.specs.Table.{op_of}
use Rattle.jc_rules.specs.Version.{Allows}
use Rattle.jc_rules.specs.Syntax.{Cmd}
use Rattle.jc_rules.specs.Order.{same_id}
use Rattle.jc_rules.proofs.IdsLemmas.{same_id-self}
use Rattle.jc_vectors.specs.StoredStates.{stored_op}
use Rattle.jc_replica.specs.Can.{CanOccur, MayRead}
use Rattle.jc_replica.specs.ReplicaHistory.{ReplicaHistory}
use Rattle.jc_network.specs.NetworkHistory.{kept_of, of_version}
use Rattle.jc_network.specs.Enabled.{receivings, takings_of, takings_from, takings, applyings, applyings_of, events_from, candidates, AreChosen, IsAnyStuck, IsNotStuck, AreEnabled, Lists, TellsEnabled, AreEnabledAsKnown, chosen, left_out, no_more}
use Rattle.jc_network.specs.Invariant.{AreNumbered}
use Rattle.jc_network.specs.Laws.{starts, IsReached}
use Rattle.jc_network.specs.RunInvariant.{IsReplicaAt, HasSoundOps}
use Rattle.jc_network.specs.Refines.{HasSeen, AreSeen}
use Rattle.jc_network.proofs.EnabledLemmas.{chosen_append, chosen_as, event_of, IsEventOf, of_exec, of_send, of_recv, of_take, of_apply, of_done, in_from}
use Rattle.jc_network.proofs.MembersLemmas.{none_in, in_cons, some_at}
use Rattle.jc_network.proofs.RefinesLemmas.{reads_stand}
use Rattle.jc_network.proofs.RunInvariantStartLemmas.{start_well, after_well}
use Rattle.jc_network.proofs.StepsLemmas.{kept_there}

-- ---- listing

pub lists_none : (replica : ReplicaHistory) (old new : List Event) → new ≡ old → Lists replica [] old new
lists_none replica old new e = record { listed = []; behind = e ∙ sym (append-nil old); those = no_more }

pub lists_one : (replica : ReplicaHistory) (event : Event) (can : Bool) (old new : List Event) → CanOccur event replica can → (can ≡ true → new ≡ old ++ event ∷ []) → (can ≡ false → new ≡ old) → Lists replica (event ∷ []) old new
lists_one replica event true old new h f g = record { listed = event ∷ []; behind = f refl; those = chosen h no_more }
lists_one replica event false old new h f g = record { listed = []; behind = g refl ∙ sym (append-nil old); those = left_out h no_more }

pub lists_more : (replica : ReplicaHistory) (asked more old mid new : List Event) → Lists replica asked old mid → Lists replica more mid new → Lists replica (asked ++ more) old new
lists_more replica asked more old mid new a b =
    record {
      listed = a.listed ++ b.listed;
      behind = b.behind ∙ ap (λ (l : List Event). l ++ b.listed) a.behind ∙ append_assoc old a.listed b.listed;
      those = chosen_append a.those b.those;
    }

pub lists_receiving : (replica : ReplicaHistory) (q p : ℕ) (old mid new : List Event) → p ≡ replica.number → Lists replica (receivings replica.number q) old mid → Lists replica (Recv p q ∷ []) mid new → Lists replica (receivings replica.number (q + 1)) old new
lists_receiving replica q p old mid new e a b =
    let one : Lists replica (Recv replica.number q ∷ []) mid new = subst (λ n. Lists replica (Recv n q ∷ []) mid new) e b in
    rw add-one (lists_more replica (receivings replica.number q) (Recv replica.number q ∷ []) old mid new a one)

applyings_push : (p : ℕ) (os : List Op) (o : Op) → applyings p (os ++ o ∷ []) ≡ applyings p os ++ Apply p o.id ∷ []
applyings_push p [] o = refl
applyings_push p (x ∷ os) o = ap (λ (l : List Event). Apply p x.id ∷ l) (applyings_push p os o)

pub lists_applying : (replica : ReplicaHistory) (os : List Op) (i : ℕ) (o : Op) (p : ℕ) (old mid new : List Event) → i < length os → o ≡ get_or os i o → p ≡ replica.number → Lists replica (applyings replica.number (take i os)) old mid → Lists replica (Apply p o.id ∷ []) mid new → Lists replica (applyings replica.number (take (i + 1) os)) old new
lists_applying replica os i o p old mid new l at e a b =
    let one : Lists replica (Apply replica.number o.id ∷ []) mid new = subst (λ n. Lists replica (Apply n o.id ∷ []) mid new) e b in
    let front : take (i + 1) os ≡ take i os ++ o ∷ [] = take_more os i o l ∙ ap (λ (x : Op). take i os ++ x ∷ []) (sym at) in
    let asked : applyings replica.number (take (i + 1) os) ≡ applyings replica.number (take i os) ++ Apply replica.number o.id ∷ [] = ap (applyings replica.number) front ∙ applyings_push replica.number (take i os) o in
    subst (λ (cs : List Event). Lists replica cs old new) (sym asked) (lists_more replica (applyings replica.number (take i os)) (Apply replica.number o.id ∷ []) old mid new a one)

-- taking
takings_push : (p q : ℕ) (os : List Op) (o : Op) → takings_of p q (os ++ o ∷ []) ≡ takings_of p q os ++ Take p q o.id ∷ []
takings_push p q [] o = refl
takings_push p q (x ∷ os) o = ap (λ (l : List Event). Take p q x.id ∷ l) (takings_push p q os o)

pub lists_taking : (replica : ReplicaHistory) (os : List Op) (i : ℕ) (o : Op) (p q : ℕ) (old mid new : List Event) → i < length os → o ≡ get_or os i o → p ≡ replica.number → Lists replica (takings_of replica.number q (take i os)) old mid → Lists replica (Take p q o.id ∷ []) mid new → Lists replica (takings_of replica.number q (take (i + 1) os)) old new
lists_taking replica os i o p q old mid new l at e a b =
    let one : Lists replica (Take replica.number q o.id ∷ []) mid new = subst (λ n. Lists replica (Take n q o.id ∷ []) mid new) e b in
    let front : take (i + 1) os ≡ take i os ++ o ∷ [] = take_more os i o l ∙ ap (λ (x : Op). take i os ++ x ∷ []) (sym at) in
    let asked : takings_of replica.number q (take (i + 1) os) ≡ takings_of replica.number q (take i os) ++ Take replica.number q o.id ∷ [] = ap (takings_of replica.number q) front ∙ takings_push replica.number q (take i os) o in
    subst (λ (cs : List Event). Lists replica cs old new) (sym asked) (lists_more replica (takings_of replica.number q (take i os)) (Take replica.number q o.id ∷ []) old mid new a one)

takings_push_from : (p q : ℕ) (states : List State) (A : State) (n : ℕ) → n ≡ q + length states → takings_from p q (states ++ A ∷ []) ≡ takings_from p q states ++ takings_of p n A.send
takings_push_from p q [] A n e =
    let same : q ≡ n = omega (arith, e) in
    append-nil (takings_of p q A.send) ∙ ap (λ m. takings_of p m A.send) same
takings_push_from p q (B ∷ states) A n e =
    ap (λ (l : List Event). takings_of p q B.send ++ l) (takings_push_from p (suc q) states A n (omega (arith, e)))
    ∙ sym (append_assoc (takings_of p q B.send) (takings_from p (suc q) states) (takings_of p n A.send))

states_more : (replicas : List ReplicaHistory) (replica : ReplicaHistory) → kept_of (replicas ++ replica ∷ []) ≡ kept_of replicas ++ replica.history.now ∷ []
states_more [] replica = refl
states_more (q ∷ replicas) replica = ap (λ (l : List State). q.history.now ∷ l) (states_more replicas replica)

pub lists_takings : (replica : ReplicaHistory) (replicas : List ReplicaHistory) (i : ℕ) (sender : ReplicaHistory) (offered : List Op) (old mid new : List Event) → i < length replicas → sender ≡ get_or replicas i sender → offered ≡ sender.history.now.send → Lists replica (takings_from replica.number 0 (kept_of (take i replicas))) old mid → Lists replica (takings_of replica.number i offered) mid new → Lists replica (takings_from replica.number 0 (kept_of (take (i + 1) replicas))) old new
lists_takings replica replicas i sender offered old mid new l at is a b =
    let p = replica.number in
    let front : take (i + 1) replicas ≡ take i replicas ++ sender ∷ [] = take_more replicas i sender l ∙ ap (λ (x : ReplicaHistory). take i replicas ++ x ∷ []) (sym at) in
    let count : length (kept_of (take i replicas)) ≡ i = length-map (take i replicas) (λ (x : ReplicaHistory). x.history.now) ∙ length-take-le i replicas (omega (arith, l)) in
    let asked : takings_from p 0 (kept_of (take (i + 1) replicas)) ≡ takings_from p 0 (kept_of (take i replicas)) ++ takings_of p i offered =
    ap (λ (ps : List ReplicaHistory). takings_from p 0 (kept_of ps)) front
    ∙ ap (takings_from p 0) (states_more (take i replicas) sender)
    ∙ takings_push_from p 0 (kept_of (take i replicas)) sender.history.now i (omega (arith, count))
    ∙ ap (λ (os : List Op). takings_from p 0 (kept_of (take i replicas)) ++ takings_of p i os) (sym is) in
    subst (λ (cs : List Event). Lists replica cs old new) (sym asked) (lists_more replica (takings_from p 0 (kept_of (take i replicas))) (takings_of p i offered) old mid new a b)

lists_last : {X E : Type 0} (r : Result X E) (replica : ReplicaHistory) (asked more old mid new : List Event) → Lists replica asked old mid → OnOk r (Lists replica more mid new) → OnOk r (Lists replica (asked ++ more) old new)
lists_last (Ok x) replica asked more old mid new a b = lists_more replica asked more old mid new a b
lists_last (Err e) replica asked more old mid new a b = tt

pub lists_events : {X E : Type 0} (r : Result X E) (replica : ReplicaHistory) (N : Network) (n p : ℕ) (a b c d e f g : List Event) → n ≡ length N.states → p ≡ replica.number → Lists replica (Exec p ∷ []) a b → Lists replica (Send p ∷ []) b c → Lists replica (receivings replica.number n) c d → Lists replica (takings N.version replica.number N.states) d e → Lists replica (applyings replica.number replica.history.now.recv) e f → OnOk r (Lists replica (Done p ∷ []) f g) → OnOk r (Lists replica (applyings_of N replica.number replica.history.now.recv) a g)
lists_events r replica N n p a b c d e f g many s x y z t w v =
    let q = replica.number in
    let exec : Lists replica (Exec q ∷ []) a b = subst (λ m. Lists replica (Exec m ∷ []) a b) s x in
    let send : Lists replica (Send q ∷ []) b c = subst (λ m. Lists replica (Send m ∷ []) b c) s y in
    let recv : Lists replica (receivings q (length N.states)) c d = subst (λ m. Lists replica (receivings q m) c d) many z in
    let done : OnOk r (Lists replica (Done q ∷ []) f g) = subst (λ m. OnOk r (Lists replica (Done m ∷ []) f g)) s v in
    let two = lists_more replica (Exec q ∷ []) (Send q ∷ []) a b c exec send in
    let three = lists_more replica (Exec q ∷ Send q ∷ []) (receivings q (length N.states)) a c d two recv in
    let four = lists_more replica (Exec q ∷ Send q ∷ receivings q (length N.states)) (takings N.version q N.states) a d e three t in
    let five = lists_more replica (Exec q ∷ Send q ∷ receivings q (length N.states) ++ takings N.version q N.states) (applyings q replica.history.now.recv) a e f four w in
    lists_last r replica (Exec q ∷ Send q ∷ receivings q (length N.states) ++ takings N.version q N.states ++ applyings q replica.history.now.recv) (Done q ∷ []) a f g five done

-- one replica more
from_push : (N : Network) (p : ℕ) (states : List State) (A : State) (q : ℕ) → q ≡ p + length states → events_from N p (states ++ A ∷ []) ≡ events_from N p states ++ applyings_of N q A.recv
from_push N p [] A q e =
    let same : p ≡ q = omega (arith, e) in
    append-nil (applyings_of N p A.recv) ∙ ap (λ m. applyings_of N m A.recv) same
from_push N p (B ∷ states) A q e =
    ap (λ (l : List Event). applyings_of N p B.recv ++ l) (from_push N (suc p) states A q (omega (arith, e)))
    ∙ sym (append_assoc (applyings_of N p B.recv) (events_from N (suc p) states) (applyings_of N q A.recv))

-- the events that the first replicas list
abbrev pub HaveTold : List ReplicaHistory → Network → ℕ → List Event → Type 0
HaveTold replicas N i listed = AreChosen (TellsEnabled replicas true) (TellsEnabled replicas false) (events_from N 0 (kept_of (take i replicas))) listed

pub told_none : (replicas : List ReplicaHistory) (N : Network) (listed : List Event) → listed ≡ [] → HaveTold replicas N 0 listed
told_none replicas N listed e = subst (λ (ls : List Event). HaveTold replicas N 0 ls) (sym e) no_more

pub told_more : (replicas : List ReplicaHistory) (N : Network) (i : ℕ) (replica : ReplicaHistory) (old new : List Event) → AreNumbered replicas → i < length replicas → replica ≡ get_or replicas i replica → HaveTold replicas N i old → Lists replica (applyings_of N replica.number replica.history.now.recv) old new → HaveTold replicas N (i + 1) new
told_more replicas N i replica old new numbered l at h more =
    subst (λ (cs : List Event). AreChosen (TellsEnabled replicas true) (TellsEnabled replicas false) cs new) (sym asked)
    (subst (λ (ls : List Event). AreChosen (TellsEnabled replicas true) (TellsEnabled replicas false) (events_from N 0 (kept_of (take i replicas)) ++ applyings_of N replica.number replica.history.now.recv) ls) (sym more.behind)
    (chosen_append h (chosen_as (tells_so true) (tells_so false) more.those)))
  where
    there : slice_get replicas i ≡ Some replica
    there = slice_get-get_or replicas i replica l ∙ ap (λ (x : ReplicaHistory). Some x) (sym at)

    number : replica.number ≡ i
    number = numbered i replica there

    tells_so : (can : Bool) (e : Event) → Contains (applyings_of N replica.number replica.history.now.recv) e → CanOccur e replica can → TellsEnabled replicas can e
    tells_so can e k h = record { replica = replica; there = ap (slice_get replicas) (event_of N replica.number replica.history.now.recv e k ∙ number) ∙ there; answer = h }

    front : length (kept_of (take i replicas)) ≡ i
    front = length-map (take i replicas) (λ (x : ReplicaHistory). x.history.now) ∙ length-take-le i replicas (omega (arith, l))

    asked : events_from N 0 (kept_of (take (i + 1) replicas)) ≡ events_from N 0 (kept_of (take i replicas)) ++ applyings_of N replica.number replica.history.now.recv
    asked =
        let front_more : take (i + 1) replicas ≡ take i replicas ++ replica ∷ [] = take_more replicas i replica l ∙ ap (λ (x : ReplicaHistory). take i replicas ++ x ∷ []) (sym at) in
        ap (λ (ps : List ReplicaHistory). events_from N 0 (kept_of ps)) front_more
        ∙ ap (λ (states : List State). events_from N 0 states) (states_more (take i replicas) replica)
        ∙ from_push N 0 (kept_of (take i replicas)) replica.history.now replica.number (omega (arith, number, front))

-- ---- the network

applyings_kept : (p : ℕ) (os : List Op) → applyings p (map stored_op os) ≡ applyings p os
applyings_kept p [] = refl
applyings_kept p (o ∷ os) = ap (λ (l : List Event). Apply p o.id ∷ l) (applyings_kept p os)

takings_of_kept : (p q : ℕ) (os : List Op) → takings_of p q (map stored_op os) ≡ takings_of p q os
takings_of_kept p q [] = refl
takings_of_kept p q (o ∷ os) = ap (λ (l : List Event). Take p q o.id ∷ l) (takings_of_kept p q os)

-- the state at the place, of which what was received and is offered is kept so
record IsLike (network : List State) (p : ℕ) (K : State) : Type 0 where
  at : State
  there : IsReplicaAt network p at
  recv : K.recv ≡ map stored_op at.recv
  send : K.send ≡ map stored_op at.send

takings_alike : (p q : ℕ) (network kept : List State) → length network ≡ length kept → ((i : ℕ) (K : State) → IsReplicaAt kept i K → IsLike network i K) → takings_from p q kept ≡ takings_from p q network
takings_alike p q [] [] e f = refl
takings_alike p q [] (K ∷ kept) e f = absurd (omega (arith, e))
takings_alike p q (A ∷ network) [] e f = absurd (omega (arith, e))
takings_alike p q (A ∷ network) (K ∷ kept) e f =
    let rest = takings_alike p (suc q) network kept (omega (arith, e)) later in
    let x = f 0 K refl in
    let same : x.at ≡ A = sym (same_Some A x.at x.there) in
    let first : takings_of p q K.send ≡ takings_of p q A.send = ap (takings_of p q) x.send ∙ takings_of_kept p q x.at.send ∙ ap (λ (S : State). takings_of p q S.send) same in
    ap (λ (l : List Event). l ++ takings_from p (suc q) kept) first ∙ ap (λ (l : List Event). takings_of p q A.send ++ l) rest
  where
    later : (i : ℕ) (L : State) → IsReplicaAt kept i L → IsLike network i L
    later i L t = let x = f (suc i) L t in record { at = x.at; there = x.there; recv = x.recv; send = x.send }

takings_same : (v : Version) (p : ℕ) (network kept : List State) → length network ≡ length kept → ((i : ℕ) (K : State) → IsReplicaAt kept i K → IsLike network i K) → takings v p kept ≡ takings v p network
takings_same One p network kept e f = refl
takings_same Two p network kept e f = takings_alike p 0 network kept e f

from_alike : (N M : Network) → length N.states ≡ length M.states → ((p : ℕ) → takings M.version p M.states ≡ takings N.version p N.states) → (p : ℕ) (network kept : List State) → length network ≡ length kept → ((i : ℕ) (K : State) → IsReplicaAt kept i K → IsLike network i K) → events_from M p kept ≡ events_from N p network
from_alike N M many takes p [] [] e f = refl
from_alike N M many takes p [] (K ∷ kept) e f = absurd (omega (arith, e))
from_alike N M many takes p (A ∷ network) [] e f = absurd (omega (arith, e))
from_alike N M many takes p (A ∷ network) (K ∷ kept) e f =
    let rest = from_alike N M many takes (suc p) network kept (omega (arith, e)) later in
    let first : applyings_of M p K.recv ≡ applyings_of N p A.recv = λ i. Exec p ∷ Send p ∷ receivings p (sym many i) ++ takes p i ++ here (f 0 K refl) i ++ Done p ∷ [] in
    ap (λ (l : List Event). l ++ events_from M (suc p) kept) first ∙ ap (λ (l : List Event). applyings_of N p A.recv ++ l) rest
  where
    here : IsLike (A ∷ network) 0 K → applyings p K.recv ≡ applyings p A.recv
    here x =
        let same : x.at ≡ A = sym (same_Some A x.at x.there) in
        ap (applyings p) x.recv ∙ applyings_kept p x.at.recv ∙ ap (λ (S : State). applyings p S.recv) same

    later : (i : ℕ) (L : State) → IsReplicaAt kept i L → IsLike network i L
    later i L t = let x = f (suc i) L t in record { at = x.at; there = x.there; recv = x.recv; send = x.send }

-- where an event is stuck whose replicas are there and that the version has, its question is refused
stuck_refused : (N : Network) (e : Event) (why : Cause) → IsStuckIn N e why → (A : State) (read : List Op) → slice_get N.states (replica_of e) ≡ Some A → read_by e N.states ≡ Some read → Allows e N.version → Refused (Occur A e read) why
stuck_refused N e why (replica_missing h) A read t r a = cc
stuck_refused N e why (sender_missing h) A read t r a = cc
stuck_refused N e why (wrong_version h k bars) A read t r a = absurd (bars a)
stuck_refused N e why (question_refused {A = B} {read = other} h k b x) A read t r a =
    let state : B ≡ A = same_Some B A (sym h ∙ t) in
    let same : other ≡ read = same_Some other read (sym k ∙ r) in
    subst (λ (os : List Op). Refused (Occur A e os) why) same (subst (λ (S : State). Refused (Occur S e other) why) state x)

-- what an event reads that is asked for
record IsReading (N : Network) (e : Event) : Type 0 where
  read : List Op
  reads : read_by e N.states ≡ Some read
  may : MayRead e read
  allowed : Allows e N.version

some_found : (o : Op) (os : List Op) → Contains os o → IsSome (op_of o.id os)
some_found o [] k = none_in o k
some_found o (x ∷ os) k = go (same_id o.id x.id) refl (in_cons o x os k) (λ m. some_found o os m)
  where
    go : (b : Bool) → same_id o.id x.id ≡ b → (x ≡ o) ⊎ Contains os o → (Contains os o → IsSome (op_of o.id os)) → IsSome (op_of o.id (x ∷ os))
    go true e c f = rw e refl
    go false e (inr m) f = rw e (f m)
    go false e (inl s) f =
        let t : same_id o.id x.id ≡ true = ap (λ (y : Op). same_id o.id y.id) s ∙ same_id-self o.id in
        let no : true ≡ false = sym t ∙ e in
        cc

reading : (N : Network) (p : ℕ) (os : List Op) (e : Event) → IsEventOf N p os e → IsReading N e
reading N p os e (of_exec s) = subst (IsReading N) (sym s) (record { read = []; reads = refl; may = refl; allowed = tt })
reading N p os e (of_send s) = subst (IsReading N) (sym s) (record { read = []; reads = refl; may = refl; allowed = tt })
reading N p os e (of_recv q l s) = subst (IsReading N) (sym s) (let x = some_at N.states q l in record { read = x.0.send; reads = ap send_of x.1; may = tt; allowed = tt })
reading N p os e (of_take h) =
    subst (IsReading N) (sym h.is)
    (record { read = h.at.send; reads = ap send_of h.there; may = some_found h.op h.at.send h.offered; allowed = subst (Allows (Take p h.sender h.op.id)) (sym h.second) tt })
reading N p os e (of_apply o k s) = subst (IsReading N) (sym s) (record { read = []; reads = refl; may = refl; allowed = tt })
reading N p os e (of_done s) = subst (IsReading N) (sym s) (record { read = []; reads = refl; may = refl; allowed = tt })

module _ (set : List Op) (version : Version) (states : List State) (replicas : List ReplicaHistory) (sound : HasSoundOps states) (seen : AreSeen set states (kept_of replicas)) where
  abbrev kept : Network
  kept = of_version version (kept_of replicas)

  abbrev network : Network
  network = of_version version states

  asks : (e : Event) → Contains (candidates kept) e → IsReading kept e
  asks e k = let x = in_from kept 0 kept.states e k in reading kept x.1.number x.1.at.recv e x.1.event

  seen_replica : (p : ℕ) (replica : ReplicaHistory) → slice_get replicas p ≡ Some replica → HasSeen set p states replica.history.now
  seen_replica p replica t = seen.each p replica.history.now (kept_there replicas p replica t)

  not_stuck : (e : Event) → Contains (candidates kept) e → TellsEnabled replicas true e → IsNotStuck network e
  not_stuck e k t why s =
      let x = seen_replica (replica_of e) t.replica t.there in
      let r = asks e k in
      let os = reads_stand set states (kept_of replicas) sound seen e r.read r.reads in
      t.answer set os.os r.read x.at why r.may x.seen.stands os.is (stuck_refused network e why s x.at os.os x.there os.reads r.allowed)

  any_stuck : (e : Event) → Contains (candidates kept) e → TellsEnabled replicas false e → IsAnyStuck network e
  any_stuck e k t =
      let x = seen_replica (replica_of e) t.replica t.there in
      let r = asks e k in
      let os = reads_stand set states (kept_of replicas) sound seen e r.read r.reads in
      let w = t.answer set os.os r.read x.at r.may x.seen.stands os.is in
      (w.0, question_refused x.there os.reads r.allowed w.1)

  like : (i : ℕ) (K : State) → IsReplicaAt (kept_of replicas) i K → IsLike states i K
  like i K t = let x = seen.each i K t in record { at = x.at; there = x.there; recv = ap (λ (S : State). S.recv) x.seen.stands.is; send = ap (λ (S : State). S.send) x.seen.stands.is }

  alike : candidates kept ≡ candidates network
  alike = from_alike network kept seen.as_many (λ p. takings_same version p states (kept_of replicas) seen.as_many like) 0 states (kept_of replicas) seen.as_many like

  told_enabled : (listed : List Event) → AreEnabledAsKnown version replicas listed → AreEnabled network (candidates network) listed
  told_enabled listed h = subst (λ (cs : List Event). AreEnabled network cs listed) alike (chosen_as not_stuck any_stuck h)

-- What the replicas of a network that is reached tell is what is enabled in it.
pub enabled_stands : (scripts : List (List Cmd)) (version : Version) (states : List State) → IsReached scripts states → (set : List Op) (replicas : List ReplicaHistory) → AreSeen set states (kept_of replicas) → (listed : List Event) → AreEnabledAsKnown version replicas listed → AreEnabled (of_version version states) (candidates (of_version version states)) listed
enabled_stands scripts version states r set replicas seen listed h =
    let well = after_well (starts scripts) r.0 states (start_well scripts) r.1 in
    told_enabled set version states replicas well.sets seen listed h
