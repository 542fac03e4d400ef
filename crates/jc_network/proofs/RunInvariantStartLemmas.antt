-- Lemmas about RunInvariant: it holds at a start, and so after all events from there.
use Rattle.std.proofs.Common.{◌≡◌, ℕ, zero, suc, List, [], ◌∷◌, ◌++◌, Some, true, false, Contains, ◌⊎◌, inl, inr, slice_get, refl, sym, ◌∙◌, ap, subst, arith}
use Rattle.std.proofs.lemmas.Option.{same_Some}
use Rattle.std.proofs.lemmas.List.Elements.{Contains-append_left, Contains-append_right, Contains-append_cases}
use Rattle.jc_rules.specs.declared.id.Id.{Id}
use Rattle.jc_rules.specs.declared.key.Key.{Key}
use Rattle.jc_rules.specs.declared.key.Key.TheVariants.{Head}
use Rattle.jc_rules.specs.declared.key.Tagged.{Tagged}
use Rattle.jc_rules.specs.declared.key.Tagged.TheVariants.{ListT}
use Rattle.jc_rules.specs.declared.operation.Op.{Op}
use Rattle.jc_rules.specs.declared.operation.Event.{Event}
use Rattle.jc_rules.specs.Ids.{AreRising, has_id}
use Rattle.jc_rules.specs.Sound.{IsSound, IsRooted, IsRootedAt, IsDependency}
use Rattle.jc_rules.specs.State.{State, start}
use Rattle.jc_rules.specs.Step.{After}
use Rattle.jc_rules.specs.Syntax.{Cmd}
use Rattle.jc_rules.specs.Table.{op_of}
use Rattle.jc_network.specs.Rooted.{IsListPath, IsRootKey, head, element}
use Rattle.jc_network.specs.RunInvariant.{IsReplicaAt, IsMadeOp, IsKnown, IsWell}
use Rattle.jc_network.specs.Laws.{starts, ops_held, AreApplied}
use Rattle.jc_network.proofs.MembersLemmas.{none_in, of_id}
use Rattle.jc_network.proofs.RunInvariantLemmas.{step_well}

-- a replica at the start has its script and nothing else
pub started : (scripts : List (List Cmd)) (p : ℕ) (A : State) → IsReplicaAt (starts scripts) p A → (script : List Cmd) × (A ≡ start script)
started [] p A e = cc
started (s ∷ scripts) zero A e = (s, sym (same_Some (start s) A e))
started (s ∷ scripts) (suc p) A e = started scripts p A e

not_listed : {A : Type 0} → IsListPath [] → A
not_listed ([], l, e) = cc
not_listed (t ∷ above, l, e) = cc

module _ (scripts : List (List Cmd)) where
  abbrev pub first : List State
  first = starts scripts

  at_start : (P : State → Type 0) → ((s : List Cmd) → P (start s)) → (p : ℕ) (A : State) → IsReplicaAt first p A → P A
  at_start P f p A e = let x = started scripts p A e in subst P (sym x.1) (f x.0)

  pub none_made : {A : Type 0} (o : Op) → IsMadeOp first o → A
  none_made {A = A} o m = let x = started scripts o.id.replica m.at m.there in none_in o (subst (λ (S : State). Contains S.queue o) x.1 m.queued)

  pub start_well : IsWell first
  start_well =
      record {
        sets =
            record {
              own = λ p A o e k. none_in o (subst (λ (S : State). Contains S.queue o) (started scripts p A e).1 k);
              sent = λ p A o e k. none_in o (subst (λ (S : State). Contains S.send o) (started scripts p A e).1 k);
              received = λ p A o e k. none_in o (subst (λ (S : State). Contains S.recv o) (started scripts p A e).1 k);
              applied = λ p A i e k. let f : false ≡ true = subst (λ (S : State). has_id i S.ops ≡ true) (started scripts p A e).1 k in cc;
              rising = λ p A e. at_start (λ S. AreRising S.ops) (λ s. tt) p A e;
              closed = λ p A o e m k. none_made o m;
              sound = record { counted = λ o m. none_made o m; one_each = λ o e m k s. none_made o m; rising = λ o m. none_made o m; closed = λ o m i d. none_made o m; in_order = λ e o m k s l. none_made e m };
            };
        trees =
            record {
              rooted = λ o m. none_made o m;
              listed = λ o m is. none_made o m;
              known = λ p A e. at_start (IsKnown (IsMadeOp first)) (λ s. record { tree = (record { keys = tt; closed = λ k j f. cc; headed = λ l. not_listed l }, tt, tt); vars = tt }) p A e;
              linked = λ p A o e m k is. none_made o m;
            };
      }

pub after_well : (N : List State) (events : List Event) (M : List State) → IsWell N → After N events M → IsWell M
after_well N [] M w a = subst IsWell a w
after_well N (e ∷ es) M w a = after_well a.0 es M (step_well N e a.0 a.1 w a.2) a.3

-- ---- the list of all operations

member_at : {X : Type 0} (xs : List X) (x : X) → Contains xs x → (p : ℕ) × (slice_get xs p ≡ Some x)
member_at [] x k = none_in x k
member_at (y ∷ ys) x (zero, lt, e) = (0, ap (λ z. Some z) e)
member_at (y ∷ ys) x (suc k, lt, e) = let r = member_at ys x (k, omega (arith, lt), e) in (suc r.0, r.1)

pub at_member : (N : List State) (A : State) → Contains N A → (p : ℕ) × IsReplicaAt N p A
at_member N A k = member_at N A k

data IsHeld (A : State) (o : Op) : Type 0 where
  in_queue : Contains A.queue o → IsHeld A o
  in_send : Contains A.send o → IsHeld A o
  in_recv : Contains A.recv o → IsHeld A o

held_by : (N : List State) (o : Op) → Contains (ops_held N) o → (p : ℕ) × (A : State) × IsReplicaAt N p A × IsHeld A o
held_by [] o k = none_in o k
held_by (A ∷ N) o k = first (Contains-append_cases A.queue (A.send ++ (A.recv ++ ops_held N)) o k) (λ m. held_by N o m)
  where
    later : (p : ℕ) × (B : State) × IsReplicaAt N p B × IsHeld B o → (p : ℕ) × (B : State) × IsReplicaAt (A ∷ N) p B × IsHeld B o
    later x = (suc x.0, x.1, x.2, x.3)

    third : Contains A.recv o ⊎ Contains (ops_held N) o → (Contains (ops_held N) o → (p : ℕ) × (B : State) × IsReplicaAt N p B × IsHeld B o) → (p : ℕ) × (B : State) × IsReplicaAt (A ∷ N) p B × IsHeld B o
    third (inl m) f = (0, A, refl, in_recv m)
    third (inr m) f = later (f m)

    second : Contains A.send o ⊎ Contains (A.recv ++ ops_held N) o → (Contains (ops_held N) o → (p : ℕ) × (B : State) × IsReplicaAt N p B × IsHeld B o) → (p : ℕ) × (B : State) × IsReplicaAt (A ∷ N) p B × IsHeld B o
    second (inl m) f = (0, A, refl, in_send m)
    second (inr m) f = third (Contains-append_cases A.recv (ops_held N) o m) f

    first : Contains A.queue o ⊎ Contains (A.send ++ (A.recv ++ ops_held N)) o → (Contains (ops_held N) o → (p : ℕ) × (B : State) × IsReplicaAt N p B × IsHeld B o) → (p : ℕ) × (B : State) × IsReplicaAt (A ∷ N) p B × IsHeld B o
    first (inl m) f = (0, A, refl, in_queue m)
    first (inr m) f = second (Contains-append_cases A.send (A.recv ++ ops_held N) o m) f

queue_held : (N : List State) (p : ℕ) (A : State) (o : Op) → IsReplicaAt N p A → Contains A.queue o → Contains (ops_held N) o
queue_held [] p A o e k = cc
queue_held (B ∷ N) zero A o e k = let s : A ≡ B = sym (same_Some B A e) in Contains-append_left B.queue (B.send ++ (B.recv ++ ops_held N)) o (subst (λ (S : State). Contains S.queue o) s k)
queue_held (B ∷ N) (suc p) A o e k = Contains-append_right B.queue (B.send ++ (B.recv ++ ops_held N)) o (Contains-append_right B.send (B.recv ++ ops_held N) o (Contains-append_right B.recv (ops_held N) o (queue_held N p A o e k)))

module _ (N : List State) (w : IsWell N) where
  pub held_made : (o : Op) → Contains (ops_held N) o → IsMadeOp N o
  held_made o k = go (held_by N o k)
    where
      go : (p : ℕ) × (A : State) × IsReplicaAt N p A × IsHeld A o → IsMadeOp N o
      go (p, A, e, in_queue m) = record { at = A; there = ap (slice_get N) ((w.sets.own p A o e m).0) ∙ e; queued = m }
      go (p, A, e, in_send m) = (w.sets.sent p A o e m).1
      go (p, A, e, in_recv m) = w.sets.received p A o e m

  made_held : (o : Op) → IsMadeOp N o → Contains (ops_held N) o
  made_held o m = queue_held N o.id.replica m.at o m.there m.queued

  op_of_held : (o : Op) → IsMadeOp N o → op_of o.id (ops_held N) ≡ Some o
  op_of_held o m = of_id (ops_held N) o (λ x k e. w.sets.sound.one_each x o (held_made x k) m e) (made_held o m)

  pub sound : IsSound (ops_held N)
  sound =
      record {
        counted = λ o k. w.sets.sound.counted o (held_made o k);
        one_each = λ o k. op_of_held o (held_made o k);
        rising = λ o k. w.sets.sound.rising o (held_made o k);
        closed = λ o k i d. deps (w.sets.sound.closed o (held_made o k) i d);
        in_order = λ e o k m s l. w.sets.sound.in_order e o (held_made e k) (held_made o m) s l;
      }
    where
      deps : {i : Id} {o : Op} → (e : Op) × IsMadeOp N e × (e.id ≡ i) × IsDependency e o → (e : Op) × (op_of i (ops_held N) ≡ Some e) × IsDependency e o
      deps {i = i} (e, m, s, d) = (e, ap (λ j. op_of j (ops_held N)) (sym s) ∙ op_of_held e m, d)

  rooted_at : (o : Op) (P : List Tagged) (k : Key) → IsRootKey (IsMadeOp N) o.deps P k → (k ≡ Head) ⊎ IsRootedAt (ops_held N) o P k
  rooted_at o P k (head e) = inl e
  rooted_at o P k (element i e d h) = inr (i, e, d, h.op, ap (λ j. op_of j (ops_held N)) (sym h.is) ∙ op_of_held h.op h.made, h.inserts, h.path)

  pub rooted : IsRooted (ops_held N)
  rooted = λ o k above l key s. rooted_at o (above ++ ListT l ∷ []) key ((w.trees.rooted o (held_made o k)).rooted above l key s)

  pub are_applied : (A : State) → Contains N A → AreApplied A
  are_applied A k i d =
      let a = at_member N A k in
      let x = w.sets.applied a.0 A i a.1 d in
      (x.0, x.1, x.2, w.sets.closed a.0 A x.0 a.1 (made a.0 a.1 x.0 x.1) (subst (λ j. has_id j A.ops ≡ true) (sym x.2) d))
    where
      made : (p : ℕ) → IsReplicaAt N p A → (o : Op) → Contains A.queue o ⊎ Contains A.recv o → IsMadeOp N o
      made p e o (inl m) = record { at = A; there = ap (slice_get N) ((w.sets.own p A o e m).0) ∙ e; queued = m }
      made p e o (inr m) = w.sets.received p A o e m
