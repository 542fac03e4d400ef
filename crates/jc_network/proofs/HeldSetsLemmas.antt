-- Lemmas about RunInvariant: the sets of a network after a step.
use Rattle.std.proofs.Common.{◌≡◌, ◌≢◌, ℕ, ◌+◌, ◌≤◌, ◌<◌, List, Some, true, Contains, ◌⊎◌, inl, inr, slice_get, slice_set, sym, ◌∙◌, ap, subst, arith}
use Rattle.std.proofs.lemmas.Option.{same_Some}
use Rattle.jc_rules.specs.declared.id.Id.{Id}
use Rattle.jc_rules.specs.declared.operation.Op.{Op}
use Rattle.jc_rules.specs.Ids.{AreRising, has_id, greatest, AreIn}
use Rattle.jc_rules.specs.Sound.{IsDependency}
use Rattle.jc_rules.specs.State.{State}
use Rattle.jc_network.specs.RunInvariant.{IsReplicaAt, IsMadeOp, HasSoundOps}
use Rattle.jc_network.proofs.MembersLemmas.{set_there, set_other}
use Rattle.jc_rules.proofs.IdSetLemmas.{member_greatest}

-- the next operation of replica p
pub record IsNew (p : ℕ) (A B : State) (x : Op) : Type 0 where
  pub counter : x.id.counter ≡ greatest A.ops + 1
  pub replica : x.id.replica ≡ p
  pub deps : x.deps ≡ A.ops
  pub applied : has_id x.id B.ops ≡ true

-- an identifier that comes into a replica's ops
pub record Comes (New : Op → Type 0) (A : State) (i : Id) : Type 0 where
  pub op : Op
  pub from : New op ⊎ Contains A.recv op
  pub is : op.id ≡ i
  pub deps : AreIn op.deps A.ops

-- What a step of replica p does to its sets: `New` is the operation that it makes, if it makes one.
pub record Grows (In New : Op → Type 0) (p : ℕ) (A B : State) : Type 0 where
  pub queue : (x : Op) → Contains B.queue x → New x ⊎ Contains A.queue x
  pub more : (x : Op) → Contains A.queue x → Contains B.queue x
  pub made : (x : Op) → New x → Contains B.queue x
  pub send : (x : Op) → Contains B.send x → Contains A.send x ⊎ Contains A.queue x
  pub recv : (x : Op) → Contains B.recv x → Contains A.recv x ⊎ In x
  pub still : (x : Op) → Contains A.recv x → Contains B.recv x
  pub ops : (i : Id) → has_id i B.ops ≡ true → (has_id i A.ops ≡ true) ⊎ Comes New A i
  pub kept : AreIn A.ops B.ops
  pub rises : AreRising A.ops → AreRising B.ops
  pub new : (x : Op) → New x → IsNew p A B x
  pub one_new : (x y : Op) → New x → New y → x ≡ y

module _ (N : List State) (p : ℕ) (A B : State) (New : Op → Type 0) (there : IsReplicaAt N p A) (h : HasSoundOps N) (g : Grows (IsMadeOp N) New p A B) where
  abbrev after : List State
  after = slice_set N p B

  -- the state of a replica after the step
  pub data Stands (q : ℕ) (C : State) : Type 0 where
    moved : q ≡ p → C ≡ B → Stands q C
    stayed : IsReplicaAt N q C → Stands q C

  pub stands : (q : ℕ) (C : State) → IsReplicaAt after q C → Stands q C
  stands q C e = go (set_other N p q B)
    where
      go : (q ≡ p) ⊎ (slice_get (slice_set N p B) q ≡ slice_get N q) → Stands q C
      go (inl s) =
          let f : slice_get after q ≡ Some B = ap (slice_get after) s ∙ set_there N p A B there in
          moved s (sym (same_Some B C (sym f ∙ e)))
      go (inr s) = stayed (sym s ∙ e)

  queued_made : (q : ℕ) (C : State) (x : Op) → IsReplicaAt N q C → Contains C.queue x → IsMadeOp N x
  queued_made q C x e k = record { at = C; there = ap (slice_get N) ((h.own q C x e k).0) ∙ e; queued = k }

  -- an operation of replica p is in its queue
  own_made : (x : Op) → IsMadeOp N x → x.id.replica ≡ p → Contains A.queue x
  own_made x m e =
      let s : m.at ≡ A = same_Some m.at A (sym m.there ∙ (ap (slice_get N) e ∙ there)) in
      subst (λ (C : State). Contains C.queue x) s m.queued

  held_made : (q : ℕ) (C : State) (x : Op) → IsReplicaAt N q C → Contains C.queue x ⊎ Contains C.recv x → IsMadeOp N x
  held_made q C x e (inl k) = queued_made q C x e k
  held_made q C x e (inr k) = h.received q C x e k

  -- what is new has another identifier than all that was made
  pub new_apart : (x o : Op) → New x → IsMadeOp N o → o.id ≢ x.id
  new_apart x o n m e =
      let i = g.new x n in
      let r : o.id.replica ≡ p = ap (λ (j : Id). j.replica) e ∙ i.replica in
      let b : o.id.counter ≤ greatest A.ops = member_greatest o.id A.ops ((h.own p A o there (own_made o m r)).1) in
      let c : o.id.counter ≡ x.id.counter = ap (λ (j : Id). j.counter) e in
      let d : x.id.counter ≡ greatest A.ops + 1 = i.counter in
      omega (arith, b, c, d)

  -- what is new was applied nowhere
  pub new_unapplied : (q : ℕ) (C : State) (x : Op) → IsReplicaAt N q C → New x → has_id x.id C.ops ≡ true → ⊥
  new_unapplied q C x e n k = let y = h.applied q C x.id e k in new_apart x y.0 n (held_made q C y.0 e y.1) y.2

  pub made_before : (x : Op) → IsMadeOp after x → New x ⊎ IsMadeOp N x
  made_before x m = go (stands x.id.replica m.at m.there)
    where
      was : New x ⊎ Contains A.queue x → New x ⊎ IsMadeOp N x
      was (inl n) = inl n
      was (inr k) = inr (queued_made p A x there k)

      go : Stands x.id.replica m.at → New x ⊎ IsMadeOp N x
      go (moved s e) = was (g.queue x (subst (λ (C : State). Contains C.queue x) e m.queued))
      go (stayed e) = inr (record { at = m.at; there = e; queued = m.queued })

  pub made_still : (x : Op) → IsMadeOp N x → IsMadeOp after x
  made_still x m = go (set_other N p x.id.replica B)
    where
      go : (x.id.replica ≡ p) ⊎ (slice_get (slice_set N p B) x.id.replica ≡ slice_get N x.id.replica) → IsMadeOp after x
      go (inl s) = record { at = B; there = ap (slice_get after) s ∙ set_there N p A B there; queued = g.more x (own_made x m s) }
      go (inr s) = record { at = m.at; there = s ∙ m.there; queued = m.queued }

  pub made_now : (x : Op) → New x → IsMadeOp after x
  made_now x n = record { at = B; there = ap (slice_get after) ((g.new x n).replica) ∙ set_there N p A B there; queued = g.made x n }

  own : (q : ℕ) (C : State) (o : Op) → IsReplicaAt after q C → Contains C.queue o → (o.id.replica ≡ q) × (has_id o.id C.ops ≡ true)
  own q C o e k = go (stands q C e)
    where
      in_new : New o ⊎ Contains A.queue o → (o.id.replica ≡ p) × (has_id o.id B.ops ≡ true)
      in_new (inl n) = ((g.new o n).replica, (g.new o n).applied)
      in_new (inr m) = let x = h.own p A o there m in (x.0, g.kept o.id x.1)

      go : Stands q C → (o.id.replica ≡ q) × (has_id o.id C.ops ≡ true)
      go (moved s f) =
          let x = in_new (g.queue o (subst (λ (D : State). Contains D.queue o) f k)) in
          (x.0 ∙ sym s, subst (λ (D : State). has_id o.id D.ops ≡ true) (sym f) x.1)
      go (stayed f) = h.own q C o f k

  sent : (q : ℕ) (C : State) (o : Op) → IsReplicaAt after q C → Contains C.send o → (o.id.replica ≡ q) × IsMadeOp after o
  sent q C o e k = go (stands q C e)
    where
      in_new : Contains A.send o ⊎ Contains A.queue o → (o.id.replica ≡ p) × IsMadeOp after o
      in_new (inl n) = let x = h.sent p A o there n in (x.0, made_still o x.1)
      in_new (inr m) = ((h.own p A o there m).0, made_still o (queued_made p A o there m))

      go : Stands q C → (o.id.replica ≡ q) × IsMadeOp after o
      go (moved s f) = let x = in_new (g.send o (subst (λ (D : State). Contains D.send o) f k)) in (x.0 ∙ sym s, x.1)
      go (stayed f) = let x = h.sent q C o f k in (x.0, made_still o x.1)

  received : (q : ℕ) (C : State) (o : Op) → IsReplicaAt after q C → Contains C.recv o → IsMadeOp after o
  received q C o e k = go (stands q C e)
    where
      in_new : Contains A.recv o ⊎ IsMadeOp N o → IsMadeOp after o
      in_new (inl n) = made_still o (h.received p A o there n)
      in_new (inr m) = made_still o m

      go : Stands q C → IsMadeOp after o
      go (moved s f) = in_new (g.recv o (subst (λ (D : State). Contains D.recv o) f k))
      go (stayed f) = made_still o (h.received q C o f k)

  applied : (q : ℕ) (C : State) (i : Id) → IsReplicaAt after q C → has_id i C.ops ≡ true → (o : Op) × (Contains C.queue o ⊎ Contains C.recv o) × (o.id ≡ i)
  applied q C i e k = go (stands q C e)
    where
      held : (o : Op) → Contains A.queue o ⊎ Contains A.recv o → Contains B.queue o ⊎ Contains B.recv o
      held o (inl m) = inl (g.more o m)
      held o (inr m) = inr (g.still o m)

      comes : (o : Op) → New o ⊎ Contains A.recv o → Contains B.queue o ⊎ Contains B.recv o
      comes o (inl n) = inl (g.made o n)
      comes o (inr m) = inr (g.still o m)

      in_new : (has_id i A.ops ≡ true) ⊎ Comes New A i → (o : Op) × (Contains B.queue o ⊎ Contains B.recv o) × (o.id ≡ i)
      in_new (inl n) = let x = h.applied p A i there n in (x.0, held x.0 x.1, x.2)
      in_new (inr c) = (c.op, comes c.op c.from, c.is)

      go : Stands q C → (o : Op) × (Contains C.queue o ⊎ Contains C.recv o) × (o.id ≡ i)
      go (moved s f) = subst (λ (D : State). (o : Op) × (Contains D.queue o ⊎ Contains D.recv o) × (o.id ≡ i)) (sym f) (in_new (g.ops i (subst (λ (D : State). has_id i D.ops ≡ true) f k)))
      go (stayed f) = h.applied q C i f k

  rising : (q : ℕ) (C : State) → IsReplicaAt after q C → AreRising C.ops
  rising q C e = go (stands q C e)
    where
      go : Stands q C → AreRising C.ops
      go (moved s f) = subst (λ (D : State). AreRising D.ops) (sym f) (g.rises (h.rising p A there))
      go (stayed f) = h.rising q C f

  deps_rise : (o : Op) → IsMadeOp after o → AreRising o.deps
  deps_rise o m = go (made_before o m)
    where
      go : New o ⊎ IsMadeOp N o → AreRising o.deps
      go (inl n) = subst AreRising (sym (g.new o n).deps) (h.rising p A there)
      go (inr w) = h.sound.rising o w

  closed : (q : ℕ) (C : State) (o : Op) → IsReplicaAt after q C → IsMadeOp after o → has_id o.id C.ops ≡ true → AreIn o.deps C.ops
  closed q C o e m k = go (stands q C e) (made_before o m)
    where
      comes : IsMadeOp N o → (c : Comes New A o.id) → New c.op ⊎ Contains A.recv c.op → AreIn o.deps B.ops
      comes w c (inl n) = absurd (new_apart c.op o n w (sym c.is))
      comes w c (inr r) =
          let s : c.op ≡ o = h.sound.one_each c.op o (h.received p A c.op there r) w c.is in
          λ j d. g.kept j (c.deps j (subst (λ (x : Op). has_id j x.deps ≡ true) (sym s) d))

      old : IsMadeOp N o → (has_id o.id A.ops ≡ true) ⊎ Comes New A o.id → AreIn o.deps B.ops
      old w (inl n) = λ j d. g.kept j (h.closed p A o there w n j d)
      old w (inr c) = comes w c c.from

      in_new : New o ⊎ IsMadeOp N o → has_id o.id B.ops ≡ true → AreIn o.deps B.ops
      in_new (inl n) f = λ j d. g.kept j (subst (λ s. has_id j s ≡ true) ((g.new o n).deps) d)
      in_new (inr w) f = old w (g.ops o.id f)

      elsewhere : IsReplicaAt N q C → New o ⊎ IsMadeOp N o → AreIn o.deps C.ops
      elsewhere f (inl n) = let x = h.applied q C o.id f k in absurd (new_apart o x.0 n (held_made q C x.0 f x.1) x.2)
      elsewhere f (inr w) = h.closed q C o f w k

      go : Stands q C → New o ⊎ IsMadeOp N o → AreIn o.deps C.ops
      go (moved s f) w = subst (λ (D : State). AreIn o.deps D.ops) (sym f) (in_new w (subst (λ (D : State). has_id o.id D.ops ≡ true) f k))
      go (stayed f) w = elsewhere f w

  counted : (o : Op) → IsMadeOp after o → 1 ≤ o.id.counter
  counted o m = go (made_before o m)
    where
      go : New o ⊎ IsMadeOp N o → 1 ≤ o.id.counter
      go (inl n) = let c : o.id.counter ≡ greatest A.ops + 1 = (g.new o n).counter in omega (arith, c)
      go (inr w) = h.sound.counted o w

  one_each : (o e : Op) → IsMadeOp after o → IsMadeOp after e → o.id ≡ e.id → o ≡ e
  one_each o e m k s = go (made_before o m) (made_before e k)
    where
      go : New o ⊎ IsMadeOp N o → New e ⊎ IsMadeOp N e → o ≡ e
      go (inl n) (inl l) = g.one_new o e n l
      go (inl n) (inr w) = absurd (new_apart o e n w (sym s))
      go (inr w) (inl l) = absurd (new_apart e o l w s)
      go (inr w) (inr v) = h.sound.one_each o e w v s

  deps : (o : Op) → IsMadeOp after o → (i : Id) → has_id i o.deps ≡ true → (e : Op) × IsMadeOp after e × (e.id ≡ i) × IsDependency e o
  deps o m i d = go (made_before o m)
    where
      new : New o → (x : (e : Op) × (Contains A.queue e ⊎ Contains A.recv e) × (e.id ≡ i)) → has_id i A.ops ≡ true → (e : Op) × IsMadeOp after e × (e.id ≡ i) × IsDependency e o
      new n x f =
          let w : IsMadeOp N x.0 = held_made p A x.0 there x.1 in
          let c : o.id.counter ≡ greatest A.ops + 1 = (g.new o n).counter in
          let b : i.counter ≤ greatest A.ops = member_greatest i A.ops f in
          let s : x.0.id.counter ≡ i.counter = ap (λ (j : Id). j.counter) x.2 in
          let there_ : has_id x.0.id A.ops ≡ true = subst (λ j. has_id j A.ops ≡ true) (sym x.2) f in
          let is : o.deps ≡ A.ops = (g.new o n).deps in
          (x.0, made_still x.0 w, x.2, record { earlier = omega (arith, c, b, s); closed = λ j e. subst (λ t. has_id j t ≡ true) (sym is) (h.closed p A x.0 there w there_ j e) })

      go : New o ⊎ IsMadeOp N o → (e : Op) × IsMadeOp after e × (e.id ≡ i) × IsDependency e o
      go (inl n) = let f : has_id i A.ops ≡ true = subst (λ t. has_id i t ≡ true) ((g.new o n).deps) d in new n (h.applied p A i there f) f
      go (inr w) = let x = h.sound.closed o w i d in (x.0, made_still x.0 x.1, x.2, x.3)

  in_order : (e o : Op) → IsMadeOp after e → IsMadeOp after o → e.id.replica ≡ o.id.replica → e.id.counter < o.id.counter → has_id e.id o.deps ≡ true
  in_order e o m k s l = go (made_before e m) (made_before o k)
    where
      go : New e ⊎ IsMadeOp N e → New o ⊎ IsMadeOp N o → has_id e.id o.deps ≡ true
      go (inl n) (inl j) =
          let c : e.id.counter ≡ greatest A.ops + 1 = (g.new e n).counter in
          let d : o.id.counter ≡ greatest A.ops + 1 = (g.new o j).counter in
          absurd (omega (arith, c, d, l))
      go (inl n) (inr w) =
          let c : e.id.counter ≡ greatest A.ops + 1 = (g.new e n).counter in
          let r : o.id.replica ≡ p = sym s ∙ (g.new e n).replica in
          let b : o.id.counter ≤ greatest A.ops = member_greatest o.id A.ops ((h.own p A o there (own_made o w r)).1) in
          absurd (omega (arith, c, b, l))
      go (inr w) (inl j) =
          let r : e.id.replica ≡ p = s ∙ (g.new o j).replica in
          let is : o.deps ≡ A.ops = (g.new o j).deps in
          subst (λ t. has_id e.id t ≡ true) (sym is) ((h.own p A e there (own_made e w r)).1)
      go (inr w) (inr v) = h.sound.in_order e o w v s l

  pub sets_after : HasSoundOps after
  sets_after =
      record {
        own = own;
        sent = sent;
        received = received;
        applied = applied;
        rising = rising;
        closed = closed;
        sound = record { counted = counted; one_each = one_each; rising = deps_rise; closed = deps; in_order = in_order };
      }
