-- Lemmas about RunInvariant: a step keeps it.
use Rattle.std.proofs.Common.{◌≡◌, ◌≢◌, ℕ, zero, suc, ◌+◌, ◌≤◌, List, [], ◌∷◌, Option, Some, None, Bool, true, false, Contains, ◌⊎◌, inl, inr, slice_get, slice_set, refl, sym, ◌∙◌, ap, subst, arith}
use Rattle.std.specs.List.{AllByRecursion}
use Rattle.std.proofs.lemmas.Option.{same_Some}
use Rattle.jc_rules.specs.declared.id.Id.{Id}
use Rattle.jc_rules.specs.declared.key.Key.TheVariants.{Elem}
use Rattle.jc_rules.specs.declared.operation.Op.{Op}
use Rattle.jc_rules.specs.declared.operation.Event.{Event}
use Rattle.jc_rules.specs.declared.operation.Event.TheVariants as E
use Rattle.jc_rules.specs.Ids.{has_id, with_id, greatest, AreIn}
use Rattle.jc_rules.specs.Context.{Context}
use Rattle.jc_rules.specs.Sound.{IsInsert}
use Rattle.jc_rules.specs.State.{State, Bound}
use Rattle.jc_rules.specs.Syntax.{Cmd}
use Rattle.jc_rules.specs.Derivation.{Operate, ToContext}
use Rattle.jc_rules.specs.Table.{with_op, both, bind}
use Rattle.jc_rules.specs.Refused.{IsAnswered}
use Rattle.jc_rules.specs.Step.{Step, replica_of, read_by, send_of}
use Rattle.jc_rules.proofs.OrderLemmas.{names_total, exact_names}
use Rattle.jc_rules.proofs.EntriesLemmas.{values-put}
use Rattle.jc_network.specs.LinksEverywhere.{Reach}
use Rattle.jc_network.specs.Rooted.{IsListPath, IsRootedCursor, IsRootedBound}
use Rattle.jc_network.specs.RunInvariant.{IsReplicaAt, IsMadeOp, IsKnown, IsWell}
use Rattle.jc_network.proofs.LinksKeptLemmas.{Operates, operates}
use Rattle.jc_network.proofs.CursorsLemmas.{evaluated}
use Rattle.jc_network.proofs.MembersLemmas.{none_in, in_with, still_with, now_with, in_both, still_both, op_in, in_with_id, still_with_id, now_with_id}
use Rattle.jc_network.proofs.RootedLemmas.{cursor_still, vars_still, tree_still, tree_after, reached_listed}
use Rattle.jc_network.proofs.EventDidLemmas.{new_op, Did, bound, made, sent, received, took, applied, done, did}
use Rattle.jc_rules.proofs.IdsLemmas.{with-rises}
use Rattle.jc_network.proofs.HeldSetsLemmas.{IsNew, Comes, Grows, Stands, moved, stayed, stands, new_unapplied, made_before, made_still, made_now, sets_after}
use Rattle.jc_rules.proofs.IdSetLemmas.{member_greatest}

module _ (N : List State) (p : ℕ) (A B : State) (New : Op → Type 0) (there : IsReplicaAt N p A) (w : IsWell N) (g : Grows (IsMadeOp N) New p A B)
    (cursors : (x : Op) → New x → IsRootedCursor (IsMadeOp N) A.ops x.cursor)
    (lists : (x : Op) → New x → IsInsert x.mutation → IsListPath x.cursor.path)
    (known : IsKnown (IsMadeOp (slice_set N p B)) B)
    (links : (o : Op) → IsMadeOp (slice_set N p B) o → has_id o.id B.ops ≡ true → IsInsert o.mutation → Reach B.tree o.cursor.path (Elem o.id)) where
  abbrev after : List State
  after = slice_set N p B

  was : (x : Op) → IsMadeOp after x → New x ⊎ IsMadeOp N x
  was = made_before N p A B New there w.sets g

  still : (x : Op) → IsMadeOp N x → IsMadeOp after x
  still = made_still N p A B New there w.sets g

  rooted : (o : Op) → IsMadeOp after o → IsRootedCursor (IsMadeOp after) o.deps o.cursor
  rooted o m = go (was o m)
    where
      go : New o ⊎ IsMadeOp N o → IsRootedCursor (IsMadeOp after) o.deps o.cursor
      go (inl n) = cursor_still (IsMadeOp N) (IsMadeOp after) A.ops o.deps still (λ i d. subst (λ s. has_id i s ≡ true) (sym (g.new o n).deps) d) o.cursor (cursors o n)
      go (inr v) = cursor_still (IsMadeOp N) (IsMadeOp after) o.deps o.deps still (λ i d. d) o.cursor (w.trees.rooted o v)

  listed : (o : Op) → IsMadeOp after o → IsInsert o.mutation → IsListPath o.cursor.path
  listed o m is = go (was o m)
    where
      go : New o ⊎ IsMadeOp N o → IsListPath o.cursor.path
      go (inl n) = lists o n is
      go (inr v) = w.trees.listed o v is

  known_after : (q : ℕ) (C : State) → IsReplicaAt after q C → IsKnown (IsMadeOp after) C
  known_after q C e = go (stands N p A B New there w.sets g q C e)
    where
      kept : IsKnown (IsMadeOp N) C → IsKnown (IsMadeOp after) C
      kept k = record { tree = tree_still (IsMadeOp N) (IsMadeOp after) C.ops C.ops still (λ i d. d) C.tree k.tree; vars = vars_still (IsMadeOp N) (IsMadeOp after) C.ops C.ops still (λ i d. d) C.vars k.vars }

      go : Stands N p A B New there w.sets g q C → IsKnown (IsMadeOp after) C
      go (moved s f) = subst (λ (D : State). IsKnown (IsMadeOp after) D) (sym f) known
      go (stayed f) = kept (w.trees.known q C f)

  linked : (q : ℕ) (C : State) (o : Op) → IsReplicaAt after q C → IsMadeOp after o → has_id o.id C.ops ≡ true → IsInsert o.mutation → Reach C.tree o.cursor.path (Elem o.id)
  linked q C o e m k is = go (stands N p A B New there w.sets g q C e) (was o m)
    where
      go : Stands N p A B New there w.sets g q C → New o ⊎ IsMadeOp N o → Reach C.tree o.cursor.path (Elem o.id)
      go (moved s f) v = subst (λ (D : State). Reach D.tree o.cursor.path (Elem o.id)) (sym f) (links o m (subst (λ (D : State). has_id o.id D.ops ≡ true) f k) is)
      go (stayed f) (inl n) = absurd (new_unapplied N p A B New there w.sets g q C o f n k)
      go (stayed f) (inr v) = w.trees.linked q C o f v k is

  pub well_after : IsWell after
  well_after = record { sets = sets_after N p A B New there w.sets g; trees = record { rooted = rooted; listed = listed; known = known_after; linked = linked } }

-- nothing is made
abbrev Nothing : Op → Type 0
Nothing x = ⊥

-- ---- neither tree nor ops change

module _ (N : List State) (p : ℕ) (A : State) (l : List Cmd) (a : Bool) (v : List (List ℕ × Bound)) (s r : List Op) (there : IsReplicaAt N p A) (w : IsWell N)
    (sends : (x : Op) → Contains s x → Contains A.send x ⊎ Contains A.queue x)
    (recvs : (x : Op) → Contains r x → Contains A.recv x ⊎ IsMadeOp N x)
    (keeps : (x : Op) → Contains A.recv x → Contains r x)
    (vars : AllByRecursion (λ b. IsRootedBound (IsMadeOp N) A.ops b.1) v) where
  abbrev quiet : State
  quiet = record A { left = l; acted = a; vars = v; send = s; recv = r }

  quiet_grows : Grows (IsMadeOp N) Nothing p A quiet
  quiet_grows =
      record {
        queue = λ x k. inr k;
        more = λ x k. k;
        made = λ x n. absurd n;
        send = sends;
        recv = recvs;
        still = keeps;
        ops = λ i k. inl k;
        kept = λ i k. k;
        rises = λ h. h;
        new = λ x n. absurd n;
        one_new = λ x y n. absurd n;
      }

  pub still_well : IsWell (slice_set N p quiet)
  still_well = well_after N p A quiet Nothing there w quiet_grows (λ x n. absurd n) (λ x n. absurd n) known links
    where
      known : IsKnown (IsMadeOp (slice_set N p quiet)) quiet
      known =
          let more = made_still N p A quiet Nothing there w.sets quiet_grows in
          record {
            tree = tree_still (IsMadeOp N) (IsMadeOp (slice_set N p quiet)) A.ops A.ops more (λ i d. d) A.tree (w.trees.known p A there).tree;
            vars = vars_still (IsMadeOp N) (IsMadeOp (slice_set N p quiet)) A.ops A.ops more (λ i d. d) v vars;
          }

      links : (o : Op) → IsMadeOp (slice_set N p quiet) o → has_id o.id A.ops ≡ true → IsInsert o.mutation → Reach A.tree o.cursor.path (Elem o.id)
      links o m k is = go (made_before N p A quiet Nothing there w.sets quiet_grows o m)
        where
          go : Nothing o ⊎ IsMadeOp N o → Reach A.tree o.cursor.path (Elem o.id)
          go (inl n) = absurd n
          go (inr x) = w.trees.linked p A o there x k is

-- ---- an operation is applied

module _ (N : List State) (p : ℕ) (A : State) (l : List Cmd) (a : Bool) (u : List Op) (o : Op) (t : Context) (New : Op → Type 0) (there : IsReplicaAt N p A) (w : IsWell N)
    (g : Grows (IsMadeOp N) New p A (record A { left = l; acted = a; tree = t; queue = u; ops = with_id o.id A.ops }))
    (cursors : (x : Op) → New x → IsRootedCursor (IsMadeOp N) A.ops x.cursor)
    (lists : (x : Op) → New x → IsInsert x.mutation → IsListPath x.cursor.path)
    (now : IsMadeOp (slice_set N p (record A { left = l; acted = a; tree = t; queue = u; ops = with_id o.id A.ops })) o)
    (s : IsAnswered (Operate A.tree o) (ToContext t)) where
  abbrev changed : State
  changed = record A { left = l; acted = a; tree = t; queue = u; ops = with_id o.id A.ops }

  pub applied_well : IsWell (slice_set N p changed)
  applied_well = well_after N p A changed New there w g cursors lists known links
    where
      known : IsKnown (IsMadeOp (slice_set N p changed)) changed
      known =
          let more = made_still N p A changed New there w.sets g in
          let old = w.trees.known p A there in
          record {
            tree = tree_after (IsMadeOp N) (IsMadeOp (slice_set N p changed)) A.ops more o now A.tree t old.tree s;
            vars = vars_still (IsMadeOp N) (IsMadeOp (slice_set N p changed)) A.ops (with_id o.id A.ops) more (λ i d. still_with_id i o.id A.ops d) A.vars old.vars;
          }

      links : (x : Op) → IsMadeOp (slice_set N p changed) x → has_id x.id (with_id o.id A.ops) ≡ true → IsInsert x.mutation → Reach t x.cursor.path (Elem x.id)
      links x m k is = go (in_with_id x.id o.id A.ops k) (made_before N p A changed New there w.sets g x m)
        where
          did_it : Operates o.id o.cursor.path o.cursor.last o.mutation A.tree t
          did_it = operates A.tree o t s

          go : (x.id ≡ o.id) ⊎ (has_id x.id A.ops ≡ true) → New x ⊎ IsMadeOp N x → Reach t x.cursor.path (Elem x.id)
          go (inl e) y =
              let same : o ≡ x = (sets_after N p A changed New there w.sets g).sound.one_each o x now m (sym e) in
              subst (λ (z : Op). Reach t z.cursor.path (Elem z.id)) same (did_it.own (subst (λ (z : Op). IsInsert z.mutation) (sym same) is))
          go (inr d) (inl n) = absurd (new_unapplied N p A changed New there w.sets g p A x there n d)
          go (inr d) (inr v) = did_it.reach x.cursor.path (Elem x.id) (w.trees.linked p A x there v d is)

-- ---- each event

module _ (N : List State) (p : ℕ) (A : State) (there : IsReplicaAt N p A) (w : IsWell N) where
  old_known : IsKnown (IsMadeOp N) A
  old_known = w.trees.known p A there

  -- a variable is bound
  bound_well : (rest : List Cmd) (x : List ℕ) (b : Bound) → IsRootedBound (IsMadeOp N) A.ops b → IsWell (slice_set N p (record A { left = rest; vars = bind x b A.vars }))
  bound_well rest x b h = still_well N p A rest A.acted (bind x b A.vars) A.send A.recv there w (λ o k. inl k) (λ o k. inl k) (λ o k. k) (values-put names_total exact_names (IsRootedBound (IsMadeOp N) A.ops) x b A.vars h old_known.vars)

  sent_well : IsWell (slice_set N p (record A { acted = true; send = both A.send A.queue }))
  sent_well = still_well N p A A.left true A.vars (both A.send A.queue) A.recv there w (λ o k. in_both A.send A.queue o k) (λ o k. inl k) (λ o k. k) old_known.vars

  received_well : (read : List Op) → ((x : Op) → Contains read x → IsMadeOp N x) → IsWell (slice_set N p (record A { acted = true; recv = both A.recv read }))
  received_well read h = still_well N p A A.left true A.vars A.send (both A.recv read) there w (λ o k. inl k) (λ o k. from o (in_both A.recv read o k)) (λ o k. still_both A.recv read o k) old_known.vars
    where
      from : (o : Op) → Contains A.recv o ⊎ Contains read o → Contains A.recv o ⊎ IsMadeOp N o
      from o (inl k) = inl k
      from o (inr k) = inr (h o k)

  done_well : (rest : List Cmd) → IsWell (slice_set N p (record A { left = rest; acted = false }))
  done_well rest = still_well N p A rest false A.vars A.send A.recv there w (λ o k. inl k) (λ o k. inl k) (λ o k. k) old_known.vars

  remote_well : (o : Op) (t : Context) → Contains A.recv o → AreIn o.deps A.ops → IsAnswered (Operate A.tree o) (ToContext t) → IsWell (slice_set N p (record A { acted = true; tree = t; ops = with_id o.id A.ops }))
  remote_well o t k deps s = applied_well N p A A.left true A.queue o t Nothing there w grows (λ x n. absurd n) (λ x n. absurd n) (made_still N p A _ Nothing there w.sets grows o (w.sets.received p A o there k)) s
    where
      ops : (i : Id) → (i ≡ o.id) ⊎ (has_id i A.ops ≡ true) → (has_id i A.ops ≡ true) ⊎ Comes Nothing A i
      ops i (inl e) = inr (record { op = o; from = inr k; is = sym e; deps = deps })
      ops i (inr e) = inl e

      grows : Grows (IsMadeOp N) Nothing p A (record A { acted = true; tree = t; ops = with_id o.id A.ops })
      grows =
          record {
            queue = λ x k. inr k;
            more = λ x k. k;
            made = λ x n. absurd n;
            send = λ x k. inl k;
            recv = λ x k. inl k;
            still = λ x k. k;
            ops = λ i k. ops i (in_with_id i o.id A.ops k);
            kept = λ i k. still_with_id i o.id A.ops k;
            rises = λ h. with-rises o.id A.ops h;
            new = λ x n. absurd n;
            one_new = λ x y n. absurd n;
          }

  local_well : (rest : List Cmd) (o : Op) (t : Context) → o.id.counter ≡ greatest A.ops + 1 → o.id.replica ≡ p → o.deps ≡ A.ops → IsRootedCursor (IsMadeOp N) A.ops o.cursor → IsAnswered (Operate A.tree o) (ToContext t)
      → IsWell (slice_set N p (record A { left = rest; tree = t; queue = with_op o A.queue; ops = with_id o.id A.ops }))
  local_well rest o t counter replica deps cur s = applied_well N p A rest A.acted (with_op o A.queue) o t (λ x. o ≡ x) there w grows cursors lists (made_now N p A _ (λ x. o ≡ x) there w.sets grows o refl) s
    where
      fresh : (x : Op) → Contains A.queue x → x.id ≢ o.id
      fresh x k e =
          let b : x.id.counter ≤ greatest A.ops = member_greatest x.id A.ops ((w.sets.own p A x there k).1) in
          let c : x.id.counter ≡ o.id.counter = ap (λ (j : Id). j.counter) e in
          omega (arith, b, c, counter)

      ops : (i : Id) → (i ≡ o.id) ⊎ (has_id i A.ops ≡ true) → (has_id i A.ops ≡ true) ⊎ Comes (λ x. o ≡ x) A i
      ops i (inl e) = inr (record { op = o; from = inl refl; is = sym e; deps = λ j d. subst (λ z. has_id j z ≡ true) deps d })
      ops i (inr e) = inl e

      is_new : IsNew p A (record A { left = rest; tree = t; queue = with_op o A.queue; ops = with_id o.id A.ops }) o
      is_new = record { counter = counter; replica = replica; deps = deps; applied = now_with_id o.id A.ops }

      grows : Grows (IsMadeOp N) (λ x. o ≡ x) p A (record A { left = rest; tree = t; queue = with_op o A.queue; ops = with_id o.id A.ops })
      grows =
          record {
            queue = λ x k. in_with o A.queue x k;
            more = λ x k. still_with o A.queue x k;
            made = λ x n. subst (λ (y : Op). Contains (with_op o A.queue) y) n (now_with o A.queue fresh);
            send = λ x k. inl k;
            recv = λ x k. inl k;
            still = λ x k. k;
            ops = λ i k. ops i (in_with_id i o.id A.ops k);
            kept = λ i k. still_with_id i o.id A.ops k;
            rises = λ h. with-rises o.id A.ops h;
            new = λ x n. subst (λ (y : Op). IsNew p A (record A { left = rest; tree = t; queue = with_op o A.queue; ops = with_id o.id A.ops }) y) n is_new;
            one_new = λ x y m n. sym m ∙ n;
          }

      cursors : (x : Op) → o ≡ x → IsRootedCursor (IsMadeOp N) A.ops x.cursor
      cursors x e = subst (λ (y : Op). IsRootedCursor (IsMadeOp N) A.ops y.cursor) e cur

      lists : (x : Op) → o ≡ x → IsInsert x.mutation → IsListPath x.cursor.path
      lists x e = subst (λ (y : Op). IsInsert y.mutation → IsListPath y.cursor.path) e (λ is. reached_listed (IsMadeOp N) A.ops o.cursor.path A.tree o.cursor.last old_known.tree ((operates A.tree o t s).wants is))

reads_made : (N : List State) (event : Event) (read : List Op) → IsWell N → read_by event N ≡ Some read → (x : Op) → Contains read x → IsMadeOp N x
reads_made N (E.Recv p q) read w e x k = go (slice_get N q) refl e
  where
    go : (o : Option State) → slice_get N q ≡ o → send_of o ≡ Some read → IsMadeOp N x
    go None f g = cc
    go (Some C) f g = (w.sets.sent q C x f (subst (λ s. Contains s x) (sym (same_Some C.send read g)) k)).1
reads_made N (E.Take p q i) read w e x k = go (slice_get N q) refl e
  where
    go : (o : Option State) → slice_get N q ≡ o → send_of o ≡ Some read → IsMadeOp N x
    go None f g = cc
    go (Some C) f g = (w.sets.sent q C x f (subst (λ s. Contains s x) (sym (same_Some C.send read g)) k)).1
reads_made N _ read w e x k = none_in x (subst (λ s. Contains s x) (sym (same_Some [] read e)) k)

-- the one of a list of one
one_is : (x o : Op) → Contains (o ∷ []) x → o ≡ x
one_is x o (zero, l, e) = e
one_is x o (suc n, l, e) = absurd (omega (arith, l))

did_well : (N : List State) (p : ℕ) (A : State) (event : Event) (read : List Op) (B : State) → IsReplicaAt N p A → IsWell N → ((x : Op) → Contains read x → IsMadeOp N x) → replica_of event ≡ p → Did A event read B → IsWell (slice_set N p B)
did_well N p A event read B there w reads r (bound q rest x e b is left s new) = subst (λ (D : State). IsWell (slice_set N p D)) (sym new) (bound_well N p A there w rest x b (evaluated (IsMadeOp N) A e b (old_known N p A there w) s))
did_well N p A event read B there w reads r (made q rest c e cur m t is left s op new) =
    let same : q ≡ p = sym (ap replica_of is) ∙ r in
    subst (λ (D : State). IsWell (slice_set N p D)) (sym new) (local_well N p A there w rest (new_op q A cur m) t refl same refl (evaluated (IsMadeOp N) A e _ (old_known N p A there w) s) op)
did_well N p A event read B there w reads r (sent q rest is left new) = subst (λ (D : State). IsWell (slice_set N p D)) (sym new) (sent_well N p A there w)
did_well N p A event read B there w reads r (received q from rest is left new) = subst (λ (D : State). IsWell (slice_set N p D)) (sym new) (received_well N p A there w read reads)
did_well N p A event read B there w reads r (took q from i rest o is left found new) =
    let m : IsMadeOp N o = reads o (op_in i read o found).0 in
    subst (λ (D : State). IsWell (slice_set N p D)) (sym new) (received_well N p A there w (o ∷ []) (λ x k. subst (IsMadeOp N) (one_is x o k) m))
did_well N p A event read B there w reads r (applied q i rest o t is left found new deps op new_state) =
    let x = op_in i A.recv o found in
    let f : B ≡ record A { acted = true; tree = t; ops = with_id o.id A.ops } = new_state ∙ ap (λ j. record A { acted = true; tree = t; ops = with_id j A.ops }) (sym x.1) in
    subst (λ (D : State). IsWell (slice_set N p D)) (sym f) (remote_well N p A there w o t x.0 deps op)
did_well N p A event read B there w reads r (done q rest is left new) = subst (λ (D : State). IsWell (slice_set N p D)) (sym new) (done_well N p A there w rest)

-- a step leads from a network that is well to one that is
pub step_well : (N : List State) (event : Event) (M : List State) (rows : _) → IsWell N → Step N event M rows → IsWell M
step_well N event M rows w s =
    subst IsWell (sym s.is_new)
    (did_well N (replica_of event) s.before event s.read s.after s.is_there w (reads_made N event s.read w s.reads) refl
    (did s.before event s.read s.after (record { derivation = s.derivation; holds = s.holds; concludes = s.concludes })))
