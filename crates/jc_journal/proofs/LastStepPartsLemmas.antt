-- About EventLine: what the last step of a network did gives the parts of its event's line.
use Rattle.std.proofs.Common.{◌≡◌, ℕ, ◌+◌, ◌<◌, ◌≤◌, max, eqb, eqb-true, ◌⊎◌, inl, inr, List, [], ◌∷◌, ◌++◌, Bool, true, false, IfSome, IfNone, filter, length, length-append, eq-eqb, map, slice_get, slice_set, Option, Some, None, codes, refl, sym, ◌∙◌, ap, subst, arith}
use Rattle.std.specs.Option.{option_map}
use Rattle.std.proofs.lemmas.Option.{same_Some, slice_get-map}
use Rattle.json.specs.Json.{string}
use Rattle.jc_rules.specs.declared.id.Id.{Id}
use Rattle.jc_rules.specs.declared.operation.Event.{Event}
use Rattle.jc_rules.specs.declared.operation.Event.TheVariants as E
use Rattle.jc_rules.specs.declared.operation.Op.{Op}
use Rattle.jc_rules.specs.declared.rule.Rule.{Rule}
use Rattle.jc_rules.specs.History.{History}
use Rattle.jc_rules.specs.Ids.{has_id, with_id, greatest, without}
use Rattle.jc_rules.specs.Order.{same_id}
use Rattle.jc_rules.specs.State.{State}
use Rattle.jc_rules.specs.Step.{Network, Step, StepIn, replica_of}
use Rattle.jc_rules.specs.Syntax.{Cmd, LetIn, Yield}
use Rattle.jc_rules.specs.Table.{op_of}
use Rattle.jc_rules.specs.VersionVectors.{covered, greatest_of}
use Rattle.jc_rules.proofs.CoveredLemmas.{filled_in, greatest_here, greatest_of-filled, greatest_of-with}
use Rattle.jc_rules.proofs.IdSetLemmas.{greatest_of_below}
use Rattle.jc_rules.proofs.RepresentationLemmas.{counters_tell, looked_up}
use Rattle.jc_syntax.specs.Trees.{cmd_of}
use Rattle.jc_printer.specs.Canon.{canon_cmd}
use Rattle.jc_vectors.specs.StoredStates.{stored_op, stored_state}
use Rattle.jc_replica.specs.declared.last_step.LastStep.{LastStep}
use Rattle.jc_replica.specs.declared.last_step.LastStep.TheVariants as L
use Rattle.jc_replica.specs.Invariant.{IsGreatest}
use Rattle.jc_replica.specs.LastStep.{IsLastStep}
use Rattle.jc_replica.specs.NextCommand.{IsMaking, IsLet}
use Rattle.jc_replica.specs.Operations.{identifiers}
use Rattle.jc_replica.specs.Received.{is_new}
use Rattle.jc_replica.proofs.ReceivedNewLemmas.{new_without, none_new}
use Rattle.jc_network.specs.Laws.{ops_held}
use Rattle.jc_network.specs.RunInvariant.{IsReplicaAt, IsMadeOp, IsWell}
use Rattle.jc_network.proofs.RunInvariantStartLemmas.{sound}
use Rattle.jc_meaning.proofs.ComparisonLemmas.{held_has, run_well, stands_held}
use Rattle.jc_network.specs.Invariant.{IsFromStart}
use Rattle.jc_network.specs.LastStep.{NetHasLastStep}
use Rattle.jc_network.proofs.AppliedIdsLemmas.{kept_ids}
use Rattle.jc_network.proofs.EventDidLemmas.{Did, bound, made, sent, received, took, applied, done, did}
use Rattle.jc_network.proofs.MembersLemmas.{op_in, set_there, set_other}
use Rattle.jc_journal.specs.Operation.{NamedJson}
use Rattle.jc_journal.specs.EventLine.{IsBeforeLast, command_text, command_member, new_ids, event_op}
use Rattle.jc_journal.specs.Parts.{step_command, step_new, step_op}

-- what the step did gives the parts of the line
pub record HasParts (event : Event) (A B : State) (step : Option LastStep) : Type 0 where
  pub command : step_command step ≡ command_member event A
  pub new : step_new step ≡ new_ids event A B
  pub op : step_op step ≡ option_map stored_op (event_op event A B)

-- ---- what can't be both

no_more : {X : Type 0} (xs : List X) (x : X) → xs ≡ x ∷ xs → ⊥
no_more xs x e = let l = ap length e in absurd (omega (arith, l))

-- the same version vector has no identifier added
not_added : (i : Id) (ops new : List Id) → new ≡ ops → IsGreatest i (greatest_of i.replica ops) new → ⊥
not_added i ops new e g =
    let same : greatest_of i.replica new ≡ greatest_of i.replica ops = ap (greatest_of i.replica) e in
    absurd (omega (arith, same, g.greatest, g.lower))

-- with a greater counter it is another one
greater_with : (i : Id) (s : List Id) → greatest_of i.replica s < i.counter → covered (with_id i s) ≡ covered s → ⊥
greater_with i s l e =
    let same : greatest_of i.replica (covered (with_id i s)) ≡ greatest_of i.replica (covered s) = ap (greatest_of i.replica) e in
    let more = greatest_of-filled i.replica (with_id i s) ∙ greatest_of-with i.replica i s ∙ greatest_here i s i.replica refl in
    let less = greatest_of-filled i.replica s in
    absurd (omega (arith, same, more, less, l))

made_greater : (p : ℕ) (s : List Id) → covered (with_id (record { counter = greatest s + 1; replica = p }) s) ≡ covered s → ⊥
made_greater p s e = greater_with (record { counter = greatest s + 1; replica = p }) s (let l = greatest_of_below p s in omega (arith, l)) e

-- the identifier that was added is the one that is greatest now
added_is : (i j : Id) (s : List Id) → IsGreatest j (greatest_of j.replica (covered s)) (covered (with_id i s)) → j ≡ i
added_is i j s g = go (eqb i.replica j.replica) refl
  where
    now : greatest_of j.replica (i ∷ s) ≡ j.counter
    now = sym (greatest_of-filled j.replica (with_id i s) ∙ greatest_of-with j.replica i s) ∙ g.greatest

    was : greatest_of j.replica (covered s) ≡ greatest_of j.replica s
    was = greatest_of-filled j.replica s

    go : (b : Bool) → eqb i.replica j.replica ≡ b → j ≡ i
    go false e =
        let same : greatest_of j.replica s ≡ j.counter = rw e at now in
        absurd (omega (arith, same, was, g.lower))
    go true e =
        let own : i.replica ≡ j.replica = eqb-true i.replica j.replica e in
        let most : max i.counter (greatest_of j.replica s) ≡ j.counter = sym (greatest_here i s j.replica own) ∙ now in
        let counter : j.counter ≡ i.counter = omega (arith, most, was, g.lower) in
        λ n. record { counter = counter n; replica = sym own n }

-- ---- of stored operations

-- those that are new, of the states and as they are stored
new_kept : (os ps : List Op) → identifiers (filter (is_new (map stored_op os)) (map stored_op ps)) ≡ without (identifiers ps) (identifiers os)
new_kept os ps = new_without (map stored_op os) (map stored_op ps) ∙ (λ n. without (kept_ids ps n) (kept_ids os n))

-- nothing is new in the same list
same_kept : (os ps : List Op) → map stored_op ps ≡ map stored_op os → without (identifiers ps) (identifiers os) ≡ []
same_kept os ps e = sym (new_kept os ps) ∙ ap (λ (xs : List Op). identifiers (filter (is_new (map stored_op os)) xs)) e ∙ ap identifiers (none_new (map stored_op os))

filter_kept : (os ps : List Op) → filter (is_new (map stored_op os)) (map stored_op ps) ≡ map stored_op (filter (is_new os) ps)
filter_kept os [] = refl
filter_kept os (p ∷ ps) = go (has_id p.id (identifiers os)) refl (filter_kept os ps)
  where
    go : (b : Bool) → has_id p.id (identifiers os) ≡ b → filter (is_new (map stored_op os)) (map stored_op ps) ≡ map stored_op (filter (is_new os) ps) → filter (is_new (map stored_op os)) (map stored_op (p ∷ ps)) ≡ map stored_op (filter (is_new os) (p ∷ ps))
    go true e ih = let f : has_id p.id (identifiers (map stored_op os)) ≡ true = ap (has_id p.id) (kept_ids os) ∙ e in rw (f, e) ih
    go false e ih = let f : has_id p.id (identifiers (map stored_op os)) ≡ false = ap (has_id p.id) (kept_ids os) ∙ e in rw (f, e) (ap (λ (xs : List Op). stored_op p ∷ xs) ih)

found_kept : (i : Id) (os : List Op) (o : Op) → op_of i os ≡ Some o → op_of i (map stored_op os) ≡ Some (stored_op o)
found_kept i [] o h = cc
found_kept i (p ∷ os) o h = go (same_id i p.id) refl (found_kept i os o)
  where
    go : (b : Bool) → same_id i p.id ≡ b → (op_of i os ≡ Some o → op_of i (map stored_op os) ≡ Some (stored_op o)) → op_of i (map stored_op (p ∷ os)) ≡ Some (stored_op o)
    go true e ih = let found : Some p ≡ Some o = rw e at h in let is : p ≡ o = same_Some p o found in rw e (ap (λ (x : Op). Some (stored_op x)) is)
    go false e ih = rw e (ih (rw e at h))

-- ---- the step of each kind of event

abbrev text_of : Cmd → List NamedJson
text_of c = (codes "command", string (canon_cmd c)) ∷ []

same_text : (p : ℕ) (A : State) (c : Cmd) (rest : List Cmd) → A.left ≡ c ∷ rest → text_of c ≡ command_member (E.Exec p) A
same_text p A c rest l = ap (λ (cs : List Cmd). (codes "command", string (command_text cs)) ∷ []) (sym l)

module _ (A B : State) where
  abbrev K : State
  K = stored_state A

  abbrev M : State
  M = stored_state B

  -- a command that binds a variable
  bound_parts : (p : ℕ) (x : List ℕ) (e : _) (rest : List Cmd) → A.left ≡ LetIn x e ∷ rest → B.left ≡ rest → B.queue ≡ A.queue → (step : LastStep) → IsLastStep K M step → HasParts (E.Exec p) A B (Some step)
  bound_parts p x e rest l n q (L.Bound c) d =
      let none : slice_get (filter (is_new A.queue) B.queue) 0 ≡ None = ap (λ (os : List Op). slice_get (filter (is_new A.queue) os) 0) q ∙ ap (λ (os : List Op). slice_get os 0) (none_new A.queue) in
      record { command = same_text p A (cmd_of c.now) B.left d.1; new = refl; op = sym (ap (option_map stored_op) none) }
  bound_parts p x e rest l n q (L.Made c o) d =
      let is : cmd_of c.now ≡ LetIn x e = (let both : cmd_of c.now ∷ B.left ≡ LetIn x e ∷ rest = sym d.1 ∙ l in cc) in
      let no : ⊥ = subst IsMaking is d.0 in
      absurd no
  bound_parts p x e rest l n q (L.Sent os) d = absurd (no_more rest (LetIn x e) (sym n ∙ ap (λ (S : State). S.left) d.1 ∙ l))
  bound_parts p x e rest l n q (L.Received is) d = absurd (no_more rest (LetIn x e) (sym n ∙ ap (λ (S : State). S.left) d.1 ∙ l))
  bound_parts p x e rest l n q (L.Applied o) d = absurd (no_more rest (LetIn x e) (sym n ∙ ap (λ (S : State). S.left) d.2 ∙ l))
  bound_parts p x e rest l n q L.Ended d = let both : Yield ∷ B.left ≡ LetIn x e ∷ rest = sym d.0 ∙ l in absurd (let z : ⊥ = cc in z)

  -- one that makes an operation
  made_parts : (p : ℕ) (y : Cmd) (rest : List Cmd) → A.left ≡ y ∷ rest → B.left ≡ rest → B.ops ≡ with_id (record { counter = greatest A.ops + 1; replica = p }) A.ops → (step : LastStep) → IsLastStep K M step → HasParts (E.Exec p) A B (Some step)
  made_parts p y rest l n s (L.Bound c) d = absurd (made_greater p A.ops (sym (ap covered s) ∙ ap (λ (S : State). S.ops) d.2))
  made_parts p y rest l n s (L.Made c o) d =
      let new : slice_get (filter (is_new K.queue) M.queue) 0 ≡ Some o.now = ap (λ (os : List Op). slice_get os 0) d.2 in
      let kept : slice_get (filter (is_new K.queue) M.queue) 0 ≡ option_map stored_op (slice_get (filter (is_new A.queue) B.queue) 0) =
      ap (λ (os : List Op). slice_get os 0) (filter_kept A.queue B.queue) ∙ slice_get-map stored_op (filter (is_new A.queue) B.queue) 0 in
      record { command = same_text p A (cmd_of c.now) B.left d.1; new = refl; op = sym new ∙ kept }
  made_parts p y rest l n s (L.Sent os) d = absurd (no_more rest y (sym n ∙ ap (λ (S : State). S.left) d.1 ∙ l))
  made_parts p y rest l n s (L.Received is) d = absurd (no_more rest y (sym n ∙ ap (λ (S : State). S.left) d.1 ∙ l))
  made_parts p y rest l n s (L.Applied o) d = absurd (no_more rest y (sym n ∙ ap (λ (S : State). S.left) d.2 ∙ l))
  made_parts p y rest l n s L.Ended d = absurd (made_greater p A.ops (sym (ap covered s) ∙ ap (λ (S : State). S.ops) d.1))

  -- operations that are sent
  sent_parts : (p : ℕ) → B.left ≡ A.left → B.ops ≡ A.ops → B.recv ≡ A.recv → (step : LastStep) → IsLastStep K M step → HasParts (E.Send p) A B (Some step)
  sent_parts p l s r (L.Bound c) d = absurd (no_more A.left (cmd_of c.now) (d.1 ∙ ap (λ (xs : List Cmd). cmd_of c.now ∷ xs) l))
  sent_parts p l s r (L.Made c o) d = absurd (no_more A.left (cmd_of c.now) (d.1 ∙ ap (λ (xs : List Cmd). cmd_of c.now ∷ xs) l))
  sent_parts p l s r (L.Sent os) d = record { command = refl; new = ap (λ (is : List Id). Some is) (sym (ap identifiers d.0) ∙ new_kept A.send B.send); op = refl }
  sent_parts p l s r (L.Received is) d =
      let none : is.now ≡ [] = sym d.0 ∙ new_kept A.recv B.recv ∙ same_kept A.recv B.recv (ap (map stored_op) r) in
      let same : without (identifiers B.send) (identifiers A.send) ≡ [] = same_kept A.send B.send (ap (λ (S : State). S.send) d.1) in
      record { command = refl; new = ap (λ (js : List Id). Some js) (none ∙ sym same); op = refl }
  sent_parts p l s r (L.Applied o) d = absurd (not_added o.now.id K.ops M.ops (ap covered s) d.1)
  sent_parts p l s r L.Ended d = absurd (no_more A.left Yield (d.0 ∙ ap (λ (xs : List Cmd). Yield ∷ xs) l))

  -- operations that are received
  came_parts : B.left ≡ A.left → B.ops ≡ A.ops → B.send ≡ A.send → (step : LastStep) → IsLastStep K M step → (step_command (Some step) ≡ []) × (step_new (Some step) ≡ Some (without (identifiers B.recv) (identifiers A.recv))) × (step_op (Some step) ≡ None)
  came_parts l s t (L.Bound c) d = absurd (no_more A.left (cmd_of c.now) (d.1 ∙ ap (λ (xs : List Cmd). cmd_of c.now ∷ xs) l))
  came_parts l s t (L.Made c o) d = absurd (no_more A.left (cmd_of c.now) (d.1 ∙ ap (λ (xs : List Cmd). cmd_of c.now ∷ xs) l))
  came_parts l s t (L.Sent os) d =
      let none : identifiers os.now ≡ [] = sym (ap identifiers d.0) ∙ new_kept A.send B.send ∙ same_kept A.send B.send (ap (map stored_op) t) in
      let same : without (identifiers B.recv) (identifiers A.recv) ≡ [] = same_kept A.recv B.recv (ap (λ (S : State). S.recv) d.1) in
      (refl, ap (λ (js : List Id). Some js) (none ∙ sym same), refl)
  came_parts l s t (L.Received is) d = (refl, ap (λ (js : List Id). Some js) (sym d.0 ∙ new_kept A.recv B.recv), refl)
  came_parts l s t (L.Applied o) d = absurd (not_added o.now.id K.ops M.ops (ap covered s) d.1)
  came_parts l s t L.Ended d = absurd (no_more A.left Yield (d.0 ∙ ap (λ (xs : List Cmd). Yield ∷ xs) l))

  -- an operation that is applied, and was new to the version vector
  applied_parts : (p : ℕ) (i : Id) (o : Op) → op_of i A.recv ≡ Some o → B.left ≡ A.left → B.ops ≡ with_id i A.ops → (covered (with_id i A.ops) ≡ covered A.ops → ⊥) → (step : LastStep) → IsLastStep K M step → HasParts (E.Apply p i) A B (Some step)
  applied_parts p i o found l s new (L.Bound c) d = absurd (no_more A.left (cmd_of c.now) (d.1 ∙ ap (λ (xs : List Cmd). cmd_of c.now ∷ xs) l))
  applied_parts p i o found l s new (L.Made c op) d = absurd (no_more A.left (cmd_of c.now) (d.1 ∙ ap (λ (xs : List Cmd). cmd_of c.now ∷ xs) l))
  applied_parts p i o found l s new (L.Sent os) d = absurd (new (sym (ap covered s) ∙ ap (λ (S : State). S.ops) d.1))
  applied_parts p i o found l s new (L.Received is) d = absurd (new (sym (ap covered s) ∙ ap (λ (S : State). S.ops) d.1))
  applied_parts p i o found l s new (L.Applied op) d =
      let g : IsGreatest op.now.id (greatest_of op.now.id.replica (covered A.ops)) (covered (with_id i A.ops)) = subst (λ (xs : List Id). IsGreatest op.now.id (greatest_of op.now.id.replica (covered A.ops)) (covered xs)) s d.1 in
      let is : op.now.id ≡ i = added_is i op.now.id A.ops g in
      let there : op_of i (map stored_op A.recv) ≡ Some op.now = ap (λ (j : Id). op_of j (map stored_op A.recv)) (sym is) ∙ d.0 in
      record { command = refl; new = refl; op = sym there ∙ found_kept i A.recv o found ∙ sym (ap (option_map stored_op) found) }
  applied_parts p i o found l s new L.Ended d = absurd (no_more A.left Yield (d.0 ∙ ap (λ (xs : List Cmd). Yield ∷ xs) l))

  -- a yield that ends
  ended_parts : (p : ℕ) (rest : List Cmd) → A.left ≡ Yield ∷ rest → B.left ≡ rest → (step : LastStep) → IsLastStep K M step → HasParts (E.Done p) A B (Some step)
  ended_parts p rest l n (L.Bound c) d =
      let is : cmd_of c.now ≡ Yield = (let both : cmd_of c.now ∷ B.left ≡ Yield ∷ rest = sym d.1 ∙ l in cc) in
      let no : ⊥ = subst IsLet is d.0 in
      absurd no
  ended_parts p rest l n (L.Made c o) d =
      let is : cmd_of c.now ≡ Yield = (let both : cmd_of c.now ∷ B.left ≡ Yield ∷ rest = sym d.1 ∙ l in cc) in
      let no : ⊥ = subst IsMaking is d.0 in
      absurd no
  ended_parts p rest l n (L.Sent os) d = absurd (no_more rest Yield (sym n ∙ ap (λ (S : State). S.left) d.1 ∙ l))
  ended_parts p rest l n (L.Received is) d = absurd (no_more rest Yield (sym n ∙ ap (λ (S : State). S.left) d.1 ∙ l))
  ended_parts p rest l n (L.Applied o) d = absurd (no_more rest Yield (sym n ∙ ap (λ (S : State). S.left) d.2 ∙ l))
  ended_parts p rest l n L.Ended d = record { command = refl; new = refl; op = refl }

-- ---- what an event did, and what the step of the same replica is

-- an operation that was received and not applied is none that the version vector covers
module _ (N : List State) (r : IsFromStart N) (p : ℕ) (A : State) (there : IsReplicaAt N p A) (i : Id) (o : Op) (found : op_of i A.recv ≡ Some o) (new : has_id i A.ops ≡ false) where
  run : IsWell N
  run = run_well N r

  own : o.id ≡ i
  own = (looked_up i A.recv o found).0

  made_op : IsMadeOp N o
  made_op = run.sets.received p A o there ((op_in i A.recv o found).0)

  least : 1 ≤ i.counter
  least = subst (λ (j : Id). 1 ≤ j.counter) own (run.sets.sound.counted o made_op)

  not_covered : has_id i (covered A.ops) ≡ false
  not_covered =
      let held : op_of o.id (ops_held N) ≡ Some o = (sound N run).one_each o (held_has N o.id.replica made_op.at o made_op.there (inl made_op.queued)) in
      let tells : has_id o.id (covered A.ops) ≡ has_id o.id A.ops = counters_tell (ops_held N) A.ops (sound N run) ((stands_held N run p A there).closed) o.id o held in
      subst (λ (j : Id). has_id j (covered A.ops) ≡ has_id j A.ops) own tells ∙ new

  pub covers_more : covered (with_id i A.ops) ≡ covered A.ops → ⊥
  covers_more e =
      let most : greatest_of i.replica (with_id i A.ops) ≡ max i.counter (greatest_of i.replica A.ops) = greatest_of-with i.replica i A.ops ∙ greatest_here i A.ops i.replica refl in
      let is : has_id i (covered (with_id i A.ops)) ≡ true = filled_in i (with_id i A.ops) least (omega (arith, most)) in
      let no : true ≡ false = sym is ∙ ap (has_id i) e ∙ not_covered in
      cc

as_event : (event other : Event) (A B : State) (step : Option LastStep) → event ≡ other → HasParts other A B step → HasParts event A B step
as_event event other A B step e h = subst (λ (x : Event). HasParts x A B step) (sym e) h

did_parts : (N : List State) → IsFromStart N → (p : ℕ) (A B : State) → IsReplicaAt N p A → (event : Event) (read : List Op) (step : LastStep) → Did A event read B → IsLastStep (stored_state A) (stored_state B) step → HasParts event A B (Some step)
did_parts N r p A B there event read step (bound q rest x e b is left s new) d =
    as_event event (E.Exec q) A B (Some step) is (bound_parts A B q x e rest left (ap (λ (S : State). S.left) new) (ap (λ (S : State). S.queue) new) step d)
did_parts N r p A B there event read step (made q rest c e cur m t is left s op new) d =
    as_event event (E.Exec q) A B (Some step) is (made_parts A B q c rest left (ap (λ (S : State). S.left) new) (ap (λ (S : State). S.ops) new) step d)
did_parts N r p A B there event read step (sent q rest is left new) d =
    as_event event (E.Send q) A B (Some step) is (sent_parts A B q (ap (λ (S : State). S.left) new) (ap (λ (S : State). S.ops) new) (ap (λ (S : State). S.recv) new) step d)
did_parts N r p A B there event read step (received q k rest is left new) d =
    let x = came_parts A B (ap (λ (S : State). S.left) new) (ap (λ (S : State). S.ops) new) (ap (λ (S : State). S.send) new) step d in
    as_event event (E.Recv q k) A B (Some step) is (record { command = x.0; new = x.1; op = x.2 })
did_parts N r p A B there event read step (took q k i rest o is left found new) d =
    let x = came_parts A B (ap (λ (S : State). S.left) new) (ap (λ (S : State). S.ops) new) (ap (λ (S : State). S.send) new) step d in
    as_event event (E.Take q k i) A B (Some step) is (record { command = x.0; new = x.1; op = x.2 })
did_parts N r p A B there event read step (applied q i rest o t is left found unapplied deps op new) d =
    as_event event (E.Apply q i) A B (Some step) is (applied_parts A B q i o found (ap (λ (S : State). S.left) new) (ap (λ (S : State). S.ops) new) (covers_more N r p A there i o found unapplied) step d)
did_parts N r p A B there event read step (done q rest is left new) d =
    as_event event (E.Done q) A B (Some step) is (ended_parts A B q rest left (ap (λ (S : State). S.left) new) step d)

-- ---- a step of another replica, after which nothing is new

-- a step after which all is as it was
idle : (K : State) (step : LastStep) → IsLastStep K K step → (step_command (Some step) ≡ []) × (step_new (Some step) ≡ Some []) × (step_op (Some step) ≡ None)
idle K (L.Bound c) d = absurd (no_more K.left (cmd_of c.now) d.1)
idle K (L.Made c o) d = absurd (no_more K.left (cmd_of c.now) d.1)
idle K (L.Sent os) d = (refl, ap (λ (is : List Id). Some is) (sym (ap identifiers d.0) ∙ ap identifiers (none_new K.send)), refl)
idle K (L.Received is) d = (refl, ap (λ (js : List Id). Some js) (sym d.0 ∙ ap identifiers (none_new K.recv)), refl)
idle K (L.Applied o) d = absurd (not_added o.now.id K.ops K.ops refl d.1)
idle K L.Ended d = absurd (no_more K.left Yield d.0)

-- an event after which all is as it was
abbrev IsIdle : Event → State → State → Type 0
IsIdle event A B = (command_member event A ≡ []) × (new_ids event A B ≡ Some []) × (event_op event A B ≡ None)

idle_event : (event other : Event) (A B : State) → event ≡ other → IsIdle other A B → IsIdle event A B
idle_event event other A B e h = subst (λ (x : Event). IsIdle x A B) (sym e) h

did_nothing : (N : List State) → IsFromStart N → (p : ℕ) (A B : State) → IsReplicaAt N p A → (event : Event) (read : List Op) → stored_state B ≡ stored_state A → Did A event read B → IsIdle event A B
did_nothing N r p A B there event read same (bound q rest x e b is left s new) = absurd (no_more rest (LetIn x e) (sym (ap (λ (S : State). S.left) new) ∙ ap (λ (S : State). S.left) same ∙ left))
did_nothing N r p A B there event read same (made q rest c e cur m t is left s op new) = absurd (no_more rest c (sym (ap (λ (S : State). S.left) new) ∙ ap (λ (S : State). S.left) same ∙ left))
did_nothing N r p A B there event read same (sent q rest is left new) =
    idle_event event (E.Send q) A B is (refl, ap (λ (js : List Id). Some js) (same_kept A.send B.send (ap (λ (S : State). S.send) same)), refl)
did_nothing N r p A B there event read same (received q k rest is left new) =
    idle_event event (E.Recv q k) A B is (refl, ap (λ (js : List Id). Some js) (same_kept A.recv B.recv (ap (λ (S : State). S.recv) same)), refl)
did_nothing N r p A B there event read same (took q k i rest o is left found new) =
    idle_event event (E.Take q k i) A B is (refl, ap (λ (js : List Id). Some js) (same_kept A.recv B.recv (ap (λ (S : State). S.recv) same)), refl)
did_nothing N r p A B there event read same (applied q i rest o t is left found unapplied deps op new) =
    absurd (covers_more N r p A there i o found unapplied (sym (ap covered (ap (λ (S : State). S.ops) new)) ∙ ap (λ (S : State). S.ops) same))
did_nothing N r p A B there event read same (done q rest is left new) = absurd (no_more rest Yield (sym (ap (λ (S : State). S.left) new) ∙ ap (λ (S : State). S.left) same ∙ left))

-- ---- the last step of a network

end_is : {X : Type 0} (xs ys : List X) (x y : X) → xs ++ x ∷ [] ≡ ys ++ y ∷ [] → x ≡ y
end_is xs ys x y e = same_Some x y (sym (end_of xs x) ∙ ap last_of e ∙ end_of ys y)
  where
    last_of : {X : Type 0} → List X → Option X
    last_of [] = None
    last_of (z ∷ []) = Some z
    last_of (z ∷ w ∷ zs) = last_of (w ∷ zs)

    end_of : {X : Type 0} (zs : List X) (z : X) → last_of (zs ++ z ∷ []) ≡ Some z
    end_of [] z = refl
    end_of (w ∷ []) z = refl
    end_of (w ∷ v ∷ zs) z = end_of (v ∷ zs) z

-- what an event of a step has done
step_did : (N : List State) (event : Event) (M : List State) (rows : List (Rule × ℕ)) → (s : Step N event M rows) → Did s.before event s.read s.after
step_did N event M rows s = did s.before event s.read s.after (record { derivation = s.derivation; holds = s.holds; concludes = s.concludes })

-- the replica of a step has its state after it
pub now_after : (N : List State) (event : Event) (M : List State) (rows : List (Rule × ℕ)) → (s : Step N event M rows) → slice_get M (replica_of event) ≡ Some s.after
now_after N event M rows s = ap (λ (L : List State). slice_get L (replica_of event)) s.is_new ∙ set_there N (replica_of event) s.before s.after s.is_there

module _ (N M : List State) (event : Event) (rows : List (Rule × ℕ)) (s : Step N event M rows) (r : IsFromStart N) (p : ℕ) (before after : State) (was : slice_get N p ≡ Some before) (is : slice_get M p ≡ Some after) (step : LastStep) (d : IsLastStep (stored_state before) (stored_state after) step) where
  -- the replica of the event made the step
  own_parts : replica_of event ≡ p → HasParts event s.before s.after (Some step)
  own_parts e =
      let first : before ≡ s.before = same_Some before s.before (sym was ∙ ap (slice_get N) (sym e) ∙ s.is_there) in
      let next : after ≡ s.after = same_Some after s.after (sym is ∙ ap (slice_get M) (sym e) ∙ now_after N event M rows s) in
      let here : IsLastStep (stored_state s.before) (stored_state s.after) step = subst (λ (S : State). IsLastStep (stored_state s.before) (stored_state S) step) next (subst (λ (S : State). IsLastStep (stored_state S) (stored_state after) step) first d) in
      did_parts N r (replica_of event) s.before s.after s.is_there event s.read step (step_did N event M rows s) here

  -- another one did, and neither changed
  other_parts : (replica_of event ≡ p → ⊥) → option_map stored_state (slice_get M (replica_of event)) ≡ option_map stored_state (slice_get N (replica_of event)) → HasParts event s.before s.after (Some step)
  other_parts apart same = go (set_other N (replica_of event) p s.after)
    where
      kept : stored_state s.after ≡ stored_state s.before
      kept = same_Some (stored_state s.after) (stored_state s.before) (sym (ap (option_map stored_state) (now_after N event M rows s)) ∙ same ∙ ap (option_map stored_state) s.is_there)

      go : (p ≡ replica_of event) ⊎ (slice_get (slice_set N (replica_of event) s.after) p ≡ slice_get N p) → HasParts event s.before s.after (Some step)
      go (inl e) = absurd (apart (sym e))
      go (inr e) =
          let stays : after ≡ before = same_Some after before (sym is ∙ ap (λ (L : List State). slice_get L p) s.is_new ∙ e ∙ was) in
          let x = idle (stored_state before) step (subst (λ (S : State). IsLastStep (stored_state before) (stored_state S) step) stays d) in
          let y = did_nothing N r (replica_of event) s.before s.after s.is_there event s.read kept (step_did N event M rows s) in
          record { command = x.0 ∙ sym y.0; new = x.1 ∙ sym y.1; op = x.2 ∙ sym (ap (option_map stored_op) y.2) }

-- The last step of a history gives the parts of the event's line that led to its network.
pub parts_of_step : (h : History Network) (old : Network) (event : Event) (rows : List (Rule × ℕ)) (step : LastStep) → IsBeforeLast old h → (led : StepIn old event h.now rows) → NetHasLastStep h step → HasParts event led.step.before led.step.after (Some step)
parts_of_step h old event rows step before led last = go (eqb (replica_of event) last.number) refl
  where
    same : last.old.now ≡ old
    same = end_is last.old.earlier before.before last.old.now old (sym last.earlier ∙ before.earlier)

    reached : IsFromStart old.states
    reached = subst (λ (N : Network). IsFromStart N.states) same last.reached

    was : slice_get old.states last.number ≡ Some last.before
    was = subst (λ (N : Network). slice_get N.states last.number ≡ Some last.before) same last.was

    go : (b : Bool) → eqb (replica_of event) last.number ≡ b → HasParts event led.step.before led.step.after (Some step)
    go true e = own_parts old.states h.now.states event rows led.step reached last.number last.before last.after was last.is step last.did (eqb-true (replica_of event) last.number e)
    go false e =
        let apart : replica_of event ≡ last.number → ⊥ = λ i. (let t : eqb (replica_of event) last.number ≡ true = eq-eqb (replica_of event) last.number i in let z : true ≡ false = sym t ∙ e in cc) in
        let others = subst (λ (N : Network). option_map stored_state (slice_get h.now.states (replica_of event)) ≡ option_map stored_state (slice_get N.states (replica_of event))) same (last.others (replica_of event) apart) in
        other_parts old.states h.now.states event rows led.step reached last.number last.before last.after was last.is step last.did apart others

-- as it is returned
pub parts_of_last : (h : History Network) (old : Network) (event : Event) (rows : List (Rule × ℕ)) (step : Option LastStep) → IfSome step (λ x. NetHasLastStep h x) → IfNone step (h.earlier ≡ []) → IsBeforeLast old h → (led : StepIn old event h.now rows) → HasParts event led.step.before led.step.after step
parts_of_last h old event rows None some none before led = let l = ap length (sym before.earlier ∙ none) in let m = length-append before.before (old ∷ []) in absurd (omega (arith, l, m))
parts_of_last h old event rows (Some x) some none before led = parts_of_step h old event rows x before led some
