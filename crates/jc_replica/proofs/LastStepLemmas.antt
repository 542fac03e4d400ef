-- Lemmas about LastStep: what an undo record says of the states before and after its step.
use Rattle.std.proofs.Common.{◌≡◌, ℕ, zero, suc, ◌-◌, ◌+◌, ◌<◌, ◌≤◌, List, [], ◌∷◌, ◌++◌, Bor, Bool, true, false, filter, map, length, take, drop, slice_get, get_or, Some, eqb, leb, leb-true, refl, sym, ◌∙◌, ap, subst, arith}
use Rattle.std.proofs.lemmas.Option.{same_Some}
use Rattle.jc_rules.specs.declared.id.Id.{Id}
use Rattle.jc_rules.specs.declared.operation.Op.{Op}
use Rattle.jc_rules.specs.Context.{Context}
use Rattle.jc_rules.specs.History.{History, timeline}
use Rattle.jc_rules.specs.State.{State}
use Rattle.jc_rules.specs.Syntax.{Cmd}
use Rattle.jc_rules.specs.Table.{op_of}
use Rattle.jc_rules.specs.VersionVectors.{greatest_of, truncated}
use Rattle.jc_syntax.specs.declared.tree.Cmd.{Cmd as CmdTree}
use Rattle.jc_syntax.specs.Trees.{cmd_of}
use Rattle.jc_tree.specs.Tree.{Tree}
use Rattle.jc_replica.specs.declared.last_step.LastStep.{LastStep}
use Rattle.jc_replica.specs.declared.last_step.LastStep.TheVariants as L
use Rattle.jc_replica.specs.declared.record.Change.{Change}
use Rattle.jc_replica.specs.declared.record.Change.TheVariants as C
use Rattle.jc_replica.specs.declared.record.Record.{Record}
use Rattle.jc_replica.specs.Invariant.{IsGreatest, HasEnded, CanBack}
use Rattle.jc_replica.specs.LastStep.{IsLastStep, HasLastStep}
use Rattle.jc_replica.specs.Operations.{AreInOrder}
use Rattle.jc_replica.specs.Received.{is_new}
use Rattle.jc_replica.specs.ReplicaHistory.{ReplicaHistory}
use Rattle.jc_replica.specs.Undo.{Held, state_of, states, undone_once, content_at, replica_history_of}
use Rattle.jc_replica.proofs.ReceivedNewLemmas.{behind_new}
use Rattle.jc_replica.proofs.ScriptLemmas.{stands}
use Rattle.jc_replica.proofs.SendLemmas.{front_in_order}
use Rattle.jc_replica.proofs.UndoStepsLemmas.{states-pushed}

-- the history's last step, by what was held before and after it
pub has_last_step : (script : List Cmd) (t : Tree) (ss : List Record) (h : Held) (number : ℕ) (p : ReplicaHistory) → replica_history_of number script t ss h ≡ p → (rs : List Record) (r : Record) → ss ≡ rs ++ r ∷ [] → (c : Change) → r.change ≡ c → (step : LastStep) → ((x : Context) → IsLastStep (state_of script (undone_once c h) x) (state_of script h t.now) step) → HasLastStep p.history step
has_last_step script t ss h number p v rs r se c ce step did =
    let cs = timeline t in
    let old : History State = record { now = state_of script (undone_once c h) (content_at cs r.mark.changes); earlier = states script cs rs (undone_once c h) } in
    let back : undone_once r.change h ≡ undone_once c h = ap (λ (x : Change). undone_once x h) ce in
    subst (λ (x : ReplicaHistory). HasLastStep x.history step) v (record {
      old = old;
      earlier = ap (λ (x : List Record). states script cs x h) se ∙ states-pushed script cs rs r (undone_once c h) h back;
      did = did (content_at cs r.mark.changes);
    })

-- the last record
from_end : (ss : List Record) (n : ℕ) (r : Record) → length ss ≡ n + 1 → Some r ≡ slice_get ss n → ss ≡ take n ss ++ r ∷ []
from_end [] n r l e = absurd (omega (arith, l))
from_end (s ∷ []) zero r l e = ap (λ (x : Record). x ∷ []) (sym (same_Some r s e))
from_end (s ∷ u ∷ ss) zero r l e = absurd (omega (arith, l))
from_end (s ∷ ss) (suc n) r l e = ap (λ (xs : List Record). s ∷ xs) (from_end ss n r (omega (arith, l)) e)

some_record : (ss : List Record) (n : ℕ) (r : Record) → Some r ≡ slice_get ss n → 0 < length ss
some_record [] n r e = cc
some_record (s ∷ ss) n r e = omega arith

pub last_record : (ss xs : List Record) (r : Record) → xs ≡ ss → Some r ≡ slice_get xs (length xs - 1) → ss ≡ take (length ss - 1) ss ++ r ∷ []
last_record ss xs r e there =
    let is : Some r ≡ slice_get ss (length ss - 1) = there ∙ ap (λ (ys : List Record). slice_get ys (length ys - 1)) e in
    let some : 0 < length ss = some_record ss (length ss - 1) r is in
    from_end ss (length ss - 1) r (omega (arith, some)) is

-- ---- commands

-- the command that is read is the one that ended
pub ended_is : {P : Cmd → Type 0} (xs : List CmdTree) (n : ℕ) (c : CmdTree) → (e : HasEnded P (map cmd_of xs) n) → slice_get xs (n - 1) ≡ Some c → cmd_of c ≡ e.command
ended_is xs n c e there =
    let both : cmd_of c ∷ drop (suc (n - 1)) (map cmd_of xs) ≡ e.command ∷ drop n (map cmd_of xs) = sym (stands (n - 1) xs c there) ∙ e.left in
    cc

left_is : {P : Cmd → Type 0} (xs : List CmdTree) (n : ℕ) (c : CmdTree) → HasEnded P (map cmd_of xs) n → slice_get xs (n - 1) ≡ Some c → drop (n - 1) (map cmd_of xs) ≡ cmd_of c ∷ drop n (map cmd_of xs)
left_is xs n c e there = e.left ∙ ap (λ (d : Cmd). d ∷ drop n (map cmd_of xs)) (sym (ended_is xs n c e there))

is_one : {P : Cmd → Type 0} (xs : List CmdTree) (n : ℕ) (c : CmdTree) → HasEnded P (map cmd_of xs) n → slice_get xs (n - 1) ≡ Some c → P (cmd_of c)
is_one {P} xs n c e there = subst P (sym (ended_is xs n c e there)) e.is

-- a variable that was bound
pub was_bound : (xs : List CmdTree) (h : Held) (c : Bor CmdTree) (name : _) (before : _) → slice_get xs (h.done - 1) ≡ Some c.now → CanBack (map cmd_of xs) (C.Bound name before) h → (x y : Context) → IsLastStep (state_of (map cmd_of xs) (undone_once (C.Bound name before) h) x) (state_of (map cmd_of xs) h y) (L.Bound c)
was_bound xs h c name before there e x y = (is_one xs h.done c.now e there, left_is xs h.done c.now e there, refl)

-- ---- operations

-- fewer than a prefix
pub take_fewer : (n m : ℕ) (os : List Op) → n ≤ m → take n (take m os) ≡ take n os
take_fewer zero m os l = refl
take_fewer (suc n) zero os l = absurd (omega (arith, l))
take_fewer (suc n) (suc m) [] l = refl
take_fewer (suc n) (suc m) (o ∷ os) l = ap (λ (x : List Op). o ∷ x) (take_fewer n m os (omega (arith, l)))

last_alone : (os : List Op) (n : ℕ) (o : Op) → n + 1 ≡ length os → o ≡ get_or os n o → drop n os ≡ o ∷ []
last_alone [] n o l e = absurd (omega (arith, l))
last_alone (p ∷ []) zero o l e = ap (λ (x : Op). x ∷ []) (sym e)
last_alone (p ∷ q ∷ os) zero o l e = absurd (omega (arith, l))
last_alone (p ∷ os) (suc n) o l e = last_alone os n o (omega (arith, l)) e

-- the operation that was made
pub made_new : (os : List Op) (o : Op) → AreInOrder os → 0 < length os → o ≡ get_or os (length os - 1) o → filter (is_new (take (length os - 1) os)) os ≡ o ∷ []
made_new os o order some e = behind_new (length os - 1) os order ∙ last_alone os (length os - 1) o (omega (arith, some)) e

pub was_made : (xs : List CmdTree) (h : Held) (c : Bor CmdTree) (o : Bor Op) → slice_get xs (h.done - 1) ≡ Some c.now → AreInOrder h.queue → o.now ≡ get_or h.queue (length h.queue - 1) o.now → (x y : Context) (i : Id) (before : ℕ) → CanBack (map cmd_of xs) (C.Made i before) h → IsLastStep (state_of (map cmd_of xs) (undone_once (C.Made i before) h) x) (state_of (map cmd_of xs) h y) (L.Made c o)
was_made xs h c o there order last x y i before can =
    let script = map cmd_of xs in
    let ended = can.2 in
    let B = state_of script h y in
    let A = state_of script (undone_once (C.Made i before) h) x in
    let some : 0 < length h.queue = omega (arith, can.1) in
    let send : take h.sent h.queue ≡ take h.sent (take (length h.queue - 1) h.queue) = sym (take_fewer h.sent (length h.queue - 1) h.queue (omega (arith, can.1))) in (
      is_one xs h.done c.now ended there,
      left_is xs h.done c.now ended there,
      made_new h.queue o.now order some last,
      ap (λ (os : List Op). record A { left = B.left; tree = B.tree; ops = B.ops; queue = B.queue; send = os }) send,
    )

-- the operations that were offered
pub was_sent : (script : List Cmd) (h : Held) (os : Bor (List Op)) (n : ℕ) (acted : Bool) → AreInOrder h.queue → n ≤ h.sent → os.now ≡ drop n (take h.sent h.queue) → (x y : Context) → IsLastStep (state_of script (undone_once (C.Sent n acted) h) x) (state_of script h y) (L.Sent os)
was_sent script h os n acted order l e x y =
    let sent = take h.sent h.queue in
    let fewer : take n h.queue ≡ take n sent = sym (take_fewer n h.sent h.queue l) in
    (ap (λ (xs : List Op). filter (is_new xs) sent) fewer ∙ behind_new n sent (front_in_order h.sent h.queue order) ∙ sym e, refl)

-- what was received
pub was_received : (script : List Cmd) (h : Held) (ids : Bor (List Id)) (came : _) (acted : Bool) → CanBack script (C.Received came acted) h → ids.now ≡ came.items → (x y : Context) → IsLastStep (state_of script (undone_once (C.Received came acted) h) x) (state_of script h y) (L.Received ids)
was_received script h ids came acted can e x y = (can ∙ sym e, refl)

-- what was applied
below_last : (p last : ℕ) (s : List Id) → greatest_of p (truncated p last s) ≤ last
below_last p last [] = omega arith
below_last p last (i ∷ s) = go (eqb i.replica p) (leb i.counter last) refl refl (below_last p last s)
  where
    go : (a b : Bool) → eqb i.replica p ≡ a → leb i.counter last ≡ b → greatest_of p (truncated p last s) ≤ last → greatest_of p (truncated p last (i ∷ s)) ≤ last
    go false b e f ih = rw (e, e) ih
    go true false e f ih = rw (e, f) ih
    go true true e f ih = let l = leb-true i.counter last f in rw (e, f, e) (omega (arith, l, ih))

pub was_applied : (script : List Cmd) (h : Held) (o : Bor Op) (i : Id) (before : ℕ) (acted : Bool) → CanBack script (C.Applied i before acted) h → o.now.id ≡ i → op_of i h.recv ≡ Some o.now → (x y : Context) → IsLastStep (state_of script (undone_once (C.Applied i before acted) h) x) (state_of script h y) (L.Applied o)
was_applied script h o i before acted can is found x y =
    let greatest : IsGreatest i (greatest_of i.replica (truncated i.replica before h.ops)) h.ops = record {
      greatest = can.0.greatest;
      lower = let l = below_last i.replica before h.ops in let k = can.0.lower in omega (arith, l, k);
    } in
    subst (λ (j : Id). (op_of j h.recv ≡ Some o.now) × IsGreatest j (greatest_of j.replica (truncated i.replica before h.ops)) h.ops × (state_of script h y ≡ state_of script h y)) (sym is) (found, greatest, refl)

-- a yield that ended
pub was_ended : (script : List Cmd) (h : Held) → CanBack script C.Ended h → (x y : Context) → IsLastStep (state_of script (undone_once C.Ended h) x) (state_of script h y) L.Ended
was_ended script h can x y = (can.left ∙ ap (λ (d : Cmd). d ∷ drop h.done script) can.is, refl)
