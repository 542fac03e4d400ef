-- Lemmas about Undo: the last step is taken back.
use Rattle.std.proofs.Common.{◌≡◌, ◌+◌, ◌-◌, List, [], ◌∷◌, ◌++◌, length, take, subst, arith, length-take-le}
use Rattle.jc_rules.specs.Syntax.{Cmd}
use Rattle.jc_rules.specs.History.{timeline}
use Rattle.jc_tree.specs.Tree.{Tree}
use Rattle.jc_replica.specs.declared.record.Change.{Change}
use Rattle.jc_replica.specs.declared.record.Change.TheVariants as C
use Rattle.jc_replica.specs.declared.record.Record.{Record}
use Rattle.jc_replica.specs.Invariant.{CanBack, IsInBounds, IsReplica}
use Rattle.jc_replica.specs.Undo.{Held, undone_once}
use Rattle.jc_replica.proofs.UndoStepsLemmas.{Unstepped, unstepped, can_back}

-- what can be taken back leaves the bounds
back_in_bounds : (script : List Cmd) (c : Change) (h : Held) → IsInBounds script h → CanBack script c h → IsInBounds script (undone_once c h)
back_in_bounds script (C.Bound name before) h b can = record { done = omega (arith, b.done); sent = b.sent }
back_in_bounds script (C.Made i before) h b can =
    record {
      done = omega (arith, b.done);
      sent = omega (arith, can.1, length-take-le (length h.queue - 1) h.queue (omega arith));
    }
back_in_bounds script (C.Sent sent acted) h b can = record { done = b.done; sent = omega (arith, can, b.sent) }
back_in_bounds script (C.Received came acted) h b can = record { done = b.done; sent = b.sent }
back_in_bounds script (C.Applied i before acted) h b can = record { done = b.done; sent = b.sent }
back_in_bounds script C.Ended h b can = record { done = omega (arith, b.done); sent = b.sent }

pub unstep : {script : List Cmd} {t : Tree} {ss : List Record} {h : Held} → IsReplica script t ss h → (u : Tree) (rs : List Record) (r : Record) (h0 : Held) → ss ≡ rs ++ r ∷ [] → timeline u ≡ take (r.mark.changes + 1) (timeline t) → undone_once r.change h ≡ h0 → Unstepped script t u rs ss h h0
unstep {script} {t} {ss} {h} k u rs r h0 se ue be =
    unstepped k u rs r h0 se ue be (subst (IsInBounds script) be (back_in_bounds script r.change h k.bounds (can_back k rs r se)))

-- what is asked of the last step, as it is
pub can_back_as : {script : List Cmd} {t : Tree} {ss : List Record} {h : Held} → IsReplica script t ss h → (rs : List Record) (r : Record) → ss ≡ rs ++ r ∷ [] → (c : Change) → r.change ≡ c → CanBack script c h
can_back_as {script} {t} {ss} {h} k rs r se c ce = subst (λ (x : Change). CanBack script x h) ce (can_back k rs r se)
