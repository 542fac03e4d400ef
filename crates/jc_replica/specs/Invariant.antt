-- The invariant of a replica's type.
use Rattle.std.specs.Prelude.{◌≡◌, ◌≤◌, ◌<◌, ◌-◌, ℕ, List, [], ◌∷◌, ◌++◌, Some, length, drop, filter}
use Rattle.std.specs.List.{AllByRecursion}
use Rattle.jc_rules.specs.declared.id.Id.{Id}
use Rattle.jc_rules.specs.declared.operation.Op.{Op}
use Rattle.jc_rules.specs.VersionVectors.{greatest_of}
use Rattle.jc_rules.specs.Syntax.{Cmd, Yield}
use Rattle.jc_rules.specs.Table.{op_of}
use Rattle.jc_rules.specs.History.{timeline}
use Rattle.jc_tree.specs.Tree.{Tree}
use Rattle.jc_replica.specs.declared.record.Change.{Change}
use Rattle.jc_replica.specs.declared.record.Change.TheVariants as C
use Rattle.jc_replica.specs.declared.record.Record.{Record}
use Rattle.jc_replica.specs.NextCommand.{IsMaking, IsLet}
use Rattle.jc_replica.specs.Operations.{identifiers}
use Rattle.jc_replica.specs.ReadyToStep.{AreReady}
use Rattle.jc_replica.specs.Received.{is_new}
use Rattle.jc_replica.specs.Undo.{Held, state_of, states, steps_undone, without_ops}

-- the marks of the steps rise, and are marks of the store
abbrev pub AreMarks : ℕ → List Record → Type 0
AreMarks n [] = Unit {0}
AreMarks n (r ∷ rs) =
    AllByRecursion (λ s. r.mark.changes ≤ s.mark.changes) rs × (r.mark.changes ≤ n) × AreMarks n rs

-- the identifier is the greatest of its replica, and the counter before it was less
pub record IsGreatest (i : Id) (before : ℕ) (ops : List Id) : Type 0 where
  pub greatest : greatest_of i.replica ops ≡ i.counter
  pub lower : before < i.counter

-- the last of the commands that have ended is such a one
pub record HasEnded (P : Cmd → Type 0) (script : List Cmd) (done : ℕ) : Type 0 where
  pub command : Cmd
  pub left : drop (done - 1) script ≡ command ∷ drop done script
  pub is : P command

-- What is held after a change allows it to be taken back, and is what the change says.
abbrev pub CanBack : List Cmd → Change → Held → Type 0
CanBack script (C.Bound name before) h = HasEnded IsLet script h.done
CanBack script (C.Made i before) h =
    IsGreatest i before h.ops × (h.sent < length h.queue) × HasEnded IsMaking script h.done
CanBack script (C.Sent sent acted) h = sent ≤ h.sent
CanBack script (C.Received came acted) h =
    identifiers (filter (is_new (without_ops came.items h.recv)) h.recv) ≡ came.items
CanBack script (C.Applied i before acted) h =
    IsGreatest i before h.ops × ((o : Op) × (op_of i h.recv ≡ Some o))
CanBack script C.Ended h = HasEnded (λ c. c ≡ Yield) script h.done

-- each of these steps can be taken back, the last one first
abbrev pub AreBacks : List Cmd → List Record → Held → Type 0
AreBacks script [] h = Unit {0}
AreBacks script (r ∷ rs) h = CanBack script r.change (steps_undone rs h) × AreBacks script rs h

-- commands that ended are of the script, and operations that are offered are of those made
pub record IsInBounds (script : List Cmd) (h : Held) : Type 0 where
  pub done : h.done ≤ length script
  pub sent : h.sent ≤ length h.queue

pub record IsReplica (script : List Cmd) (t : Tree) (steps : List Record) (h : Held) : Type 0 where
  pub ready : AreReady (states script (timeline t) steps h ++ state_of script h t.now ∷ [])
  pub bounds : IsInBounds script h
  pub marks : AreMarks (length t.earlier) steps
  pub backs : AreBacks script steps h
