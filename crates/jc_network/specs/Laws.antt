-- Laws of every network that events lead to from a start. The functions in laws.rt have them as contracts.
use Rattle.std.specs.Prelude.{◌≡◌, ℕ, ◌+◌, ◌≤◌, List, [], ◌∷◌, ◌++◌, true, false, Some, Contains, ◌⊎◌, slice_get, map}
use Rattle.jc_rules.specs.declared.id.Id.{Id}
use Rattle.jc_rules.specs.declared.operation.Op.{Op}
use Rattle.jc_rules.specs.declared.operation.Event.{Event}
use Rattle.jc_rules.specs.declared.operation.Event.TheVariants.{Apply}
use Rattle.jc_rules.specs.declared.rule.Rule.{Rule}
use Rattle.jc_rules.specs.Ids.{has_id, AreIn}
use Rattle.jc_rules.specs.Sound.{IsSound, IsRooted}
use Rattle.jc_rules.specs.WellFormed.{IsChained}
use Rattle.jc_rules.specs.State.{State, start}
use Rattle.jc_rules.specs.Step.{Step, After}
use Rattle.jc_rules.specs.Syntax.{Cmd, Yield}
use Rattle.jc_rules.specs.Table.{op_of}
use Rattle.jc_rules.specs.Refused.{Cause, IsStuck}
use Rattle.jc_apply.specs.Fits.{IsUnlinked}
use Rattle.jc_network.specs.RunInvariant.{commands_left}

-- the network at the start, one script for each replica
abbrev pub starts : List (List Cmd) → List State
starts scripts = map start scripts

-- events have led to the network from the start of these scripts
abbrev pub IsReached : List (List Cmd) → List State → Type 0
IsReached scripts network = (events : List Event) × After (starts scripts) events network

-- the operations in all queues, all that are offered and all that were received
abbrev pub ops_held : List State → List Op
ops_held [] = []
ops_held (A ∷ network) = A.queue ++ (A.send ++ (A.recv ++ ops_held network))

-- Each identifier that a replica has applied is that of an operation that it made or received, and what that
-- operation depends on is applied too.
abbrev pub AreApplied : State → Type 0
AreApplied A =
    (i : Id)
    → has_id i A.ops ≡ true
    → (o : Op)
    × (Contains A.queue o ⊎ Contains A.recv o)
    × (o.id ≡ i)
    × AreIn o.deps A.ops

-- All operations are a sound and rooted set, and what each replica has applied is closed under dependencies.
abbrev pub HeldIsSound : Type 0
HeldIsSound =
    (scripts : List (List Cmd)) (network : List State)
    → IsReached scripts network
    → IsSound (ops_held network)
    × IsRooted (ops_held network)
    × ((A : State) → Contains network A → AreApplied A)

-- What a replica offers it made itself.
abbrev pub OfferedIsOwn : Type 0
OfferedIsOwn =
    (scripts : List (List Cmd)) (network : List State)
    → IsReached scripts network
    → (p : ℕ) (A : State) (o : Op)
    → slice_get network p ≡ Some A
    → Contains A.send o
    → o.id.replica ≡ p

-- No operation's counter is above the number of commands that were run.
abbrev pub CountersAreRun : Type 0
CountersAreRun =
    (scripts : List (List Cmd)) (network : List State)
    → IsReached scripts network
    → (o : Op)
    → Contains (ops_held network) o
    → o.id.counter + commands_left network ≤ commands_left (starts scripts)

-- At a yield of replica p the operation i was received and isn't applied, though its dependencies are.
pub record IsOpDueAt (network : List State) (p : ℕ) (i : Id) : Type 0 where
  pub at : State
  pub there : slice_get network p ≡ Some at
  pub rest : List Cmd
  pub yields : at.left ≡ Yield ∷ rest
  pub op : Op
  pub received : op_of i at.recv ≡ Some op
  pub unapplied : has_id i at.ops ≡ false
  pub deps : AreIn op.deps at.ops

-- A due operation can be applied.
abbrev pub AppliesAtYield : Type 0
AppliesAtYield =
    (scripts : List (List Cmd)) (network : List State)
    → IsReached scripts network
    → (p : ℕ) (i : Id)
    → IsOpDueAt network p i
    → (new : List State)
    × (rows : List (Rule × ℕ))
    × Step network (Apply p i) new rows

-- Applying a due operation is stuck for no cause.
abbrev pub NeverStuckAtYield : Type 0
NeverStuckAtYield =
    (scripts : List (List Cmd)) (network : List State)
    → IsReached scripts network
    → (p : ℕ) (i : Id)
    → IsOpDueAt network p i
    → (why : Cause)
    → IsStuck network (Apply p i) why
    → ⊥

-- Lists are chained, and only what is applied is linked.
abbrev pub LinksAreApplied : Type 0
LinksAreApplied =
    (scripts : List (List Cmd)) (network : List State)
    → IsReached scripts network
    → (A : State)
    → Contains network A
    → IsChained A.tree
    × ((i : Id) → has_id i A.ops ≡ false → IsUnlinked i A.tree)

-- An event has a step or is stuck for a cause, and never both.
abbrev pub StepOrStuck : Type 0
StepOrStuck =
    (scripts : List (List Cmd)) (network : List State)
    → IsReached scripts network
    → (event : Event)
    → (((new : List State) × (rows : List (Rule × ℕ)) × Step network event new rows)
    ⊎ ((why : Cause) × IsStuck network event why))
    × ((new : List State) (rows : List (Rule × ℕ)) (why : Cause)
    → Step network event new rows
    → IsStuck network event why
    → ⊥)
