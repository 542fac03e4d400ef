-- What the last step of a replica did, by the stored states before and after it: the contract of `last_step`.
use Rattle.std.specs.Prelude.{◌≡◌, [], ◌∷◌, Some, filter}
use Rattle.jc_rules.specs.History.{History, timeline}
use Rattle.jc_rules.specs.State.{State}
use Rattle.jc_rules.specs.Syntax.{Yield}
use Rattle.jc_rules.specs.Table.{op_of}
use Rattle.jc_rules.specs.VersionVectors.{greatest_of}
use Rattle.jc_syntax.specs.Trees.{cmd_of}
use Rattle.jc_replica.specs.declared.last_step.LastStep.{LastStep}
use Rattle.jc_replica.specs.declared.last_step.LastStep.TheVariants as L
use Rattle.jc_replica.specs.Invariant.{IsGreatest}
use Rattle.jc_replica.specs.NextCommand.{IsMaking, IsLet}
use Rattle.jc_replica.specs.Operations.{identifiers}
use Rattle.jc_replica.specs.Received.{is_new}

-- What the step that led from state A to state B did. Where a command ended, it was the next one of A. What was made,
-- sent or received is what B has more than A. Of the document nothing is said: a trace tells what becomes of it.
abbrev pub IsLastStep : State → State → LastStep → Type 0
IsLastStep A B (L.Bound c) =
    IsLet (cmd_of c.now)
    × (A.left ≡ cmd_of c.now ∷ B.left)
    × (B ≡ record A { left = B.left; vars = B.vars; tree = B.tree })
IsLastStep A B (L.Made c o) =
    IsMaking (cmd_of c.now)
    × (A.left ≡ cmd_of c.now ∷ B.left)
    × (filter (is_new A.queue) B.queue ≡ o.now ∷ [])
    × (B ≡ record A { left = B.left; tree = B.tree; ops = B.ops; queue = B.queue })
IsLastStep A B (L.Sent os) =
    (filter (is_new A.send) B.send ≡ os.now)
    × (B ≡ record A { acted = B.acted; tree = B.tree; send = B.send })
IsLastStep A B (L.Received ids) =
    (identifiers (filter (is_new A.recv) B.recv) ≡ ids.now)
    × (B ≡ record A { acted = B.acted; tree = B.tree; recv = B.recv })
IsLastStep A B (L.Applied o) =
    (op_of o.now.id A.recv ≡ Some o.now)
    × IsGreatest o.now.id (greatest_of o.now.id.replica A.ops) B.ops
    × (B ≡ record A { acted = B.acted; tree = B.tree; ops = B.ops })
IsLastStep A B L.Ended =
    (A.left ≡ Yield ∷ B.left)
    × (B ≡ record A { left = B.left; acted = B.acted; tree = B.tree })

-- The last step of the history is the one that is returned.
pub record HasLastStep (h : History State) (step : LastStep) : Type 0 where
  pub old : History State
  pub earlier : h.earlier ≡ timeline old
  pub did : IsLastStep old.now h.now step
