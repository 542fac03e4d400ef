-- Which set of identifiers a version vector represents in a sound set of operations.
use Rattle.std.specs.Prelude.{◌≡◌, List, true, Some}
use Rattle.jc_rules.specs.declared.id.Id.{Id}
use Rattle.jc_rules.specs.declared.operation.Op.{Op}
use Rattle.jc_rules.specs.Ids.{AreRising, has_id, AreIn}
use Rattle.jc_rules.specs.VersionVectors.{covered}
use Rattle.jc_rules.specs.Sound.{IsSound}
use Rattle.jc_rules.specs.Table.{op_of}

-- A causally closed set: identifiers of the operations, with all that these depend on.
pub record IsCausallyClosed (set : List Op) (s : List Id) : Type 0 where
  pub rises : AreRising s
  pub known : (i : Id) → has_id i s ≡ true → (o : Op) × (op_of i set ≡ Some o)
  pub closed : (i : Id) (o : Op) → has_id i s ≡ true → op_of i set ≡ Some o → AreIn o.deps s

-- In the sound set of operations a version vector, which is seen as all that it covers, represents the causally closed
-- set s.
pub record Represents (set : List Op) (s : List Id) (counters : List Id) : Type 0 where
  pub sound : IsSound set
  pub closed : IsCausallyClosed set s
  pub is : counters ≡ covered s
