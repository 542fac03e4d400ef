-- What each stored state of a replica has, by the invariant of its type.
use Rattle.std.specs.Prelude.{◌≡◌, ◌≤◌, ◌+◌, List, length, false}
use Rattle.std.specs.List.{AllByRecursion}
use Rattle.jc_rules.specs.declared.id.Id.{Id}
use Rattle.jc_rules.specs.declared.limits.TheConstants.{MAX_COMMANDS, MAX_COUNTER}
use Rattle.jc_rules.specs.Entries.{IsRising, keys_of}
use Rattle.jc_rules.specs.VersionVectors.{covered}
use Rattle.jc_rules.specs.Ids.{has_id, greatest}
use Rattle.jc_rules.specs.Order.{name_cmp}
use Rattle.jc_rules.specs.WellFormed.{IsChained}
use Rattle.jc_rules.specs.State.{State}
use Rattle.jc_apply.specs.Fits.{IsUnlinked}
use Rattle.jc_replica.specs.Operations.{AreInOrder, AreHanded}

pub record IsReadyToStep (A : State) : Type 0 where
  -- lists are chained, and only identifiers that were applied are linked
  pub chained : IsChained A.tree
  pub linked : (i : Id) → has_id i A.ops ≡ false → IsUnlinked i A.tree
  -- variables are sorted by name
  pub named : IsRising name_cmp (keys_of A.vars)
  -- what was applied is a version vector
  pub counters : A.ops ≡ covered A.ops
  -- operations are sorted by identifier; those made have no greater counters than all that was applied
  pub in_order : AreInOrder A.queue
  pub numbered : AllByRecursion (λ o. o.id.counter ≤ greatest A.ops) A.queue
  pub received : AreInOrder A.recv
  pub handed : AreHanded A.recv
  -- the commands that are left make no counter too great
  pub short : length A.left ≤ MAX_COMMANDS
  pub counted : greatest A.ops + length A.left ≤ MAX_COUNTER + MAX_COMMANDS

-- each of a replica's states is ready
abbrev pub AreReady : List State → Type 0
AreReady As = AllByRecursion IsReadyToStep As
