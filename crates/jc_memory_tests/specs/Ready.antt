-- Documents to which the next operation fits, for the loops of `stores`.
use Rattle.std.specs.Prelude.{ℕ, ◌<◌}
use Rattle.jc_rules.specs.declared.id.Id.{Id}
use Rattle.jc_rules.specs.Context.{Context}
use Rattle.jc_rules.specs.WellFormed.{IsChained}
use Rattle.jc_apply.specs.Fits.{IsUnlinked}

-- Its lists are chained, and none links an identifier whose counter is greater.
pub record IsReady (count : ℕ) (c : Context) : Type 0 where
  pub chained : IsChained c
  pub fresh : (i : Id) → count < i.counter → IsUnlinked i c
