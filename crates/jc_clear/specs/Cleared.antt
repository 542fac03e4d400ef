-- A key that was cleared and has got nothing since.
use Rattle.std.specs.Prelude.{◌≡◌, [], None, Some}
use Rattle.jc_rules.specs.declared.key.Key.{Key}
use Rattle.jc_rules.specs.declared.key.Tagged.TheVariants.{MapT, ListT}
use Rattle.jc_rules.specs.Order.{key_cmp}
use Rattle.jc_rules.specs.Entries.{find}
use Rattle.jc_rules.specs.Context.{Context, registers, content, presence}

-- an empty register and an empty presence set, and neither a map nor a list
pub record IsCleared (k : Key) (c : Context) : Type 0 where
  pub map : content (MapT k) c ≡ None
  pub list : content (ListT k) c ≡ None
  pub register : find key_cmp k (registers c) ≡ Some []
  pub presence : presence k c ≡ Some []
