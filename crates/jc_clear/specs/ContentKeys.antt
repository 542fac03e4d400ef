-- The keys of a context under which a map, a list or a register stands: those that clearing a map goes through.
use Rattle.std.specs.Prelude.{Bool, is_some, ◌||◌}
use Rattle.jc_rules.specs.declared.key.Key.{Key}
use Rattle.jc_rules.specs.declared.key.Tagged.TheVariants.{MapT, ListT}
use Rattle.jc_rules.specs.Order.{key_cmp}
use Rattle.jc_rules.specs.Entries.{find}
use Rattle.jc_rules.specs.Context.{Context, registers, content}

-- whether the key has a map, a list or a register
abbrev pub has_content : Context → Key → Bool
has_content c k = is_some (content (MapT k) c) || is_some (content (ListT k) c) || is_some (find key_cmp k (registers c))
