-- Whether something differs at a place or below it: the contract of `differs_at` cites it.
use Rattle.std.specs.Prelude.{List, [], ◌∷◌, Bool, cond}
use Rattle.jc_rules.specs.declared.key.Key.{Key}
use Rattle.jc_rules.specs.declared.key.Tagged.{Tagged}
use Rattle.jc_rules.specs.declared.key.Tagged.TheVariants.{MapT, ListT, RegT}
use Rattle.jc_rules.specs.Context.{key_of_tagged}
use Rattle.jc_rules.specs.Order.{same_key}
use Rattle.jc_effects.specs.Difference.{Differences, no_difference, difference, is_listed}

-- of what differs in the map and in the list of a key, the part under the tagged key
abbrev pub part_under : Tagged → Differences → Differences → Differences
part_under (MapT k) m l = m
part_under (ListT k) m l = l
part_under (RegT k) m l = no_difference

-- what differs in the map or in the list under a tagged key
abbrev pub differences_under : Tagged → Differences → Differences
differences_under t no_difference = no_difference
differences_under t (difference k o m l rest) =
    cond (same_key (key_of_tagged t) k) (part_under t m l) (differences_under t rest)

-- something differs at the key of the context at the path, or below it
abbrev pub differs_at : List Tagged → Key → Differences → Bool
differs_at [] k x = is_listed k x
differs_at (t ∷ ts) k x = differs_at ts k (differences_under t x)
