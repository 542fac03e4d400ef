-- What lies behind a key of a list, as far as it is told at once.
use Rattle.std.specs.Prelude.{◌≡◌, ℕ, zero, suc, ◌/◌, ◌%◌, List, Some}
use Rattle.jc_rules.specs.declared.id.Id.{Id}
use Rattle.jc_rules.specs.declared.key.Key.{Key}
use Rattle.jc_rules.specs.declared.key.Key.TheVariants.{Elem}
use Rattle.jc_rules.specs.declared.key.Next.{Next}
use Rattle.jc_rules.specs.declared.key.Next.TheVariants.{Elem as To}
use Rattle.jc_rules.specs.Order.{key_cmp}
use Rattle.jc_rules.specs.Entries.{find}
use Rattle.jc_rules.specs.Context.{Context, links, presences}
use Rattle.jc_tree.specs.Blocks.{IsAtMost, presence_bit}

-- From the key the links lead over so many elements to the last one. The bits, the lowest first, say of each whether it is
-- present, and none has an identifier that is less than the least one.
abbrev pub LeadsOverEntries : List (Key × Next) → List (Key × List Id) → Key → ℕ → ℕ → Id → Key → Type 0
LeadsOverEntries ls ps k zero bits least last = k ≡ last
LeadsOverEntries ls ps k (suc count) bits least last =
    (i : Id) × (find key_cmp k ls ≡ Some (To i)) × (bits % 2 ≡ presence_bit (Elem i) ps) × IsAtMost least i
    × LeadsOverEntries ls ps (Elem i) count (bits / 2) least last

abbrev pub LeadsOver : Context → Key → ℕ → ℕ → Id → Key → Type 0
LeadsOver c = LeadsOverEntries (links c) (presences c)
