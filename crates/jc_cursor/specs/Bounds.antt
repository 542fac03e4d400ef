-- What variables in memory are bound to, in the words of the rules: the contract of `eval` is in them.
use Rattle.std.specs.Prelude.{◌≡◌, ℕ, List, map, Option}
use Rattle.std.specs.Option.{option_map}
use Rattle.jc_rules.specs.Order.{name_cmp}
use Rattle.jc_rules.specs.Entries.{find}
use Rattle.jc_rules.specs.State.{Bound, ACursor, Names, Pairs}
use Rattle.jc_cursor.specs.declared.bound.Bound.{Bound as BoundInMemory}
use Rattle.jc_cursor.specs.declared.bound.Bound.TheVariants as B
use Rattle.jc_cursor.specs.declared.bound.Variables.{Variables}
use Rattle.jc_cursor.specs.declared.bound.Variables.TheVariants as V

abbrev pub bound_of : BoundInMemory → Bound
bound_of (B.Cursor c) = ACursor c
bound_of (B.Keys ks) = Names ks
bound_of (B.Values vs) = Pairs vs

abbrev pub var_of : List ℕ × BoundInMemory → List ℕ × Bound
var_of v = (v.0, bound_of v.1)

abbrev pub vars_of : List (List ℕ × BoundInMemory) → List (List ℕ × Bound)
vars_of vars = map var_of vars

-- those of a list, or of a map by name
abbrev pub vars_in : Variables → List (List ℕ × BoundInMemory)
vars_in (V.List vars) = vars.now
vars_in (V.Map vars) = vars.now.entries

-- what is found under the name
abbrev pub FoundAs : List ℕ → List (List ℕ × BoundInMemory) → Option BoundInMemory → Type 0
FoundAs name vars found = option_map bound_of found ≡ find name_cmp name (vars_of vars)
