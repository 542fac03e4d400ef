-- How the search for an insert's place goes on: words of `passing.rt`.
use Rattle.std.specs.Prelude.{◌≡◌, ◌<◌, ℕ, zero, suc, Some}
use Rattle.std.specs.declared.cmp.Ordering.TheVariants.{Less}
use Rattle.jc_rules.specs.declared.id.Id.{Id}
use Rattle.jc_rules.specs.declared.key.Key.{Key}
use Rattle.jc_rules.specs.declared.key.Key.TheVariants.{Elem}
use Rattle.jc_rules.specs.declared.key.Next.TheVariants.{Elem as To}
use Rattle.jc_rules.specs.declared.rule.Rule.TheVariants as R
use Rattle.jc_rules.specs.Order.{id_cmp}
use Rattle.jc_rules.specs.Context.{Context, next}
use Rattle.jc_rules.specs.Trace.{Rows}
use Rattle.jc_rules.specs.Runs.{opened}

-- From the key the links lead over so many elements to the last one, all with greater identifiers than the given one.
abbrev pub LeadsOverGreater : Context → Id → Key → ℕ → Key → Type 0
LeadsOverGreater c i k zero last = k ≡ last
LeadsOverGreater c i k (suc count) last =
    (e : Id) × (next k c ≡ Some (To e)) × (id_cmp i e ≡ Less) × LeadsOverGreater c i (Elem e) count last

-- From the first key the search has gone on to the second one, past one element or more.
pub record PassesOn (c : Context) (i : Id) (from to : Key) (t u : Rows) : Type 0 where
  pub count : ℕ
  pub some : 0 < count
  pub leads : LeadsOverGreater c i from count to
  pub rows : u ≡ opened count R.Insert2 t
