-- What clearing leaves of a context as it is: its tagged keys at every depth, and its links. `clear`'s contract cites it.
use Rattle.std.specs.Prelude.{List, [], map}
use Rattle.jc_rules.specs.declared.key.Key.{Key}
use Rattle.jc_rules.specs.Context.{Context, context, Children, no_child, child, Register}

-- the keys of registers, with no values
abbrev pub emptied : List (Key × Register) → List (Key × Register)
emptied r = map (λ e. (e.0, [])) r

-- without values and presence sets, at every depth
abbrev mutual
  pub bare : Context → Context
  bare (context m l r p n) = context (bare_in m) (bare_in l) (emptied r) [] n

  pub bare_in : Children → Children
  bare_in no_child = no_child
  bare_in (child k c cs) = child k (bare c) (bare_in cs)
