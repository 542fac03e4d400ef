use Rattle.std.proofs.Common.{◌≢◌, ℕ, ◌≤◌, [], ◌∷◌, ◌++◌, Some}
use Rattle.jc_tree.specs.Named.{path_at, child_key}
use Rattle.jc_tree.proofs.plain.PlainTree.place_below.Given as goal

-- none of those before has the path
abbrev pub invariant-loop-index : goal.invariant-loop-index
invariant-loop-index l = (n : ℕ) → n ≤ l.index → path_at l.self.paths.items n ≢ Some (l.at ++ child_key l.is_list l.key ∷ [])
