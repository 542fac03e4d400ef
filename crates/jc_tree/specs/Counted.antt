-- Which identifier is the last one of a presence set, for the nodes of the fast store.
use Rattle.std.specs.Prelude.{List, Bool, ◌&&◌, not}
use Rattle.jc_rules.specs.declared.id.Id.{Id}
use Rattle.jc_tree.specs.Tree.{has_ids}
use Rattle.jc_tree.specs.Undo.{taken_out}

-- whether nothing is left of the set once the identifier is taken out, and something was there
abbrev pub is_last : Id → List Id → Bool
is_last i s = has_ids s && not (has_ids (taken_out i s))
