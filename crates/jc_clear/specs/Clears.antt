-- That a call clears by the table: the contracts of `clear`, `clear_elem` and their steps.
use Rattle.std.specs.Prelude.{◌≡◌, List}
use Rattle.jc_rules.specs.declared.id.Id.{Id}
use Rattle.jc_rules.specs.declared.key.Tagged.{Tagged}
use Rattle.jc_rules.specs.Context.{Context}
use Rattle.jc_rules.specs.Ids.{AreRising}
use Rattle.jc_rules.specs.ContextsAt.{with_node_at}
use Rattle.jc_rules.specs.Derivation.{Question, Cleared}
use Rattle.jc_rules.specs.Derives.{Derives}
use Rattle.jc_rules.specs.Trace.{Rows}
use Rattle.jc_tree.specs.Tree.{Tree, here}
use Rattle.jc_clear.specs.Bare.{bare}

-- A derivation answers the question of the context at the place with another context, which is there afterwards, and
-- with the identifiers; its rules were added to the trace, and no tagged key or link was changed.
pub record Clears (q : Context → Question) (at : List Tagged) (a b : Tree) (ids : List Id) (t u : Rows) : Type 0 where
  pub after : Context
  pub derives : Derives (q (here at a)) (Cleared after ids) t u
  pub now : b.now ≡ with_node_at at after a.now
  pub same : bare after ≡ bare (here at a)
  pub rises : AreRising ids
