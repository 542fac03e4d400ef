-- That a tree and a trace can go back to what they were: the calls of jc_clear, jc_apply and jc_cursor leave it.
use Rattle.jc_rules.specs.Trace.{Rows, IsLonger}
use Rattle.jc_rules.specs.History.{IsLater}
use Rattle.jc_tree.specs.Tree.{Tree}

-- Only changes have been made to the tree, and only rules added to the trace.
pub record TreeCanGoBack (a b : Tree) (t u : Rows) : Type 0 where
  pub store : IsLater a b
  pub trace : IsLonger t u
