-- The laws of stores: a mark gives back its tree, and changes keep lists chained.
use Rattle.std.specs.Prelude.{◌≡◌, ◌≢◌, ◌≤◌, ◌+◌, List, length, take, Some, None}
use Rattle.jc_rules.specs.declared.id.Id.{Id}
use Rattle.jc_rules.specs.declared.key.Key.{Key}
use Rattle.jc_rules.specs.declared.key.Key.TheVariants.{Elem}
use Rattle.jc_rules.specs.declared.key.Next.{Next}
use Rattle.jc_rules.specs.declared.key.Next.TheVariants.{Elem as To}
use Rattle.jc_rules.specs.declared.key.Tagged.{Tagged}
use Rattle.jc_rules.specs.declared.key.Tagged.TheVariants.{RegT}
use Rattle.jc_rules.specs.Context.{Context, Register, Values, with_content, new_content, with_presence, next, with_next}
use Rattle.jc_rules.specs.ContextsAt.{node_at, with_node_at, context_at}
use Rattle.jc_rules.specs.WellFormed.{IsChained}
use Rattle.jc_rules.specs.History.{IsLater, timeline}
use Rattle.jc_tree.specs.Tree.{Tree, IsChanged}

-- However many changes were made since a mark, the mark is still valid, and going back to it gives the tree that was
-- marked.
pub record GivesBack (a b : Tree) : Type 0 where
  pub counts : length a.earlier ≤ length b.earlier
  pub undone : (c : Tree) → timeline c ≡ take (length a.earlier + 1) (timeline b) → c ≡ a

pub record UndoLaw : Type 0 where
  pub same : (a : Tree) → IsLater a a
  pub later : (a b c : Tree) → IsLater a b → IsLater b c → IsLater a c
  pub changed : (at : List Tagged) (y : Context) (a b : Tree) → IsChanged at y a b → IsLater a b
  pub undone : (a b : Tree) → IsLater a b → GivesBack a b

-- Each change but that of a link leaves the lists chained, and a new list is chained. So does a fresh element that is
-- linked behind a place of a list.
pub record KeepsChained : Type 0 where
  pub child : (at : List Tagged) (t : Tagged) (c : Context)
      → node_at at c ≢ None → IsChained c
      → IsChained (with_node_at at (with_content t (new_content t) (context_at at c)) c)
  pub presence : (at : List Tagged) (k : Key) (s : List Id) (c : Context)
      → node_at at c ≢ None → IsChained c
      → IsChained (with_node_at at (with_presence k s (context_at at c)) c)
  pub register : (at : List Tagged) (k : Key) (r : Register) (c : Context)
      → node_at at c ≢ None → IsChained c
      → IsChained (with_node_at at (with_content (RegT k) (Values r) (context_at at c)) c)
  pub link : (at : List Tagged) (place : Key) (i : Id) (n : Next) (c : Context)
      → node_at at c ≢ None
      → next place (context_at at c) ≡ Some n
      → next (Elem i) (context_at at c) ≡ None
      → IsChained c
      → IsChained (with_node_at at (with_next (Elem i) n (with_next place (To i) (context_at at c))) c)
