-- Clearing one key after another: what was cleared so far, and what is left.
use Rattle.std.specs.Prelude.{◌≡◌, ◌≤◌, ◌⊎◌, List, [], ◌∷◌, true, not, Option}
use Rattle.std.specs.List.{AllByRecursion}
use Rattle.jc_rules.specs.declared.id.Id.{Id}
use Rattle.jc_rules.specs.declared.key.Key.{Key}
use Rattle.jc_rules.specs.declared.key.Tagged.{Tagged}
use Rattle.jc_rules.specs.Order.{key_cmp}
use Rattle.jc_rules.specs.Entries.{IsRising}
use Rattle.jc_rules.specs.Ids.{AreRising, union}
use Rattle.jc_rules.specs.Table.{is_done}
use Rattle.jc_rules.specs.Context.{Context, keys}
use Rattle.jc_rules.specs.ContextsAt.{with_node_at}
use Rattle.jc_rules.specs.Derivation.{Question, ClearMap, Cleared}
use Rattle.jc_rules.specs.Derives.{Derives}
use Rattle.jc_rules.specs.Trace.{Rows, at_depth}
use Rattle.jc_tree.specs.Tree.{Tree, here, is_after}
use Rattle.jc_clear.specs.Bare.{bare}
use Rattle.jc_clear.specs.ContentKeys.{has_content}

-- The question of the whole in the first tree, and the one that is left in the tree as it is: an answer to what is left
-- extends to one to the whole, with the identifiers and the rules so far before it.
pub record Turn (whole left : Context → Question) (at : List Tagged) (a : Tree) (t : Rows) (b : Tree) (ids : List Id) (u : Rows) : Type 0 where
  pub so_far : Context
  pub now : b.now ≡ with_node_at at so_far a.now
  pub same : bare so_far ≡ bare (here at a)
  pub rises : AreRising ids
  pub deeper : t.depth ≤ u.depth
  pub rest : (d : Context) (s : List Id) (v : Rows) → AreRising s → Derives (left so_far) (Cleared d s) u v
      → Derives (whole (here at a)) (Cleared d (union ids s)) t (at_depth t.depth v)

-- what is done are the keys up to one
abbrev pub AreDone : Option Key → List Key → List Key → Type 0
AreDone last done ks = AllByRecursion (λ k. is_done done k ≡ not (is_after last k)) ks

-- a map's keys up to the last are cleared
pub record Through (deps : List Id) (at : List Tagged) (a : Tree) (t : Rows) (b : Tree) (last : Option Key) (ids : List Id) (u : Rows) : Type 0 where
  pub done : List Key
  pub are_done : AreDone last done (keys (here at a))
  pub turn : Turn (λ c. ClearMap c deps []) (λ c. ClearMap c deps done) at a t b ids u

abbrev pub IsOneOf : List Key → Key → Type 0
IsOneOf [] k = ⊥
IsOneOf (j ∷ js) k = (j ≡ k) ⊎ IsOneOf js k

-- of the context's keys, these are left after the last one, the least first
pub record AreLeft (last : Option Key) (ks : List Key) (c : Context) : Type 0 where
  pub rise : IsRising key_cmp ks
  pub after : AllByRecursion (λ k. is_after last k ≡ true) ks
  pub among : AllByRecursion (λ k. has_content c k ≡ true) ks
  pub all : (j : Key) → IsOneOf (keys c) j → is_after last j ≡ true → IsOneOf ks j

-- these keys of a map are left
pub record ThroughKeys (deps : List Id) (at : List Tagged) (a : Tree) (t : Rows) (b : Tree) (ks : List Key) (ids : List Id) (u : Rows) : Type 0 where
  pub last : Option Key
  pub left : AreLeft last ks (here at a)
  pub through : Through deps at a t b last ids u
