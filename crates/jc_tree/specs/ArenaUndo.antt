-- The earlier contents of the fast store, by its undo records.
use Rattle.std.specs.Prelude.{◌≡◌, ℕ, ◌<◌, List, [], ◌∷◌, length, Some, slice_set}
use Rattle.std.specs.Coded.{Coded-set, le_prop, ×_prop, Unit-prop, coded_ℕ}
use Rattle.jc_rules.specs.declared.key.Key.{Key}
use Rattle.jc_rules.specs.declared.key.Tagged.{Tagged}
use Rattle.jc_rules.specs.contracts.key.Tagged.{the_row as tagged_row}
use Rattle.jc_rules.specs.Order.{key_cmp}
use Rattle.jc_rules.specs.Entries.{keys_of}
use Rattle.jc_rules.specs.Context.{Context}
use Rattle.jc_rules.specs.WellFormed.{IsWellFormedContext}
use Rattle.jc_tree.specs.Sorted.{AreSorted}
use Rattle.jc_tree.specs.Single.{IsKept-single, IsRising-single}
use Rattle.jc_tree.specs.Tree.{Tree}
use Rattle.jc_tree.specs.Arena.{Flat, flat_at, content_of_arena, IsSoundArena, restored_flat, walk}
use Rattle.jc_tree.specs.declared.node.Former.{Former}
use Rattle.jc_tree.specs.declared.node.Former.TheVariants as F
use Rattle.jc_tree.specs.declared.arena.Undo.{Undo}

abbrev pub without_last : List Flat → List Flat
without_last [] = []
without_last (n ∷ []) = []
without_last (n ∷ m ∷ ns) = n ∷ without_last (m ∷ ns)

-- without the node that a change made
abbrev pub fewer : Former → List Flat → List Flat
fewer (F.Map k) ns = without_last ns
fewer (F.List k) ns = without_last ns
fewer _ ns = ns

abbrev pub restored_in : ℕ → Former → List Flat → List Flat
restored_in i f ns = slice_set ns i (restored_flat f (flat_at ns i))

-- the nodes before a change
abbrev pub arena_undone_once : Undo → List Flat → List Flat
arena_undone_once u ns = restored_in u.node u.former (fewer u.former ns)

-- the nodes before all the changes of these undo records, the latest last
abbrev pub arena_undone : List Undo → List Flat → List Flat
arena_undone [] ns = ns
arena_undone (u ∷ us) ns = arena_undone_once u (arena_undone us ns)

-- the contents before each of these changes, the oldest first
abbrev pub arena_contents : List Undo → List Flat → List Context
arena_contents [] ns = []
arena_contents (u ∷ us) ns = content_of_arena (arena_undone (u ∷ us) ns) ∷ arena_contents us ns

abbrev pub tree_of_arena : List Flat → List Undo → Tree
tree_of_arena ns us = record { now = content_of_arena ns; earlier = arena_contents us ns }

-- each path leads to a number in the first that it leads to in the second, if it leads to one
abbrev pub AreOldNumbers : List Flat → List Flat → Type 0
AreOldNumbers ms ns = (at : List Tagged) (i : ℕ) → walk ms 0 at ≡ Some i → walk ns 0 at ≡ Some i

-- nodes that are there, sound, and of a kept content
pub record IsGood (ns : List Flat) : Type 0 where
  pub some : 0 < length ns
  pub sound : IsSoundArena ns
  pub kept : IsWellFormedContext (content_of_arena ns)

-- so at each earlier time
abbrev pub AreGood : List Undo → List Flat → Type 0
AreGood [] ns = Unit {0}
AreGood (u ∷ us) ns = IsGood (arena_undone (u ∷ us) ns) × AreGood us ns

AreSorted-single : {X : Type 0} (es : List (Key × X)) → IsProp (AreSorted es)
AreSorted-single es = IsRising-single key_cmp (keys_of es)

-- each of these has one proof
pub IsSound-single : (ns : List Flat) → IsProp (IsSoundArena ns)
IsSound-single ns = λ x y i. record {
  inner = λ a b t e. ×_prop le_prop le_prop (x.inner a b t e) (y.inner a b t e) i;
  once = λ a u b t s e f.
      ×_prop (Coded-set coded_ℕ _ _) (Coded-set tagged_row.coded _ _) (x.once a u b t s e f) (y.once a u b t s e f) i;
  maps_rise = λ a. AreSorted-single (flat_at ns a).maps (x.maps_rise a) (y.maps_rise a) i;
  lists_rise = λ a. AreSorted-single (flat_at ns a).lists (x.lists_rise a) (y.lists_rise a) i;
}

pub IsGood-single : (ns : List Flat) → IsProp (IsGood ns)
IsGood-single ns = λ x y i. record {
  some = le_prop x.some y.some i;
  sound = IsSound-single ns x.sound y.sound i;
  kept = IsKept-single (content_of_arena ns) x.kept y.kept i;
}

pub AreGood-single : (us : List Undo) (ns : List Flat) → IsProp (AreGood us ns)
AreGood-single [] ns = Unit-prop
AreGood-single (u ∷ us) ns = ×_prop (IsGood-single (arena_undone (u ∷ us) ns)) (AreGood-single us ns)
