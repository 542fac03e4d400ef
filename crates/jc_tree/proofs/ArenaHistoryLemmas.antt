-- About ArenaUndo: the earlier contents of an arena after a change and after an undo.
use Rattle.std.proofs.Common.{◌≡◌, suc, ◌+◌, length, take, add-one, List, [], ◌∷◌, ◌++◌, refl, sym, ◌∙◌, ap, subst}
use Rattle.jc_rules.specs.declared.key.Tagged.{Tagged}
use Rattle.jc_rules.specs.Context.{Context}
use Rattle.jc_tree.specs.Tree.{IsChanged}
use Rattle.jc_tree.specs.Arena.{Flat, content_of_arena}
use Rattle.jc_tree.specs.ArenaUndo.{IsGood, AreGood, arena_undone_once, arena_undone, arena_contents, tree_of_arena}
use Rattle.jc_tree.specs.declared.arena.Undo.{Undo}
use Rattle.jc_tree.proofs.ArenaChangesLemmas.{Changes}
use Rattle.jc_tree.proofs.UndoLemmas.{shorter, all_of}

-- the latest change is taken back first
undone_latest : (us : List Undo) (u : Undo) (ns : List Flat) → arena_undone (us ++ u ∷ []) ns ≡ arena_undone us (arena_undone_once u ns)
undone_latest [] u ns = refl
undone_latest (v ∷ us) u ns = ap (λ l. arena_undone_once v l) (undone_latest us u ns)

pub contents_latest : (us : List Undo) (u : Undo) (ns : List Flat) → arena_contents (us ++ u ∷ []) ns ≡ arena_contents us (arena_undone_once u ns) ++ content_of_arena (arena_undone_once u ns) ∷ []
contents_latest [] u ns = refl
contents_latest (v ∷ us) u ns = rw (undone_latest us u ns, contents_latest us u ns) refl

pub good_latest : (us : List Undo) (u : Undo) (ns : List Flat) → AreGood (us ++ u ∷ []) ns → AreGood us (arena_undone_once u ns) × IsGood (arena_undone_once u ns)
good_latest [] u ns h = (tt, h.0)
good_latest (v ∷ us) u ns h = let rest = good_latest us u ns h.1 in ((subst (λ l. IsGood (arena_undone_once v l)) (undone_latest us u ns) h.0, rest.0), rest.1)

good_with : (us : List Undo) (u : Undo) (ns : List Flat) → AreGood us (arena_undone_once u ns) → IsGood (arena_undone_once u ns) → AreGood (us ++ u ∷ []) ns
good_with [] u ns h g = (g, tt)
good_with (v ∷ us) u ns h g = (subst (λ l. IsGood (arena_undone_once v l)) (sym (undone_latest us u ns)) h.0, good_with us u ns h.1 g)

-- so is a history with one more
pub good_pushed : (us : List Undo) (u : Undo) (ns ms : List Flat) → AreGood us ns → IsGood ns → arena_undone_once u ms ≡ ns → AreGood (us ++ u ∷ []) ms
good_pushed us u ns ms h g e = good_with us u ms (subst (λ l. AreGood us l) (sym e) h) (subst (λ l. IsGood l) (sym e) g)

pub length_contents : (us : List Undo) (ns : List Flat) → length (arena_contents us ns) ≡ length us
length_contents [] ns = refl
length_contents (u ∷ us) ns = ap suc (length_contents us ns)

-- after a change, with what takes it back pushed
pub changed_tree : (ns ms : List Flat) (us ws : List Undo) (u : Undo) (at : List Tagged) (y : Context) → Changes ns ms at y u.node u.former → ws ≡ us ++ u ∷ [] → IsChanged at y (tree_of_arena ns us) (tree_of_arena ms ws)
changed_tree ns ms us ws u at y c e = record {
  now = c.content;
  earlier = ap (λ l. arena_contents l ms) e ∙ contents_latest us u ms ∙ ap (λ l. arena_contents us l ++ content_of_arena l ∷ []) c.back;
}

-- the beginning of a history, by one content shorter
pub once_shorter : (us : List Undo) (ns : List Flat) (all : List Context) → arena_contents us ns ++ content_of_arena ns ∷ [] ≡ take (length us + 1) all → arena_contents us ns ≡ take (length us) all
once_shorter us ns all e =
    let n : length (arena_contents us ns) ≡ length us = length_contents us ns in
    rw n at (shorter (arena_contents us ns) (content_of_arena ns) all (e ∙ rw (n, add-one) refl))

pub whole : (us : List Undo) (ns : List Flat) → arena_contents us ns ++ content_of_arena ns ∷ [] ≡ take (length us + 1) (arena_contents us ns ++ content_of_arena ns ∷ [])
whole us ns = sym (subst (λ n. take (n + 1) (arena_contents us ns ++ content_of_arena ns ∷ []) ≡ arena_contents us ns ++ content_of_arena ns ∷ []) (length_contents us ns) (rw add-one (all_of (arena_contents us ns) (content_of_arena ns))))
