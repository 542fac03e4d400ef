-- About Tree: what a change leaves at its place, one key further down, and the law of marks.
use Rattle.std.proofs.Common.{◌≡◌, List, [], ◌∷◌, ◌++◌, Option, Some, None, refl}
use Rattle.jc_rules.specs.declared.key.Tagged.{Tagged}
use Rattle.jc_rules.specs.Context.{Context, Content, Node, Values, content}
use Rattle.jc_rules.specs.ContextsAt.{at_node, node_in, node_at}
use Rattle.jc_rules.specs.History.{IsLater}
use Rattle.jc_rules.proofs.HistoryLemmas.{still, later_still, later_step, mark_counts, undone}
use Rattle.jc_tree.specs.Tree.{Tree, HasPlace, here, IsChanged}
use Rattle.jc_tree.specs.Laws.{UndoLaw}
use Rattle.jc_tree.proofs.PlacesLemmas.{then_here, then_place}
use Rattle.jc_rules.proofs.ContextLemmas.{none_some}

pub still_place : (at : List Tagged) (y : Context) (a b : Tree) → HasPlace at a → IsChanged at y a b → HasPlace at b
still_place at y a b place c = then_place at y a b place c.now

pub here_changed : (at : List Tagged) (y : Context) (a b : Tree) → HasPlace at a → IsChanged at y a b → here at b ≡ y
here_changed at y a b place c = then_here at y a b place c.now

-- one key further down
pub node-further : (ks : List Tagged) (k : Tagged) (x c : Context) → node_at ks c ≡ Some x → node_at (ks ++ k ∷ []) c ≡ node_in (content k x)
node-further [] k x c h = let same : c ≡ x = cc in rw same (last (content k x))
  where
    last : (o : Option Content) → at_node o (λ d. Some d) None ≡ node_in o
    last None = refl
    last (Some (Values r)) = refl
    last (Some (Node d)) = refl
node-further (j ∷ ks) k x c h = go (content j c) refl (λ d. node-further ks k x d) h
  where
    go : (o : Option Content) → content j c ≡ o → ((d : Context) → node_at ks d ≡ Some x → node_at (ks ++ k ∷ []) d ≡ node_in (content k x)) → node_at (j ∷ ks) c ≡ Some x → node_at (j ∷ (ks ++ k ∷ [])) c ≡ node_in (content k x)
    go None e ih f = none_some (rw e at f)
    go (Some (Values r)) e ih f = none_some (rw e at f)
    go (Some (Node d)) e ih f = rw e (ih d (rw e at f))

pub later_changed : (at : List Tagged) (y : Context) (a b : Tree) → IsChanged at y a b → IsLater a b
later_changed at y a b h = later_step a b h.earlier

pub undo_law : UndoLaw
undo_law = record {
  same = λ a. still a;
  later = λ a b c h k. later_still a b c h k;
  changed = later_changed;
  undone = λ a b h. record { counts = mark_counts a b h; undone = λ c e. undone a b c h e };
}
