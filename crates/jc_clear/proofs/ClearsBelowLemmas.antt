-- About Bare: below a place of a chained content lists are chained, and the content stays chained.
use Rattle.std.proofs.Common.{◌≡◌, List, [], ◌∷◌, Option, Some, None, refl, sym, ◌∙◌, ap}
use Rattle.jc_rules.specs.declared.key.Tagged.{Tagged}
use Rattle.jc_rules.specs.Context.{Context, Content, Node, Values, content}
use Rattle.jc_rules.specs.WellFormed.{IsChained}
use Rattle.jc_rules.specs.ContextsAt.{node_at, with_node_at}
use Rattle.jc_rules.proofs.ContextsAtLemmas.{there}
use Rattle.jc_tree.specs.Tree.{Tree, HasPlace, here}
use Rattle.jc_tree.specs.ChainedBelow.{AreChainedBelow}
use Rattle.jc_clear.specs.Bare.{bare}
use Rattle.jc_tree.proofs.ChainedBelowLemmas.{below-chained, child_below}
use Rattle.jc_clear.proofs.BareLemmas.{bare-with, chained-same}

-- what is chained below the content is chained below a place
chained_node : (ks : List Tagged) (c d : Context) → node_at ks c ≡ Some d → AreChainedBelow c → AreChainedBelow d
chained_node [] c d e h = let s : c ≡ d = cc in rw s at h
chained_node (k ∷ ks) c d e h = go (content k c) refl (λ x. chained_node ks x d) e
  where
    go : (o : Option Content) → content k c ≡ o → ((x : Context) → node_at ks x ≡ Some d → AreChainedBelow x → AreChainedBelow d) → node_at (k ∷ ks) c ≡ Some d → AreChainedBelow d
    go None q ih g = let f : None ≡ Some d = rw q at g in cc
    go (Some (Values r)) q ih g = let f : None ≡ Some d = rw q at g in cc
    go (Some (Node x)) q ih g = ih x (rw q at g) (child_below k c x q h)

pub chained_here : (at : List Tagged) (a : Tree) → HasPlace at a → IsChained a.now → AreChainedBelow (here at a)
chained_here at a p h = chained_node at a.now (here at a) (there at a.now p) (below-chained a.now h)

bare_node : (ks : List Tagged) (c d e : Context) → node_at ks c ≡ Some d → bare e ≡ bare d → bare (with_node_at ks e c) ≡ bare c
bare_node [] c d e h s = let f : c ≡ d = cc in s ∙ ap bare (sym f)
bare_node (k ∷ ks) c d e h s = go (content k c) refl (λ x g. bare_node ks x d e g s) h
  where
    go : (o : Option Content) → content k c ≡ o → ((x : Context) → node_at ks x ≡ Some d → bare (with_node_at ks e x) ≡ bare x) → node_at (k ∷ ks) c ≡ Some d → bare (with_node_at (k ∷ ks) e c) ≡ bare c
    go None q ih g = let f : None ≡ Some d = rw q at g in cc
    go (Some (Values r)) q ih g = let f : None ≡ Some d = rw q at g in cc
    go (Some (Node x)) q ih g = rw q (bare-with k c x (with_node_at ks e x) q (ih x (rw q at g)))

-- what keeps its keys and links at a place keeps them as a whole
bare_changed : (at : List Tagged) (y : Context) (a b : Tree) → HasPlace at a → b.now ≡ with_node_at at y a.now → bare y ≡ bare (here at a) → bare b.now ≡ bare a.now
bare_changed at y a b p e s = ap bare e ∙ bare_node at a.now (here at a) y (there at a.now p) s

pub still_chained : (at : List Tagged) (y : Context) (a b : Tree) → HasPlace at a → b.now ≡ with_node_at at y a.now → bare y ≡ bare (here at a) → IsChained a.now → IsChained b.now
still_chained at y a b p e s h = chained-same a.now b.now (sym (bare_changed at y a b p e s)) h
