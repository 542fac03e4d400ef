-- About ChainedBelow: what is chained one key further down, and that a place where a key is linked is a chained list.
use Rattle.std.proofs.Common.{◌≡◌, List, [], ◌∷◌, Option, Some, None, refl, subst}
use Rattle.jc_rules.specs.declared.key.Key.{Key}
use Rattle.jc_rules.specs.declared.key.Next.{Next}
use Rattle.jc_rules.specs.declared.key.Tagged.{Tagged}
use Rattle.jc_rules.specs.declared.key.Tagged.TheVariants.{MapT, ListT, RegT}
use Rattle.jc_rules.specs.Order.{key_cmp}
use Rattle.jc_rules.specs.Entries.{find}
use Rattle.jc_rules.specs.Context.{Context, context, listed, Content, Node, Values, registers, content, next}
use Rattle.jc_rules.specs.ContextsAt.{node_at}
use Rattle.jc_rules.specs.WellFormed.{IsChained, IsChainedList}
use Rattle.jc_rules.proofs.OrderLemmas.{keys_total, exact_keys}
use Rattle.jc_rules.proofs.EntriesLemmas.{value-found}
use Rattle.jc_rules.proofs.ContextLemmas.{no_node}
use Rattle.jc_rules.proofs.ContextsAtLemmas.{there, node_found}
use Rattle.jc_tree.specs.Tree.{Tree, HasPlace, here}
use Rattle.jc_tree.specs.ChainedBelow.{AreChainedBelow}
use Rattle.jc_tree.proofs.ChainedLemmas.{each_chained, each_list}

pub below-chained : (c : Context) → IsChained c → AreChainedBelow c
below-chained (context m l r p n) h = (h.1, h.2)

pub below-list : (c : Context) → IsChainedList c → AreChainedBelow c
below-list (context m l r p n) h = (h.1, h.2)

-- a map or a list one key further down
pub map_below : (k : Key) (c d : Context) → content (MapT k) c ≡ Some (Node d) → AreChainedBelow c → IsChained d
map_below k (context m l r p n) d e h = value-found keys_total exact_keys IsChained k d (listed m) (each_chained m h.0) (node_found _ d e)

pub list_below : (k : Key) (c d : Context) → content (ListT k) c ≡ Some (Node d) → AreChainedBelow c → IsChainedList d
list_below k (context m l r p n) d e h = value-found keys_total exact_keys IsChainedList k d (listed l) (each_list l h.1) (node_found _ d e)

pub child_below : (t : Tagged) (c d : Context) → content t c ≡ Some (Node d) → AreChainedBelow c → AreChainedBelow d
child_below (MapT k) c d e h = below-chained d (map_below k c d e h)
child_below (ListT k) c d e h = below-list d (list_below k c d e h)
child_below (RegT k) c d e h = no_node (find key_cmp k (registers c)) d e

pub no_links : (k : Key) (n : Next) (c : Context) → IsChained c → next k c ≡ Some n → ⊥
no_links k n (context m l r p ns) h e = let f : None ≡ Some n = rw h.0 at e in cc

-- a place where a key is linked is a list
list_node : (ks : List Tagged) (k : Key) (n : Next) (c d : Context) → node_at ks c ≡ Some d → next k d ≡ Some n → (IsChained c → IsChainedList d) × (IsChainedList c → IsChainedList d)
list_node [] k n c d e f =
    let same : c ≡ d = cc in
    (λ h. absurd (no_links k n d (subst IsChained same h) f), λ h. subst IsChainedList same h)
list_node (t ∷ ts) k n c d e f = go t (content t c) refl (λ x g. list_node ts k n x d g f) e
  where
    go : (j : Tagged) (o : Option Content) → content j c ≡ o → ((x : Context) → node_at ts x ≡ Some d → (IsChained x → IsChainedList d) × (IsChainedList x → IsChainedList d)) → node_at (j ∷ ts) c ≡ Some d → (IsChained c → IsChainedList d) × (IsChainedList c → IsChainedList d)
    go j None p ih g = let no : None ≡ Some d = rw p at g in cc
    go j (Some (Values r)) p ih g = let no : None ≡ Some d = rw p at g in cc
    go (MapT i) (Some (Node x)) p ih g =
        let one_deeper = ih x (rw p at g) in
        (λ h. one_deeper.0 (map_below i c x p (below-chained c h)), λ h. one_deeper.0 (map_below i c x p (below-list c h)))
    go (ListT i) (Some (Node x)) p ih g =
        let one_deeper = ih x (rw p at g) in
        (λ h. one_deeper.1 (list_below i c x p (below-chained c h)), λ h. one_deeper.1 (list_below i c x p (below-list c h)))
    go (RegT i) (Some (Node x)) p ih g = no_node (find key_cmp i (registers c)) x p

pub list_here : (at : List Tagged) (k : Key) (n : Next) (a : Tree) → HasPlace at a → next k (here at a) ≡ Some n → IsChained a.now → IsChainedList (here at a)
list_here at k n a p e h = (list_node at k n a.now (here at a) (there at a.now p) e).0 h
