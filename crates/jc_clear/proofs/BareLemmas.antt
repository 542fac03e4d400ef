-- About Bare: what clearing leaves as it is decides chains, keys and depths.
use Rattle.std.proofs.Common.{◌≡◌, suc, ◌+◌, ◌≤◌, List, [], ◌∷◌, Some, Bool, true, false, cond, refl, sym, ◌∙◌, ap, arith}
use Rattle.std.specs.Ordering.{eq_by_cmp}
use Rattle.jc_rules.specs.declared.id.Id.{Id}
use Rattle.jc_rules.specs.declared.key.Key.{Key}
use Rattle.jc_rules.specs.declared.key.Tagged.{Tagged}
use Rattle.jc_rules.specs.declared.key.Tagged.TheVariants.{MapT, ListT, RegT}
use Rattle.jc_rules.specs.Order.{key_cmp}
use Rattle.jc_rules.specs.Entries.{find, replaced, keys_of}
use Rattle.jc_rules.specs.Context.{Context, context, Children, children, no_child, child, listed, Register, Node, Values, registers, links, keys, content, with_content, with_presence}
use Rattle.jc_rules.specs.WellFormed.{IsChained, AreChained, AreLists, IsChainedList}
use Rattle.jc_rules.proofs.OrderLemmas.{keys_total, exact_keys}
use Rattle.jc_rules.proofs.EntriesLemmas.{same-eq}
use Rattle.jc_rules.proofs.ContextsAtLemmas.{node_found, children_listed}
use Rattle.jc_tree.specs.Nested.{nested, nested_in}
use Rattle.jc_tree.proofs.ChainedLemmas.{chain-same}
use Rattle.jc_tree.specs.ChainedBelow.{AreChainedBelow}
use Rattle.jc_clear.specs.Bare.{bare, bare_in, emptied}
use Rattle.jc_rules.proofs.ContextLemmas.{no_node}

links_bare : (c : Context) → links (bare c) ≡ links c
links_bare (context m l r p n) = refl

pub links-same : (c d : Context) → bare c ≡ bare d → links c ≡ links d
links-same c d e = sym (links_bare c) ∙ ap links e ∙ links_bare d

keys_of-bare : (cs : Children) → keys_of (listed (bare_in cs)) ≡ keys_of (listed cs)
keys_of-bare no_child = refl
keys_of-bare (child k c cs) = ap (λ ks. k ∷ ks) (keys_of-bare cs)

keys_of-emptied : (es : List (Key × Register)) → keys_of (emptied es) ≡ keys_of es
keys_of-emptied [] = refl
keys_of-emptied (e ∷ es) = ap (λ ks. e.0 ∷ ks) (keys_of-emptied es)

keys-bare : (c : Context) → keys (bare c) ≡ keys c
keys-bare (context m l r p n) = rw (keys_of-bare m, keys_of-bare l, keys_of-emptied r) refl

pub keys-same : (c d : Context) → bare c ≡ bare d → keys c ≡ keys d
keys-same c d e = sym (keys-bare c) ∙ ap keys e ∙ keys-bare d

mutual
  nested-bare : (c : Context) → nested (bare c) ≡ nested c
  nested-bare (context m l r p n) = rw (nested_in-bare m, nested_in-bare l) refl

  nested_in-bare : (cs : Children) → nested_in (bare_in cs) ≡ nested_in cs
  nested_in-bare no_child = refl
  nested_in-bare (child k c cs) = rw (nested-bare c, nested_in-bare cs) refl

pub nested-same : (c d : Context) → bare c ≡ bare d → nested c ≡ nested d
nested-same c d e = sym (nested-bare c) ∙ ap nested e ∙ nested-bare d

-- a context is chained where it is without its values
mutual
  chained-bare : (c : Context) → (IsChained c → IsChained (bare c)) × (IsChained (bare c) → IsChained c)
  chained-bare (context m l r p n) =
      let on_maps = in_maps-bare m in
      let on_lists = in_lists-bare l in
      (λ h. (h.0, on_maps.0 h.1, on_lists.0 h.2), λ h. (h.0, on_maps.1 h.1, on_lists.1 h.2))

  list-bare : (c : Context) → (IsChainedList c → IsChainedList (bare c)) × (IsChainedList (bare c) → IsChainedList c)
  list-bare (context m l r p n) =
      let on_maps = in_maps-bare m in
      let on_lists = in_lists-bare l in
      let c = context m l r p n in
      let d = context (bare_in m) (bare_in l) (emptied r) [] n in
      (λ h. ((h.0.0, chain-same c d h.0.0 refl h.0.1), on_maps.0 h.1, on_lists.0 h.2), λ h. ((h.0.0, chain-same d c h.0.0 refl h.0.1), on_maps.1 h.1, on_lists.1 h.2))

  in_maps-bare : (cs : Children) → (AreChained cs → AreChained (bare_in cs)) × (AreChained (bare_in cs) → AreChained cs)
  in_maps-bare no_child = (λ h. tt, λ h. tt)
  in_maps-bare (child k c cs) =
      let first = chained-bare c in
      let rest = in_maps-bare cs in
      (λ h. (first.0 h.0, rest.0 h.1), λ h. (first.1 h.0, rest.1 h.1))

  in_lists-bare : (cs : Children) → (AreLists cs → AreLists (bare_in cs)) × (AreLists (bare_in cs) → AreLists cs)
  in_lists-bare no_child = (λ h. tt, λ h. tt)
  in_lists-bare (child k c cs) =
      let first = list-bare c in
      let rest = in_lists-bare cs in
      (λ h. (first.0 h.0, rest.0 h.1), λ h. (first.1 h.0, rest.1 h.1))

pub chained-same : (c d : Context) → bare c ≡ bare d → IsChained c → IsChained d
chained-same c d e h =
    let b : IsChained (bare d) = rw e at (chained-bare c).0 h in
    (chained-bare d).1 b

below-bare : (c : Context) → (AreChainedBelow c → AreChainedBelow (bare c)) × (AreChainedBelow (bare c) → AreChainedBelow c)
below-bare (context m l r p n) =
    let on_maps = in_maps-bare m in
    let on_lists = in_lists-bare l in
    (λ h. (on_maps.0 h.0, on_lists.0 h.1), λ h. (on_maps.1 h.0, on_lists.1 h.1))

pub below-same : (c d : Context) → bare c ≡ bare d → AreChainedBelow c → AreChainedBelow d
below-same c d e h =
    let b : AreChainedBelow (bare d) = rw e at (below-bare c).0 h in
    (below-bare d).1 b

nested_found : (k : Key) (cs : Children) (d : Context) → find key_cmp k (listed cs) ≡ Some d → suc (nested d) ≤ nested_in cs
nested_found k no_child d h = cc
nested_found k (child j c cs) d h = go (eq_by_cmp key_cmp k j) refl (nested_found k cs d) h
  where
    go : (b : Bool) → eq_by_cmp key_cmp k j ≡ b → (find key_cmp k (listed cs) ≡ Some d → suc (nested d) ≤ nested_in cs) → cond (eq_by_cmp key_cmp k j) (Some c) (find key_cmp k (listed cs)) ≡ Some d → suc (nested d) ≤ suc (nested c) + nested_in cs
    go true e ih g = let f : Some c ≡ Some d = rw e at g in let s : c ≡ d = cc in rw s (omega arith)
    go false e ih g = omega (arith, ih (rw e at g))

pub nested_below : (t : Tagged) (c d : Context) → content t c ≡ Some (Node d) → suc (nested d) ≤ nested c
nested_below (MapT k) (context m l r p n) d e = omega (arith, nested_found k m d (node_found _ d e))
nested_below (ListT k) (context m l r p n) d e = omega (arith, nested_found k l d (node_found _ d e))
nested_below (RegT k) c d e = no_node (find key_cmp k (registers c)) d e

bare-listed : (cs : Children) → bare_in (children (listed cs)) ≡ bare_in cs
bare-listed cs = ap bare_in (children_listed cs)

-- another context with the same keys and links in its place
bare-replaced : (k : Key) (d e : Context) (cs : Children) → find key_cmp k (listed cs) ≡ Some d → bare e ≡ bare d → bare_in (children (replaced key_cmp k e (listed cs))) ≡ bare_in cs
bare-replaced k d e no_child h s = refl
bare-replaced k d e (child j c cs) h s = go (eq_by_cmp key_cmp k j) refl (λ f. bare-replaced k d e cs f s) h
  where
    go : (b : Bool) → eq_by_cmp key_cmp k j ≡ b → (find key_cmp k (listed cs) ≡ Some d → bare_in (children (replaced key_cmp k e (listed cs))) ≡ bare_in cs) → cond (eq_by_cmp key_cmp k j) (Some c) (find key_cmp k (listed cs)) ≡ Some d → bare_in (children (cond (eq_by_cmp key_cmp k j) ((k, e) ∷ listed cs) ((j, c) ∷ replaced key_cmp k e (listed cs)))) ≡ child j (bare c) (bare_in cs)
    go true q ih g =
        let f : Some c ≡ Some d = rw q at g in
        let same : c ≡ d = cc in
        let key : k ≡ j = same-eq keys_total exact_keys k j q in
        rw (q, s, ← same, ← key, bare-listed cs) refl
    go false q ih g = rw q (ap (λ x. child j (bare c) x) (ih (rw q at g)))

pub bare-with : (t : Tagged) (c d e : Context) → content t c ≡ Some (Node d) → bare e ≡ bare d → bare (with_content t (Node e) c) ≡ bare c
bare-with (MapT k) (context m l r p n) d e h s =
    let f : find key_cmp k (listed m) ≡ Some d = node_found _ d h in
    rw (f, bare-replaced k d e m f s) refl
bare-with (ListT k) (context m l r p n) d e h s =
    let f : find key_cmp k (listed l) ≡ Some d = node_found _ d h in
    rw (f, bare-replaced k d e l f s) refl
bare-with (RegT k) c d e h s = no_node (find key_cmp k (registers c)) d h

emptied-replaced : (k : Key) (v : Register) (es : List (Key × Register)) → emptied (replaced key_cmp k v es) ≡ emptied es
emptied-replaced k v [] = refl
emptied-replaced k v (e ∷ es) = go (eq_by_cmp key_cmp k e.0) refl (emptied-replaced k v es)
  where
    go : (b : Bool) → eq_by_cmp key_cmp k e.0 ≡ b → emptied (replaced key_cmp k v es) ≡ emptied es → emptied (replaced key_cmp k v (e ∷ es)) ≡ emptied (e ∷ es)
    go true q ih = let key : k ≡ e.0 = same-eq keys_total exact_keys k e.0 q in rw (q, key) refl
    go false q ih = rw q (ap (λ r. (e.0, []) ∷ r) ih)

pub bare-register : (k : Key) (v w : Register) (c : Context) → find key_cmp k (registers c) ≡ Some w → bare (with_content (RegT k) (Values v) c) ≡ bare c
bare-register k v w (context m l r p n) h = rw (h, emptied-replaced k v r) refl

pub bare-presence : (k : Key) (s : List Id) (c : Context) → bare (with_presence k s c) ≡ bare c
bare-presence k s (context m l r p n) = refl
