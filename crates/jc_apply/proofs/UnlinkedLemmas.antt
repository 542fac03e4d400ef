-- About Fits: which identifiers are linked, at every depth.
use Rattle.std.proofs.Common.{◌≡◌, ◌≢◌, List, [], ◌∷◌, Option, Some, None, Bool, true, false, refl, sym, ◌∙◌}
use Rattle.std.specs.List.{AllByRecursion}
use Rattle.std.specs.Ordering.{eq_by_cmp}
use Rattle.std.specs.declared.cmp.Ordering.{Ordering}
use Rattle.std.specs.declared.cmp.Ordering.TheVariants.{Less, Equal, Greater}
use Rattle.jc_rules.specs.declared.id.Id.{Id}
use Rattle.jc_rules.specs.declared.key.Key.{Key}
use Rattle.jc_rules.specs.declared.key.Key.TheVariants.{Elem}
use Rattle.jc_rules.specs.declared.key.Next.{Next}
use Rattle.jc_rules.specs.declared.key.Next.TheVariants.{Elem as To}
use Rattle.jc_rules.specs.declared.key.Tagged.{Tagged}
use Rattle.jc_rules.specs.declared.key.Tagged.TheVariants.{MapT, ListT, RegT}
use Rattle.jc_rules.specs.Order.{key_cmp}
use Rattle.jc_rules.specs.Entries.{find, if_found, replaced, placed, put}
use Rattle.jc_rules.specs.Context.{Context, context, Children, no_child, child, children, listed, Register, Content, Node, Values, values_of, content, with_content, new_content, with_presence, next, with_next, empty, empty_list}
use Rattle.jc_rules.specs.ContextsAt.{node_at, with_node_at}
use Rattle.jc_rules.proofs.OrderLemmas.{keys_total, exact_keys}
use Rattle.jc_rules.proofs.EntriesLemmas.{values-put, value-found}
use Rattle.jc_rules.proofs.ContextsAtLemmas.{node_found, there}
use Rattle.jc_tree.specs.Tree.{Tree, HasPlace, here}
use Rattle.jc_rules.proofs.KeyedEntriesLemmas.{not_found}
use Rattle.jc_clear.specs.Bare.{bare, bare_in}
use Rattle.jc_apply.specs.Fits.{IsUnlinked, AreUnlinked}

module _ (i : Id) where
  each_unlinked : (cs : Children) → AreUnlinked i cs → AllByRecursion (λ e. IsUnlinked i e.1) (listed cs)
  each_unlinked no_child h = tt
  each_unlinked (child k c cs) h = (h.0, each_unlinked cs h.1)

  unlinked_each : (es : List (Key × Context)) → AllByRecursion (λ e. IsUnlinked i e.1) es → AreUnlinked i (children es)
  unlinked_each [] h = tt
  unlinked_each (e ∷ es) h = (h.0, unlinked_each es h.1)

  unlinked-put : (k : Key) (d : Context) (cs : Children) → AreUnlinked i cs → IsUnlinked i d → AreUnlinked i (children (put key_cmp k d (listed cs)))
  unlinked-put k d cs h g = unlinked_each (put key_cmp k d (listed cs)) (values-put keys_total exact_keys (IsUnlinked i) k d (listed cs) g (each_unlinked cs h))

  no_node : {A : Type 0} (x : Option Register) (d : Context) → values_of x ≡ Some (Node d) → A
  no_node None d h = cc
  no_node (Some v) d h = cc

  pub unlinked_child : (t : Tagged) (c d : Context) → content t c ≡ Some (Node d) → IsUnlinked i c → IsUnlinked i d
  unlinked_child (MapT k) (context m l r p n) d e h = value-found keys_total exact_keys (IsUnlinked i) k d (listed m) (each_unlinked m h.1) (node_found _ d e)
  unlinked_child (ListT k) (context m l r p n) d e h = value-found keys_total exact_keys (IsUnlinked i) k d (listed l) (each_unlinked l h.2) (node_found _ d e)
  unlinked_child (RegT k) (context m l r p n) d e h = no_node (find key_cmp k r) d e

  unlinked-with : (t : Tagged) (c d : Context) → IsUnlinked i c → IsUnlinked i d → IsUnlinked i (with_content t (Node d) c)
  unlinked-with (MapT k) (context m l r p n) d h g = (h.0, unlinked-put k d m h.1 g, h.2)
  unlinked-with (ListT k) (context m l r p n) d h g = (h.0, h.1, unlinked-put k d l h.2 g)
  unlinked-with (RegT k) (context m l r p n) d h g = h

  unlinked-node : (ks : List Tagged) (c d : Context) → IsUnlinked i c → node_at ks c ≡ Some d → IsUnlinked i d
  unlinked-node [] c d h e = let same : c ≡ d = cc in rw (← same) h
  unlinked-node (k ∷ ks) c d h e = go (content k c) refl (λ b f. unlinked-node ks b d f) e
    where
      go : (o : Option Content) → content k c ≡ o → ((b : Context) → IsUnlinked i b → node_at ks b ≡ Some d → IsUnlinked i d) → node_at (k ∷ ks) c ≡ Some d → IsUnlinked i d
      go None f ih g = let no : None ≡ Some d = rw f at g in cc
      go (Some (Values r)) f ih g = let no : None ≡ Some d = rw f at g in cc
      go (Some (Node b)) f ih g = ih b (unlinked_child k c b f h) (rw f at g)

  unlinked-with_node : (ks : List Tagged) (y c : Context) → IsUnlinked i c → IsUnlinked i y → IsUnlinked i (with_node_at ks y c)
  unlinked-with_node [] y c h g = g
  unlinked-with_node (k ∷ ks) y c h g = go (content k c) refl (λ b f. unlinked-with_node ks y b f g)
    where
      go : (o : Option Content) → content k c ≡ o → ((b : Context) → IsUnlinked i b → IsUnlinked i (with_node_at ks y b)) → IsUnlinked i (with_node_at (k ∷ ks) y c)
      go None f ih = rw f h
      go (Some (Values r)) f ih = rw f h
      go (Some (Node b)) f ih = rw f (unlinked-with k c (with_node_at ks y b) h (ih b (unlinked_child k c b f h)))

  -- at a place
  pub unlinked_here : (at : List Tagged) (a : Tree) → HasPlace at a → IsUnlinked i a.now → IsUnlinked i (here at a)
  unlinked_here at a p h = unlinked-node at a.now (here at a) h (there at a.now p)

  -- after another context was put at a place
  pub unlinked_now : (at : List Tagged) (y : Context) (a b : Tree) → b.now ≡ with_node_at at y a.now → IsUnlinked i y → IsUnlinked i a.now → IsUnlinked i b.now
  unlinked_now at y a b e g h = rw e (unlinked-with_node at y a.now h g)

  -- after changes of one context
  pub unlinked-new : (t : Tagged) (c : Context) → IsUnlinked i c → IsUnlinked i (with_content t (new_content t) c)
  unlinked-new (MapT k) c h = unlinked-with (MapT k) c empty h (tt, tt, tt)
  unlinked-new (ListT k) c h = unlinked-with (ListT k) c empty_list h ((λ e. cc, tt), tt, tt)
  unlinked-new (RegT k) (context m l r p n) h = h

  pub unlinked-presence : (k : Key) (s : List Id) (c : Context) → IsUnlinked i c → IsUnlinked i (with_presence k s c)
  unlinked-presence k s (context m l r p n) h = h

  pub unlinked-register : (k : Key) (v : Register) (c : Context) → IsUnlinked i c → IsUnlinked i (with_content (RegT k) (Values v) c)
  unlinked-register k v (context m l r p n) h = h

  -- links alone tell
  mutual
    unlinked-bare : (c : Context) → (IsUnlinked i c → IsUnlinked i (bare c)) × (IsUnlinked i (bare c) → IsUnlinked i c)
    unlinked-bare (context m l r p n) =
        let on_maps = all-bare m in
        let on_lists = all-bare l in
        (λ h. (h.0, on_maps.0 h.1, on_lists.0 h.2), λ h. (h.0, on_maps.1 h.1, on_lists.1 h.2))

    all-bare : (cs : Children) → (AreUnlinked i cs → AreUnlinked i (bare_in cs)) × (AreUnlinked i (bare_in cs) → AreUnlinked i cs)
    all-bare no_child = (λ h. tt, λ h. tt)
    all-bare (child k c cs) =
        let first = unlinked-bare c in
        let rest = all-bare cs in
        (λ h. (first.0 h.0, rest.0 h.1), λ h. (first.1 h.0, rest.1 h.1))

  pub unlinked-same : (c d : Context) → bare d ≡ bare c → IsUnlinked i c → IsUnlinked i d
  unlinked-same c d e h =
      let b : IsUnlinked i (bare d) = rw e ((unlinked-bare c).0 h) in
      (unlinked-bare d).1 b

-- an identifier that isn't linked has nothing behind it
pub no_next : (i : Id) (c : Context) → IsUnlinked i c → next (Elem i) c ≡ None
no_next i (context m l r p n) h = not_found (Elem i) n h.0

others-replaced : (i : Id) (k : Key) (x : Next) (es : List (Key × Next)) → k ≢ Elem i → AllByRecursion (λ e. e.0 ≢ Elem i) es → AllByRecursion (λ e. e.0 ≢ Elem i) (replaced key_cmp k x es)
others-replaced i k x [] h a = tt
others-replaced i k x (e ∷ es) h a = go (eq_by_cmp key_cmp k e.0) refl (others-replaced i k x es h a.1)
  where
    go : (b : Bool) → eq_by_cmp key_cmp k e.0 ≡ b → AllByRecursion (λ e. e.0 ≢ Elem i) (replaced key_cmp k x es) → AllByRecursion (λ e. e.0 ≢ Elem i) (replaced key_cmp k x (e ∷ es))
    go true p ih = rw p (h, a.1)
    go false p ih = rw p (a.0, ih)

others-placed : (i : Id) (k : Key) (x : Next) (es : List (Key × Next)) → k ≢ Elem i → AllByRecursion (λ e. e.0 ≢ Elem i) es → AllByRecursion (λ e. e.0 ≢ Elem i) (placed key_cmp k x es)
others-placed i k x [] h a = (h, tt)
others-placed i k x (e ∷ es) h a = go (key_cmp k e.0) refl (others-placed i k x es h a.1)
  where
    go : (o : Ordering) → key_cmp k e.0 ≡ o → AllByRecursion (λ e. e.0 ≢ Elem i) (placed key_cmp k x es) → AllByRecursion (λ e. e.0 ≢ Elem i) (placed key_cmp k x (e ∷ es))
    go Less p ih = rw p (h, a)
    go Equal p ih = rw p (h, a)
    go Greater p ih = rw p (a.0, ih)

others-put : (i : Id) (k : Key) (x : Next) (es : List (Key × Next)) → k ≢ Elem i → AllByRecursion (λ e. e.0 ≢ Elem i) es → AllByRecursion (λ e. e.0 ≢ Elem i) (put key_cmp k x es)
others-put i k x es h a = go (find key_cmp k es)
  where
    go : (o : Option Next) → AllByRecursion (λ e. e.0 ≢ Elem i) (if_found o (replaced key_cmp k x es) (placed key_cmp k x es))
    go None = others-placed i k x es h a
    go (Some y) = others-replaced i k x es h a

unlinked-next : (i : Id) (k : Key) (x : Next) (c : Context) → k ≢ Elem i → IsUnlinked i c → IsUnlinked i (with_next k x c)
unlinked-next i k x (context m l r p n) h g = (others-put i k x n h g.0, g.1, g.2)

other_key : (i : Id) (k : Key) (x : Next) (c : Context) → next k c ≡ Some x → IsUnlinked i c → k ≢ Elem i
other_key i k x c e h same =
    let f : next (Elem i) c ≡ Some x = rw same at e in
    let g : None ≡ Some x = sym (no_next i c h) ∙ f in
    cc

other_element : (i j : Id) → j ≢ i → Elem i ≢ Elem j
other_element i j ne e = let s : i ≡ j = cc in ne (sym s)

-- an element that is linked behind a key links no other
pub unlinked-linked : (i j : Id) (k : Key) (x : Next) (c : Context) → j ≢ i → next k c ≡ Some x → IsUnlinked j c → IsUnlinked j (with_next (Elem i) x (with_next k (To i) c))
unlinked-linked i j k x c ne e h =
    unlinked-next j (Elem i) x (with_next k (To i) c) (other_element i j ne) (unlinked-next j k (To i) c (other_key j k x c e h) h)
