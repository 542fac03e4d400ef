-- About Laws: changes other than of links leave lists chained, and so does a fresh element linked behind a place.
use Rattle.std.proofs.Common.{◌≡◌, ◌≢◌, List, [], ◌∷◌, Option, Some, None, refl, ◌∙◌, ap, arith}
use Rattle.std.specs.List.{AllByRecursion}
use Rattle.jc_rules.specs.declared.id.Id.{Id}
use Rattle.jc_rules.specs.declared.key.Key.{Key}
use Rattle.jc_rules.specs.declared.key.Key.TheVariants.{Head, Elem}
use Rattle.jc_rules.specs.declared.key.Next.{Next}
use Rattle.jc_rules.specs.declared.key.Next.TheVariants.{Elem as To}
use Rattle.jc_rules.specs.declared.key.Tagged.{Tagged}
use Rattle.jc_rules.specs.declared.key.Tagged.TheVariants.{MapT, ListT, RegT}
use Rattle.jc_rules.specs.Order.{key_cmp}
use Rattle.jc_rules.specs.Entries.{find, put}
use Rattle.jc_rules.specs.Context.{Context, context, Children, no_child, child, children, listed, links, Register, Content, Node, Values, content, with_content, new_content, with_presence, next, with_next, empty, empty_list}
use Rattle.jc_rules.specs.ContextsAt.{node_at, with_node_at, context_at}
use Rattle.jc_rules.specs.WellFormed.{LeadsThrough, IsChain, IsChained, AreChained, AreLists, IsChainedList}
use Rattle.jc_rules.proofs.OrderLemmas.{keys_total, exact_keys}
use Rattle.jc_rules.proofs.EntriesLemmas.{values-put, value-found}
use Rattle.jc_rules.proofs.ContextsAtLemmas.{node_found}
use Rattle.jc_tree.specs.Laws.{KeepsChained}
use Rattle.jc_tree.specs.Tree.{Tree, HasPlace, here, IsChanged}
use Rattle.jc_tree.proofs.LinkedLemmas.{linked}
use Rattle.jc_tree.proofs.PlacesLemmas.{then_here, then_now}
use Rattle.jc_rules.proofs.ContextLemmas.{no_node}

-- each child is chained
pub each_chained : (cs : Children) → AreChained cs → AllByRecursion (λ e. IsChained e.1) (listed cs)
each_chained no_child h = tt
each_chained (child k c cs) h = (h.0, each_chained cs h.1)

chained_each : (es : List (Key × Context)) → AllByRecursion (λ e. IsChained e.1) es → AreChained (children es)
chained_each [] h = tt
chained_each (e ∷ es) h = (h.0, chained_each es h.1)

pub each_list : (cs : Children) → AreLists cs → AllByRecursion (λ e. IsChainedList e.1) (listed cs)
each_list no_child h = tt
each_list (child k c cs) h = (h.0, each_list cs h.1)

list_each : (es : List (Key × Context)) → AllByRecursion (λ e. IsChainedList e.1) es → AreLists (children es)
list_each [] h = tt
list_each (e ∷ es) h = (h.0, list_each es h.1)

chained-put : (k : Key) (d : Context) (cs : Children) → AreChained cs → IsChained d → AreChained (children (put key_cmp k d (listed cs)))
chained-put k d cs h g = chained_each (put key_cmp k d (listed cs)) (values-put keys_total exact_keys IsChained k d (listed cs) g (each_chained cs h))

list-put : (k : Key) (d : Context) (cs : Children) → AreLists cs → IsChainedList d → AreLists (children (put key_cmp k d (listed cs)))
list-put k d cs h g = list_each (put key_cmp k d (listed cs)) (values-put keys_total exact_keys IsChainedList k d (listed cs) g (each_list cs h))

leads-same : (c d : Context) (k : Key) (is : List Id) → links d ≡ links c → LeadsThrough c k is → LeadsThrough d k is
leads-same c d k [] e h = ap (find key_cmp k) e ∙ h
leads-same c d k (i ∷ is) e h = (ap (find key_cmp k) e ∙ h.0, leads-same c d (Elem i) is e h.1)

-- a chain is told from the links alone
pub chain-same : (c d : Context) (is : List Id) → links d ≡ links c → IsChain c is → IsChain d is
chain-same c d is e h = record { leads = leads-same c d Head is e h.leads; distinct = h.distinct; no_other = rw e h.no_other }

pub new_list_chained : IsChainedList empty_list
new_list_chained = (([], record { leads = refl; distinct = (tt, tt); no_other = ((0, omega arith, refl), tt) }), tt, tt)

-- a context with another chained map
chained-with_map : (k : Key) (d c : Context) → IsChained d → IsChained c → IsChained (with_content (MapT k) (Node d) c)
chained-with_map k d (context m l r p n) g h = (h.0, chained-put k d m h.1 g, h.2)

list-with_map : (k : Key) (d c : Context) → IsChained d → IsChainedList c → IsChainedList (with_content (MapT k) (Node d) c)
list-with_map k d (context m l r p n) g h = ((h.0.0, chain-same (context m l r p n) _ h.0.0 refl h.0.1), chained-put k d m h.1 g, h.2)

-- a context with another chained list
chained-with_list : (k : Key) (d c : Context) → IsChainedList d → IsChained c → IsChained (with_content (ListT k) (Node d) c)
chained-with_list k d (context m l r p n) g h = (h.0, h.1, list-put k d l h.2 g)

list-with_list : (k : Key) (d c : Context) → IsChainedList d → IsChainedList c → IsChainedList (with_content (ListT k) (Node d) c)
list-with_list k d (context m l r p n) g h = ((h.0.0, chain-same (context m l r p n) _ h.0.0 refl h.0.1), h.1, list-put k d l h.2 g)

-- a change that keeps chains where it is made
pub record Keeps (f : Context → Context) : Type 0 where
  pub map : (c : Context) → IsChained c → IsChained (f c)
  pub list : (c : Context) → IsChainedList c → IsChainedList (f c)

keeps-register : (k : Key) (v : Register) → Keeps (λ c. with_content (RegT k) (Values v) c)
keeps-register k v = record { map = chained; list = chained_list }
  where
    chained : (c : Context) → IsChained c → IsChained (with_content (RegT k) (Values v) c)
    chained (context m l r p n) h = h

    chained_list : (c : Context) → IsChainedList c → IsChainedList (with_content (RegT k) (Values v) c)
    chained_list (context m l r p n) h = ((h.0.0, chain-same (context m l r p n) _ h.0.0 refl h.0.1), h.1, h.2)

keeps-child : (t : Tagged) → Keeps (λ c. with_content t (new_content t) c)
keeps-child (MapT k) = record { map = λ c h. chained-with_map k empty c (refl, tt, tt) h; list = λ c h. list-with_map k empty c (refl, tt, tt) h }
keeps-child (ListT k) = record { map = λ c h. chained-with_list k empty_list c new_list_chained h; list = λ c h. list-with_list k empty_list c new_list_chained h }
keeps-child (RegT k) = keeps-register k []

keeps-presence : (k : Key) (s : List Id) → Keeps (λ c. with_presence k s c)
keeps-presence k s = record { map = chained; list = chained_list }
  where
    chained : (c : Context) → IsChained c → IsChained (with_presence k s c)
    chained (context m l r p n) h = h

    chained_list : (c : Context) → IsChainedList c → IsChainedList (with_presence k s c)
    chained_list (context m l r p n) h = ((h.0.0, chain-same (context m l r p n) _ h.0.0 refl h.0.1), h.1, h.2)

-- one key further up
changed_child : (t : Tagged) (c d y : Context) → content t c ≡ Some (Node d) → (IsChained d → IsChained y) × (IsChainedList d → IsChainedList y) → (IsChained c → IsChained (with_content t (Node y) c)) × (IsChainedList c → IsChainedList (with_content t (Node y) c))
changed_child (MapT k) (context m l r p n) d y e g =
    let found = node_found _ d e in
    let child = λ (h : AreChained m). g.0 (value-found keys_total exact_keys IsChained k d (listed m) (each_chained m h) found) in
    (λ h. chained-with_map k y (context m l r p n) (child h.1) h, λ h. list-with_map k y (context m l r p n) (child h.1) h)
changed_child (ListT k) (context m l r p n) d y e g =
    let found = node_found _ d e in
    let child = λ (h : AreLists l). g.1 (value-found keys_total exact_keys IsChainedList k d (listed l) (each_list l h) found) in
    (λ h. chained-with_list k y (context m l r p n) (child h.2) h, λ h. list-with_list k y (context m l r p n) (child h.2) h)
changed_child (RegT k) (context m l r p n) d y e g = no_node (find key_cmp k r) d e

-- another context at a place, that is chained where the one before it was
chained_at_place : (ks : List Tagged) (y c : Context) → node_at ks c ≢ None → (IsChained (context_at ks c) → IsChained y) × (IsChainedList (context_at ks c) → IsChainedList y) → (IsChained c → IsChained (with_node_at ks y c)) × (IsChainedList c → IsChainedList (with_node_at ks y c))
chained_at_place [] y c h f = f
chained_at_place (k ∷ ks) y c h f = go (content k c) refl (λ d. chained_at_place ks y d) h f
  where
    go : (o : Option Content) → content k c ≡ o → ((d : Context) → node_at ks d ≢ None → (IsChained (context_at ks d) → IsChained y) × (IsChainedList (context_at ks d) → IsChainedList y) → (IsChained d → IsChained (with_node_at ks y d)) × (IsChainedList d → IsChainedList (with_node_at ks y d))) → node_at (k ∷ ks) c ≢ None → (IsChained (context_at (k ∷ ks) c) → IsChained y) × (IsChainedList (context_at (k ∷ ks) c) → IsChainedList y) → (IsChained c → IsChained (with_node_at (k ∷ ks) y c)) × (IsChainedList c → IsChainedList (with_node_at (k ∷ ks) y c))
    go None e ih g f = absurd (g (rw e refl))
    go (Some (Values r)) e ih g f = absurd (g (rw e refl))
    go (Some (Node d)) e ih g f = rw e (changed_child k c d (with_node_at ks y d) e (ih d (rw e at g) (rw e at f)))

keeps_at : (f : Context → Context) → Keeps f → (ks : List Tagged) (c : Context) → node_at ks c ≢ None → IsChained c → IsChained (with_node_at ks (f (context_at ks c)) c)
keeps_at f keeps ks c h = (chained_at_place ks (f (context_at ks c)) c h (keeps.map (context_at ks c), keeps.list (context_at ks c))).0

-- a map has no links
unlinked : {A : Type 0} (place : Key) (n : Next) (c : Context) → IsChained c → next place c ≡ Some n → A
unlinked place n (context m l r p ns) h e = let f : None ≡ Some n = rw h.0 at e in cc

-- a fresh element is linked behind a place of a list, its own link last
pub linked_at : (ks : List Tagged) (place : Key) (i : Id) (n : Next) (c : Context) → node_at ks c ≢ None → next place (context_at ks c) ≡ Some n → next (Elem i) (context_at ks c) ≡ None → IsChained c → IsChained (with_node_at ks (with_next (Elem i) n (with_next place (To i) (context_at ks c))) c)
linked_at ks place i n c h e f = (chained_at_place ks _ c h (λ g. unlinked place n (context_at ks c) g e, linked place i n (context_at ks c) e f)).0

-- one change of a tree
pub chained_child : (ks : List Tagged) (t : Tagged) (a b : Tree) → HasPlace ks a → IsChanged ks (with_content t (new_content t) (here ks a)) a b → IsChained a.now → IsChained b.now
chained_child ks t a b h x g = rw x.now (keeps_at _ (keeps-child t) ks a.now h g)

pub chained_presence : (ks : List Tagged) (k : Key) (s : List Id) (a b : Tree) → HasPlace ks a → IsChanged ks (with_presence k s (here ks a)) a b → IsChained a.now → IsChained b.now
chained_presence ks k s a b h x g = rw x.now (keeps_at _ (keeps-presence k s) ks a.now h g)

pub chained_register : (ks : List Tagged) (k : Key) (v : Register) (a b : Tree) → HasPlace ks a → IsChanged ks (with_content (RegT k) (Values v) (here ks a)) a b → IsChained a.now → IsChained b.now
chained_register ks k v a b h x g = rw x.now (keeps_at _ (keeps-register k v) ks a.now h g)

-- a place is linked to the element, and the element to what followed the place
pub chained_linked : (ks : List Tagged) (place : Key) (i : Id) (n : Next) (a b d : Tree) → HasPlace ks a → next place (here ks a) ≡ Some n → next (Elem i) (here ks a) ≡ None → IsChanged ks (with_next place (To i) (here ks a)) a b → IsChanged ks (with_next (Elem i) n (here ks b)) b d → IsChained a.now → IsChained d.now
chained_linked ks place i n a b d h e f x y g = rw (then_now ks _ _ a b d x.now y.now, then_here ks _ a b h x.now) (linked_at ks place i n a.now h e f g)

pub keeps_chained : KeepsChained
keeps_chained = record {
  child = λ ks t c h g. keeps_at _ (keeps-child t) ks c h g;
  presence = λ ks k s c h g. keeps_at _ (keeps-presence k s) ks c h g;
  register = λ ks k v c h g. keeps_at _ (keeps-register k v) ks c h g;
  link = linked_at;
}
