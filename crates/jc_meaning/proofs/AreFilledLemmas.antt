-- About Meaning: writes into a tree leave no presence set empty (`AreFilled`).
use Rattle.std.proofs.Common.{◌≡◌, ◌≢◌, List, [], ◌∷◌, Option, Some, None, refl, subst}
use Rattle.std.specs.List.{AllByRecursion}
use Rattle.std.specs.Ordering.{match_ordering}
use Rattle.std.specs.declared.cmp.Ordering.{Ordering}
use Rattle.std.specs.declared.cmp.Ordering.TheVariants.{Less, Equal, Greater}
use Rattle.std.proofs.lemmas.Option.{same_Some}
use Rattle.jc_rules.specs.declared.id.Id.{Id}
use Rattle.jc_rules.specs.declared.key.Key.{Key}
use Rattle.jc_rules.specs.declared.key.Next.{Next}
use Rattle.jc_rules.specs.declared.key.Tagged.{Tagged}
use Rattle.jc_rules.specs.declared.key.Tagged.TheVariants.{MapT, ListT, RegT}
use Rattle.jc_rules.specs.Order.{key_cmp, id_cmp}
use Rattle.jc_rules.specs.Entries.{find, put}
use Rattle.jc_rules.specs.Ids.{with_id}
use Rattle.jc_rules.specs.Context.{Context, context, Children, children, no_child, child, listed, Register, Content, Node, Values, values_of, content, with_content, new_content, with_presence, with_next, empty, empty_list}
use Rattle.jc_rules.specs.ContextsAt.{node_at, with_node_at}
use Rattle.jc_rules.proofs.OrderLemmas.{keys_total, exact_keys}
use Rattle.jc_rules.proofs.EntriesLemmas.{value-found, values-put}
use Rattle.jc_rules.proofs.ContextsAtLemmas.{node_found}
use Rattle.jc_rules.proofs.ContextLemmas.{none_some}
use Rattle.jc_meaning.specs.Meaning.{AreFilled, AreAllFilled}

each_filled : (cs : Children) → AreAllFilled cs → AllByRecursion (λ e. AreFilled e.1) (listed cs)
each_filled no_child h = tt
each_filled (child k c cs) h = (h.0, each_filled cs h.1)

all_filled : (es : List (Key × Context)) → AllByRecursion (λ e. AreFilled e.1) es → AreAllFilled (children es)
all_filled [] h = tt
all_filled (e ∷ es) h = (h.0, all_filled es h.1)

filled_below : (t : Tagged) (d c : Context) → AreFilled c → content t c ≡ Some (Node d) → AreFilled d
filled_below (MapT k) d (context m l r p n) h e = value-found keys_total exact_keys AreFilled k d (listed m) (each_filled m h.1) (node_found (find key_cmp k (listed m)) d e)
filled_below (ListT k) d (context m l r p n) h e = value-found keys_total exact_keys AreFilled k d (listed l) (each_filled l h.2) (node_found (find key_cmp k (listed l)) d e)
filled_below (RegT k) d (context m l r p n) h e = no_node (find key_cmp k r) e
  where
    no_node : (o : Option Register) → values_of o ≡ Some (Node d) → AreFilled d
    no_node None f = none_some {d = d} (let g : ⊥ = cc in absurd g)
    no_node (Some v) f = let g : ⊥ = cc in absurd g

filled_node : (t : Tagged) (e c : Context) → AreFilled c → AreFilled e → AreFilled (with_content t (Node e) c)
filled_node (MapT k) e (context m l r p n) h g = (h.0, all_filled (put key_cmp k e (listed m)) (values-put keys_total exact_keys AreFilled k e (listed m) g (each_filled m h.1)), h.2)
filled_node (ListT k) e (context m l r p n) h g = (h.0, h.1, all_filled (put key_cmp k e (listed l)) (values-put keys_total exact_keys AreFilled k e (listed l) g (each_filled l h.2)))
filled_node (RegT k) e (context m l r p n) h g = h

pub filled_values : (k : Key) (v : Register) (c : Context) → AreFilled c → AreFilled (with_content (RegT k) (Values v) c)
filled_values k v (context m l r p n) h = h

pub filled_new : (t : Tagged) (c : Context) → AreFilled c → AreFilled (with_content t (new_content t) c)
filled_new (MapT k) c h = filled_node (MapT k) empty c h (tt, tt, tt)
filled_new (ListT k) c h = filled_node (ListT k) empty_list c h (tt, tt, tt)
filled_new (RegT k) c h = filled_values k [] c h

pub filled_next : (k : Key) (x : Next) (c : Context) → AreFilled c → AreFilled (with_next k x c)
filled_next k x (context m l r p n) h = h

with_some : (i : Id) (s : List Id) → with_id i s ≢ []
with_some i [] e = cc
with_some i (j ∷ js) e = go (id_cmp i j) e
  where
    go : (o : Ordering) → match_ordering o (i ∷ j ∷ js) (j ∷ js) (j ∷ with_id i js) ≡ [] → ⊥
    go Less f = cc
    go Equal f = cc
    go Greater f = cc

pub filled_presence : (k : Key) (i : Id) (s : List Id) (c : Context) → AreFilled c → AreFilled (with_presence k (with_id i s) c)
filled_presence k i s (context m l r p n) h = (values-put keys_total exact_keys (λ s. s ≢ []) k (with_id i s) p (with_some i s) h.0, h.1, h.2)

-- the context at a place
pub filled_at : (at : List Tagged) (c x : Context) → node_at at c ≡ Some x → AreFilled c → AreFilled x
filled_at [] c x e h = subst AreFilled (same_Some c x e) h
filled_at (a ∷ ks) c x e h = go (content a c) refl (λ d. filled_at ks d x) e
  where
    go : (o : Option Content) → content a c ≡ o → ((d : Context) → node_at ks d ≡ Some x → AreFilled d → AreFilled x) → node_at (a ∷ ks) c ≡ Some x → AreFilled x
    go None f ih g = none_some (rw f at g)
    go (Some (Values r)) f ih g = none_some (rw f at g)
    go (Some (Node d)) f ih g = ih d (rw f at g) (filled_below a d c h f)

-- the whole, with another one there
pub filled_whole : (at : List Tagged) (y c x : Context) → node_at at c ≡ Some x → AreFilled y → AreFilled c → AreFilled (with_node_at at y c)
filled_whole [] y c x e g h = g
filled_whole (a ∷ ks) y c x e g h = go (content a c) refl (λ d f. filled_whole ks y d x f g) e
  where
    go : (o : Option Content) → content a c ≡ o → ((d : Context) → node_at ks d ≡ Some x → AreFilled d → AreFilled (with_node_at ks y d)) → node_at (a ∷ ks) c ≡ Some x → AreFilled (with_node_at (a ∷ ks) y c)
    go None f ih k = none_some (rw f at k)
    go (Some (Values r)) f ih k = none_some (rw f at k)
    go (Some (Node d)) f ih k = rw f (filled_node a (with_node_at ks y d) c h (ih d (rw f at k) (filled_below a d c h f)))
