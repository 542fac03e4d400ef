-- About Seen and Meaning: in a tree without its empty presence sets the same is seen as before.
use Rattle.std.proofs.Common.{◌≡◌, ◌≢◌, List, [], ◌∷◌, Bool, true, false, cond, Option, Some, None, is_some, filter, refl, sym, ◌∙◌, ap}
use Rattle.std.specs.List.{AllByRecursion}
use Rattle.std.specs.Ordering.{eq_by_cmp}
use Rattle.jc_rules.specs.declared.id.Id.{Id}
use Rattle.jc_rules.specs.declared.key.Key.{Key}
use Rattle.jc_rules.specs.declared.key.Tagged.{Tagged}
use Rattle.jc_rules.specs.declared.key.Tagged.TheVariants.{MapT, ListT, RegT}
use Rattle.jc_rules.specs.declared.operation.Op.{Op}
use Rattle.jc_rules.specs.Order.{key_cmp}
use Rattle.jc_rules.specs.Entries.{find}
use Rattle.jc_rules.specs.Ids.{has_id}
use Rattle.jc_rules.specs.Context.{Context, context, Children, no_child, child, listed, Content, Node, Values, node_of, content, next, empty, empty_list}
use Rattle.jc_rules.specs.WellFormed.{IsWellFormedContext, is_some_id, drop, drop_all}
use Rattle.jc_tree.proofs.WellFormedLemmas.{kept-content}
use Rattle.jc_meaning.specs.Effects.{list_at}
use Rattle.jc_meaning.specs.Seen.{context_or_new, seen, ids_of_some, ids_at, value_seen_at, has_tag}
use Rattle.jc_meaning.specs.Meaning.{LinksOf, Means, AreFilled, AreAllFilled}
use Rattle.jc_meaning.proofs.ComparedLemmas.{Alike, kept_ids, found_dropped}
use Rattle.jc_meaning.proofs.ClearingEffectsLemmas.{below_reg}

unfoldable pub dropped_child : Option Context → Option Context
dropped_child None = None
dropped_child (Some c) = Some (drop c)

pub found_child : (k : Key) (cs : Children) → find key_cmp k (listed (drop_all cs)) ≡ dropped_child (find key_cmp k (listed cs))
unfolding dropped_child
found_child k no_child = refl
found_child k (child j c cs) = go (eq_by_cmp key_cmp k j) (found_child k cs)
  where
    go : (b : Bool) → find key_cmp k (listed (drop_all cs)) ≡ dropped_child (find key_cmp k (listed cs)) → cond b (Some (drop c)) (find key_cmp k (listed (drop_all cs))) ≡ dropped_child (cond b (Some c) (find key_cmp k (listed cs)))
    go true e = refl
    go false e = e

-- what is below a tagged key
below_dropped : (t : Tagged) (c : Context) → context_or_new (content t (drop c)) t ≡ drop (context_or_new (content t c) t)
unfolding dropped_child
below_dropped (MapT k) (context m l r p n) = ap (λ o. context_or_new (node_of o) (MapT k)) (found_child k m) ∙ go (find key_cmp k (listed m))
  where
    go : (o : Option Context) → context_or_new (node_of (dropped_child o)) (MapT k) ≡ drop (context_or_new (node_of o) (MapT k))
    go None = refl
    go (Some d) = refl
below_dropped (ListT k) (context m l r p n) = ap (λ o. context_or_new (node_of o) (ListT k)) (found_child k l) ∙ go (find key_cmp k (listed l))
  where
    go : (o : Option Context) → context_or_new (node_of (dropped_child o)) (ListT k) ≡ drop (context_or_new (node_of o) (ListT k))
    go None = refl
    go (Some d) = refl
below_dropped (RegT k) c = below_reg k (drop c) ∙ sym (ap drop (below_reg k c))

seen_dropped : (P : List Tagged) (c : Context) → seen P (drop c) ≡ drop (seen P c)
seen_dropped [] c = refl
seen_dropped (t ∷ ts) c = ap (seen ts) (below_dropped t c) ∙ seen_dropped ts (context_or_new (content t c) t)

tag_dropped : (u : Tagged) (c : Context) → has_tag u (drop c) ≡ has_tag u c
unfolding dropped_child
tag_dropped (MapT k) (context m l r p n) = ap (λ o. is_some (node_of o)) (found_child k m) ∙ go (find key_cmp k (listed m))
  where
    go : (o : Option Context) → is_some (node_of (dropped_child o)) ≡ is_some (node_of o)
    go None = refl
    go (Some d) = refl
tag_dropped (ListT k) (context m l r p n) = ap (λ o. is_some (node_of o)) (found_child k l) ∙ go (find key_cmp k (listed l))
  where
    go : (o : Option Context) → is_some (node_of (dropped_child o)) ≡ is_some (node_of o)
    go None = refl
    go (Some d) = refl
tag_dropped (RegT k) (context m l r p n) = refl

pub ids_dropped : (k : Key) (c : Context) → IsWellFormedContext c → ids_at k (drop c) ≡ ids_at k c
ids_dropped k (context m l r p n) h = ap ids_of_some (found_dropped k p h.3) ∙ go (ids_of_some (find key_cmp k p))
  where
    go : (s : List Id) → ids_of_some (kept_ids s) ≡ s
    go [] = refl
    go (i ∷ is) = refl

value_dropped : (i : Id) (k : Key) (c : Context) → value_seen_at i k (drop c) ≡ value_seen_at i k c
value_dropped i k (context m l r p n) = refl

pub next_dropped : (k : Key) (c : Context) → next k (drop c) ≡ next k c
next_dropped k (context m l r p n) = refl

-- ---- at each place

kept_empty : IsWellFormedContext empty
kept_empty = (tt, tt, tt, tt, tt, tt, tt, tt, tt)

kept_empty_list : IsWellFormedContext empty_list
kept_empty_list = (tt, tt, tt, tt, (tt, tt), tt, tt, tt, tt)

kept_below : (t : Tagged) (c : Context) → IsWellFormedContext c → IsWellFormedContext (context_or_new (content t c) t)
kept_below t c h = go t (content t c) (λ d e. kept-content t c d h e)
  where
    go : (u : Tagged) (o : Option Content) → ((d : Context) → o ≡ Some (Node d) → IsWellFormedContext d) → IsWellFormedContext (context_or_new o u)
    go u (Some (Node d)) f = f d refl
    go (MapT k) None f = kept_empty
    go (ListT k) None f = kept_empty_list
    go (RegT k) None f = kept_empty
    go (MapT k) (Some (Values v)) f = kept_empty
    go (ListT k) (Some (Values v)) f = kept_empty_list
    go (RegT k) (Some (Values v)) f = kept_empty

pub kept_seen : (P : List Tagged) (c : Context) → IsWellFormedContext c → IsWellFormedContext (seen P c)
kept_seen [] c h = h
kept_seen (t ∷ ts) c h = kept_seen ts (context_or_new (content t c) t) (kept_below t c h)

pub dropped_alike : (c : Context) → IsWellFormedContext c → Alike (drop c) c
dropped_alike c h =
    record {
      tags = λ P u. ap (has_tag u) (seen_dropped P c) ∙ tag_dropped u (seen P c);
      ids = λ P k i. ap (λ d. has_id i (ids_at k d)) (seen_dropped P c) ∙ ap (has_id i) (ids_dropped k (seen P c) (kept_seen P c h));
      values = λ P k i. ap (value_seen_at i k) (seen_dropped P c) ∙ value_dropped i k (seen P c);
      links = λ P k. ap (next k) (seen_dropped P c) ∙ next_dropped k (seen P c);
    }

-- ---- the meaning

links_alike : (O : List Op) (P : List Tagged) (b : Bool) (c d : Context) → ((k : Key) → next k d ≡ next k c) → LinksOf b O P c → LinksOf b O P d
links_alike O P false c d e h = λ k. e k ∙ h k
links_alike O P true c d e h = (h.0, h.1, λ k. e k ∙ h.2 k)

pub alike_means : (O : List Op) (c d : Context) → Alike d c → Means O c → Means O d
alike_means O c d a m =
    record {
      tags = λ P u. a.tags P u ∙ m.tags P u;
      ids = λ P k i. a.ids P k i ∙ m.ids P k i;
      values = λ P k i. a.values P k i ∙ m.values P k i;
      links = λ P. links_alike O P (list_at false P) (seen P c) (seen P d) (a.links P) (m.links P);
    }

filled_presences : (p : List (Key × List Id)) → AllByRecursion (λ e. e.1 ≢ []) (filter (λ e. is_some_id e.1) p)
filled_presences [] = tt
filled_presences ((k, []) ∷ p) = filled_presences p
filled_presences ((k, i ∷ is) ∷ p) = (λ e. cc, filled_presences p)

mutual
  pub dropped_filled : (c : Context) → AreFilled (drop c)
  dropped_filled (context m l r p n) = (filled_presences p, children_filled m, children_filled l)

  children_filled : (cs : Children) → AreAllFilled (drop_all cs)
  children_filled no_child = tt
  children_filled (child k c cs) = (dropped_filled c, children_filled cs)
