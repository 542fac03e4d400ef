-- About Compared and Meaning: well-formed trees in which the same is seen are one, but for empty presence sets.
use Rattle.std.proofs.Common.{◌≡◌, List, [], ◌∷◌, Bool, true, false, cond, Option, Some, None, is_some, filter, refl, sym, ◌∙◌, ap}
use Rattle.std.specs.List.{AllByRecursion}
use Rattle.std.specs.Ordering.{eq_by_cmp}
use Rattle.jc_rules.specs.declared.id.Id.{Id}
use Rattle.jc_rules.specs.declared.key.Key.{Key}
use Rattle.jc_rules.specs.declared.key.Tagged.{Tagged}
use Rattle.jc_rules.specs.declared.key.Tagged.TheVariants.{MapT, ListT, RegT}
use Rattle.jc_rules.specs.Order.{key_cmp, id_cmp}
use Rattle.jc_rules.specs.Entries.{IsRising, keys_of, find}
use Rattle.jc_rules.specs.Ids.{has_id, AreRising}
use Rattle.jc_rules.specs.Context.{Context, context, Children, no_child, child, listed, Register, node_of, values_of, content, next}
use Rattle.jc_rules.specs.WellFormed.{IsWellFormedContext, AreWellFormedContexts, IsWellFormedRegister, is_some_id, drop, drop_all}
use Rattle.jc_rules.proofs.OrderLemmas.{keys_total, exact_keys, ids_total, exact_ids}
use Rattle.jc_rules.proofs.EntriesLemmas.{value-found}
use Rattle.jc_rules.proofs.IdsLemmas.{same_members}
use Rattle.jc_rules.specs.declared.key.Key.TheVariants as K
use Rattle.jc_rules.specs.declared.operation.Op.{Op}
use Rattle.jc_meaning.specs.Effects.{list_at}
use Rattle.jc_meaning.specs.Forest.{preorder, follow}
use Rattle.jc_meaning.specs.Meaning.{hangs_at, LinksOf, Means}
use Rattle.jc_meaning.proofs.ForestLemmas.{one_forest}
use Rattle.jc_meaning.specs.Compared.{Both}
use Rattle.jc_meaning.specs.Seen.{context_or_new, seen, ids_of_some, ids_at, value_in_some, value_seen_at, has_tag}
use Rattle.jc_meaning.proofs.SameKeysLemmas.{Zipped, zipped, same_entries, below_all, filter_rises}
use Rattle.jc_meaning.proofs.OrdersLemmas.{keys_eq}

pub record Alike (c d : Context) : Type 0 where
  pub tags : (P : List Tagged) (u : Tagged) → has_tag u (seen P c) ≡ has_tag u (seen P d)
  pub ids : (P : List Tagged) (k : Key) (i : Id) → has_id i (ids_at k (seen P c)) ≡ has_id i (ids_at k (seen P d))
  pub values : (P : List Tagged) (k : Key) (i : Id) → value_seen_at i k (seen P c) ≡ value_seen_at i k (seen P d)
  pub links : (P : List Tagged) (k : Key) → next k (seen P c) ≡ next k (seen P d)

below : (t : Tagged) (c d : Context) → Alike c d → Alike (context_or_new (content t c) t) (context_or_new (content t d) t)
below t c d a = record { tags = λ P u. a.tags (t ∷ P) u; ids = λ P k i. a.ids (t ∷ P) k i; values = λ P k i. a.values (t ∷ P) k i; links = λ P k. a.links (t ∷ P) k }

in_map : (k : Key) (x y : Option Context) → is_some (node_of x) ≡ is_some (node_of y) → Alike (context_or_new (node_of x) (MapT k)) (context_or_new (node_of y) (MapT k)) → Both Alike x y
in_map k None None e a = tt
in_map k (Some c) (Some d) e a = a
in_map k None (Some d) e a = cc
in_map k (Some c) None e a = cc

in_list : (k : Key) (x y : Option Context) → is_some (node_of x) ≡ is_some (node_of y) → Alike (context_or_new (node_of x) (ListT k)) (context_or_new (node_of y) (ListT k)) → Both Alike x y
in_list k None None e a = tt
in_list k (Some c) (Some d) e a = a
in_list k None (Some d) e a = cc
in_list k (Some c) None e a = cc

-- ---- registers

same_register : (v w : Register) → IsWellFormedRegister v → IsWellFormedRegister w → ((i : Id) → find id_cmp i v ≡ find id_cmp i w) → v ≡ w
same_register v w h g e = same_entries ids_total exact_ids v w h.0 g.0 e

same_registers : (r s : List (Key × Register)) → AllByRecursion (λ e. IsWellFormedRegister e.1) r → AllByRecursion (λ e. IsWellFormedRegister e.1) s
    → (k : Key) → is_some (values_of (find key_cmp k r)) ≡ is_some (values_of (find key_cmp k s)) → ((i : Id) → value_in_some i (find key_cmp k r) ≡ value_in_some i (find key_cmp k s)) → find key_cmp k r ≡ find key_cmp k s
same_registers r s h g k e f = go (find key_cmp k r) (find key_cmp k s) refl refl e f
  where
    go : (x y : Option Register) → find key_cmp k r ≡ x → find key_cmp k s ≡ y → is_some (values_of x) ≡ is_some (values_of y) → ((i : Id) → value_in_some i x ≡ value_in_some i y) → x ≡ y
    go None None p q a b = refl
    go None (Some w) p q a b = cc
    go (Some v) None p q a b = cc
    go (Some v) (Some w) p q a b = ap (λ z. Some z) (same_register v w (value-found keys_total exact_keys IsWellFormedRegister k v r h p) (value-found keys_total exact_keys IsWellFormedRegister k w s g q) b)

-- ---- presence sets that aren't empty

abbrev pub kept_ids : List Id → Option (List Id)
kept_ids [] = None
kept_ids (i ∷ is) = Some (i ∷ is)

abbrev pub dropped : List (Key × List Id) → List (Key × List Id)
dropped p = filter (λ e. is_some_id e.1) p

pub found_dropped : (k : Key) (p : List (Key × List Id)) → IsRising key_cmp (keys_of p) → find key_cmp k (dropped p) ≡ kept_ids (ids_of_some (find key_cmp k p))
found_dropped k [] h = refl
found_dropped k ((j, []) ∷ es) h = found_dropped k es h.1 ∙ go (eq_by_cmp key_cmp k j) refl
  where
    go : (b : Bool) → eq_by_cmp key_cmp k j ≡ b → kept_ids (ids_of_some (find key_cmp k es)) ≡ kept_ids (ids_of_some (cond b (Some []) (find key_cmp k es)))
    go true e = ap (λ o. kept_ids (ids_of_some o)) (ap (λ q. find key_cmp q es) (keys_eq k j e) ∙ below_all keys_total exact_keys j es h.0)
    go false e = refl
found_dropped k ((j, i ∷ is) ∷ es) h = go (eq_by_cmp key_cmp k j) (found_dropped k es h.1)
  where
    go : (b : Bool) → find key_cmp k (dropped es) ≡ kept_ids (ids_of_some (find key_cmp k es)) → cond b (Some (i ∷ is)) (find key_cmp k (dropped es)) ≡ kept_ids (ids_of_some (cond b (Some (i ∷ is)) (find key_cmp k es)))
    go true e = refl
    go false e = e

rising_at : (k : Key) (p : List (Key × List Id)) → AllByRecursion (λ e. AreRising e.1) p → AreRising (ids_of_some (find key_cmp k p))
rising_at k p h = go (find key_cmp k p) refl
  where
    go : (o : Option (List Id)) → find key_cmp k p ≡ o → AreRising (ids_of_some o)
    go None e = tt
    go (Some s) e = value-found keys_total exact_keys AreRising k s p h e

pub same_presences : (p q : List (Key × List Id)) → IsRising key_cmp (keys_of p) → IsRising key_cmp (keys_of q) → AllByRecursion (λ e. AreRising e.1) p → AllByRecursion (λ e. AreRising e.1) q
    → ((k : Key) (i : Id) → has_id i (ids_of_some (find key_cmp k p)) ≡ has_id i (ids_of_some (find key_cmp k q))) → dropped p ≡ dropped q
same_presences p q s t h g e =
    same_entries keys_total exact_keys (dropped p) (dropped q) (filter_rises keys_total exact_keys (λ e. is_some_id e.1) p s) (filter_rises keys_total exact_keys (λ e. is_some_id e.1) q t)
    (λ k. found_dropped k p s ∙ ap kept_ids (same_members (ids_of_some (find key_cmp k p)) (ids_of_some (find key_cmp k q)) (rising_at k p h) (rising_at k q g) (e k)) ∙ sym (found_dropped k q t))

-- ---- contexts

mutual
  pub drop_same : (c d : Context) → IsWellFormedContext c → IsWellFormedContext d → Alike c d → drop c ≡ drop d
  drop_same (context m l r p n) (context m2 l2 r2 p2 n2) h g a =
      let ms : drop_all m ≡ drop_all m2 = children_same m m2 h.7 g.7 (zipped keys_total exact_keys Alike (listed m) (listed m2) h.0 g.0 (λ k. in_map k (find key_cmp k (listed m)) (find key_cmp k (listed m2)) (a.tags [] (MapT k)) (below (MapT k) (context m l r p n) (context m2 l2 r2 p2 n2) a))) in
      let ls : drop_all l ≡ drop_all l2 = children_same l l2 h.8 g.8 (zipped keys_total exact_keys Alike (listed l) (listed l2) h.1 g.1 (λ k. in_list k (find key_cmp k (listed l)) (find key_cmp k (listed l2)) (a.tags [] (ListT k)) (below (ListT k) (context m l r p n) (context m2 l2 r2 p2 n2) a))) in
      let rs : r ≡ r2 = same_entries keys_total exact_keys r r2 h.2 g.2 (λ k. same_registers r r2 h.5 g.5 k (a.tags [] (RegT k)) (λ i. a.values [] k i)) in
      let ps : dropped p ≡ dropped p2 = same_presences p p2 h.3 g.3 h.6 g.6 (λ k i. a.ids [] k i) in
      let ns : n ≡ n2 = same_entries keys_total exact_keys n n2 h.4 g.4 (λ k. a.links [] k) in
      λ i. context (ms i) (ls i) (rs i) (ps i) (ns i)

  children_same : (cs ds : Children) → AreWellFormedContexts cs → AreWellFormedContexts ds → Zipped Alike (listed cs) (listed ds) → drop_all cs ≡ drop_all ds
  children_same no_child no_child h g z = refl
  children_same no_child (child k d ds) h g z = absurd z
  children_same (child j c cs) no_child h g z = absurd z
  children_same (child j c cs) (child k d ds) h g z =
      let one : drop c ≡ drop d = drop_same c d h.0 g.0 z.1 in
      let rest : drop_all cs ≡ drop_all ds = children_same cs ds h.1 g.1 z.2 in
      λ i. child (z.0 i) (one i) (rest i)

-- ---- what the same operations mean

means_alike : (O : List Op) (t d : Context) → Means O t → Means O d → Alike t d
means_alike O t d m n =
    record {
      tags = λ P u. m.tags P u ∙ sym (n.tags P u);
      ids = λ P k i. m.ids P k i ∙ sym (n.ids P k i);
      values = λ P k i. m.values P k i ∙ sym (n.values P k i);
      links = λ P. go P (list_at false P) (m.links P) (n.links P);
    }
  where
    go : (P : List Tagged) (b : Bool) → LinksOf b O P (seen P t) → LinksOf b O P (seen P d) → (k : Key) → next k (seen P t) ≡ next k (seen P d)
    go P false x y k = x k ∙ sym (y k)
    go P true x y k = x.2 k ∙ ap (λ f. follow K.Head (preorder f) k) (one_forest (hangs_at O P) K.Head None x.0 y.0 x.1 y.1) ∙ sym (y.2 k)

pub one_tree : (O : List Op) (t d : Context) → IsWellFormedContext t → IsWellFormedContext d → Means O t → Means O d → drop t ≡ drop d
one_tree O t d h g m n = drop_same t d h g (means_alike O t d m n)
