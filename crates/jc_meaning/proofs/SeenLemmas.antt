-- About Seen: what is seen at each place after a write, and that the context at a path is seen there.
use Rattle.std.proofs.Common.{◌≡◌, List, [], ◌∷◌, Bool, true, false, cond, Option, Some, None, refl}
use Rattle.std.specs.Ordering.{eq_by_cmp}
use Rattle.std.proofs.lemmas.Option.{same_Some}
use Rattle.jc_rules.specs.declared.key.Tagged.{Tagged}
use Rattle.jc_rules.specs.declared.key.Tagged.TheVariants.{MapT, ListT, RegT}
use Rattle.jc_rules.specs.Order.{key_cmp}
use Rattle.jc_rules.specs.Entries.{find}
use Rattle.jc_rules.specs.Context.{Context, context, listed, Content, Node, Values, node_of, content, with_content}
use Rattle.jc_rules.specs.ContextsAt.{node_at}
use Rattle.jc_rules.proofs.OrderLemmas.{keys_total, exact_keys}
use Rattle.jc_rules.proofs.EntriesLemmas.{find-put}
use Rattle.jc_rules.proofs.ContextsAtLemmas.{listed_children}
use Rattle.jc_rules.proofs.ContextLemmas.{none_some}
use Rattle.jc_meaning.specs.Effects.{same_tagged}
use Rattle.jc_meaning.specs.Seen.{context_or_new, seen}

abbrev pub is_node_tag : Tagged → Bool
is_node_tag (RegT k) = false
is_node_tag _ = true

-- the node written at a tag, seen at a tag
pub content_with_node : (t u : Tagged) (e : Context) (c : Context) → is_node_tag t ≡ true → content u (with_content t (Node e) c) ≡ cond (same_tagged u t) (Some (Node e)) (content u c)
content_with_node (MapT j) (MapT k) e (context m l r p n) h = rw (listed_children, find-put keys_total exact_keys k j e (listed m)) (by_cases (eq_by_cmp key_cmp k j))
  where
    by_cases : (b : Bool) → node_of (cond b (Some e) (find key_cmp k (listed m))) ≡ cond b (Some (Node e)) (node_of (find key_cmp k (listed m)))
    by_cases true = refl
    by_cases false = refl
content_with_node (MapT j) (ListT k) e (context m l r p n) h = refl
content_with_node (MapT j) (RegT k) e (context m l r p n) h = refl
content_with_node (ListT j) (MapT k) e (context m l r p n) h = refl
content_with_node (ListT j) (ListT k) e (context m l r p n) h = rw (listed_children, find-put keys_total exact_keys k j e (listed l)) (by_cases (eq_by_cmp key_cmp k j))
  where
    by_cases : (b : Bool) → node_of (cond b (Some e) (find key_cmp k (listed l))) ≡ cond b (Some (Node e)) (node_of (find key_cmp k (listed l)))
    by_cases true = refl
    by_cases false = refl
content_with_node (ListT j) (RegT k) e (context m l r p n) h = refl
content_with_node (RegT j) u e c h = cc

-- what is seen below a tag after a node was written there
pub seen_with_node : (t u : Tagged) (P : List Tagged) (e : Context) (c : Context) → is_node_tag t ≡ true → seen (u ∷ P) (with_content t (Node e) c) ≡ cond (same_tagged u t) (seen P e) (seen (u ∷ P) c)
seen_with_node t u P e c h = rw (content_with_node t u e c h) (by_cases (same_tagged u t))
  where
    by_cases : (b : Bool) → seen P (context_or_new (cond b (Some (Node e)) (content u c)) u) ≡ cond b (seen P e) (seen P (context_or_new (content u c) u))
    by_cases true = refl
    by_cases false = refl

-- the context at a place is what is seen there
pub node_seen : (at : List Tagged) (c x : Context) → node_at at c ≡ Some x → seen at c ≡ x
node_seen [] c x e = same_Some c x e
node_seen (a ∷ ks) c x e = go (content a c) refl (λ d. node_seen ks d x) e
  where
    go : (o : Option Content) → content a c ≡ o → ((d : Context) → node_at ks d ≡ Some x → seen ks d ≡ x) → node_at (a ∷ ks) c ≡ Some x → seen (a ∷ ks) c ≡ x
    go None f ih g = none_some (rw f at g)
    go (Some (Values r)) f ih g = none_some (rw f at g)
    go (Some (Node d)) f ih g = rw f (ih d (rw f at g))
