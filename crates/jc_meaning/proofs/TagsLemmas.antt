-- About Effects and Seen: equality of tagged keys, and what is seen after a write.
use Rattle.std.proofs.Common.{◌≡◌, List, [], ◌∷◌, Bool, true, false, ◌||◌, cond, Option, Some, None, is_some, refl, sym, ◌∙◌, ap}
use Rattle.jc_rules.specs.declared.id.Id.{Id}
use Rattle.jc_rules.specs.declared.key.Key.{Key}
use Rattle.jc_rules.specs.declared.key.Tagged.{Tagged}
use Rattle.jc_rules.specs.declared.key.Tagged.TheVariants.{MapT, ListT, RegT}
use Rattle.jc_rules.specs.declared.value.Value.{Value}
use Rattle.jc_rules.specs.Order.{key_cmp, id_cmp, same_id, same_key}
use Rattle.jc_rules.specs.Entries.{find, keys_of}
use Rattle.jc_rules.specs.Ids.{has_id}
use Rattle.jc_rules.specs.Context.{Context, context, Register, Node, Values, content, with_content, with_presence, next}
use Rattle.jc_rules.specs.Table.{kept}
use Rattle.jc_rules.proofs.OrderLemmas.{keys_total, exact_keys}
use Rattle.jc_rules.proofs.EntriesLemmas.{find-put}
use Rattle.jc_rules.proofs.IdsLemmas.{same_id-true}
use Rattle.jc_meaning.specs.Effects.{same_tagged}
use Rattle.jc_meaning.specs.Seen.{seen, ids_of_some, ids_at, reg_at, value_seen_at}
use Rattle.jc_meaning.proofs.OrdersLemmas.{keys_eq, keys_back, keys_self}
use Rattle.jc_meaning.proofs.ClearingEffectsLemmas.{below_reg}

pub tags_eq : (t u : Tagged) → same_tagged t u ≡ true → t ≡ u
tags_eq (MapT j) (MapT k) h = ap MapT (keys_eq j k h)
tags_eq (ListT j) (ListT k) h = ap ListT (keys_eq j k h)
tags_eq (RegT j) (RegT k) h = ap RegT (keys_eq j k h)
tags_eq (MapT j) (ListT k) h = cc
tags_eq (MapT j) (RegT k) h = cc
tags_eq (ListT j) (MapT k) h = cc
tags_eq (ListT j) (RegT k) h = cc
tags_eq (RegT j) (MapT k) h = cc
tags_eq (RegT j) (ListT k) h = cc

pub tags_self : (t : Tagged) → same_tagged t t ≡ true
tags_self (MapT k) = keys_self k
tags_self (ListT k) = keys_self k
tags_self (RegT k) = keys_self k

pub tags_back : (t u : Tagged) → same_tagged t u ≡ same_tagged u t
tags_back (MapT j) (MapT k) = keys_back j k
tags_back (ListT j) (ListT k) = keys_back j k
tags_back (RegT j) (RegT k) = keys_back j k
tags_back (MapT j) (ListT k) = refl
tags_back (MapT j) (RegT k) = refl
tags_back (ListT j) (MapT k) = refl
tags_back (ListT j) (RegT k) = refl
tags_back (RegT j) (MapT k) = refl
tags_back (RegT j) (ListT k) = refl

pub node_ids : (t : Tagged) (e c : Context) (k : Key) → ids_at k (with_content t (Node e) c) ≡ ids_at k c
node_ids (MapT j) e (context m l r p n) k = refl
node_ids (ListT j) e (context m l r p n) k = refl
node_ids (RegT j) e (context m l r p n) k = refl

pub node_value : (t : Tagged) (e c : Context) (k : Key) (i : Id) → value_seen_at i k (with_content t (Node e) c) ≡ value_seen_at i k c
node_value (MapT j) e (context m l r p n) k i = refl
node_value (ListT j) e (context m l r p n) k i = refl
node_value (RegT j) e (context m l r p n) k i = refl

pub node_next : (t : Tagged) (e c : Context) (k : Key) → next k (with_content t (Node e) c) ≡ next k c
node_next (MapT j) e (context m l r p n) k = refl
node_next (ListT j) e (context m l r p n) k = refl
node_next (RegT j) e (context m l r p n) k = refl

pub values_seen : (k : Key) (v : Register) (u : Tagged) (P : List Tagged) (c : Context) → seen (u ∷ P) (with_content (RegT k) (Values v) c) ≡ seen (u ∷ P) c
values_seen k v (MapT j) P (context m l r p n) = refl
values_seen k v (ListT j) P (context m l r p n) = refl
values_seen k v (RegT j) P c = ap (seen P) (below_reg j (with_content (RegT k) (Values v) c)) ∙ sym (ap (seen P) (below_reg j c))

pub values_ids : (k : Key) (v : Register) (c : Context) (l : Key) → ids_at l (with_content (RegT k) (Values v) c) ≡ ids_at l c
values_ids k v (context m l2 r p n) l = refl

pub values_next : (k : Key) (v : Register) (c : Context) (l : Key) → next l (with_content (RegT k) (Values v) c) ≡ next l c
values_next k v (context m l2 r p n) l = refl

pub values_reg : (k : Key) (v : Register) (c : Context) (l : Key) → reg_at l (with_content (RegT k) (Values v) c) ≡ cond (same_key l k) (Some v) (reg_at l c)
values_reg k v (context m l2 r p n) l = find-put keys_total exact_keys l k v r

pub presence_seen : (k : Key) (s : List Id) (u : Tagged) (P : List Tagged) (c : Context) → seen (u ∷ P) (with_presence k s c) ≡ seen (u ∷ P) c
presence_seen k s (MapT j) P (context m l r p n) = refl
presence_seen k s (ListT j) P (context m l r p n) = refl
presence_seen k s (RegT j) P (context m l r p n) = refl

pub presence_tag : (k : Key) (s : List Id) (u : Tagged) (c : Context) → content u (with_presence k s c) ≡ content u c
presence_tag k s (MapT j) (context m l r p n) = refl
presence_tag k s (ListT j) (context m l r p n) = refl
presence_tag k s (RegT j) (context m l r p n) = refl

pub presence_value : (k : Key) (s : List Id) (c : Context) (l : Key) (i : Id) → value_seen_at i l (with_presence k s c) ≡ value_seen_at i l c
presence_value k s (context m l2 r p n) l i = refl

pub presence_next : (k : Key) (s : List Id) (c : Context) (l : Key) → next l (with_presence k s c) ≡ next l c
presence_next k s (context m l2 r p n) l = refl

pub presence_ids : (k : Key) (s : List Id) (c : Context) (l : Key) → ids_at l (with_presence k s c) ≡ cond (same_key l k) s (ids_at l c)
presence_ids k s (context m l2 r p n) l = rw (find-put keys_total exact_keys l k s p) (go (same_key l k))
  where
    go : (b : Bool) → ids_of_some (cond b (Some s) (find key_cmp l p)) ≡ cond b s (ids_of_some (find key_cmp l p))
    go true = refl
    go false = refl

-- registers by identifier
pub has_found : (i : Id) (r : Register) → has_id i (keys_of r) ≡ is_some (find id_cmp i r)
has_found i [] = refl
has_found i (e ∷ es) = go (same_id i e.0) (has_found i es)
  where
    go : (b : Bool) → has_id i (keys_of es) ≡ is_some (find id_cmp i es) → (b || has_id i (keys_of es)) ≡ is_some (cond b (Some e.1) (find id_cmp i es))
    go true h = refl
    go false h = h

pub find_kept : (i : Id) (deps : List Id) (r : Register) → find id_cmp i (kept deps r) ≡ cond (has_id i deps) None (find id_cmp i r)
find_kept i deps [] = go (has_id i deps)
  where
    nil : Option Value
    nil = None

    go : (b : Bool) → nil ≡ cond b None nil
    go true = refl
    go false = refl
find_kept i deps (e ∷ es) = go (has_id e.0 deps) (same_id i e.0) refl refl (find_kept i deps es)
  where
    go : (x y : Bool) → has_id e.0 deps ≡ x → same_id i e.0 ≡ y → find id_cmp i (kept deps es) ≡ cond (has_id i deps) None (find id_cmp i es)
        → find id_cmp i (kept deps (e ∷ es)) ≡ cond (has_id i deps) None (cond y (Some e.1) (find id_cmp i es))
    go true true a b h = let s : i ≡ e.0 = same_id-true i e.0 b in let d : has_id i deps ≡ true = ap (λ q. has_id q deps) s ∙ a in rw a (h ∙ rw d refl)
    go true false a b h = rw a h
    go false true a b h = let s : i ≡ e.0 = same_id-true i e.0 b in let d : has_id i deps ≡ false = ap (λ q. has_id q deps) s ∙ a in rw (a, d, b) refl
    go false false a b h = rw (a, b) h
