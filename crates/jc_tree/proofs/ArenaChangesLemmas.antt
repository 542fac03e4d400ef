-- About Arena: a change of one node is a change of its context in the content.
use Rattle.std.proofs.Common.{◌≡◌, ◌≢◌, ℕ, zero, suc, ◌+◌, ◌<◌, ◌≤◌, List, [], ◌∷◌, ◌++◌, length, Option, Some, None, Bool, true, false, slice_set, ◌⊎◌, refl, sym, ◌∙◌, ap, arith, cond, subst}
use Rattle.std.specs.Ordering.{eq_by_cmp}
use Rattle.std.specs.declared.cmp.Ordering.{Ordering}
use Rattle.std.specs.declared.cmp.Ordering.TheVariants.{Less, Equal, Greater}
use Rattle.std.proofs.lemmas.Option.{same_Some}
use Rattle.std.proofs.lemmas.Bool.{cases_order}
use Rattle.std.proofs.lemmas.List.{get_or_past, set-get_or, get_or-set_same, get_or-set_other, get_or_push, length-append, length-set}
use Rattle.std.proofs.Math.ListN.{get_or-append}
use mathlib.Core.Logic.{inl, inr}
use Rattle.jc_rules.specs.declared.id.Id.{Id}
use Rattle.jc_rules.specs.declared.value.Value.{Value}
use Rattle.jc_rules.specs.declared.key.Key.{Key}
use Rattle.jc_rules.specs.declared.key.Tagged.{Tagged}
use Rattle.jc_rules.specs.declared.key.Tagged.TheVariants.{MapT, ListT, RegT}
use Rattle.jc_rules.specs.Order.{id_cmp, key_cmp}
use Rattle.jc_rules.specs.Entries.{find, put, placed, replaced}
use Rattle.jc_rules.specs.Ids.{AreRising, has_id, with_id}
use Rattle.jc_rules.specs.Context.{Context, Register, with_content, new_content, presence, empty, empty_list}
use Rattle.jc_rules.specs.ContextsAt.{node_at, with_node_at, context_at}
use Rattle.jc_rules.proofs.OrderLemmas.{keys_total, exact_keys}
use Rattle.jc_rules.proofs.EntriesLemmas.{same-eq, find-put, put-same, rising-put}
use Rattle.jc_rules.proofs.IdsLemmas.{with-present}
use Rattle.jc_rules.proofs.ContextsAtLemmas.{listed_children}
use Rattle.jc_rules.specs.Paths.{HasContext}
use Rattle.jc_tree.specs.Tree.{or_no_entries}
use Rattle.jc_tree.specs.Change.{IsFit, changed_by}
use Rattle.jc_tree.specs.declared.node.Change.{Change}
use Rattle.jc_tree.specs.declared.node.Change.TheVariants.{Child, AddId, Presence, Link, PutValue, Register as SetRegister}
use Rattle.jc_tree.specs.declared.node.Former.{Former}
use Rattle.jc_tree.specs.declared.node.Former.TheVariants as F
use Rattle.jc_tree.specs.Sorted.{AreSorted}
use Rattle.jc_tree.specs.Undo.{former_of_id, former_of_value}
use Rattle.jc_tree.specs.Arena.{Flat, blank, flat_at, filled_all, with_children, context_of, content_of_arena, child_number, walk, with_child_number, without_number, new_flat, with_registers, with_presences, IsInside, changed_flat, former_of_node, former_of_flat, restored_flat, IsSoundArena}
use Rattle.jc_tree.specs.ArenaUndo.{IsGood, without_last, fewer, restored_in}
use Rattle.jc_tree.proofs.WellFormedLemmas.{kept-changed_at, presence_rises}
use Rattle.jc_tree.proofs.PlacesLemmas.{some_place}
use Rattle.jc_tree.proofs.PresencesLemmas.{set-out}
use Rattle.jc_tree.proofs.UndoLemmas.{restored-put, removed-put, value-back}
use Rattle.jc_tree.proofs.ArenaNumbersLemmas.{IsSameBut, reaches_le, unchanged, same_all, same_depth, found, changed, Either, left, right}

-- a new node, and the number of it in the node above
abbrev pub with_child : Tagged → ℕ → List Flat → List Flat
with_child t i ns = slice_set ns i (with_child_number t (length ns) (flat_at ns i)) ++ new_flat t ∷ []

-- a node that a change makes another one
abbrev pub with_change : Change → ℕ → List Flat → List Flat
with_change ch i ns = slice_set ns i (changed_flat ch (flat_at ns i))

-- The nodes stay good, the content changes at the place, and what takes the change back gives the nodes before.
pub record Changes (ns ms : List Flat) (at : List Tagged) (y : Context) (i : ℕ) (f : Former) : Type 0 where
  pub good : IsGood ms
  pub content : content_of_arena ms ≡ with_node_at at y (content_of_arena ns)
  pub back : restored_in i f (fewer f ms) ≡ ns

pub last_gone : (ns : List Flat) (n : Flat) → without_last (ns ++ n ∷ []) ≡ ns
last_gone [] n = refl
last_gone (m ∷ []) n = refl
last_gone (m ∷ k ∷ ns) n = ap (λ r. m ∷ r) (last_gone (k ∷ ns) n)

set-set : (ns : List Flat) (i : ℕ) (x y : Flat) → slice_set (slice_set ns i x) i y ≡ slice_set ns i y
set-set [] i x y = refl
set-set (n ∷ ns) zero x y = refl
set-set (n ∷ ns) (suc i) x y = ap (λ r. n ∷ r) (set-set ns i x y)

-- a node that was changed and changed back
changed_back : (ns : List Flat) (i : ℕ) (x : Flat) (f : Flat → Flat) → i < length ns → f x ≡ flat_at ns i → slice_set (slice_set ns i x) i (f (flat_at (slice_set ns i x) i)) ≡ ns
changed_back ns i x f w e = rw (get_or-set_same ns i x blank w, e) (set-set ns i x (flat_at ns i) ∙ set-get_or ns i blank)

-- what a child is after a child was named
child_with : (u t : Tagged) (m c : ℕ) (n : Flat) → child_number u (with_child_number t m n) ≡ Some c → Either (child_number u n ≡ Some c) ((u ≡ t) × (m ≡ c))
child_with (MapT q) (MapT k) m c n h = go (eq_by_cmp key_cmp q k) refl (sym (find-put keys_total exact_keys q k m n.maps) ∙ h)
  where
    go : (b : Bool) → eq_by_cmp key_cmp q k ≡ b → cond (eq_by_cmp key_cmp q k) (Some m) (find key_cmp q n.maps) ≡ Some c → Either (find key_cmp q n.maps ≡ Some c) ((MapT q ≡ MapT k) × (m ≡ c))
    go true p g = right (ap (λ x. MapT x) (same-eq keys_total exact_keys q k p), same_Some m c (rw p at g))
    go false p g = left (rw p at g)
child_with (ListT q) (ListT k) m c n h = go (eq_by_cmp key_cmp q k) refl (sym (find-put keys_total exact_keys q k m n.lists) ∙ h)
  where
    go : (b : Bool) → eq_by_cmp key_cmp q k ≡ b → cond (eq_by_cmp key_cmp q k) (Some m) (find key_cmp q n.lists) ≡ Some c → Either (find key_cmp q n.lists ≡ Some c) ((ListT q ≡ ListT k) × (m ≡ c))
    go true p g = right (ap (λ x. ListT x) (same-eq keys_total exact_keys q k p), same_Some m c (rw p at g))
    go false p g = left (rw p at g)
child_with (MapT q) (ListT k) m c n h = left h
child_with (ListT q) (MapT k) m c n h = left h
child_with (MapT q) (RegT k) m c n h = left h
child_with (ListT q) (RegT k) m c n h = left h
child_with (RegT q) t m c n h = absurd (let f : ⊥ = cc in f)

no_child_new : (u t : Tagged) (c : ℕ) → child_number u (new_flat t) ≡ Some c → ⊥
no_child_new (MapT q) (MapT k) c h = cc
no_child_new (MapT q) (ListT k) c h = cc
no_child_new (MapT q) (RegT k) c h = cc
no_child_new (ListT q) (MapT k) c h = cc
no_child_new (ListT q) (ListT k) c h = cc
no_child_new (ListT q) (RegT k) c h = cc
no_child_new (RegT q) t c h = cc

pub no_child_blank : (u : Tagged) (c : ℕ) → child_number u blank ≡ Some c → ⊥
no_child_blank (MapT q) c h = cc
no_child_blank (ListT q) c h = cc
no_child_blank (RegT q) c h = cc

maps_with : (t : Tagged) (m : ℕ) (n : Flat) → AreSorted n.maps → AreSorted (with_child_number t m n).maps
maps_with (MapT k) m n s = rising-put keys_total exact_keys k m n.maps s
maps_with (ListT k) m n s = s
maps_with (RegT k) m n s = s

lists_with : (t : Tagged) (m : ℕ) (n : Flat) → AreSorted n.lists → AreSorted (with_child_number t m n).lists
lists_with (MapT k) m n s = s
lists_with (ListT k) m n s = rising-put keys_total exact_keys k m n.lists s
lists_with (RegT k) m n s = s

maps_new : (t : Tagged) → AreSorted (new_flat t).maps
maps_new (MapT k) = tt
maps_new (ListT k) = tt
maps_new (RegT k) = tt

lists_new : (t : Tagged) → AreSorted (new_flat t).lists
lists_new (MapT k) = tt
lists_new (ListT k) = tt
lists_new (RegT k) = tt

not_less : (a b : ℕ) → a < b → a ≢ b
not_less a b l e = omega (arith, l, e)

not_more : (a b : ℕ) → b < a → a ≢ b
not_more a b l e = omega (arith, l, e)

-- a node with a new child
module _ (ns : List Flat) (i : ℕ) (t : Tagged) (s : IsSoundArena ns) (w : i < length ns) where
  abbrev x : Flat
  x = with_child_number t (length ns) (flat_at ns i)

  abbrev ms : List Flat
  ms = slice_set ns i x ++ new_flat t ∷ []

  long : length ms ≡ suc (length ns)
  long = length-append (slice_set ns i x) (new_flat t ∷ []) ∙ rw (length-set ns i x) (omega arith)

  pub at_changed : flat_at ms i ≡ x
  at_changed = get_or-append (slice_set ns i x) (new_flat t ∷ []) blank i (rw (length-set ns i x) w) ∙ get_or-set_same ns i x blank w

  pub at_other : (a : ℕ) → a < length ns → a ≢ i → flat_at ms a ≡ flat_at ns a
  at_other a l d = get_or-append (slice_set ns i x) (new_flat t ∷ []) blank a (rw (length-set ns i x) l) ∙ get_or-set_other ns i a x blank d

  at_new : flat_at ms (length ns) ≡ new_flat t
  at_new = get_or_push (slice_set ns i x) (new_flat t) blank (length ns) (length-set ns i x)

  at_past : (a : ℕ) → length ns < a → flat_at ms a ≡ blank
  at_past a l = get_or_past ms a blank (omega (arith, long, l))

  edge : (a c : ℕ) (u : Tagged) → child_number u (flat_at ms a) ≡ Some c → Either (child_number u (flat_at ns a) ≡ Some c) ((a ≡ i) × (u ≡ t) × (length ns ≡ c))
  edge a c u h = go (cases_order a i) (cases_order a (length ns))
    where
      old : a < length ns → a ≢ i → Either (child_number u (flat_at ns a) ≡ Some c) ((a ≡ i) × (u ≡ t) × (length ns ≡ c))
      old l d = left (rw (at_other a l d) at h)

      same : a ≡ i → Either (child_number u (flat_at ns i) ≡ Some c) ((u ≡ t) × (length ns ≡ c)) → Either (child_number u (flat_at ns a) ≡ Some c) ((a ≡ i) × (u ≡ t) × (length ns ≡ c))
      same e (left g) = left (rw e g)
      same e (right g) = right (e, g.0, g.1)

      go : (a ≡ i) ⊎ ((a < i) ⊎ (i < a)) → (a ≡ length ns) ⊎ ((a < length ns) ⊎ (length ns < a)) → Either (child_number u (flat_at ns a) ≡ Some c) ((a ≡ i) × (u ≡ t) × (length ns ≡ c))
      go (inl e) o = same e (child_with u t (length ns) c (flat_at ns i) (rw (e, at_changed) at h))
      go (inr (inl l)) o = old (omega (arith, l, w)) (not_less a i l)
      go (inr (inr l)) (inl e) = absurd (no_child_new u t c (rw (e, at_new) at h))
      go (inr (inr l)) (inr (inl k)) = old k (not_more a i l)
      go (inr (inr l)) (inr (inr k)) = absurd (no_child_blank u c (rw (at_past a k) at h))

  pub sound_child : IsSoundArena ms
  sound_child = record {
    inner = λ a c u h. inner_of a c u (edge a c u h);
    once = λ a b c u v g h. once_of a b c u v (edge a c u g) (edge b c v h);
    maps_rise = λ a. rise_of (λ n. AreSorted n.maps) (maps_with t (length ns) (flat_at ns i) (s.maps_rise i)) (maps_new t) tt (λ b. s.maps_rise b) a (cases_order a i) (cases_order a (length ns));
    lists_rise = λ a. rise_of (λ n. AreSorted n.lists) (lists_with t (length ns) (flat_at ns i) (s.lists_rise i)) (lists_new t) tt (λ b. s.lists_rise b) a (cases_order a i) (cases_order a (length ns));
  }
    where
      inner_of : (a c : ℕ) (u : Tagged) → Either (child_number u (flat_at ns a) ≡ Some c) ((a ≡ i) × (u ≡ t) × (length ns ≡ c)) → (a < c) × (c < length ms)
      inner_of a c u (left g) = ((s.inner a c u g).0, omega (arith, (s.inner a c u g).1, long))
      inner_of a c u (right g) = (omega (arith, g.0, g.2, w), omega (arith, g.2, long))

      once_of : (a b c : ℕ) (u v : Tagged) → Either (child_number u (flat_at ns a) ≡ Some c) ((a ≡ i) × (u ≡ t) × (length ns ≡ c)) → Either (child_number v (flat_at ns b) ≡ Some c) ((b ≡ i) × (v ≡ t) × (length ns ≡ c)) → (a ≡ b) × (u ≡ v)
      once_of a b c u v (left g) (left h) = s.once a b c u v g h
      once_of a b c u v (left g) (right h) = absurd (omega (arith, (s.inner a c u g).1, h.2))
      once_of a b c u v (right g) (left h) = absurd (omega (arith, (s.inner b c v h).1, g.2))
      once_of a b c u v (right g) (right h) = (g.0 ∙ sym h.0, g.1 ∙ sym h.1)

      rise_of : (P : Flat → Type 0) → P x → P (new_flat t) → P blank → ((b : ℕ) → P (flat_at ns b)) → (a : ℕ) → (a ≡ i) ⊎ ((a < i) ⊎ (i < a)) → (a ≡ length ns) ⊎ ((a < length ns) ⊎ (length ns < a)) → P (flat_at ms a)
      rise_of P px pn pb ps a (inl e) o = rw (e, at_changed) px
      rise_of P px pn pb ps a (inr (inl l)) o = rw (at_other a (omega (arith, l, w)) (not_less a i l)) (ps a)
      rise_of P px pn pb ps a (inr (inr l)) (inl e) = rw (e, at_new) pn
      rise_of P px pn pb ps a (inr (inr l)) (inr (inl k)) = rw (at_other a k (not_more a i l)) (ps a)
      rise_of P px pn pb ps a (inr (inr l)) (inr (inr k)) = rw (at_past a k) pb

  at_first : IsSameBut ns ms i
  at_first = at_other

filled_put : (g : ℕ → Context) (k : Key) (m : ℕ) (es : List (Key × ℕ)) → filled_all g (put key_cmp k m es) ≡ put key_cmp k (g m) (filled_all g es)
filled_put g k m es = go (find key_cmp k es) refl
  where
    filled_find : (es : List (Key × ℕ)) → find key_cmp k es ≡ None → find key_cmp k (filled_all g es) ≡ None
    filled_find [] h = refl
    filled_find (e ∷ es) h = step (eq_by_cmp key_cmp k e.0) refl (λ f. filled_find es f) h
      where
        step : (b : Bool) → eq_by_cmp key_cmp k e.0 ≡ b → (find key_cmp k es ≡ None → find key_cmp k (filled_all g es) ≡ None) → find key_cmp k (e ∷ es) ≡ None → find key_cmp k (filled_all g (e ∷ es)) ≡ None
        step true p ih f = let n : Some e.1 ≡ None = rw p at f in cc
        step false p ih f = rw p (ih (rw p at f))

    filled_some : (c : ℕ) (es : List (Key × ℕ)) → find key_cmp k es ≡ Some c → find key_cmp k (filled_all g es) ≡ Some (g c)
    filled_some c [] h = cc
    filled_some c (e ∷ es) h = step (eq_by_cmp key_cmp k e.0) refl (λ f. filled_some c es f) h
      where
        step : (b : Bool) → eq_by_cmp key_cmp k e.0 ≡ b → (find key_cmp k es ≡ Some c → find key_cmp k (filled_all g es) ≡ Some (g c)) → find key_cmp k (e ∷ es) ≡ Some c → find key_cmp k (filled_all g (e ∷ es)) ≡ Some (g c)
        step true p ih f = rw p (ap (λ y. Some (g y)) (same_Some e.1 c (rw p at f)))
        step false p ih f = rw p (ih (rw p at f))

    filled_replaced : (es : List (Key × ℕ)) → filled_all g (replaced key_cmp k m es) ≡ replaced key_cmp k (g m) (filled_all g es)
    filled_replaced [] = refl
    filled_replaced (e ∷ es) = step (eq_by_cmp key_cmp k e.0) refl (filled_replaced es)
      where
        step : (b : Bool) → eq_by_cmp key_cmp k e.0 ≡ b → filled_all g (replaced key_cmp k m es) ≡ replaced key_cmp k (g m) (filled_all g es) → filled_all g (replaced key_cmp k m (e ∷ es)) ≡ replaced key_cmp k (g m) (filled_all g (e ∷ es))
        step true p ih = rw p refl
        step false p ih = rw p (ap (λ r. (e.0, g e.1) ∷ r) ih)

    filled_placed : (es : List (Key × ℕ)) → filled_all g (placed key_cmp k m es) ≡ placed key_cmp k (g m) (filled_all g es)
    filled_placed [] = refl
    filled_placed (e ∷ es) = step (key_cmp k e.0) refl (filled_placed es)
      where
        step : (o : Ordering) → key_cmp k e.0 ≡ o → filled_all g (placed key_cmp k m es) ≡ placed key_cmp k (g m) (filled_all g es) → filled_all g (placed key_cmp k m (e ∷ es)) ≡ placed key_cmp k (g m) (filled_all g (e ∷ es))
        step Less p ih = rw p refl
        step Equal p ih = rw p refl
        step Greater p ih = rw p (ap (λ r. (e.0, g e.1) ∷ r) ih)

    go : (o : Option ℕ) → find key_cmp k es ≡ o → filled_all g (put key_cmp k m es) ≡ put key_cmp k (g m) (filled_all g es)
    go None p = rw (p, filled_find es p) (filled_placed es)
    go (Some c) p = rw (p, filled_some c es p) (filled_replaced es)

-- the children of the changed node have the contexts that they had
module _ (ns ms : List Flat) (i : ℕ) (s : IsSoundArena ns) (same : IsSameBut ns ms i) where
  child_kept : (f g c : ℕ) (t : Tagged) → child_number t (flat_at ns i) ≡ Some c → length ns ≤ i + suc g → length ns ≤ i + suc f → context_of f ms c ≡ context_of g ns c
  child_kept f g c t e a b =
      let inside = s.inner i c t e in
      unchanged ns ms i f c s same inside.1 (λ r. omega (arith, reaches_le ns c i s r, inside.0)) ∙ same_depth ns f g c s (omega (arith, b, inside.0)) (omega (arith, a, inside.0))

  maps_kept : (f g : ℕ) → length ns ≤ i + suc g → length ns ≤ i + suc f → filled_all (λ c. context_of f ms c) (flat_at ns i).maps ≡ filled_all (λ c. context_of g ns c) (flat_at ns i).maps
  maps_kept f g a b = same_all (λ c. context_of g ns c) (λ c. context_of f ms c) (flat_at ns i).maps (s.maps_rise i) (λ k c e. child_kept f g c (MapT k) e a b)

  lists_kept : (f g : ℕ) → length ns ≤ i + suc g → length ns ≤ i + suc f → filled_all (λ c. context_of f ms c) (flat_at ns i).lists ≡ filled_all (λ c. context_of g ns c) (flat_at ns i).lists
  lists_kept f g a b = same_all (λ c. context_of g ns c) (λ c. context_of f ms c) (flat_at ns i).lists (s.lists_rise i) (λ k c e. child_kept f g c (ListT k) e a b)

-- the context of a node that is in the list, one level deep
pub one_level : (ns : List Flat) (i n : ℕ) → length ns ≡ suc n → context_of (length ns) ns i ≡ with_children (λ c. context_of n ns c) (flat_at ns i)
one_level ns i n e = ap (λ l. context_of l ns i) e

pub size_of : (n i : ℕ) → i < n → (m : ℕ) × (n ≡ suc m)
size_of zero i w = absurd (omega (arith, w))
size_of (suc n) i w = (n, refl)

here_is : (ns : List Flat) (at : List Tagged) (i : ℕ) → IsGood ns → walk ns 0 at ≡ Some i → node_at at (content_of_arena ns) ≡ Some (context_of (length ns) ns i)
here_is ns at i g path = found ns at i g.sound g.some path

child_content : (ns : List Flat) (i : ℕ) (t : Tagged) (g : IsSoundArena ns) (w : i < length ns) → HasContext t → (f : ℕ) → length (with_child t i ns) ≤ i + f → context_of f (with_child t i ns) i ≡ with_content t (new_content t) (context_of (length ns) ns i)
child_content ns i t g w kind zero l = absurd (omega (arith, l, w, long ns i t g w))
child_content ns i (MapT k) g w kind (suc f) l =
    let size = size_of (length ns) i w in
    let ms = with_child (MapT k) i ns in
    let same = at_first ns i (MapT k) g w in
    let a : length ns ≤ i + suc size.0 = omega (arith, size.1) in
    let b : length ns ≤ i + suc f = omega (arith, l, long ns i (MapT k) g w) in
    let maps = maps_kept ns ms i g same f size.0 a b in
    let lists = lists_kept ns ms i g same f size.0 a b in
    let new : context_of f ms (length ns) ≡ empty = fresh f (omega (arith, l, w, long ns i (MapT k) g w)) in
    rw (at_changed ns i (MapT k) g w, one_level ns i size.0 size.1, filled_put (λ c. context_of f ms c) k (length ns) (flat_at ns i).maps, new, maps, lists, listed_children) refl
  where
    fresh : (f : ℕ) → 1 ≤ f → context_of f (with_child (MapT k) i ns) (length ns) ≡ empty
    fresh zero h = absurd (omega (arith, h))
    fresh (suc f) h = rw (at_new ns i (MapT k) g w) refl
child_content ns i (ListT k) g w kind (suc f) l =
    let size = size_of (length ns) i w in
    let ms = with_child (ListT k) i ns in
    let same = at_first ns i (ListT k) g w in
    let a : length ns ≤ i + suc size.0 = omega (arith, size.1) in
    let b : length ns ≤ i + suc f = omega (arith, l, long ns i (ListT k) g w) in
    let maps = maps_kept ns ms i g same f size.0 a b in
    let lists = lists_kept ns ms i g same f size.0 a b in
    let new : context_of f ms (length ns) ≡ empty_list = fresh f (omega (arith, l, w, long ns i (ListT k) g w)) in
    rw (at_changed ns i (ListT k) g w, one_level ns i size.0 size.1, filled_put (λ c. context_of f ms c) k (length ns) (flat_at ns i).lists, new, maps, lists, listed_children) refl
  where
    fresh : (f : ℕ) → 1 ≤ f → context_of f (with_child (ListT k) i ns) (length ns) ≡ empty_list
    fresh zero h = absurd (omega (arith, h))
    fresh (suc f) h = rw (at_new ns i (ListT k) g w) refl
child_content ns i (RegT k) g w kind (suc f) l = absurd kind

without-with : (t : Tagged) (m : ℕ) (n : Flat) → child_number t n ≡ None → without_number t (with_child_number t m n) ≡ n
without-with (MapT k) m n h = rw (removed-put keys_total exact_keys k m n.maps h) refl
without-with (ListT k) m n h = rw (removed-put keys_total exact_keys k m n.lists h) refl
without-with (RegT k) m n h = refl

pub no_place : (ns : List Flat) (at : List Tagged) (i : ℕ) → IsGood ns → walk ns 0 at ≡ Some i → node_at at (content_of_arena ns) ≢ None
no_place ns at i g path = some_place at (content_of_arena ns) (context_of (length ns) ns i) (here_is ns at i g path)

pub here_context : (ns : List Flat) (at : List Tagged) (i : ℕ) → IsGood ns → walk ns 0 at ≡ Some i → context_at at (content_of_arena ns) ≡ context_of (length ns) ns i
here_context ns at i g path = rw (here_is ns at i g path) refl

fewer_node : (t : Tagged) (l : List Flat) → HasContext t → fewer (former_of_node t) l ≡ without_last l
fewer_node (MapT k) l h = refl
fewer_node (ListT k) l h = refl
fewer_node (RegT k) l h = absurd h

restored_node : (t : Tagged) (n : Flat) → HasContext t → restored_flat (former_of_node t) n ≡ without_number t n
restored_node (MapT k) n h = refl
restored_node (ListT k) n h = refl
restored_node (RegT k) n h = absurd h

-- what a new child changes
pub child_changes : (ns : List Flat) (at : List Tagged) (i : ℕ) (t : Tagged) → IsGood ns → walk ns 0 at ≡ Some i → i < length ns → HasContext t → child_number t (flat_at ns i) ≡ None → Changes ns (with_child t i ns) at (with_content t (new_content t) (context_at at (content_of_arena ns))) i (former_of_node t)
child_changes ns at i t g path w kind absent =
    let s = g.sound in
    let ms = with_child t i ns in
    let x = with_child_number t (length ns) (flat_at ns i) in
    let y = with_content t (new_content t) (context_at at (content_of_arena ns)) in
    let content : content_of_arena ms ≡ with_node_at at y (content_of_arena ns) = changed ns ms at i y s g.some (omega (arith, long ns i t s w)) path (at_first ns i t s w) (λ f l. child_content ns i t s w kind f l ∙ ap (λ c. with_content t (new_content t) c) (sym (here_context ns at i g path))) in
    let taken : restored_flat (former_of_node t) x ≡ flat_at ns i = restored_node t x kind ∙ without-with t (length ns) (flat_at ns i) absent in
    record {
      good = record { some = omega (arith, long ns i t s w); sound = sound_child ns i t s w; kept = rw content (kept-changed_at at (Child t) (content_of_arena ns) g.kept (no_place ns at i g path) tt) };
      content = content;
      back = ap (λ l. restored_in i (former_of_node t) l) (fewer_node t ms kind ∙ last_gone (slice_set ns i x) (new_flat t)) ∙ changed_back ns i x (λ n. restored_flat (former_of_node t) n) w taken;
    }

same_maps : (ch : Change) (n : Flat) → (changed_flat ch n).maps ≡ n.maps
same_maps (Child (MapT k)) n = refl
same_maps _ n = refl

same_lists : (ch : Change) (n : Flat) → (changed_flat ch n).lists ≡ n.lists
same_lists (Child (MapT k)) n = refl
same_lists _ n = refl

same_children : (u : Tagged) (ch : Change) (n : Flat) → child_number u (changed_flat ch n) ≡ child_number u n
same_children (MapT q) ch n = ap (λ es. find key_cmp q es) (same_maps ch n)
same_children (ListT q) ch n = ap (λ es. find key_cmp q es) (same_lists ch n)
same_children (RegT q) ch n = refl

-- the context of a changed node, with the same contexts of its children
filled-changed : (g : ℕ → Context) (ch : Change) (n : Flat) → IsInside ch → with_children g (changed_flat ch n) ≡ changed_by ch (with_children g n)
filled-changed g (Child (MapT k)) n h = absurd h
filled-changed g (Child (ListT k)) n h = absurd h
filled-changed g _ n h = refl

fewer_id : (k : Key) (i : Id) (o : Option (List Id)) (l : List Flat) → fewer (former_of_id k i o) l ≡ l
fewer_id k i None l = refl
fewer_id k i (Some s) l = step (has_id i s)
  where
    step : (b : Bool) → fewer (cond b F.Same (F.NoId k i)) l ≡ l
    step true = refl
    step false = refl

fewer_value : (k : Key) (i : Id) (o : Option Register) (l : List Flat) → fewer (former_of_value k i o) l ≡ l
fewer_value k i None l = refl
fewer_value k i (Some r) l = refl

fewer_inside : (ch : Change) (n : Flat) (l : List Flat) → IsInside ch → fewer (former_of_flat ch n) l ≡ l
fewer_inside (Child (MapT k)) n l h = absurd h
fewer_inside (Child (ListT k)) n l h = absurd h
fewer_inside (AddId k i) n l h = fewer_id k i (find key_cmp k n.presences) l
fewer_inside (PutValue k i v) n l h = fewer_value k i (find key_cmp k n.registers) l
fewer_inside _ n l h = refl

-- an identifier that was added to a key's set, taken back
added_back : (k : Key) (i : Id) (n : Flat) → ((s : List Id) → find key_cmp k n.presences ≡ Some s → AreRising s) → restored_flat (former_of_flat (AddId k i) n) (changed_flat (AddId k i) n) ≡ n
added_back k i n rises = go (find key_cmp k n.presences) refl
  where
    go : (o : Option (List Id)) → find key_cmp k n.presences ≡ o → restored_flat (former_of_id k i o) (with_presences (put key_cmp k (with_id i (or_no_entries o)) n.presences) n) ≡ n
    go None e = ap (λ p. with_presences p n) (removed-put keys_total exact_keys k (i ∷ []) n.presences e)
    go (Some s) e = step (has_id i s) refl
      where
        step : (b : Bool) → has_id i s ≡ b → restored_flat (cond b F.Same (F.NoId k i)) (with_presences (put key_cmp k (with_id i s) n.presences) n) ≡ n
        step true h = ap (λ v. with_presences (put key_cmp k v n.presences) n) (with-present i s (rises s e) h) ∙ ap (λ p. with_presences p n) (put-same keys_total exact_keys k s n.presences e)
        step false h = ap (λ p. with_presences p n) (set-out k i s n.presences e h)

-- a value that was put into a key's register, taken back
put_back : (k : Key) (i : Id) (v : Value) (n : Flat) → restored_flat (former_of_flat (PutValue k i v) n) (changed_flat (PutValue k i v) n) ≡ n
put_back k i v n = go (find key_cmp k n.registers) refl
  where
    go : (o : Option Register) → find key_cmp k n.registers ≡ o → restored_flat (former_of_value k i o) (with_registers (put key_cmp k (put id_cmp i v (or_no_entries o)) n.registers) n) ≡ n
    go None e = ap (λ r. with_registers r n) (removed-put keys_total exact_keys k (put id_cmp i v []) n.registers e)
    go (Some s) e = ap (λ r. with_registers r n) (value-back k i v s n.registers e)

-- a node that was changed and is as it was
restored_inside : (ch : Change) (n : Flat) → IsInside ch → ((k : Key) (s : List Id) → find key_cmp k n.presences ≡ Some s → AreRising s) → restored_flat (former_of_flat ch n) (changed_flat ch n) ≡ n
restored_inside (Child (MapT k)) n h rises = absurd h
restored_inside (Child (ListT k)) n h rises = absurd h
restored_inside (Child (RegT k)) n h rises = rw (restored-put keys_total exact_keys k [] n.registers) refl
restored_inside (AddId k i) n h rises = added_back k i n (λ s e. rises k s e)
restored_inside (Presence k s) n h rises = rw (restored-put keys_total exact_keys k s n.presences) refl
restored_inside (Link k x) n h rises = rw (restored-put keys_total exact_keys k x n.links) refl
restored_inside (PutValue k i v) n h rises = put_back k i v n
restored_inside (SetRegister k v) n h rises = rw (restored-put keys_total exact_keys k v n.registers) refl

-- a node that a change makes another one
module _ (ns : List Flat) (i : ℕ) (ch : Change) (s : IsSoundArena ns) (w : i < length ns) where
  abbrev xc : Flat
  xc = changed_flat ch (flat_at ns i)

  abbrev mc : List Flat
  mc = slice_set ns i xc

  as_long : length mc ≡ length ns
  as_long = length-set ns i xc

  node_changed : flat_at mc i ≡ xc
  node_changed = get_or-set_same ns i xc blank w

  node_other : (a : ℕ) → a ≢ i → flat_at mc a ≡ flat_at ns a
  node_other a d = get_or-set_other ns i a xc blank d

  same_but : IsSameBut ns mc i
  same_but = λ a l e. node_other a e

  same_for : {A : Type 0} (f : Flat → A) → f xc ≡ f (flat_at ns i) → (a : ℕ) → (a ≡ i) ⊎ ((a < i) ⊎ (i < a)) → f (flat_at mc a) ≡ f (flat_at ns a)
  same_for f e a (inl q) = rw (q, node_changed) e
  same_for f e a (inr (inl q)) = ap f (node_other a (not_less a i q))
  same_for f e a (inr (inr q)) = ap f (node_other a (not_more a i q))

  pub same_edge : (a : ℕ) (u : Tagged) → child_number u (flat_at mc a) ≡ child_number u (flat_at ns a)
  same_edge a u = same_for (λ n. child_number u n) (same_children u ch (flat_at ns i)) a (cases_order a i)

  sound_change : IsSoundArena mc
  sound_change = record {
    inner = λ a c u h. let o = s.inner a c u (sym (same_edge a u) ∙ h) in (o.0, omega (arith, o.1, as_long));
    once = λ a b c u v g h. s.once a b c u v (sym (same_edge a u) ∙ g) (sym (same_edge b v) ∙ h);
    maps_rise = λ a. subst (λ es. AreSorted es) (sym (same_for (λ n. n.maps) (same_maps ch (flat_at ns i)) a (cases_order a i))) (s.maps_rise a);
    lists_rise = λ a. subst (λ es. AreSorted es) (sym (same_for (λ n. n.lists) (same_lists ch (flat_at ns i)) a (cases_order a i))) (s.lists_rise a);
  }

change_content : (ns : List Flat) (i : ℕ) (ch : Change) (g : IsSoundArena ns) (w : i < length ns) → IsInside ch → (f : ℕ) → length (with_change ch i ns) ≤ i + f → context_of f (with_change ch i ns) i ≡ changed_by ch (context_of (length ns) ns i)
change_content ns i ch g w h zero l = absurd (omega (arith, l, w, as_long ns i ch g w))
change_content ns i ch g w h (suc f) l =
    let size = size_of (length ns) i w in
    let ms = with_change ch i ns in
    let same = same_but ns i ch g w in
    let a : length ns ≤ i + suc size.0 = omega (arith, size.1) in
    let b : length ns ≤ i + suc f = omega (arith, l, as_long ns i ch g w) in
    let maps = maps_kept ns ms i g same f size.0 a b in
    let lists = lists_kept ns ms i g same f size.0 a b in
    let here : with_children (λ c. context_of f ms c) (flat_at ns i) ≡ context_of (length ns) ns i = rw (one_level ns i size.0 size.1, maps, lists) refl in
    ap (λ n. with_children (λ c. context_of f ms c) n) (node_changed ns i ch g w) ∙ filled-changed (λ c. context_of f ms c) ch (flat_at ns i) h ∙ ap (λ c. changed_by ch c) here

-- what is read of a node is read of its context
pub read_here : {A : Type 0} (P : Context → A) (Q : Flat → A) (ns : List Flat) (at : List Tagged) (i : ℕ) → IsGood ns → walk ns 0 at ≡ Some i → i < length ns → ((g : ℕ → Context) (n : Flat) → P (with_children g n) ≡ Q n) → P (context_at at (content_of_arena ns)) ≡ Q (flat_at ns i)
read_here P Q ns at i g path w same =
    let size = size_of (length ns) i w in
    ap P (here_context ns at i g path ∙ one_level ns i size.0 size.1) ∙ same (λ c. context_of size.0 ns c) (flat_at ns i)

-- what a change that makes no node changes
pub inside_changes : (ns : List Flat) (at : List Tagged) (i : ℕ) (ch : Change) → IsGood ns → walk ns 0 at ≡ Some i → i < length ns → IsInside ch → IsFit ch → Changes ns (with_change ch i ns) at (changed_by ch (context_at at (content_of_arena ns))) i (former_of_flat ch (flat_at ns i))
inside_changes ns at i ch g path w h fit =
    let s = g.sound in
    let ms = with_change ch i ns in
    let n = flat_at ns i in
    let y = changed_by ch (context_at at (content_of_arena ns)) in
    let place = no_place ns at i g path in
    let rises : (k : Key) (r : List Id) → find key_cmp k n.presences ≡ Some r → AreRising r = λ k r e. presence_rises at k r r (content_of_arena ns) g.kept place (read_here (λ c. presence k c) (λ m. find key_cmp k m.presences) ns at i g path w (λ f m. refl) ∙ e) refl in
    let content : content_of_arena ms ≡ with_node_at at y (content_of_arena ns) = changed ns ms at i y s g.some (omega (arith, as_long ns i ch s w)) path (same_but ns i ch s w) (λ f l. change_content ns i ch s w h f l ∙ ap (λ c. changed_by ch c) (sym (here_context ns at i g path))) in
    record {
      good = record { some = omega (arith, as_long ns i ch s w, w); sound = sound_change ns i ch s w; kept = rw content (kept-changed_at at ch (content_of_arena ns) g.kept place fit) };
      content = content;
      back = ap (λ l. restored_in i (former_of_flat ch n) l) (fewer_inside ch n ms h) ∙ changed_back ns i (changed_flat ch n) (λ m. restored_flat (former_of_flat ch n) m) w (restored_inside ch n h rises);
    }
