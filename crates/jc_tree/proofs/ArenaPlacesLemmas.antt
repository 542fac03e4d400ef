-- About Arena: changes keep the numbers to which paths lead.
use Rattle.std.proofs.Common.{◌≡◌, ◌≢◌, ℕ, zero, suc, ◌<◌, ◌≤◌, List, [], ◌∷◌, ◌++◌, length, Option, Some, None, Bool, true, false, is_some, ◌⊎◌, refl, sym, ◌∙◌, ap, arith, cond}
use Rattle.std.specs.Ordering.{eq_by_cmp}
use Rattle.std.proofs.lemmas.Option.{same_Some}
use Rattle.std.proofs.lemmas.Bool.{cases_order}
use Rattle.std.proofs.lemmas.Bool.Decides.{Decides-eqb}
use mathlib.Core.Logic.{inl, inr}
use Rattle.jc_rules.specs.declared.key.Key.{Key}
use Rattle.jc_rules.specs.declared.key.Tagged.{Tagged}
use Rattle.jc_rules.specs.declared.key.Tagged.TheVariants.{MapT, ListT, RegT}
use Rattle.jc_rules.specs.Order.{key_cmp}
use Rattle.jc_rules.specs.Entries.{find}
use Rattle.jc_rules.specs.Context.{Context, content}
use Rattle.jc_rules.specs.Paths.{HasContext}
use Rattle.jc_rules.specs.ContextsAt.{node_in, node_at, context_at}
use Rattle.jc_rules.proofs.OrderLemmas.{keys_total, exact_keys}
use Rattle.jc_rules.proofs.EntriesLemmas.{same-self, same-eq, find-put}
use Rattle.jc_tree.specs.declared.node.Change.{Change}
use Rattle.jc_tree.specs.Arena.{Flat, flat_at, with_children, content_of_arena, child_number, go_on, walk, with_child_number, is_number, path_to, IsSoundArena, IsNodeAt}
use Rattle.jc_tree.specs.ContextPaths.{paths}
use Rattle.jc_tree.proofs.ContextPathsLemmas.{listed_path, first_passes}
use Rattle.jc_tree.specs.ArenaUndo.{IsGood}
use Rattle.jc_tree.proofs.PlacesLemmas.{some_content, no_node, some_place}
use Rattle.jc_tree.proofs.ArenaNumbersLemmas.{content_is, no_walk, past_blank, found}
use Rattle.jc_tree.proofs.ArenaStepsLemmas.{read_at}
use Rattle.jc_tree.proofs.ArenaChangesLemmas.{with_child, with_change, no_child_blank, at_changed, at_other, same_edge}

-- one key further down
further_down : (ns : List Flat) (at : List Tagged) (a i : ℕ) (t : Tagged) → walk ns a at ≡ Some i → walk ns a (at ++ t ∷ []) ≡ child_number t (flat_at ns i)
further_down ns [] a i t h = last (child_number t (flat_at ns a)) ∙ ap (λ n. child_number t (flat_at ns n)) (same_Some a i h)
  where
    last : (o : Option ℕ) → go_on o (λ j. Some j) ≡ o
    last None = refl
    last (Some j) = refl
further_down ns (u ∷ at) a i t h = go (child_number u (flat_at ns a)) (λ j. further_down ns at j i t) h
  where
    go : (o : Option ℕ) → ((j : ℕ) → walk ns j at ≡ Some i → walk ns j (at ++ t ∷ []) ≡ child_number t (flat_at ns i)) → go_on o (λ j. walk ns j at) ≡ Some i → go_on o (λ j. walk ns j (at ++ t ∷ [])) ≡ child_number t (flat_at ns i)
    go None ih f = no_walk f
    go (Some j) ih f = ih j f

-- a path leads to a node that is in the list
walk_inside : (ns : List Flat) (at : List Tagged) (a j : ℕ) → IsSoundArena ns → a < length ns → walk ns a at ≡ Some j → j < length ns
walk_inside ns [] a j s w h = rw (same_Some a j h) at w
walk_inside ns (u ∷ at) a j s w h = go (child_number u (flat_at ns a)) refl (λ c. walk_inside ns at c j s) h
  where
    go : (o : Option ℕ) → child_number u (flat_at ns a) ≡ o → ((c : ℕ) → c < length ns → walk ns c at ≡ Some j → j < length ns) → go_on o (λ c. walk ns c at) ≡ Some j → j < length ns
    go None e ih f = no_walk f
    go (Some c) e ih f = ih c (s.inner a c u e).1 f

pub place_inside : (ns : List Flat) (at : List Tagged) (i : ℕ) → IsGood ns → walk ns 0 at ≡ Some i → i < length ns
place_inside ns at i g path = walk_inside ns at 0 i g.sound g.some path

-- whether a node has a child under a tagged key
child_is : (g : ℕ → Context) (n : Flat) (t : Tagged) → is_some (node_in (content t (with_children g n))) ≡ is_some (child_number t n)
child_is g n (MapT k) = some_content (MapT k) (with_children g n) tt ∙ content_is g n (MapT k)
child_is g n (ListT k) = some_content (ListT k) (with_children g n) tt ∙ content_is g n (ListT k)
child_is g n (RegT k) = ap (λ o. is_some o) (no_node k (with_children g n))

-- what is read of a node as its child is the child at the place
pub below_some : (ns : List Flat) (at : List Tagged) (i : ℕ) (t : Tagged) (x : Flat) (o : Option ℕ) → IsGood ns → walk ns 0 at ≡ Some i → x ≡ flat_at ns i → o ≡ child_number t x → is_some o ≡ is_some (node_in (content t (context_at at (content_of_arena ns))))
below_some ns at i t x o g path e h = read_at (λ d. is_some (node_in (content t d))) (λ n. is_some (child_number t n)) ns at i x (is_some o) g path (place_inside ns at i g path) e (λ f n. child_is f n t) (ap (λ u. is_some u) h)

-- under a map's or a list's tagged key it is all that is there
pub child_some : (ns : List Flat) (at : List Tagged) (i : ℕ) (t : Tagged) (x : Flat) (o : Option ℕ) → IsGood ns → walk ns 0 at ≡ Some i → x ≡ flat_at ns i → HasContext t → o ≡ child_number t x → is_some o ≡ is_some (content t (context_at at (content_of_arena ns)))
child_some ns at i t x o g path e k h = below_some ns at i t x o g path e h ∙ some_content t (context_at at (content_of_arena ns)) k

pub below_named : (ns : List Flat) (at : List Tagged) (i : ℕ) (t : Tagged) (x : Flat) (o : Option ℕ) → IsGood ns → walk ns 0 at ≡ Some i → x ≡ flat_at ns i → o ≡ child_number t x → walk ns 0 (at ++ t ∷ []) ≡ o
below_named ns at i t x o g path e h = further_down ns at 0 i t path ∙ ap (λ n. child_number t n) (sym e) ∙ sym h

-- where each child is still there, so is each place
pub walk_lasts : (ns ms : List Flat) → ((a c : ℕ) (u : Tagged) → child_number u (flat_at ns a) ≡ Some c → child_number u (flat_at ms a) ≡ Some c) → (at : List Tagged) (a j : ℕ) → walk ns a at ≡ Some j → walk ms a at ≡ Some j
walk_lasts ns ms k [] a j h = h
walk_lasts ns ms k (u ∷ at) a j h = go (child_number u (flat_at ns a)) refl (λ c. walk_lasts ns ms k at c j) h
  where
    go : (o : Option ℕ) → child_number u (flat_at ns a) ≡ o → ((c : ℕ) → walk ns c at ≡ Some j → walk ms c at ≡ Some j) → go_on o (λ c. walk ns c at) ≡ Some j → walk ms a (u ∷ at) ≡ Some j
    go None e ih f = no_walk f
    go (Some c) e ih f = rw (k a c u e) (ih c f)

-- the child under a tagged key that was given a number
child_named : (t : Tagged) (m : ℕ) (n : Flat) → HasContext t → child_number t (with_child_number t m n) ≡ Some m
child_named (MapT k) m n h = find-put keys_total exact_keys k k m n.maps ∙ ap (λ b. cond b (Some m) (find key_cmp k n.maps)) (same-self keys_total exact_keys k)
child_named (ListT k) m n h = find-put keys_total exact_keys k k m n.lists ∙ ap (λ b. cond b (Some m) (find key_cmp k n.lists)) (same-self keys_total exact_keys k)
child_named (RegT k) m n h = absurd h

-- a child's number stays when another child is named
number_stays : (q k : Key) (m c : ℕ) (es : List (Key × ℕ)) → find key_cmp k es ≡ None → find key_cmp q es ≡ Some c → cond (eq_by_cmp key_cmp q k) (Some m) (find key_cmp q es) ≡ Some c
number_stays q k m c es none h = go (eq_by_cmp key_cmp q k) refl
  where
    go : (b : Bool) → eq_by_cmp key_cmp q k ≡ b → cond b (Some m) (find key_cmp q es) ≡ Some c
    go true p = no_walk (sym none ∙ ap (λ x. find key_cmp x es) (sym (same-eq keys_total exact_keys q k p)) ∙ h)
    go false p = h

child_stays : (u t : Tagged) (m c : ℕ) (n : Flat) → child_number t n ≡ None → child_number u n ≡ Some c → child_number u (with_child_number t m n) ≡ Some c
child_stays (MapT q) (MapT k) m c n none h = find-put keys_total exact_keys q k m n.maps ∙ number_stays q k m c n.maps none h
child_stays (ListT q) (ListT k) m c n none h = find-put keys_total exact_keys q k m n.lists ∙ number_stays q k m c n.lists none h
child_stays (MapT q) (ListT k) m c n none h = h
child_stays (ListT q) (MapT k) m c n none h = h
child_stays (MapT q) (RegT k) m c n none h = h
child_stays (ListT q) (RegT k) m c n none h = h
child_stays (RegT q) t m c n none h = no_walk h

-- a new child's number is what the path to it leads to
module _ (ns : List Flat) (i : ℕ) (t : Tagged) (g : IsGood ns) (w : i < length ns) (none : child_number t (flat_at ns i) ≡ None) where
  each_child : (a c : ℕ) (u : Tagged) → child_number u (flat_at ns a) ≡ Some c → child_number u (flat_at (with_child t i ns) a) ≡ Some c
  each_child a c u h = go (cases_order a i) (cases_order a (length ns))
    where
      other : a < length ns → (a ≡ i → ⊥) → child_number u (flat_at (with_child t i ns) a) ≡ Some c
      other l d = ap (λ n. child_number u n) (at_other ns i t g.sound w a l d) ∙ h

      past : length ns ≤ a → child_number u (flat_at (with_child t i ns) a) ≡ Some c
      past l = absurd (no_child_blank u c (ap (λ n. child_number u n) (sym (past_blank ns a l)) ∙ h))

      go : (a ≡ i) ⊎ ((a < i) ⊎ (i < a)) → (a ≡ length ns) ⊎ ((a < length ns) ⊎ (length ns < a)) → child_number u (flat_at (with_child t i ns) a) ≡ Some c
      go (inl e) o = rw (e, at_changed ns i t g.sound w) (child_stays u t (length ns) c (flat_at ns i) none (rw e at h))
      go (inr o) (inl e) = past (omega (arith, e))
      go (inr o) (inr (inr l)) = past (omega (arith, l))
      go (inr (inl d)) (inr (inl l)) = other l (λ e. omega (arith, e, d))
      go (inr (inr d)) (inr (inl l)) = other l (λ e. omega (arith, e, d))

  pub child_at : (at : List Tagged) → walk ns 0 at ≡ Some i → HasContext t → walk (with_child t i ns) 0 (at ++ t ∷ []) ≡ Some (length ns)
  child_at at path kind =
      further_down (with_child t i ns) at 0 i t (walk_lasts ns (with_child t i ns) each_child at 0 i path) ∙ ap (λ n. child_number t n) (at_changed ns i t g.sound w) ∙ child_named t (length ns) (flat_at ns i) kind

  -- each path leads to the number that it led to
  pub names_last : (at : List Tagged) (j : ℕ) → walk ns 0 at ≡ Some j → walk (with_child t i ns) 0 at ≡ Some j
  names_last at j path = walk_lasts ns (with_child t i ns) each_child at 0 j path

-- where each child is the same, each path leads to the same number
walk_same : (ns ms : List Flat) → ((a : ℕ) (u : Tagged) → child_number u (flat_at ms a) ≡ child_number u (flat_at ns a)) → (at : List Tagged) (a : ℕ) → walk ms a at ≡ walk ns a at
walk_same ns ms k [] a = refl
walk_same ns ms k (u ∷ at) a = rw (k a u) (go (child_number u (flat_at ns a)) (λ c. walk_same ns ms k at c))
  where
    go : (o : Option ℕ) → ((c : ℕ) → walk ms c at ≡ walk ns c at) → go_on o (λ c. walk ms c at) ≡ go_on o (λ c. walk ns c at)
    go None ih = refl
    go (Some c) ih = ih c

-- a change that makes no node leaves each path its number
pub numbers_stay : (ns : List Flat) (i : ℕ) (ch : Change) → IsGood ns → i < length ns → (at : List Tagged) → walk (with_change ch i ns) 0 at ≡ walk ns 0 at
numbers_stay ns i ch g w at = walk_same ns (with_change ch i ns) (λ a u. same_edge ns i ch g.sound w a u) at 0

-- the last step of a way
record LastStep (ns : List Flat) (a j : ℕ) (at : List Tagged) : Type 0 where
  front : List Tagged
  key : Tagged
  from : ℕ
  whole : at ≡ front ++ key ∷ []
  way : walk ns a front ≡ Some from
  step : child_number key (flat_at ns from) ≡ Some j

last_step : (ns : List Flat) (t : Tagged) (ts : List Tagged) (a j : ℕ) → walk ns a (t ∷ ts) ≡ Some j → LastStep ns a j (t ∷ ts)
last_step ns t [] a j h = go (child_number t (flat_at ns a)) refl h
  where
    go : (o : Option ℕ) → child_number t (flat_at ns a) ≡ o → go_on o (λ i. Some i) ≡ Some j → LastStep ns a j (t ∷ [])
    go None e f = no_walk f
    go (Some i) e f = record { front = []; key = t; from = a; whole = refl; way = refl; step = e ∙ f }
last_step ns t (u ∷ ts) a j h = go (child_number t (flat_at ns a)) refl (λ i. last_step ns u ts i j) h
  where
    go : (o : Option ℕ) → child_number t (flat_at ns a) ≡ o → ((i : ℕ) → walk ns i (u ∷ ts) ≡ Some j → LastStep ns i j (u ∷ ts)) → go_on o (λ i. walk ns i (u ∷ ts)) ≡ Some j → LastStep ns a j (t ∷ u ∷ ts)
    go None e ih f = no_walk f
    go (Some i) e ih f =
        let l = ih i f in
        record { front = t ∷ l.front; key = l.key; from = l.from; whole = ap (λ x. t ∷ x) l.whole; way = rw e l.way; step = l.step }

-- no way leads back to the root
no_way_back : (ns : List Flat) (t : Tagged) (ts : List Tagged) (j : ℕ) → IsSoundArena ns → walk ns 0 [] ≡ Some j → walk ns 0 (t ∷ ts) ≡ Some j → ⊥
no_way_back ns t ts j s h g =
    let l = last_step ns t ts 0 j g in
    let less = (s.inner l.from j l.key l.step).0 in
    let root : 0 ≡ j = same_Some 0 j h in
    omega (arith, less, root)

-- one way leads to a number
one_way : (n : ℕ) (ns : List Flat) (at q : List Tagged) (j : ℕ) → IsSoundArena ns → length at ≤ n → walk ns 0 at ≡ Some j → walk ns 0 q ≡ Some j → at ≡ q
one_way n ns [] [] j s w h g = refl
one_way n ns [] (u ∷ us) j s w h g = absurd (no_way_back ns u us j s h g)
one_way n ns (t ∷ ts) [] j s w h g = absurd (no_way_back ns t ts j s g h)
one_way zero ns (t ∷ ts) (u ∷ us) j s w h g = absurd (omega (arith, w))
one_way (suc n) ns (t ∷ ts) (u ∷ us) j s w h g =
    let l = last_step ns t ts 0 j h in
    let m = last_step ns u us 0 j g in
    let same = s.once l.from m.from j l.key m.key l.step m.step in
    let longer : length (t ∷ ts) ≡ suc (length l.front) = ap length l.whole ∙ length_last l.front l.key in
    let fronts : l.front ≡ m.front = one_way n ns l.front m.front l.from s (omega (arith, w, longer)) l.way (rw same.0 m.way) in
    l.whole ∙ (λ i. fronts i ++ same.1 i ∷ []) ∙ sym m.whole
  where
    length_last : (xs : List Tagged) (x : Tagged) → length (xs ++ x ∷ []) ≡ suc (length xs)
    length_last [] x = refl
    length_last (y ∷ xs) x = ap suc (length_last xs x)

number_is : (i : ℕ) (o : Option ℕ) → is_number i o ≡ true → o ≡ Some i
number_is i None h = cc
number_is i (Some j) h = ap (λ n. Some n) ((Decides-eqb j i).0 h)

-- it is found by its number
path_found : (ns : List Flat) (at : List Tagged) (i : ℕ) → IsSoundArena ns → node_at at (content_of_arena ns) ≢ None → walk ns 0 at ≡ Some i → path_to ns i ≡ at
path_found ns at i s p h =
    let is : is_number i (walk ns 0 at) ≡ true = ap (λ o. is_number i o) h ∙ (Decides-eqb i i).1 refl in
    let found = first_passes (λ q. is_number i (walk ns 0 q)) (paths (content_of_arena ns)) at (listed_path at (content_of_arena ns) p) is in
    sym (one_way (length at) ns at (path_to ns i) i s (omega arith) h (number_is i (walk ns 0 (path_to ns i)) found))

-- a path that leads to a number leads to a context
pub at_number : (ns : List Flat) (at : List Tagged) (i : ℕ) → IsGood ns → walk ns 0 at ≡ Some i → IsNodeAt ns i at
at_number ns at i g h =
    let p = some_place at (content_of_arena ns) _ (found ns at i g.sound g.some h) in
    record { walk = h; path = path_found ns at i g.sound p h; there = p }

pub nodes_stay : (ns ms : List Flat) → IsGood ms → ((at : List Tagged) → walk ms 0 at ≡ walk ns 0 at) → (q : List Tagged) (i : ℕ) → IsNodeAt ns i q → IsNodeAt ms i q
nodes_stay ns ms g same q i h = at_number ms q i g (same q ∙ h.walk)
