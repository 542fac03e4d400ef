-- About Arena: the content by the numbers of its nodes.
use Rattle.std.proofs.Common.{◌≡◌, ◌≢◌, ℕ, zero, suc, ◌+◌, ◌<◌, ◌≤◌, List, [], ◌∷◌, length, Option, Some, None, Bool, true, false, is_some, refl, sym, ◌∙◌, ap, arith}
use Rattle.std.specs.List.{AllByRecursion}
use Rattle.std.specs.Ordering.{eq_by_cmp}
use Rattle.std.specs.declared.cmp.Ordering.TheVariants.{Less}
use Rattle.std.proofs.lemmas.Option.{same_Some}
use Rattle.std.proofs.lemmas.List.{get_or_past}
use Rattle.jc_rules.specs.declared.key.Key.{Key}
use Rattle.jc_rules.specs.declared.key.Tagged.{Tagged}
use Rattle.jc_rules.specs.declared.key.Tagged.TheVariants.{MapT, ListT, RegT}
use Rattle.jc_rules.specs.Order.{key_cmp}
use Rattle.jc_rules.specs.Entries.{find, put, replaced, keys_of}
use Rattle.jc_rules.specs.Context.{Context, Register, content, node_of, values_of}
use Rattle.jc_rules.specs.ContextsAt.{at_node, node_at, with_node_at}
use Rattle.jc_rules.proofs.OrderLemmas.{keys_total, exact_keys}
use Rattle.jc_rules.proofs.EntriesLemmas.{same-self, same-eq}
use Rattle.jc_rules.proofs.ContextsAtLemmas.{listed_children}
use Rattle.jc_tree.specs.Sorted.{AreSorted}
use Rattle.jc_tree.specs.Arena.{Flat, blank, flat_at, filled_all, with_children, context_of, content_of_arena, child_number, is_in, go_on, walk, IsSoundArena}

-- all nodes of the first but the one with number j are the same in the second
abbrev pub IsSameBut : List Flat → List Flat → ℕ → Type 0
IsSameBut ns ms j = (i : ℕ) → i < length ns → i ≢ j → flat_at ms i ≡ flat_at ns i

-- a number from which the edges lead down to another
pub data Reaches (ns : List Flat) (a : ℕ) : ℕ → Type 0 where
  here : (j : ℕ) → a ≡ j → Reaches ns a j
  further : (k j : ℕ) (t : Tagged) → Reaches ns a k → child_number t (flat_at ns k) ≡ Some j → Reaches ns a j

pub reaches_le : (ns : List Flat) (a j : ℕ) → IsSoundArena ns → Reaches ns a j → a ≤ j
reaches_le ns a j s (here _ e) = omega (arith, e)
reaches_le ns a j s (further k _ t r e) = omega (arith, reaches_le ns a k s r, (s.inner k j t e).0)

-- an edge on top
reaches_down : (ns : List Flat) (i k j : ℕ) (t : Tagged) → child_number t (flat_at ns i) ≡ Some k → Reaches ns k j → Reaches ns i j
reaches_down ns i k j t h (here _ e) = further i j t (here i refl) (h ∙ ap (λ x. Some x) e)
reaches_down ns i k j t h (further m _ s r e) = further m j s (reaches_down ns i k m t h r) e

walk_reaches : (ns : List Flat) (at : List Tagged) (i j : ℕ) → walk ns i at ≡ Some j → Reaches ns i j
walk_reaches ns [] i j h = here j (same_Some i j h)
walk_reaches ns (t ∷ ts) i j h = go (child_number t (flat_at ns i)) refl (λ k f. walk_reaches ns ts k j f) h
  where
    go : (o : Option ℕ) → child_number t (flat_at ns i) ≡ o → ((k : ℕ) → walk ns k ts ≡ Some j → Reaches ns k j) → go_on o (λ k. walk ns k ts) ≡ Some j → Reaches ns i j
    go None e ih f = absurd (let no : ⊥ = cc in no)
    go (Some k) e ih f = reaches_down ns i k j t e (ih k f)

pub data Either (A B : Type 0) : Type 0 where
  left : A → Either A B
  right : B → Either A B

-- of two numbers that lead to a third, one leads to the other
meet : (ns : List Flat) (a b j : ℕ) → IsSoundArena ns → Reaches ns a j → Reaches ns b j → Either (Reaches ns a b) (Reaches ns b a)
meet ns a b j s (here _ e) q = right (rw e q)
meet ns a b j s (further k _ t r e) (here _ f) = left (rw f (further k j t r e))
meet ns a b j s (further k _ t r e) (further m _ u q f) =
    let same : k ≡ m = (s.once k m j t u e f).0 in
    meet ns a b m s (rw same at r) q

-- two children of one node don't lead to each other, unless they are one
below_one : (ns : List Flat) (i k m : ℕ) (t u : Tagged) → IsSoundArena ns → child_number t (flat_at ns i) ≡ Some k → child_number u (flat_at ns i) ≡ Some m → Reaches ns k m → t ≡ u
below_one ns i k m t u s e f (here _ same) = (s.once i i m t u (e ∙ ap (λ x. Some x) same) f).1
below_one ns i k m t u s e f (further v _ w r g) =
    let up : v ≡ i = (s.once v i m w u g f).0 in
    absurd (omega (arith, reaches_le ns k v s r, up, (s.inner i k t e).0))

apart : (ns : List Flat) (i k m j : ℕ) (t u : Tagged) → IsSoundArena ns → child_number t (flat_at ns i) ≡ Some k → child_number u (flat_at ns i) ≡ Some m → Reaches ns k j → Reaches ns m j → t ≡ u
apart ns i k m j t u s e f p q = go (meet ns k m j s p q)
  where
    go : Either (Reaches ns k m) (Reaches ns m k) → t ≡ u
    go (left r) = below_one ns i k m t u s e f r
    go (right r) = sym (below_one ns i m k u t s f e r)

none_above : {X : Type 0} (k : Key) (es : List (Key × X)) → AllByRecursion (λ j. key_cmp k j ≡ Less) (keys_of es) → find key_cmp k es ≡ None
none_above k [] a = refl
none_above k (e ∷ es) a = rw a.0 (none_above k es a.1)

-- what is found behind the first entry has another key
pub later_found : (k : Key) (j : ℕ) (e : Key × ℕ) (es : List (Key × ℕ)) → AreSorted (e ∷ es) → find key_cmp k es ≡ Some j → find key_cmp k (e ∷ es) ≡ Some j
later_found k j e es s h = go (eq_by_cmp key_cmp k e.0) refl
  where
    go : (b : Bool) → eq_by_cmp key_cmp k e.0 ≡ b → find key_cmp k (e ∷ es) ≡ Some j
    go true p = absurd (let same : k ≡ e.0 = same-eq keys_total exact_keys k e.0 p in let none : find key_cmp k es ≡ None = rw same (none_above e.0 es s.0) in let no : None ≡ Some j = sym none ∙ h in let f : ⊥ = cc in f)
    go false p = rw p h

pub same_all : (g h : ℕ → Context) (es : List (Key × ℕ)) → AreSorted es → ((k : Key) (j : ℕ) → find key_cmp k es ≡ Some j → h j ≡ g j) → filled_all h es ≡ filled_all g es
same_all g h [] s f = refl
same_all g h (e ∷ es) s f =
    let first : h e.1 ≡ g e.1 = f e.0 e.1 (rw (same-self keys_total exact_keys e.0) refl) in
    rw first (ap (λ r. (e.0, g e.1) ∷ r) (same_all g h es s.1 (λ k j q. f k j (later_found k j e es s q))))

replaced_one : (g h : ℕ → Context) (q : Key) (k : ℕ) (es : List (Key × ℕ)) → AreSorted es → find key_cmp q es ≡ Some k → ((p : Key) (j : ℕ) → eq_by_cmp key_cmp q p ≡ false → find key_cmp p es ≡ Some j → h j ≡ g j) → filled_all h es ≡ replaced key_cmp q (h k) (filled_all g es)
replaced_one g h q k [] s e f = refl
replaced_one g h q k (d ∷ es) s e f = go (eq_by_cmp key_cmp q d.0) refl (λ w. replaced_one g h q k es s.1 w (λ r j c v. f r j c (later_found r j d es s v)))
  where
    differs : q ≡ d.0 → (r : Key) (j : ℕ) → find key_cmp r es ≡ Some j → (b : Bool) → eq_by_cmp key_cmp q r ≡ b → eq_by_cmp key_cmp q r ≡ false
    differs two r j w false z = z
    differs two r j w true z = absurd (let one : q ≡ r = same-eq keys_total exact_keys q r z in let none : find key_cmp r es ≡ None = rw (← one, two) (none_above d.0 es s.0) in let no : None ≡ Some j = sym none ∙ w in let f : ⊥ = cc in f)

    go : (b : Bool) → eq_by_cmp key_cmp q d.0 ≡ b → (find key_cmp q es ≡ Some k → filled_all h es ≡ replaced key_cmp q (h k) (filled_all g es)) → filled_all h (d ∷ es) ≡ replaced key_cmp q (h k) (filled_all g (d ∷ es))
    go true p ih =
        let same : q ≡ d.0 = same-eq keys_total exact_keys q d.0 p in
        let number : d.1 ≡ k = same_Some d.1 k (rw p at e) in
        let rest : filled_all h es ≡ filled_all g es = same_all g h es s.1 (λ r j w. f r j (differs same r j w (eq_by_cmp key_cmp q r) refl) (later_found r j d es s w)) in
        rw p (rw (rest, number, same) refl)
    go false p ih =
        let first : h d.1 ≡ g d.1 = f d.0 d.1 p (rw (same-self keys_total exact_keys d.0) refl) in
        rw (p, first) (ap (λ r. (d.0, g d.1) ∷ r) (ih (rw p at e)))

pub found_filled : (g : ℕ → Context) (k : Key) (es : List (Key × ℕ)) → find key_cmp k (filled_all g es) ≡ go_on (find key_cmp k es) (λ j. Some (g j))
found_filled g k [] = refl
found_filled g k (e ∷ es) = go (eq_by_cmp key_cmp k e.0) refl (found_filled g k es)
  where
    go : (b : Bool) → eq_by_cmp key_cmp k e.0 ≡ b → find key_cmp k (filled_all g es) ≡ go_on (find key_cmp k es) (λ j. Some (g j)) → find key_cmp k (filled_all g (e ∷ es)) ≡ go_on (find key_cmp k (e ∷ es)) (λ j. Some (g j))
    go true p ih = rw p refl
    go false p ih = rw p ih

pub past_blank : (ns : List Flat) (i : ℕ) → length ns ≤ i → flat_at ns i ≡ blank
past_blank ns i h = get_or_past ns i blank h

-- enough depth is enough
pub same_depth : (ns : List Flat) (f g i : ℕ) → IsSoundArena ns → length ns ≤ i + f → length ns ≤ i + g → context_of f ns i ≡ context_of g ns i
same_depth ns zero zero i s a b = refl
same_depth ns zero (suc g) i s a b = rw (past_blank ns i (omega (arith, a))) refl
same_depth ns (suc f) zero i s a b = rw (past_blank ns i (omega (arith, a, b))) refl
same_depth ns (suc f) (suc g) i s a b =
    let n = flat_at ns i in
    let maps : filled_all (λ j. context_of f ns j) n.maps ≡ filled_all (λ j. context_of g ns j) n.maps = same_all (λ j. context_of g ns j) (λ j. context_of f ns j) n.maps (s.maps_rise i) (λ k j e. same_depth ns f g j s (omega (arith, a, (s.inner i j (MapT k) e).0)) (omega (arith, b, (s.inner i j (MapT k) e).0))) in
    let lists : filled_all (λ j. context_of f ns j) n.lists ≡ filled_all (λ j. context_of g ns j) n.lists = same_all (λ j. context_of g ns j) (λ j. context_of f ns j) n.lists (s.lists_rise i) (λ k j e. same_depth ns f g j s (omega (arith, a, (s.inner i j (ListT k) e).0)) (omega (arith, b, (s.inner i j (ListT k) e).0))) in
    rw (maps, lists) refl

-- a node that doesn't lead to the changed one has the same context
pub unchanged : (ns ms : List Flat) (j f i : ℕ) → IsSoundArena ns → IsSameBut ns ms j → i < length ns → (Reaches ns i j → ⊥) → context_of f ms i ≡ context_of f ns i
unchanged ns ms j zero i s same w away = refl
unchanged ns ms j (suc f) i s same w away =
    let n = flat_at ns i in
    let here_same : flat_at ms i ≡ n = same i w (λ e. away (here j e)) in
    let maps : filled_all (λ k. context_of f ms k) n.maps ≡ filled_all (λ k. context_of f ns k) n.maps = same_all (λ k. context_of f ns k) (λ k. context_of f ms k) n.maps (s.maps_rise i) (λ q k e. unchanged ns ms j f k s same (s.inner i k (MapT q) e).1 (λ r. away (reaches_down ns i k j (MapT q) e r))) in
    let lists : filled_all (λ k. context_of f ms k) n.lists ≡ filled_all (λ k. context_of f ns k) n.lists = same_all (λ k. context_of f ns k) (λ k. context_of f ms k) n.lists (s.lists_rise i) (λ q k e. unchanged ns ms j f k s same (s.inner i k (ListT q) e).1 (λ r. away (reaches_down ns i k j (ListT q) e r))) in
    rw (here_same, maps, lists) refl

map_of_filled : (g : ℕ → Context) (n : Flat) (k : Key) → content (MapT k) (with_children g n) ≡ node_of (go_on (find key_cmp k n.maps) (λ j. Some (g j)))
map_of_filled g n k = rw (listed_children, found_filled g k n.maps) refl

list_of_filled : (g : ℕ → Context) (n : Flat) (k : Key) → content (ListT k) (with_children g n) ≡ node_of (go_on (find key_cmp k n.lists) (λ j. Some (g j)))
list_of_filled g n k = rw (listed_children, found_filled g k n.lists) refl

-- what is there under a tagged key
pub content_is : (g : ℕ → Context) (n : Flat) (t : Tagged) → is_some (content t (with_children g n)) ≡ is_in t n
content_is g n (MapT k) = ap (λ o. is_some o) (map_of_filled g n k) ∙ some_of (find key_cmp k n.maps)
  where
    some_of : (o : Option ℕ) → is_some (node_of (go_on o (λ j. Some (g j)))) ≡ is_some o
    some_of None = refl
    some_of (Some j) = refl
content_is g n (ListT k) = ap (λ o. is_some o) (list_of_filled g n k) ∙ some_of (find key_cmp k n.lists)
  where
    some_of : (o : Option ℕ) → is_some (node_of (go_on o (λ j. Some (g j)))) ≡ is_some o
    some_of None = refl
    some_of (Some j) = refl
content_is g n (RegT k) = some_of (find key_cmp k n.registers)
  where
    some_of : (o : Option Register) → is_some (values_of o) ≡ is_some o
    some_of None = refl
    some_of (Some v) = refl

tagged_map : (k q : Key) → MapT k ≡ MapT q → k ≡ q
tagged_map k q e = cc

tagged_list : (k q : Key) → ListT k ≡ ListT q → k ≡ q
tagged_list k q e = cc

kinds_differ : (k q : Key) → MapT k ≡ ListT q → ⊥
kinds_differ k q e = cc

not_same : (k q : Key) → k ≡ q → eq_by_cmp key_cmp k q ≡ false → ⊥
not_same k q e h = let t : eq_by_cmp key_cmp k q ≡ true = rw e (same-self keys_total exact_keys q) in let no : true ≡ false = sym t ∙ h in cc

put_found : (q : Key) (c : ℕ) (g : ℕ → Context) (y : Context) (es : List (Key × ℕ)) → find key_cmp q es ≡ Some c → put key_cmp q y (filled_all g es) ≡ replaced key_cmp q y (filled_all g es)
put_found q c g y es e = rw (found_filled g q es, e) refl

pub no_walk : {A : Type 0} {j : ℕ} → None ≡ Some j → A
no_walk e = absurd (let f : ⊥ = cc in f)

module _ (ns ms : List Flat) (s : IsSoundArena ns) (j : ℕ) (same : IsSameBut ns ms j) (longer : length ns ≤ length ms) where
  -- the step through a map's key
  through_map : (ts : List Tagged) (y : Context) (f i c : ℕ) (k : Key) → i < length ns → find key_cmp k (flat_at ns i).maps ≡ Some c → walk ns c ts ≡ Some j → context_of f ms c ≡ with_node_at ts y (context_of f ns c) → context_of (suc f) ms i ≡ with_node_at (MapT k ∷ ts) y (context_of (suc f) ns i)
  through_map ts y f i c k w e path ih =
      let n = flat_at ns i in
      let below : Reaches ns c j = walk_reaches ns ts c j path in
      let here_same : flat_at ms i ≡ n = same i w (λ q. omega (arith, q, (s.inner i c (MapT k) e).0, reaches_le ns c j s below)) in
      let maps : filled_all (λ m. context_of f ms m) n.maps ≡ replaced key_cmp k (context_of f ms c) (filled_all (λ m. context_of f ns m) n.maps) = replaced_one (λ m. context_of f ns m) (λ m. context_of f ms m) k c n.maps (s.maps_rise i) e (λ q m d x. unchanged ns ms j f m s same (s.inner i m (MapT q) x).1 (λ r. not_same k q (tagged_map k q (apart ns i c m j (MapT k) (MapT q) s e x below r)) d)) in
      let lists : filled_all (λ m. context_of f ms m) n.lists ≡ filled_all (λ m. context_of f ns m) n.lists = same_all (λ m. context_of f ns m) (λ m. context_of f ms m) n.lists (s.lists_rise i) (λ q m x. unchanged ns ms j f m s same (s.inner i m (ListT q) x).1 (λ r. kinds_differ k q (apart ns i c m j (MapT k) (ListT q) s e x below r))) in
      rw (here_same, maps, lists, map_of_filled (λ m. context_of f ns m) n k, e, listed_children, put_found k c (λ m. context_of f ns m) _ n.maps e, ih) refl

  through_list : (ts : List Tagged) (y : Context) (f i c : ℕ) (k : Key) → i < length ns → find key_cmp k (flat_at ns i).lists ≡ Some c → walk ns c ts ≡ Some j → context_of f ms c ≡ with_node_at ts y (context_of f ns c) → context_of (suc f) ms i ≡ with_node_at (ListT k ∷ ts) y (context_of (suc f) ns i)
  through_list ts y f i c k w e path ih =
      let n = flat_at ns i in
      let below : Reaches ns c j = walk_reaches ns ts c j path in
      let here_same : flat_at ms i ≡ n = same i w (λ q. omega (arith, q, (s.inner i c (ListT k) e).0, reaches_le ns c j s below)) in
      let lists : filled_all (λ m. context_of f ms m) n.lists ≡ replaced key_cmp k (context_of f ms c) (filled_all (λ m. context_of f ns m) n.lists) = replaced_one (λ m. context_of f ns m) (λ m. context_of f ms m) k c n.lists (s.lists_rise i) e (λ q m d x. unchanged ns ms j f m s same (s.inner i m (ListT q) x).1 (λ r. not_same k q (tagged_list k q (apart ns i c m j (ListT k) (ListT q) s e x below r)) d)) in
      let maps : filled_all (λ m. context_of f ms m) n.maps ≡ filled_all (λ m. context_of f ns m) n.maps = same_all (λ m. context_of f ns m) (λ m. context_of f ms m) n.maps (s.maps_rise i) (λ q m x. unchanged ns ms j f m s same (s.inner i m (MapT q) x).1 (λ r. kinds_differ q k (sym (apart ns i c m j (ListT k) (MapT q) s e x below r)))) in
      rw (here_same, maps, lists, list_of_filled (λ m. context_of f ns m) n k, e, listed_children, put_found k c (λ m. context_of f ns m) _ n.lists e, ih) refl

  changed_below : (at : List Tagged) (y : Context) (f i : ℕ) → i < length ns → length ms ≤ i + f → walk ns i at ≡ Some j → ((g : ℕ) → length ms ≤ j + g → context_of g ms j ≡ y) → context_of f ms i ≡ with_node_at at y (context_of f ns i)
  changed_below [] y f i w d path h = let e : i ≡ j = same_Some i j path in rw (ap (λ x. context_of f ms x) e) (h f (omega (arith, d, e)))
  changed_below (t ∷ ts) y zero i w d path h = absurd (omega (arith, w, d, longer))
  changed_below (MapT k ∷ ts) y (suc f) i w d path h = go (find key_cmp k (flat_at ns i).maps) refl (λ c x b p. changed_below ts y f c x b p h) path
    where
      go : (o : Option ℕ) → find key_cmp k (flat_at ns i).maps ≡ o → ((c : ℕ) → c < length ns → length ms ≤ c + f → walk ns c ts ≡ Some j → context_of f ms c ≡ with_node_at ts y (context_of f ns c)) → go_on o (λ c. walk ns c ts) ≡ Some j → context_of (suc f) ms i ≡ with_node_at (MapT k ∷ ts) y (context_of (suc f) ns i)
      go None e ih p = no_walk p
      go (Some c) e ih p = through_map ts y f i c k w e p (ih c (s.inner i c (MapT k) e).1 (omega (arith, d, (s.inner i c (MapT k) e).0)) p)
  changed_below (ListT k ∷ ts) y (suc f) i w d path h = go (find key_cmp k (flat_at ns i).lists) refl (λ c x b p. changed_below ts y f c x b p h) path
    where
      go : (o : Option ℕ) → find key_cmp k (flat_at ns i).lists ≡ o → ((c : ℕ) → c < length ns → length ms ≤ c + f → walk ns c ts ≡ Some j → context_of f ms c ≡ with_node_at ts y (context_of f ns c)) → go_on o (λ c. walk ns c ts) ≡ Some j → context_of (suc f) ms i ≡ with_node_at (ListT k ∷ ts) y (context_of (suc f) ns i)
      go None e ih p = no_walk p
      go (Some c) e ih p = through_list ts y f i c k w e p (ih c (s.inner i c (ListT k) e).1 (omega (arith, d, (s.inner i c (ListT k) e).0)) p)
  changed_below (RegT k ∷ ts) y (suc f) i w d path h = no_walk path

module _ (ns : List Flat) (s : IsSoundArena ns) where
  content_child : (g : ℕ → Context) (n : Flat) (t : Tagged) (o : Option ℕ) → child_number t n ≡ o → {A : Type 0} (p : Context → A) (q : A) → at_node (content t (with_children g n)) p q ≡ at_node (node_of (go_on o (λ j. Some (g j)))) p q
  content_child g n (MapT k) o e p q = rw (map_of_filled g n k, e) refl
  content_child g n (ListT k) o e p q = rw (list_of_filled g n k, e) refl
  content_child g n (RegT k) o e p q = go (find key_cmp k n.registers) refl
    where
      go : (r : _) → find key_cmp k n.registers ≡ r → at_node (content (RegT k) (with_children g n)) p q ≡ at_node (node_of (go_on o (λ j. Some (g j)))) p q
      go None x = rw (x, ← e) refl
      go (Some v) x = rw (x, ← e) refl

  -- the context below a path is that of the node to which the numbers lead
  pub found_below : (at : List Tagged) (f i : ℕ) (o : Option ℕ) → i < length ns → length ns ≤ i + f → walk ns i at ≡ o → node_at at (context_of f ns i) ≡ go_on o (λ j. Some (context_of (length ns) ns j))
  found_below [] f i o w d path = rw (← path) (ap (λ x. Some x) (same_depth ns f (length ns) i s d (omega arith)))
  found_below (t ∷ ts) zero i o w d path = absurd (omega (arith, w, d))
  found_below (t ∷ ts) (suc f) i o w d path = content_child (λ m. context_of f ns m) (flat_at ns i) t (child_number t (flat_at ns i)) refl (λ c. node_at ts c) None ∙ go (child_number t (flat_at ns i)) refl (λ c x b p. found_below ts f c o x b p) path
    where
      go : (u : Option ℕ) → child_number t (flat_at ns i) ≡ u → ((c : ℕ) → c < length ns → length ns ≤ c + f → walk ns c ts ≡ o → node_at ts (context_of f ns c) ≡ go_on o (λ j. Some (context_of (length ns) ns j))) → go_on u (λ c. walk ns c ts) ≡ o → at_node (node_of (go_on u (λ j. Some (context_of f ns j)))) (λ c. node_at ts c) None ≡ go_on o (λ j. Some (context_of (length ns) ns j))
      go None e ih p = rw (← p) refl
      go (Some c) e ih p = ih c (s.inner i c t e).1 (omega (arith, d, (s.inner i c t e).0)) p

-- the context below a path is that of the node to which the path leads
pub found : (ns : List Flat) (at : List Tagged) (j : ℕ) → IsSoundArena ns → 0 < length ns → walk ns 0 at ≡ Some j → node_at at (content_of_arena ns) ≡ Some (context_of (length ns) ns j)
found ns at j s w path = found_below ns s at (length ns) 0 (Some j) w (omega arith) path

pub absent : (ns : List Flat) (at : List Tagged) → IsSoundArena ns → 0 < length ns → walk ns 0 at ≡ None → node_at at (content_of_arena ns) ≡ None
absent ns at s w path = found_below ns s at (length ns) 0 None w (omega arith) path

-- another node in one place, and new nodes: another context at that place, and no other change
pub changed : (ns ms : List Flat) (at : List Tagged) (j : ℕ) (y : Context) → IsSoundArena ns → 0 < length ns → length ns ≤ length ms → walk ns 0 at ≡ Some j → IsSameBut ns ms j → ((f : ℕ) → length ms ≤ j + f → context_of f ms j ≡ y) → content_of_arena ms ≡ with_node_at at y (content_of_arena ns)
changed ns ms at j y s w longer path same h =
    changed_below ns ms s j same longer at y (length ms) 0 w (omega arith) path h ∙ ap (λ c. with_node_at at y c) (same_depth ns (length ms) (length ns) 0 s (omega (arith, longer)) (omega arith))
