-- About Named: which contexts there are after a change, and that their paths are named.
use Rattle.std.proofs.Common.{◌≡◌, ◌≢◌, ℕ, zero, suc, ◌<◌, ◌≤◌, ◌+◌, ◌-◌, add-one, List, [], ◌∷◌, ◌++◌, length, get_or, Bool, true, false, Option, Some, None, is_some, Result, Ok, Err, OnOk, if◌then◌else◌, refl, sym, ◌∙◌, ap, arith}
use Rattle.std.specs.Ordering.{eq_by_cmp}
use Rattle.std.specs.declared.alloc.Global.{Global}
use Rattle.std.specs.declared.vec.Vec.{Vec}
use Rattle.std.proofs.lemmas.Option.{same_Some}
use Rattle.jc_rules.specs.declared.key.Key.{Key}
use Rattle.jc_rules.specs.declared.key.Tagged.{Tagged}
use Rattle.jc_rules.specs.declared.key.Tagged.TheVariants.{MapT, ListT, RegT}
use Rattle.jc_rules.specs.Order.{key_cmp}
use Rattle.jc_rules.specs.Entries.{find}
use Rattle.jc_rules.specs.Context.{Context, context, Content, Node, Values, Register, empty, empty_list, listed, content, with_content, new_content, values_of, registers}
use Rattle.jc_rules.specs.Paths.{HasContext}
use Rattle.jc_rules.specs.ContextsAt.{at_node, node_at, with_node_at, context_at}
use Rattle.jc_rules.proofs.OrderLemmas.{keys_total, exact_keys}
use Rattle.jc_rules.proofs.EntriesLemmas.{same-eq, other-put, found-put}
use Rattle.jc_rules.proofs.ContextLemmas.{none_some}
use Rattle.jc_rules.proofs.ContextsAtLemmas.{listed_children, content-with, there}
use Rattle.jc_tree.specs.Arena.{IsInside}
use Rattle.jc_tree.specs.Change.{IsNew, changed_by, changed_at}
use Rattle.jc_tree.specs.Named.{path_in, path_at, IsNamed, AreNamed, AreAllNamed}
use Rattle.jc_tree.specs.declared.node.Change.{Change}
use Rattle.jc_tree.proofs.PlacesLemmas.{some_content}
use Rattle.jc_tree.proofs.TreeLemmas.{node-further}
use Rattle.jc_tree.specs.declared.node.Change.TheVariants.{Child, AddId, Presence, Link, PutValue, Register as SetRegister}

-- after a context was put under a tagged key, all else is as it was
after_put : (A : Type 0) (t u : Tagged) (e c : Context) → (u ≡ t → A) → (content u (with_content t (Node e) c) ≡ content u c → A) → A
after_put A (MapT k) (MapT j) e (context m l r p n) same other = go (eq_by_cmp key_cmp j k) refl
  where
    go : (b : Bool) → eq_by_cmp key_cmp j k ≡ b → A
    go true q = same (ap (λ i. MapT i) (same-eq keys_total exact_keys j k q))
    go false q = other (rw (listed_children, other-put keys_total exact_keys j k e (listed m) q) refl)
after_put A (ListT k) (ListT j) e (context m l r p n) same other = go (eq_by_cmp key_cmp j k) refl
  where
    go : (b : Bool) → eq_by_cmp key_cmp j k ≡ b → A
    go true q = same (ap (λ i. ListT i) (same-eq keys_total exact_keys j k q))
    go false q = other (rw (listed_children, other-put keys_total exact_keys j k e (listed l) q) refl)
after_put A (MapT k) (ListT j) e (context m l r p n) same other = other refl
after_put A (MapT k) (RegT j) e (context m l r p n) same other = other refl
after_put A (ListT k) (MapT j) e (context m l r p n) same other = other refl
after_put A (ListT k) (RegT j) e (context m l r p n) same other = other refl
after_put A (RegT k) u e (context m l r p n) same other = other refl

-- a context that is there after one was put at a place is in that one, or was there
came_from : (A : Type 0) (at q : List Tagged) (y x c : Context) → node_at at c ≡ Some x → ((r : List Tagged) → q ≡ at ++ r → node_at r y ≢ None → A) → (node_at q c ≢ None → A) → node_at q (with_node_at at y c) ≢ None → A
came_from A [] q y x c h in_it was is = in_it q refl is
came_from A (k ∷ ks) [] y x c h in_it was is = was (λ e. none_some (sym e))
came_from A (k ∷ ks) (u ∷ us) y x c h in_it was is = go (content k c) refl (λ d. came_from A ks us y x d) h
  where
    go : (o : Option Content) → content k c ≡ o → ((d : Context) → node_at ks d ≡ Some x → ((r : List Tagged) → us ≡ ks ++ r → node_at r y ≢ None → A) → (node_at us d ≢ None → A) → node_at us (with_node_at ks y d) ≢ None → A) → at_node o (λ d. node_at ks d) None ≡ Some x → A
    go None e ih g = none_some g
    go (Some (Values r)) e ih g = none_some g
    go (Some (Node d)) e ih g = after_put A k u (with_node_at ks y d) c below beside
      where
        put : with_node_at (k ∷ ks) y c ≡ with_content k (Node (with_node_at ks y d)) c
        put = rw e refl

        below : u ≡ k → A
        below s = ih d g (λ r f. in_it r (λ i. s i ∷ f i)) (λ f. was (rw (s, e) f)) (rw (s, put, content-with k d (with_node_at ks y d) c e) at is)

        beside : content u (with_content k (Node (with_node_at ks y d)) c) ≡ content u c → A
        beside s = was (rw (put, s) at is)

-- what was there is there still, where what is put at the place keeps its contexts
stays_there : (at q : List Tagged) (y x c : Context) → node_at at c ≡ Some x → ((r : List Tagged) → node_at r x ≢ None → node_at r y ≢ None) → node_at q c ≢ None → node_at q (with_node_at at y c) ≢ None
stays_there [] q y x c h f is = f q (rw (← same_Some c x h) is)
stays_there (k ∷ ks) [] y x c h f is = λ e. none_some (sym e)
stays_there (k ∷ ks) (u ∷ us) y x c h f is = go (content k c) refl (λ d g. stays_there ks us y x d g f) h
  where
    go : (o : Option Content) → content k c ≡ o → ((d : Context) → node_at ks d ≡ Some x → node_at us d ≢ None → node_at us (with_node_at ks y d) ≢ None) → at_node o (λ d. node_at ks d) None ≡ Some x → node_at (u ∷ us) (with_node_at (k ∷ ks) y c) ≢ None
    go None e ih g = none_some g
    go (Some (Values r)) e ih g = none_some g
    go (Some (Node d)) e ih g = after_put (node_at (u ∷ us) (with_node_at (k ∷ ks) y c) ≢ None) k u (with_node_at ks y d) c below beside
      where
        put : with_node_at (k ∷ ks) y c ≡ with_content k (Node (with_node_at ks y d)) c
        put = rw e refl

        below : u ≡ k → node_at (u ∷ us) (with_node_at (k ∷ ks) y c) ≢ None
        below s = rw (s, put, content-with k d (with_node_at ks y d) c e) (ih d g (rw (s, e) at is))

        beside : content u (with_content k (Node (with_node_at ks y d)) c) ≡ content u c → node_at (u ∷ us) (with_node_at (k ∷ ks) y c) ≢ None
        beside s = rw (put, s) is

node_on : (at r : List Tagged) (x c : Context) → node_at at c ≡ Some x → node_at (at ++ r) c ≡ node_at r x
node_on [] r x c h = ap (λ d. node_at r d) (same_Some c x h)
node_on (k ∷ ks) r x c h = go (content k c) (λ d. node_on ks r x d) h
  where
    go : (o : Option Content) → ((d : Context) → node_at ks d ≡ Some x → node_at (ks ++ r) d ≡ node_at r x) → at_node o (λ d. node_at ks d) None ≡ Some x → at_node o (λ d. node_at (ks ++ r) d) None ≡ node_at r x
    go None ih g = none_some g
    go (Some (Values v)) ih g = none_some g
    go (Some (Node d)) ih g = ih d g

-- no context is below a register's key
no_register : {A : Type 0} (k : Key) (us : List Tagged) (c : Context) → node_at (RegT k ∷ us) c ≢ None → A
no_register k us c is = absurd (go (find key_cmp k (registers c)) is)
  where
    go : (o : Option Register) → at_node (values_of o) (λ d. node_at us d) None ≢ None → ⊥
    go None f = f refl
    go (Some r) f = f refl

-- a change that makes no context leaves those that are there
inside_leaves : (ch : Change) (r : List Tagged) (x : Context) → IsInside ch → node_at r (changed_by ch x) ≢ None → node_at r x ≢ None
inside_leaves ch [] x i is = λ e. none_some (sym e)
inside_leaves ch (RegT j ∷ us) x i is = no_register j us (changed_by ch x) is
inside_leaves (Child (RegT k)) (MapT j ∷ us) (context m l v p n) i is = is
inside_leaves (Child (RegT k)) (ListT j ∷ us) (context m l v p n) i is = is
inside_leaves (Child (MapT k)) (t ∷ us) x i is = absurd i
inside_leaves (Child (ListT k)) (t ∷ us) x i is = absurd i
inside_leaves (AddId k a) (MapT j ∷ us) (context m l v p n) i is = is
inside_leaves (AddId k a) (ListT j ∷ us) (context m l v p n) i is = is
inside_leaves (Presence k s) (MapT j ∷ us) (context m l v p n) i is = is
inside_leaves (Presence k s) (ListT j ∷ us) (context m l v p n) i is = is
inside_leaves (Link k b) (MapT j ∷ us) (context m l v p n) i is = is
inside_leaves (Link k b) (ListT j ∷ us) (context m l v p n) i is = is
inside_leaves (PutValue k a w) (MapT j ∷ us) (context m l v p n) i is = is
inside_leaves (PutValue k a w) (ListT j ∷ us) (context m l v p n) i is = is
inside_leaves (SetRegister k s) (MapT j ∷ us) (context m l v p n) i is = is
inside_leaves (SetRegister k s) (ListT j ∷ us) (context m l v p n) i is = is

-- each change keeps the contexts that are there
keeps_child : (t u : Tagged) (us : List Tagged) (e x : Context) → content t x ≡ None → node_at (u ∷ us) x ≢ None → node_at (u ∷ us) (with_content t (Node e) x) ≢ None
keeps_child t u us e x n is = after_put (node_at (u ∷ us) (with_content t (Node e) x) ≢ None) t u e x (λ s. absurd (is (rw (s, n) refl))) (λ s. rw s is)

keeps : (ch : Change) (r : List Tagged) (x : Context) → IsNew ch x → node_at r x ≢ None → node_at r (changed_by ch x) ≢ None
keeps ch [] x n is = λ e. none_some (sym e)
keeps ch (RegT j ∷ us) x n is = no_register j us x is
keeps (Child (MapT k)) (u ∷ us) x n is = keeps_child (MapT k) u us empty x n is
keeps (Child (ListT k)) (u ∷ us) x n is = keeps_child (ListT k) u us empty_list x n is
keeps (Child (RegT k)) (MapT j ∷ us) (context m l v p n) w is = is
keeps (Child (RegT k)) (ListT j ∷ us) (context m l v p n) w is = is
keeps (AddId k a) (MapT j ∷ us) (context m l v p n) w is = is
keeps (AddId k a) (ListT j ∷ us) (context m l v p n) w is = is
keeps (Presence k s) (MapT j ∷ us) (context m l v p n) w is = is
keeps (Presence k s) (ListT j ∷ us) (context m l v p n) w is = is
keeps (Link k b) (MapT j ∷ us) (context m l v p n) w is = is
keeps (Link k b) (ListT j ∷ us) (context m l v p n) w is = is
keeps (PutValue k a z) (MapT j ∷ us) (context m l v p n) w is = is
keeps (PutValue k a z) (ListT j ∷ us) (context m l v p n) w is = is
keeps (SetRegister k s) (MapT j ∷ us) (context m l v p n) w is = is
keeps (SetRegister k s) (ListT j ∷ us) (context m l v p n) w is = is

pub change_keeps : (at q : List Tagged) (ch : Change) (c : Context) → node_at at c ≢ None → IsNew ch (context_at at c) → node_at q c ≢ None → node_at q (changed_at at ch c) ≢ None
change_keeps at q ch c h n is = stays_there at q (changed_by ch (context_at at c)) (context_at at c) c (there at c h) (λ r f. keeps ch r (context_at at c) n f) is

-- where each context of what is put at a place has a name, each has one then
put_named : (ps : List (Vec Tagged Global)) (at : List Tagged) (y c : Context) → node_at at c ≢ None → AreNamed ps c → ((r : List Tagged) → node_at r y ≢ None → IsNamed ps (at ++ r)) → AreNamed ps (with_node_at at y c)
put_named ps at y c h named f = λ q is. came_from (IsNamed ps q) at q y (context_at at c) c (there at c h) (λ r e g. rw e (f r g)) (named q) is

pub inside_named : (ps : List (Vec Tagged Global)) (at : List Tagged) (ch : Change) (c : Context) → IsInside ch → node_at at c ≢ None → AreNamed ps c → AreNamed ps (changed_at at ch c)
inside_named ps at ch c i h named =
    put_named ps at (changed_by ch (context_at at c)) c h named (λ r is. named (at ++ r) (rw (node_on at r (context_at at c) c (there at c h)) (inside_leaves ch r (context_at at c) i is)))

-- what is new has no context below it
none_below : (u : Tagged) (us : List Tagged) → node_at (u ∷ us) empty ≡ None
none_below (MapT j) us = refl
none_below (ListT j) us = refl
none_below (RegT j) us = refl

none_in_list : (u : Tagged) (us : List Tagged) → node_at (u ∷ us) empty_list ≡ None
none_in_list (MapT j) us = refl
none_in_list (ListT j) us = refl
none_in_list (RegT j) us = refl

new_alone : (t u : Tagged) (us : List Tagged) (e : Context) → new_content t ≡ Node e → node_at (u ∷ us) e ≡ None
new_alone (MapT k) u us e h = let same : e ≡ empty = cc in rw same (none_below u us)
new_alone (ListT k) u us e h = let same : e ≡ empty_list = cc in rw same (none_in_list u us)
new_alone (RegT k) u us e h = let no : ⊥ = cc in absurd no

put_there : (t : Tagged) (e c : Context) → new_content t ≡ Node e → content t (with_content t (Node e) c) ≡ Some (Node e)
put_there (MapT k) e (context m l r p n) h = rw (listed_children, found-put keys_total exact_keys) refl
put_there (ListT k) e (context m l r p n) h = rw (listed_children, found-put keys_total exact_keys) refl
put_there (RegT k) e c h = let no : ⊥ = cc in absurd no

pub child_named : (ps : List (Vec Tagged Global)) (at : List Tagged) (t : Tagged) (e c : Context) → new_content t ≡ Node e → node_at at c ≢ None → AreNamed ps c → IsNamed ps (at ++ t ∷ []) → AreNamed ps (changed_at at (Child t) c)
child_named ps at t e c new h named its = put_named ps at (changed_by (Child t) x) c h named each
  where
    x : Context
    x = context_at at c

    y : Context
    y = with_content t (Node e) x

    was : (r : List Tagged) → node_at r x ≢ None → IsNamed ps (at ++ r)
    was r g = named (at ++ r) (rw (node_on at r x c (there at c h)) g)

    under : (us : List Tagged) → node_at (t ∷ us) y ≢ None → IsNamed ps (at ++ t ∷ us)
    under [] is = its
    under (v ∷ vs) is = absurd (is (rw (put_there t e x new) (new_alone t v vs e new)))

    each : (r : List Tagged) → node_at r (changed_by (Child t) x) ≢ None → IsNamed ps (at ++ r)
    each [] is = was [] (λ f. none_some (sym f))
    each (u ∷ us) is = after_put (IsNamed ps (at ++ u ∷ us)) t u e x (λ s. rw s (under us (rw (new, s) at is))) (λ s. was (u ∷ us) (rw (new, s) at is))

pub no_path : {A : Type 0} {at : List Tagged} → None ≡ Some at → A
no_path h = let no : ⊥ = cc in absurd no

-- names stay where one more path is named
path_in_more : (ps : List (Vec Tagged Global)) (p : Vec Tagged Global) (n : ℕ) (at : List Tagged) → path_in ps n ≡ Some at → path_in (ps ++ p ∷ []) n ≡ Some at
path_in_more [] p n at h = no_path h
path_in_more (q ∷ ps) p zero at h = h
path_in_more (q ∷ ps) p (suc n) at h = path_in_more ps p n at h

pub path_more : (ps : List (Vec Tagged Global)) (p : Vec Tagged Global) (n : ℕ) (at : List Tagged) → path_at ps n ≡ Some at → path_at (ps ++ p ∷ []) n ≡ Some at
path_more ps p zero at h = h
path_more ps p (suc n) at h = path_in_more ps p n at h

pub named_more : (ps : List (Vec Tagged Global)) (p : Vec Tagged Global) (c : Context) → AreNamed ps c → AreNamed (ps ++ p ∷ []) c
named_more ps p c named = λ at is none. named at is (λ n h. none n (path_more ps p n at h))

pub all_named_more : (ps : List (Vec Tagged Global)) (p : Vec Tagged Global) (cs : List Context) → AreAllNamed ps cs → AreAllNamed (ps ++ p ∷ []) cs
all_named_more ps p [] named = tt
all_named_more ps p (c ∷ cs) named = (named_more ps p c named.0, all_named_more ps p cs named.1)

last_path : (ps : List (Vec Tagged Global)) (p : Vec Tagged Global) → path_in (ps ++ p ∷ []) (length ps) ≡ Some p.items
last_path [] p = refl
last_path (q ∷ ps) p = last_path ps p

pub last_named : (ps : List (Vec Tagged Global)) (p : Vec Tagged Global) → IsNamed (ps ++ p ∷ []) p.items
last_named ps p none = none (suc (length ps)) (last_path ps p)

-- the path of an index
pub path_by_index : (ps : List (Vec Tagged Global)) (i : ℕ) (p : Vec Tagged Global) → i < length ps → p ≡ get_or ps i p → path_in ps i ≡ Some p.items
path_by_index [] i p h e = let no : ⊥ = omega (arith, h) in absurd no
path_by_index (q ∷ ps) zero p h e = ap (λ v. Some v.items) (sym e)
path_by_index (q ∷ ps) (suc i) p h e = path_by_index ps i p (omega (arith, h)) e

pub path_of_index : (ps : List (Vec Tagged Global)) (i : ℕ) (p : Vec Tagged Global) → i < length ps → p ≡ get_or ps i p → path_at ps (i + 1) ≡ Some p.items
path_of_index ps i p h e = rw add-one (path_by_index ps i p h e)

pub no_path_past : (ps : List (Vec Tagged Global)) (i : ℕ) → length ps ≤ i → path_in ps i ≡ None
no_path_past [] i h = refl
no_path_past (q ∷ ps) zero h = let no : ⊥ = omega (arith, h) in absurd no
no_path_past (q ∷ ps) (suc i) h = no_path_past ps i (omega (arith, h))

-- where a path may be refused
pub named_pushed : (b : Bool) (ps : List (Vec Tagged Global)) (p : Vec Tagged Global) (c : Context) → AreNamed ps c → AreNamed (if b then ps ++ p ∷ [] else ps) c
named_pushed true ps p c named = named_more ps p c named
named_pushed false ps p c named = named

pub all_named_pushed : (b : Bool) (ps : List (Vec Tagged Global)) (p : Vec Tagged Global) (cs : List Context) → AreAllNamed ps cs → AreAllNamed (if b then ps ++ p ∷ [] else ps) cs
all_named_pushed true ps p cs named = all_named_more ps p cs named
all_named_pushed false ps p cs named = named

-- a number but that of the root which has a path is one more than an index
pub index_inside : (ps : List (Vec Tagged Global)) (n : ℕ) → (n ≡ 0 → ⊥) → path_at ps n ≢ None → n - 1 < length ps
index_inside ps zero h is = absurd (h refl)
index_inside ps (suc n) h is = let less : n < length ps = inside ps n is in omega (arith, less)
  where
    inside : (ps : List (Vec Tagged Global)) (n : ℕ) → path_in ps n ≢ None → n < length ps
    inside [] n is = absurd (is refl)
    inside (p ∷ ps) zero is = omega arith
    inside (p ∷ ps) (suc n) is = let less : n < length ps = inside ps n is in omega (arith, less)

pub path_of_number : (ps : List (Vec Tagged Global)) (n : ℕ) (p : Vec Tagged Global) → (n ≡ 0 → ⊥) → n - 1 < length ps → p ≡ get_or ps (n - 1) p → path_at ps n ≡ Some p.items
path_of_number ps zero p h w e = absurd (h refl)
path_of_number ps (suc n) p h w e = let same : suc n - 1 ≡ n = omega arith in path_by_index ps n p (rw same at w) (rw same at e)

-- paths that end in different keys differ
pub last_same : (xs ys : List Tagged) (x y : Tagged) → xs ++ x ∷ [] ≡ ys ++ y ∷ [] → (xs ≡ ys) × (x ≡ y)
last_same [] [] x y e = let same : x ≡ y = cc in (refl, same)
last_same [] (b ∷ []) x y e = let no : ⊥ = cc in absurd no
last_same [] (b ∷ c ∷ ys) x y e = let no : ⊥ = cc in absurd no
last_same (a ∷ []) [] x y e = let no : ⊥ = cc in absurd no
last_same (a ∷ c ∷ xs) [] x y e = let no : ⊥ = cc in absurd no
last_same (a ∷ xs) (b ∷ ys) x y e =
    let heads : a ≡ b = cc in
    let tails : xs ++ x ∷ [] ≡ ys ++ y ∷ [] = cc in
    let both = last_same xs ys x y tails in
    (λ i. heads i ∷ both.0 i, both.1)

-- the empty content has the root alone
pub empty_named : (ps : List (Vec Tagged Global)) → AreNamed ps empty
empty_named ps [] is none = none 0 refl
empty_named ps (t ∷ ts) is none = is (none_below t ts)

-- what follows from both where a call succeeds
pub on_both : {A E P Q R : Type 0} (r : Result A E) → OnOk r P → OnOk r Q → (P → Q → R) → OnOk r R
on_both (Ok a) p q f = f p q
on_both (Err e) p q f = tt

-- what is under a map's or a list's key is there
pub below_there : (at : List Tagged) (t : Tagged) (c : Context) → HasContext t → node_at at c ≢ None → is_some (content t (context_at at c)) ≡ true → node_at (at ++ t ∷ []) c ≢ None
below_there at t c h is some none =
    let no : false ≡ true = ap (λ o. is_some o) (sym none ∙ node-further at t (context_at at c) c (there at c is)) ∙ some_content t (context_at at c) h ∙ some in
    cc

-- the new context under a tagged key
abbrev pub new_node : Tagged → Context
new_node (MapT k) = empty
new_node (ListT k) = empty_list
new_node (RegT k) = empty

pub new_is : (t : Tagged) → ((k : Key) → t ≡ RegT k → ⊥) → new_content t ≡ Node (new_node t)
new_is (MapT k) h = refl
new_is (ListT k) h = refl
new_is (RegT k) h = absurd (h k refl)
