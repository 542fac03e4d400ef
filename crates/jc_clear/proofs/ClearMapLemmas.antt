-- About Clears: clearing the keys of a map, the least first.
use Rattle.std.proofs.Common.{◌≡◌, ◌≢◌, List, [], ◌∷◌, ◌++◌, filter, Option, Some, None, Bool, true, false, not, refl, sym, ◌∙◌, ap, subst}
use Rattle.std.specs.List.{AllByRecursion}
use Rattle.std.specs.declared.cmp.Ordering.{Ordering}
use Rattle.std.specs.declared.cmp.Ordering.TheVariants.{Less, Equal, Greater}
use Rattle.jc_rules.specs.declared.id.Id.{Id}
use Rattle.jc_rules.specs.declared.key.Key.{Key}
use Rattle.jc_rules.specs.declared.key.Tagged.{Tagged}
use Rattle.jc_rules.specs.declared.rule.Rule.TheVariants as R
use Rattle.jc_rules.specs.Order.{key_cmp}
use Rattle.jc_rules.specs.Entries.{keys_of}
use Rattle.jc_rules.specs.Ids.{union}
use Rattle.jc_rules.specs.Table.{is_done, least, least_left}
use Rattle.jc_rules.specs.Context.{Context, keys}
use Rattle.jc_rules.specs.Derivation.{ClearElem, ClearMap}
use Rattle.jc_rules.specs.Trace.{Rows, pushed, one_deeper, at_depth}
use Rattle.jc_tree.specs.Tree.{Tree, HasPlace, here, is_after, least_after}
use Rattle.jc_tree.proofs.WalksLemmas.{IsNext, next_is, after_over}
use Rattle.jc_clear.specs.Clears.{Clears}
use Rattle.jc_clear.specs.Cleared.{IsCleared}
use Rattle.jc_clear.specs.ContentKeys.{has_content}
use Rattle.jc_clear.specs.Turns.{AreDone, Through, AreLeft, ThroughKeys}
use Rattle.jc_clear.proofs.BareLemmas.{keys-same}
use Rattle.jc_clear.proofs.ClearRulesLemmas.{After}
use Rattle.jc_clear.proofs.ContentKeysLemmas.{AreContentKeys, all_left, next_left, first_is_least, none_left}
use Rattle.jc_clear.proofs.ClearsLemmas.{first_turn, next_turn, last_turn, after_turns}

filter-same : (p q : Key → Bool) (ks : List Key) → AllByRecursion (λ k. p k ≡ q k) ks → filter p ks ≡ filter q ks
filter-same p q [] h = refl
filter-same p q (k ∷ ks) h = rw (h.0, filter-same p q ks h.1) refl

none_done : (ks : List Key) → AreDone None [] ks
none_done [] = tt
none_done (k ∷ ks) = (refl, none_done ks)

done_one : (last : Option Key) (done : List Key) (j k : Key) → is_after last j ≡ true → is_done done k ≡ not (is_after last k) → (is_after last k ≡ true → key_cmp j k ≢ Greater) → is_done (j ∷ done) k ≡ not (is_after (Some j) k)
done_one last done j k a d h = go (key_cmp j k) refl (is_after last k) refl
  where
    go : (o : Ordering) → key_cmp j k ≡ o → (b : Bool) → is_after last k ≡ b → is_done (j ∷ done) k ≡ not (is_after (Some j) k)
    go Equal e b f = rw e refl
    go Less e true f = rw e (d ∙ ap not f)
    go Less e false f = let g : false ≡ true = sym f ∙ after_over last j k a e in cc
    go Greater e true f = absurd (h f e)
    go Greater e false f = rw e (d ∙ ap not f)

done_all : (last : Option Key) (done : List Key) (j : Key) (ks : List Key) → is_after last j ≡ true → AreDone last done ks → AllByRecursion (λ k. is_after last k ≡ true → key_cmp j k ≢ Greater) ks → AreDone (Some j) (j ∷ done) ks
done_all last done j [] a d h = tt
done_all last done j (k ∷ ks) a d h = (done_one last done j k a d.0 h.0, done_all last done j ks a d.1 h.1)

done_next : (last : Option Key) (done : List Key) (c : Context) (k : Key) → AreDone last done (keys c) → least_after last (keys c) ≡ Some k → AreDone (Some k) (k ∷ done) (keys c)
done_next last done c k d e =
    let n : IsNext last (keys c) k = next_is last (keys c) k e in
    done_all last done k (keys c) n.after d n.below

not_not : (a b : Bool) → a ≡ not b → not a ≡ b
not_not a true e = rw e refl
not_not a false e = rw e refl

all_not : (last : Option Key) (done : List Key) (ks : List Key) → AreDone last done ks → AllByRecursion (λ k. not (is_done done k) ≡ is_after last k) ks
all_not last done [] h = tt
all_not last done (k ∷ ks) h = (not_not _ _ h.0, all_not last done ks h.1)

left-after : (last : Option Key) (done : List Key) (c : Context) → AreDone last done (keys c) → least_left done c ≡ least_after last (keys c)
left-after last done c h = ap least (filter-same (λ k. not (is_done done k)) (λ k. is_after last k) (keys c) (all_not last done (keys c) h))

first_through : (deps : List Id) (at : List Tagged) (a : Tree) (t : Rows) (last : Option Key) (ids : List Id) → HasPlace at a → last ≡ None → ids ≡ [] → Through deps at a t a last ids t
first_through deps at a t last ids p e i = rw e (record { done = []; are_done = none_done (keys (here at a)); turn = first_turn _ at a t ids p i })

after_through : (deps : List Id) (at : List Tagged) (a : Tree) (t : Rows) (b : Tree) (last : Option Key) (ids : List Id) (u : Rows) → HasPlace at a → Through deps at a t b last ids u → After at a b
after_through deps at a t b last ids u h w = after_turns _ _ at a t b ids u h w.turn

keys_were : (deps : List Id) (at : List Tagged) (a : Tree) (t : Rows) (b : Tree) (last : Option Key) (ids : List Id) (u : Rows) → HasPlace at a → Through deps at a t b last ids u → keys (here at b) ≡ keys (here at a)
keys_were deps at a t b last ids u h w = keys-same (here at b) (here at a) (after_through deps at a t b last ids u h w).same

left_now : (deps : List Id) (at : List Tagged) (a : Tree) (t : Rows) (b : Tree) (last : Option Key) (ids : List Id) (u : Rows) (w : Through deps at a t b last ids u) → HasPlace at a → least_left w.done (here at b) ≡ least_after last (keys (here at b))
left_now deps at a t b last ids u w h = left-after last w.done (here at b) (rw (keys_were deps at a t b last ids u h w) w.are_done)

-- one key further
through_on : (deps : List Id) (at : List Tagged) (a : Tree) (t : Rows) (b d : Tree) (last : Option Key) (k : Key) (ids more all : List Id) (u o v : Rows) → HasPlace at a → Through deps at a t b last ids u → least_after last (keys (here at b)) ≡ Some k → Clears (λ c. ClearElem c deps k) at b d more o v → o ≡ one_deeper (pushed u R.ClearMap2) → all ≡ union ids more → Through deps at a t d (Some k) all v
through_on deps at a t b d last k ids more all u o v h w n elem oe i =
    let was : least_after last (keys (here at a)) ≡ Some k = ap (least_after last) (sym (keys_were deps at a t b last ids u h w)) ∙ n in
    let now : least_left w.done (here at b) ≡ Some k = left_now deps at a t b last ids u w h ∙ n in
    record {
      done = k ∷ w.done;
      are_done = done_next last w.done (here at a) k w.are_done was;
      turn = next_turn _ (λ c. ClearMap c deps w.done) (λ c. ClearMap c deps (k ∷ w.done)) R.ClearMap2 at a t b d deps k ids more all u o v h w.turn elem oe i (λ c1 c2 s. (k, c1, more, c2, s, now, refl, refl));
    }

last_through : (deps : List Id) (at : List Tagged) (a : Tree) (t : Rows) (b : Tree) (last : Option Key) (ids : List Id) (u v : Rows) → HasPlace at a → Through deps at a t b last ids u → least_after last (keys (here at b)) ≡ None → v ≡ at_depth t.depth (pushed u R.ClearMap3) → Clears (λ c. ClearMap c deps []) at a b ids t v
last_through deps at a t b last ids u v h w n e =
    last_turn _ (λ c. ClearMap c deps w.done) R.ClearMap3 at a t b ids u v h w.turn e (left_now deps at a t b last ids u w h ∙ n, refl, refl)

pub first_keys : (deps : List Id) (at : List Tagged) (a : Tree) (t : Rows) (ks : List Key) (ids : List Id) → HasPlace at a → AreContentKeys ks (here at a) → ids ≡ [] → ThroughKeys deps at a t a ks ids t
first_keys deps at a t ks ids p c i = record { last = None; left = all_left ks (here at a) c; through = first_through deps at a t None ids p refl i }

pub after_keys : (deps : List Id) (at : List Tagged) (a : Tree) (t : Rows) (b : Tree) (ks : List Key) (ids : List Id) (u : Rows) → HasPlace at a → ThroughKeys deps at a t b ks ids u → After at a b
after_keys deps at a t b ks ids u h w = after_through deps at a t b w.last ids u h w.through

pub keys_on : (deps : List Id) (at : List Tagged) (a : Tree) (t : Rows) (b d : Tree) (k : Key) (ks left : List Key) (ids more all : List Id) (u o v : Rows) → HasPlace at a → left ≡ k ∷ ks → ThroughKeys deps at a t b left ids u → Clears (λ c. ClearElem c deps k) at b d more o v → o ≡ one_deeper (pushed u R.ClearMap2) → all ≡ union ids more → ThroughKeys deps at a t d ks all v
keys_on deps at a t b d k ks left ids more all u o v h f w z oe i =
    let l : AreLeft w.last (k ∷ ks) (here at a) = subst (λ (js : List Key). AreLeft w.last js (here at a)) f w.left in
    let n : least_after w.last (keys (here at b)) ≡ Some k = ap (least_after w.last) (keys_were deps at a t b w.last ids u h w.through) ∙ first_is_least w.last k ks (here at a) l in
    record {
      last = Some k;
      left = next_left w.last k ks (here at a) l;
      through = through_on deps at a t b d w.last k ids more all u o v h w.through n z oe i;
    }

pub last_keys : (deps : List Id) (at : List Tagged) (a : Tree) (t : Rows) (b : Tree) (ks : List Key) (ids : List Id) (u v : Rows) → HasPlace at a → ks ≡ [] → ThroughKeys deps at a t b ks ids u → v ≡ at_depth t.depth (pushed u R.ClearMap3) → Clears (λ c. ClearMap c deps []) at a b ids t v
last_keys deps at a t b ks ids u v h f w e =
    let l : AreLeft w.last [] (here at a) = subst (λ (js : List Key). AreLeft w.last js (here at a)) f w.left in
    last_through deps at a t b w.last ids u v h w.through (ap (least_after w.last) (keys_were deps at a t b w.last ids u h w.through) ∙ none_left w.last (here at a) l) e

-- the first keys that are left, where the keys with a content are listed

has_cleared : (c : Context) (k : Key) → IsCleared k c → has_content c k ≡ true
has_cleared c k i = rw (i.map, i.list, i.register) refl

-- one was cleared before
pub cleared_on : (deps : List Id) (at : List Tagged) (a : Tree) (t : Rows) (k : Key) (ks left : List Key) (u o v : Rows) → HasPlace at a → IsCleared k (here at a) → left ≡ filter (λ j. has_content (here at a) j) (k ∷ ks) → ThroughKeys deps at a t a left [] u → Clears (λ c. ClearElem c deps k) at a a [] o v → o ≡ one_deeper (pushed u R.ClearMap2) → ThroughKeys deps at a t a (filter (λ j. has_content (here at a) j) ks) [] v
cleared_on deps at a t k ks left u o v h i f w z oe =
    let has : has_content (here at a) k ≡ true = has_cleared (here at a) k i in
    keys_on deps at a t a a k (filter (λ j. has_content (here at a) j) ks) left [] [] [] u o v h (f ∙ rw has refl) w z oe refl

module _ {X : Type 0} (p : Key → Bool) where
  -- one goes over into a list
  pub listed_on : (es fs : List (Key × X)) (e : Key × X) (k : Key) (ks : List Key) → fs ≡ es ++ e ∷ [] → e.0 ≡ k → p k ≡ true → keys_of es ++ filter p (k ∷ ks) ≡ keys_of fs ++ filter p ks
  listed_on es fs e k ks f s h = go es ∙ ap (λ (x : List (Key × X)). keys_of x ++ filter p ks) (sym f)
    where
      go : (ds : List (Key × X)) → keys_of ds ++ filter p (k ∷ ks) ≡ keys_of (ds ++ e ∷ []) ++ filter p ks
      go [] = rw (h, s) refl
      go (d ∷ ds) = ap (λ (x : List Key). d.0 ∷ x) (go ds)

  -- one is left out
  pub left_over : (es : List (Key × X)) (k : Key) (ks : List Key) → p k ≡ false → keys_of es ++ filter p (k ∷ ks) ≡ keys_of es ++ filter p ks
  left_over es k ks h = rw h refl
