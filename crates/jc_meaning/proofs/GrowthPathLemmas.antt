-- About Growth: what is made and touched along an operation's path, and at its end.
use Rattle.std.proofs.Common.{◌≡◌, ◌≢◌, ℕ, ◌+◌, ◌<◌, List, [], ◌∷◌, ◌++◌, length, take, drop, get_or, Bool, true, false, not, ◌||◌, ◌&&◌, cond, Option, Some, None, is_some, refl, sym, ◌∙◌, ap, subst}
use Rattle.std.specs.List.{AllByRecursion}
use Rattle.jc_rules.specs.declared.id.Id.{Id}
use Rattle.jc_rules.specs.declared.key.Key.{Key}
use Rattle.jc_rules.specs.declared.key.Tagged.{Tagged}
use Rattle.jc_rules.specs.declared.key.Tagged.TheVariants.{MapT, ListT, RegT}
use Rattle.jc_rules.specs.declared.operation.Op.{Op}
use Rattle.jc_rules.specs.declared.operation.Mutation.TheVariants as M
use Rattle.jc_rules.specs.declared.value.Value.{Value}
use Rattle.jc_rules.specs.declared.value.Value.TheVariants as V
use Rattle.jc_rules.specs.Order.{key_cmp, same_id, same_key}
use Rattle.jc_rules.specs.Entries.{find}
use Rattle.jc_rules.specs.Context.{Context, Register, maps, lists, Content, Node, Values, node_of, content, key_of_tagged}
use Rattle.std.proofs.lemmas.List.{take-append-drop, take_more}
use Rattle.jc_rules.specs.Paths.{HasContext, IsPath}
use Rattle.std.proofs.Math.Seq.{take-length}
use Rattle.jc_rules.specs.ContextsAt.{at_node, node_at, context_at}
use Rattle.jc_rules.proofs.ContextsAtLemmas.{there}
use Rattle.jc_rules.proofs.IdsLemmas.{same_id-true}
use Rattle.jc_rules.proofs.BoolLemmas.{first_true, second_true, or_false, or_right}
use Rattle.jc_meaning.specs.Effects.{same_tagged, same_path, is_at_or_above, target, is_delete, value_in, primitive, primitive_in, is_made_by, passed, goes_through}
use Rattle.jc_meaning.specs.Seen.{context_or_new, seen, has_tag}
use Rattle.jc_meaning.specs.Meaning.{is_cleared}
use Rattle.jc_meaning.specs.Growth.{Grows, no_tag, no_id, no_value, first_some, tag_here, key_here, along, tag_on, key_on, stays, is_gone, brings_id, brings_value, Brings, made_here}
use Rattle.jc_meaning.proofs.OrdersLemmas.{keys_back, keys_self, keys_eq}
use Rattle.jc_meaning.proofs.NextOperationLemmas.{paths_eq, paths_self}
use Rattle.jc_meaning.proofs.TagsLemmas.{tags_eq, tags_back, tags_self}
use Rattle.jc_meaning.proofs.GrowthWriteLemmas.{both_grow, grows_as, nothing_grows}
use Rattle.jc_meaning.proofs.SeenLemmas.{node_seen}

-- one key further
along_more : {X : Type 0} (f : Tagged → X → Bool) (ts : List Tagged) (t : Tagged) (P : List Tagged) (x : X) → along f (ts ++ t ∷ []) P x ≡ (along f ts P x || (same_path ts P && f t x))
along_more f [] t [] x = refl
along_more f [] t (s ∷ ss) x = nothing (same_tagged t s)
  where
    nothing : (b : Bool) → (b && false) ≡ false
    nothing true = refl
    nothing false = refl
along_more f (r ∷ rs) t [] x = sym (or_false (f r x))
along_more f (r ∷ rs) t (s ∷ ss) x = go (same_tagged r s) (along_more f rs t ss x)
  where
    go : (b : Bool) → along f (rs ++ t ∷ []) ss x ≡ (along f rs ss x || (same_path rs ss && f t x)) → (b && along f (rs ++ t ∷ []) ss x) ≡ ((b && along f rs ss x) || ((b && same_path rs ss) && f t x))
    go true e = e
    go false e = refl

-- what an operation goes through or makes
pub passed_is : (ts : List Tagged) (k : Key) (v : Option Value) (P : List Tagged) (u : Tagged) → passed ts k v P u ≡ (tag_on ts P u || made_here ts k v P u)
passed_is [] k v [] u = refl
passed_is [] k v (s ∷ ss) u = refl
passed_is (t ∷ ts) k v [] u = sym (or_false (same_tagged t u))
passed_is (t ∷ ts) k v (s ∷ ss) u = go (same_tagged t s) (passed_is ts k v ss u)
  where
    go : (b : Bool) → passed ts k v ss u ≡ (tag_on ts ss u || (same_path ts ss && is_made_by v k u)) → (b && passed ts k v ss u) ≡ ((b && tag_on ts ss u) || ((b && same_path ts ss) && is_made_by v k u))
    go true e = e
    go false e = refl

-- what is at or above the key at a path's end
pub above_is : (ts : List Tagged) (k : Key) (P : List Tagged) (l : Key) → is_at_or_above P l ts k ≡ (key_on ts P l || key_here ts k P l)
above_is [] k [] l = keys_back l k
above_is [] k (s ∷ ss) l = refl
above_is (t ∷ ts) k [] l = sym (or_false (same_key l (key_of_tagged t)))
above_is (t ∷ ts) k (s ∷ ss) l = ap (λ b. b && is_at_or_above ss l ts k) (tags_back s t) ∙ go (same_tagged t s) (above_is ts k ss l)
  where
    go : (b : Bool) → is_at_or_above ss l ts k ≡ (key_on ts ss l || (same_path ts ss && same_key k l)) → (b && is_at_or_above ss l ts k) ≡ ((b && key_on ts ss l) || ((b && same_path ts ss) && same_key k l))
    go true e = e
    go false e = refl

-- ---- a path whose tagged keys are all there leads to a context

pub place_there : (path : List Tagged) (c : Context) → AllByRecursion HasContext path → ((P : List Tagged) (u : Tagged) → tag_on path P u ≡ true → has_tag u (seen P c) ≡ true) → node_at path c ≢ None
place_there [] c all h e = cc
place_there (t ∷ ts) c all h e = go t all.0 (content t c) refl (h [] t (tags_self t)) (λ d deeper. place_there ts d all.1 deeper)
  where
    no_values : (u : Tagged) (v : Register) → HasContext u → content u c ≡ Some (Values v) → ⊥
    no_values (MapT k) v has f = no_node (find key_cmp k (maps c)) f
      where
        no_node : (o : Option Context) → node_of o ≡ Some (Values v) → ⊥
        no_node None g = cc
        no_node (Some d) g = cc
    no_values (ListT k) v has f = no_node (find key_cmp k (lists c)) f
      where
        no_node : (o : Option Context) → node_of o ≡ Some (Values v) → ⊥
        no_node None g = cc
        no_node (Some d) g = cc
    no_values (RegT k) v has f = has

    go : (u : Tagged) → HasContext u → (o : Option Content) → content t c ≡ o → is_some (content t c) ≡ true → ((d : Context) → ((P : List Tagged) (u2 : Tagged) → tag_on ts P u2 ≡ true → has_tag u2 (seen P d) ≡ true) → node_at ts d ≡ None → ⊥) → ⊥
    go u has None f s ih = let z : is_some (content t c) ≡ false = ap is_some f in cc
    go u has (Some (Values v)) f s ih = no_values t v all.0 f
    go u has (Some (Node d)) f s ih = ih d (λ P u2 w. subst (λ o. has_tag u2 (seen P (context_or_new o t)) ≡ true) f (h (t ∷ P) u2 (ap (λ b. b && tag_on ts P u2) (tags_self t) ∙ w))) (rw f at e)

-- ---- one key of the path after another

or_and : (a b s : Bool) → ((a && s) || (b && s)) ≡ ((a || b) && s)
or_and true true true = refl
or_and true true false = refl
or_and true false true = refl
or_and true false false = refl
or_and false b s = refl

key_back_here : (ts : List Tagged) (t : Tagged) (P : List Tagged) (l : Key) → key_here ts (key_of_tagged t) P l ≡ (same_path ts P && same_key l (key_of_tagged t))
key_back_here ts t P l = ap (λ b. same_path ts P && b) (keys_back (key_of_tagged t) l)

pub one_further : (O : List Op) (o : Op) (ts : List Tagged) (t : Tagged) (a b c d : Context)
    → Grows a b (tag_on ts) (λ P k i. key_on ts P k && stays O o P k i) no_value
    → Grows b c (tag_here ts t) no_id no_value
    → Grows c d no_tag (λ P k i. key_here ts (key_of_tagged t) P k && stays O o P k i) no_value
    → Grows a d (tag_on (ts ++ t ∷ [])) (λ P k i. key_on (ts ++ t ∷ []) P k && stays O o P k i) no_value
one_further O o ts t a b c d x y z =
    let two = both_grow a b c (tag_on ts) (tag_here ts t) (λ P k i. key_on ts P k && stays O o P k i) no_id no_value no_value x y in
    let three = both_grow a c d (λ P u. tag_on ts P u || tag_here ts t P u) no_tag (λ P k i. (key_on ts P k && stays O o P k i) || no_id P k i) (λ P k i. key_here ts (key_of_tagged t) P k && stays O o P k i) (λ P k i. first_some (no_value P k i) (no_value P k i)) no_value two z in
    grows_as a d (λ P u. (tag_on ts P u || tag_here ts t P u) || no_tag P u) (tag_on (ts ++ t ∷ []))
    (λ P k i. ((key_on ts P k && stays O o P k i) || no_id P k i) || (key_here ts (key_of_tagged t) P k && stays O o P k i)) (λ P k i. key_on (ts ++ t ∷ []) P k && stays O o P k i)
    (λ P k i. first_some (no_value P k i) (first_some (no_value P k i) (no_value P k i))) no_value
    (λ P u. or_false (tag_on ts P u || tag_here ts t P u) ∙ sym (along_more same_tagged ts t P u))
    (λ P k i. ap (λ b. b || (key_here ts (key_of_tagged t) P k && stays O o P k i)) (or_false (key_on ts P k && stays O o P k i)) ∙ or_and (key_on ts P k) (key_here ts (key_of_tagged t) P k) (stays O o P k i)
    ∙ ap (λ b. (key_on ts P k || b) && stays O o P k i) (key_back_here ts t P k) ∙ ap (λ b. b && stays O o P k i) (sym (along_more (λ t l. same_key l (key_of_tagged t)) ts t P k)))
    (λ P k i. refl)
    three

-- ---- what an operation brings in all

stays_is : (d : Bool) (a b s c : Bool) → ((a && (s && (not d && not c))) || (b && (s && (not d && not c)))) ≡ (s && ((not d && (a || b)) && not c))
stays_is true true true true c = refl
stays_is true true true false c = refl
stays_is true true false true c = refl
stays_is true true false false c = refl
stays_is true false true true c = refl
stays_is true false true false c = refl
stays_is true false false true c = refl
stays_is true false false false c = refl
stays_is false true true true true = refl
stays_is false true true true false = refl
stays_is false true true false c = refl
stays_is false true false true true = refl
stays_is false true false true false = refl
stays_is false true false false c = refl
stays_is false false true true true = refl
stays_is false false true true false = refl
stays_is false false true false c = refl
stays_is false false false true c = refl
stays_is false false false false c = refl

-- an operation with a value
pub puts_brings : (O : List Op) (o : Op) (k : Key) (v : Value) (a b c : Context) → k ≡ target o → value_in o.mutation ≡ Some v
    → Grows a b (tag_on o.cursor.path) (λ P l i. key_on o.cursor.path P l && stays O o P l i) no_value
    → Grows b c (made_here o.cursor.path k (Some v)) (λ P l i. key_here o.cursor.path k P l && stays O o P l i) (brings_value O o)
    → Brings O o a c
puts_brings O o k v a b c key value x y =
    grows_as a c (λ P u. tag_on o.cursor.path P u || made_here o.cursor.path k (Some v) P u) (goes_through o)
    (λ P l i. (key_on o.cursor.path P l && stays O o P l i) || (key_here o.cursor.path k P l && stays O o P l i)) (brings_id O o)
    (λ P l i. first_some (brings_value O o P l i) (no_value P l i)) (brings_value O o)
    (λ P u. ap (λ z. tag_on o.cursor.path P u || made_here o.cursor.path z (Some v) P u) key ∙ ap (λ z. tag_on o.cursor.path P u || made_here o.cursor.path (target o) z P u) (sym value) ∙ sym (passed_is o.cursor.path (target o) (value_in o.mutation) P u))
    (λ P l i. stays_is (is_delete o.mutation) (key_on o.cursor.path P l) (key_here o.cursor.path k P l) (same_id i o.id) (is_cleared O P l i)
    ∙ ap (λ z. same_id i o.id && ((not (is_delete o.mutation) && (key_on o.cursor.path P l || key_here o.cursor.path z P l)) && not (is_cleared O P l i))) key
    ∙ ap (λ z. same_id i o.id && ((not (is_delete o.mutation) && z) && not (is_cleared O P l i))) (sym (above_is o.cursor.path (target o) P l)))
    (λ P l i. first_none (brings_value O o P l i))
    (both_grow a b c (tag_on o.cursor.path) (made_here o.cursor.path k (Some v)) (λ P l i. key_on o.cursor.path P l && stays O o P l i) (λ P l i. key_here o.cursor.path k P l && stays O o P l i) no_value (brings_value O o) x y)
  where
    first_none : (w : Option Value) → first_some w None ≡ w
    first_none (Some w) = refl
    first_none None = refl

-- a delete
pub deletes_brings : (O : List Op) (o : Op) (a b : Context) → o.mutation ≡ M.Delete
    → Grows a b (tag_on o.cursor.path) (λ P l i. key_on o.cursor.path P l && stays O o P l i) no_value
    → Brings O o a b
deletes_brings O o a b m x =
    grows_as a b (tag_on o.cursor.path) (goes_through o) (λ P l i. key_on o.cursor.path P l && stays O o P l i) (brings_id O o) no_value (brings_value O o)
    (λ P u. made_none P u ∙ sym (passed_is o.cursor.path (target o) (value_in o.mutation) P u))
    (λ P l i. rw m (gone (key_on o.cursor.path P l) (same_id i o.id)))
    (λ P l i. rw m (none (same_id i o.id && not (is_gone O P l i)) (same_path o.cursor.path P && same_key o.cursor.last l)))
    x
  where
    no_and : (z : Bool) → (z && false) ≡ false
    no_and true = refl
    no_and false = refl

    made_none : (P : List Tagged) (u : Tagged) → tag_on o.cursor.path P u ≡ (tag_on o.cursor.path P u || made_here o.cursor.path (target o) (value_in o.mutation) P u)
    made_none P u = rw m (sym (or_false (tag_on o.cursor.path P u)) ∙ ap (λ z. tag_on o.cursor.path P u || z) (sym (no_and (same_path o.cursor.path P))))

    gone : (z s : Bool) → (z && (s && false)) ≡ (s && false)
    gone true s = refl
    gone false true = refl
    gone false false = refl

    none : (z w : Bool) → first_some None None ≡ cond z (cond w None None) None
    none true true = refl
    none true false = refl
    none false w = refl

-- ---- the loop along the path

pub grown_place : (ts : List Tagged) (c d : Context) (i : List Tagged → Key → Id → Bool) (v : List Tagged → Key → Id → Option Value) → AllByRecursion HasContext ts → Grows c d (tag_on ts) i v → node_at ts d ≢ None
grown_place ts c d i v all g = place_there ts d all (λ P u w. g.tags P u ∙ or_right (has_tag u (seen P c)) (tag_on ts P u) w)

pub still_place : (ts : List Tagged) (b c d : Context) (a : List Tagged → Tagged → Bool) (i j : List Tagged → Key → Id → Bool) (v w : List Tagged → Key → Id → Option Value) → AllByRecursion HasContext ts → Grows b c (tag_on ts) i v → Grows c d a j w → node_at ts d ≢ None
still_place ts b c d a i j v w all g h =
    place_there ts d all (λ P u e. h.tags P u ∙ ap (λ z. z || a P u) (g.tags P u ∙ or_right (has_tag u (seen P b)) (tag_on ts P u) e))

all_front : (P : Tagged → Type 0) (xs ys : List Tagged) → AllByRecursion P (xs ++ ys) → AllByRecursion P xs
all_front P [] ys a = tt
all_front P (x ∷ xs) ys a = (a.0, all_front P xs ys a.1)

pub contexts_taken : (path slice : List Tagged) (n : ℕ) → slice ≡ path → IsPath path → AllByRecursion HasContext (take n slice)
contexts_taken path slice n e p = all_front HasContext (take n slice) (drop n slice) (subst (AllByRecursion HasContext) (sym e ∙ sym (take-append-drop n slice)) p.contexts)

pub enter_on : (O : List Op) (o : Op) (slice : List Tagged) (n : ℕ) (t : Tagged) (k : Key) (a b c d : Context) → n < length slice → t ≡ get_or slice n t → k ≡ key_of_tagged t
    → Grows a b (tag_on (take n slice)) (λ P l i. key_on (take n slice) P l && stays O o P l i) no_value
    → Grows b c (tag_here (take n slice) t) no_id no_value
    → Grows c d no_tag (λ P l i. key_here (take n slice) k P l && stays O o P l i) no_value
    → Grows a d (tag_on (take (n + 1) slice)) (λ P l i. key_on (take (n + 1) slice) P l && stays O o P l i) no_value
enter_on O o slice n t k a b c d h e key x y z =
    let more : take (n + 1) slice ≡ take n slice ++ t ∷ [] = take_more slice n t h ∙ ap (λ u. take n slice ++ u ∷ []) (sym e) in
    let touched : Grows c d no_tag (λ P l i. key_here (take n slice) (key_of_tagged t) P l && stays O o P l i) no_value = subst (λ q. Grows c d no_tag (λ P l i. key_here (take n slice) q P l && stays O o P l i) no_value) key z in
    subst (λ ts. Grows a d (tag_on ts) (λ P l i. key_on ts P l && stays O o P l i) no_value) (sym more) (one_further O o (take n slice) t a b c d x y touched)

-- ---- a place that is there stays

pub place_tags : (ts : List Tagged) (c : Context) → (node_at ts c ≡ None → ⊥) → (P : List Tagged) (u : Tagged) → tag_on ts P u ≡ true → has_tag u (seen P c) ≡ true
place_tags [] c h P u e = cc
place_tags (t ∷ ts) c h P u e = go (content t c) refl (λ d g. place_tags ts d g) P e
  where
    nowhere : (o : Option Content) → content t c ≡ o → node_at (t ∷ ts) c ≡ at_node o (λ d. node_at ts d) None
    nowhere o f = rw f refl

    go : (o : Option Content) → content t c ≡ o → ((d : Context) → (node_at ts d ≡ None → ⊥) → (Q : List Tagged) (v : Tagged) → tag_on ts Q v ≡ true → has_tag v (seen Q d) ≡ true) → (Q : List Tagged) → tag_on (t ∷ ts) Q u ≡ true → has_tag u (seen Q c) ≡ true
    go None f ih Q w = absurd (h (nowhere None f))
    go (Some (Values r)) f ih Q w = absurd (h (nowhere (Some (Values r)) f))
    go (Some (Node d)) f ih [] w = ap (λ z. has_tag z c) (sym (tags_eq t u w)) ∙ ap is_some f
    go (Some (Node d)) f ih (s ∷ ss) w =
        let same : t ≡ s = tags_eq t s (first_true (same_tagged t s) (tag_on ts ss u) w) in
        let below : has_tag u (seen ss d) ≡ true = ih d (λ g. h (nowhere (Some (Node d)) f ∙ g)) ss u (second_true (same_tagged t s) (tag_on ts ss u) w) in
        let there : seen (t ∷ ss) c ≡ seen ss d = rw f refl in
        ap (λ z. has_tag u (seen (z ∷ ss) c)) (sym same) ∙ ap (has_tag u) there ∙ below

pub kept_place : (path slice : List Tagged) (c d : Context) (a : List Tagged → Tagged → Bool) (i : List Tagged → Key → Id → Bool) (v : List Tagged → Key → Id → Option Value) → slice ≡ path → IsPath path → (node_at path c ≡ None → ⊥) → Grows c d a i v → node_at slice d ≢ None
kept_place path slice c d a i v e p h g =
    subst (λ ts. node_at ts d ≡ None → ⊥) (sym e) (place_there path d p.contexts (λ P u w. g.tags P u ∙ ap (λ z. z || a P u) (place_tags path c h P u w)))

-- ---- what a value brings

primitive_is : (v : Value) → primitive v ≡ cond (is_some (primitive v)) (Some v) None
primitive_is (V.Number t) = refl
primitive_is _ = refl

pub brings_is : (O : List Op) (o : Op) (k : Key) (v : Value) → k ≡ target o → value_in o.mutation ≡ Some v → (P : List Tagged) (l : Key) (i : Id)
    → cond (key_here o.cursor.path k P l && (same_id i o.id && (is_some (primitive v) && not (is_gone O o.cursor.path k o.id)))) (Some v) None ≡ brings_value O o P l i
brings_is O o k v key value P l i =
    go (same_path o.cursor.path P) (same_key k l) (same_id i o.id) refl refl refl
    ∙ ap (λ z. cond (same_id i o.id && not (is_gone O P l i)) (cond (same_path o.cursor.path P && same_key z l) (primitive_in (Some v)) None) None) key
    ∙ ap (λ z. cond (same_id i o.id && not (is_gone O P l i)) (cond (same_path o.cursor.path P && same_key (target o) l) (primitive_in z) None) None) (sym value)
  where
    there : (p g : Bool) → cond (p && not g) (Some v) None ≡ cond (not g) (cond p (Some v) None) None
    there true true = refl
    there true false = refl
    there false true = refl
    there false false = refl

    none : (w s : Bool) → first_some None None ≡ cond w (cond s None None) None
    none true true = refl
    none true false = refl
    none false s = refl

    nowhere : (b : Bool) → first_some None None ≡ cond b None None
    nowhere true = refl
    nowhere false = refl

    no_other : (a : Bool) → cond (a && false) (Some v) None ≡ first_some None None
    no_other true = refl
    no_other false = refl

    go : (x y z : Bool) → same_path o.cursor.path P ≡ x → same_key k l ≡ y → same_id i o.id ≡ z
        → cond ((x && y) && (z && (is_some (primitive v) && not (is_gone O o.cursor.path k o.id)))) (Some v) None ≡ cond (z && not (is_gone O P l i)) (cond (x && y) (primitive v) None) None
    go true true true e f h =
        let one : is_gone O o.cursor.path k o.id ≡ is_gone O P l i = ap (λ Q. is_gone O Q k o.id) (paths_eq o.cursor.path P e) ∙ ap (λ q. is_gone O P q o.id) (keys_eq k l f) ∙ ap (λ j. is_gone O P l j) (sym (same_id-true i o.id h)) in
        ap (λ b. cond (is_some (primitive v) && not b) (Some v) None) one ∙ there (is_some (primitive v)) (is_gone O P l i) ∙ ap (λ w. cond (not (is_gone O P l i)) w None) (sym (primitive_is v))
    go true true false e f h = refl
    go true false z e f h = nowhere (z && not (is_gone O P l i))
    go false y z e f h = nowhere (z && not (is_gone O P l i))

module _ (O : List Op) (o : Op) (k : Key) (v : Value) (path : List Tagged) (t : Tagged) (key : k ≡ target o) (value : value_in o.mutation ≡ Some v) (at : path ≡ o.cursor.path) (tag : (u : Tagged) → same_tagged t u ≡ is_made_by (Some v) k u) where
  pub puts : (w : List Tagged → Key → Id → Option Value) (a b c d : Context)
      → Grows a b no_tag (λ P l i. key_here path k P l && stays O o P l i) no_value → Grows b c (tag_here path t) no_id no_value → Grows c d no_tag no_id w
      → ((P : List Tagged) (l : Key) (i : Id) → w P l i ≡ brings_value O o P l i)
      → Grows a d (made_here o.cursor.path k (Some v)) (λ P l i. key_here o.cursor.path k P l && stays O o P l i) (brings_value O o)
  puts w a b c d x y z told =
      grows_as a d (λ P u. (no_tag P u || tag_here path t P u) || no_tag P u) (made_here o.cursor.path k (Some v))
      (λ P l i. ((key_here path k P l && stays O o P l i) || no_id P l i) || no_id P l i) (λ P l i. key_here o.cursor.path k P l && stays O o P l i)
      (λ P l i. first_some (w P l i) (first_some (no_value P l i) (no_value P l i))) (brings_value O o)
      (λ P u. or_false (tag_here path t P u) ∙ ap (λ Q. same_path Q P && same_tagged t u) at ∙ ap (λ b. same_path o.cursor.path P && b) (tag u))
      (λ P l i. or_false ((key_here path k P l && stays O o P l i) || false) ∙ or_false (key_here path k P l && stays O o P l i) ∙ ap (λ Q. key_here Q k P l && stays O o P l i) at)
      (λ P l i. first_none (w P l i) ∙ told P l i)
      (both_grow a c d (λ P u. no_tag P u || tag_here path t P u) no_tag (λ P l i. (key_here path k P l && stays O o P l i) || no_id P l i) no_id (λ P l i. first_some (no_value P l i) (no_value P l i)) w
      (both_grow a b c no_tag (tag_here path t) (λ P l i. key_here path k P l && stays O o P l i) no_id no_value no_value x y) z)
    where
      first_none : (q : Option Value) → first_some q None ≡ q
      first_none (Some q) = refl
      first_none None = refl

  -- a value that doesn't go into a register, or is gone
  pub puts_nothing : (a b c : Context) → Grows a b no_tag (λ P l i. key_here path k P l && stays O o P l i) no_value → Grows b c (tag_here path t) no_id no_value
      → (is_some (primitive v) && not (is_gone O path k o.id)) ≡ false
      → Grows a c (made_here o.cursor.path k (Some v)) (λ P l i. key_here o.cursor.path k P l && stays O o P l i) (brings_value O o)
  puts_nothing a b c x y h = puts no_value a b c c x y (nothing_grows c) (λ P l i. none (key_here o.cursor.path k P l) (same_id i o.id) (is_some (primitive v) && not (is_gone O o.cursor.path k o.id)) (ap (λ Q. is_some (primitive v) && not (is_gone O Q k o.id)) (sym at) ∙ h) ∙ brings_is O o k v key value P l i)
    where
      none : (x z b : Bool) → b ≡ false → first_some None None ≡ cond (x && (z && b)) (Some v) None
      none true true true e = cc
      none true true false e = refl
      none true false b e = refl
      none false z b e = refl

  pub puts_value : (a b c d : Context) → Grows a b no_tag (λ P l i. key_here path k P l && stays O o P l i) no_value → Grows b c (tag_here path t) no_id no_value
      → Grows c d no_tag no_id (λ P l i. cond (key_here path k P l && same_id i o.id) (Some v) None)
      → is_some (primitive v) ≡ true → is_gone O path k o.id ≡ false
      → Grows a d (made_here o.cursor.path k (Some v)) (λ P l i. key_here o.cursor.path k P l && stays O o P l i) (brings_value O o)
  puts_value a b c d x y z p g =
      puts (λ P l i. cond (key_here path k P l && same_id i o.id) (Some v) None) a b c d x y z
      (λ P l i. ap (λ Q. cond (key_here Q k P l && same_id i o.id) (Some v) None) at ∙ ap (λ b. cond (key_here o.cursor.path k P l && b) (Some v) None) (all (same_id i o.id)) ∙ brings_is O o k v key value P l i)
    where
      rest : (is_some (primitive v) && not (is_gone O o.cursor.path k o.id)) ≡ true
      rest = ap (λ Q. is_some (primitive v) && not (is_gone O Q k o.id)) (sym at) ∙ ap (λ b. b && not (is_gone O path k o.id)) p ∙ ap not g

      all : (s : Bool) → s ≡ (s && (is_some (primitive v) && not (is_gone O o.cursor.path k o.id)))
      all true = sym rest
      all false = refl

-- the end of the loop along the path
pub end_place : (path slice : List Tagged) (n : ℕ) (c d : Context) (i : List Tagged → Key → Id → Bool) (v : List Tagged → Key → Id → Option Value) → slice ≡ path → IsPath path → n ≡ length slice → Grows c d (tag_on (take n slice)) i v → node_at path d ≢ None
end_place path slice n c d i v e p h g =
    let whole : take n slice ≡ path = ap (λ m. take m slice) h ∙ take-length slice ∙ e in
    subst (λ ts. node_at ts d ≡ None → ⊥) whole (grown_place (take n slice) c d i v (contexts_taken path slice n e p) g)

-- the register that was made
pub made_register : (slice : List Tagged) (t : Tagged) (k : Key) (b c : Context) → node_at slice c ≢ None → Grows b c (tag_here slice t) no_id no_value → t ≡ RegT k → has_tag (RegT k) (context_at slice c) ≡ true
made_register slice t k b c h g e =
    let here : seen slice c ≡ context_at slice c = node_seen slice c (context_at slice c) (there slice c h) in
    let self : same_tagged t (RegT k) ≡ true = ap (λ z. same_tagged z (RegT k)) e ∙ keys_self k in
    ap (has_tag (RegT k)) (sym here) ∙ g.tags slice (RegT k) ∙ or_right (has_tag (RegT k) (seen slice b)) (same_path slice slice && same_tagged t (RegT k)) (ap (λ z. z && same_tagged t (RegT k)) (paths_self slice) ∙ self)

pub path_of : (path slice : List Tagged) → slice ≡ path → IsPath path → IsPath slice
path_of path slice e p = subst IsPath (sym e) p

pub kept_twice : (path slice : List Tagged) (b c d : Context) (a z : List Tagged → Tagged → Bool) (i j : List Tagged → Key → Id → Bool) (v w : List Tagged → Key → Id → Option Value) → slice ≡ path → IsPath path → (node_at path b ≡ None → ⊥) → Grows b c a i v → Grows c d z j w → node_at slice d ≢ None
kept_twice path slice b c d a z i j v w e p h g k = kept_place slice slice c d z j w refl (path_of path slice e p) (kept_place path slice b c a i v e p h g) k
