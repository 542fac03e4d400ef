-- About Parts: what is seen at a path that a store names, and at one that leads to no context.
use Rattle.std.proofs.Common.{◌≡◌, ℕ, zero, suc, option_copied, IfSome, Result, Ok, Err, is_ok, ◌-◌, ◌<◌, List, [], ◌∷◌, ◌++◌, length, slice_get, Bool, true, false, cond, Option, Some, None, is_some, refl, sym, ◌∙◌, ap, subst, arith}
use Rattle.std.specs.Borrow.{Bor}
use Rattle.jc_rules.specs.declared.id.Id.{Id}
use Rattle.jc_rules.specs.declared.key.Key.{Key}
use Rattle.jc_rules.specs.declared.key.Tagged.{Tagged}
use Rattle.jc_rules.specs.declared.key.Tagged.TheVariants.{MapT, ListT, RegT}
use Rattle.jc_rules.specs.declared.value.Value.{Value}
use Rattle.jc_rules.specs.Order.{id_cmp, key_cmp, same_id}
use Rattle.jc_rules.specs.Entries.{find}
use Rattle.jc_rules.specs.Ids.{AreRising}
use Rattle.jc_rules.specs.Context.{Context, Register, Content, Node, Values, content, presence, registers}
use Rattle.jc_rules.specs.ContextsAt.{node_at, node_in, or_empty}
use Rattle.jc_rules.specs.Paths.{HasContext}
use Rattle.jc_rules.specs.WellFormed.{IsWellFormedContext, IsWellFormedRegister}
use Rattle.jc_rules.proofs.ContextsAtLemmas.{there}
use Rattle.jc_rules.proofs.BoolLemmas.{no_truth}
use Rattle.jc_rules.proofs.IdsLemmas.{same_id-self}
use Rattle.jc_rules.proofs.OrderLemmas.{ids_total, exact_ids}
use Rattle.jc_rules.proofs.ContextLemmas.{no_node}
use Rattle.jc_apply.specs.Fits.{made_under}
use Rattle.jc_tree.specs.declared.store.Place.{Place}
use Rattle.jc_tree.specs.Tree.{Tree, HasPlace, here, or_no_entries}
use Rattle.jc_tree.specs.Sorted.{IsEntryPlace}
use Rattle.jc_tree.proofs.SortedLemmas.{find-absent}
use Rattle.jc_tree.specs.Nested.{nested}
use Rattle.jc_tree.proofs.PlacesLemmas.{some_place}
use Rattle.jc_tree.proofs.WellFormedLemmas.{presence_rises, register_kept}
use Rattle.jc_meaning.specs.Seen.{context_or_new, seen, ids_of_some, ids_at, reg_at, has_tag}
use Rattle.jc_meaning.proofs.ComparedContextsLemmas.{stands_below}
use Rattle.jc_meaning.proofs.SeenLemmas.{node_seen}
use Rattle.jc_effects.specs.Parts.{IsNameOf}

-- where there is a context, it is seen
pub seen_here : (at : List Tagged) (t : Tree) → HasPlace at t → seen at t.now ≡ here at t
seen_here at t h = node_seen at t.now (here at t) (there at t.now h)

-- ---- where there is none, a new one is seen

last_of : Tagged → List Tagged → Tagged
last_of t [] = t
last_of t (u ∷ us) = last_of u us

got_last : (t : Tagged) (ts : List Tagged) → slice_get (t ∷ ts) (length ts) ≡ Some (last_of t ts)
unfolding last_of
got_last t [] = refl
got_last t (u ∷ us) = got_last u us

at_last : (t : Tagged) (ts : List Tagged) → slice_get (t ∷ ts) (length (t ∷ ts) - 1) ≡ Some (last_of t ts)
at_last t ts = let e : length (t ∷ ts) - 1 ≡ length ts = omega arith in ap (slice_get (t ∷ ts)) e ∙ got_last t ts

new_below : (t u : Tagged) → context_or_new (content u (made_under (Some t))) u ≡ made_under (Some u)
new_below (MapT j) (MapT k) = refl
new_below (MapT j) (ListT k) = refl
new_below (MapT j) (RegT k) = refl
new_below (ListT j) (MapT k) = refl
new_below (ListT j) (ListT k) = refl
new_below (ListT j) (RegT k) = refl
new_below (RegT j) (MapT k) = refl
new_below (RegT j) (ListT k) = refl
new_below (RegT j) (RegT k) = refl

new_of : (t : Tagged) → context_or_new None t ≡ made_under (Some t)
new_of (MapT k) = refl
new_of (ListT k) = refl
new_of (RegT k) = refl

new_of_values : (r : Register) (t : Tagged) → context_or_new (Some (Values r)) t ≡ made_under (Some t)
new_of_values r (MapT k) = refl
new_of_values r (ListT k) = refl
new_of_values r (RegT k) = refl

seen_new : (t : Tagged) (ts : List Tagged) → seen ts (made_under (Some t)) ≡ made_under (Some (last_of t ts))
unfolding last_of
seen_new t [] = refl
seen_new t (u ∷ us) = ap (seen us) (new_below t u) ∙ seen_new u us

seen_last : (t : Tagged) (ts : List Tagged) (c : Context) → node_at (t ∷ ts) c ≡ None → seen (t ∷ ts) c ≡ made_under (Some (last_of t ts))
unfolding last_of
seen_last t [] c h = go (content t c) refl h
  where
    go : (o : Option Content) → content t c ≡ o → node_at (t ∷ []) c ≡ None → seen (t ∷ []) c ≡ made_under (Some t)
    go None e f = rw e (new_of t)
    go (Some (Values r)) e f = rw e (new_of_values r t)
    go (Some (Node d)) e f = let z : Some d ≡ None = rw e at f in cc
seen_last t (u ∷ us) c h = go (content t c) refl h (λ d f. seen_last u us d f)
  where
    go : (o : Option Content) → content t c ≡ o → node_at (t ∷ u ∷ us) c ≡ None → ((d : Context) → node_at (u ∷ us) d ≡ None → seen (u ∷ us) d ≡ made_under (Some (last_of u us))) → seen (t ∷ u ∷ us) c ≡ made_under (Some (last_of u us))
    go None e f ih = rw e (ap (seen (u ∷ us)) (new_of t) ∙ seen_new t (u ∷ us))
    go (Some (Values r)) e f ih = rw e (ap (seen (u ∷ us)) (new_of_values r t) ∙ seen_new t (u ∷ us))
    go (Some (Node d)) e f ih = rw e (ih d (rw e at f))

-- a new context is seen, by the last tagged key of the path
pub seen_none : (at : List Tagged) (c : Context) → node_at at c ≡ None → seen at c ≡ made_under (slice_get at (length at - 1))
seen_none [] c h = cc
seen_none (t ∷ ts) c h = seen_last t ts c h ∙ ap made_under (sym (at_last t ts))

-- nothing is in a new one, but for the link of a list's head
pub record IsNew (c : Context) : Type 0 where
  pub ids : (k : Key) → ids_at k c ≡ []
  pub register : (k : Key) → reg_at k c ≡ None
  pub tags : (u : Tagged) → has_tag u c ≡ false

new_is : (t : Tagged) → IsNew (made_under (Some t))
new_is (MapT j) = record { ids = λ k. refl; register = λ k. refl; tags = no_tag }
  where
    no_tag : (u : Tagged) → has_tag u (made_under (Some (MapT j))) ≡ false
    no_tag (MapT k) = refl
    no_tag (ListT k) = refl
    no_tag (RegT k) = refl
new_is (ListT j) = record { ids = λ k. refl; register = λ k. refl; tags = no_tag }
  where
    no_tag : (u : Tagged) → has_tag u (made_under (Some (ListT j))) ≡ false
    no_tag (MapT k) = refl
    no_tag (ListT k) = refl
    no_tag (RegT k) = refl
new_is (RegT j) = record { ids = λ k. refl; register = λ k. refl; tags = no_tag }
  where
    no_tag : (u : Tagged) → has_tag u (made_under (Some (RegT j))) ≡ false
    no_tag (MapT k) = refl
    no_tag (ListT k) = refl
    no_tag (RegT k) = refl

pub is_new : (at : List Tagged) (c : Context) → node_at at c ≡ None → IsNew (seen at c)
is_new [] c h = cc
is_new (t ∷ ts) c h = subst IsNew (sym (seen_last t ts c h)) (new_is (last_of t ts))

-- and so is each context below it
pub new_inside : (P at : List Tagged) (c : Context) → node_at at c ≡ None → IsNew (seen P (seen at c))
new_inside P [] c h = cc
new_inside P (t ∷ ts) c h = subst (λ d. IsNew (seen P d)) (sym (seen_last t ts c h)) (subst IsNew (sym (seen_new (last_of t ts) P)) (new_is (last_of (last_of t ts) P)))

-- ---- reading by a name

pub ids_read : (at : List Tagged) (k : Key) (t : Tree) (o : Option (List Id)) → HasPlace at t → o ≡ presence k (here at t) → ids_of_some o ≡ ids_at k (seen at t.now)
ids_read at k t o h e = ap ids_of_some e ∙ ap (ids_at k) (sym (seen_here at t h))

pub ids_rise : (at : List Tagged) (k : Key) (t : Tree) (o : Option (List Id)) → HasPlace at t → IsWellFormedContext t.now → o ≡ presence k (here at t) → AreRising (ids_of_some o)
ids_rise at k t None h w e = tt
ids_rise at k t (Some s) h w e = presence_rises at k s s t.now w h (sym e) refl

pub pairs_read : (at : List Tagged) (k : Key) (t : Tree) (o : Option Register) → HasPlace at t → o ≡ find key_cmp k (registers (here at t)) → or_no_entries o ≡ or_no_entries (reg_at k (seen at t.now))
pairs_read at k t o h e = ap or_no_entries e ∙ ap (λ c. or_no_entries (reg_at k c)) (sym (seen_here at t h))

pub pairs_formed : (at : List Tagged) (k : Key) (t : Tree) (o : Option Register) → HasPlace at t → IsWellFormedContext t.now → o ≡ find key_cmp k (registers (here at t)) → IsWellFormedRegister (or_no_entries o)
pairs_formed at k t None h w e = (tt, tt)
pairs_formed at k t (Some r) h w e = register_kept at k r r t.now w h (sym e) refl

pub tag_read : (at : List Tagged) (u : Tagged) (t : Tree) (b : Bool) → HasPlace at t → b ≡ is_some (content u (here at t)) → b ≡ has_tag u (seen at t.now)
tag_read at u t b h e = e ∙ ap (has_tag u) (sym (seen_here at t h))

register_tag : (k : Key) (c : Context) (o : Option Register) → o ≡ find key_cmp k (registers c) → is_some o ≡ has_tag (RegT k) c
register_tag k c None e = ap is_some (go e)
  where
    go : None ≡ find key_cmp k (registers c) → None ≡ content (RegT k) c
    go f = rw (← f) refl
register_tag k c (Some r) e = ap is_some (go e)
  where
    go : Some r ≡ find key_cmp k (registers c) → Some (Values r) ≡ content (RegT k) c
    go f = rw (← f) refl

pub register_read : (at : List Tagged) (k : Key) (t : Tree) (o : Option Register) (b : Bool) → HasPlace at t → o ≡ find key_cmp k (registers (here at t)) → b ≡ is_some o → b ≡ has_tag (RegT k) (seen at t.now)
register_read at k t o b h e f = f ∙ register_tag k (here at t) o e ∙ ap (has_tag (RegT k)) (sym (seen_here at t h))

-- ---- one key further down

child_at : (at : List Tagged) (u : Tagged) (c d : Context) (x : Option Content) → node_at at c ≡ Some d → content u d ≡ x → node_at (at ++ u ∷ []) c ≡ node_in x
child_at [] u c d x e f = let same : c ≡ d = cc in subst (λ z. node_at (u ∷ []) z ≡ node_in x) (sym same) (go x f)
  where
    go : (y : Option Content) → content u d ≡ y → node_at (u ∷ []) d ≡ node_in y
    go None g = rw g refl
    go (Some (Values r)) g = rw g refl
    go (Some (Node b)) g = rw g refl
child_at (t ∷ ts) u c d x e f = go (content t c) refl e (λ b h. child_at ts u b d x h f)
  where
    go : (y : Option Content) → content t c ≡ y → node_at (t ∷ ts) c ≡ Some d → ((b : Context) → node_at ts b ≡ Some d → node_at (ts ++ u ∷ []) b ≡ node_in x) → node_at ((t ∷ ts) ++ u ∷ []) c ≡ node_in x
    go None g h ih = let z : None ≡ Some d = rw g at h in cc
    go (Some (Values r)) g h ih = let z : None ≡ Some d = rw g at h in cc
    go (Some (Node b)) g h ih = rw g (ih b (rw g at h))

none_below : (at : List Tagged) (u : Tagged) (c : Context) → node_at at c ≡ None → node_at (at ++ u ∷ []) c ≡ None
none_below [] u c h = cc
none_below (t ∷ ts) u c h = go (content t c) refl h (λ b e. none_below ts u b e)
  where
    go : (y : Option Content) → content t c ≡ y → node_at (t ∷ ts) c ≡ None → ((b : Context) → node_at ts b ≡ None → node_at (ts ++ u ∷ []) b ≡ None) → node_at ((t ∷ ts) ++ u ∷ []) c ≡ None
    go None g e ih = rw g refl
    go (Some (Values r)) g e ih = rw g refl
    go (Some (Node b)) g e ih = rw g (ih b (rw g at e))

pub named_below : (names : Place → List Tagged → Type 0) (t : Tree) (at : List Tagged) (u : Tagged) (o : Option Place) → HasPlace at t → is_some o ≡ is_some (node_in (content u (here at t))) → IfSome o (λ p. names p (at ++ u ∷ [])) → IsNameOf names t (at ++ u ∷ []) o
named_below names t at u (Some p) h e n = n
named_below names t at u None h e n = child_at at u t.now (here at t) (content u (here at t)) (there at t.now h) refl ∙ go (node_in (content u (here at t))) e
  where
    go : (x : Option Context) → false ≡ is_some x → x ≡ None
    go None g = refl
    go (Some d) g = no_truth g

pub unnamed_below : (names : Place → List Tagged → Type 0) (t : Tree) (at : List Tagged) (u : Tagged) → node_at at t.now ≡ None → IsNameOf names t (at ++ u ∷ []) None
unnamed_below names t at u h = none_below at u t.now h

-- what stands below a context is smaller
has_context : (u : Tagged) (c d : Context) → content u c ≡ Some (Node d) → HasContext u
has_context (MapT k) c d e = tt
has_context (ListT k) c d e = tt
has_context (RegT k) c d e = no_node (find key_cmp k (registers c)) d e

pub smaller_below : (at : List Tagged) (u : Tagged) (t : Tree) → HasPlace (at ++ u ∷ []) t → nested (here (at ++ u ∷ []) t) < nested (here at t)
smaller_below at u t h = go (node_at at t.now) refl
  where
    inside : (x : Option Content) → content u (here at t) ≡ x → HasPlace at t → node_at (at ++ u ∷ []) t.now ≡ node_in x → nested (here (at ++ u ∷ []) t) < nested (here at t)
    inside None e p f = absurd (h f)
    inside (Some (Values r)) e p f = absurd (h f)
    inside (Some (Node d)) e p f = (stands_below at u t p (has_context u (here at t) d e) (ap is_some e)).smaller

    go : (x : Option Context) → node_at at t.now ≡ x → nested (here (at ++ u ∷ []) t) < nested (here at t)
    go None e = absurd (h (none_below at u t.now e))
    go (Some d) e =
        let p : HasPlace at t = some_place at t.now d e in
        inside (content u (here at t)) refl p (child_at at u t.now (here at t) (content u (here at t)) (there at t.now p) refl)

-- the number of contexts below the one that is named, if one is
abbrev pub nested_at : (Place → List Tagged) → Tree → Option Place → ℕ
nested_at path t None = 0
nested_at path t (Some p) = nested (here (path p) t)

pub named_nested : (names : Place → List Tagged → Type 0) (path : Place → List Tagged) (t : Tree) (at : List Tagged) (o : Option Place) → ((p : Place) (ps : List Tagged) → names p ps → path p ≡ ps) → IsNameOf names t at o → nested_at path t o ≡ nested (here at t)
named_nested names path t at (Some p) one n = ap (λ (ps : List Tagged). nested (here ps t)) (one p at n)
named_nested names path t at None one n = sym (ap (λ (o : Option Context). nested (or_empty o)) n)

pub copied_some : {X : Type 0} (o : Option (Bor X)) → is_some o ≡ is_some (option_copied o)
copied_some None = refl
copied_some (Some b) = refl

-- ---- searching a register

entry_found : (k : Id) (v : Value) (es : Register) (i : ℕ) → slice_get es i ≡ Some (k, v) → is_some (find id_cmp k es) ≡ true
entry_found k v [] i e = cc
entry_found k v (x ∷ xs) zero e =
    let same : x ≡ (k, v) = cc in
    subst (λ (y : Id × Value). is_some (cond (same_id k y.0) (Some y.1) (find id_cmp k xs)) ≡ true) (sym same) (ap (λ b. is_some (cond b (Some v) (find id_cmp k xs))) (same_id-self k))
entry_found k v (x ∷ xs) (suc n) e = go (same_id k x.0) (entry_found k v xs n e)
  where
    go : (b : Bool) → is_some (find id_cmp k xs) ≡ true → is_some (cond b (Some x.1) (find id_cmp k xs)) ≡ true
    go true f = refl
    go false f = f

pub place_tells : (k : Id) (es : Register) (r : Result ℕ ℕ) → IsEntryPlace id_cmp k es r → is_ok r ≡ is_some (find id_cmp k es)
place_tells k es (Ok i) h = sym (entry_found k h.value es i h.entry)
place_tells k es (Err i) h = sym (ap is_some (find-absent ids_total exact_ids k es i h))
