-- About ClearingEffects: what clearing takes away, by rule induction (the motives, and clearing maps and lists).
use Rattle.std.proofs.Common.{◌≡◌, List, [], ◌∷◌, ◌++◌, Bool, true, false, not, ◌||◌, ◌&&◌, cond, Option, Some, None, is_some, filter, refl, sym, ◌∙◌, ap, subst}
use Rattle.std.specs.declared.cmp.Ordering.{Ordering}
use Rattle.std.specs.declared.cmp.Ordering.TheVariants.{Less, Equal, Greater}
use Rattle.jc_rules.specs.declared.id.Id.{Id}
use Rattle.jc_rules.specs.declared.key.Key.{Key}
use Rattle.jc_rules.specs.declared.key.Key.TheVariants as K
use Rattle.jc_rules.specs.declared.key.Next.{Next}
use Rattle.jc_rules.specs.declared.key.Next.TheVariants.{Tail, Elem as To}
use Rattle.jc_rules.specs.declared.key.Tagged.{Tagged}
use Rattle.jc_rules.specs.declared.key.Tagged.TheVariants.{MapT, ListT, RegT}
use Rattle.jc_rules.specs.declared.value.Value.{Value}
use Rattle.jc_rules.specs.Order.{key_cmp, same_key}
use Rattle.jc_rules.specs.Entries.{find, keys_of}
use Rattle.jc_rules.specs.Ids.{has_id, union, AreIn}
use Rattle.jc_rules.specs.Context.{Context, context, maps, lists, registers, Register, Content, Node, Values, node_of, values_of, content, with_content, next, key_of_tagged, keys}
use Rattle.jc_rules.specs.ContextsAt.{first_key}
use Rattle.std.specs.Ordering.{match_ordering}
use Rattle.std.proofs.lemmas.Option.{same_Some}
use Rattle.jc_rules.specs.Table as Table
use Rattle.jc_rules.specs.Table.{least, lesser}
use Rattle.jc_rules.specs.declared.rule.Rule.{Rule}
use Rattle.jc_rules.specs.declared.rule.Rule.TheVariants as R
use Rattle.jc_rules.specs.Derivation.{Operate, Child, AddId, Presence, Clear, ClearAny, ClearElem, ClearMap, ClearList, Answer, ToIds, Cleared, Judgement, gives}
use Rattle.jc_rules.specs.Table.{Follows, kept, is_done}
use Rattle.jc_rules.specs.WellFormed.{LeadsThrough, elements}
use Rattle.jc_rules.proofs.IdsLemmas.{has_id-union}
use Rattle.jc_rules.proofs.BoolLemmas.{first_true}
use Rattle.jc_meaning.specs.Effects.{same_tagged}
use Rattle.jc_meaning.specs.Seen.{context_or_new, seen, ids_at, reg_at, value_in_some, value_seen_at, has_tag}
use Rattle.jc_meaning.proofs.ClearingEffectsLemmas.{nowhere, and_true, takes_none, takes_both, IsDownward, tidy_after, ids_empty, value_empty, below_reg, ids_below_new, value_below_new, no_value, widen, leads_still}
use Rattle.jc_meaning.proofs.TagsLemmas.{tags_eq, tags_back, node_ids, node_value, node_next, values_seen, values_ids, values_next, values_reg, find_kept}
use Rattle.jc_meaning.proofs.SeenLemmas.{is_node_tag, content_with_node, seen_with_node}
use Rattle.jc_meaning.proofs.InductionLemmas.{All}
use Rattle.jc_meaning.proofs.OperationActsLemmas.{OfOperate, OfChild, OfAdd}
use Rattle.jc_meaning.specs.ClearingEffects.{is_tagged, Tidy, TakesAway, in_key}
use Rattle.jc_meaning.proofs.OrdersLemmas.{keys_eq, keys_back}

abbrev pub below_key : Key → List Tagged → Key → Bool
below_key k [] l = false
below_key k (u ∷ us) l = same_key k (key_of_tagged u)

abbrev pub in_tag : Tagged → List Tagged → Key → Bool
in_tag t [] l = false
in_tag t (u ∷ us) l = same_tagged t u

abbrev pub reg_tag : Tagged → List Tagged → Key → Bool
reg_tag t [] l = same_tagged t (RegT l)
reg_tag t (u ∷ us) l = same_tagged t u

abbrev pub not_done : List Key → List Tagged → Key → Bool
not_done done P l = not (is_done done (first_key P l))

abbrev pub linked_from : Key → List Id → List Tagged → Key → Bool
linked_from k is P l = is_done (k ∷ elements is) (first_key P l)

abbrev pub everywhere : List Tagged → Key → Bool
everywhere P l = true

-- the list holds all presences of the context
abbrev pub Bounds : List Id → Context → Type 0
Bounds u c = (l : Key) (i : Id) → has_id i (ids_at l c) ≡ true → has_id i u ≡ true

-- ---- where it goes downwards

pub down_key : (k : Key) → IsDownward (in_key k) (in_key k)
down_key k = record { down = down; wide = λ P l h. h }
  where
    down : (P : List Tagged) (u : Tagged) (l : Key) → in_key k P (key_of_tagged u) ≡ true → in_key k (P ++ u ∷ []) l ≡ true
    down [] u l h = h
    down (t ∷ ts) u l h = h

pub down_tag : (t : Tagged) → IsDownward (in_tag t) (reg_tag t)
down_tag t = record { down = down; wide = wide }
  where
    down : (P : List Tagged) (u : Tagged) (l : Key) → in_tag t P (key_of_tagged u) ≡ true → in_tag t (P ++ u ∷ []) l ≡ true
    down [] u l h = cc
    down (s ∷ ts) u l h = h

    wide : (P : List Tagged) (l : Key) → in_tag t P l ≡ true → reg_tag t P l ≡ true
    wide [] l h = cc
    wide (s ∷ ts) l h = h

-- ---- done keys

pub or_cond : (x y : Bool) → (x || y) ≡ cond x true y
or_cond true y = refl
or_cond false y = refl

pub least_none : (ks done : List Key) (k : Key) → least (filter (λ j. not (is_done done j)) ks) ≡ None → is_done ks k ≡ true → is_done done k ≡ true
least_none [] done k h g = cc
least_none (j ∷ js) done k h g = go (is_done done j) refl (same_key j k) refl (least_none js done k) h g
  where
    some : (o : Option Key) → lesser j o ≡ None → ⊥
    some None e = cc
    some (Some q) e = two (key_cmp j q) e
      where
        two : (o : Ordering) → match_ordering o (Some j) (Some j) (Some q) ≡ None → ⊥
        two Less e = cc
        two Equal e = cc
        two Greater e = cc

    go : (x : Bool) → is_done done j ≡ x → (y : Bool) → same_key j k ≡ y → (least (filter (λ j. not (is_done done j)) js) ≡ None → is_done js k ≡ true → is_done done k ≡ true)
        → least (filter (λ j. not (is_done done j)) (j ∷ js)) ≡ None → cond y true (is_done js k) ≡ true → is_done done k ≡ true
    go true e true f ih h g = subst (λ q. is_done done q ≡ true) (keys_eq j k f) e
    go true e false f ih h g = ih (rw e at h) g
    go false e y f ih h g = absurd (some (least (filter (λ j. not (is_done done j)) js)) (rw e at h))

pub least_some : (ks done : List Key) (k : Key) → least (filter (λ j. not (is_done done j)) ks) ≡ Some k → is_done done k ≡ false
least_some [] done k h = cc
least_some (j ∷ js) done k h = go (is_done done j) refl (least_some js done k) h
  where
    pick : (o : Option Key) → is_done done j ≡ false → (o ≡ Some k → is_done done k ≡ false) → lesser j o ≡ Some k → is_done done k ≡ false
    pick None e ih g = subst (λ q. is_done done q ≡ false) (same_Some j k g) e
    pick (Some q) e ih g = two (key_cmp j q) g
      where
        two : (o : Ordering) → match_ordering o (Some j) (Some j) (Some q) ≡ Some k → is_done done k ≡ false
        two Less f = subst (λ q. is_done done q ≡ false) (same_Some j k f) e
        two Equal f = subst (λ q. is_done done q ≡ false) (same_Some j k f) e
        two Greater f = ih f

    go : (x : Bool) → is_done done j ≡ x → (least (filter (λ j. not (is_done done j)) js) ≡ Some k → is_done done k ≡ false) → least (filter (λ j. not (is_done done j)) (j ∷ js)) ≡ Some k → is_done done k ≡ false
    go true e ih g = ih (rw e at g)
    go false e ih g = pick (least (filter (λ j. not (is_done done j)) js)) e ih (rw e at g)

done_append : (xs ys : List Key) (k : Key) → is_done (xs ++ ys) k ≡ (is_done xs k || is_done ys k)
done_append [] ys k = refl
done_append (x ∷ xs) ys k = go (same_key x k) (done_append xs ys k)
  where
    go : (b : Bool) → is_done (xs ++ ys) k ≡ (is_done xs k || is_done ys k) → cond b true (is_done (xs ++ ys) k) ≡ (cond b true (is_done xs k) || is_done ys k)
    go true e = refl
    go false e = e

pub done_found : {X : Type 0} (es : List (Key × X)) (k : Key) → is_done (keys_of es) k ≡ is_some (find key_cmp k es)
done_found [] k = refl
done_found (e ∷ es) k = rw (keys_back e.0 k) (go (same_key k e.0) (done_found es k))
  where
    go : (b : Bool) → is_done (keys_of es) k ≡ is_some (find key_cmp k es) → cond b true (is_done (keys_of es) k) ≡ is_some (cond b (Some e.1) (find key_cmp k es))
    go true h = refl
    go false h = h

some_node : (o : Option Context) → is_some (node_of o) ≡ is_some o
some_node None = refl
some_node (Some c) = refl

some_values : (o : Option Register) → is_some (values_of o) ≡ is_some o
some_values None = refl
some_values (Some c) = refl

or_assoc : (x y z : Bool) → (x || (y || z)) ≡ ((x || y) || z)
or_assoc true y z = refl
or_assoc false y z = refl

pub tagged_done : (k : Key) (c : Context) → is_tagged k c ≡ is_done (keys c) k
tagged_done k c =
    rw (some_node (find key_cmp k (maps c)), some_node (find key_cmp k (lists c)), some_values (find key_cmp k (registers c)), ← done_found (maps c) k, ← done_found (lists c) k, ← done_found (registers c) k)
    (or_assoc (is_done (keys_of (maps c)) k) (is_done (keys_of (lists c)) k) (is_done (keys_of (registers c)) k)
    ∙ ap (λ b. b || is_done (keys_of (registers c)) k) (sym (done_append (keys_of (maps c)) (keys_of (lists c)) k))
    ∙ sym (done_append (keys_of (maps c) ++ keys_of (lists c)) (keys_of (registers c)) k))

-- ---- motives

abbrev pub OfElem : Context → List Id → Key → Answer → Type 0
OfElem c deps k (Cleared d s) = (b : Bool) → Tidy b c → TakesAway c d deps (in_key k) (in_key k) × ((i : Id) → has_id i s ≡ (has_id i (ids_at k c) && not (has_id i deps)))
OfElem c deps k _ = Unit {0}

abbrev pub OfAny : Context → List Id → Key → Answer → Type 0
OfAny c deps k (Cleared d s) = (b : Bool) → Tidy b c → TakesAway c d deps (below_key k) (in_key k) × AreIn s (ids_at k c)
OfAny c deps k _ = Unit {0}

abbrev pub OfClear : Context → List Id → Tagged → Answer → Type 0
OfClear c deps t (Cleared d s) = (b : Bool) → Tidy b c → TakesAway c d deps (in_tag t) (reg_tag t) × AreIn s (ids_at (key_of_tagged t) c)
OfClear c deps t _ = Unit {0}

abbrev pub OfMap : Context → List Id → List Key → Answer → Type 0
OfMap c deps done (Cleared d s) = (b : Bool) → Tidy b c → TakesAway c d deps (not_done done) (not_done done) × ((u : List Id) → Bounds u c → AreIn s u)
OfMap c deps done _ = Unit {0}

abbrev pub OfList : Context → List Id → Option Key → Answer → Type 0
OfList c deps None (Cleared d s) = TakesAway c d deps nowhere nowhere × (s ≡ [])
OfList c deps (Some k) (Cleared d s) = (b : Bool) → Tidy b c → (is : List Id) → LeadsThrough c k is → TakesAway c d deps (linked_from k is) (linked_from k is) × ((u : List Id) → Bounds u c → AreIn s u)
OfList c deps k _ = Unit {0}

abbrev pub OfPresence : Context → Key → Answer → Type 0
OfPresence c k (ToIds s) = s ≡ ids_at k c
OfPresence c k _ = Unit {0}

abbrev pub Motive : Judgement → Type 0
Motive (gives (Clear c deps t) a) = OfClear c deps t a
Motive (gives (ClearAny c deps k) a) = OfAny c deps k a
Motive (gives (ClearElem c deps k) a) = OfElem c deps k a
Motive (gives (ClearMap c deps done) a) = OfMap c deps done a
Motive (gives (ClearList c deps k) a) = OfList c deps k a
Motive (gives (Presence c k) a) = OfPresence c k a
Motive (gives (Operate c o) a) = OfOperate c o a
Motive (gives (Child c t) a) = OfChild c t a
Motive (gives (AddId c t i m) a) = OfAdd c t i m a
Motive _ = Unit {0}

-- ---- members

pub in_union : (i : Id) (s1 s2 u : List Id) → (has_id i s1 ≡ true → has_id i u ≡ true) → (has_id i s2 ≡ true → has_id i u ≡ true) → has_id i (union s1 s2) ≡ true → has_id i u ≡ true
in_union i s1 s2 u f g h = go (has_id i s1) refl (sym (has_id-union i s1 s2) ∙ h)
  where
    go : (x : Bool) → has_id i s1 ≡ x → (has_id i s1 || has_id i s2) ≡ true → has_id i u ≡ true
    go true e l = f e
    go false e l = g (rw e at l)

-- what stays was there
pub was_there : (c d : Context) (deps : List Id) (p r : List Tagged → Key → Bool) → TakesAway c d deps p r → (l : Key) (i : Id) → has_id i (ids_at l d) ≡ true → has_id i (ids_at l c) ≡ true
was_there c d deps p r k l i h = first_true (has_id i (ids_at l c)) (not (p [] l && has_id i deps)) (sym (k.ids [] l i) ∙ h)

-- ---- maps

more : (done : List Key) (k f : Key) → is_done done k ≡ false → (same_key k f || not (is_done (k ∷ done) f)) ≡ not (is_done done f)
more done k f e = go (same_key k f) refl
  where
    go : (b : Bool) → same_key k f ≡ b → (b || not (cond b true (is_done done f))) ≡ not (is_done done f)
    go true h = let g : is_done done f ≡ false = subst (λ q. is_done done q ≡ false) (keys_eq k f h) e in rw g refl
    go false h = refl

pub map_case : (r : Rule) (c : Context) (deps : List Id) (done : List Key) (a : Answer) (js : List Judgement) → Follows r (ClearMap c deps done) a js → All Motive js → OfMap c deps done a
map_case R.ClearMap2 c deps done a js (k, c1, s1, c2, s2, e, p, q) hs =
    let both : All Motive (gives (ClearElem c deps k) (Cleared c1 s1) ∷ gives (ClearMap c1 deps (k ∷ done)) (Cleared c2 s2) ∷ []) = subst (All Motive) p hs in
    let left : is_done done k ≡ false = least_some (keys c) done k e in
    let all : OfMap c deps done (Cleared c2 (union s1 s2)) = λ b t.
    let one = both.0 b t in
    let two = both.1.0 b (tidy_after b c c1 deps (in_key k) (in_key k) t one.0 (down_key k)) in (
      takes_both c c1 c2 deps (in_key k) (not_done (k ∷ done)) (not_done done) (in_key k) (not_done (k ∷ done)) (not_done done) one.0 two.0 (λ P l. more done k (first_key P l) left) (λ P l. more done k (first_key P l) left),
      λ u w i. in_union i s1 s2 u (λ x. w k i (first_true (has_id i (ids_at k c)) (not (has_id i deps)) (sym (one.1 i) ∙ x))) (two.1 u (λ l j x. w l j (was_there c c1 deps (in_key k) (in_key k) one.0 l j x)) i),
    )
    in subst (OfMap c deps done) (sym q) all
map_case R.ClearMap3 c deps done a js (e, p, q) hs =
    let all : OfMap c deps done (Cleared c []) = λ b t. (widen b c c deps nowhere nowhere (not_done done) (t []) (takes_none c deps) (λ P l h. let g : is_done done (first_key P l) ≡ true = least_none (keys c) done (first_key P l) e (sym (tagged_done (first_key P l) c) ∙ h) in (rw g refl, rw g refl)), λ u w i x. cc)
    in subst (OfMap c deps done) (sym q) all
map_case _ c deps done a js h hs = absurd h

-- ---- lists

abbrev to_or : Id → Next → Id
to_or i Tail = i
to_or i (To j) = j

same_To : (i j : Id) → To i ≡ To j → i ≡ j
same_To i j e = ap (to_or i) e

pub list_case : (r : Rule) (c : Context) (deps : List Id) (k : Option Key) (a : Answer) (js : List Judgement) → Follows r (ClearList c deps k) a js → All Motive js → OfList c deps k a
list_case R.ClearList2 c deps (Some k) a js (n, c1, s1, c2, s2, e, p, q) hs =
    let both : All Motive (gives (ClearElem c deps k) (Cleared c1 s1) ∷ gives (ClearList c1 deps (Table.after n)) (Cleared c2 s2) ∷ []) = subst (All Motive) p hs in
    let all : OfList c deps (Some k) (Cleared c2 (union s1 s2)) = λ b t is x. go n is e x both.1.0 (both.0 b t) b t in
    subst (OfList c deps (Some k)) (sym q) all
  where
    go : (n : Next) (is : List Id) → next k c ≡ Some n → LeadsThrough c k is → OfList c1 deps (Table.after n) (Cleared c2 s2) → TakesAway c c1 deps (in_key k) (in_key k) × ((i : Id) → has_id i s1 ≡ (has_id i (ids_at k c) && not (has_id i deps))) → (b : Bool) → Tidy b c
        → TakesAway c c2 deps (linked_from k is) (linked_from k is) × ((u : List Id) → Bounds u c → AreIn (union s1 s2) u)
    go Tail [] e x rest one b t = (
      takes_both c c1 c2 deps (in_key k) nowhere (linked_from k []) (in_key k) nowhere (linked_from k []) one.0 rest.0 (λ P l. or_cond (same_key k (first_key P l)) false) (λ P l. or_cond (same_key k (first_key P l)) false),
      λ u w i. in_union i s1 s2 u (λ y. w k i (first_true (has_id i (ids_at k c)) (not (has_id i deps)) (sym (one.1 i) ∙ y))) (λ y. let z : has_id i [] ≡ true = sym (ap (has_id i) rest.1) ∙ y in cc),
    )
    go (To j) (i ∷ is) e x rest one b t =
        let same : j ≡ i = same_To j i (same_Some (To j) (To i) (sym e ∙ x.0)) in
        let two = rest b (tidy_after b c c1 deps (in_key k) (in_key k) t one.0 (down_key k)) is (subst (λ q. LeadsThrough c1 (K.Elem q) is) (sym same) (leads_still c c1 (K.Elem i) is (one.0.links []) x.1)) in
        let two2 : TakesAway c1 c2 deps (linked_from (K.Elem i) is) (linked_from (K.Elem i) is) = subst (λ q. TakesAway c1 c2 deps (linked_from (K.Elem q) is) (linked_from (K.Elem q) is)) same two.0 in (
          takes_both c c1 c2 deps (in_key k) (linked_from (K.Elem i) is) (linked_from k (i ∷ is)) (in_key k) (linked_from (K.Elem i) is) (linked_from k (i ∷ is)) one.0 two2 (λ P l. or_cond (same_key k (first_key P l)) (linked_from (K.Elem i) is P l)) (λ P l. or_cond (same_key k (first_key P l)) (linked_from (K.Elem i) is P l)),
          λ u w i2. in_union i2 s1 s2 u (λ y. w k i2 (first_true (has_id i2 (ids_at k c)) (not (has_id i2 deps)) (sym (one.1 i2) ∙ y))) (two.1 u (λ l j2 y. w l j2 (was_there c c1 deps (in_key k) (in_key k) one.0 l j2 y)) i2),
        )
    go Tail (i ∷ is) e x rest one b t = let z : Tail ≡ To i = same_Some Tail (To i) (sym e ∙ x.0) in cc
    go (To j) [] e x rest one b t = let z : To j ≡ Tail = same_Some (To j) Tail (sym e ∙ x) in cc
list_case R.ClearList3 c deps None a js (p, q) hs = subst (OfList c deps None) (sym q) (takes_none c deps, refl)
list_case _ c deps k a js h hs = absurd h

-- ---- one tag

pub no_tag : (o : Option Content) → o ≡ None → is_some o ≡ false
no_tag None e = refl
no_tag (Some x) e = cc

pub same_bool : (x y a : Bool) → (y ≡ true → x ≡ false) → x ≡ (x && not (y && a))
same_bool false y a f = refl
same_bool true true a f = let e : true ≡ false = f refl in cc
same_bool true false a f = refl

pub same_value : (v : Option Value) (y a : Bool) → (y ≡ true → v ≡ None) → v ≡ cond (y && a) None v
same_value v false a f = refl
same_value v true false f = refl
same_value v true true f = f refl

pub none_takes : (c : Context) (deps : List Id) (t : Tagged) → has_tag t c ≡ false → TakesAway c c deps (in_tag t) (reg_tag t)
none_takes c deps t h = record { tags = λ P u. refl; ids = ids; values = values; links = λ P k. refl }
  where
    ids : (P : List Tagged) (k : Key) (i : Id) → has_id i (ids_at k (seen P c)) ≡ (has_id i (ids_at k (seen P c)) && not (in_tag t P k && has_id i deps))
    ids [] k i = and_true (has_id i (ids_at k c))
    ids (u ∷ P) k i = same_bool _ (same_tagged t u) (has_id i deps) (λ e. ap (has_id i) (ids_below_new u P k c (subst (λ q. has_tag q c ≡ false) (tags_eq t u e) h)))

    values : (P : List Tagged) (k : Key) (i : Id) → value_seen_at i k (seen P c) ≡ cond (reg_tag t P k && has_id i deps) None (value_seen_at i k (seen P c))
    values [] k i = same_value (value_seen_at i k c) (same_tagged t (RegT k)) (has_id i deps) (λ e. no_value k i c (subst (λ q. has_tag q c ≡ false) (tags_eq t (RegT k) e) h))
    values (u ∷ P) k i = same_value _ (same_tagged t u) (has_id i deps) (λ e. value_below_new u P k i c (subst (λ q. has_tag q c ≡ false) (tags_eq t u e) h))

-- below a register's tag nothing is seen
pub reg_ids : (k : Key) (u : Tagged) (P : List Tagged) (l : Key) (c : Context) → same_tagged (RegT k) u ≡ true → ids_at l (seen (u ∷ P) c) ≡ []
reg_ids k (MapT j) P l c h = cc
reg_ids k (ListT j) P l c h = cc
reg_ids k (RegT j) P l c h = ap (λ e. ids_at l (seen P e)) (below_reg j c) ∙ ids_empty P l

pub reg_value : (k : Key) (u : Tagged) (P : List Tagged) (l : Key) (i : Id) (c : Context) → same_tagged (RegT k) u ≡ true → value_seen_at i l (seen (u ∷ P) c) ≡ None
reg_value k (MapT j) P l i c h = cc
reg_value k (ListT j) P l i c h = cc
reg_value k (RegT j) P l i c h = ap (λ e. value_seen_at i l (seen P e)) (below_reg j c) ∙ value_empty P l i

pub reg_takes : (c : Context) (deps : List Id) (k : Key) (r : Register) → reg_at k c ≡ Some r → TakesAway c (with_content (RegT k) (Values (kept deps r)) c) deps (in_tag (RegT k)) (reg_tag (RegT k))
reg_takes c deps k r h = record { tags = tags; ids = ids; values = values; links = links }
  where
    d : Context
    d = with_content (RegT k) (Values (kept deps r)) c

    root : (u : Tagged) (c : Context) → reg_at k c ≡ Some r → has_tag u (with_content (RegT k) (Values (kept deps r)) c) ≡ has_tag u c
    root (MapT j) (context m l r p n) h = refl
    root (ListT j) (context m l r p n) h = refl
    root (RegT j) c h = ap (λ o. is_some (values_of o)) (values_reg k (kept deps r) c j) ∙ go (same_key j k) refl
      where
        go : (b : Bool) → same_key j k ≡ b → is_some (values_of (cond b (Some (kept deps r)) (reg_at j c))) ≡ is_some (values_of (reg_at j c))
        go true e = let g : reg_at j c ≡ Some r = subst (λ q. reg_at q c ≡ Some r) (sym (keys_eq j k e)) h in rw g refl
        go false e = refl

    tags : (P : List Tagged) (u : Tagged) → has_tag u (seen P d) ≡ has_tag u (seen P c)
    tags [] u = root u c h
    tags (t ∷ P) u = ap (has_tag u) (values_seen k (kept deps r) t P c)

    ids : (P : List Tagged) (l : Key) (i : Id) → has_id i (ids_at l (seen P d)) ≡ (has_id i (ids_at l (seen P c)) && not (in_tag (RegT k) P l && has_id i deps))
    ids [] l i = ap (has_id i) (values_ids k (kept deps r) c l) ∙ and_true (has_id i (ids_at l c))
    ids (u ∷ P) l i = ap (λ e. has_id i (ids_at l e)) (values_seen k (kept deps r) u P c) ∙ same_bool _ (same_tagged (RegT k) u) (has_id i deps) (λ e. ap (has_id i) (reg_ids k u P l c e))

    values : (P : List Tagged) (l : Key) (i : Id) → value_seen_at i l (seen P d) ≡ cond (reg_tag (RegT k) P l && has_id i deps) None (value_seen_at i l (seen P c))
    values [] l i = ap (value_in_some i) (values_reg k (kept deps r) c l) ∙ rw (keys_back l k) (go (same_key k l) refl)
      where
        go : (b : Bool) → same_key k l ≡ b → value_in_some i (cond b (Some (kept deps r)) (reg_at l c)) ≡ cond (b && has_id i deps) None (value_seen_at i l c)
        go true e = let g : reg_at l c ≡ Some r = subst (λ q. reg_at q c ≡ Some r) (keys_eq k l e) h in find_kept i deps r ∙ rw g refl
        go false e = refl
    values (u ∷ P) l i = ap (value_seen_at i l) (values_seen k (kept deps r) u P c) ∙ same_value _ (same_tagged (RegT k) u) (has_id i deps) (λ e. reg_value k u P l i c e)

    links : (P : List Tagged) (l : Key) → next l (seen P d) ≡ next l (seen P c)
    links [] l = values_next k (kept deps r) c l
    links (u ∷ P) l = ap (next l) (values_seen k (kept deps r) u P c)

never_reg : (t : Tagged) (l : Key) → is_node_tag t ≡ true → same_tagged t (RegT l) ≡ false
never_reg (MapT k) l h = refl
never_reg (ListT k) l h = refl
never_reg (RegT k) l h = cc

-- all that is in a node
pub child_takes : (t : Tagged) (c d e : Context) (deps : List Id) → is_node_tag t ≡ true → content t c ≡ Some (Node d) → TakesAway d e deps everywhere everywhere → TakesAway c (with_content t (Node e) c) deps (in_tag t) (reg_tag t)
child_takes t c d e deps n there k = record { tags = tags; ids = ids; values = values; links = links }
  where
    c2 : Context
    c2 = with_content t (Node e) c

    -- g true for what is in the node, g false for what isn't
    below : {X : Type 0} (f : Context → X) (g : Bool → X → X) (u : Tagged) (P : List Tagged) → f (seen P e) ≡ g true (f (seen P d)) → f (seen (u ∷ P) c) ≡ g false (f (seen (u ∷ P) c)) → f (seen (u ∷ P) c2) ≡ g (same_tagged t u) (f (seen (u ∷ P) c))
    below f g u P h out = ap f (seen_with_node t u P e c n) ∙ rw (tags_back t u) (go (same_tagged u t) refl)
      where
        go : (b : Bool) → same_tagged u t ≡ b → f (cond b (seen P e) (seen (u ∷ P) c)) ≡ g b (f (seen (u ∷ P) c))
        go true x =
            let s : u ≡ t = tags_eq u t x in
            let w : context_or_new (content u c) u ≡ d = ap (λ q. context_or_new (content q c) q) s ∙ ap (λ o. context_or_new o t) there in
            h ∙ ap (λ q. g true (f (seen P q))) (sym w)
        go false x = out

    tags : (P : List Tagged) (u : Tagged) → has_tag u (seen P c2) ≡ has_tag u (seen P c)
    tags [] u = ap is_some (content_with_node t u e c n) ∙ go (same_tagged u t) refl
      where
        go : (b : Bool) → same_tagged u t ≡ b → is_some (cond b (Some (Node e)) (content u c)) ≡ has_tag u c
        go true x = let s : has_tag u c ≡ true = ap (λ q. has_tag q c) (tags_eq u t x) ∙ ap is_some there in sym s
        go false x = refl
    tags (v ∷ P) u = below (has_tag u) (λ y b. b) v P (k.tags P u) refl

    ids : (P : List Tagged) (l : Key) (i : Id) → has_id i (ids_at l (seen P c2)) ≡ (has_id i (ids_at l (seen P c)) && not (in_tag t P l && has_id i deps))
    ids [] l i = ap (has_id i) (node_ids t e c l) ∙ and_true (has_id i (ids_at l c))
    ids (u ∷ P) l i = below (λ q. has_id i (ids_at l q)) (λ y b. b && not (y && has_id i deps)) u P (k.ids P l i) (and_true (has_id i (ids_at l (seen (u ∷ P) c))))

    values : (P : List Tagged) (l : Key) (i : Id) → value_seen_at i l (seen P c2) ≡ cond (reg_tag t P l && has_id i deps) None (value_seen_at i l (seen P c))
    values [] l i = node_value t e c l i ∙ same_value (value_seen_at i l c) (same_tagged t (RegT l)) (has_id i deps) (λ x. let z : true ≡ false = sym x ∙ never_reg t l n in cc)
    values (u ∷ P) l i = below (value_seen_at i l) (λ y v. cond (y && has_id i deps) None v) u P (k.values P l i) refl

    links : (P : List Tagged) (l : Key) → next l (seen P c2) ≡ next l (seen P c)
    links [] l = node_next t e c l
    links (u ∷ P) l = below (next l) (λ y b. b) u P (k.links P l) refl
