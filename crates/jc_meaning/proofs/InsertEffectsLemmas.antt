-- About Effects: what an operation changes, the cases of inserts, and the law over all derivations.
use Rattle.std.proofs.Common.{◌≡◌, List, [], ◌∷◌, Bool, true, false, not, ◌||◌, ◌&&◌, cond, Option, Some, None, is_some, inl, inr, refl, sym, ◌∙◌, ap, subst}
use Rattle.std.specs.declared.cmp.Ordering.TheVariants.{Less}
use Rattle.jc_rules.specs.declared.id.Id.{Id}
use Rattle.jc_rules.specs.declared.key.Key.{Key}
use Rattle.jc_rules.specs.declared.key.Key.TheVariants as K
use Rattle.jc_rules.specs.declared.key.Next.{Next}
use Rattle.jc_rules.specs.declared.key.Next.TheVariants.{Tail, Elem as To}
use Rattle.jc_rules.specs.declared.key.Tagged.{Tagged}
use Rattle.jc_rules.specs.declared.key.Tagged.TheVariants.{MapT, ListT, RegT}
use Rattle.jc_rules.specs.declared.operation.Op.{Op}
use Rattle.jc_rules.specs.declared.operation.Mutation.{Mutation}
use Rattle.jc_rules.specs.declared.operation.Mutation.TheVariants as M
use Rattle.jc_rules.specs.declared.value.Value.{Value}
use Rattle.jc_rules.specs.declared.value.Value.TheVariants as V
use Rattle.jc_rules.specs.Order.{id_cmp, same_id, same_key}
use Rattle.jc_rules.specs.Entries.{put}
use Rattle.jc_rules.specs.Ids.{has_id, with_id}
use Rattle.jc_rules.specs.Context.{Context, context, Node, Values, content, with_content, with_presence, next, with_next, key_of_tagged, IsPrimitive}
use Rattle.jc_rules.specs.declared.rule.Rule.{Rule}
use Rattle.jc_rules.specs.declared.rule.Rule.TheVariants as R
use Rattle.jc_rules.specs.Derivation.{Question, Operate, Child, AddId, Presence, Clear, ClearAny, ClearElem, ClearMap, ClearList, Answer, ToContext, ToContent, ToIds, Cleared, Judgement, gives}
use Rattle.jc_rules.specs.Table.{Follows, moved, IsBefore}
use Rattle.jc_rules.proofs.OrderLemmas.{keys_total, exact_keys}
use Rattle.jc_rules.proofs.EntriesLemmas.{find-put}
use Rattle.jc_meaning.specs.Effects.{same_tagged, same_path, is_at_or_above, is_delete, is_insert, is_clearing, primitive, is_made_by, passed, is_list_tag}
use Rattle.jc_meaning.specs.Seen.{context_or_new, seen, ids_at, value_seen_at, has_tag}
use Rattle.jc_meaning.specs.Forest.{follow}
use Rattle.jc_meaning.proofs.ChainLemmas.{after, key_in}
use Rattle.jc_meaning.proofs.InsertWalkLemmas.{Distinct, walked, StopsAt, linked}
use Rattle.jc_meaning.proofs.InductionLemmas.{All, by_rules}
use Rattle.jc_meaning.proofs.OperationActsLemmas.{touched, cleared, written, overwritten, or_else, Changes, Fresh, OfOperate, OfChild, OfAdd}
use Rattle.jc_rules.specs.Refused.{IsAnswered}
use Rattle.jc_meaning.proofs.ClearingEffectsInductionLemmas.{OfElem, Motive, map_case, list_case}
use Rattle.jc_meaning.proofs.ClearingEffectsLawLemmas.{clear_case, any_case, elem_case, presence_case}
use Rattle.jc_meaning.proofs.OperationEffectsInductionLemmas.{child_seen, descends}
use Rattle.jc_meaning.proofs.OperationEffectsLemmas.{the_value, deletes, makes_node, assigns}
use Rattle.jc_meaning.specs.ClearingEffects.{Tidy, TakesAway, in_key}
use Rattle.jc_meaning.proofs.OrdersLemmas.{keys_back}
use Rattle.jc_meaning.proofs.TagsLemmas.{tags_self}

pub next_seen : (k : Key) (x : Next) (u : Tagged) (P : List Tagged) (c : Context) → seen (u ∷ P) (with_next k x c) ≡ seen (u ∷ P) c
next_seen k x (MapT j) P (context m l r p n) = refl
next_seen k x (ListT j) P (context m l r p n) = refl
next_seen k x (RegT j) P (context m l r p n) = refl

next_tag : (k : Key) (x : Next) (u : Tagged) (c : Context) → content u (with_next k x c) ≡ content u c
next_tag k x (MapT j) (context m l r p n) = refl
next_tag k x (ListT j) (context m l r p n) = refl
next_tag k x (RegT j) (context m l r p n) = refl

pub next_ids : (k : Key) (x : Next) (c : Context) (l : Key) → ids_at l (with_next k x c) ≡ ids_at l c
next_ids k x (context m l2 r p n) l = refl

pub next_value : (k : Key) (x : Next) (c : Context) (l : Key) (j : Id) → value_seen_at j l (with_next k x c) ≡ value_seen_at j l c
next_value k x (context m l2 r p n) l j = refl

pub next_next : (k : Key) (x : Next) (c : Context) (l : Key) → next l (with_next k x c) ≡ cond (same_key l k) (Some x) (next l c)
next_next k x (context m l2 r p n) l = find-put keys_total exact_keys l k x n

-- INSERT1
pub inserts_here : (i : Id) (deps : List Id) (last : Key) (v : Value) (x : Next) (c d : Context) → next last c ≡ Some x → IsBefore x i → Fresh i [] c → Changes i deps [] (K.Elem i) (M.Assign v) c d → Changes i deps [] last (M.Insert v) c (with_next (K.Elem i) x (with_next last (To i) d))
inserts_here i deps last v x c d link before fresh k = record { tags = tags; ids = ids; values = values; links = λ y. cc; elsewhere = elsewhere; linked = λ y. links }
  where
    e : Context
    e = with_next (K.Elem i) x (with_next last (To i) d)

    down : (u : Tagged) (P : List Tagged) → seen (u ∷ P) e ≡ seen (u ∷ P) d
    down u P = next_seen (K.Elem i) x u P (with_next last (To i) d) ∙ next_seen last (To i) u P d

    tags : (P : List Tagged) (u : Tagged) → has_tag u (seen P e) ≡ (has_tag u (seen P c) || passed [] (K.Elem i) (Some v) P u)
    tags [] u = ap is_some (next_tag (K.Elem i) x u (with_next last (To i) d) ∙ next_tag last (To i) u d) ∙ k.tags [] u
    tags (s ∷ P) u = ap (has_tag u) (down s P) ∙ k.tags (s ∷ P) u

    seen_ids : (P : List Tagged) (l : Key) → ids_at l (seen P e) ≡ ids_at l (seen P d)
    seen_ids [] l = next_ids (K.Elem i) x (with_next last (To i) d) l ∙ next_ids last (To i) d l
    seen_ids (u ∷ P) l = ap (ids_at l) (down u P)

    seen_value : (P : List Tagged) (l : Key) (j : Id) → value_seen_at j l (seen P e) ≡ value_seen_at j l (seen P d)
    seen_value [] l j = next_value (K.Elem i) x (with_next last (To i) d) l j ∙ next_value last (To i) d l j
    seen_value (u ∷ P) l j = ap (value_seen_at j l) (down u P)

    same_ids : (y m b z : Bool) → (b ≡ true → y ≡ false) → (y && not ((m && b) && z)) ≡ (y && not ((false && b) && z))
    same_ids false m b z f = refl
    same_ids true m true z f = let q : true ≡ false = f refl in cc
    same_ids true true false z f = refl
    same_ids true false false z f = refl

    ids : (P : List Tagged) (l : Key) (j : Id) → has_id j (ids_at l (seen P e)) ≡ ((same_id j i && touched [] (K.Elem i) (M.Insert v) P l) || (has_id j (ids_at l (seen P c)) && not (cleared [] (K.Elem i) (M.Insert v) P l && has_id j deps)))
    ids P l j = ap (has_id j) (seen_ids P l) ∙ k.ids P l j ∙ ap (λ y. (same_id j i && (true && is_at_or_above P l [] (K.Elem i))) || y) (same_ids (has_id j (ids_at l (seen P c))) (is_clearing (M.Assign v)) (is_at_or_above [] (K.Elem i) P l) (has_id j deps) (λ h. let f = fresh P l j h in f.0))

    at_it : (P : List Tagged) (l : Key) → (same_path [] P && same_key (K.Elem i) l) ≡ true → is_at_or_above [] (K.Elem i) P l ≡ true
    at_it [] l h = h
    at_it (u ∷ P) l h = cc

    same_values : (w q : Option Value) (m a b z : Bool) → (a ≡ true → w ≡ None) → (b ≡ true → w ≡ None) → cond (((m && a) || (true && is_some (the_value (cond b q None)))) && z) None w ≡ cond (((false && a) || (false && is_some (the_value (cond b q None)))) && z) None w
    same_values w q m true b z f g = none w (((m && true) || (true && is_some (the_value (cond b q None)))) && z) (f refl)
      where
        none : (w : Option Value) (y : Bool) → w ≡ None → cond y None w ≡ w
        none None true h = refl
        none None false h = refl
        none (Some w) y h = cc
    same_values w q m false true z f g = none w (((m && false) || (true && is_some (the_value q))) && z) (g refl)
      where
        none : (w : Option Value) (y : Bool) → w ≡ None → cond y None w ≡ w
        none None true h = refl
        none None false h = refl
        none (Some w) y h = cc
    same_values w q true false false z f g = refl
    same_values w q false false false z f g = refl

    values : (P : List Tagged) (l : Key) (j : Id) → value_seen_at j l (seen P e) ≡ or_else (cond (same_id j i) (written [] (K.Elem i) (M.Insert v) P l) None) (cond ((cleared [] (K.Elem i) (M.Insert v) P l || overwritten [] (K.Elem i) (M.Insert v) P l) && has_id j deps) None (value_seen_at j l (seen P c)))
    values P l j = seen_value P l j ∙ k.values P l j ∙ ap (or_else (cond (same_id j i) (written [] (K.Elem i) (M.Insert v) P l) None)) (same_values (value_seen_at j l (seen P c)) (primitive v) (is_clearing (M.Assign v)) (is_at_or_above [] (K.Elem i) P l) (same_path [] P && same_key (K.Elem i) l) (has_id j deps) (λ h. let f = fresh P l j h in f.1) (λ h. let f = fresh P l j (at_it P l h) in f.1))

    elsewhere : (P : List Tagged) (l : Key) → same_path [] P ≡ false → next l (seen P e) ≡ next l (seen P c)
    elsewhere [] l h = cc
    elsewhere (u ∷ P) l h = ap (next l) (down u P) ∙ k.elsewhere (u ∷ P) l h

    stops : (x : Next) → IsBefore x i → StopsAt i x
    stops Tail h = tt
    stops (To m) h = rw h refl

    links : (ns : List Id) → Distinct K.Head ns → key_in (K.Elem i) ns ≡ false → ((l : Key) → next l c ≡ follow K.Head ns l) → (l : Key) → next l e ≡ follow K.Head (after last i K.Head ns) l
    links ns a out h l =
        next_next (K.Elem i) x (with_next last (To i) d) l ∙ ap (cond (same_key l (K.Elem i)) (Some x)) (next_next last (To i) d l ∙ ap (cond (same_key l last) (Some (To i))) (k.links refl [] l ∙ h l))
        ∙ rw (keys_back l (K.Elem i), keys_back l last) (sym (linked last i K.Head ns x a refl out (sym (h last) ∙ link) (stops x before) l))

-- INSERT2: nothing but the links depends on the key that is named
pub inserts_later : (i : Id) (deps : List Id) (last : Key) (n : Id) (v : Value) (c d : Context) → next last c ≡ Some (To n) → id_cmp i n ≡ Less → Changes i deps [] (K.Elem n) (M.Insert v) c d → Changes i deps [] last (M.Insert v) c d
inserts_later i deps last n v c d link less k = record { tags = k.tags; ids = k.ids; values = k.values; links = λ y. cc; elsewhere = k.elsewhere; linked = λ y ns a out h l. k.linked refl ns a out h l ∙ ap (λ q. follow K.Head q l) (sym (walked last i n K.Head ns a (sym (h last) ∙ link) (rw less refl))) }

-- ---- the cases

told : (o : Op) (path : List Tagged) (m : Mutation) (c d : Context) → o.cursor.path ≡ path → o.mutation ≡ m → Changes o.id o.deps path o.cursor.last m c d → Changes o.id o.deps o.cursor.path o.cursor.last o.mutation c d
told o path m c d e f g = subst (λ p. Changes o.id o.deps p o.cursor.last o.mutation c d) (sym e) (subst (λ n. Changes o.id o.deps path o.cursor.last n c d) (sym f) g)

prim_value : (v : Value) → IsPrimitive v → primitive v ≡ Some v
prim_value V.EmptyMap h = absurd h
prim_value V.EmptyList h = absurd h
prim_value _ h = refl

prim_clears : (v : Value) → IsPrimitive v → is_clearing (M.Assign v) ≡ false
prim_clears V.EmptyMap h = absurd h
prim_clears V.EmptyList h = absurd h
prim_clears _ h = refl

prim_made : (v : Value) (k : Key) (u : Tagged) → IsPrimitive v → is_made_by (Some v) k u ≡ same_tagged (RegT k) u
prim_made V.EmptyMap k u h = absurd h
prim_made V.EmptyList k u h = absurd h
prim_made _ k u h = refl

fresh_child : (i : Id) (t : Tagged) (rest : List Tagged) (c : Context) → Fresh i (t ∷ rest) c → Fresh i rest (context_or_new (content t c) t)
fresh_child i t rest c f P l j h = f (t ∷ P) l j (rw (tags_self t, h) refl)

operate_case : (r : Rule) (c : Context) (o : Op) (a : Answer) (js : List Judgement) → Follows r (Operate c o) a js → All Motive js → OfOperate c o a
operate_case R.Descend c o a js (t, rest, d, e, c2, path, p, q) hs =
    let hs2 : All Motive (gives (Child c t) (ToContent (Node d)) ∷ gives (Operate d (moved o rest o.cursor.last o.mutation)) (ToContext e) ∷ gives (AddId c t o.id o.mutation) (ToContext c2) ∷ []) = subst (All Motive) p hs in
    let there : context_or_new (content t c) t ≡ d = child_seen t c d hs2.0 in
    let all : OfOperate c o (ToContext (with_content t (Node e) c2)) = λ b tidy fresh.
    let inner = hs2.1.0 (is_list_tag t) (subst (Tidy (is_list_tag t)) there (λ P. tidy (t ∷ P))) (λ is. subst (Fresh o.id rest) there (fresh_child o.id t rest c (subst (λ y. Fresh o.id y c) path (fresh is)))) in
    told o (t ∷ rest) o.mutation c (with_content t (Node e) c2) path refl (descends o.id o.deps t rest o.cursor.last o.mutation c d e c2 hs2.0 inner hs2.1.1.0)
    in subst (OfOperate c o) (sym q) all
operate_case R.Assign c o a js (v, c1, s, c2, r, path, m, prim, p, q) hs =
    let hs2 : All Motive (gives (Clear c o.deps (RegT o.cursor.last)) (Cleared c1 s) ∷ gives (AddId c1 (RegT o.cursor.last) o.id o.mutation) (ToContext c2) ∷ gives (Child c2 (RegT o.cursor.last)) (ToContent (Values r)) ∷ []) = subst (All Motive) p hs in
    let all : OfOperate c o (ToContext (with_content (RegT o.cursor.last) (Values (put id_cmp o.id v r)) c2)) = λ b tidy fresh.
    let k = hs2.0 b tidy in
    told o [] (M.Assign v) c (with_content (RegT o.cursor.last) (Values (put id_cmp o.id v r)) c2) path m (assigns o.id o.deps o.cursor.last v c c1 c2 r (prim_value v prim) (prim_clears v prim) (λ u. prim_made v o.cursor.last u prim) k.0 (subst (λ y. OfAdd c1 (RegT o.cursor.last) o.id y (ToContext c2)) m hs2.1.0) hs2.1.1.0)
    in subst (OfOperate c o) (sym q) all
operate_case R.EmptyMap c o a js (c1, s, c2, x, path, m, p, q) hs =
    let hs2 : All Motive (gives (ClearElem c o.deps o.cursor.last) (Cleared c1 s) ∷ gives (AddId c1 (MapT o.cursor.last) o.id o.mutation) (ToContext c2) ∷ gives (Child c2 (MapT o.cursor.last)) (ToContent x) ∷ []) = subst (All Motive) p hs in
    let all : OfOperate c o (ToContext (with_content (MapT o.cursor.last) x c2)) = λ b tidy fresh.
    let k = hs2.0 b tidy in
    told o [] (M.Assign V.EmptyMap) c (with_content (MapT o.cursor.last) x c2) path m (makes_node o.id o.deps (MapT o.cursor.last) V.EmptyMap c c1 c2 x refl refl refl (λ u. refl) k.0 (subst (λ y. OfAdd c1 (MapT o.cursor.last) o.id y (ToContext c2)) m hs2.1.0) hs2.1.1.0)
    in subst (OfOperate c o) (sym q) all
operate_case R.EmptyList c o a js (c1, s, c2, x, path, m, p, q) hs =
    let hs2 : All Motive (gives (ClearElem c o.deps o.cursor.last) (Cleared c1 s) ∷ gives (AddId c1 (ListT o.cursor.last) o.id o.mutation) (ToContext c2) ∷ gives (Child c2 (ListT o.cursor.last)) (ToContent x) ∷ []) = subst (All Motive) p hs in
    let all : OfOperate c o (ToContext (with_content (ListT o.cursor.last) x c2)) = λ b tidy fresh.
    let k = hs2.0 b tidy in
    told o [] (M.Assign V.EmptyList) c (with_content (ListT o.cursor.last) x c2) path m (makes_node o.id o.deps (ListT o.cursor.last) V.EmptyList c c1 c2 x refl refl refl (λ u. refl) k.0 (subst (λ y. OfAdd c1 (ListT o.cursor.last) o.id y (ToContext c2)) m hs2.1.0) hs2.1.1.0)
    in subst (OfOperate c o) (sym q) all
operate_case R.Insert1 c o a js (v, n, d, path, m, link, before, p, q) hs =
    let hs2 : All Motive (gives (Operate c (moved o [] (K.Elem o.id) (M.Assign v))) (ToContext d) ∷ []) = subst (All Motive) p hs in
    let e : Context = with_next (K.Elem o.id) n (with_next o.cursor.last (To o.id) d) in
    let all : OfOperate c o (ToContext e) = λ b tidy fresh.
    told o [] (M.Insert v) c e path m (inserts_here o.id o.deps o.cursor.last v n c d link before (subst (λ y. Fresh o.id y c) path (fresh (rw m refl))) (hs2.0 b tidy (λ y. cc)))
    in subst (OfOperate c o) (sym q) all
operate_case R.Insert2 c o a js (v, n, d, path, m, link, less, p, q) hs =
    let hs2 : All Motive (gives (Operate c (moved o [] (K.Elem n) o.mutation)) (ToContext d) ∷ []) = subst (All Motive) p hs in
    let all : OfOperate c o (ToContext d) = λ b tidy fresh.
    let k : Changes o.id o.deps [] (K.Elem n) o.mutation c d = hs2.0 b tidy (λ is. subst (λ y. Fresh o.id y c) path (fresh is)) in
    told o [] (M.Insert v) c d path m (inserts_later o.id o.deps o.cursor.last n v c d link less (subst (λ y. Changes o.id o.deps [] (K.Elem n) y c d) m k))
    in subst (OfOperate c o) (sym q) all
operate_case R.Delete c o a js (d, s, path, m, p, q) hs =
    let hs2 : All Motive (gives (ClearElem c o.deps o.cursor.last) (Cleared d s) ∷ []) = subst (All Motive) p hs in
    let all : OfOperate c o (ToContext d) = λ b tidy fresh. let k = hs2.0 b tidy in told o [] M.Delete c d path m (deletes o.id o.deps o.cursor.last c d k.0)
    in subst (OfOperate c o) (sym q) all
operate_case _ c o a js h hs = absurd h

child_case : (r : Rule) (c : Context) (t : Tagged) (a : Answer) (js : List Judgement) → Follows r (Child c t) a js → OfChild c t a
child_case R.ChildGet c t a js (x, e, p, q) = subst (OfChild c t) (sym q) (inl e)
child_case R.ChildMap c (MapT k) a js (e, p, q) = subst (OfChild c (MapT k)) (sym q) (inr (e, refl))
child_case R.ChildList c (ListT k) a js (e, p, q) = subst (OfChild c (ListT k)) (sym q) (inr (e, refl))
child_case R.ChildReg c (RegT k) a js (e, p, q) = subst (OfChild c (RegT k)) (sym q) (inr (e, refl))
child_case _ c t a js h = absurd h

add_case : (r : Rule) (c : Context) (t : Tagged) (i : Id) (m : Mutation) (a : Answer) (js : List Judgement) → Follows r (AddId c t i m) a js → All Motive js → OfAdd c t i m a
add_case R.AddId1 c t i m a js (s, e, p, q) hs =
    let hs2 : All Motive (gives (Presence c (key_of_tagged t)) (ToIds s) ∷ []) = subst (All Motive) p hs in
    subst (OfAdd c t i m) (sym q) (λ h. absurd (e (delete_is m h)), λ h. ap (λ y. with_presence (key_of_tagged t) (with_id i y) c) hs2.0)
  where
    delete_is : (m : Mutation) → is_delete m ≡ true → m ≡ M.Delete
    delete_is M.Delete h = refl
    delete_is (M.Assign v) h = cc
    delete_is (M.Insert v) h = cc
add_case R.AddId2 c t i m a js (e, p, q) hs = subst (OfAdd c t i m) (sym q) (λ h. refl, λ h. let z : true ≡ false = sym (ap is_delete e) ∙ h in cc)
add_case _ c t i m a js h hs = absurd h

step : (r : Rule) (q : Question) (a : Answer) (js : List Judgement) → Follows r q a js → All Motive js → Motive (gives q a)
step r (Clear c deps t) a js h hs = clear_case r c deps t a js h hs
step r (ClearAny c deps k) a js h hs = any_case r c deps k a js h hs
step r (ClearElem c deps k) a js h hs = elem_case r c deps k a js h hs
step r (ClearMap c deps done) a js h hs = map_case r c deps done a js h hs
step r (ClearList c deps k) a js h hs = list_case r c deps k a js h hs
step r (Presence c k) a js h hs = presence_case r c k a js h
step r (Operate c o) a js h hs = operate_case r c o a js h hs
step r (Child c t) a js h hs = child_case r c t a js h
step r (AddId c t i m) a js h hs = add_case r c t i m a js h hs
step r _ a js h hs = tt

-- A derivation that clears a key takes exactly the deps from the presences and registers at the key and below it; tags, links and all else stay as they are seen.
pub clears_elem : (b : Bool) (c d : Context) (deps s : List Id) (k : Key) → Tidy b c → IsAnswered (ClearElem c deps k) (Cleared d s) → TakesAway c d deps (in_key k) (in_key k) × ((i : Id) → has_id i s ≡ (has_id i (ids_at k c) && not (has_id i deps)))
clears_elem b c d deps s k t x = let m : OfElem c deps k (Cleared d s) = subst Motive x.concludes (by_rules Motive step x.derivation x.holds) in m b t

-- A derivation of an operation changes what is seen as `Changes` says.
pub operation_changes : (b : Bool) (c d : Context) (o : Op) → Tidy b c → (is_insert o.mutation ≡ true → Fresh o.id o.cursor.path c) → IsAnswered (Operate c o) (ToContext d) → Changes o.id o.deps o.cursor.path o.cursor.last o.mutation c d
operation_changes b c d o t f x = let m : OfOperate c o (ToContext d) = subst Motive x.concludes (by_rules Motive step x.derivation x.holds) in m b t f
