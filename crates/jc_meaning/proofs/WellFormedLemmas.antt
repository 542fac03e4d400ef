-- Derivations leave trees well-formed: entries are sorted, and registers hold primitive values. `RunsLemmas` uses it.
use Rattle.std.proofs.Common.{◌≡◌, List, [], ◌∷◌, Option, Some, None, not, sym, ap, subst}
use Rattle.std.proofs.lemmas.Option.{same_Some}
use Rattle.jc_rules.specs.declared.id.Id.{Id}
use Rattle.jc_rules.specs.declared.key.Key.{Key}
use Rattle.jc_rules.specs.declared.key.Key.TheVariants as K
use Rattle.jc_rules.specs.declared.key.Next.{Next}
use Rattle.jc_rules.specs.declared.key.Next.TheVariants.{Elem as To}
use Rattle.jc_rules.specs.declared.key.Tagged.{Tagged}
use Rattle.jc_rules.specs.declared.key.Tagged.TheVariants.{MapT, ListT, RegT}
use Rattle.jc_rules.specs.declared.operation.Op.{Op}
use Rattle.jc_rules.specs.declared.operation.Mutation.{Mutation}
use Rattle.jc_rules.specs.declared.operation.Mutation.TheVariants as M
use Rattle.jc_rules.specs.declared.rule.Rule.{Rule}
use Rattle.jc_rules.specs.declared.rule.Rule.TheVariants as R
use Rattle.jc_rules.specs.declared.value.Value.{Value}
use Rattle.jc_rules.specs.Order.{key_cmp, id_cmp}
use Rattle.jc_rules.specs.Entries.{find, put}
use Rattle.jc_rules.specs.Ids.{AreRising, has_id, with_id, union, without}
use Rattle.jc_rules.specs.Context.{Context, context, listed, Register, IsPrimitive, Content, Node, Values, node_of, values_of, maps, lists, content, with_content, with_next, key_of_tagged}
use Rattle.jc_rules.specs.Derivation.{Question, Operate, Child, AddId, Presence, Clear, ClearAny, ClearElem, ClearMap, ClearList, Answer, ToContext, ToContent, ToIds, Cleared, Judgement, gives}
use Rattle.jc_rules.specs.Refused.{IsAnswered}
use Rattle.jc_rules.specs.WellFormed.{IsWellFormedContext, IsWellFormedRegister}
use Rattle.jc_rules.specs.Table as Table
use Rattle.jc_rules.specs.Table.{Follows, moved, kept}
use Rattle.jc_rules.proofs.OrderLemmas.{keys_total, exact_keys, ids_total, exact_ids}
use Rattle.jc_rules.proofs.EntriesLemmas.{rising-put, values-put, value-found}
use Rattle.jc_rules.proofs.IdsLemmas.{with-rises, union-rises, without-rises}
use Rattle.jc_rules.proofs.ContextsAtLemmas.{listed_children}
use Rattle.jc_tree.proofs.WellFormedLemmas.{kept-content, kept-put, kept-presence, rising}
use Rattle.jc_tree.proofs.RegistersLemmas.{primitive_kept}
use Rattle.jc_meaning.proofs.InductionLemmas.{All, by_rules}
use Rattle.jc_meaning.proofs.SameKeysLemmas.{filter_rises}

-- ---- writes

-- what stands under a tagged key
abbrev KeptContent : Content → Type 0
KeptContent (Node d) = IsWellFormedContext d
KeptContent (Values v) = IsWellFormedRegister v

kept_with : (t : Tagged) (x : Content) (c : Context) → IsWellFormedContext c → KeptContent x → IsWellFormedContext (with_content t x c)
kept_with (MapT k) (Node d) (context m l r p n) h g = rw listed_children (rising-put keys_total exact_keys k d (listed m) h.0, h.1, h.2, h.3, h.4, h.5, h.6, kept-put k d m h.7 g, h.8)
kept_with (ListT k) (Node d) (context m l r p n) h g = rw listed_children (h.0, rising-put keys_total exact_keys k d (listed l) h.1, h.2, h.3, h.4, h.5, h.6, h.7, kept-put k d l h.8 g)
kept_with (RegT k) (Values v) (context m l r p n) h g = (h.0, h.1, rising-put keys_total exact_keys k v r h.2, h.3, h.4, values-put keys_total exact_keys IsWellFormedRegister k v r g h.5, h.6, h.7, h.8)
kept_with (MapT k) (Values v) c h g = h
kept_with (ListT k) (Values v) c h g = h
kept_with (RegT k) (Node d) c h g = h

kept_next : (k : Key) (x : Next) (c : Context) → IsWellFormedContext c → IsWellFormedContext (with_next k x c)
kept_next k x (context m l r p n) h = (h.0, h.1, h.2, h.3, rising-put keys_total exact_keys k x n h.4, h.5, h.6, h.7, h.8)

-- ---- reads

values_found : (k : Key) (v : Register) (o : Option Register) → values_of o ≡ Some (Values v) → o ≡ Some v
values_found k v None e = cc
values_found k v (Some w) e = ap Some (same_values w v (same_Some (Values w) (Values v) e))
  where
    register_of : Content → Register → Register
    register_of (Values x) y = x
    register_of (Node d) y = y

    same_values : (x y : Register) → Values x ≡ Values y → x ≡ y
    same_values x y f = ap (λ z. register_of z x) f

kept_register : (k : Key) (v : Register) (c : Context) → IsWellFormedContext c → content (RegT k) c ≡ Some (Values v) → IsWellFormedRegister v
kept_register k v (context m l r p n) h e = value-found keys_total exact_keys IsWellFormedRegister k v r h.5 (values_found k v (find key_cmp k r) e)

no_values : {A : Type 0} (v : Register) (o : Option Context) → node_of o ≡ Some (Values v) → A
no_values v None e = cc
no_values v (Some d) e = let f : Node d ≡ Values v = same_Some (Node d) (Values v) e in cc

kept_found : (t : Tagged) (x : Content) (c : Context) → IsWellFormedContext c → content t c ≡ Some x → KeptContent x
kept_found t (Node d) c h e = kept-content t c d h e
kept_found (RegT k) (Values v) c h e = kept_register k v c h e
kept_found (MapT k) (Values v) c h e = no_values v (find key_cmp k (maps c)) e
kept_found (ListT k) (Values v) c h e = no_values v (find key_cmp k (lists c)) e

-- ---- motives

abbrev OfOperate : Context → Answer → Type 0
OfOperate c (ToContext d) = IsWellFormedContext c → IsWellFormedContext d
OfOperate c _ = Unit {0}

abbrev OfChild : Context → Answer → Type 0
OfChild c (ToContent x) = IsWellFormedContext c → KeptContent x
OfChild c _ = Unit {0}

abbrev OfPresence : Context → Answer → Type 0
OfPresence c (ToIds s) = IsWellFormedContext c → AreRising s
OfPresence c _ = Unit {0}

abbrev OfClear : Context → Answer → Type 0
OfClear c (Cleared d s) = IsWellFormedContext c → IsWellFormedContext d
OfClear c _ = Unit {0}

abbrev Motive : Judgement → Type 0
Motive (gives (Operate c o) a) = OfOperate c a
Motive (gives (Child c t) a) = OfChild c a
Motive (gives (AddId c t i m) a) = OfOperate c a
Motive (gives (Presence c k) a) = OfPresence c a
Motive (gives (Clear c deps t) a) = OfClear c a
Motive (gives (ClearAny c deps k) a) = OfClear c a
Motive (gives (ClearElem c deps k) a) = OfClear c a
Motive (gives (ClearMap c deps done) a) = OfClear c a
Motive (gives (ClearList c deps k) a) = OfClear c a
Motive _ = Unit {0}

-- ---- the cases

kept_kept : (deps : List Id) (r : Register) → IsWellFormedRegister r → IsWellFormedRegister (kept deps r)
kept_kept deps r h = (filter_rises ids_total exact_ids (λ e. not (has_id e.0 deps)) r h.0, primitive_kept deps r h.1)

clear_case : (r : Rule) (c : Context) (deps : List Id) (t : Tagged) (a : Answer) (js : List Judgement) → Follows r (Clear c deps t) a js → All Motive js → OfClear c a
clear_case R.ClearNone c deps t a js (e, p, q) hs = subst (OfClear c) (sym q) (λ h. h)
clear_case R.ClearReg c deps (RegT k) a js (r, e, p, q) hs = subst (OfClear c) (sym q) (λ h. kept_with (RegT k) (Values (kept deps r)) c h (kept_kept deps r (kept_register k r c h e)))
clear_case R.ClearMap1 c deps (MapT k) a js (d, e, s, there, p, q) hs =
    let one : All Motive (gives (ClearMap d deps []) (Cleared e s) ∷ []) = subst (All Motive) p hs in
    subst (OfClear c) (sym q) (λ h. kept_with (MapT k) (Node e) c h (one.0 (kept-content (MapT k) c d h there)))
clear_case R.ClearList1 c deps (ListT k) a js (d, e, s, there, p, q) hs =
    let one : All Motive (gives (ClearList d deps (Some K.Head)) (Cleared e s) ∷ []) = subst (All Motive) p hs in
    subst (OfClear c) (sym q) (λ h. kept_with (ListT k) (Node e) c h (one.0 (kept-content (ListT k) c d h there)))
clear_case _ c deps t a js h hs = absurd h

any_case : (r : Rule) (c : Context) (deps : List Id) (k : Key) (a : Answer) (js : List Judgement) → Follows r (ClearAny c deps k) a js → All Motive js → OfClear c a
any_case R.ClearAny c deps k a js (c1, s1, c2, s2, c3, s3, p, q) hs =
    let hs2 : All Motive (gives (Clear c deps (MapT k)) (Cleared c1 s1) ∷ gives (Clear c1 deps (ListT k)) (Cleared c2 s2) ∷ gives (Clear c2 deps (RegT k)) (Cleared c3 s3) ∷ []) = subst (All Motive) p hs in
    subst (OfClear c) (sym q) (λ h. hs2.1.1.0 (hs2.1.0 (hs2.0 h)))
any_case _ c deps k a js h hs = absurd h

elem_case : (r : Rule) (c : Context) (deps : List Id) (k : Key) (a : Answer) (js : List Judgement) → Follows r (ClearElem c deps k) a js → All Motive js → OfClear c a
elem_case R.ClearElem c deps k a js (d, s1, s2, p, q) hs =
    let hs2 : All Motive (gives (ClearAny c deps k) (Cleared d s1) ∷ gives (Presence d k) (ToIds s2) ∷ []) = subst (All Motive) p hs in
    subst (OfClear c) (sym q) (λ h. kept-presence k (without (union s1 s2) deps) d (without-rises (union s1 s2) deps (union-rises s1 s2)) (hs2.0 h))
elem_case _ c deps k a js h hs = absurd h

map_case : (r : Rule) (c : Context) (deps : List Id) (done : List Key) (a : Answer) (js : List Judgement) → Follows r (ClearMap c deps done) a js → All Motive js → OfClear c a
map_case R.ClearMap2 c deps done a js (k, c1, s1, c2, s2, e, p, q) hs =
    let both : All Motive (gives (ClearElem c deps k) (Cleared c1 s1) ∷ gives (ClearMap c1 deps (k ∷ done)) (Cleared c2 s2) ∷ []) = subst (All Motive) p hs in
    subst (OfClear c) (sym q) (λ h. both.1.0 (both.0 h))
map_case R.ClearMap3 c deps done a js (e, p, q) hs = subst (OfClear c) (sym q) (λ h. h)
map_case _ c deps done a js h hs = absurd h

list_case : (r : Rule) (c : Context) (deps : List Id) (k : Option Key) (a : Answer) (js : List Judgement) → Follows r (ClearList c deps k) a js → All Motive js → OfClear c a
list_case R.ClearList2 c deps (Some k) a js (n, c1, s1, c2, s2, e, p, q) hs =
    let both : All Motive (gives (ClearElem c deps k) (Cleared c1 s1) ∷ gives (ClearList c1 deps (Table.after n)) (Cleared c2 s2) ∷ []) = subst (All Motive) p hs in
    subst (OfClear c) (sym q) (λ h. both.1.0 (both.0 h))
list_case R.ClearList3 c deps None a js (p, q) hs = subst (OfClear c) (sym q) (λ h. h)
list_case _ c deps k a js h hs = absurd h

presence_case : (r : Rule) (c : Context) (k : Key) (a : Answer) (js : List Judgement) → Follows r (Presence c k) a js → OfPresence c a
presence_case R.Presence1 c k a js (s, e, p, q) = subst (OfPresence c) (sym q) (λ h. rising k s c h e)
presence_case R.Presence2 c k a js (e, p, q) = subst (OfPresence c) (sym q) (λ h. tt)
presence_case _ c k a js h = absurd h

child_case : (r : Rule) (c : Context) (t : Tagged) (a : Answer) (js : List Judgement) → Follows r (Child c t) a js → OfChild c a
child_case R.ChildGet c t a js (x, e, p, q) = subst (OfChild c) (sym q) (λ h. kept_found t x c h e)
child_case R.ChildMap c (MapT k) a js (e, p, q) = subst (OfChild c) (sym q) (λ h. (tt, tt, tt, tt, tt, tt, tt, tt, tt))
child_case R.ChildList c (ListT k) a js (e, p, q) = subst (OfChild c) (sym q) (λ h. (tt, tt, tt, tt, (tt, tt), tt, tt, tt, tt))
child_case R.ChildReg c (RegT k) a js (e, p, q) = subst (OfChild c) (sym q) (λ h. (tt, tt))
child_case _ c t a js h = absurd h

add_case : (r : Rule) (c : Context) (t : Tagged) (i : Id) (m : Mutation) (a : Answer) (js : List Judgement) → Follows r (AddId c t i m) a js → All Motive js → OfOperate c a
add_case R.AddId1 c t i m a js (s, e, p, q) hs =
    let hs2 : All Motive (gives (Presence c (key_of_tagged t)) (ToIds s) ∷ []) = subst (All Motive) p hs in
    subst (OfOperate c) (sym q) (λ h. kept-presence (key_of_tagged t) (with_id i s) c (with-rises i s (hs2.0 h)) h)
add_case R.AddId2 c t i m a js (e, p, q) hs = subst (OfOperate c) (sym q) (λ h. h)
add_case _ c t i m a js h hs = absurd h

kept_value : (i : Id) (v : Value) (r : Register) → IsPrimitive v → IsWellFormedRegister r → IsWellFormedRegister (put id_cmp i v r)
kept_value i v r prim h = (rising-put ids_total exact_ids i v r h.0, values-put ids_total exact_ids IsPrimitive i v r prim h.1)

operate_case : (r : Rule) (c : Context) (o : Op) (a : Answer) (js : List Judgement) → Follows r (Operate c o) a js → All Motive js → OfOperate c a
operate_case R.Descend c o a js (t, rest, d, e, c2, path, p, q) hs =
    let hs2 : All Motive (gives (Child c t) (ToContent (Node d)) ∷ gives (Operate d (moved o rest o.cursor.last o.mutation)) (ToContext e) ∷ gives (AddId c t o.id o.mutation) (ToContext c2) ∷ []) = subst (All Motive) p hs in
    subst (OfOperate c) (sym q) (λ h. kept_with t (Node e) c2 (hs2.1.1.0 h) (hs2.1.0 (hs2.0 h)))
operate_case R.Assign c o a js (v, c1, s, c2, r, path, m, prim, p, q) hs =
    let hs2 : All Motive (gives (Clear c o.deps (RegT o.cursor.last)) (Cleared c1 s) ∷ gives (AddId c1 (RegT o.cursor.last) o.id o.mutation) (ToContext c2) ∷ gives (Child c2 (RegT o.cursor.last)) (ToContent (Values r)) ∷ []) = subst (All Motive) p hs in
    subst (OfOperate c) (sym q) (λ h. let k : IsWellFormedContext c2 = hs2.1.0 (hs2.0 h) in kept_with (RegT o.cursor.last) (Values (put id_cmp o.id v r)) c2 k (kept_value o.id v r prim (hs2.1.1.0 k)))
operate_case R.EmptyMap c o a js (c1, s, c2, x, path, m, p, q) hs =
    let hs2 : All Motive (gives (ClearElem c o.deps o.cursor.last) (Cleared c1 s) ∷ gives (AddId c1 (MapT o.cursor.last) o.id o.mutation) (ToContext c2) ∷ gives (Child c2 (MapT o.cursor.last)) (ToContent x) ∷ []) = subst (All Motive) p hs in
    subst (OfOperate c) (sym q) (λ h. let k : IsWellFormedContext c2 = hs2.1.0 (hs2.0 h) in kept_with (MapT o.cursor.last) x c2 k (hs2.1.1.0 k))
operate_case R.EmptyList c o a js (c1, s, c2, x, path, m, p, q) hs =
    let hs2 : All Motive (gives (ClearElem c o.deps o.cursor.last) (Cleared c1 s) ∷ gives (AddId c1 (ListT o.cursor.last) o.id o.mutation) (ToContext c2) ∷ gives (Child c2 (ListT o.cursor.last)) (ToContent x) ∷ []) = subst (All Motive) p hs in
    subst (OfOperate c) (sym q) (λ h. let k : IsWellFormedContext c2 = hs2.1.0 (hs2.0 h) in kept_with (ListT o.cursor.last) x c2 k (hs2.1.1.0 k))
operate_case R.Insert1 c o a js (v, n, d, path, m, link, before, p, q) hs =
    let hs2 : All Motive (gives (Operate c (moved o [] (K.Elem o.id) (M.Assign v))) (ToContext d) ∷ []) = subst (All Motive) p hs in
    subst (OfOperate c) (sym q) (λ h. kept_next (K.Elem o.id) n (with_next o.cursor.last (To o.id) d) (kept_next o.cursor.last (To o.id) d (hs2.0 h)))
operate_case R.Insert2 c o a js (v, n, d, path, m, link, less, p, q) hs =
    let hs2 : All Motive (gives (Operate c (moved o [] (K.Elem n) o.mutation)) (ToContext d) ∷ []) = subst (All Motive) p hs in
    subst (OfOperate c) (sym q) (λ h. hs2.0 h)
operate_case R.Delete c o a js (d, s, path, m, p, q) hs =
    let hs2 : All Motive (gives (ClearElem c o.deps o.cursor.last) (Cleared d s) ∷ []) = subst (All Motive) p hs in
    subst (OfOperate c) (sym q) (λ h. hs2.0 h)
operate_case _ c o a js h hs = absurd h

step : (r : Rule) (q : Question) (a : Answer) (js : List Judgement) → Follows r q a js → All Motive js → Motive (gives q a)
step r (Clear c deps t) a js h hs = clear_case r c deps t a js h hs
step r (ClearAny c deps k) a js h hs = any_case r c deps k a js h hs
step r (ClearElem c deps k) a js h hs = elem_case r c deps k a js h hs
step r (ClearMap c deps done) a js h hs = map_case r c deps done a js h hs
step r (ClearList c deps k) a js h hs = list_case r c deps k a js h hs
step r (Presence c k) a js h hs = presence_case r c k a js h
step r (Operate c o) a js h hs = operate_case r c o a js h hs
step r (Child c t) a js h hs = child_case r c t a js h
step r (AddId c t i m) a js h hs = add_case r c t i m a js h hs
step r _ a js h hs = tt

-- a derivation of an operation leads from a kept context to one
pub operated_kept : (c d : Context) (o : Op) → IsWellFormedContext c → IsAnswered (Operate c o) (ToContext d) → IsWellFormedContext d
operated_kept c d o h x = let m : OfOperate c (ToContext d) = subst Motive x.concludes (by_rules Motive step x.derivation x.holds) in m h
