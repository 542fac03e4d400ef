-- Lemmas about LinksEverywhere: what clearing and operations do to the links of a tree.
use Rattle.std.proofs.Common.{◌≡◌, List, [], ◌∷◌, Option, Some, None, refl, sym, ◌∙◌, ap, subst}
use Rattle.jc_rules.specs.declared.id.Id.{Id}
use Rattle.jc_rules.specs.declared.key.Key.{Key}
use Rattle.jc_rules.specs.declared.key.Key.TheVariants as K
use Rattle.jc_rules.specs.declared.key.Next.{Next}
use Rattle.jc_rules.specs.declared.key.Next.TheVariants.{Elem as To}
use Rattle.jc_rules.specs.declared.key.Tagged.{Tagged}
use Rattle.jc_rules.specs.declared.key.Tagged.TheVariants.{MapT, ListT, RegT}
use Rattle.jc_rules.specs.declared.operation.Op.{Op}
use Rattle.jc_rules.specs.declared.operation.Mutation.{Mutation}
use Rattle.jc_rules.specs.declared.operation.Mutation.TheVariants as M
use Rattle.jc_rules.specs.declared.rule.Rule.{Rule}
use Rattle.jc_rules.specs.declared.rule.Rule.TheVariants as R
use Rattle.jc_rules.specs.declared.value.Value.{Value}
use Rattle.jc_rules.specs.declared.value.Value.TheVariants as V
use Rattle.jc_rules.specs.Order.{key_cmp}
use Rattle.jc_rules.specs.Entries.{find, put}
use Rattle.jc_rules.specs.Context.{Context, Content, Node, Values, Register, content, with_content, with_presence, next, with_next, links, maps, lists, registers, node_of, values_of, key_of_tagged}
use Rattle.jc_rules.specs.Sound.{IsInsert}
use Rattle.jc_rules.specs.Derivation.{Question, Operate, Child, AddId, Presence, Clear, ClearAny, ClearElem, ClearMap, ClearList, Answer, ToContext, ToContent, ToIds, Cleared, Judgement, gives}
use Rattle.jc_rules.specs.Table.{Follows, moved, kept, after}
use Rattle.jc_rules.specs.Refused.{IsAnswered}
use Rattle.jc_network.specs.LinksEverywhere.{LinksHold, LinksAt, links_below, Everywhere, Reach}
use Rattle.jc_apply.specs.Fits.{content_or_new, child_context, InChild}
use Rattle.jc_rules.specs.ContextsAt.{node_in}
use Rattle.jc_rules.specs.Paths.{HasContext}
use Rattle.jc_network.proofs.InductionLemmas.{All, by_rules}
use Rattle.jc_network.proofs.LinksEverywhereLemmas.{OfNew, at_root, in_child, with_child, with_values, with_ids, with_links, all_follow, in_entered, child-put, links-content, reach_child, reach_below, reach_next, links-ids, reach_ids, reach_values}
use Rattle.jc_tree.proofs.LinkedLemmas.{next_set}

-- No link was changed: what holds of all links still does, what was reached still is, and the root's links are the same. New maps and lists may have been made.
pub record KeepsLinks (c d : Context) : Type 1 where
  pub all : (Q : LinksAt) → OfNew Q → Everywhere Q c → Everywhere Q d
  pub reach : (P : List Tagged) (k : Key) → Reach c P k → Reach d P k
  pub root : links d ≡ links c

keeps_same : (c : Context) → KeepsLinks c c
keeps_same c = record { all = λ Q n h. h; reach = λ P k h. h; root = refl }

keeps_both : (c d e : Context) → KeepsLinks c d → KeepsLinks d e → KeepsLinks c e
keeps_both c d e f g = record { all = λ Q n h. g.all Q n (f.all Q n h); reach = λ P k h. g.reach P k (f.reach P k h); root = g.root ∙ f.root }

keeps_ids : (k : Key) (s : List Id) (c : Context) → KeepsLinks c (with_presence k s c)
keeps_ids k s c = record { all = λ Q n h. with_ids Q k s c h; reach = reach_ids k s c; root = links-ids k s c }

keeps_values : (k : Key) (v : Register) (c : Context) → KeepsLinks c (with_content (RegT k) (Values v) c)
keeps_values k v c = record { all = λ Q n h. with_values Q k v c h; reach = reach_values k v c; root = links-content (RegT k) (Values v) c }

below_new : (t : Tagged) (Q : LinksAt) → OfNew Q → OfNew (links_below t Q)
below_new t Q n = λ P k. n (t ∷ P) k

some_node : (d : Context) (x : Content) → Node d ≡ x → node_in (Some x) ≡ Some d
some_node d x e = ap (λ y. node_in (Some y)) (sym e)

no_values : {A : Type 0} (d : Context) (o : Option Register) → Node d ≡ content_or_new (RegT K.Doc) (values_of o) → A
no_values d None e = cc
no_values d (Some v) e = cc

node_tag : (t : Tagged) (c d : Context) → Node d ≡ content_or_new t (content t c) → HasContext t
node_tag (MapT k) c d e = tt
node_tag (ListT k) c d e = tt
node_tag (RegT k) c d e = no_values d (find key_cmp k (registers c)) e

-- a child that was changed, after the root was
keeps_child : (t : Tagged) (c d e : Context) → HasContext t → child_context t c ≡ Some d → content t c ≡ Some (Node d) → KeepsLinks d e → KeepsLinks c (with_content t (Node e) c)
keeps_child t c d e tag is there g =
    record {
      all = λ Q n h. with_child Q t c e h (g.all (links_below t Q) (below_new t Q n) (in_child Q t c d there h));
      reach = reach_child t c d e tag is g.reach;
      root = links-content t (Node e) c;
    }

-- a child that is there, or a new one
keeps_new : (t : Tagged) (c d : Context) → Node d ≡ content_or_new t (content t c) → KeepsLinks c (with_content t (Node d) c)
keeps_new t c d e =
    record {
      all = λ Q n h. with_child Q t c d h (in_entered Q t c d n e h);
      reach = reach_child t c d d (node_tag t c d e) (some_node d _ e) (λ P k h. h);
      root = links-content t (Node d) c;
    }

no_such : {A : Type 1} (o : Option Context) (v : Register) (t : Tagged) → HasContext t → Values v ≡ content_or_new t (node_of o) → A
no_such None v (MapT k) tag e = cc
no_such None v (ListT k) tag e = cc
no_such None v (RegT k) tag e = absurd tag
no_such (Some d) v t tag e = cc

keeps_made : (t : Tagged) (c : Context) (x : Content) → HasContext t → x ≡ content_or_new t (content t c) → KeepsLinks c (with_content t x c)
keeps_made t c (Node d) tag e = keeps_new t c d e
keeps_made (MapT k) c (Values v) tag e = no_such (find key_cmp k (maps c)) v (MapT k) tt e
keeps_made (ListT k) c (Values v) tag e = no_such (find key_cmp k (lists c)) v (ListT k) tt e
keeps_made (RegT k) c (Values v) tag e = absurd tag

-- What an operation does: where it inserts, its identifier comes behind a key of the list at its path.
pub record Operates (i : Id) (path : List Tagged) (last : Key) (m : Mutation) (c d : Context) : Type 1 where
  pub all : (Q S : LinksAt) → OfNew Q → ((P : List Tagged) (n : LinksHold) → Q P n → S P n)
      → (IsInsert m → (k : Key) (x : Next) (n : LinksHold) → Q path n → find key_cmp k n ≡ Some x → S path (put key_cmp (K.Elem i) x (put key_cmp k (To i) n)))
      → Everywhere Q c → Everywhere S d
  pub reach : (P : List Tagged) (k : Key) → Reach c P k → Reach d P k
  pub own : IsInsert m → Reach d path (K.Elem i)
  pub wants : IsInsert m → Reach c path last
  pub root : (IsInsert m → ⊥) → links d ≡ links c

-- no insert
quiet : (i : Id) (path : List Tagged) (last : Key) (m : Mutation) (c d : Context) → (IsInsert m → ⊥) → KeepsLinks c d → Operates i path last m c d
quiet i path last m c d never g =
    record {
      all = λ Q S n f put_in h. all_follow Q S d f (g.all Q n h);
      reach = g.reach;
      own = λ is. absurd (never is);
      wants = λ is. absurd (never is);
      root = λ x. g.root;
    }

-- behind its key
inserted_here : (i : Id) (last : Key) (v : Value) (x : Next) (c d : Context) → next last c ≡ Some x → Operates i [] (K.Elem i) (M.Assign v) c d → Operates i [] last (M.Insert v) c (with_next (K.Elem i) x (with_next last (To i) d))
inserted_here i last v x c d e g =
    record {
      all = λ Q S n f put_in h.
          let inner : Everywhere Q d = g.all Q Q n (λ P m q. q) (λ is. absurd is) h in
          let found : find key_cmp last (links d) ≡ Some x = ap (find key_cmp last) (g.root (λ is. is)) ∙ e in
          with_links S (K.Elem i) last x (To i) d (all_follow Q S d f inner) (put_in tt last x (links d) (at_root Q d inner) found);
      reach = λ P k h. reach_next (K.Elem i) x (with_next last (To i) d) P k (reach_next last (To i) d P k (g.reach P k h));
      own = λ is f. let s : Some x ≡ None = sym (next_set (K.Elem i) x (with_next last (To i) d)) ∙ f in cc;
      wants = λ is f. let s : Some x ≡ None = sym e ∙ f in cc;
      root = λ no. absurd (no tt);
    }

-- further on
inserted_later : (i : Id) (last n : Key) (v : Value) (x : Next) (c d : Context) → next last c ≡ Some x → Operates i [] n (M.Insert v) c d → Operates i [] last (M.Insert v) c d
inserted_later i last n v x c d e g =
    record {
      all = g.all;
      reach = g.reach;
      own = g.own;
      wants = λ is f. let s : Some x ≡ None = sym e ∙ f in cc;
      root = g.root;
    }

-- below a tagged key
descends : (i : Id) (t : Tagged) (rest : List Tagged) (last : Key) (m : Mutation) (c d e c2 : Context) → Node d ≡ content_or_new t (content t c) → Operates i rest last m d e → KeepsLinks c c2 → Operates i (t ∷ rest) last m c (with_content t (Node e) c2)
descends i t rest last m c d e c2 is g add =
    record {
      all = λ Q S n f put_in h.
          let child : Everywhere (links_below t Q) d = in_entered Q t c d n is h in
          let new : Everywhere (links_below t S) e = g.all (links_below t Q) (links_below t S) (below_new t Q n) (λ P. f (t ∷ P)) put_in child in
          with_child S t c2 e (all_follow Q S c2 f (add.all Q n h)) new;
      reach = reached;
      own = λ ins. subst (λ o. InChild o (λ b. Reach b rest (K.Elem i))) (sym (child-put t e c2 tag)) (g.own ins);
      wants = λ ins. subst (λ o. InChild o (λ b. Reach b rest last)) (sym there) (g.wants ins);
      root = λ no. links-content t (Node e) c2 ∙ add.root;
    }
  where
    tag : HasContext t
    tag = node_tag t c d is

    there : child_context t c ≡ Some d
    there = some_node d _ is

    reached : (P : List Tagged) (k : Key) → Reach c P k → Reach (with_content t (Node e) c2) P k
    reached P k h = reach_below t c c2 d e tag there add.reach g.reach P k h

-- ---- the induction

abbrev AfterClear : Context → Answer → Type 1
AfterClear c (Cleared d s) = KeepsLinks c d
AfterClear c _ = Unit {1}

abbrev AfterAdd : Context → Answer → Type 1
AfterAdd c (ToContext d) = KeepsLinks c d
AfterAdd c _ = Unit {1}

abbrev AfterChild : Context → Tagged → Answer → Type 1
AfterChild c t (ToContent x) = (x ≡ content_or_new t (content t c)) × Unit {1}
AfterChild c t _ = Unit {1}

abbrev AfterOperate : Context → Op → Answer → Type 1
AfterOperate c o (ToContext d) = Operates o.id o.cursor.path o.cursor.last o.mutation c d
AfterOperate c o _ = Unit {1}

abbrev Motive : Judgement → Type 1
Motive (gives (Operate c o) a) = AfterOperate c o a
Motive (gives (Child c t) a) = AfterChild c t a
Motive (gives (AddId c t i m) a) = AfterAdd c a
Motive (gives (Clear c deps t) a) = AfterClear c a
Motive (gives (ClearAny c deps k) a) = AfterClear c a
Motive (gives (ClearElem c deps k) a) = AfterClear c a
Motive (gives (ClearMap c deps done) a) = AfterClear c a
Motive (gives (ClearList c deps k) a) = AfterClear c a
Motive _ = Unit {1}

one : (q : Question) (a : Answer) (js : List Judgement) → js ≡ gives q a ∷ [] → All Motive js → Motive (gives q a)
one q a js e h = let g : All Motive (gives q a ∷ []) = subst (All Motive) e h in g.0

child_found : (t : Tagged) (c d : Context) → content t c ≡ Some (Node d) → child_context t c ≡ Some d
child_found t c d e = ap (λ o. node_in (Some (content_or_new t o))) e

clear_case : (r : Rule) (c : Context) (deps : List Id) (t : Tagged) (a : Answer) (js : List Judgement) → Follows r (Clear c deps t) a js → All Motive js → AfterClear c a
clear_case R.ClearNone c deps t a js (e, p, q) hs = subst (AfterClear c) (sym q) (keeps_same c)
clear_case R.ClearReg c deps (RegT k) a js (r, e, p, q) hs = subst (AfterClear c) (sym q) (keeps_values k (kept deps r) c)
clear_case R.ClearMap1 c deps (MapT k) a js (d, e, s, there, p, q) hs =
    let inner : KeepsLinks d e = one (ClearMap d deps []) (Cleared e s) js p hs in
    subst (AfterClear c) (sym q) (keeps_child (MapT k) c d e tt (child_found (MapT k) c d there) there inner)
clear_case R.ClearList1 c deps (ListT k) a js (d, e, s, there, p, q) hs =
    let inner : KeepsLinks d e = one (ClearList d deps (Some K.Head)) (Cleared e s) js p hs in
    subst (AfterClear c) (sym q) (keeps_child (ListT k) c d e tt (child_found (ListT k) c d there) there inner)
clear_case _ c deps t a js h hs = absurd h

any_case : (r : Rule) (c : Context) (deps : List Id) (k : Key) (a : Answer) (js : List Judgement) → Follows r (ClearAny c deps k) a js → All Motive js → AfterClear c a
any_case R.ClearAny c deps k a js (c1, s1, c2, s2, c3, s3, p, q) hs =
    let all : All Motive (gives (Clear c deps (MapT k)) (Cleared c1 s1) ∷ gives (Clear c1 deps (ListT k)) (Cleared c2 s2) ∷ gives (Clear c2 deps (RegT k)) (Cleared c3 s3) ∷ []) = subst (All Motive) p hs in
    subst (AfterClear c) (sym q) (keeps_both c c1 c3 all.0 (keeps_both c1 c2 c3 all.1.0 all.1.1.0))
any_case _ c deps k a js h hs = absurd h

elem_case : (r : Rule) (c : Context) (deps : List Id) (k : Key) (a : Answer) (js : List Judgement) → Follows r (ClearElem c deps k) a js → All Motive js → AfterClear c a
elem_case R.ClearElem c deps k a js (d, s1, s2, p, q) hs =
    let all : All Motive (gives (ClearAny c deps k) (Cleared d s1) ∷ gives (Presence d k) (ToIds s2) ∷ []) = subst (All Motive) p hs in
    subst (AfterClear c) (sym q) (keeps_both c d _ all.0 (keeps_ids k _ d))
elem_case _ c deps k a js h hs = absurd h

map_case : (r : Rule) (c : Context) (deps : List Id) (done : List Key) (a : Answer) (js : List Judgement) → Follows r (ClearMap c deps done) a js → All Motive js → AfterClear c a
map_case R.ClearMap2 c deps done a js (k, c1, s1, c2, s2, e, p, q) hs =
    let all : All Motive (gives (ClearElem c deps k) (Cleared c1 s1) ∷ gives (ClearMap c1 deps (k ∷ done)) (Cleared c2 s2) ∷ []) = subst (All Motive) p hs in
    subst (AfterClear c) (sym q) (keeps_both c c1 c2 all.0 all.1.0)
map_case R.ClearMap3 c deps done a js (e, p, q) hs = subst (AfterClear c) (sym q) (keeps_same c)
map_case _ c deps done a js h hs = absurd h

list_case : (r : Rule) (c : Context) (deps : List Id) (k : Option Key) (a : Answer) (js : List Judgement) → Follows r (ClearList c deps k) a js → All Motive js → AfterClear c a
list_case R.ClearList2 c deps (Some k) a js (n, c1, s1, c2, s2, e, p, q) hs =
    let all : All Motive (gives (ClearElem c deps k) (Cleared c1 s1) ∷ gives (ClearList c1 deps (after n)) (Cleared c2 s2) ∷ []) = subst (All Motive) p hs in
    subst (AfterClear c) (sym q) (keeps_both c c1 c2 all.0 all.1.0)
list_case R.ClearList3 c deps None a js (p, q) hs = subst (AfterClear c) (sym q) (keeps_same c)
list_case _ c deps k a js h hs = absurd h

child_case : (r : Rule) (c : Context) (t : Tagged) (a : Answer) (js : List Judgement) → Follows r (Child c t) a js → All Motive js → AfterChild c t a
child_case R.ChildGet c t a js (x, e, p, q) hs = subst (AfterChild c t) (sym q) (rw e refl, tt)
child_case R.ChildMap c (MapT k) a js (e, p, q) hs = subst (AfterChild c (MapT k)) (sym q) (rw e refl, tt)
child_case R.ChildList c (ListT k) a js (e, p, q) hs = subst (AfterChild c (ListT k)) (sym q) (rw e refl, tt)
child_case R.ChildReg c (RegT k) a js (e, p, q) hs = subst (AfterChild c (RegT k)) (sym q) (rw e refl, tt)
child_case _ c t a js h hs = absurd h

add_case : (r : Rule) (c : Context) (t : Tagged) (i : Id) (m : Mutation) (a : Answer) (js : List Judgement) → Follows r (AddId c t i m) a js → All Motive js → AfterAdd c a
add_case R.AddId1 c t i m a js (s, e, p, q) hs = subst (AfterAdd c) (sym q) (keeps_ids (key_of_tagged t) _ c)
add_case R.AddId2 c t i m a js (e, p, q) hs = subst (AfterAdd c) (sym q) (keeps_same c)
add_case _ c t i m a js h hs = absurd h

-- an operation of this path and this mutation
told : (o : Op) (path : List Tagged) (m : Mutation) (c d : Context) → o.cursor.path ≡ path → o.mutation ≡ m → Operates o.id path o.cursor.last m c d → Operates o.id o.cursor.path o.cursor.last o.mutation c d
told o path m c d e f g = subst (λ p. Operates o.id p o.cursor.last o.mutation c d) (sym e) (subst (λ n. Operates o.id path o.cursor.last n c d) (sym f) g)

operate_case : (r : Rule) (c : Context) (o : Op) (a : Answer) (js : List Judgement) → Follows r (Operate c o) a js → All Motive js → AfterOperate c o a
operate_case R.Descend c o a js (t, rest, d, e, c2, path, p, q) hs =
    let all : All Motive (gives (Child c t) (ToContent (Node d)) ∷ gives (Operate d (moved o rest o.cursor.last o.mutation)) (ToContext e) ∷ gives (AddId c t o.id o.mutation) (ToContext c2) ∷ []) = subst (All Motive) p hs in
    subst (AfterOperate c o) (sym q) (told o (t ∷ rest) o.mutation c _ path refl (descends o.id t rest o.cursor.last o.mutation c d e c2 all.0.0 all.1.0 all.1.1.0))
operate_case R.Assign c o a js (v, c1, s, c2, r, path, m, prim, p, q) hs =
    let all : All Motive (gives (Clear c o.deps (RegT o.cursor.last)) (Cleared c1 s) ∷ gives (AddId c1 (RegT o.cursor.last) o.id o.mutation) (ToContext c2) ∷ gives (Child c2 (RegT o.cursor.last)) (ToContent (Values r)) ∷ []) = subst (All Motive) p hs in
    subst (AfterOperate c o) (sym q) (told o [] (M.Assign v) c _ path m (quiet _ _ _ _ c _ (λ is. is) (keeps_both c c1 _ all.0 (keeps_both c1 c2 _ all.1.0 (keeps_values o.cursor.last _ c2)))))
operate_case R.EmptyMap c o a js (c1, s, c2, x, path, m, p, q) hs =
    let all : All Motive (gives (ClearElem c o.deps o.cursor.last) (Cleared c1 s) ∷ gives (AddId c1 (MapT o.cursor.last) o.id o.mutation) (ToContext c2) ∷ gives (Child c2 (MapT o.cursor.last)) (ToContent x) ∷ []) = subst (All Motive) p hs in
    subst (AfterOperate c o) (sym q) (told o [] (M.Assign V.EmptyMap) c _ path m (quiet _ _ _ _ c _ (λ is. is) (keeps_both c c1 _ all.0 (keeps_both c1 c2 _ all.1.0 (keeps_made (MapT o.cursor.last) c2 x tt all.1.1.0.0)))))
operate_case R.EmptyList c o a js (c1, s, c2, x, path, m, p, q) hs =
    let all : All Motive (gives (ClearElem c o.deps o.cursor.last) (Cleared c1 s) ∷ gives (AddId c1 (ListT o.cursor.last) o.id o.mutation) (ToContext c2) ∷ gives (Child c2 (ListT o.cursor.last)) (ToContent x) ∷ []) = subst (All Motive) p hs in
    subst (AfterOperate c o) (sym q) (told o [] (M.Assign V.EmptyList) c _ path m (quiet _ _ _ _ c _ (λ is. is) (keeps_both c c1 _ all.0 (keeps_both c1 c2 _ all.1.0 (keeps_made (ListT o.cursor.last) c2 x tt all.1.1.0.0)))))
operate_case R.Insert1 c o a js (v, n, d, path, m, link, before, p, q) hs =
    let inner : Operates o.id [] (K.Elem o.id) (M.Assign v) c d = one (Operate c (moved o [] (K.Elem o.id) (M.Assign v))) (ToContext d) js p hs in
    subst (AfterOperate c o) (sym q) (told o [] (M.Insert v) c _ path m (inserted_here o.id o.cursor.last v n c d link inner))
operate_case R.Insert2 c o a js (v, n, d, path, m, link, less, p, q) hs =
    let inner : Operates o.id [] (K.Elem n) o.mutation c d = one (Operate c (moved o [] (K.Elem n) o.mutation)) (ToContext d) js p hs in
    subst (AfterOperate c o) (sym q) (told o [] (M.Insert v) c d path m (inserted_later o.id o.cursor.last (K.Elem n) v (To n) c d link (subst (λ n2. Operates o.id [] (K.Elem n) n2 c d) m inner)))
operate_case R.Delete c o a js (d, s, path, m, p, q) hs =
    let inner : KeepsLinks c d = one (ClearElem c o.deps o.cursor.last) (Cleared d s) js p hs in
    subst (AfterOperate c o) (sym q) (told o [] M.Delete c d path m (quiet _ _ _ _ c d (λ is. is) inner))
operate_case _ c o a js h hs = absurd h

step : (r : Rule) (q : Question) (a : Answer) (js : List Judgement) → Follows r q a js → All Motive js → Motive (gives q a)
step r (Operate c o) a js h hs = operate_case r c o a js h hs
step r (Child c t) a js h hs = child_case r c t a js h hs
step r (AddId c t i m) a js h hs = add_case r c t i m a js h hs
step r (Clear c deps t) a js h hs = clear_case r c deps t a js h hs
step r (ClearAny c deps k) a js h hs = any_case r c deps k a js h hs
step r (ClearElem c deps k) a js h hs = elem_case r c deps k a js h hs
step r (ClearMap c deps done) a js h hs = map_case r c deps done a js h hs
step r (ClearList c deps k) a js h hs = list_case r c deps k a js h hs
step r _ a js h hs = tt

-- what an answered operation did
pub operates : (c : Context) (o : Op) (d : Context) → IsAnswered (Operate c o) (ToContext d) → Operates o.id o.cursor.path o.cursor.last o.mutation c d
operates c o d s = subst Motive s.concludes (by_rules Motive step s.derivation s.holds)

-- what stands under a tagged key, or is made there
pub child_is : (c : Context) (t : Tagged) (x : Content) → IsAnswered (Child c t) (ToContent x) → x ≡ content_or_new t (content t c)
child_is c t x s = let r : AfterChild c t (ToContent x) = subst Motive s.concludes (by_rules Motive step s.derivation s.holds) in r.0
