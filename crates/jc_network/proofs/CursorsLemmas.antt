-- Lemmas about Rooted: the cursors that expressions evaluate to are rooted.
use Rattle.std.proofs.Common.{◌≡◌, ◌≢◌, ℕ, zero, suc, List, [], ◌∷◌, ◌++◌, Option, Some, None, ◌⊎◌, inl, inr, refl, sym, ◌∙◌, ap, subst}
use Rattle.std.specs.List.{AllByRecursion}
use Rattle.jc_rules.specs.declared.id.Id.{Id}
use Rattle.jc_rules.specs.declared.key.Key.{Key}
use Rattle.jc_rules.specs.declared.key.Key.TheVariants as K
use Rattle.jc_rules.specs.declared.key.Next.{Next}
use Rattle.jc_rules.specs.declared.key.Next.TheVariants.{Elem as To}
use Rattle.jc_rules.specs.declared.key.Tagged.{Tagged}
use Rattle.jc_rules.specs.declared.key.Tagged.TheVariants.{MapT, ListT}
use Rattle.jc_rules.specs.declared.operation.Op.{Op}
use Rattle.jc_rules.specs.declared.operation.Cursor.{Cursor}
use Rattle.jc_rules.specs.declared.rule.Rule.{Rule}
use Rattle.jc_rules.specs.declared.rule.Rule.TheVariants as R
use Rattle.jc_rules.specs.Order.{key_cmp}
use Rattle.jc_rules.specs.Entries.{find}
use Rattle.jc_rules.specs.ContextsAt.{IsAtOrAbove, first_key}
use Rattle.jc_rules.specs.Context.{Context, Node, content, next, links, key_of_tagged}
use Rattle.jc_rules.specs.State.{State, Bound, ACursor}
use Rattle.jc_rules.specs.Syntax.{Expr, TheDoc, Variable, GetKey, Index, KeysOf, ValuesOf}
use Rattle.jc_rules.specs.Derivation.{Question, Evaluate, SelectIndex, Answer, ToBound, ToCursor, Judgement, gives}
use Rattle.jc_rules.specs.Table.{Follows, cursor}
use Rattle.jc_rules.specs.Refused.{IsAnswered}
use Rattle.jc_rules.proofs.OrderLemmas.{names_total, exact_names}
use Rattle.jc_rules.proofs.EntriesLemmas.{value-found}
use Rattle.jc_rules.proofs.HistoryLemmas.{same_ends}
use Rattle.jc_network.specs.LinksEverywhere.{LinksHold, LinksAt, Everywhere}
use Rattle.jc_rules.specs.Paths.{HasContext}
use Rattle.jc_network.specs.Rooted.{IsListPath, IsRootKey, head, IsRootedCursor, IsRootedBound, AreRightLinks}
use Rattle.jc_network.specs.RunInvariant.{IsKnown}
use Rattle.jc_network.proofs.InductionLemmas.{All, by_rules}
use Rattle.jc_network.proofs.LinksEverywhereLemmas.{entry-found, at_root, in_child, all_follow}

-- ---- selecting in a list

-- R holds of each key with a link, and what follows a key has a link too
abbrev Linked : (List Tagged → Key → Type 0) → LinksAt
Linked S = λ P n. AllByRecursion (λ e. S P e.0) n × ((k : Key) (j : Id) → find key_cmp k n ≡ Some (To j) → find key_cmp (K.Elem j) n ≢ None)

record Selects (c : Context) (cur new : Cursor) : Type 1 where
  path : new.path ≡ cur.path
  last : (S : List Tagged → Key → Type 0) → Everywhere (Linked S) c → (new.last ≡ cur.last) ⊎ S cur.path new.last

-- what follows a key of a list
followed : (S : List Tagged → Key → Type 0) (c : Context) (k : Key) (j : Id) → Everywhere (Linked S) c → next k c ≡ Some (To j) → S [] (K.Elem j)
followed S c k j h e =
    let here : Linked S [] (links c) = at_root (Linked S) c h in
    go (find key_cmp (K.Elem j) (links c)) refl (here.1 k j e) here.0
  where
    go : (o : Option Next) → find key_cmp (K.Elem j) (links c) ≡ o → find key_cmp (K.Elem j) (links c) ≢ None → AllByRecursion (λ e. S [] e.0) (links c) → S [] (K.Elem j)
    go None f g a = absurd (g f)
    go (Some x) f g a = entry-found (λ e. S [] e.0) (K.Elem j) x (links c) a f

selects_further : (c : Context) (cur new : Cursor) (j : Id) → cur.path ≡ [] → next cur.last c ≡ Some (To j) → Selects c (cursor [] (K.Elem j)) new → Selects c cur new
selects_further c cur new j path link g =
    record {
      path = g.path ∙ sym path;
      last = λ S h. inr (subst (λ P. S P new.last) (sym path) (at S h (g.last S h)));
    }
  where
    at : (S : List Tagged → Key → Type 0) → Everywhere (Linked S) c → (new.last ≡ K.Elem j) ⊎ S [] new.last → S [] new.last
    at S h (inl e) = subst (λ k. S [] k) (sym e) (followed S c cur.last j h link)
    at S h (inr s) = s

selects_below : (c d : Context) (cur new : Cursor) (t : Tagged) (rest : List Tagged) → cur.path ≡ t ∷ rest → content t c ≡ Some (Node d) → Selects d (cursor rest cur.last) new → Selects c cur (cursor cur.path new.last)
selects_below c d cur new t rest path there g =
    record {
      path = refl;
      last = λ S h. moved S (g.last (λ P k. S (t ∷ P) k) (in_child (Linked S) t c d there h));
    }
  where
    moved : (S : List Tagged → Key → Type 0) → (new.last ≡ cur.last) ⊎ S (t ∷ rest) new.last → (new.last ≡ cur.last) ⊎ S cur.path new.last
    moved S (inl e) = inl e
    moved S (inr s) = inr (subst (λ P. S P new.last) (sym path) s)

-- ---- evaluating

abbrev AfterSelect : Context → Cursor → Answer → Type 1
AfterSelect c cur (ToCursor new) = Selects c cur new
AfterSelect c cur _ = Unit {1}

abbrev AfterEvaluate : State → Answer → Type 1
AfterEvaluate A (ToBound b) = (In : Op → Type 0) → IsKnown In A → IsRootedBound In A.ops b
AfterEvaluate A _ = Unit {1}

abbrev Motive : Judgement → Type 1
Motive (gives (SelectIndex c cur i) a) = AfterSelect c cur a
Motive (gives (Evaluate A e) a) = AfterEvaluate A a
Motive _ = Unit {1}

one : (q : Question) (a : Answer) (js : List Judgement) → js ≡ gives q a ∷ [] → All Motive js → Motive (gives q a)
one q a js e h = let g : All Motive (gives q a ∷ []) = subst (All Motive) e h in g.0

select_case : (r : Rule) (c : Context) (cur : Cursor) (i : ℕ) (a : Answer) (js : List Judgement) → Follows r (SelectIndex c cur i) a js → All Motive js → AfterSelect c cur a
select_case R.Idx2 c cur i a js (t, rest, d, new, path, there, same, p, q) hs =
    subst (AfterSelect c cur) (sym q) (selects_below c d cur new t rest path there (one (SelectIndex d (cursor rest cur.last) i) (ToCursor new) js p hs))
select_case R.Idx3 c cur (suc i) a js (j, new, path, link, some, p, q) hs =
    subst (AfterSelect c cur) (sym q) (selects_further c cur new j path link (one (SelectIndex c (cursor [] (K.Elem j)) i) (ToCursor new) js p hs))
select_case R.Idx4 c cur (suc i) a js (j, new, path, link, empty, p, q) hs =
    subst (AfterSelect c cur) (sym q) (selects_further c cur new j path link (one (SelectIndex c (cursor [] (K.Elem j)) (suc i)) (ToCursor new) js p hs))
select_case R.Idx5 c cur zero a js (path, p, q) hs = subst (AfterSelect c cur) (sym q) (record { path = sym path; last = λ S h. inl refl })
select_case _ c cur i a js h hs = absurd h

-- a path with one more key, in two parts: the key ends the first or the second
pub data SplitAt (path : List Tagged) (t : Tagged) (q rest : List Tagged) : Type 0 where
  at_end : rest ≡ [] → path ++ t ∷ [] ≡ q → SplitAt path t q rest
  before : (r : List Tagged) → rest ≡ r ++ t ∷ [] → path ≡ q ++ r → SplitAt path t q rest

nothing_left : (t u : Tagged) (q rest : List Tagged) → t ∷ [] ≡ u ∷ (q ++ rest) → SplitAt [] t (u ∷ q) rest
nothing_left t u [] [] e = let s : t ≡ u = cc in at_end refl (λ i. s i ∷ [])
nothing_left t u [] (v ∷ rest) e = cc
nothing_left t u (v ∷ q) rest e = cc

pub split_at : (path : List Tagged) (t : Tagged) (q rest : List Tagged) → path ++ t ∷ [] ≡ q ++ rest → SplitAt path t q rest
split_at path t [] rest e = before path (sym e) refl
split_at [] t (u ∷ q) rest e = nothing_left t u q rest e
split_at (v ∷ path) t (u ∷ q) rest e =
    let s : v ≡ u = cc in
    let f : path ++ t ∷ [] ≡ q ++ rest = cc in
    go s (split_at path t q rest f)
  where
    go : v ≡ u → SplitAt path t q rest → SplitAt (v ∷ path) t (u ∷ q) rest
    go s (at_end x y) = at_end x (λ i. s i ∷ y i)
    go s (before r x y) = before r x (λ i. s i ∷ y i)

first_before : (r : List Tagged) (t : Tagged) (k : Key) → first_key (r ++ t ∷ []) k ≡ first_key r (key_of_tagged t)
first_before [] t k = refl
first_before (u ∷ r) t k = refl

tags_end : (path : List Tagged) (t : Tagged) → AllByRecursion HasContext path → HasContext t → AllByRecursion HasContext (path ++ t ∷ [])
tags_end [] t h g = (g, tt)
tags_end (u ∷ path) t h g = (h.0, tags_end path t h.1 g)

module _ (In : Op → Type 0) (ops : List Id) where
  -- a key of a map further down
  rooted_get : (cur : Cursor) (name : List ℕ) → IsRootedCursor In ops cur → IsRootedCursor In ops (cursor (cur.path ++ MapT cur.last ∷ []) (K.Name name))
  rooted_get cur name h =
      record {
        plain = tags_end cur.path (MapT cur.last) h.plain tt;
        rooted = λ above l k s. go above l k s (split_at cur.path (MapT cur.last) (above ++ ListT l ∷ []) s.0 s.1);
      }
    where
      go : (above : List Tagged) (l k : Key) (s : IsAtOrAbove (above ++ ListT l ∷ []) k (cur.path ++ MapT cur.last ∷ []) (K.Name name)) → SplitAt cur.path (MapT cur.last) (above ++ ListT l ∷ []) s.0 → IsRootKey In ops (above ++ ListT l ∷ []) k
      go above l k s (at_end x y) = let f : MapT cur.last ≡ ListT l = (same_ends cur.path above _ _ y).1 in cc
      go above l k s (before r x y) = h.rooted above l k (r, y, sym (ap (λ z. first_key z (K.Name name)) x ∙ first_before r (MapT cur.last) (K.Name name)) ∙ s.2)

  -- an element of a list further down
  rooted_index : (cur new : Cursor) → IsRootedCursor In ops cur → new.path ≡ cur.path ++ ListT cur.last ∷ [] → IsRootKey In ops (cur.path ++ ListT cur.last ∷ []) new.last → IsRootedCursor In ops new
  rooted_index cur new h path last =
      record {
        plain = subst (AllByRecursion HasContext) (sym path) (tags_end cur.path (ListT cur.last) h.plain tt);
        rooted = λ above l k s. go above l k s (split_at cur.path (ListT cur.last) (above ++ ListT l ∷ []) s.0 (sym path ∙ s.1));
      }
    where
      go : (above : List Tagged) (l k : Key) (s : IsAtOrAbove (above ++ ListT l ∷ []) k new.path new.last) → SplitAt cur.path (ListT cur.last) (above ++ ListT l ∷ []) s.0 → IsRootKey In ops (above ++ ListT l ∷ []) k
      go above l k s (at_end x y) =
          let same : new.last ≡ k = sym (ap (λ z. first_key z new.last) x) ∙ s.2 in
          subst (λ (z : List Tagged × Key). IsRootKey In ops z.0 z.1) (λ i. (y i, same i)) last
      go above l k s (before r x y) = h.rooted above l k (r, y, sym (ap (λ z. first_key z new.last) x ∙ first_before r (ListT cur.last) new.last) ∙ s.2)

  rooted_doc : IsRootedCursor In ops (cursor [] K.Doc)
  rooted_doc = record { plain = tt; rooted = λ above l k s. no above l k s.0 s.1 }
    where
      no : (above : List Tagged) (l k : Key) (rest : List Tagged) → [] ≡ (above ++ ListT l ∷ []) ++ rest → IsRootKey In ops (above ++ ListT l ∷ []) k
      no [] l k rest e = cc
      no (t ∷ above) l k rest e = cc

  weaker : (P : List Tagged) (n : LinksHold) → AreRightLinks In ops P n → Linked (IsRootKey In ops) P n
  weaker P n h = (all_second n h.keys, h.closed)
    where
      all_second : (es : LinksHold) → AllByRecursion (λ e. IsListPath P × IsRootKey In ops P e.0) es → AllByRecursion (λ e. IsRootKey In ops P e.0) es
      all_second [] a = tt
      all_second (e ∷ es) a = (a.0.1, all_second es a.1)

evaluate_case : (r : Rule) (A : State) (e : Expr) (a : Answer) (js : List Judgement) → Follows r (Evaluate A e) a js → All Motive js → AfterEvaluate A a
evaluate_case R.Var A (Variable x) a js (b, found, p, q) hs = subst (AfterEvaluate A) (sym q) (λ In h. value-found names_total exact_names (IsRootedBound In A.ops) x b A.vars h.vars found)
evaluate_case R.Doc A TheDoc a js (p, q) hs = subst (AfterEvaluate A) (sym q) (λ In h. rooted_doc In A.ops)
evaluate_case R.Get A (GetKey e name) a js (cur, p, other, short, q) hs =
    let inner : (In : Op → Type 0) → IsKnown In A → IsRootedCursor In A.ops cur = one (Evaluate A e) (ToBound (ACursor cur)) js p hs in
    subst (AfterEvaluate A) (sym q) (λ In h. rooted_get In A.ops cur name (inner In h))
evaluate_case R.Idx1 A (Index e i) a js (cur, new, short, p, q) hs =
    let all : All Motive (gives (Evaluate A e) (ToBound (ACursor cur)) ∷ gives (SelectIndex A.tree (cursor (cur.path ++ ListT cur.last ∷ []) K.Head) i) (ToCursor new) ∷ []) = subst (All Motive) p hs in
    subst (AfterEvaluate A) (sym q) (λ In h. rooted_index In A.ops cur new (all.0 In h) all.1.0.path (at In h (all.1.0.last (IsRootKey In A.ops) (all_follow _ _ A.tree (weaker In A.ops) h.tree))))
  where
    at : (In : Op → Type 0) → IsKnown In A → (new.last ≡ K.Head) ⊎ IsRootKey In A.ops (cur.path ++ ListT cur.last ∷ []) new.last → IsRootKey In A.ops (cur.path ++ ListT cur.last ∷ []) new.last
    at In h (inl e) = head e
    at In h (inr s) = s
evaluate_case R.Keys1 A (KeysOf e) a js (cur, ks, p, q) hs = subst (AfterEvaluate A) (sym q) (λ In h. tt)
evaluate_case R.Val1 A (ValuesOf e) a js (cur, vs, p, q) hs = subst (AfterEvaluate A) (sym q) (λ In h. tt)
evaluate_case _ A e a js h hs = absurd h

step : (r : Rule) (q : Question) (a : Answer) (js : List Judgement) → Follows r q a js → All Motive js → Motive (gives q a)
step r (SelectIndex c cur i) a js h hs = select_case r c cur i a js h hs
step r (Evaluate A e) a js h hs = evaluate_case r A e a js h hs
step r _ a js h hs = tt

-- what an expression gives is rooted
pub evaluated : (In : Op → Type 0) (A : State) (e : Expr) (b : Bound) → IsKnown In A → IsAnswered (Evaluate A e) (ToBound b) → IsRootedBound In A.ops b
evaluated In A e b h s = let all : AfterEvaluate A (ToBound b) = subst Motive s.concludes (by_rules Motive step s.derivation s.holds) in all In h
