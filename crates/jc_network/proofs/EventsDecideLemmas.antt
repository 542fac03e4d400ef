-- Lemmas about progress: each question of expressions, commands and events has an answer or is refused.
use Rattle.std.proofs.Common.{◌≡◌, ◌≢◌, ℕ, zero, suc, ◌+◌, ◌≤◌, ◌<◌, List, [], ◌∷◌, ◌++◌, length, Option, Some, None, Bool, true, false, ◌||◌, ◌⊎◌, inl, inr, slice_get, refl, sym, ◌∙◌, ap, subst, arith}
use Rattle.std.specs.List.{AllByRecursion}
use Rattle.std.proofs.lemmas.Bool.{cases_lt}
use Rattle.jc_rules.specs.declared.id.Id.{Id}
use Rattle.jc_rules.specs.declared.key.Key.{Key}
use Rattle.jc_rules.specs.declared.key.Key.TheVariants as K
use Rattle.jc_rules.specs.declared.key.Next.{Next}
use Rattle.jc_rules.specs.declared.key.Next.TheVariants.{Tail, Elem as To}
use Rattle.jc_rules.specs.declared.key.Tagged.{Tagged}
use Rattle.jc_rules.specs.declared.key.Tagged.TheVariants.{MapT, ListT, RegT}
use Rattle.jc_rules.specs.declared.operation.Cursor.{Cursor}
use Rattle.jc_rules.specs.declared.operation.Op.{Op}
use Rattle.jc_rules.specs.declared.operation.Event.{Event}
use Rattle.jc_rules.specs.declared.operation.Event.TheVariants as E
use Rattle.jc_rules.specs.declared.operation.Mutation.{Mutation}
use Rattle.jc_rules.specs.declared.operation.Mutation.TheVariants as M
use Rattle.jc_rules.specs.declared.refusal.Refusal.TheVariants as F
use Rattle.jc_rules.specs.declared.rule.Rule.{Rule}
use Rattle.jc_rules.specs.declared.rule.Rule.TheVariants as R
use Rattle.jc_rules.specs.Order.{key_cmp, name_cmp, same_id}
use Rattle.jc_rules.specs.Entries.{find}
use Rattle.jc_rules.specs.Ids.{has_id, greatest, AreIn}
use Rattle.jc_rules.specs.Context.{Context, Node, Values, Register, maps, lists, registers, content, presence, next}
use Rattle.jc_rules.specs.WellFormed.{LeadsThrough, IsChained}
use Rattle.jc_rules.specs.Sound.{IsInsert}
use Rattle.jc_rules.specs.Paths.{HasContext}
use Rattle.jc_rules.specs.State.{State, Bound, ACursor, Names, Pairs}
use Rattle.jc_rules.specs.Step.{Step, replica_of, read_by}
use Rattle.jc_rules.specs.Syntax.{Expr, TheDoc, Variable, GetKey, Index, KeysOf, ValuesOf, Cmd, LetIn, SetTo, InsertAfter, DeleteAt, Yield}
use Rattle.jc_rules.specs.Derivation.{Question, Occur, Run, Evaluate, SelectIndex, SelectKeys, SelectValues, Make, ApplyOp, Operate, Child, Answer, ToState, ToBound, ToCursor, ToNames, ToPairs, ToContext, ToContent}
use Rattle.jc_rules.specs.Table.{cursor, moved, IsEmptyIds, names_in, op_of}
use Rattle.jc_rules.specs.Refused.{Cause, because, no_node, IsAnswered, IsYieldEvent, first_expr, WantsCursor, Refused, no_command, at_yield, in_command, no_yield, not_at_yield, not_acted, not_received, not_offered, already_applied, deps_missing, in_first, not_a_cursor, in_making, in_made, in_applied, unbound, get_on_head, get_too_deep, index_too_deep, in_index, in_keys, in_values, index_no_node, keys_no_node, values_no_node, index_below, keys_below, values_below, past_end, in_counted, in_passed, no_map, no_register, operate_below, not_in_list, IsStuck, no_replica, no_sender, refused}
use Rattle.jc_rules.proofs.IdsLemmas.{same_id-self, same_id-true}
use Rattle.jc_tree.proofs.ChainedBelowLemmas.{map_below, list_below}
use Rattle.jc_tree.proofs.ChainedLeadsLemmas.{leads_from}
use Rattle.jc_apply.specs.Fits.{child_context, InChild}
use Rattle.jc_rules.specs.ContextsAt.{node_in}
use Rattle.jc_network.specs.LinksEverywhere.{Reach}
use Rattle.jc_network.specs.RunInvariant.{IsReplicaAt, IsMadeOp, IsKnown, IsWell}
use Rattle.jc_network.proofs.ClearAnswersLemmas.{by_rule}
use Rattle.jc_network.proofs.CursorsLemmas.{evaluated}
use Rattle.jc_network.proofs.EventDidLemmas.{new_op}
use Rattle.jc_network.proofs.FitsLemmas.{wanted}
use Rattle.jc_network.proofs.MembersLemmas.{op_in}
use Rattle.jc_network.proofs.ProgressLemmas.{IsGood, good_map, good_list, Entered, enters, child_answered, add_answered, assign_answered, delete_answered, here_answered, operation_answered, unreached}
use Rattle.jc_rules.proofs.IdSetLemmas.{member_greatest}
use Rattle.jc_network.proofs.RootedLemmas.{child_there}

-- the question has an answer of this kind, or is refused
abbrev pub Decided : {X : Type 0} → (X → Answer) → Question → Type 0
Decided {X = X} kind q = ((x : X) × IsAnswered q (kind x)) ⊎ ((why : Cause) × Refused q why)

-- ---- along a list

abbrev Indexed : List Tagged → Context → Key → ℕ → Type 0
Indexed P c k i = Decided (λ n. ToCursor (cursor P n)) (SelectIndex c (cursor P k) i)

none_or_some : (o : Option (List Id)) → IsEmptyIds o ⊎ (IsEmptyIds o → ⊥)
none_or_some None = inl tt
none_or_some (Some []) = inl tt
none_or_some (Some (i ∷ is)) = inr (λ h. h)

at_place : (c : Context) (k : Key) → Indexed [] c k 0
at_place c k = inl (k, by_rule R.Idx5 (SelectIndex c (cursor [] k) zero) (ToCursor (cursor [] k)) [] (refl, refl, refl) tt)

at_end : (c : Context) (k : Key) (i : ℕ) → ((j : Id) → next k c ≢ Some (To j)) → Indexed [] c k i
at_end c k zero h = at_place c k
at_end c k (suc i) h = inr (because F.PastEnd, past_end refl h)

along : (is : List Id) (c : Context) (k : Key) (i : ℕ) → LeadsThrough c k is → Indexed [] c k i
along [] c k i l = at_end c k i (λ j e. let f : Some Tail ≡ Some (To j) = sym l ∙ e in cc)
along (j ∷ is) c k zero l = at_place c k
along (j ∷ is) c k (suc i) l = go (none_or_some (presence (K.Elem j) c)) (along is c (K.Elem j) i l.1) (along is c (K.Elem j) (suc i) l.1)
  where
    go : IsEmptyIds (presence (K.Elem j) c) ⊎ (IsEmptyIds (presence (K.Elem j) c) → ⊥) → Indexed [] c (K.Elem j) i → Indexed [] c (K.Elem j) (suc i) → Indexed [] c k (suc i)
    go (inl e) a (inl (n, s)) = inl (n, by_rule R.Idx4 (SelectIndex c (cursor [] k) (suc i)) _ _ (j, cursor [] n, refl, l.0, e, refl, refl) (s, tt))
    go (inl e) a (inr (why, r)) = inr (why, in_passed refl l.0 e r)
    go (inr h) (inl (n, s)) b = inl (n, by_rule R.Idx3 (SelectIndex c (cursor [] k) (suc i)) _ _ (j, cursor [] n, refl, l.0, h, refl, refl) (s, tt))
    go (inr h) (inr (why, r)) b = inr (why, in_counted refl l.0 h r)

here_index : (c : Context) (k : Key) (i : ℕ) → IsGood c → Indexed [] c k i
here_index c k i h = go (next k c) refl
  where
    go : (o : Option Next) → next k c ≡ o → Indexed [] c k i
    go None e = at_end c k i (λ j f. let g : None ≡ Some (To j) = sym e ∙ f in cc)
    go (Some x) e = let from = leads_from c k x (h.chain k x e) e in along from.elements c k i from.leads

-- ---- down a path

-- what stands under a key with the tag of a context
data Below (c : Context) (t : Tagged) : Type 0 where
  absent : content t c ≡ None → Below c t
  present : (d : Context) → content t c ≡ Some (Node d) → IsGood d → Below c t

below_is : (t : Tagged) (c : Context) → HasContext t → IsGood c → Below c t
below_is (MapT k) c h g = go (find key_cmp k (maps c)) refl
  where
    go : (o : Option Context) → find key_cmp k (maps c) ≡ o → Below c (MapT k)
    go None e = absent (rw e refl)
    go (Some d) e = let f : content (MapT k) c ≡ Some (Node d) = rw e refl in present d f (good_map d (map_below k c d f g.below))
below_is (ListT k) c h g = go (find key_cmp k (lists c)) refl
  where
    go : (o : Option Context) → find key_cmp k (lists c) ≡ o → Below c (ListT k)
    go None e = absent (rw e refl)
    go (Some d) e = let f : content (ListT k) c ≡ Some (Node d) = rw e refl in present d f (good_list d (list_below k c d f g.below))
below_is (RegT k) c h g = absurd h

index_decided : (P : List Tagged) (c : Context) (k : Key) (i : ℕ) → IsGood c → AllByRecursion HasContext P → Indexed P c k i
index_decided [] c k i g h = here_index c k i g
index_decided (t ∷ rest) c k i g h = go (below_is t c h.0 g) (λ d b. index_decided rest d k i b h.1)
  where
    on : (d : Context) → content t c ≡ Some (Node d) → Indexed rest d k i → Indexed (t ∷ rest) c k i
    on d e (inl (n, s)) = inl (n, by_rule R.Idx2 (SelectIndex c (cursor (t ∷ rest) k) i) _ _ (t, rest, d, cursor rest n, refl, e, refl, refl, refl) (s, tt))
    on d e (inr (why, r)) = inr (why, index_below refl e r)

    go : Below c t → ((d : Context) → IsGood d → Indexed rest d k i) → Indexed (t ∷ rest) c k i
    go (absent e) f = inr (no_node t, index_no_node refl e)
    go (present d e b) f = on d e (f d b)

abbrev Keyed : List Tagged → Context → Key → Type 0
Keyed P c k = Decided ToNames (SelectKeys c (cursor P k))

keys_decided : (P : List Tagged) (c : Context) (k : Key) → IsGood c → AllByRecursion HasContext P → Keyed P c k
keys_decided [] c k g h = go (below_is (MapT k) c tt g)
  where
    go : Below c (MapT k) → Keyed [] c k
    go (absent e) = inr (because F.NoMap, no_map refl e)
    go (present d e b) = inl (names_in d, by_rule R.Keys2 (SelectKeys c (cursor [] k)) _ [] (d, refl, e, refl, refl) tt)
keys_decided (t ∷ rest) c k g h = go (below_is t c h.0 g) (λ d b. keys_decided rest d k b h.1)
  where
    on : (d : Context) → content t c ≡ Some (Node d) → Keyed rest d k → Keyed (t ∷ rest) c k
    on d e (inl (ks, s)) = inl (ks, by_rule R.Keys3 (SelectKeys c (cursor (t ∷ rest) k)) _ _ (t, rest, d, ks, refl, e, refl, refl) (s, tt))
    on d e (inr (why, r)) = inr (why, keys_below refl e r)

    go : Below c t → ((d : Context) → IsGood d → Keyed rest d k) → Keyed (t ∷ rest) c k
    go (absent e) f = inr (no_node t, keys_no_node refl e)
    go (present d e b) f = on d e (f d b)

abbrev Valued : List Tagged → Context → Key → Type 0
Valued P c k = Decided ToPairs (SelectValues c (cursor P k))

values_decided : (P : List Tagged) (c : Context) (k : Key) → IsGood c → AllByRecursion HasContext P → Valued P c k
values_decided [] c k g h = go (find key_cmp k (registers c)) refl
  where
    go : (o : Option Register) → find key_cmp k (registers c) ≡ o → Valued [] c k
    go None e = let f : content (RegT k) c ≡ None = rw e refl in inr (because F.NoRegister, no_register refl f)
    go (Some r) e = let f : content (RegT k) c ≡ Some (Values r) = rw e refl in inl (r, by_rule R.Val2 (SelectValues c (cursor [] k)) _ [] (r, refl, f, refl, refl) tt)
values_decided (t ∷ rest) c k g h = go (below_is t c h.0 g) (λ d b. values_decided rest d k b h.1)
  where
    on : (d : Context) → content t c ≡ Some (Node d) → Valued rest d k → Valued (t ∷ rest) c k
    on d e (inl (vs, s)) = inl (vs, by_rule R.Val3 (SelectValues c (cursor (t ∷ rest) k)) _ _ (t, rest, d, vs, refl, e, refl, refl) (s, tt))
    on d e (inr (why, r)) = inr (why, values_below refl e r)

    go : Below c t → ((d : Context) → IsGood d → Valued rest d k) → Valued (t ∷ rest) c k
    go (absent e) f = inr (no_node t, values_no_node refl e)
    go (present d e b) f = on d e (f d b)

-- ---- operations

operation_decided : (path : List Tagged) (c : Context) (o : Op) → o.cursor.path ≡ path → IsGood c → AllByRecursion HasContext path
    → (IsInsert o.mutation → Reach c path (K.Elem o.id) → ⊥)
    → Decided ToContext (Operate c o)
operation_decided [] c o path g plain fresh = go o.mutation refl
  where
    insert : (v : _) → o.mutation ≡ M.Insert v → (x : Option Next) → next o.cursor.last c ≡ x → Decided ToContext (Operate c o)
    insert v m None e = inr (because F.NotInList, not_in_list path m e)
    insert v m (Some x) e =
        inl (here_answered c o (M.Insert v) g path m (λ is f. let n : Some x ≡ None = sym e ∙ f in cc) (λ is. fresh (subst IsInsert (sym m) is)))

    go : (m : Mutation) → o.mutation ≡ m → Decided ToContext (Operate c o)
    go (M.Assign v) m = inl (assign_answered c o v g.below path m)
    go (M.Insert v) m = insert v m (next o.cursor.last c) refl
    go M.Delete m = inl (delete_answered c o g.below path m)
operation_decided (t ∷ rest) c o path g plain fresh =
    let x = child_there t c plain.0 in
    let child : Entered c t = enters c t plain.0 g x.0 x.1 in
    let there : child_context t c ≡ Some child.node = ap (λ y. node_in (Some y)) (sym child.is) in
    let first : IsAnswered (Child c t) (ToContent (Node child.node)) = subst (λ y. IsAnswered (Child c t) (ToContent y)) (sym child.is) (child_answered c t) in
    go child.node first (operation_decided rest child.node (moved o rest o.cursor.last o.mutation) refl child.good plain.1
    (λ is r. fresh is (subst (λ y. InChild y (λ b. Reach b rest (K.Elem o.id))) (sym there) r)))
  where
    go : (d : Context) → IsAnswered (Child c t) (ToContent (Node d)) → Decided ToContext (Operate d (moved o rest o.cursor.last o.mutation)) → Decided ToContext (Operate c o)
    go d first (inl (b, s)) = let add = add_answered c t o.id o.mutation in inl (_, by_rule R.Descend (Operate c o) _ _ (t, rest, d, b, add.0, path, refl, refl) (first, (s, (add.1, tt))))
    go d first (inr (why, r)) = inr (why, operate_below path first r)

-- ---- expressions

all_and : (P : Tagged → Type 0) (ts : List Tagged) (t : Tagged) → AllByRecursion P ts → P t → AllByRecursion P (ts ++ t ∷ [])
all_and P [] t h p = (p, tt)
all_and P (u ∷ ts) t h p = (h.0, all_and P ts t h.1 p)

-- a question that wants a cursor first
with_cursor : {X : Type 0} (kind : X → Answer) (q : Question) (A : State) (e : Expr) → first_expr q ≡ Some (A, e) → WantsCursor q → Decided ToBound (Evaluate A e)
    → ((cur : Cursor) → IsAnswered (Evaluate A e) (ToBound (ACursor cur)) → Decided kind q)
    → Decided kind q
with_cursor kind q A e f w (inr (why, r)) k = inr (why, in_first f r)
with_cursor kind q A e f w (inl (ACursor cur, s)) k = k cur s
with_cursor kind q A e f w (inl (Names ks, s)) k = inr (because F.NotACursor, not_a_cursor f w s (λ h. h))
with_cursor kind q A e f w (inl (Pairs vs, s)) k = inr (because F.NotACursor, not_a_cursor f w s (λ h. h))

head_or_not : (k : Key) → (k ≡ K.Head) ⊎ (k ≢ K.Head)
head_or_not K.Head = inl refl
head_or_not _ = inr (λ e. cc)

module _ (In : Op → Type 0) (A : State) (known : IsKnown In A) (good : IsGood A.tree) where
  plain : (e : Expr) (cur : Cursor) → IsAnswered (Evaluate A e) (ToBound (ACursor cur)) → AllByRecursion HasContext cur.path
  plain e cur s = (evaluated In A e (ACursor cur) known s).plain

  got : (e : Expr) (name : List ℕ) (cur : Cursor) → IsAnswered (Evaluate A e) (ToBound (ACursor cur)) → Decided ToBound (Evaluate A (GetKey e name))
  got e name cur s = go (head_or_not cur.last) (cases_lt 511 (length cur.path))
    where
      go : (cur.last ≡ K.Head) ⊎ (cur.last ≢ K.Head) → (511 < length cur.path) ⊎ (length cur.path ≤ 511) → Decided ToBound (Evaluate A (GetKey e name))
      go (inl h) l = inr (because F.GetOnHead, get_on_head s h)
      go (inr n) (inl l) = inr (because F.TooDeep, get_too_deep s n l)
      go (inr n) (inr l) = inl (_, by_rule R.Get (Evaluate A (GetKey e name)) _ _ (cur, refl, n, l, refl) (s, tt))

  indexed : (e : Expr) (i : ℕ) (cur : Cursor) → IsAnswered (Evaluate A e) (ToBound (ACursor cur)) → Decided ToBound (Evaluate A (Index e i))
  indexed e i cur s = go (cases_lt 511 (length cur.path))
    where
      list : List Tagged
      list = cur.path ++ ListT cur.last ∷ []

      on : length cur.path ≤ 511 → Indexed list A.tree K.Head i → Decided ToBound (Evaluate A (Index e i))
      on l (inl (n, t)) = inl (_, by_rule R.Idx1 (Evaluate A (Index e i)) _ _ (cur, cursor list n, l, refl, refl) (s, (t, tt)))
      on l (inr (why, r)) = inr (why, in_index s l r)

      go : (511 < length cur.path) ⊎ (length cur.path ≤ 511) → Decided ToBound (Evaluate A (Index e i))
      go (inl l) = inr (because F.TooDeep, index_too_deep s l)
      go (inr l) = on l (index_decided list A.tree K.Head i good (all_and HasContext cur.path (ListT cur.last) (plain e cur s) tt))

  keyed : (e : Expr) (cur : Cursor) → IsAnswered (Evaluate A e) (ToBound (ACursor cur)) → Decided ToBound (Evaluate A (KeysOf e))
  keyed e cur s = go (keys_decided cur.path A.tree cur.last good (plain e cur s))
    where
      go : Decided ToNames (SelectKeys A.tree cur) → Decided ToBound (Evaluate A (KeysOf e))
      go (inl (ks, t)) = inl (_, by_rule R.Keys1 (Evaluate A (KeysOf e)) _ _ (cur, ks, refl, refl) (s, (t, tt)))
      go (inr (why, r)) = inr (why, in_keys s r)

  valued : (e : Expr) (cur : Cursor) → IsAnswered (Evaluate A e) (ToBound (ACursor cur)) → Decided ToBound (Evaluate A (ValuesOf e))
  valued e cur s = go (values_decided cur.path A.tree cur.last good (plain e cur s))
    where
      go : Decided ToPairs (SelectValues A.tree cur) → Decided ToBound (Evaluate A (ValuesOf e))
      go (inl (vs, t)) = inl (_, by_rule R.Val1 (Evaluate A (ValuesOf e)) _ _ (cur, vs, refl, refl) (s, (t, tt)))
      go (inr (why, r)) = inr (why, in_values s r)

  evaluate_decided : (e : Expr) → Decided ToBound (Evaluate A e)
  evaluate_decided TheDoc = inl (ACursor (cursor [] K.Doc), by_rule R.Doc (Evaluate A TheDoc) _ [] (refl, refl) tt)
  evaluate_decided (Variable x) = go (find name_cmp x A.vars) refl
    where
      go : (o : Option Bound) → find name_cmp x A.vars ≡ o → Decided ToBound (Evaluate A (Variable x))
      go None e = inr (because F.UnboundVariable, unbound e)
      go (Some b) e = inl (b, by_rule R.Var (Evaluate A (Variable x)) (ToBound b) [] (b, e, refl, refl) tt)
  evaluate_decided (GetKey e name) = with_cursor ToBound (Evaluate A (GetKey e name)) A e refl tt (evaluate_decided e) (got e name)
  evaluate_decided (Index e i) = with_cursor ToBound (Evaluate A (Index e i)) A e refl tt (evaluate_decided e) (indexed e i)
  evaluate_decided (KeysOf e) = with_cursor ToBound (Evaluate A (KeysOf e)) A e refl tt (evaluate_decided e) (keyed e)
  evaluate_decided (ValuesOf e) = with_cursor ToBound (Evaluate A (ValuesOf e)) A e refl tt (evaluate_decided e) (valued e)

-- ---- events

pub yield_or_not : (c : Cmd) → (c ≡ Yield) ⊎ (c ≢ Yield)
yield_or_not Yield = inl refl
yield_or_not _ = inr (λ f. cc)

in_or_not : (s t : List Id) → AreIn s t ⊎ (AreIn s t → ⊥)
in_or_not [] t = inl (λ i h. let f : false ≡ true = h in cc)
in_or_not (j ∷ s) t = go (has_id j t) refl (in_or_not s t)
  where
    later : (i : Id) → has_id i s ≡ true → has_id i (j ∷ s) ≡ true
    later i h = either (same_id i j)
      where
        either : (b : Bool) → (b || has_id i s) ≡ true
        either true = refl
        either false = h

    all : has_id j t ≡ true → AreIn s t → (i : Id) (b : Bool) → same_id i j ≡ b → (b || has_id i s) ≡ true → has_id i t ≡ true
    all e a i true f h = subst (λ (k : Id). has_id k t ≡ true) (sym (same_id-true i j f)) e
    all e a i false f h = a i h

    go : (b : Bool) → has_id j t ≡ b → AreIn s t ⊎ (AreIn s t → ⊥) → AreIn (j ∷ s) t ⊎ (AreIn (j ∷ s) t → ⊥)
    go true e (inl a) = inl (λ i h. all e a i (same_id i j) refl h)
    go true e (inr n) = inr (λ a. n (λ i h. a i (later i h)))
    go false e x = inr (λ a. let f : has_id j t ≡ true = a j (rw (same_id-self j) refl) in let g : false ≡ true = sym e ∙ f in cc)

module _ (N : List State) (w : IsWell N) (p : ℕ) (A : State) (there : IsReplicaAt N p A) (chained : IsChained A.tree) where
  good : IsGood A.tree
  good = good_map A.tree chained

  expression : (e : Expr) → Decided ToBound (Evaluate A e)
  expression e = evaluate_decided (IsMadeOp N) A (w.trees.known p A there) good e

  abbrev next_id : Id
  next_id = record { counter = greatest A.ops + 1; replica = p }

  next_unapplied : has_id next_id A.ops ≡ false
  next_unapplied = go (has_id next_id A.ops) refl
    where
      go : (b : Bool) → has_id next_id A.ops ≡ b → has_id next_id A.ops ≡ false
      go false e = e
      go true e = let l : greatest A.ops + 1 ≤ greatest A.ops = member_greatest next_id A.ops e in absurd (omega (arith, l))

  made : (cur : Cursor) (m : Mutation) → AllByRecursion HasContext cur.path → Decided ToState (Make p A cur m)
  made cur m h = go (operation_decided cur.path A.tree (new_op p A cur m) refl good h (λ is r. unreached N w p A there next_id next_unapplied cur.path r))
    where
      go : Decided ToContext (Operate A.tree (new_op p A cur m)) → Decided ToState (Make p A cur m)
      go (inl (t, s)) = inl (_, by_rule R.MakeOp (Make p A cur m) _ _ (_, refl, refl) (by_rule R.ApplyLocal (ApplyOp p A (new_op p A cur m)) _ _ (t, refl, refl) (s, tt), tt))
      go (inr (why, r)) = inr (why, in_made (in_applied r))

  cursor_of : (e : Expr) (cur : Cursor) → IsAnswered (Evaluate A e) (ToBound (ACursor cur)) → AllByRecursion HasContext cur.path
  cursor_of e cur s = (evaluated (IsMadeOp N) A e (ACursor cur) (w.trees.known p A there) s).plain

  ran : (c : Cmd) → c ≢ Yield → Decided ToState (Run p A c)
  ran (LetIn x e) n = go (expression e)
    where
      go : Decided ToBound (Evaluate A e) → Decided ToState (Run p A (LetIn x e))
      go (inl (b, s)) = inl (_, by_rule R.Let (Run p A (LetIn x e)) _ _ (b, refl, refl) (s, tt))
      go (inr (why, r)) = inr (why, in_first refl r)
  ran (SetTo e v) n = with_cursor ToState (Run p A (SetTo e v)) A e refl tt (expression e) (λ cur s. go cur s (made cur (M.Assign v) (cursor_of e cur s)))
    where
      go : (cur : Cursor) → IsAnswered (Evaluate A e) (ToBound (ACursor cur)) → Decided ToState (Make p A cur (M.Assign v)) → Decided ToState (Run p A (SetTo e v))
      go cur s (inl (B, t)) = inl (B, by_rule R.MakeAssign (Run p A (SetTo e v)) _ _ (cur, B, refl, refl) (s, (t, tt)))
      go cur s (inr (why, r)) = inr (why, in_making refl s r)
  ran (InsertAfter e v) n = with_cursor ToState (Run p A (InsertAfter e v)) A e refl tt (expression e) (λ cur s. go cur s (made cur (M.Insert v) (cursor_of e cur s)))
    where
      go : (cur : Cursor) → IsAnswered (Evaluate A e) (ToBound (ACursor cur)) → Decided ToState (Make p A cur (M.Insert v)) → Decided ToState (Run p A (InsertAfter e v))
      go cur s (inl (B, t)) = inl (B, by_rule R.MakeInsert (Run p A (InsertAfter e v)) _ _ (cur, B, refl, refl) (s, (t, tt)))
      go cur s (inr (why, r)) = inr (why, in_making refl s r)
  ran (DeleteAt e) n = with_cursor ToState (Run p A (DeleteAt e)) A e refl tt (expression e) (λ cur s. go cur s (made cur M.Delete (cursor_of e cur s)))
    where
      go : (cur : Cursor) → IsAnswered (Evaluate A e) (ToBound (ACursor cur)) → Decided ToState (Make p A cur M.Delete) → Decided ToState (Run p A (DeleteAt e))
      go cur s (inl (B, t)) = inl (B, by_rule R.MakeDelete (Run p A (DeleteAt e)) _ _ (cur, B, refl, refl) (s, (t, tt)))
      go cur s (inr (why, r)) = inr (why, in_making refl s r)
  ran Yield n = absurd (n refl)

  executed : (read : List Op) → Decided ToState (Occur A (E.Exec p) read)
  executed read = go A.left refl
    where
      on : (c : Cmd) (rest : List Cmd) → A.left ≡ c ∷ rest → c ≢ Yield → Decided ToState (Run p A c) → Decided ToState (Occur A (E.Exec p) read)
      on c rest e n (inl (B, s)) = inl (_, by_rule R.Exec (Occur A (E.Exec p) read) _ _ (c, rest, B, e, n, refl, refl) (s, tt))
      on c rest e n (inr (why, r)) = inr (why, in_command e n r)

      either : (c : Cmd) (rest : List Cmd) → A.left ≡ c ∷ rest → (c ≡ Yield) ⊎ (c ≢ Yield) → Decided ToState (Occur A (E.Exec p) read)
      either c rest e (inl y) = inr (because F.AtYield, at_yield (e ∙ ap (λ d. d ∷ rest) y))
      either c rest e (inr n) = on c rest e n (ran c n)

      go : (left : List Cmd) → A.left ≡ left → Decided ToState (Occur A (E.Exec p) read)
      go [] e = inr (because F.NoCommand, no_command e)
      go (c ∷ rest) e = either c rest e (yield_or_not c)

  at_a_yield : (event : Event) (read : List Op) → IsYieldEvent event → ((rest : List Cmd) → A.left ≡ Yield ∷ rest → Decided ToState (Occur A event read)) → Decided ToState (Occur A event read)
  at_a_yield event read y k = go A.left refl
    where
      either : (c : Cmd) (rest : List Cmd) → A.left ≡ c ∷ rest → (c ≡ Yield) ⊎ (c ≢ Yield) → Decided ToState (Occur A event read)
      either c rest e (inl f) = k rest (e ∙ ap (λ d. d ∷ rest) f)
      either c rest e (inr n) = inr (because F.NotAtYield, not_at_yield y e n)

      go : (left : List Cmd) → A.left ≡ left → Decided ToState (Occur A event read)
      go [] e = inr (because F.NoCommand, no_yield y e)
      go (c ∷ rest) e = either c rest e (yield_or_not c)

  received : (i : Id) (read : List Op) (rest : List Cmd) → A.left ≡ Yield ∷ rest → Decided ToState (Occur A (E.Apply p i) read)
  received i read rest left = go (op_of i A.recv) refl
    where
      with_deps : (o : Op) → op_of i A.recv ≡ Some o → has_id i A.ops ≡ false → AreIn o.deps A.ops ⊎ (AreIn o.deps A.ops → ⊥) → Decided ToState (Occur A (E.Apply p i) read)
      with_deps o e f (inr n) = inr (because F.DepsMissing, deps_missing left e f n)
      with_deps o e f (inl d) =
          let x = op_in i A.recv o e in
          let m = w.sets.received p A o there x.0 in
          let un : has_id o.id A.ops ≡ false = subst (λ j. has_id j A.ops ≡ false) (sym x.1) f in
          let t = operation_answered o.cursor.path A.tree o refl good (w.trees.rooted o m).plain (wanted N w p A there o m d) (λ is r. unreached N w p A there o.id un o.cursor.path r) in
          inl (_, by_rule R.ApplyRemote (Occur A (E.Apply p i) read) _ _ (rest, o, t.0, left, e, f, d, refl, refl) (t.1, tt))

      known : (o : Op) → op_of i A.recv ≡ Some o → (b : Bool) → has_id i A.ops ≡ b → Decided ToState (Occur A (E.Apply p i) read)
      known o e true f = inr (because F.AlreadyApplied, already_applied left e f)
      known o e false f = with_deps o e f (in_or_not o.deps A.ops)

      go : (x : Option Op) → op_of i A.recv ≡ x → Decided ToState (Occur A (E.Apply p i) read)
      go None e = inr (because F.NotReceived, not_received left e)
      go (Some o) e = known o e (has_id i A.ops) refl

  took : (q from : ℕ) (i : Id) (read : List Op) (rest : List Cmd) → A.left ≡ Yield ∷ rest → Decided ToState (Occur A (E.Take q from i) read)
  took q from i read rest left = go (op_of i read) refl
    where
      go : (x : Option Op) → op_of i read ≡ x → Decided ToState (Occur A (E.Take q from i) read)
      go None e = inr (because F.NotReceived, not_offered left e)
      go (Some o) e = inl (_, by_rule R.RecvOne (Occur A (E.Take q from i) read) _ [] (rest, o, left, e, refl, refl) tt)

  ended : (read : List Op) (rest : List Cmd) → A.left ≡ Yield ∷ rest → Decided ToState (Occur A (E.Done p) read)
  ended read rest left = go A.acted refl
    where
      go : (b : Bool) → A.acted ≡ b → Decided ToState (Occur A (E.Done p) read)
      go true e = inl (_, by_rule R.Done (Occur A (E.Done p) read) _ [] (rest, left, e, refl, refl) tt)
      go false e = inr (because F.NotActed, not_acted left e)

  event_decided : (event : Event) (read : List Op) → replica_of event ≡ p → Decided ToState (Occur A event read)
  event_decided (E.Exec q) read s = subst (λ n. Decided ToState (Occur A (E.Exec n) read)) (sym s) (executed read)
  event_decided (E.Send q) read s = at_a_yield (E.Send q) read tt (λ rest l. inl (_, by_rule R.Send (Occur A (E.Send q) read) _ [] (rest, l, refl, refl) tt))
  event_decided (E.Recv q from) read s = at_a_yield (E.Recv q from) read tt (λ rest l. inl (_, by_rule R.Recv (Occur A (E.Recv q from) read) _ [] (rest, l, refl, refl) tt))
  event_decided (E.Take q from i) read s = at_a_yield (E.Take q from i) read tt (took q from i read)
  event_decided (E.Apply q i) read s = subst (λ n. Decided ToState (Occur A (E.Apply n i) read)) (sym s) (at_a_yield (E.Apply p i) read tt (received i read))
  event_decided (E.Done q) read s = subst (λ n. Decided ToState (Occur A (E.Done n) read)) (sym s) (at_a_yield (E.Done p) read tt (ended read))

-- ---- networks

abbrev pub StepsOrStuck : List State → Event → Type 0
StepsOrStuck N event = ((M : List State) × (rows : List (Rule × ℕ)) × Step N event M rows) ⊎ ((why : Cause) × IsStuck N event why)

pub step_decided : (N : List State) → IsWell N → ((p : ℕ) (A : State) → IsReplicaAt N p A → IsChained A.tree) → (event : Event) → StepsOrStuck N event
step_decided N w chained event = go (slice_get N (replica_of event)) refl
  where
    on : (A : State) → IsReplicaAt N (replica_of event) A → (read : List Op) → read_by event N ≡ Some read → Decided ToState (Occur A event read) → StepsOrStuck N event
    on A there read f (inl (B, s)) = inl (_, _, record { before = A; after = B; read = read; derivation = s.derivation; is_there = there; reads = f; holds = s.holds; concludes = s.concludes; is_new = refl; is_trace = refl })
    on A there read f (inr (why, r)) = inr (why, refused there f r)

    reading : (A : State) → IsReplicaAt N (replica_of event) A → (o : Option (List Op)) → read_by event N ≡ o → StepsOrStuck N event
    reading A there None f = inr (because F.NoSuchReplica, no_sender f)
    reading A there (Some read) f = on A there read f (event_decided N w (replica_of event) A there (chained (replica_of event) A there) event read refl)

    go : (o : Option State) → slice_get N (replica_of event) ≡ o → StepsOrStuck N event
    go None e = inr (because F.NoSuchReplica, no_replica e)
    go (Some A) e = reading A e (read_by event N) refl
