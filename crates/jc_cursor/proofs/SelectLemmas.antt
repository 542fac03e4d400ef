-- About Evaluates: what each selector selects from a cursor, and why it is refused.
use Rattle.std.proofs.Common.{◌≡◌, ◌≢◌, ℕ, ◌<◌, ◌≤◌, List, [], ◌∷◌, ◌++◌, length, Option, Some, None, Result, Ok, Err, IfOk, IfErr, refl, ap, arith}
use Rattle.std.specs.Prelude.{IfSome, IsErrAnd}
use Rattle.jc_rules.specs.declared.id.Id.{Id}
use Rattle.jc_rules.specs.declared.key.Key.{Key}
use Rattle.jc_rules.specs.declared.key.Key.TheVariants as K
use Rattle.jc_rules.specs.declared.key.Tagged.{Tagged}
use Rattle.jc_rules.specs.declared.key.Tagged.TheVariants.{MapT, ListT, RegT}
use Rattle.jc_rules.specs.declared.limits.TheConstants.{MAX_PATH}
use Rattle.jc_rules.specs.declared.operation.Cursor.{Cursor}
use Rattle.jc_rules.specs.declared.refusal.Refusal.TheVariants as F
use Rattle.jc_rules.specs.declared.rule.Rule.TheVariants as R
use Rattle.jc_rules.specs.declared.value.Value.{Value}
use Rattle.jc_rules.specs.Context.{Context, Node, Values, Register, content}
use Rattle.jc_rules.specs.ContextsAt.{context_at}
use Rattle.jc_rules.specs.Syntax.{Expr, GetKey, Index, KeysOf, ValuesOf}
use Rattle.jc_rules.specs.State.{Bound, ACursor, Names, Pairs}
use Rattle.jc_rules.specs.Derivation.{Evaluate, SelectIndex, SelectKeys, SelectValues, ToBound, ToCursor, ToNames, ToPairs}
use Rattle.jc_rules.specs.Derives.{Derives}
use Rattle.jc_rules.specs.Refused as refused
use Rattle.jc_rules.specs.Refused.{Cause, because, Refused}
use Rattle.jc_rules.specs.Table.{cursor, names_in}
use Rattle.jc_rules.specs.Trace.{Rows, pushed, at_depth}
use Rattle.jc_rules.proofs.DerivesLemmas.{by_axiom, one_premise, two_premises}
use Rattle.jc_cursor.specs.WayDown.{Descends, Refuses, LeadsDown, RefusesDown, RefusedOnWay}
use Rattle.jc_cursor.specs.declared.evaluating.EvalFault.{EvalFault}
use Rattle.jc_cursor.specs.Evaluates.{Selects, RefusedAfter, eval_cause_of}

-- the three selections go down a path alike
index_descends : (k last : Key) (i : ℕ) → Descends R.Idx2 (λ path c. SelectIndex c (cursor path k) i) (λ path. ToCursor (cursor path last))
index_descends k last i = record { follows = λ k1 rest c d e. (k1, rest, d, cursor rest last, refl, e, refl, refl, refl) }

index_refuses : (k : Key) (i : ℕ) → Refuses (λ path c. SelectIndex c (cursor path k) i)
index_refuses k i = record { missing = λ k1 rest c e. refused.index_no_node refl e; below = λ k1 rest c d why e x. refused.index_below refl e x }

keys_descends : (k : Key) (ks : List (List ℕ)) → Descends R.Keys3 (λ path c. SelectKeys c (cursor path k)) (λ path. ToNames ks)
keys_descends k ks = record { follows = λ k1 rest c d e. (k1, rest, d, ks, refl, e, refl, refl) }

keys_refuses : (k : Key) → Refuses (λ path c. SelectKeys c (cursor path k))
keys_refuses k = record { missing = λ k1 rest c e. refused.keys_no_node refl e; below = λ k1 rest c d why e x. refused.keys_below refl e x }

values_descends : (k : Key) (vs : List (Id × Value)) → Descends R.Val3 (λ path c. SelectValues c (cursor path k)) (λ path. ToPairs vs)
values_descends k vs = record { follows = λ k1 rest c d e. (k1, rest, d, vs, refl, e, refl, refl) }

values_refuses : (k : Key) → Refuses (λ path c. SelectValues c (cursor path k))
values_refuses k = record { missing = λ k1 rest c e. refused.values_no_node refl e; below = λ k1 rest c d why e x. refused.values_below refl e x }

-- ---- what a selection selects from a path

pub index_down : (c : Context) (path : List Tagged) (i : ℕ) (k : Key) (t u v : Rows) → LeadsDown R.Idx2 path c t u → Derives (SelectIndex (context_at path c) (cursor [] K.Head) i) (ToCursor (cursor [] k)) u (at_depth u.depth v) → Derives (SelectIndex c (cursor path K.Head) i) (ToCursor (cursor path k)) t (at_depth t.depth v)
index_down c path i k t u v leads x = leads (λ p y. SelectIndex y (cursor p K.Head) i) (λ p. ToCursor (cursor p k)) (at_depth u.depth v) (index_descends K.Head k i) x

pub index_on_way : (c : Context) (path : List Tagged) (i : ℕ) (why : Cause) → RefusedOnWay path c why → Refused (SelectIndex c (cursor path K.Head) i) why
index_on_way c path i why r = r (λ p y. SelectIndex y (cursor p K.Head) i) (index_refuses K.Head i)

pub index_at_end : (c : Context) (path : List Tagged) (i : ℕ) (why : Cause) → RefusesDown path c → Refused (SelectIndex (context_at path c) (cursor [] K.Head) i) why → Refused (SelectIndex c (cursor path K.Head) i) why
index_at_end c path i why r x = r (λ p y. SelectIndex y (cursor p K.Head) i) why (index_refuses K.Head i) x

module _ (c : Context) (cur : Cursor) (path : List Tagged) (pe : path ≡ cur.path) where
  pub keys_down : (m : Context) (ks : List (List ℕ)) (t u v : Rows) → LeadsDown R.Keys3 path c t u → content (MapT cur.last) (context_at path c) ≡ Some (Node m) → ks ≡ names_in m → v ≡ pushed u R.Keys2 → Derives (SelectKeys c cur) (ToNames ks) t (at_depth t.depth v)
  keys_down m ks t u v leads n ke ve =
      let x : Derives (SelectKeys (context_at path c) (cursor [] cur.last)) (ToNames ks) u (pushed u R.Keys2) = by_axiom R.Keys2 _ _ u (m, refl, n, refl, ap (λ (y : List (List ℕ)). ToNames y) ke) in
      let y : Derives (SelectKeys c (cursor path cur.last)) (ToNames ks) t (at_depth t.depth (pushed u R.Keys2)) = leads (λ p y. SelectKeys y (cursor p cur.last)) (λ p. ToNames ks) (pushed u R.Keys2) (keys_descends cur.last ks) x in
      rw ve (rw pe at y)

  pub keys_on_way : (why : Cause) → RefusedOnWay path c why → Refused (SelectKeys c cur) why
  keys_on_way why r =
      let x : Refused (SelectKeys c (cursor path cur.last)) why = r (λ p y. SelectKeys y (cursor p cur.last)) (keys_refuses cur.last) in
      rw pe at x

  pub keys_no_map : RefusesDown path c → content (MapT cur.last) (context_at path c) ≡ None → Refused (SelectKeys c cur) (because F.NoMap)
  keys_no_map r n =
      let x : Refused (SelectKeys c (cursor path cur.last)) (because F.NoMap) = r (λ p y. SelectKeys y (cursor p cur.last)) (because F.NoMap) (keys_refuses cur.last) (refused.no_map refl n) in
      rw pe at x

  pub values_down : (r vs : Register) (t u v : Rows) → LeadsDown R.Val3 path c t u → content (RegT cur.last) (context_at path c) ≡ Some (Values r) → vs ≡ r → v ≡ pushed u R.Val2 → Derives (SelectValues c cur) (ToPairs vs) t (at_depth t.depth v)
  values_down r vs t u v leads n re ve =
      let x : Derives (SelectValues (context_at path c) (cursor [] cur.last)) (ToPairs vs) u (pushed u R.Val2) = by_axiom R.Val2 _ _ u (r, refl, n, refl, ap (λ (y : Register). ToPairs y) re) in
      let y : Derives (SelectValues c (cursor path cur.last)) (ToPairs vs) t (at_depth t.depth (pushed u R.Val2)) = leads (λ p y. SelectValues y (cursor p cur.last)) (λ p. ToPairs vs) (pushed u R.Val2) (values_descends cur.last vs) x in
      rw ve (rw pe at y)

  pub values_on_way : (why : Cause) → RefusedOnWay path c why → Refused (SelectValues c cur) why
  values_on_way why r =
      let x : Refused (SelectValues c (cursor path cur.last)) why = r (λ p y. SelectValues y (cursor p cur.last)) (values_refuses cur.last) in
      rw pe at x

  pub values_no_register : RefusesDown path c → content (RegT cur.last) (context_at path c) ≡ None → Refused (SelectValues c cur) (because F.NoRegister)
  values_no_register r n =
      let x : Refused (SelectValues c (cursor path cur.last)) (because F.NoRegister) = r (λ p y. SelectValues y (cursor p cur.last)) (because F.NoRegister) (values_refuses cur.last) (refused.no_register refl n) in
      rw pe at x

-- ---- what a selector selects from a cursor

module _ (cur : Cursor) where
  pub got : (b : Bound) (name : List ℕ) (key : Key) (path : List Tagged) → cur.last ≢ K.Head → length cur.path < MAX_PATH → path ≡ cur.path ++ MapT cur.last ∷ [] → key ≡ K.Name name → b ≡ ACursor (cursor path key) → (from : Expr) (c : Context) (u : Rows) → Selects (GetKey from name) c cur b u u
  got b name key path last short pe ke be from c u = λ A t h d.
      rw (be, pe, ke) (one_premise R.Get (Evaluate A (GetKey from name)) (ToBound (ACursor (cursor (cur.path ++ MapT cur.last ∷ []) (K.Name name)))) (Evaluate A from) (ToBound (ACursor cur)) t u d (cur, refl, last, omega (arith, short), refl))

  pub head_get : (name : List ℕ) (why : Cause) → (why ≡ because F.GetOnHead) × (cur.last ≡ K.Head) → (from : Expr) (c : Context) → RefusedAfter (GetKey from name) c cur why
  head_get name why e from c = λ A h x. rw e.0 (refused.get_on_head x e.1)

  pub deep_get : (name : List ℕ) (why : Cause) → cur.last ≢ K.Head → (why ≡ because F.TooDeep) × (MAX_PATH ≤ length cur.path) → (from : Expr) (c : Context) → RefusedAfter (GetKey from name) c cur why
  deep_get name why n e from c = λ A h x. rw e.0 (refused.get_too_deep x n (omega (arith, e.1)))

  pub deep_index : (i : ℕ) (c : Context) (why : Cause) → (why ≡ because F.TooDeep) × (MAX_PATH ≤ length cur.path) → (from : Expr) → RefusedAfter (Index from i) c cur why
  deep_index i c why e from = λ A h x. rw e.0 (refused.index_too_deep x (omega (arith, e.1)))

  module _ (i : ℕ) (c : Context) (path : List Tagged) (pe : path ≡ cur.path ++ ListT cur.last ∷ []) (short : length cur.path < MAX_PATH) where
    pub indexed : (b : Bound) (k : Key) (u v : Rows) → Derives (SelectIndex c (cursor path K.Head) i) (ToCursor (cursor path k)) u (at_depth u.depth v) → b ≡ ACursor (cursor path k) → (from : Expr) → Selects (Index from i) c cur b u v
    indexed b k u v x be from = λ A t h d.
        rw be (two_premises R.Idx1 (Evaluate A (Index from i)) (ToBound (ACursor (cursor path k))) (Evaluate A from) (ToBound (ACursor cur)) (SelectIndex c (cursor path K.Head) i) (ToCursor (cursor path k)) t u (at_depth u.depth v) d x (cur, cursor path k, omega (arith, short), rw (h, pe) refl, refl))

    pub index_refused : (why : Cause) → Refused (SelectIndex c (cursor path K.Head) i) why → (from : Expr) → RefusedAfter (Index from i) c cur why
    index_refused why r from = λ A h x.
        let r2 : Refused (SelectIndex A.tree (cursor path K.Head) i) why = rw h r in
        refused.in_index x (omega (arith, short)) (rw pe at r2)

  module _ (c : Context) where
    pub keyed : (b : Bound) (ks : List (List ℕ)) (u v : Rows) → Derives (SelectKeys c cur) (ToNames ks) u (at_depth u.depth v) → b ≡ Names ks → (from : Expr) → Selects (KeysOf from) c cur b u v
    keyed b ks u v x be from = λ A t h d.
        rw be (two_premises R.Keys1 (Evaluate A (KeysOf from)) (ToBound (Names ks)) (Evaluate A from) (ToBound (ACursor cur)) (SelectKeys c cur) (ToNames ks) t u (at_depth u.depth v) d x (cur, ks, rw h refl, refl))

    pub keys_refused : (why : Cause) → Refused (SelectKeys c cur) why → (from : Expr) → RefusedAfter (KeysOf from) c cur why
    keys_refused why r from = λ A h x. refused.in_keys x (rw h r)

    pub valued : (b : Bound) (vs : Register) (u v : Rows) → Derives (SelectValues c cur) (ToPairs vs) u (at_depth u.depth v) → b ≡ Pairs vs → (from : Expr) → Selects (ValuesOf from) c cur b u v
    valued b vs u v x be from = λ A t h d.
        rw be (two_premises R.Val1 (Evaluate A (ValuesOf from)) (ToBound (Pairs vs)) (Evaluate A from) (ToBound (ACursor cur)) (SelectValues c cur) (ToPairs vs) t u (at_depth u.depth v) d x (cur, vs, rw h refl, refl))

    pub values_refused : (why : Cause) → Refused (SelectValues c cur) why → (from : Expr) → RefusedAfter (ValuesOf from) c cur why
    values_refused why r from = λ A h x. refused.in_values x (rw h r)

-- ---- a cause that is passed up

map_some : (P Q : Cause → Type 0) (o : Option Cause) → ((why : Cause) → P why → Q why) → IfSome o P → IfSome o Q
map_some P Q None h x = tt
map_some P Q (Some why) h x = h why x

-- with the fault of a call that is given on by `?`
pub handed_up : {T : Type 0} (P Q : Cause → Type 0) (r : Result T EvalFault) (f : EvalFault) → IsErrAnd r (λ e. e ≡ f) → ((why : Cause) → P why → Q why) → IfSome (eval_cause_of f) P → IfErr r (λ e. IfSome (eval_cause_of e) Q)
handed_up P Q (Ok x) f e h y = tt
handed_up P Q (Err d) f e h y = rw e (map_some P Q (eval_cause_of f) h y)

-- with the result of a call that is given on as it is
pub given_on : {T : Type 0} (P Q : Cause → Type 0) (r : Result T EvalFault) → ((why : Cause) → P why → Q why) → IfErr r (λ e. IfSome (eval_cause_of e) P) → IfErr r (λ e. IfSome (eval_cause_of e) Q)
given_on P Q (Ok x) h y = tt
given_on P Q (Err e) h y = map_some P Q (eval_cause_of e) h y

pub given_on_ok : {T E : Type 0} (P Q : T → Type 0) (r : Result T E) → ((x : T) → P x → Q x) → IfOk r P → IfOk r Q
given_on_ok P Q (Ok x) h y = h x y
given_on_ok P Q (Err e) h y = tt
