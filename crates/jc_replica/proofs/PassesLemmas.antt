-- Lemmas about the refusals of the rules: a question that passes all conditions isn't refused. CanLemmas cites them.
use Rattle.std.proofs.Common.{◌≡◌, ◌≢◌, ℕ, List, [], ◌∷◌, Option, Some, None, Bool, true, false, sym, ◌∙◌, ap, subst}
use Rattle.jc_rules.specs.declared.operation.Cursor.{Cursor}
use Rattle.jc_rules.specs.declared.operation.Event.{Event}
use Rattle.jc_rules.specs.declared.operation.Event.TheVariants as E
use Rattle.jc_rules.specs.declared.operation.Mutation.{Mutation}
use Rattle.jc_rules.specs.declared.operation.Mutation.TheVariants as M
use Rattle.jc_rules.specs.declared.operation.Op.{Op}
use Rattle.jc_rules.specs.Ids.{has_id, AreIn}
use Rattle.jc_rules.specs.Syntax.{Expr, Cmd, LetIn, SetTo, InsertAfter, DeleteAt, Yield}
use Rattle.jc_rules.specs.State.{State, Bound, ACursor}
use Rattle.jc_rules.specs.Derivation.{Question, Occur, Run, Evaluate, Make, ApplyOp, Operate, Answer, ToBound, asked}
use Rattle.jc_rules.specs.Table.{op_of}
use Rattle.jc_rules.specs.Refused.{Cause, Refused, IsAnswered, IsCursor, IsYieldEvent, WantsCursor, first_expr, made_by, no_command, at_yield, in_command, no_yield, not_at_yield, not_acted, not_received, not_offered, already_applied, deps_missing, in_received, in_first, not_a_cursor, in_making, in_made, in_applied}
use Rattle.jc_rules.proofs.RefusedLemmas.{refused_has_none, one_answer}
use Rattle.jc_vectors.specs.StoredStates.{new_op}

-- refused for no cause
abbrev pub IsFree : Question → Type 0
IsFree q = (why : Cause) → Refused q why → ⊥

-- what makes an operation evaluates to a cursor, at which the mutation is refused for no cause
pub record IsMakable (p : ℕ) (A : State) (e : Expr) (m : Mutation) : Type 0 where
  pub cursor : Cursor
  pub answered : IsAnswered (Evaluate A e) (ToBound (ACursor cursor))
  pub free : IsFree (Operate A.tree (new_op p A.ops cursor m))

-- the conditions of a question's rules hold
abbrev pub IsOpen : Question → Type 0
IsOpen (Occur A (E.Exec p) os) = (c : Cmd) × (rest : List Cmd) × (A.left ≡ c ∷ rest) × (c ≢ Yield) × IsFree (Run p A c)
IsOpen (Occur A (E.Send p) os) = (rest : List Cmd) × (A.left ≡ Yield ∷ rest)
IsOpen (Occur A (E.Recv p q) os) = (rest : List Cmd) × (A.left ≡ Yield ∷ rest)
IsOpen (Occur A (E.Take p q i) os) = (rest : List Cmd) × (A.left ≡ Yield ∷ rest) × (o : Op) × (op_of i os ≡ Some o)
IsOpen (Occur A (E.Apply p i) os) = (rest : List Cmd) × (A.left ≡ Yield ∷ rest) × (o : Op) × (op_of i A.recv ≡ Some o) × (has_id i A.ops ≡ false) × AreIn o.deps A.ops × IsFree (Operate A.tree o)
IsOpen (Occur A (E.Done p) os) = (rest : List Cmd) × (A.left ≡ Yield ∷ rest) × (A.acted ≡ true)
IsOpen (Run p A (LetIn x e)) = IsFree (Evaluate A e)
IsOpen (Run p A (SetTo e v)) = IsMakable p A e (M.Assign v)
IsOpen (Run p A (InsertAfter e v)) = IsMakable p A e (M.Insert v)
IsOpen (Run p A (DeleteAt e)) = IsMakable p A e M.Delete
IsOpen (Make p A cur m) = IsFree (Operate A.tree (new_op p A.ops cur m))
IsOpen (ApplyOp p A o) = IsFree (Operate A.tree o)
IsOpen _ = ⊥

pub answered_free : (q : Question) (a : Answer) → IsAnswered q a → IsFree q
answered_free q a s why r = refused_has_none q why r s.derivation s.holds (ap asked s.concludes)

yield_left : (A : State) (event : Event) (os : List Op) → IsYieldEvent event → IsOpen (Occur A event os) → (rest : List Cmd) × (A.left ≡ Yield ∷ rest)
yield_left A (E.Exec p) os y h = absurd y
yield_left A (E.Send p) os y h = h
yield_left A (E.Recv p q) os y h = h
yield_left A (E.Take p q i) os y h = (h.0, h.1)
yield_left A (E.Apply p i) os y h = (h.0, h.1)
yield_left A (E.Done p) os y h = (h.0, h.1)

-- what is evaluated first
same_first : {A B : State} {e d : Expr} {why : Cause} → ◌≡◌ {A = Option (State × Expr)} (Some (A, e)) (Some (B, d)) → Refused (Evaluate B d) why → Refused (Evaluate A e) why
same_first {A} {B} {e} {d} {why} i r =
    let pair : (A, e) ≡ (B, d) = cc in
    subst (λ (x : State × Expr). Refused (Evaluate x.0 x.1) why) (sym pair) r

first_free : (q : Question) (A : State) (e : Expr) (why : Cause) → IsOpen q → first_expr q ≡ Some (A, e) → Refused (Evaluate A e) why → ⊥
first_free (Run p B (LetIn x d)) A e why h i r = h why (same_first i r)
first_free (Run p B (SetTo d v)) A e why h i r = answered_free (Evaluate B d) _ h.answered why (same_first i r)
first_free (Run p B (InsertAfter d v)) A e why h i r = answered_free (Evaluate B d) _ h.answered why (same_first i r)
first_free (Run p B (DeleteAt d)) A e why h i r = answered_free (Evaluate B d) _ h.answered why (same_first i r)
first_free (Occur B event os) A e why h i r = cc
first_free (Make p B cur m) A e why h i r = cc
first_free (ApplyOp p B o) A e why h i r = cc
first_free _ A e why h i r = absurd h

cursor_first : {A B : State} {d e : Expr} {cur : Cursor} {b : Bound} → IsAnswered (Evaluate B d) (ToBound (ACursor cur)) → ◌≡◌ {A = Option (State × Expr)} (Some (B, d)) (Some (A, e)) → IsAnswered (Evaluate A e) (ToBound b) → (IsCursor b → ⊥) → ⊥
cursor_first {A} {B} {d} {e} {cur} {b} s i t n =
    let pair : (B, d) ≡ (A, e) = cc in
    let there : IsAnswered (Evaluate A e) (ToBound (ACursor cur)) = subst (λ (x : State × Expr). IsAnswered (Evaluate x.0 x.1) (ToBound (ACursor cur))) pair s in
    let same : ToBound (ACursor cur) ≡ ToBound b = one_answer (Evaluate A e) _ _ there t in
    let is : ACursor cur ≡ b = cc in
    n (subst IsCursor is tt)

cursor_free : (q : Question) (A : State) (e : Expr) (b : Bound) → IsOpen q → first_expr q ≡ Some (A, e) → WantsCursor q → IsAnswered (Evaluate A e) (ToBound b) → (IsCursor b → ⊥) → ⊥
cursor_free (Run p B (LetIn x d)) A e b h i w t n = absurd w
cursor_free (Run p B (SetTo d v)) A e b h i w t n = cursor_first h.answered i t n
cursor_free (Run p B (InsertAfter d v)) A e b h i w t n = cursor_first h.answered i t n
cursor_free (Run p B (DeleteAt d)) A e b h i w t n = cursor_first h.answered i t n
cursor_free (Occur B event os) A e b h i w t n = cc
cursor_free (Make p B cur m) A e b h i w t n = cc
cursor_free (ApplyOp p B o) A e b h i w t n = cc
cursor_free _ A e b h i w t n = absurd h

-- the making of an operation
makable : {p : ℕ} {A : State} {e d : Expr} {m k : Mutation} {cur : Cursor} → IsMakable p A e m → ◌≡◌ {A = Option (Expr × Mutation)} (Some (e, m)) (Some (d, k)) → IsAnswered (Evaluate A d) (ToBound (ACursor cur)) → IsFree (Operate A.tree (new_op p A.ops cur k))
makable {p} {A} {e} {d} {m} {k} {cur} h i t =
    let pair : (e, m) ≡ (d, k) = cc in
    let one : e ≡ d = ap (λ (x : Expr × Mutation). x.0) pair in
    let two : m ≡ k = ap (λ (x : Expr × Mutation). x.1) pair in
    let there : IsAnswered (Evaluate A d) (ToBound (ACursor h.cursor)) = subst (λ (x : Expr). IsAnswered (Evaluate A x) (ToBound (ACursor h.cursor))) one h.answered in
    let same : ToBound (ACursor h.cursor) ≡ ToBound (ACursor cur) = one_answer (Evaluate A d) _ _ there t in
    let is : h.cursor ≡ cur = cc in
    subst (λ (x : Cursor × Mutation). IsFree (Operate A.tree (new_op p A.ops x.0 x.1))) (λ n. (is n, two n)) h.free

making_free : (p : ℕ) (A : State) (c : Cmd) (e : Expr) (m : Mutation) (cur : Cursor) → IsOpen (Run p A c) → made_by c ≡ Some (e, m) → IsAnswered (Evaluate A e) (ToBound (ACursor cur)) → IsFree (Operate A.tree (new_op p A.ops cur m))
making_free p A (LetIn x d) e m cur h i t = cc
making_free p A (SetTo d v) e m cur h i t = makable h i t
making_free p A (InsertAfter d v) e m cur h i t = makable h i t
making_free p A (DeleteAt d) e m cur h i t = makable h i t
making_free p A Yield e m cur h i t = absurd h

none_left : {cs : List Cmd} {c : Cmd} {rest : List Cmd} → cs ≡ [] → cs ≡ c ∷ rest → ⊥
none_left {cs} {c} {rest} e l = let no : [] ≡ c ∷ rest = sym e ∙ l in cc

same_next : {cs : List Cmd} {c d : Cmd} {rest more : List Cmd} → cs ≡ c ∷ rest → cs ≡ d ∷ more → c ≡ d
same_next {cs} {c} {d} {rest} {more} e l = let both : c ∷ rest ≡ d ∷ more = sym e ∙ l in cc

same_found : {o p : Op} {x : Option Op} → x ≡ Some o → x ≡ Some p → o ≡ p
same_found {o} {p} {x} e l = let both : Some o ≡ Some p = sym e ∙ l in cc

neither : {b : Bool} → b ≡ true → b ≡ false → ⊥
neither e f = let no : true ≡ false = sym e ∙ f in cc

pub unrefused : {q : Question} {why : Cause} → Refused q why → IsOpen q → ⊥
unrefused (no_command e) h = none_left e h.2
unrefused (at_yield e) h = h.3 (same_next h.2 e)
unrefused (in_command {A = A} {p = p} {why = why} e n r) h = h.4 why (subst (λ (x : Cmd). Refused (Run p A x) why) (same_next e h.2) r)
unrefused (no_yield {A = A} {event = event} {read = read} y e) h = none_left e (yield_left A event read y h).1
unrefused (not_at_yield {A = A} {event = event} {read = read} y e n) h = n (same_next e (yield_left A event read y h).1)
unrefused (not_acted e f) h = neither h.2 f
unrefused (not_received e f) h = let no : None ≡ Some h.2 = sym f ∙ h.3 in cc
unrefused (not_offered e f) h = let no : None ≡ Some h.2 = sym f ∙ h.3 in cc
unrefused (already_applied e f g) h = neither g h.4
unrefused (deps_missing {A = A} {o = o} e f g n) h = n (subst (λ (x : Op). AreIn x.deps A.ops) (same_found h.3 f) h.5)
unrefused (in_received {A = A} {o = o} {why = why} e f g d r) h = h.6 why (subst (λ (x : Op). Refused (Operate A.tree x) why) (same_found f h.3) r)
unrefused (in_first {q = q} {A = A} {e = e} {why = why} is r) h = first_free q A e why h is r
unrefused (not_a_cursor {q = q} {A = A} {e = e} {b = b} is w s n) h = cursor_free q A e b h is w s n
unrefused (in_making {p = p} {A = A} {c = c} {e = e} {m = m} {cur = cur} is s r) h = unrefused r (making_free p A c e m cur h is s)
unrefused (in_made r) h = unrefused r h
unrefused (in_applied {why = why} r) h = h why r
unrefused _ h = absurd h
