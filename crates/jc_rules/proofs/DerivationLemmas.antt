-- About specs/Derivation and Table: a question has one derivation at most.
use Rattle.std.proofs.Common.{◌≡◌, ◌≢◌, ℕ, zero, suc, List, [], ◌∷◌, Option, Some, None, refl, sym, ◌∙◌, ap, subst}
use Rattle.jc_rules.specs.declared.key.Tagged.TheVariants.{MapT, ListT, RegT}
use Rattle.std.specs.Ordering.{match_ordering}
use Rattle.jc_rules.specs.declared.id.Id.{Id}
use Rattle.jc_rules.specs.declared.key.Key.{Key}
use Rattle.jc_rules.specs.declared.key.Key.TheVariants as K
use Rattle.jc_rules.specs.declared.key.Tagged.{Tagged}
use Rattle.jc_rules.specs.declared.operation.Op.{Op}
use Rattle.jc_rules.specs.declared.operation.Mutation.{Mutation}
use Rattle.jc_rules.specs.declared.operation.Mutation.TheVariants as M
use Rattle.jc_rules.specs.declared.value.Value.{Value}
use Rattle.jc_rules.specs.declared.value.Value.TheVariants as V
use Rattle.jc_rules.specs.declared.key.Next.{Next}
use Rattle.jc_rules.specs.declared.key.Next.TheVariants.{Tail, Elem as To}
use Rattle.jc_rules.specs.Order.{id_cmp}
use Rattle.jc_rules.specs.declared.rule.Rule.{Rule}
use Rattle.jc_rules.specs.declared.rule.Rule.TheVariants as R
use Rattle.jc_rules.specs.declared.operation.Event.TheVariants as E
use Rattle.jc_rules.specs.Context.{Context, IsPrimitive, content, presence, next}
use Rattle.jc_rules.specs.Syntax.{TheDoc, Variable, GetKey, Index, KeysOf, ValuesOf, LetIn, SetTo, InsertAfter, DeleteAt, Yield}
use Rattle.jc_rules.specs.Derivation.{Question, Occur, Run, Evaluate, SelectIndex, SelectKeys, SelectValues, Make, ApplyOp, Operate, Child, AddId, Presence, Clear, ClearAny, ClearElem, ClearMap, ClearList, Answer, Judgement, gives, asked, Derivation, derive, Premises, none, premise, conclusions, conclusion}
use Rattle.jc_rules.specs.Table.{Follows, Holds, AllHold, IsEmptyIds, IsBefore, least_left}

-- premises that ask the same as long as they have had the same answers
abbrev pub Matched : List Judgement → List Judgement → Type 0
Matched [] [] = Unit {0}
Matched (a ∷ ps) (b ∷ qs) = (asked a ≡ asked b) × (a ≡ b → Matched ps qs)
Matched _ _ = ⊥

abbrev pub Same : Answer → Answer → List Judgement → List Judgement → Type 0
Same a b ps qs = Matched ps qs × (ps ≡ qs → a ≡ b)

no_premise : (ps qs : List Judgement) → ps ≡ [] → qs ≡ [] → Matched ps qs
no_premise ps qs e f = rw (e, f) tt

one : (ps qs : List Judgement) (q r : Question) (x y : Answer) → ps ≡ gives q x ∷ [] → qs ≡ gives r y ∷ [] → q ≡ r → Matched ps qs
one ps qs q r x y e f s = rw (e, f) (s, λ _. tt)

two : (ps qs : List Judgement) (q r : Question) (x y : Answer) (q2 r2 : Question) (x2 y2 : Answer) → ps ≡ gives q x ∷ gives q2 x2 ∷ [] → qs ≡ gives r y ∷ gives r2 y2 ∷ [] → q ≡ r → (x ≡ y → q2 ≡ r2) → Matched ps qs
two ps qs q r x y q2 r2 x2 y2 e f s t = rw (e, f) (s, λ p. (t (cc), λ _. tt))

three : (ps qs : List Judgement) (q r : Question) (x y : Answer) (q2 r2 : Question) (x2 y2 : Answer) (q3 r3 : Question) (x3 y3 : Answer) → ps ≡ gives q x ∷ gives q2 x2 ∷ gives q3 x3 ∷ [] → qs ≡ gives r y ∷ gives r2 y2 ∷ gives r3 y3 ∷ [] → q ≡ r → (x ≡ y → q2 ≡ r2) → (x ≡ y → x2 ≡ y2 → q3 ≡ r3) → Matched ps qs
three ps qs q r x y q2 r2 x2 y2 q3 r3 x3 y3 e f s t u = rw (e, f) (s, λ p. (t (cc), λ p2. (u (cc) (cc), λ _. tt)))

-- two uses of one rule for one question
pub same_answer : (r : Rule) (q : Question) (a b : Answer) (ps qs : List Judgement) → Follows r q a ps → Follows r q b qs → Same a b ps qs
same_answer R.Exec (Occur A (E.Exec p) _) a b ps qs (x0, x1, x2, x3, x4, x5, x6) (y0, y1, y2, y3, y4, y5, y6) = (one _ _ _ _ _ _ x5 y5 (cc), λ p. cc)
same_answer R.Let (Run p A (LetIn x e)) a b ps qs (x0, x1, x2) (y0, y1, y2) = (one _ _ _ _ _ _ x1 y1 (cc), λ p. cc)
same_answer R.Var (Evaluate A (Variable x)) a b ps qs (x0, x1, x2, x3) (y0, y1, y2, y3) = (no_premise _ _ x2 y2, λ p. cc)
same_answer R.Doc (Evaluate A TheDoc) a b ps qs (x0, x1) (y0, y1) = (no_premise _ _ x0 y0, λ p. cc)
same_answer R.Get (Evaluate A (GetKey e name)) a b ps qs (x0, x1, x2, x3, x4) (y0, y1, y2, y3, y4) = (one _ _ _ _ _ _ x1 y1 (cc), λ p. cc)
same_answer R.Idx1 (Evaluate A (Index e i)) a b ps qs (x0, x1, x2, x3, x4) (y0, y1, y2, y3, y4) = (two _ _ _ _ _ _ _ _ _ _ x3 y3 (cc) (λ p. cc), λ p. cc)
same_answer R.Idx2 (SelectIndex c cur i) a b ps qs (x0, x1, x2, x3, x4, x5, x6, x7, x8) (y0, y1, y2, y3, y4, y5, y6, y7, y8) = (one _ _ _ _ _ _ x7 y7 (cc), λ p. cc)
same_answer R.Idx3 (SelectIndex c cur (suc i)) a b ps qs (x0, x1, x2, x3, x4, x5, x6) (y0, y1, y2, y3, y4, y5, y6) = (one _ _ _ _ _ _ x5 y5 (cc), λ p. cc)
same_answer R.Idx4 (SelectIndex c cur (suc i)) a b ps qs (x0, x1, x2, x3, x4, x5, x6) (y0, y1, y2, y3, y4, y5, y6) = (one _ _ _ _ _ _ x5 y5 (cc), λ p. cc)
same_answer R.Idx5 (SelectIndex c cur zero) a b ps qs (x0, x1, x2) (y0, y1, y2) = (no_premise _ _ x1 y1, λ p. cc)
same_answer R.Keys1 (Evaluate A (KeysOf e)) a b ps qs (x0, x1, x2, x3) (y0, y1, y2, y3) = (two _ _ _ _ _ _ _ _ _ _ x2 y2 (cc) (λ p. cc), λ p. cc)
same_answer R.Keys2 (SelectKeys c cur) a b ps qs (x0, x1, x2, x3, x4) (y0, y1, y2, y3, y4) = (no_premise _ _ x3 y3, λ p. cc)
same_answer R.Keys3 (SelectKeys c cur) a b ps qs (x0, x1, x2, x3, x4, x5, x6, x7) (y0, y1, y2, y3, y4, y5, y6, y7) = (one _ _ _ _ _ _ x6 y6 (cc), λ p. cc)
same_answer R.Val1 (Evaluate A (ValuesOf e)) a b ps qs (x0, x1, x2, x3) (y0, y1, y2, y3) = (two _ _ _ _ _ _ _ _ _ _ x2 y2 (cc) (λ p. cc), λ p. cc)
same_answer R.Val2 (SelectValues c cur) a b ps qs (x0, x1, x2, x3, x4) (y0, y1, y2, y3, y4) = (no_premise _ _ x3 y3, λ p. cc)
same_answer R.Val3 (SelectValues c cur) a b ps qs (x0, x1, x2, x3, x4, x5, x6, x7) (y0, y1, y2, y3, y4, y5, y6, y7) = (one _ _ _ _ _ _ x6 y6 (cc), λ p. cc)
same_answer R.MakeAssign (Run p A (SetTo e v)) a b ps qs (x0, x1, x2, x3) (y0, y1, y2, y3) = (two _ _ _ _ _ _ _ _ _ _ x2 y2 (cc) (λ p. cc), λ p. cc)
same_answer R.MakeInsert (Run p A (InsertAfter e v)) a b ps qs (x0, x1, x2, x3) (y0, y1, y2, y3) = (two _ _ _ _ _ _ _ _ _ _ x2 y2 (cc) (λ p. cc), λ p. cc)
same_answer R.MakeDelete (Run p A (DeleteAt e)) a b ps qs (x0, x1, x2, x3) (y0, y1, y2, y3) = (two _ _ _ _ _ _ _ _ _ _ x2 y2 (cc) (λ p. cc), λ p. cc)
same_answer R.MakeOp (Make p A cur m) a b ps qs (x0, x1, x2) (y0, y1, y2) = (one _ _ _ _ _ _ x1 y1 (cc), λ p. cc)
same_answer R.ApplyLocal (ApplyOp p A o) a b ps qs (x0, x1, x2) (y0, y1, y2) = (one _ _ _ _ _ _ x1 y1 (cc), λ p. cc)
same_answer R.Send (Occur A (E.Send p) _) a b ps qs (x0, x1, x2, x3) (y0, y1, y2, y3) = (no_premise _ _ x2 y2, λ p. cc)
same_answer R.Recv (Occur A (E.Recv p q) sent) a b ps qs (x0, x1, x2, x3) (y0, y1, y2, y3) = (no_premise _ _ x2 y2, λ p. cc)
same_answer R.RecvOne (Occur A (E.Take p q i) sent) a b ps qs (x0, x1, x2, x3, x4, x5) (y0, y1, y2, y3, y4, y5) = (no_premise _ _ x4 y4, λ p. cc)
same_answer R.ApplyRemote (Occur A (E.Apply p i) _) a b ps qs (x0, x1, x2, x3, x4, x5, x6, x7, x8) (y0, y1, y2, y3, y4, y5, y6, y7, y8) = (one _ _ _ _ _ _ x7 y7 (cc), λ p. cc)
same_answer R.Done (Occur A (E.Done p) _) a b ps qs (x0, x1, x2, x3, x4) (y0, y1, y2, y3, y4) = (no_premise _ _ x3 y3, λ p. cc)
same_answer R.Descend (Operate c o) a b ps qs (x0, x1, x2, x3, x4, x5, x6, x7) (y0, y1, y2, y3, y4, y5, y6, y7) = (three _ _ _ _ _ _ _ _ _ _ _ _ _ _ x6 y6 (cc) (λ p. cc) (λ p q. cc), λ p. cc)
same_answer R.ChildGet (Child c k) a b ps qs (x0, x1, x2, x3) (y0, y1, y2, y3) = (no_premise _ _ x2 y2, λ p. cc)
same_answer R.ChildMap (Child c (MapT k)) a b ps qs (x0, x1, x2) (y0, y1, y2) = (no_premise _ _ x1 y1, λ p. cc)
same_answer R.ChildList (Child c (ListT k)) a b ps qs (x0, x1, x2) (y0, y1, y2) = (no_premise _ _ x1 y1, λ p. cc)
same_answer R.ChildReg (Child c (RegT k)) a b ps qs (x0, x1, x2) (y0, y1, y2) = (no_premise _ _ x1 y1, λ p. cc)
same_answer R.AddId1 (AddId c k i m) a b ps qs (x0, x1, x2, x3) (y0, y1, y2, y3) = (one _ _ _ _ _ _ x2 y2 (cc), λ p. cc)
same_answer R.AddId2 (AddId c k i m) a b ps qs (x0, x1, x2) (y0, y1, y2) = (no_premise _ _ x1 y1, λ p. cc)
same_answer R.Presence1 (Presence c k) a b ps qs (x0, x1, x2, x3) (y0, y1, y2, y3) = (no_premise _ _ x2 y2, λ p. cc)
same_answer R.Presence2 (Presence c k) a b ps qs (x0, x1, x2) (y0, y1, y2) = (no_premise _ _ x1 y1, λ p. cc)
same_answer R.Assign (Operate c o) a b ps qs (x0, x1, x2, x3, x4, x5, x6, x7, x8, x9) (y0, y1, y2, y3, y4, y5, y6, y7, y8, y9) = (three _ _ _ _ _ _ _ _ _ _ _ _ _ _ x8 y8 (cc) (λ p. cc) (λ p q. cc), λ p. cc)
same_answer R.EmptyMap (Operate c o) a b ps qs (x0, x1, x2, x3, x4, x5, x6, x7) (y0, y1, y2, y3, y4, y5, y6, y7) = (three _ _ _ _ _ _ _ _ _ _ _ _ _ _ x6 y6 (cc) (λ p. cc) (λ p q. cc), λ p. cc)
same_answer R.EmptyList (Operate c o) a b ps qs (x0, x1, x2, x3, x4, x5, x6, x7) (y0, y1, y2, y3, y4, y5, y6, y7) = (three _ _ _ _ _ _ _ _ _ _ _ _ _ _ x6 y6 (cc) (λ p. cc) (λ p q. cc), λ p. cc)
same_answer R.Insert1 (Operate c o) a b ps qs (x0, x1, x2, x3, x4, x5, x6, x7, x8) (y0, y1, y2, y3, y4, y5, y6, y7, y8) = (one _ _ _ _ _ _ x7 y7 (cc), λ p. cc)
same_answer R.Insert2 (Operate c o) a b ps qs (x0, x1, x2, x3, x4, x5, x6, x7, x8) (y0, y1, y2, y3, y4, y5, y6, y7, y8) = (one _ _ _ _ _ _ x7 y7 (cc), λ p. cc)
same_answer R.Delete (Operate c o) a b ps qs (x0, x1, x2, x3, x4, x5) (y0, y1, y2, y3, y4, y5) = (one _ _ _ _ _ _ x4 y4 (cc), λ p. cc)
same_answer R.ClearElem (ClearElem c deps k) a b ps qs (x0, x1, x2, x3, x4) (y0, y1, y2, y3, y4) = (two _ _ _ _ _ _ _ _ _ _ x3 y3 (cc) (λ p. cc), λ p. cc)
same_answer R.ClearAny (ClearAny c deps k) a b ps qs (x0, x1, x2, x3, x4, x5, x6, x7) (y0, y1, y2, y3, y4, y5, y6, y7) = (three _ _ _ _ _ _ _ _ _ _ _ _ _ _ x6 y6 (cc) (λ p. cc) (λ p q. cc), λ p. cc)
same_answer R.ClearNone (Clear c deps k) a b ps qs (x0, x1, x2) (y0, y1, y2) = (no_premise _ _ x1 y1, λ p. cc)
same_answer R.ClearReg (Clear c deps (RegT k)) a b ps qs (x0, x1, x2, x3) (y0, y1, y2, y3) = (no_premise _ _ x2 y2, λ p. cc)
same_answer R.ClearMap1 (Clear c deps (MapT k)) a b ps qs (x0, x1, x2, x3, x4, x5) (y0, y1, y2, y3, y4, y5) = (one _ _ _ _ _ _ x4 y4 (cc), λ p. cc)
same_answer R.ClearMap2 (ClearMap c deps done) a b ps qs (x0, x1, x2, x3, x4, x5, x6, x7) (y0, y1, y2, y3, y4, y5, y6, y7) = (two _ _ _ _ _ _ _ _ _ _ x6 y6 (cc) (λ p. cc), λ p. cc)
same_answer R.ClearMap3 (ClearMap c deps done) a b ps qs (x0, x1, x2) (y0, y1, y2) = (no_premise _ _ x1 y1, λ p. cc)
same_answer R.ClearList1 (Clear c deps (ListT k)) a b ps qs (x0, x1, x2, x3, x4, x5) (y0, y1, y2, y3, y4, y5) = (one _ _ _ _ _ _ x4 y4 (cc), λ p. cc)
same_answer R.ClearList2 (ClearList c deps (Some k)) a b ps qs (x0, x1, x2, x3, x4, x5, x6, x7) (y0, y1, y2, y3, y4, y5, y6, y7) = (two _ _ _ _ _ _ _ _ _ _ x6 y6 (cc) (λ p. cc), λ p. cc)
same_answer R.ClearList3 (ClearList c deps None) a b ps qs (x0, x1) (y0, y1) = (no_premise _ _ x0 y0, λ p. cc)
same_answer _ _ a b ps qs h k = absurd h

-- the rule that a question asks for

abbrev by_path : List Tagged → Rule → Rule → Rule
by_path [] r s = r
by_path (k ∷ ks) r s = s

abbrev by_presence : Option (List Id) → Rule
by_presence None = R.Idx4
by_presence (Some []) = R.Idx4
by_presence (Some (i ∷ is)) = R.Idx3

abbrev by_next : Option Next → Context → Rule
by_next (Some (To j)) c = by_presence (presence (K.Elem j) c)
by_next _ c = R.Idx3

abbrev by_index : ℕ → Context → Key → Rule
by_index zero c k = R.Idx5
by_index (suc i) c k = by_next (next k c) c

abbrev by_value : Value → Rule
by_value V.EmptyMap = R.EmptyMap
by_value V.EmptyList = R.EmptyList
by_value _ = R.Assign

abbrev by_link : Option Next → Id → Rule
by_link (Some (To j)) i = match_ordering (id_cmp i j) R.Insert2 R.Insert1 R.Insert1
by_link _ i = R.Insert1

abbrev by_mutation : Mutation → Context → Op → Rule
by_mutation (M.Assign v) c o = by_value v
by_mutation (M.Insert v) c o = by_link (next o.cursor.last c) o.id
by_mutation M.Delete c o = R.Delete

abbrev by_make : Mutation → Rule
by_make M.Delete = R.AddId2
by_make _ = R.AddId1

abbrev if_there : {A : Type 0} → Option A → Rule → Rule → Rule
if_there None r s = s
if_there (Some x) r s = r

abbrev by_tag : Tagged → (Rule × Rule × Rule) → Rule
by_tag (MapT k) rs = rs.0
by_tag (ListT k) rs = rs.1
by_tag (RegT k) rs = rs.2

abbrev pub rule_of : Question → Rule
rule_of (Occur A (E.Exec p) _) = R.Exec
rule_of (Occur A (E.Send p) _) = R.Send
rule_of (Occur A (E.Recv p q) _) = R.Recv
rule_of (Occur A (E.Take p q i) _) = R.RecvOne
rule_of (Occur A (E.Apply p i) _) = R.ApplyRemote
rule_of (Occur A (E.Done p) _) = R.Done
rule_of (Run p A (LetIn x e)) = R.Let
rule_of (Run p A (SetTo e v)) = R.MakeAssign
rule_of (Run p A (InsertAfter e v)) = R.MakeInsert
rule_of (Run p A (DeleteAt e)) = R.MakeDelete
rule_of (Run p A Yield) = R.Exec
rule_of (Evaluate A TheDoc) = R.Doc
rule_of (Evaluate A (Variable x)) = R.Var
rule_of (Evaluate A (GetKey e n)) = R.Get
rule_of (Evaluate A (Index e i)) = R.Idx1
rule_of (Evaluate A (KeysOf e)) = R.Keys1
rule_of (Evaluate A (ValuesOf e)) = R.Val1
rule_of (SelectIndex c cur i) = by_path cur.path (by_index i c cur.last) R.Idx2
rule_of (SelectKeys c cur) = by_path cur.path R.Keys2 R.Keys3
rule_of (SelectValues c cur) = by_path cur.path R.Val2 R.Val3
rule_of (Make p A cur m) = R.MakeOp
rule_of (ApplyOp p A o) = R.ApplyLocal
rule_of (Operate c o) = by_path o.cursor.path (by_mutation o.mutation c o) R.Descend
rule_of (Child c k) = if_there (content k c) R.ChildGet (by_tag k (R.ChildMap, R.ChildList, R.ChildReg))
rule_of (AddId c k i m) = by_make m
rule_of (Presence c k) = if_there (presence k c) R.Presence1 R.Presence2
rule_of (Clear c deps k) = if_there (content k c) (by_tag k (R.ClearMap1, R.ClearList1, R.ClearReg)) R.ClearNone
rule_of (ClearAny c deps k) = R.ClearAny
rule_of (ClearElem c deps k) = R.ClearElem
rule_of (ClearMap c deps done) = if_there (least_left done c) R.ClearMap2 R.ClearMap3
rule_of (ClearList c deps (Some k)) = R.ClearList2
rule_of (ClearList c deps None) = R.ClearList3

empty_ids : (s : Option (List Id)) → IsEmptyIds s → R.Idx4 ≡ by_presence s
empty_ids None h = refl
empty_ids (Some []) h = refl
empty_ids (Some (i ∷ is)) h = absurd h

some_ids : (s : Option (List Id)) → (IsEmptyIds s → ⊥) → R.Idx3 ≡ by_presence s
some_ids None h = absurd (h tt)
some_ids (Some []) h = absurd (h tt)
some_ids (Some (i ∷ is)) h = refl

primitive : (v : Value) → IsPrimitive v → R.Assign ≡ by_value v
primitive V.EmptyMap h = absurd h
primitive V.EmptyList h = absurd h
primitive _ h = refl

before : (n : Next) (i : Id) → IsBefore n i → R.Insert1 ≡ by_link (Some n) i
before Tail i h = refl
before (To j) i h = cc

makes : (m : Mutation) → m ≢ M.Delete → R.AddId1 ≡ by_make m
makes (M.Assign v) h = refl
makes (M.Insert v) h = refl
makes M.Delete h = absurd (h refl)

pub rule_is : (r : Rule) (q : Question) (a : Answer) (ps : List Judgement) → Follows r q a ps → r ≡ rule_of q
rule_is R.Exec (Occur A (E.Exec p) _) a ps (x0, x1, x2, x3, x4, x5, x6) = cc
rule_is R.Let (Run p A (LetIn x e)) a ps (x0, x1, x2) = cc
rule_is R.Var (Evaluate A (Variable x)) a ps (x0, x1, x2, x3) = cc
rule_is R.Doc (Evaluate A TheDoc) a ps (x0, x1) = cc
rule_is R.Get (Evaluate A (GetKey e name)) a ps (x0, x1, x2, x3, x4) = cc
rule_is R.Idx1 (Evaluate A (Index e i)) a ps (x0, x1, x2, x3, x4) = cc
rule_is R.Idx2 (SelectIndex c cur i) a ps (x0, x1, x2, x3, x4, x5, x6, x7, x8) = cc
rule_is R.Idx3 (SelectIndex c cur (suc i)) a ps (x0, x1, x2, x3, x4, x5, x6) = let e = some_ids _ x4 in cc
rule_is R.Idx4 (SelectIndex c cur (suc i)) a ps (x0, x1, x2, x3, x4, x5, x6) = let e = empty_ids _ x4 in cc
rule_is R.Idx5 (SelectIndex c cur zero) a ps (x0, x1, x2) = cc
rule_is R.Keys1 (Evaluate A (KeysOf e)) a ps (x0, x1, x2, x3) = cc
rule_is R.Keys2 (SelectKeys c cur) a ps (x0, x1, x2, x3, x4) = cc
rule_is R.Keys3 (SelectKeys c cur) a ps (x0, x1, x2, x3, x4, x5, x6, x7) = cc
rule_is R.Val1 (Evaluate A (ValuesOf e)) a ps (x0, x1, x2, x3) = cc
rule_is R.Val2 (SelectValues c cur) a ps (x0, x1, x2, x3, x4) = cc
rule_is R.Val3 (SelectValues c cur) a ps (x0, x1, x2, x3, x4, x5, x6, x7) = cc
rule_is R.MakeAssign (Run p A (SetTo e v)) a ps (x0, x1, x2, x3) = cc
rule_is R.MakeInsert (Run p A (InsertAfter e v)) a ps (x0, x1, x2, x3) = cc
rule_is R.MakeDelete (Run p A (DeleteAt e)) a ps (x0, x1, x2, x3) = cc
rule_is R.MakeOp (Make p A cur m) a ps (x0, x1, x2) = cc
rule_is R.ApplyLocal (ApplyOp p A o) a ps (x0, x1, x2) = cc
rule_is R.Send (Occur A (E.Send p) _) a ps (x0, x1, x2, x3) = cc
rule_is R.Recv (Occur A (E.Recv p q) sent) a ps (x0, x1, x2, x3) = cc
rule_is R.RecvOne (Occur A (E.Take p q i) sent) a ps (x0, x1, x2, x3, x4, x5) = cc
rule_is R.ApplyRemote (Occur A (E.Apply p i) _) a ps (x0, x1, x2, x3, x4, x5, x6, x7, x8) = cc
rule_is R.Done (Occur A (E.Done p) _) a ps (x0, x1, x2, x3, x4) = cc
rule_is R.Descend (Operate c o) a ps (x0, x1, x2, x3, x4, x5, x6, x7) = cc
rule_is R.ChildGet (Child c k) a ps (x0, x1, x2, x3) = cc
rule_is R.ChildMap (Child c (MapT k)) a ps (x0, x1, x2) = cc
rule_is R.ChildList (Child c (ListT k)) a ps (x0, x1, x2) = cc
rule_is R.ChildReg (Child c (RegT k)) a ps (x0, x1, x2) = cc
rule_is R.AddId1 (AddId c k i m) a ps (x0, x1, x2, x3) = makes _ x1
rule_is R.AddId2 (AddId c k i m) a ps (x0, x1, x2) = cc
rule_is R.Presence1 (Presence c k) a ps (x0, x1, x2, x3) = cc
rule_is R.Presence2 (Presence c k) a ps (x0, x1, x2) = cc
rule_is R.Assign (Operate c o) a ps (x0, x1, x2, x3, x4, x5, x6, x7, x8, x9) = let e = primitive _ x7 in cc
rule_is R.EmptyMap (Operate c o) a ps (x0, x1, x2, x3, x4, x5, x6, x7) = cc
rule_is R.EmptyList (Operate c o) a ps (x0, x1, x2, x3, x4, x5, x6, x7) = cc
rule_is R.Insert1 (Operate c o) a ps (x0, x1, x2, x3, x4, x5, x6, x7, x8) = let e = before _ _ x6 in cc
rule_is R.Insert2 (Operate c o) a ps (x0, x1, x2, x3, x4, x5, x6, x7, x8) = cc
rule_is R.Delete (Operate c o) a ps (x0, x1, x2, x3, x4, x5) = cc
rule_is R.ClearElem (ClearElem c deps k) a ps (x0, x1, x2, x3, x4) = cc
rule_is R.ClearAny (ClearAny c deps k) a ps (x0, x1, x2, x3, x4, x5, x6, x7) = cc
rule_is R.ClearNone (Clear c deps k) a ps (x0, x1, x2) = cc
rule_is R.ClearReg (Clear c deps (RegT k)) a ps (x0, x1, x2, x3) = cc
rule_is R.ClearMap1 (Clear c deps (MapT k)) a ps (x0, x1, x2, x3, x4, x5) = cc
rule_is R.ClearMap2 (ClearMap c deps done) a ps (x0, x1, x2, x3, x4, x5, x6, x7) = cc
rule_is R.ClearMap3 (ClearMap c deps done) a ps (x0, x1, x2) = cc
rule_is R.ClearList1 (Clear c deps (ListT k)) a ps (x0, x1, x2, x3, x4, x5) = cc
rule_is R.ClearList2 (ClearList c deps (Some k)) a ps (x0, x1, x2, x3, x4, x5, x6, x7) = cc
rule_is R.ClearList3 (ClearList c deps None) a ps (x0, x1) = cc
rule_is _ _ a ps h = absurd h

pub follows : (r s : Rule) (q : Question) (a b : Answer) (ps qs : List Judgement) → Follows r q a ps → Follows s q b qs → (r ≡ s) × Same a b ps qs
follows r s q a b ps qs h k =
    let e : r ≡ s = rule_is r q a ps h ∙ sym (rule_is s q b qs k) in
    (e, same_answer r q a b ps qs h (subst (λ t. Follows t q b qs) (sym e) k))

-- a tree whose question another one asks is that one
mutual
  pub same_derivation : (d e : Derivation) → Holds d → Holds e → asked (conclusion d) ≡ asked (conclusion e) → d ≡ e
  same_derivation (derive r (gives q a) ps) (derive s (gives t b) qs) h k p =
      let f = follows r s q a b (conclusions ps) (conclusions qs) h.0 (subst (λ u. Follows s u b (conclusions qs)) (sym p) k.0) in
      let same : ps ≡ qs = same_premises ps qs h.1 k.1 f.1.0 in
      let one_answer : a ≡ b = f.1.1 (ap conclusions same) in
      λ i. derive (f.0 i) (gives (p i) (one_answer i)) (same i)

  pub same_premises : (ps qs : Premises) → AllHold ps → AllHold qs → Matched (conclusions ps) (conclusions qs) → ps ≡ qs
  same_premises none none h k m = refl
  same_premises none (premise e qs) h k m = absurd m
  same_premises (premise d ps) none h k m = absurd m
  same_premises (premise d ps) (premise e qs) h k m =
      let first : d ≡ e = same_derivation d e h.0 k.0 m.0 in
      λ i. premise (first i) (same_premises ps qs h.1 k.1 (m.1 (ap conclusion first)) i)
