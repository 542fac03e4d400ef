-- About OwnAreApplied of specs/StateLaws: what a replica has applied stays applied.
use Rattle.std.proofs.Common.{◌≡◌, ℕ, zero, suc, List, [], ◌∷◌, true, ◌∙◌, ap, subst, arith}
use Rattle.jc_rules.specs.declared.id.Id.{Id}
use Rattle.jc_rules.specs.declared.operation.Event.TheVariants as E
use Rattle.jc_rules.specs.declared.operation.Event.{Event}
use Rattle.jc_rules.specs.declared.operation.Op.{Op}
use Rattle.jc_rules.specs.declared.rule.Rule.{Rule}
use Rattle.jc_rules.specs.declared.rule.Rule.TheVariants as R
use Rattle.jc_rules.specs.Derivation.{Question, Occur, Run, Make, ApplyOp, Answer, ToState, Judgement, gives, Derivation, derive, Premises, none, premise, conclusions, conclusion}
use Rattle.jc_rules.specs.Derives.{Derives}
use Rattle.jc_rules.specs.Ids.{has_id, with_id, AreIn}
use Rattle.jc_rules.specs.Order.{same_id}
use Rattle.jc_rules.specs.State.{State}
use Rattle.jc_rules.specs.Syntax.{LetIn, SetTo, InsertAfter, DeleteAt}
use Rattle.jc_rules.specs.Table.{Follows, Holds, AllHold}
use Rattle.jc_rules.specs.Trace.{Rows}
use Rattle.jc_rules.proofs.IdsLemmas.{has_id-with}
use Rattle.jc_vectors.specs.StateLaws.{OwnAreApplied}
use Rattle.jc_vectors.specs.StoredStates.{HasOwn}
use Rattle.jc_rules.proofs.BoolLemmas.{or_right}
use Rattle.jc_vectors.proofs.StateShrinksLemmas.{further}

-- where a state leads to a state, the identifiers applied are applied there too
abbrev Grows : Judgement → Type 0
Grows (gives (Occur A e os) (ToState B)) = AreIn A.ops B.ops
Grows (gives (Run p A c) (ToState B)) = AreIn A.ops B.ops
Grows (gives (Make p A cur m) (ToState B)) = AreIn A.ops B.ops
Grows (gives (ApplyOp p A o) (ToState B)) = AreIn A.ops B.ops
Grows _ = Unit {0}

abbrev AllGrow : List Judgement → Type 0
AllGrow [] = Unit {0}
AllGrow (j ∷ js) = Grows j × AllGrow js

with_more_in : (i : Id) (s : List Id) → AreIn s (with_id i s)
with_more_in i s k h = has_id-with k i s ∙ or_right (same_id k i) (has_id k s) h

step : (r : Rule) (q : Question) (a : Answer) (ps : List Judgement) → Follows r q a ps → AllGrow ps → Grows (gives q a)
step R.Exec (Occur A (E.Exec p) os) a ps (c, rest, B, e1, n, e2, e3) g =
    let in_b = subst AllGrow e2 g in
    rw e3 in_b.0
step R.Let (Run p A (LetIn x e)) a ps (b, e1, e2) g = rw e2 (λ i h. h)
step R.MakeAssign (Run p A (SetTo e v)) a ps (cur, B, e1, e2) g =
    let in_b = subst AllGrow e1 g in
    rw e2 in_b.1.0
step R.MakeInsert (Run p A (InsertAfter e v)) a ps (cur, B, e1, e2) g =
    let in_b = subst AllGrow e1 g in
    rw e2 in_b.1.0
step R.MakeDelete (Run p A (DeleteAt e)) a ps (cur, B, e1, e2) g =
    let in_b = subst AllGrow e1 g in
    rw e2 in_b.1.0
step R.MakeOp (Make p A cur m) a ps (B, e1, e2) g =
    let in_b = subst AllGrow e1 g in
    rw e2 in_b.0
step R.ApplyLocal (ApplyOp p A o) a ps (t, e1, e2) g = rw e2 (with_more_in o.id A.ops)
step R.Send (Occur A (E.Send p) os) a ps (rest, e1, e2, e3) g = rw e3 (λ i h. h)
step R.Recv (Occur A (E.Recv p q) os) a ps (rest, e1, e2, e3) g = rw e3 (λ i h. h)
step R.RecvOne (Occur A (E.Take p q i) os) a ps (rest, o, e1, e2, e3, e4) g = rw e4 (λ j h. h)
step R.ApplyRemote (Occur A (E.Apply p i) os) a ps (rest, o, t, e1, e2, e3, d, e4, e5) g = rw e5 (with_more_in i A.ops)
step R.Done (Occur A (E.Done p) os) a ps (rest, e1, e2, e3, e4) g = rw e4 (λ i h. h)
step _ (Occur A e os) a ps h g = absurd h
step _ (Run p A c) a ps h g = absurd h
step _ (Make p A cur m) a ps h g = absurd h
step _ (ApplyOp p A o) a ps h g = absurd h
step _ _ a ps h g = tt

mutual
  grows : (d : Derivation) → Holds d → Grows (conclusion d)
  grows (derive r (gives q a) ps) h = step r q a (conclusions ps) h.0 (all_grow ps h.1)

  all_grow : (ps : Premises) → AllHold ps → AllGrow (conclusions ps)
  all_grow none h = tt
  all_grow (premise d ps) h = (grows d h.0, all_grow ps h.1)

pub applied_stay : (A B : State) (event : Event) (os : List Op) (t u : Rows) → Derives (Occur A event os) (ToState B) t u → AreIn A.ops B.ops
applied_stay A B event os t u d = subst Grows d.concludes (grows d.derivation d.holds)

pub own_are_applied : OwnAreApplied
own_are_applied = record {
  by_events = λ set os p A B event t u own d e c r. applied_stay A B event os t u d e.id (own e c r);
  with_more = λ set o p A own here e c r. go set o p A own here e c r;
  with_less = λ set o p A own e c r. own e (further o set e c) r;
}
  where
    go : (set : List Op) (o : Op) (p : ℕ) (A : State) → HasOwn set p A → (o.id.replica ≡ p → has_id o.id A.ops ≡ true) → HasOwn (o ∷ set) p A
    go set o p A own here e (zero, l, f) r = subst (λ (x : Op). has_id x.id A.ops ≡ true) f (here (ap (λ (x : Op). x.id.replica) f ∙ r))
    go set o p A own here e (suc k, l, f) r = own e (k, (omega arith), f) r
