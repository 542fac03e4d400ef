-- About Agree of specs/KnownIds: dependencies that agree on all known identifiers give the same derivation.
use Rattle.std.proofs.Common.{◌≡◌, ℕ, ◌+◌, List, [], ◌∷◌, ◌++◌, Some, None, refl, sym, ◌∙◌, ap}
use Rattle.jc_rules.specs.declared.id.Id.{Id}
use Rattle.jc_rules.specs.declared.key.Key.TheVariants as K
use Rattle.jc_rules.specs.declared.key.Tagged.TheVariants.{MapT, ListT, RegT}
use Rattle.jc_rules.specs.declared.key.Next.TheVariants.{Elem as To}
use Rattle.jc_rules.specs.declared.rule.Rule.{Rule}
use Rattle.jc_rules.specs.declared.rule.Rule.TheVariants as R
use Rattle.jc_rules.specs.Order.{id_cmp}
use Rattle.jc_rules.specs.Entries.{put, keys_of}
use Rattle.jc_rules.specs.Ids.{has_id, with_id, union, without}
use Rattle.jc_rules.specs.Context.{Node, Values, Register, with_content, with_presence, with_next, key_of_tagged}
use Rattle.jc_rules.specs.Derivation.{Question, Occur, Run, Evaluate, SelectIndex, SelectKeys, SelectValues, Make, ApplyOp, Operate, Child, AddId, Presence, Clear, ClearAny, ClearElem, ClearMap, ClearList, Answer, ToContext, ToContent, ToIds, Cleared, Judgement, gives, asked, answered, Derivation, derive, Premises, none, premise, conclusions, conclusion, trace, traces}
use Rattle.jc_rules.specs.Table.{Follows, Holds, AllHold, kept}
use Rattle.jc_rules.specs.Derives.{Derives}
use Rattle.jc_rules.specs.Trace.{Rows}
use Rattle.jc_vectors.specs.OperationIds.{with_deps}
use Rattle.jc_vectors.specs.KnownIds.{EachId, EachOf}
use Rattle.jc_vectors.proofs.KnownIdsLemmas.{Each, each_content, each_presence, each-with_content, each-new, each-with_presence, each-with_next, each-with, each-union, each-without, each-kept, each-keys, pairs-put, without-alike, kept-alike}

module _ (P : Id → Type 0) (e : List Id) where
  -- the same for known identifiers
  abbrev pub Alike : List Id → Type 0
  Alike d = (i : Id) → P i → has_id i d ≡ has_id i e

  -- what it takes of a question
  abbrev pub KnownQuestion : Question → Type 0
  KnownQuestion (Operate c o) = EachId P c × P o.id × Alike o.deps
  KnownQuestion (Child c k) = EachId P c
  KnownQuestion (AddId c k i m) = EachId P c × P i
  KnownQuestion (Presence c k) = EachId P c
  KnownQuestion (Clear c d k) = EachId P c × Alike d
  KnownQuestion (ClearAny c d k) = EachId P c × Alike d
  KnownQuestion (ClearElem c d k) = EachId P c × Alike d
  KnownQuestion (ClearMap c d done) = EachId P c × Alike d
  KnownQuestion (ClearList c d k) = EachId P c × Alike d
  KnownQuestion _ = ⊥

  abbrev pub KnownAnswer : Answer → Type 0
  KnownAnswer (ToContext c) = EachId P c
  KnownAnswer (ToContent x) = EachOf P x
  KnownAnswer (ToIds s) = Each P s
  KnownAnswer (Cleared c s) = EachId P c × Each P s
  KnownAnswer _ = Unit {0}

  -- with the other dependencies
  abbrev pub swap_question : Question → Question
  swap_question (Operate c o) = Operate c (with_deps e o)
  swap_question (Clear c d k) = Clear c e k
  swap_question (ClearAny c d k) = ClearAny c e k
  swap_question (ClearElem c d k) = ClearElem c e k
  swap_question (ClearMap c d done) = ClearMap c e done
  swap_question (ClearList c d k) = ClearList c e k
  swap_question q = q

  abbrev swap_judgement : Judgement → Judgement
  swap_judgement (gives q a) = gives (swap_question q) a

  abbrev swap_judgements : List Judgement → List Judgement
  swap_judgements [] = []
  swap_judgements (j ∷ js) = swap_judgement j ∷ swap_judgements js

  -- each premise asks what is known as long as the ones before it have known answers
  abbrev Flows : List Judgement → Type 0
  Flows [] = Unit {0}
  Flows (j ∷ js) = KnownQuestion (asked j) × (KnownAnswer (answered j) → Flows js)

  abbrev AllKnown : List Judgement → Type 0
  AllKnown [] = Unit {0}
  AllKnown (j ∷ js) = KnownAnswer (answered j) × AllKnown js

  -- one rule
  abbrev Steps : Rule → Question → Answer → List Judgement → Type 0
  Steps r q a ps = Flows ps × (AllKnown ps → KnownAnswer a × Follows r (swap_question q) a (swap_judgements ps))

  step : (r : Rule) (q : Question) (a : Answer) (ps : List Judgement) → Follows r q a ps → KnownQuestion q → Steps r q a ps
  step _ (Occur A v s) a ps h k0 = absurd k0
  step _ (Run p A c) a ps h k0 = absurd k0
  step _ (Evaluate A x) a ps h k0 = absurd k0
  step _ (SelectIndex c cur i) a ps h k0 = absurd k0
  step _ (SelectKeys c cur) a ps h k0 = absurd k0
  step _ (SelectValues c cur) a ps h k0 = absurd k0
  step _ (Make p A cur m) a ps h k0 = absurd k0
  step _ (ApplyOp p A o) a ps h k0 = absurd k0
  step R.Descend (Operate c o) a ps (k1, rest, d, en, c2, e1, e2, e3) k =
      rw (e2, e3) ((k.0, λ x. ((x, k.1, k.2), λ y. ((k.0, k.1), λ z. tt))), λ all. (each-with_content P k1 (Node en) c2 all.1.1.0 all.1.0, (k1, rest, d, en, c2, e1, refl, refl)))
  step R.ChildGet (Child c k) a ps (x, e1, e2, e3) k0 =
      rw (e2, e3) (tt, λ all. (each_content P k c x e1 k0, (x, e1, refl, refl)))
  step R.ChildMap (Child c (MapT k)) a ps (e1, e2, e3) k0 =
      rw (e2, e3) (tt, λ all. (each-new P (MapT k), (e1, refl, refl)))
  step R.ChildList (Child c (ListT k)) a ps (e1, e2, e3) k0 =
      rw (e2, e3) (tt, λ all. (each-new P (ListT k), (e1, refl, refl)))
  step R.ChildReg (Child c (RegT k)) a ps (e1, e2, e3) k0 =
      rw (e2, e3) (tt, λ all. (each-new P (RegT k), (e1, refl, refl)))
  step R.AddId1 (AddId c k i m) a ps (s, e1, e2, e3) k0 =
      rw (e2, e3) ((k0.0, λ x. tt), λ all. (each-with_presence P (key_of_tagged k) (with_id i s) c k0.0 (each-with P i s k0.1 all.0), (s, e1, refl, refl)))
  step R.AddId2 (AddId c k i m) a ps (e1, e2, e3) k0 =
      rw (e2, e3) (tt, λ all. (k0.0, (e1, refl, refl)))
  step R.Presence1 (Presence c k) a ps (s, e1, e2, e3) k0 =
      rw (e2, e3) (tt, λ all. (each_presence P k c s e1 k0, (s, e1, refl, refl)))
  step R.Presence2 (Presence c k) a ps (e1, e2, e3) k0 =
      rw (e2, e3) (tt, λ all. (tt, (e1, refl, refl)))
  step R.Assign (Operate c o) a ps (v, c1, s, c2, r, e1, e2, e3, e4, e5) k =
      rw (e4, e5) (((k.0, k.2), λ x. ((x.0, k.1), λ y. (y, λ z. tt))), λ all. (each-with_content P (RegT o.cursor.last) (Values (put id_cmp o.id v r)) c2 all.1.0 (pairs-put P o.id v r k.1 all.1.1.0), (v, c1, s, c2, r, e1, e2, e3, refl, refl)))
  step R.EmptyMap (Operate c o) a ps (c1, s, c2, x, e1, e2, e3, e4) k =
      rw (e3, e4) (((k.0, k.2), λ u. ((u.0, k.1), λ y. (y, λ z. tt))), λ all. (each-with_content P (MapT o.cursor.last) x c2 all.1.0 all.1.1.0, (c1, s, c2, x, e1, e2, refl, refl)))
  step R.EmptyList (Operate c o) a ps (c1, s, c2, x, e1, e2, e3, e4) k =
      rw (e3, e4) (((k.0, k.2), λ u. ((u.0, k.1), λ y. (y, λ z. tt))), λ all. (each-with_content P (ListT o.cursor.last) x c2 all.1.0 all.1.1.0, (c1, s, c2, x, e1, e2, refl, refl)))
  step R.Insert1 (Operate c o) a ps (v, n, d, e1, e2, e3, e4, e5, e6) k =
      rw (e5, e6) ((k, λ x. tt), λ all. (each-with_next P (K.Elem o.id) n (with_next o.cursor.last (To o.id) d) (each-with_next P o.cursor.last (To o.id) d all.0), (v, n, d, e1, e2, e3, e4, refl, refl)))
  step R.Insert2 (Operate c o) a ps (v, n, d, e1, e2, e3, e4, e5, e6) k =
      rw (e5, e6) ((k, λ x. tt), λ all. (all.0, (v, n, d, e1, e2, e3, e4, refl, refl)))
  step R.Delete (Operate c o) a ps (d, s, e1, e2, e3, e4) k =
      rw (e3, e4) (((k.0, k.2), λ x. tt), λ all. (all.0.0, (d, s, e1, e2, refl, refl)))
  step R.ClearElem (ClearElem c deps k) a ps (d, s1, s2, e1, e2) k0 =
      rw (e1, e2) ((k0, λ x. (x.0, λ y. tt)), λ all. let known = each-union P s1 s2 all.0.1 all.1.0 in let left = each-without P (union s1 s2) deps known in ((each-with_presence P k (without (union s1 s2) deps) d all.0.0 left, left), (d, s1, s2, refl, ap (λ (w : List Id). Cleared (with_presence k w d) w) (without-alike P (union s1 s2) deps e k0.1 known))))
  step R.ClearAny (ClearAny c deps k) a ps (c1, s1, c2, s2, c3, s3, e1, e2) k0 =
      rw (e1, e2) ((k0, λ x. ((x.0, k0.1), λ y. ((y.0, k0.1), λ z. tt))), λ all. ((all.1.1.0.0, each-union P s1 (union s2 s3) all.0.1 (each-union P s2 s3 all.1.0.1 all.1.1.0.1)), (c1, s1, c2, s2, c3, s3, refl, refl)))
  step R.ClearNone (Clear c deps k) a ps (e1, e2, e3) k0 =
      rw (e2, e3) (tt, λ all. ((k0.0, tt), (e1, refl, refl)))
  step R.ClearReg (Clear c deps (RegT k)) a ps (r, e1, e2, e3) k0 =
      rw (e2, e3) (tt, λ all. let pairs = each_content P (RegT k) c (Values r) e1 k0.0 in let left = each-kept P deps r pairs in ((each-with_content P (RegT k) (Values (kept deps r)) c k0.0 left, each-keys P (kept deps r) left), (r, e1, refl, ap (λ (w : Register). Cleared (with_content (RegT k) (Values w) c) (keys_of w)) (kept-alike P deps e r k0.1 pairs))))
  step R.ClearMap1 (Clear c deps (MapT k)) a ps (d, en, s, e1, e2, e3) k0 =
      rw (e2, e3) (((each_content P (MapT k) c (Node d) e1 k0.0, k0.1), λ x. tt), λ all. ((each-with_content P (MapT k) (Node en) c k0.0 all.0.0, all.0.1), (d, en, s, e1, refl, refl)))
  step R.ClearMap2 (ClearMap c deps done) a ps (k, c1, s1, c2, s2, e1, e2, e3) k0 =
      rw (e2, e3) ((k0, λ x. ((x.0, k0.1), λ y. tt)), λ all. ((all.1.0.0, each-union P s1 s2 all.0.1 all.1.0.1), (k, c1, s1, c2, s2, e1, refl, refl)))
  step R.ClearMap3 (ClearMap c deps done) a ps (e1, e2, e3) k0 =
      rw (e2, e3) (tt, λ all. ((k0.0, tt), (e1, refl, refl)))
  step R.ClearList1 (Clear c deps (ListT k)) a ps (d, en, s, e1, e2, e3) k0 =
      rw (e2, e3) (((each_content P (ListT k) c (Node d) e1 k0.0, k0.1), λ x. tt), λ all. ((each-with_content P (ListT k) (Node en) c k0.0 all.0.0, all.0.1), (d, en, s, e1, refl, refl)))
  step R.ClearList2 (ClearList c deps (Some k)) a ps (n, c1, s1, c2, s2, e1, e2, e3) k0 =
      rw (e2, e3) ((k0, λ x. ((x.0, k0.1), λ y. tt)), λ all. ((all.1.0.0, each-union P s1 s2 all.0.1 all.1.0.1), (n, c1, s1, c2, s2, e1, refl, refl)))
  step R.ClearList3 (ClearList c deps None) a ps (e1, e2) k0 =
      rw (e1, e2) (tt, λ all. ((k0.0, tt), (refl, refl)))
  step _ _ a ps h k0 = absurd h

  -- a derivation with the other dependencies
  abbrev mutual
    swap : Derivation → Derivation
    swap (derive r j ps) = derive r (swap_judgement j) (swap_all ps)

    swap_all : Premises → Premises
    swap_all none = none
    swap_all (premise d ps) = premise (swap d) (swap_all ps)

  conclusion-swap : (d : Derivation) → conclusion (swap d) ≡ swap_judgement (conclusion d)
  conclusion-swap (derive r j ps) = refl

  conclusions-swap : (ps : Premises) → conclusions (swap_all ps) ≡ swap_judgements (conclusions ps)
  conclusions-swap none = refl
  conclusions-swap (premise d ps) = λ n. conclusion-swap d n ∷ conclusions-swap ps n

  mutual
    trace-swap : (n : ℕ) (d : Derivation) → trace n (swap d) ≡ trace n d
    trace-swap n (derive r j ps) = ap (λ (x : List (Rule × ℕ)). (r, n) ∷ x) (traces-swap (n + 1) ps)

    traces-swap : (n : ℕ) (ps : Premises) → traces n (swap_all ps) ≡ traces n ps
    traces-swap n none = refl
    traces-swap n (premise d ps) = λ m. trace-swap n d m ++ traces-swap n ps m

  mutual
    holds-swap : (d : Derivation) → Holds d → KnownQuestion (asked (conclusion d)) → Holds (swap d) × KnownAnswer (answered (conclusion d))
    holds-swap (derive r (gives q a) ps) h k =
        let s = step r q a (conclusions ps) h.0 k in
        let rest = all-swap ps h.1 s.0 in
        let t = s.1 rest.1 in
        ((rw (conclusions-swap ps) t.1, rest.0), t.0)

    all-swap : (ps : Premises) → AllHold ps → Flows (conclusions ps) → AllHold (swap_all ps) × AllKnown (conclusions ps)
    all-swap none h f = (tt, tt)
    all-swap (premise d ps) h f =
        let one = holds-swap d h.0 f.0 in
        let more = all-swap ps h.1 (f.1 one.1) in
        ((one.0, more.0), (one.1, more.1))

  pub derives-swap : (q : Question) (a : Answer) (t u : Rows) → KnownQuestion q → Derives q a t u → Derives (swap_question q) a t u × KnownAnswer a
  derives-swap q a t u k h =
      let d : Derivation = h.derivation in
      let c : conclusion d ≡ gives q a = h.concludes in
      let both = holds-swap d h.holds (rw c k) in (
        record {
          derivation = swap d;
          holds = both.0;
          concludes = conclusion-swap d ∙ ap swap_judgement c;
          rows = h.rows ∙ ap (λ (x : List (Rule × ℕ)). t.rows ++ x) (sym (trace-swap t.depth d));
          depth = h.depth;
        },
        (let known = both.1 in rw c at known),
      )
