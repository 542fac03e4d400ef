-- Lemmas about Refines: the state that is represented before and after an event.
use Rattle.std.proofs.Common.{◌≡◌, ℕ, List, ◌∷◌, map, None, true, false, refl, sym, ◌∙◌, ap}
use Rattle.jc_rules.specs.declared.operation.Op.{Op}
use Rattle.jc_rules.specs.declared.operation.Event.TheVariants as E
use Rattle.jc_rules.specs.declared.rule.Rule.TheVariants as R
use Rattle.jc_rules.specs.State.{State}
use Rattle.jc_rules.specs.Syntax.{Cmd, Yield}
use Rattle.jc_rules.specs.Derivation.{Occur, ToState}
use Rattle.jc_rules.specs.Table.{both}
use Rattle.jc_rules.specs.Trace.{Rows, pushed}
use Rattle.jc_rules.proofs.DerivesLemmas.{by_axiom}
use Rattle.jc_cursor.specs.Evaluates.{Has}
use Rattle.jc_vectors.specs.StoredStates.{stored_op, stored_state, RepresentsState}
use Rattle.jc_vectors.proofs.UnionStandsLemmas.{union_stands}
use Rattle.jc_replica.specs.ReplicaHistory.{no_rows}
use Rattle.jc_replica.specs.Refines.{LeadsReplica}

module _ (set : List Op) (A K : State) (stands : RepresentsState set A K) where
  pub left_seen : A.left ≡ K.left
  left_seen = ap (λ (S : State). S.left) (sym stands.is)

  pub acted_seen : A.acted ≡ K.acted
  acted_seen = ap (λ (S : State). S.acted) (sym stands.is)

  pub has_seen : Has K.tree K.vars A
  has_seen = record { tree = ap (λ (S : State). S.tree) (sym stands.is); vars = ap (λ (S : State). S.vars) (sym stands.is) }

module _ (set : List Op) (p : ℕ) (A K : State) (stands : RepresentsState set A K) where
  -- offering
  pub leads_sent : (os : List Op) (rest : List Cmd) (new : State) (rows : Rows) → K.left ≡ Yield ∷ rest → both K.send K.queue ≡ K.queue → new ≡ record K { acted = true; send = K.queue } → rows ≡ pushed no_rows R.Send → LeadsReplica set (E.Send p) p os A new rows
  leads_sent os rest new rows l b ne re =
      let B : State = record A { acted = true; send = both A.send A.queue } in
      let u = union_stands set A.send A.queue stands.offered stands.made in
      let kept : K.queue ≡ map stored_op (both A.send A.queue) = sym b ∙ ap (λ (S : State). both S.send S.queue) stands.is ∙ u.0 in
      let is : new ≡ stored_state B = ne ∙ ap (λ (q : List Op). record K { acted = true; send = q }) kept ∙ ap (λ (S : State). record S { acted = true; send = map stored_op (both A.send A.queue) }) stands.is in
      record {
        now = B;
        made = None;
        derives = rw re (by_axiom R.Send (Occur A (E.Send p) os) (ToState B) no_rows (rest, left_seen set A K stands ∙ l, refl, refl));
        stands = record { sound = stands.sound; is = is; applied = stands.applied; made = stands.made; offered = u.1; received = stands.received; knows = stands.knows };
        own = λ all. all;
        queue = refl;
        fresh = tt;
      }

  -- the end of a yield
  pub leads_done : (os : List Op) (rest : List Cmd) (new : State) (rows : Rows) → K.left ≡ Yield ∷ rest → K.acted ≡ true → new ≡ record K { left = rest; acted = false } → rows ≡ pushed no_rows R.Done → LeadsReplica set (E.Done p) p os A new rows
  leads_done os rest new rows l a ne re =
      let B : State = record A { left = rest; acted = false } in
      record {
        now = B;
        made = None;
        derives = rw re (by_axiom R.Done (Occur A (E.Done p) os) (ToState B) no_rows (rest, left_seen set A K stands ∙ l, acted_seen set A K stands ∙ a, refl, refl));
        stands = record { sound = stands.sound; is = ne ∙ ap (λ (S : State). record S { left = rest; acted = false }) stands.is; applied = stands.applied; made = stands.made; offered = stands.offered; received = stands.received; knows = stands.knows };
        own = λ all. all;
        queue = refl;
        fresh = tt;
      }
