-- Lemmas about NextCommand: commands that bind variables, in the state that is represented.
use Rattle.std.proofs.Common.{◌≡◌, ◌≢◌, ℕ, ◌+◌, List, ◌∷◌, None, refl, ◌∙◌, ap, subst}
use Rattle.jc_rules.specs.declared.operation.Event.TheVariants as E
use Rattle.jc_rules.specs.declared.operation.Op.{Op}
use Rattle.jc_rules.specs.declared.rule.Rule.TheVariants as R
use Rattle.jc_rules.specs.Derivation.{Occur, Run, Evaluate, ToState, ToBound}
use Rattle.jc_rules.specs.Derives.{Derives}
use Rattle.jc_rules.specs.Refused.{Cause, Refused, in_command, in_first}
use Rattle.jc_rules.specs.State.{State, Bound}
use Rattle.jc_rules.specs.Syntax.{Expr, Cmd, LetIn, Yield}
use Rattle.jc_rules.specs.Table.{bind}
use Rattle.jc_rules.specs.Trace.{Rows, at_depth}
use Rattle.jc_rules.proofs.DerivesLemmas.{one_premise}
use Rattle.jc_syntax.specs.declared.tree.Cmd.{Cmd as CmdTree}
use Rattle.jc_syntax.specs.declared.tree.Cmd.TheVariants.{Let}
use Rattle.jc_syntax.specs.declared.tree.Expr.{Expr as ExprTree}
use Rattle.jc_syntax.specs.Trees.{cmd_of}
use Rattle.jc_cursor.specs.Evaluates.{Evaluates, IsEvalRefused}
use Rattle.jc_vectors.specs.StoredStates.{stored_state, RepresentsState}
use Rattle.jc_replica.specs.ReplicaHistory.{no_rows}
use Rattle.jc_replica.specs.NextCommand.{Binds, BindsNext, opened}
use Rattle.jc_replica.specs.Refines.{LeadsReplica}
use Rattle.jc_replica.proofs.RefinesLemmas.{left_seen, has_seen}

not_yield : (x : List ℕ) (e : Expr) → LetIn x e ≢ Yield
not_yield x e h = cc

executed : (A : State) (p : ℕ) (x : List ℕ) (e : Expr) (b : Bound) (rest : List Cmd) (os : List Op) (t u : Rows) → A.left ≡ LetIn x e ∷ rest → Derives (Evaluate A e) (ToBound b) (opened (opened t R.Exec) R.Let) u → Derives (Occur A (E.Exec p) os) (ToState (record A { left = rest; vars = bind x b A.vars })) t (at_depth t.depth u)
executed A p x e b rest os t u l d =
    let B : State = record A { vars = bind x b A.vars } in
    let d1 : Derives (Run p A (LetIn x e)) (ToState B) (opened t R.Exec) (at_depth (t.depth + 1) u) = one_premise R.Let (Run p A (LetIn x e)) (ToState B) (Evaluate A e) (ToBound b) (opened t R.Exec) u d (b, refl, refl) in
    one_premise R.Exec (Occur A (E.Exec p) os) (ToState (record B { left = rest })) (Run p A (LetIn x e)) (ToState B) t (at_depth (t.depth + 1) u) d1 (LetIn x e, rest, B, l, not_yield x e, refl, refl)

module _ (set : List Op) (p : ℕ) (A K : State) (stands : RepresentsState set A K) (os : List Op) where
  pub leads_bound : (x : List ℕ) (b : Bound) (new : State) (u w : Rows) → (m : Binds K x b no_rows u) → new ≡ record K { left = m.next.rest; vars = bind x b K.vars } → w ≡ at_depth 0 u → LeadsReplica set (E.Exec p) p os A new w
  leads_bound x b new u w m ne we =
      let B : State = record A { left = m.next.rest; vars = bind m.next.name b A.vars } in
      let is : new ≡ stored_state B = ne ∙ ap (λ (y : List ℕ). record K { left = m.next.rest; vars = bind y b K.vars }) m.name ∙ ap (λ (S : State). record S { left = m.next.rest; vars = bind m.next.name b S.vars }) stands.is in
      record {
        now = B;
        made = None;
        derives = rw we (executed A p m.next.name m.next.expr b m.next.rest os no_rows u (left_seen set A K stands ∙ m.next.next) (m.evaluates A (has_seen set A K stands)));
        stands = record { sound = stands.sound; is = is; applied = stands.applied; made = stands.made; offered = stands.offered; received = stands.received; knows = stands.knows };
        own = λ all. all;
        queue = refl;
        fresh = tt;
      }

  pub refused_let : (next : BindsNext K.left) (why : Cause) → IsEvalRefused K.tree K.vars next.expr why → Refused (Occur A (E.Exec p) os) why
  refused_let next why h = in_command (left_seen set A K stands ∙ next.next) (not_yield next.name next.expr) (in_first refl (h A (has_seen set A K stands)))

-- the next command is the one that is read
pub only_let : (c : CmdTree) (x : List ℕ) (e : Expr) → cmd_of c ≡ LetIn x e → ((y : List ℕ) (f : ExprTree) → c ≡ Let y f → ⊥) → ⊥
only_let (Let y f) x e h n = n y f refl
only_let _ x e h n = cc

pub same_let : (x y : List ℕ) (e f : Expr) → LetIn x e ≡ LetIn y f → (x ≡ y) × (e ≡ f)
same_let x y e f h = (let a : x ≡ y = cc in a, let b : e ≡ f = cc in b)

pub binds : (K : State) (next : BindsNext K.left) (x : List ℕ) (b : Bound) (t t1 t2 u : Rows) → x ≡ next.name → t1 ≡ opened t R.Exec → t2 ≡ opened t1 R.Let → Evaluates K.tree K.vars next.expr b t2 u → Binds K x b t u
binds K next x b t t1 t2 u n e1 e2 h =
    record { next = next; name = n; evaluates = subst (λ (r : Rows). Evaluates K.tree K.vars next.expr b r u) (e2 ∙ ap (λ (r : Rows). opened r R.Let) e1) h }
