-- Questions, answers, judgements and derivations: what the rules of the table are about.
use Rattle.std.specs.Prelude.{ℕ, ◌+◌, List, [], ◌∷◌, ◌++◌, Option}
use Rattle.jc_rules.specs.declared.id.Id.{Id}
use Rattle.jc_rules.specs.declared.key.Key.{Key}
use Rattle.jc_rules.specs.declared.key.Tagged.{Tagged}
use Rattle.jc_rules.specs.declared.operation.Mutation.{Mutation}
use Rattle.jc_rules.specs.declared.operation.Cursor.{Cursor}
use Rattle.jc_rules.specs.declared.operation.Op.{Op}
use Rattle.jc_rules.specs.declared.operation.Event.{Event}
use Rattle.jc_rules.specs.declared.rule.Rule.{Rule}
use Rattle.jc_rules.specs.declared.value.Value.{Value}
use Rattle.jc_rules.specs.Context.{Context, Content}
use Rattle.jc_rules.specs.Syntax.{Expr, Cmd}
use Rattle.jc_rules.specs.State.{State, Bound}

-- a state or context, and what is evaluated in it
pub data Question : Type 0 where
  Occur : State → Event → List Op → Question
  Run : ℕ → State → Cmd → Question
  Evaluate : State → Expr → Question
  SelectIndex : Context → Cursor → ℕ → Question
  SelectKeys : Context → Cursor → Question
  SelectValues : Context → Cursor → Question
  Make : ℕ → State → Cursor → Mutation → Question
  ApplyOp : ℕ → State → Op → Question
  Operate : Context → Op → Question
  Child : Context → Tagged → Question
  AddId : Context → Tagged → Id → Mutation → Question
  Presence : Context → Key → Question
  Clear : Context → List Id → Tagged → Question
  ClearAny : Context → List Id → Key → Question
  ClearElem : Context → List Id → Key → Question
  ClearMap : Context → List Id → List Key → Question
  ClearList : Context → List Id → Option Key → Question

pub data Answer : Type 0 where
  ToState : State → Answer
  ToBound : Bound → Answer
  ToCursor : Cursor → Answer
  ToNames : List (List ℕ) → Answer
  ToPairs : List (Id × Value) → Answer
  ToContext : Context → Answer
  ToContent : Content → Answer
  ToIds : List Id → Answer
  Cleared : Context → List Id → Answer

-- the question and its answer
pub data Judgement : Type 0 where
  gives : Question → Answer → Judgement

abbrev pub asked : Judgement → Question
asked (gives q a) = q

abbrev pub answered : Judgement → Answer
answered (gives q a) = a

-- a tree of rules
mutual
  pub data Derivation : Type 0 where
    derive : Rule → Judgement → Premises → Derivation

  pub data Premises : Type 0 where
    none : Premises
    premise : Derivation → Premises → Premises

abbrev pub conclusion : Derivation → Judgement
conclusion (derive r j ps) = j

abbrev pub conclusions : Premises → List Judgement
conclusions none = []
conclusions (premise d ps) = conclusion d ∷ conclusions ps

-- the rules in preorder, each with its depth
abbrev mutual
  pub trace : ℕ → Derivation → List (Rule × ℕ)
  trace n (derive r j ps) = (r, n) ∷ traces (n + 1) ps

  pub traces : ℕ → Premises → List (Rule × ℕ)
  traces n none = []
  traces n (premise d ps) = trace n d ++ traces n ps
