-- What requests ask to be shown of replicas, and the answers.
use Rattle.std.specs.Prelude.{◌≡◌, ℕ, ◌<◌, ◌⊎◌, List, Option, Some, None, Ok, Err}
use Rattle.jc_rules.specs.declared.operation.Event.{Event}
use Rattle.jc_rules.specs.declared.refusal.Refusal.{Refusal}
use Rattle.jc_rules.specs.declared.refusal.Refusal.TheVariants.{UnknownReplica}
use Rattle.jc_rules.specs.Refused.{Cause}
use Rattle.jc_rules.specs.Step.{Network}
use Rattle.jc_syntax.specs.declared.tree.Expr.{Expr as AnyExpr}
use Rattle.jc_syntax.specs.Trees.{expr_of}
use Rattle.jc_parser.specs.declared.fault.ScenarioFault.{ScenarioFault}
use Rattle.jc_parser.specs.Expressions.{IsExpressionOf, IsExpressionFault}
use Rattle.jc_parser.specs.Faults.{fault_refusal, fault_offset}
use Rattle.jc_scenario.specs.WellFormed.{Scenario}
use Rattle.jc_session.specs.Answers.{IsNamed, IsStrange}
use Rattle.jc_session.specs.Requests.{Word}
use Rattle.jc_requests.specs.Asked as K
use Rattle.jc_requests.specs.Asked.{Asked, Position}
use Rattle.jc_requests.specs.declared.kinds.Position.{Position as AnyPosition}
use Rattle.jc_requests.specs.Views.{at_view}
use Rattle.jc_answers.specs.Refusals.{refusal_answer, IsRefusedText}
use Rattle.jc_looks.specs.declared.looks.Look.{Look}
use Rattle.jc_looks.specs.declared.looks.Look.TheVariants as L
use Rattle.jc_looks.specs.Looks.{ShowsLook}
use Rattle.jc_listings.specs.Positions.{count_at, unreached_answer, IsAt, StopsAt}

-- ---- what requests ask to be shown

-- the replica of this name has this number; without a name each is meant
abbrev pub IsOneOrEach : List (List ℕ) → Option Word → Option ℕ → Type 0
IsOneOrEach names None p = p ≡ None
IsOneOrEach names (Some name) p = (number : ℕ) × (p ≡ Some number) × IsNamed names name number

-- the replica of the name has this number, and the text is this expression
abbrev pub IsExpressionAt : List (List ℕ) → Word → List ℕ → ℕ × AnyExpr → Type 0
IsExpressionAt names name text found = IsNamed names name found.0 × IsExpressionOf text (expr_of found.1)

-- the request asks for something that a look shows
abbrev pub IsLookRequest : Asked → Type 0
IsLookRequest (K.view at name) = Unit {0}
IsLookRequest (K.view_place at name text) = Unit {0}
IsLookRequest (K.state_at at name) = Unit {0}
IsLookRequest (K.brief at name) = Unit {0}
IsLookRequest (K.eval at name text) = Unit {0}
IsLookRequest request = ⊥

-- The request asks for this look at this position.
abbrev pub AsksLook : List (List ℕ) → Asked → Option Position → Look → Type 0
AsksLook names (K.view at name) position look =
    (position ≡ at) × (p : Option ℕ) × (look ≡ L.View p) × IsOneOrEach names name p
AsksLook names (K.view_place at name text) position look =
    (position ≡ at) × (found : ℕ × AnyExpr) × (look ≡ L.ViewPlace found.0 found.1) × IsExpressionAt names name text found
AsksLook names (K.state_at at name) position look =
    (position ≡ Some at) × (p : Option ℕ) × (look ≡ L.State p) × IsOneOrEach names name p
AsksLook names (K.brief at name) position look = (position ≡ at) × (p : ℕ) × (look ≡ L.Brief p) × IsNamed names name p
AsksLook names (K.eval at name text) position look =
    (position ≡ at) × (found : ℕ × AnyExpr) × (look ≡ L.Eval found.0 found.1) × IsExpressionAt names name text found
AsksLook names request position look = ⊥

-- no replica has the name, and so the request is refused
abbrev pub IsStrangeAnswer : List (List ℕ) → Word → List ℕ → Type 0
IsStrangeAnswer names name answer = IsStrange names name × (answer ≡ refusal_answer UnknownReplica)

-- A replica has the name, and the text is no expression.
pub record IsMisspelledAnswer (names : List (List ℕ)) (name : Word) (text answer : List ℕ) : Type 0 where
  pub number : ℕ
  pub named : IsNamed names name number
  pub fault : ScenarioFault
  pub refusal : Refusal
  pub place : ℕ
  pub is_fault : IsExpressionFault text fault
  pub is_refusal : fault_refusal fault ≡ Some refusal
  pub is_place : fault_offset fault ≡ Some place
  pub written : IsRefusedText text refusal place answer

-- a replica's name and an expression's text are refused, by the first of them that is none
abbrev pub IsBadExpression : List (List ℕ) → Word → List ℕ → List ℕ → Type 0
IsBadExpression names name text answer = IsStrangeAnswer names name answer ⊎ IsMisspelledAnswer names name text answer

-- where there is a name, no replica has it
abbrev pub IsBadName : List (List ℕ) → Option Word → List ℕ → Type 0
IsBadName names None answer = ⊥
IsBadName names (Some name) answer = IsStrangeAnswer names name answer

-- the request asks for a look, and its name or its expression is refused
abbrev pub IsBadLook : List (List ℕ) → Asked → List ℕ → Type 0
IsBadLook names (K.view at name) answer = IsBadName names name answer
IsBadLook names (K.view_place at name text) answer = IsBadExpression names name text answer
IsBadLook names (K.state_at at name) answer = IsBadName names name answer
IsBadLook names (K.brief at name) answer = IsStrangeAnswer names name answer
IsBadLook names (K.eval at name text) answer = IsBadExpression names name text answer
IsBadLook names request answer = ⊥

-- what was found of a request: the look, and at which position; or that it asks for none
abbrev pub IsFoundLook : List (List ℕ) → Asked → Option (Option AnyPosition × Look) → Type 0
IsFoundLook names request None = IsLookRequest request → ⊥
IsFoundLook names request (Some found) = AsksLook names request (at_view found.0) found.1

-- ---- the answer

-- What a look at a position is answered, or at this position of the schedule where none is asked for.
pub data LooksAt (s : Scenario) (schedule : List Event) (position : ℕ) (at : Option Position) (look : Look)
    : List ℕ → Type 0 where
  nowhere : {refusal : Refusal}
      → count_at s schedule position at ≡ Err refusal
      → LooksAt s schedule position at look (refusal_answer refusal)
  unreached : {count stop : ℕ} {network : Network} {event : Event} {why : Cause}
      → count_at s schedule position at ≡ Ok count
      → stop < count
      → StopsAt s schedule stop network event why
      → LooksAt s schedule position at look (unreached_answer s schedule stop network why event)
  shows : {count : ℕ} {network : Network} {answer : List ℕ}
      → count_at s schedule position at ≡ Ok count
      → IsAt s schedule count network
      → ShowsLook s.names network.states look answer
      → LooksAt s schedule position at look answer

-- What is answered to a request for a look, where one stands at a position of a schedule.
pub data AnswersLook (s : Scenario) (schedule : List Event) (position : ℕ) (request : Asked) : List ℕ → Type 0 where
  bad : {answer : List ℕ} → IsBadLook s.names request answer → AnswersLook s schedule position request answer
  looks : {at : Option Position} {look : Look} {answer : List ℕ}
      → AsksLook s.names request at look
      → LooksAt s schedule position at look answer
      → AnswersLook s schedule position request answer
