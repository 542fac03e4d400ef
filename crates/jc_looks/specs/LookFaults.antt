-- What a refusal in place of a result means: the contracts of what may be refused cite it.
use Rattle.std.specs.Prelude.{◌≡◌, ℕ, List, Option, Some, Result, MatchResult}
use Rattle.std.specs.declared.alloc.Global.{Global}
use Rattle.std.specs.declared.vec.Vec.{Vec}
use Rattle.jc_rules.specs.declared.refusal.Refusal.{Refusal}
use Rattle.jc_answers.specs.Refusals.{IsRefusedText}
use Rattle.jc_looks.specs.declared.fault.LookFault.{LookFault}
use Rattle.jc_looks.specs.declared.fault.LookFault.TheVariants as F

-- where it is a refusal, its answer is one of these
abbrev pub RefusesBy : (List ℕ → Type 0) → LookFault → Type 0
RefusesBy refuses (F.Refused answer) = refuses answer.items
RefusesBy refuses F.Memory = Unit {0}

-- what was asked for is there, or it is refused by such an answer
abbrev pub Finds : {A : Type 0} → (A → Type 0) → (List ℕ → Type 0) → Result A LookFault → Type 0
Finds found refuses result = MatchResult result found (λ fault. RefusesBy refuses fault)

-- such an answer is given, be it a refusal or not
abbrev pub AnswersBy : (List ℕ → Type 0) → Result (Vec ℕ Global) LookFault → Type 0
AnswersBy answers result = Finds (λ answer. answers answer.items) answers result

-- The answer refuses a text, where there is a refusal and its offset.
pub record IsRefusedAt (text : List ℕ) (refusal : Option Refusal) (place : Option ℕ) (answer : List ℕ) : Type 0 where
  pub which : Refusal
  pub at : ℕ
  pub is_refusal : refusal ≡ Some which
  pub is_place : place ≡ Some at
  pub written : IsRefusedText text which at answer
