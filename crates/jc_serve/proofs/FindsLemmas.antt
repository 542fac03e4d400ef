-- Of jc_looks' `LookFaults`: what is known of a result, carried over to what is asked.
use Rattle.std.proofs.Common.{ℕ, List, Result, Ok, Err, IfOk}
use Rattle.std.specs.declared.alloc.Global.{Global}
use Rattle.std.specs.declared.vec.Vec.{Vec}
use Rattle.jc_looks.specs.declared.fault.LookFault.{LookFault}
use Rattle.jc_looks.specs.declared.fault.LookFault.TheVariants as F
use Rattle.jc_looks.specs.LookFaults.{RefusesBy, Finds, AnswersBy}
use Rattle.jc_serve.specs.AnswerOf.{answer_in}

pub refuses_weaker : {P Q : List ℕ → Type 0} (fault : LookFault) → ((answer : List ℕ) → P answer → Q answer) → RefusesBy P fault → RefusesBy Q fault
refuses_weaker (F.Refused answer) f h = f answer.items h
refuses_weaker F.Memory f h = tt

pub finds_weaker : {A : Type 0} {P Q : A → Type 0} {R S : List ℕ → Type 0} (r : Result A LookFault) → ((x : A) → P x → Q x) → ((answer : List ℕ) → R answer → S answer) → Finds P R r → Finds Q S r
finds_weaker (Ok x) f g h = f x h
finds_weaker (Err fault) f g h = refuses_weaker fault g h

pub answers_weaker : {P Q : List ℕ → Type 0} (r : Result (Vec ℕ Global) LookFault) → ((answer : List ℕ) → P answer → Q answer) → AnswersBy P r → AnswersBy Q r
answers_weaker (Ok x) f h = f x.items h
answers_weaker (Err fault) f h = refuses_weaker fault f h

-- a refusal is an answer too
pub answers_in : (P : List ℕ → Type 0) (r : Result (Vec ℕ Global) LookFault) → AnswersBy P r → IfOk (answer_in r) (λ answer. P answer.items)
answers_in P (Ok x) h = h
answers_in P (Err (F.Refused answer)) h = h
answers_in P (Err F.Memory) h = tt
