-- What the loop of `serve` keeps, and what one request comes to in memory: the contracts of private functions cite it.
use Rattle.std.specs.Prelude.{◌≡◌, ℕ, ◌+◌, List, ◌++◌, length, Option, Some, None}
use Rattle.jc_io.specs.declared.io.ReadFault.{ReadFault}
use Rattle.jc_io.specs.declared.io.ReadFault.TheVariants as R
use Rattle.jc_io.specs.Written.{Stream, Wrote}
use Rattle.jc_requests.specs.declared.input.TheConstants.{MAX_INPUT, MAX_REQUESTS}
use Rattle.jc_requests.specs.Input.{Turn, InputEnd, AreTurns, AreDue}
use Rattle.jc_serve.specs.declared.serving.Held.{Held as AnyHeld}
use Rattle.jc_serve.specs.declared.serving.ServeFault.{ServeFault}
use Rattle.jc_serve.specs.declared.serving.ServeFault.TheVariants as F
use Rattle.jc_serve.specs.AnswerOf.{IsSubjectOf}
use Rattle.jc_serve.specs.Serving.{Held, IsFirst, AnswersTurn, AnswersTurns, HasNoQuit, BeginWith}

-- the fault of a reading
abbrev pub fault_of_read : ReadFault → ServeFault
fault_of_read R.Failed = F.ReadFailed
fault_of_read R.Memory = F.Memory

-- the fault is one of an answer
abbrev pub IsOfAnswer : ServeFault → Type 0
IsOfAnswer F.Memory = Unit {0}
IsOfAnswer F.WriteFailed = Unit {0}
IsOfAnswer _ = ⊥

-- ---- one request

-- the text in memory, and what it is
abbrev pub IsHeldAs : Held → AnyHeld → Type 0
IsHeldAs H x = (x.text.items ≡ H.text) × IsSubjectOf H.text H.subject x.subject

abbrev pub IsHeld : AnyHeld → Type 0
IsHeld x = (H : Held) × IsHeldAs H x

-- the request leads from the one to the other, and this is its answer
abbrev pub LeadsOn : AnyHeld → Turn → AnyHeld → List ℕ → Type 0
LeadsOn old turn new answer =
    (H : Held) → IsHeldAs H old → (I : Held) × AnswersTurn H turn I answer × IsHeldAs I new

-- ---- all requests so far

-- The requests that were read of an input: what is left of it, and how many bytes and requests may be read yet.
abbrev pub AreRead : Option (List ℕ) → List Turn → Option (List ℕ) → ℕ → ℕ → Type 0
AreRead None turns rest bytes_left turns_left = Unit {0}
AreRead (Some bytes) turns None bytes_left turns_left = ⊥
AreRead (Some bytes) turns (Some rest) bytes_left turns_left =
    ((more : List Turn) (end : InputEnd)
    → AreTurns bytes_left turns_left rest more end
    → AreDue bytes (turns ++ more) end)
    × ((more : List Turn) (behind : List ℕ)
    → BeginWith bytes_left turns_left rest more behind
    → BeginWith MAX_INPUT MAX_REQUESTS bytes (turns ++ more) behind)
    × (bytes_left + length bytes ≡ MAX_INPUT + length rest)
    × (turns_left + length turns ≡ MAX_REQUESTS)

-- Requests of an input were read and answered, none of which ends it, and the last of them left this text in memory.
pub record SoFar (input rest : Option (List ℕ)) (bytes_left turns_left : ℕ) (held : AnyHeld) (old new : Stream)
    : Type 0 where
  pub turns : List Turn
  pub are_read : AreRead input turns rest bytes_left turns_left
  pub go_on : HasNoQuit turns
  pub first : Held
  pub is_first : IsFirst first
  pub last : Held
  pub is_last : IsHeldAs last held
  pub text : List ℕ
  pub answers : AnswersTurns first turns last text
  pub went : Wrote text old new
