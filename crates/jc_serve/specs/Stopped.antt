-- What `serve` has written and read where a fault stopped it.
use Rattle.std.specs.Prelude.{◌≡◌, ◌⊎◌, ℕ, ◌+◌, ◌<◌, List, [], ◌∷◌, ◌++◌, length, Option, IfSome}
use Rattle.std.specs.Io.KnownBytes.{Consumes}
use Rattle.jc_io.specs.Written.{Stream, Wrote, Interrupted}
use Rattle.jc_rules.specs.declared.limits.TheConstants.{MAX_LINE}
use Rattle.jc_session.specs.LineReading.{ReadStopsAt}
use Rattle.jc_requests.specs.declared.input.TheConstants.{MAX_INPUT, MAX_REQUESTS}
use Rattle.jc_requests.specs.Input.{Turn, IsPart, IsTextPart}
use Rattle.jc_serve.specs.Serving.{Held, IsFirst, AnswersTurn, AnswersTurns, HasNoQuit, AreFirst}

-- The first requests of an input, none of which ends it, and their answers; and what is behind them.
pub record AnsweredFirst (input rest : Option (List ℕ)) (last : Held) (text : List ℕ) : Type 0 where
  pub turns : List Turn
  pub are_first : AreFirst input turns rest
  pub go_on : HasNoQuit turns
  pub first : Held
  pub is_first : IsFirst first
  pub answers : AnswersTurns first turns last text

-- The answers of all requests that were read whole were written, and no more. Of the next one `part` was read.
pub record StoppedAtRead (input left : Option (List ℕ)) (old new : Stream) : Type 0 where
  pub rest : Option (List ℕ)
  pub last : Held
  pub text : List ℕ
  pub answered : AnsweredFirst input rest last text
  pub part : List ℕ
  pub is_part : IsPart part
  pub stops : ReadStopsAt rest left part
  pub went : Wrote text old new

-- Of the bytes behind what was looked at less than MAX_LINE were read; the others are left.
pub record LeftBehind (behind left : Option (List ℕ)) : Type 0 where
  pub ahead : List ℕ
  pub few : length ahead < MAX_LINE
  pub gone : Consumes behind left ahead

-- The request behind these, which begin an input, was read: it whole, or its line and bytes of its text, all of them at
-- most. `behind` is what is behind that.
pub data NextRead (input : Option (List ℕ)) (turns : List Turn) (rest behind : Option (List ℕ)) : Type 0 where
  whole : (turn : Turn) → AreFirst input (turns ++ turn ∷ []) behind → NextRead input turns rest behind
  in_text : (part : List ℕ) → IsTextPart part → Consumes rest behind part → NextRead input turns rest behind

-- The answers of first requests were written, whole, and no more. The next one was read, or a part of its text.
pub record StoppedWhole (input left : Option (List ℕ)) (old new : Stream) : Type 0 where
  pub rest : Option (List ℕ)
  pub last : Held
  pub text : List ℕ
  pub answered : AnsweredFirst input rest last text
  pub behind : Option (List ℕ)
  pub next : NextRead input answered.turns rest behind
  pub is_left : LeftBehind behind left
  pub went : Wrote text old new

-- The answers of first requests were written, whole. The next one was read, and its answer was interrupted.
pub record StoppedInside (input left : Option (List ℕ)) (old new : Stream) : Type 0 where
  pub rest : Option (List ℕ)
  pub last : Held
  pub text : List ℕ
  pub answered : AnsweredFirst input rest last text
  pub turn : Turn
  pub behind : Option (List ℕ)
  pub are_first : AreFirst input (answered.turns ++ turn ∷ []) behind
  pub is_left : LeftBehind behind left
  pub then_held : Held
  pub answer : List ℕ
  pub answers : AnswersTurn last turn then_held answer
  pub between : Stream
  pub went : Wrote text old between
  pub breaks_off : Interrupted (answer ++ 10 ∷ []) between new

-- Behind first requests of an input, of which `rest` is left, `part` is at one of the limits: so many bytes were read with
-- it, or so many requests before it.
abbrev pub IsAtLimit : Option (List ℕ) → List Turn → Option (List ℕ) → List ℕ → Type 0
IsAtLimit input turns rest part =
    IfSome input (λ bytes. IfSome rest (λ xs.
    (length bytes + length part ≡ MAX_INPUT + length xs) ⊎ ((length turns ≡ MAX_REQUESTS) × (part ≡ []))))

-- The first byte past the limits of MAX_INPUT bytes and MAX_REQUESTS requests was read, and less than MAX_LINE bytes after
-- it; the others are left.
pub record LeftPast (input left : Option (List ℕ)) : Type 0 where
  pub turns : List Turn
  pub rest : Option (List ℕ)
  pub are_first : AreFirst input turns rest
  pub part : List ℕ
  pub is_part : IsPart part
  pub at_limit : IsAtLimit input turns rest part
  pub byte : ℕ
  pub behind : Option (List ℕ)
  pub gone : Consumes rest behind (part ++ byte ∷ [])
  pub is_left : LeftBehind behind left
