-- The text of `serve` on an input: what it writes where nothing fails, and how it ends.
use Rattle.std.specs.Prelude.{◌≡◌, ℕ, suc, ◌-◌, ◌≤◌, List, [], ◌∷◌, ◌++◌, length, Option, Some, None}
use Rattle.jc_rules.specs.declared.refusal.Refusal.TheVariants.{BadLine}
use Rattle.jc_session.specs.Requests as Q
use Rattle.jc_requests.specs.declared.input.TheConstants.{MAX_INPUT, MAX_REQUESTS}
use Rattle.jc_requests.specs.Asked.{Asked, asked, of_session}
use Rattle.jc_requests.specs.Input.{Turn, says, brings, IsTurn, InputEnd, finished, AreDue}
use Rattle.jc_answers.specs.Refusals.{refusal_answer}
use Rattle.jc_serve.specs.Answers.{AnswersAbout}
use Rattle.jc_serve.specs.Subjects.{Subject, IsSubject, IsCounts}

-- the text that there is, and what it is
pub record Held : Type 0 where
  pub text : List ℕ
  pub subject : Subject

-- before anything is asked the text is the empty one
abbrev pub IsFirst : Held → Type 0
IsFirst H = (H.text ≡ []) × IsSubject [] H.subject

-- ---- answers

-- What a request leads to, and its answer, without its LF.
pub data AnswersTurn (H : Held) : Turn → Held → List ℕ → Type 0 where
  refuses : {line : _} → asked line ≡ None → AnswersTurn H (says line) H (refusal_answer BadLine)
  answers : {line : _} {subject : Subject} {answer : List ℕ} (request : Asked)
      → asked line ≡ Some request
      → AnswersAbout H.text H.subject request subject answer
      → AnswersTurn H (says line) (record { text = H.text; subject = subject }) answer
  brings_text : {bytes answer : List ℕ} {subject : Subject}
      → IsSubject bytes subject
      → IsCounts bytes subject answer
      → AnswersTurn H (brings bytes) (record { text = bytes; subject = subject }) answer

-- the requests are answered one after another, each by a line
abbrev pub AnswersTurns : Held → List Turn → Held → List ℕ → Type 0
AnswersTurns H [] I text = (I ≡ H) × (text ≡ [])
AnswersTurns H (turn ∷ turns) I text =
    (M : Held) × (answer : List ℕ) × (rest : List ℕ)
    × AnswersTurn H turn M answer
    × AnswersTurns M turns I rest
    × (text ≡ answer ++ 10 ∷ rest)

-- a request to end
abbrev pub IsQuit : Turn → Type 0
IsQuit (says line) = asked line ≡ Some (of_session Q.quit)
IsQuit (brings bytes) = ⊥

abbrev pub HasNoQuit : List Turn → Type 0
HasNoQuit [] = Unit {0}
HasNoQuit (turn ∷ turns) = (IsQuit turn → ⊥) × HasNoQuit turns

-- ---- the requests of an input

-- The bytes begin with these requests, of which so many bytes and so many requests may be read, and `rest` is behind.
pub data BeginWith : ℕ → ℕ → List ℕ → List Turn → List ℕ → Type 0 where
  none : {bytes_left turns_left : ℕ} {bytes : List ℕ} → BeginWith bytes_left turns_left bytes [] bytes
  more : {bytes_left turns_left : ℕ} {behind rest : List ℕ} {turns : List Turn} (read : List ℕ) (turn : Turn)
      → IsTurn (Some behind) read turn
      → length read ≤ bytes_left
      → BeginWith (bytes_left - length read) turns_left behind turns rest
      → BeginWith bytes_left (suc turns_left) (read ++ behind) (turn ∷ turns) rest

-- An input, whose bytes are known or not, as those of a terminal. Where they are, these are its first requests within
-- the limits, and `rest` is behind them; and else they are some requests.
abbrev pub AreFirst : Option (List ℕ) → List Turn → Option (List ℕ) → Type 0
AreFirst None turns rest = Unit {0}
AreFirst (Some bytes) turns None = ⊥
AreFirst (Some bytes) turns (Some rest) = BeginWith MAX_INPUT MAX_REQUESTS bytes turns rest

-- the same for all its requests, and how they end
abbrev pub AreAll : Option (List ℕ) → List Turn → InputEnd → Type 0
AreAll None turns end = Unit {0}
AreAll (Some bytes) turns end = AreDue bytes turns end

-- All requests of an input are answered, or those up to the first `quit`, behind which nothing is looked at.
pub data AreAnswered (input : Option (List ℕ)) : List Turn → InputEnd → Type 0 where
  all : {turns : List Turn} {end : InputEnd} → AreAll input turns end → HasNoQuit turns → AreAnswered input turns end
  up_to_quit : (turns : List Turn) (turn : Turn) (rest : Option (List ℕ))
      → AreFirst input (turns ++ turn ∷ []) rest
      → HasNoQuit turns
      → IsQuit turn
      → AreAnswered input (turns ++ turn ∷ []) finished

-- ---- the text

-- The text of `serve` on the input, and how it ends.
pub record Serves (input : Option (List ℕ)) (text : List ℕ) (end : InputEnd) : Type 0 where
  pub turns : List Turn
  pub answered : AreAnswered input turns end
  pub first : Held
  pub last : Held
  pub is_first : IsFirst first
  pub answers : AnswersTurns first turns last text
