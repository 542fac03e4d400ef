-- The statements of the crate's laws.
use Rattle.std.specs.Prelude.{◌≡◌, ℕ, List, length, codes}
use Rattle.std.specs.List.{AllByRecursion}
use Rattle.jc_rules.specs.declared.refusal.Refusal.{Refusal}
use Rattle.jc_rules.specs.State.{State}
use Rattle.jc_answers.specs.JsonTexts.{NamedText, text_member, array_text, object_text}
use Rattle.jc_answers.specs.Refusals.{lf_count, refusal_answer, IsRefusedTextWith, IsRefusedText}
use Rattle.jc_expected.specs.Expected.{IsExpected}
use Rattle.jc_requests.specs.Asked.{Asked}
use Rattle.jc_requests.specs.Input.{Turn}
use Rattle.jc_session.specs.Reply.{Reply}
use Rattle.jc_replies.specs.ReplyTexts.{Background, IsAnswer}
use Rattle.jc_looks.specs.declared.looks.Look.{Look}
use Rattle.jc_looks.specs.Looks.{ShowsLook}
use Rattle.jc_serve.specs.Answers.{AnswersAbout}
use Rattle.jc_serve.specs.Serving.{Held, AnswersTurn, AnswersTurns}
use Rattle.jc_serve.specs.Subjects.{Subject}
use Rattle.jc_lines.specs.OneLine.{HasNoLf}

-- An object whose members' values are lines is a line, whatever the members are called.
abbrev pub ObjectsAreLines : Type 0
ObjectsAreLines = (ms : List NamedText) → AllByRecursion (λ m. HasNoLf m.1) ms → HasNoLf (object_text ms)

abbrev pub ListsAreLines : Type 0
ListsAreLines = (ts : List (List ℕ)) → AllByRecursion HasNoLf ts → HasNoLf (array_text ts)

-- A refusal is a line, whatever is in the text that is refused, also with what could stand there.
abbrev pub RefusalsAreLines : Type 0
RefusalsAreLines =
    ((refusal : Refusal) → HasNoLf (refusal_answer refusal))
    × ((text : List ℕ) (refusal : Refusal) (at : ℕ) (answer : List ℕ)
    → IsRefusedText text refusal at answer
    → HasNoLf answer)
    × ((text : List ℕ) (refusal : Refusal) (at : ℕ) (list answer : List ℕ)
    → IsExpected text at list
    → IsRefusedTextWith (text_member (codes "expected") list) text refusal at answer
    → HasNoLf answer)

-- What a look shows is a line, whatever the states are.
abbrev pub LooksAreLines : Type 0
LooksAreLines =
    (names : List (List ℕ)) (states : List State) (look : Look) (answer : List ℕ)
    → ShowsLook names states look answer
    → HasNoLf answer

-- The answer of a session's reply is a line, whatever the position and the text of its event are.
abbrev pub RepliesAreLines : Type 0
RepliesAreLines =
    (B : Background) (text : List ℕ) (reply : Reply) (answer : List ℕ) → IsAnswer B text reply answer → HasNoLf answer

-- The answer of `serve` to a request is a line, whatever the text is and whatever was asked of it before.
abbrev pub AnswersAreLines : Type 0
AnswersAreLines =
    ((text : List ℕ) (subject : Subject) (request : Asked) (next : Subject) (answer : List ℕ)
    → AnswersAbout text subject request next answer
    → HasNoLf answer)
    × ((H : Held) (turn : Turn) (I : Held) (answer : List ℕ) → AnswersTurn H turn I answer → HasNoLf answer)

-- What is written to requests has a line for each.
abbrev pub RequestsHaveLines : Type 0
RequestsHaveLines =
    (H : Held) (turns : List Turn) (I : Held) (text : List ℕ)
    → AnswersTurns H turns I text
    → lf_count text ≡ length turns
