-- Of `Laws`: the bytes of a scenario and of lines have a text, whatever they are.
use Rattle.std.proofs.Common.{◌≡◌, ◌⊎◌, inl, inr, ℕ, List, [], ◌∷◌, ◌++◌, take, refl, ap, ◌∙◌, arith}
use Rattle.jc_rules.specs.declared.refusal.Refusal.TheVariants as F
use Rattle.jc_rules.specs.Step.{Network}
use Rattle.jc_network.specs.Given.{before_given, IsStart, LedOrStuck}
use Rattle.jc_dump.specs.Texts.{given_text}
use Rattle.jc_debug.specs.DebuggerState.{Session, new_session}
use Rattle.jc_scenario.specs.Laws.{ScenarioElseFault, ScenariosAreWellFormed}
use Rattle.jc_scenario.specs.WellFormed.{Scenario, IsWellFormedScenario}
use Rattle.jc_session.specs.Answers as N
use Rattle.jc_session.specs.Answers.{origin_of, LineAnswer}
use Rattle.jc_session.specs.Laws.{SessionHasAText}
use Rattle.jc_session.specs.Lines.{Line}
use Rattle.jc_session.specs.Requests as Q
use Rattle.jc_session.specs.Requests.{Request, Meaning, nothing, asks, bad, meaning}
use Rattle.jc_session.specs.SessionText.{AnswersLines, End, finished, text_refused, given_stuck, Ends, at_the_end, at_quit, AreWithin, Talks, refused, stuck, talks}
use Rattle.jc_session.specs.Texts.{refusal_line, reply_text}
use Rattle.jc_session.proofs.LinesDueLemmas.{lines_of, within}
use Rattle.jc_session.proofs.TextFaultsLemmas.{fault_line, fault_told}
use Rattle.jc_session.proofs.SomeReplyLemmas.{ReplyLaws, IsGood, Replied, some_reply}

-- ---- the lines that are due

some_within : (m k : ℕ) (bytes : List ℕ) → (lines : List Line) × (end : End) × AreWithin m k bytes lines end
some_within m k bytes = let (whole, last, parts) = lines_of (take m bytes) in (_, _, within m k bytes whole last parts)

-- ---- answers

-- the line is `quit`, or has an answer
data Turn (s : Scenario) (start : Network) (A : Session) (x : Line) : Type 0 where
  quits : meaning x ≡ asks Q.quit → Turn s start A x
  goes_on : (M : Session) (text : List ℕ) → IsGood start M → LineAnswer (origin_of s start) A x M text → Turn s start A x

ends_more : (x : Line) (lines due : List Line) (end due_end : End) → Ends lines end due due_end → Ends (x ∷ lines) end (x ∷ due) due_end
ends_more x lines due end due_end at_the_end = at_the_end
ends_more x lines due end due_end (at_quit y more is q) = at_quit y more (ap (λ (l : List Line). x ∷ l) is) q

module _ (laws : ReplyLaws) (s : Scenario) (start : Network) (begins : IsStart s start) (formed : IsWellFormedScenario s) where
  turn : (A : Session) → IsGood start A → (x : Line) → Turn s start A x
  turn A good x = by_meaning (meaning x) refl
    where
      by_reply : (q : Request) → meaning x ≡ asks q → (q ≡ Q.quit) ⊎ Replied s start A q → Turn s start A x
      by_reply q e (inl same) = quits (e ∙ ap asks same)
      by_reply q e (inr r) = goes_on r.after (reply_text s.names r.reply) r.good (N.replies q e r.replies)

      by_meaning : (m : Meaning) → meaning x ≡ m → Turn s start A x
      by_meaning nothing e = goes_on A [] good (N.empty e)
      by_meaning bad e = goes_on A (refusal_line F.BadLine) good (N.refused e)
      by_meaning (asks q) e = by_reply q e (some_reply laws s start begins formed A good q)

  -- the lines that are due are answered, up to a `quit` if there is one
  talked : (due : List Line) (due_end : End) (A : Session) → IsGood start A
      → (text : List ℕ) × (end : End) × (lines : List Line) × (last : Session) × Ends lines end due due_end × AnswersLines (origin_of s start) A lines last text
  talked [] due_end A good = ([], due_end, [], A, at_the_end, (refl, refl))
  talked (x ∷ due) due_end A good =
      elim (turn A good x) [
        | quits q ↦ ([], finished, [], A, at_quit x due refl q, (refl, refl))
        | goes_on M text next answer ↦
            let (more, end, lines, last, ends, answers) = talked due due_end M next in
            (text ++ more, end, x ∷ lines, last, ends_more x lines due end due_end ends, (M, text, more, answer, answers, refl))
      ]

  -- at the start of the schedule
  good_start : IsGood start (new_session s.schedule)
  good_start = record { short = formed.short; network = start; is_at = record { within = omega arith; after = refl } }

  some_talk : (bytes : List ℕ) → (text : List ℕ) × (end : End) × Talks (origin_of s start) (new_session s.schedule) bytes text end
  some_talk bytes =
      let (due, due_end, are_due) = some_within 67108864 1000000 bytes in
      let (text, end, lines, last, ends, answers) = talked due due_end (new_session s.schedule) good_start in
      (text, end, record { due = due; due_end = due_end; are_due = are_due; lines = lines; ends = ends; last = last; answers = answers })

pub session_has_a_text : ReplyLaws → ScenarioElseFault → ScenariosAreWellFormed → LedOrStuck → SessionHasAText
session_has_a_text laws either formed led b l =
    elim (either b) [
      | inl (s, is) ↦
          elim ((led s.scripts (before_given s) s.given ([], refl)).0) [
            | inl (start, begins) ↦ let (text, end, t) = some_talk laws s start begins (formed b s is) l in (text, end, talks s start is begins t)
            | inr (at, event, why, g) ↦ (given_text s.names at why event, given_stuck, stuck s at event why is g)
          ]
      | inr (fault, is) ↦ let (text, line) = fault_line fault (fault_told b fault is) in (text, text_refused fault, refused fault is line)
    ]
