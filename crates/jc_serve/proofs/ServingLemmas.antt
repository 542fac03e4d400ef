-- Of `Serving`, `Stopped` and `Progress`: one request more, and the ends.
use Rattle.std.proofs.Common.{◌≡◌, ◌↔◌, Result, Ok, Err, IfSome, IsErrOf, IsErrAnd, Bool, true, false, not, ℕ, zero, suc, ◌+◌, ◌-◌, ◌<◌, ◌≤◌, List, [], ◌∷◌, ◌++◌, length, Option, None, Some, ◌⊎◌, inl, inr, refl, ap, sym, subst, ◌∙◌, arith, append_assoc, append-nil, length-append, Vec, Global}
use Rattle.std.specs.Io.KnownBytes.{Consumes, IsAtEnd, prepend_known}
use Rattle.std.proofs.KnownBytes.{Appends-nil, prepend_known-nil}
use Rattle.jc_io.specs.declared.io.ReadFault.{ReadFault}
use Rattle.jc_io.specs.declared.io.ReadFault.TheVariants as R
use Rattle.jc_io.specs.Written.{Stream, Wrote, Interrupted, Written}
use Rattle.jc_io.proofs.WrittenLemmas.{wrote_both}
use Rattle.jc_rules.specs.declared.limits.TheConstants.{MAX_LINE}
use Rattle.jc_rules.specs.declared.refusal.Refusal.TheVariants.{BadLine}
use Rattle.jc_session.specs.LineReading.{ReadStopsAt}
use Rattle.jc_session.specs.Lines.{Line}
use Rattle.jc_session.specs.Requests as Q
use Rattle.jc_answers.specs.Refusals.{refusal_answer}
use Rattle.jc_requests.specs.Asked.{Asked, asked, of_session}
use Rattle.jc_requests.specs.declared.input.TheConstants.{MAX_INPUT, MAX_REQUESTS}
use Rattle.jc_requests.specs.declared.turn.Turn.{Turn as AnyTurn}
use Rattle.jc_requests.specs.declared.turn.Turn.TheVariants as T
use Rattle.jc_requests.specs.InputViews.{turn_of}
use Rattle.jc_requests.specs.Input as I
use Rattle.jc_requests.specs.Input.{Turn, says, brings, size_of, IsTurn, IsPart, IsTextPart, IsCutShort, InputEnd, finished, cut_short, too_many, AreTurns, AreDue}
use Rattle.jc_serve.specs.declared.serving.Held.{Held as AnyHeld}
use Rattle.jc_serve.specs.declared.serving.ServeFault.{ServeFault}
use Rattle.jc_serve.specs.declared.serving.ServeFault.TheVariants as F
use Rattle.jc_serve.specs.declared.subjects.Subject.{Subject as AnySubject}
use Rattle.jc_serve.specs.AnswerOf.{IsSubjectOf, IsNewFor, AnswersOn}
use Rattle.jc_serve.specs.Answers.{AnswersAbout}
use Rattle.jc_serve.specs.Subjects.{IsSubject, IsCounts}
use Rattle.jc_serve.specs.Serving as V
use Rattle.jc_serve.specs.Serving.{Held, IsFirst, AnswersTurn, AnswersTurns, IsQuit, HasNoQuit, BeginWith, AreFirst, AreAll, Serves, all, up_to_quit}
use Rattle.jc_serve.specs.Stopped as P
use Rattle.jc_serve.specs.Stopped.{AnsweredFirst, StoppedAtRead, StoppedWhole, StoppedInside, IsAtLimit, LeftBehind, LeftPast}
use Rattle.jc_serve.specs.Progress.{fault_of_read, IsHeldAs, LeadsOn, AreRead, SoFar}

-- The request leads from the one to the other, and its answer is a line that went out so.
abbrev pub GoesOut : (List ℕ → Stream → Stream → Type 0) → AnyHeld → Turn → AnyHeld → Stream → Stream → Type 0
GoesOut Went old turn new out_old out_new =
    (answer : List ℕ) × LeadsOn old turn new answer × Went (answer ++ 10 ∷ []) out_old out_new

-- ---- one request more

no_quit_more : (turns : List Turn) (turn : Turn) → HasNoQuit turns → (IsQuit turn → ⊥) → HasNoQuit (turns ++ turn ∷ [])
no_quit_more [] turn h other = (other, tt)
no_quit_more (t ∷ turns) turn h other = (h.0, no_quit_more turns turn h.1 other)

answers_more : (turns : List Turn) (turn : Turn) (H M I : Held) (text answer : List ℕ) → AnswersTurns H turns M text → AnswersTurn M turn I answer → AnswersTurns H (turns ++ turn ∷ []) I (text ++ (answer ++ 10 ∷ []))
answers_more [] turn H M I text answer h a = (I, answer, [], subst (λ (X : Held). AnswersTurn X turn I answer) h.0 a, (refl, refl), ap (λ l. l ++ (answer ++ 10 ∷ [])) h.1)
answers_more (t ∷ turns) turn H M I text answer (K, first, rest, at, more, e) a =
    (K, first, rest ++ (answer ++ 10 ∷ []), at, answers_more turns turn K M I rest answer more a, ap (λ l. l ++ (answer ++ 10 ∷ [])) e ∙ append_assoc first (10 ∷ rest) (answer ++ 10 ∷ []))

-- the requests behind the one that was read, and that one
turns_behind : (bytes_left turns_left less fewer : ℕ) (xs ys read : List ℕ) (turn : Turn) (more : List Turn) (end : InputEnd)
    → IsTurn (Some ys) read turn
    → xs ≡ read ++ ys
    → less + length read ≡ bytes_left
    → fewer + 1 ≡ turns_left
    → AreTurns less fewer ys more end
    → AreTurns bytes_left turns_left xs (turn ∷ more) end
turns_behind bytes_left turns_left less fewer xs ys read turn more end is e size count h =
    let left : less ≡ bytes_left - length read = omega (arith, size) in
    let within : length read ≤ bytes_left = omega (arith, size) in
    let one : suc fewer ≡ turns_left = omega (arith, count) in
    subst (λ (n : ℕ). AreTurns bytes_left n xs (turn ∷ more) end) one
    (subst (λ (l : List ℕ). AreTurns bytes_left (suc fewer) l (turn ∷ more) end) (sym e)
    (I.goes_on read turn is within (subst (λ (n : ℕ). AreTurns n fewer ys more end) left h)))

begin_behind : (bytes_left turns_left less fewer : ℕ) (xs ys read : List ℕ) (turn : Turn) (more : List Turn) (behind : List ℕ)
    → IsTurn (Some ys) read turn
    → xs ≡ read ++ ys
    → less + length read ≡ bytes_left
    → fewer + 1 ≡ turns_left
    → BeginWith less fewer ys more behind
    → BeginWith bytes_left turns_left xs (turn ∷ more) behind
begin_behind bytes_left turns_left less fewer xs ys read turn more behind is e size count h =
    let left : less ≡ bytes_left - length read = omega (arith, size) in
    let within : length read ≤ bytes_left = omega (arith, size) in
    let one : suc fewer ≡ turns_left = omega (arith, count) in
    subst (λ (n : ℕ). BeginWith bytes_left n xs (turn ∷ more) behind) one
    (subst (λ (l : List ℕ). BeginWith bytes_left (suc fewer) l (turn ∷ more) behind) (sym e)
    (V.more read turn is within (subst (λ (n : ℕ). BeginWith n fewer ys more behind) left h)))

read_more : (input rest next : Option (List ℕ)) (turns : List Turn) (turn : Turn) (read : List ℕ) (bytes_left turns_left less fewer : ℕ)
    → AreRead input turns rest bytes_left turns_left
    → IsTurn next read turn
    → Consumes rest next read
    → less + length read ≡ bytes_left
    → fewer + 1 ≡ turns_left
    → AreRead input (turns ++ turn ∷ []) next less fewer
read_more None rest next turns turn read bytes_left turns_left less fewer r is gone size count = tt
read_more (Some bytes) None next turns turn read bytes_left turns_left less fewer r is gone size count = absurd r
read_more (Some bytes) (Some xs) None turns turn read bytes_left turns_left less fewer r is gone size count = absurd gone
read_more (Some bytes) (Some xs) (Some ys) turns turn read bytes_left turns_left less fewer r is gone size count = (
  λ more end h. subst (λ (ts : List Turn). AreDue bytes ts end) (sym (append_assoc turns (turn ∷ []) more))
      (r.0 (turn ∷ more) end (turns_behind bytes_left turns_left less fewer xs ys read turn more end is gone size count h)),
  λ more behind h. subst (λ (ts : List Turn). BeginWith MAX_INPUT MAX_REQUESTS bytes ts behind) (sym (append_assoc turns (turn ∷ []) more))
      (r.1 (turn ∷ more) behind (begin_behind bytes_left turns_left less fewer xs ys read turn more behind is gone size count h)),
  let parts : length xs ≡ length read + length ys = ap length gone ∙ length-append read ys in
      let before = r.2 in
      omega (arith, parts, before, size),
  let longer = length-append turns (turn ∷ []) in
      let before = r.3 in
      omega (arith, longer, before, count),
)

-- what was read so far is what comes first
pub first_of : (input rest : Option (List ℕ)) (turns : List Turn) (bytes_left turns_left : ℕ) → AreRead input turns rest bytes_left turns_left → AreFirst input turns rest
first_of None rest turns bytes_left turns_left r = tt
first_of (Some bytes) None turns bytes_left turns_left r = absurd r
first_of (Some bytes) (Some xs) turns bytes_left turns_left r = subst (λ (ts : List Turn). BeginWith MAX_INPUT MAX_REQUESTS bytes ts xs) (append-nil turns) (r.1 [] xs V.none)

-- before the first request
pub begun : (input : Option (List ℕ)) (held : AnyHeld) (out : Stream) (H : Held) → IsFirst H → IsHeldAs H held → SoFar input input MAX_INPUT MAX_REQUESTS held out out
begun input held out H first is = record {
  turns = [];
  are_read = none_read input;
  go_on = tt;
  first = H;
  is_first = first;
  last = H;
  is_last = is;
  text = [];
  answers = (refl, refl);
  went = (Appends-nil out.bytes, refl);
}
  where
    none_read : (input : Option (List ℕ)) → AreRead input [] input MAX_INPUT MAX_REQUESTS
    none_read None = tt
    none_read (Some bytes) = (λ more end h. h, λ more behind h. h, refl, omega arith)

-- A request that was read, and how many bytes and requests may be read behind it.
pub record IsNext (rest next : Option (List ℕ)) (bytes_left turns_left less fewer : ℕ) (turn : Turn) : Type 0 where
  pub read : List ℕ
  pub is_turn : IsTurn next read turn
  pub gone : Consumes rest next read
  pub size : less + length read ≡ bytes_left
  pub count : fewer + 1 ≡ turns_left

pub one_more : (input rest next : Option (List ℕ)) (b t less fewer : ℕ) (held then_held : AnyHeld) (old now new : Stream) (turn : Turn)
    → SoFar input rest b t held old now
    → IsNext rest next b t less fewer turn
    → (IsQuit turn → ⊥)
    → GoesOut Wrote held turn then_held now new
    → SoFar input next less fewer then_held old new
one_more input rest next b t less fewer held then_held old now new turn s n other (answer, leads, went) =
    let l = leads s.last s.is_last in
    record {
      turns = s.turns ++ turn ∷ [];
      are_read = read_more input rest next s.turns turn n.read b t less fewer s.are_read n.is_turn n.gone n.size n.count;
      go_on = no_quit_more s.turns turn s.go_on other;
      first = s.first;
      is_first = s.is_first;
      last = l.0;
      is_last = l.2;
      text = s.text ++ (answer ++ 10 ∷ []);
      answers = answers_more s.turns turn s.first s.last l.0 s.text answer s.answers l.1;
      went = wrote_both old now new s.text (answer ++ 10 ∷ []) s.went went;
    }

-- ---- ends

pub at_quit : (input rest next : Option (List ℕ)) (b t less fewer : ℕ) (held then_held : AnyHeld) (old now new : Stream) (turn : Turn)
    → SoFar input rest b t held old now
    → IsNext rest next b t less fewer turn
    → IsQuit turn
    → GoesOut Wrote held turn then_held now new
    → Written (λ text. Serves input text finished) old new
at_quit input rest next b t less fewer held then_held old now new turn s n quit (answer, leads, went) =
    let l = leads s.last s.is_last in
    let read = read_more input rest next s.turns turn n.read b t less fewer s.are_read n.is_turn n.gone n.size n.count in (
      s.text ++ (answer ++ 10 ∷ []),
      record {
        turns = s.turns ++ turn ∷ [];
        answered = up_to_quit s.turns turn next (first_of input next (s.turns ++ turn ∷ []) less fewer read) s.go_on quit;
        first = s.first;
        last = l.0;
        is_first = s.is_first;
        answers = answers_more s.turns turn s.first s.last l.0 s.text answer s.answers l.1;
      },
      wrote_both old now new s.text (answer ++ 10 ∷ []) s.went went,
    )

-- all requests were read
ends : (input rest : Option (List ℕ)) (b t : ℕ) (held : AnyHeld) (old now : Stream) (end : InputEnd) → SoFar input rest b t held old now → ((xs : List ℕ) → rest ≡ Some xs → AreTurns b t xs [] end) → Written (λ text. Serves input text end) old now
ends input rest b t held old now end s h = (
  s.text,
  record {
    turns = s.turns;
    answered = all (all_read input rest s.turns s.are_read h) s.go_on;
    first = s.first;
    last = s.last;
    is_first = s.is_first;
    answers = s.answers;
  },
  s.went,
)
  where
    all_read : (input rest : Option (List ℕ)) (turns : List Turn) → AreRead input turns rest b t → ((xs : List ℕ) → rest ≡ Some xs → AreTurns b t xs [] end) → AreAll input turns end
    all_read None rest turns r h = tt
    all_read (Some bytes) None turns r h = absurd r
    all_read (Some bytes) (Some xs) turns r h = subst (λ (ts : List Turn). AreDue bytes ts end) (append-nil turns) (r.0 [] end (h xs refl))

pub at_end : (input rest : Option (List ℕ)) (b t : ℕ) (held : AnyHeld) (old now : Stream) → SoFar input rest b t held old now → IsAtEnd rest → Written (λ text. Serves input text finished) old now
at_end input rest b t held old now s h = ends input rest b t held old now finished s (λ xs e. subst (λ (l : List ℕ). AreTurns b t l [] finished) (sym (none_left rest xs e h)) I.ends)
  where
    none_left : (rest : Option (List ℕ)) (xs : List ℕ) → rest ≡ Some xs → IsAtEnd rest → xs ≡ []
    none_left rest xs e h = let k : IsAtEnd (Some xs) = subst IsAtEnd e h in k

-- what is known is what was read and what is left
known_parts : (rest next : Option (List ℕ)) (xs read : List ℕ) → rest ≡ Some xs → Consumes rest next read → (ys : List ℕ) × (next ≡ Some ys) × (xs ≡ read ++ ys)
known_parts rest None xs read e gone = let k : Consumes (Some xs) None read = subst (λ (r : Option (List ℕ)). Consumes r None read) e gone in absurd k
known_parts rest (Some ys) xs read e gone = let k : Consumes (Some xs) (Some ys) read = subst (λ (r : Option (List ℕ)). Consumes r (Some ys) read) e gone in (ys, refl, k)

pub within_text : (input rest next : Option (List ℕ)) (b t : ℕ) (held : AnyHeld) (old now : Stream) (read : List ℕ)
    → SoFar input rest b t held old now
    → IsCutShort read
    → Consumes rest next read
    → IsAtEnd next
    → length read ≤ b
    → 0 < t
    → Written (λ text. Serves input text cut_short) old now
within_text input rest next b t held old now read s short gone end le some = ends input rest b t held old now cut_short s (λ xs e.
    let p = known_parts rest next xs read e gone in
    let none : p.0 ≡ [] = (let k : IsAtEnd (Some p.0) = subst IsAtEnd p.1 end in k) in
    let same : read ≡ xs = sym (p.2 ∙ (ap (λ l. read ++ l) none ∙ append-nil read)) in
    falls t some xs (subst IsCutShort same short) (subst (λ (l : List ℕ). length l ≤ b) same le))
  where
    falls : (t : ℕ) → 0 < t → (xs : List ℕ) → IsCutShort xs → length xs ≤ b → AreTurns b t xs [] cut_short
    falls zero some xs short le = absurd (omega (arith, some))
    falls (suc t) some xs short le = I.falls_short short le

pub past_limit : (input rest next : Option (List ℕ)) (b t : ℕ) (held : AnyHeld) (old now : Stream) (read : List ℕ) (c : ℕ)
    → SoFar input rest b t held old now
    → IsPart read
    → Consumes rest next (read ++ c ∷ [])
    → ((length read ≡ b) × (0 < t)) ⊎ ((t ≡ 0) × (read ≡ []))
    → Written (λ text. Serves input text too_many) old now
past_limit input rest next b t held old now read c s part gone limit = ends input rest b t held old now too_many s (λ xs e.
    let p = known_parts rest next xs (read ++ c ∷ []) e gone in
    let same : xs ≡ read ++ c ∷ p.0 = p.2 ∙ append_assoc read (c ∷ []) p.0 in
    subst (λ (l : List ℕ). AreTurns b t l [] too_many) (sym same) (passes b t p.0 limit))
  where
    passes : (b t : ℕ) (ys : List ℕ) → ((length read ≡ b) × (0 < t)) ⊎ ((t ≡ 0) × (read ≡ [])) → AreTurns b t (read ++ c ∷ ys) [] too_many
    passes b zero ys (inl (full, some)) = absurd (omega (arith, some))
    passes b (suc t) ys (inl (full, some)) = subst (λ (n : ℕ). AreTurns n (suc t) (read ++ c ∷ ys) [] too_many) full (I.passes_bytes read c ys part)
    passes b t ys (inr (none, empty)) =
        subst (λ (n : ℕ). AreTurns b n (read ++ c ∷ ys) [] too_many) (sym none)
        (subst (λ (l : List ℕ). AreTurns b zero (l ++ c ∷ ys) [] too_many) (sym empty) (I.passes_turns c ys))

-- ---- faults

abbrev pub answered_first : (input rest : Option (List ℕ)) (b t : ℕ) (held : AnyHeld) (old now : Stream) (s : SoFar input rest b t held old now) → AnsweredFirst input rest s.last s.text
answered_first input rest b t held old now s = record {
  turns = s.turns;
  are_first = first_of input rest s.turns b t s.are_read;
  go_on = s.go_on;
  first = s.first;
  is_first = s.is_first;
  answers = s.answers;
}

pub at_read : (input rest left : Option (List ℕ)) (b t : ℕ) (held : AnyHeld) (old now : Stream) (part : List ℕ) → SoFar input rest b t held old now → IsPart part → ReadStopsAt rest left part → StoppedAtRead input left old now
at_read input rest left b t held old now part s is stops = record {
  rest = rest;
  last = s.last;
  text = s.text;
  answered = answered_first input rest b t held old now s;
  part = part;
  is_part = is;
  stops = stops;
  went = s.went;
}

-- what was read ahead is gone
left_behind : (ahead : List ℕ) (left : Option (List ℕ)) → length ahead < MAX_LINE → LeftBehind (prepend_known ahead left) left
left_behind ahead left few = record { ahead = ahead; few = few; gone = gone left }
  where
    gone : (left : Option (List ℕ)) → Consumes (prepend_known ahead left) left ahead
    gone None = tt
    gone (Some ys) = refl

module _ (input rest : Option (List ℕ)) (ahead : List ℕ) (left : Option (List ℕ)) (few : length ahead < MAX_LINE) (b t : ℕ) (held : AnyHeld) (old now : Stream) (s : SoFar input rest b t held old now) where
  -- there was no memory for the text of the next request
  pub in_text : (part : List ℕ) → IsTextPart part → Consumes rest (prepend_known ahead left) part → StoppedWhole input left old now
  in_text part is gone = record {
    rest = rest;
    last = s.last;
    text = s.text;
    answered = answered_first input rest b t held old now s;
    behind = prepend_known ahead left;
    next = P.in_text part is gone;
    is_left = left_behind ahead left few;
    went = s.went;
  }

  -- there was none for its answer
  pub unanswered : (less fewer : ℕ) (turn : Turn) → IsNext rest (prepend_known ahead left) b t less fewer turn → StoppedWhole input left old now
  unanswered less fewer turn n =
      let next = prepend_known ahead left in
      let read = read_more input rest next s.turns turn n.read b t less fewer s.are_read n.is_turn n.gone n.size n.count in
      record {
        rest = rest;
        last = s.last;
        text = s.text;
        answered = answered_first input rest b t held old now s;
        behind = next;
        next = P.whole turn (first_of input next (s.turns ++ turn ∷ []) less fewer read);
        is_left = left_behind ahead left few;
        went = s.went;
      }

  -- a byte past the limits was read
  pub left_past : (part : List ℕ) (c : ℕ) → IsPart part → Consumes rest (prepend_known ahead left) (part ++ c ∷ []) → ((length part ≡ b) × (0 < t)) ⊎ ((t ≡ 0) × (part ≡ [])) → LeftPast input left
  left_past part c is gone limit = record {
    turns = s.turns;
    rest = rest;
    are_first = first_of input rest s.turns b t s.are_read;
    part = part;
    is_part = is;
    at_limit = at_limit input rest s.turns s.are_read limit;
    byte = c;
    behind = prepend_known ahead left;
    gone = gone;
    is_left = left_behind ahead left few;
  }
    where
      at_limit : (input rest : Option (List ℕ)) (turns : List Turn) → AreRead input turns rest b t → ((length part ≡ b) × (0 < t)) ⊎ ((t ≡ 0) × (part ≡ [])) → IsAtLimit input turns rest part
      at_limit None rest turns r limit = tt
      at_limit (Some bytes) None turns r limit = absurd r
      at_limit (Some bytes) (Some xs) turns r (inl (full, some)) = let count = r.2 in inl (omega (arith, full, count))
      at_limit (Some bytes) (Some xs) turns r (inr (none, empty)) = let count = r.3 in inr (omega (arith, none, count), empty)

pub inside : (input rest : Option (List ℕ)) (ahead : List ℕ) (left : Option (List ℕ)) (b t less fewer : ℕ) (held then_held : AnyHeld) (old now new : Stream) (turn : Turn)
    → length ahead < MAX_LINE
    → SoFar input rest b t held old now
    → IsNext rest (prepend_known ahead left) b t less fewer turn
    → GoesOut Interrupted held turn then_held now new
    → StoppedInside input left old new
inside input rest ahead left b t less fewer held then_held old now new turn few s n (answer, leads, broke) =
    let next = prepend_known ahead left in
    let l = leads s.last s.is_last in
    let read = read_more input rest next s.turns turn n.read b t less fewer s.are_read n.is_turn n.gone n.size n.count in
    record {
      rest = rest;
      last = s.last;
      text = s.text;
      answered = answered_first input rest b t held old now s;
      turn = turn;
      behind = next;
      are_first = first_of input next (s.turns ++ turn ∷ []) less fewer read;
      is_left = left_behind ahead left few;
      then_held = l.0;
      answer = answer;
      answers = l.1;
      between = now;
      went = s.went;
      breaks_off = broke;
    }

-- ---- a text that is held

pub held_new : (text : Vec ℕ Global) (items : List ℕ) (x : AnySubject) → items ≡ text.items → IsNewFor items x
    → (H : Held) × (H.text ≡ text.items) × IsSubject text.items H.subject × IsHeldAs H (record { text = text; subject = x })
held_new text items x e (subject, is, of) = (
  record { text = text.items; subject = subject },
  refl,
  subst (λ (l : List ℕ). IsSubject l subject) e is,
  (refl, subst (λ (l : List ℕ). IsSubjectOf l subject x) e of),
)

-- ---- answers in memory

pub line_led : (line : Line) (request : Asked) (x y : AnyHeld) (text items : List ℕ) → text ≡ x.text.items → y.text.items ≡ x.text.items → asked line ≡ Some request → AnswersOn text x.subject request y.subject items → LeadsOn x (says line) y items
line_led line request x y text items e kept is on H (same, of) =
    let t : text ≡ H.text = e ∙ same in
    let a = on H.subject (subst (λ (l : List ℕ). IsSubjectOf l H.subject x.subject) (sym t) of) in (
      record { text = H.text; subject = a.0 },
      V.answers request is (subst (λ (l : List ℕ). AnswersAbout l H.subject request a.0 items) t a.1),
      (kept ∙ same, subst (λ (l : List ℕ). IsSubjectOf l a.0 y.subject) t a.2),
    )

pub line_refused : (line : Line) (x : AnyHeld) (items : List ℕ) → asked line ≡ None → items ≡ refusal_answer BadLine → LeadsOn x (says line) x items
line_refused line x items none written H of = (H, subst (λ (t : List ℕ). AnswersTurn H (says line) H t) (sym written) (V.refuses none), of)

pub goes_on : (line : Line) → asked line ≡ None → (true ≡ false ↔ (asked line ≡ Some (of_session Q.quit)))
goes_on line none = (λ f. absurd (true_is_false f), λ f. absurd (none_is_some (sym none ∙ f)))
  where
    true_is_false : true ≡ false → ⊥
    true_is_false k = cc

    none_is_some : None ≡ Some (of_session Q.quit) → ⊥
    none_is_some k = cc

pub text_led : (x y : AnyHeld) (bytes items : List ℕ) (H : Held) → H.text ≡ bytes → IsSubject bytes H.subject → IsHeldAs H y → IsCounts H.text H.subject items → LeadsOn x (brings bytes) y items
text_led x y bytes items H e is (same, of) counts I held = (
  record { text = bytes; subject = H.subject },
  V.brings_text is (subst (λ (l : List ℕ). IsCounts l H.subject items) e counts),
  (same ∙ e, subst (λ (l : List ℕ). IsSubjectOf l H.subject y.subject) e of),
)

-- ---- the next request

-- what a reading says of the request that it read
abbrev pub TellsNext : Option (List ℕ) → Option (List ℕ) → ℕ → ℕ → ℕ → ℕ → Turn → Type 0
TellsNext rest next b t less fewer turn = (read : List ℕ) × IsTurn next read turn × Consumes rest next read × (less + length read ≡ b) × (fewer + 1 ≡ t)

is_next : (rest next : Option (List ℕ)) (b t less fewer : ℕ) (turn : Turn) → TellsNext rest next b t less fewer turn → IsNext rest next b t less fewer turn
is_next rest next b t less fewer turn (read, is, gone, size, count) = record { read = read; is_turn = is; gone = gone; size = size; count = count }

pub next_line : (rest next : Option (List ℕ)) (b t less fewer : ℕ) (read line : Line) (r : AnyTurn) → IfSome (turn_of (Ok r) read) (TellsNext rest next b t less fewer) → r ≡ T.Line → line ≡ read → IsNext rest next b t less fewer (says line)
next_line rest next b t less fewer read line r h e same =
    let told : IfSome (turn_of (Ok T.Line) read) (TellsNext rest next b t less fewer) = subst (λ (x : AnyTurn). IfSome (turn_of (Ok x) read) (TellsNext rest next b t less fewer)) e h in
    subst (λ (l : Line). IsNext rest next b t less fewer (says l)) (sym same) (is_next rest next b t less fewer (says read) told)

pub next_text : (rest next : Option (List ℕ)) (b t less fewer : ℕ) (read : Line) (text : Vec ℕ Global) (r : AnyTurn) → IfSome (turn_of (Ok r) read) (TellsNext rest next b t less fewer) → r ≡ T.Text text → IsNext rest next b t less fewer (brings text.items)
next_text rest next b t less fewer read text r h e =
    let told : IfSome (turn_of (Ok (T.Text text)) read) (TellsNext rest next b t less fewer) = subst (λ (x : AnyTurn). IfSome (turn_of (Ok x) read) (TellsNext rest next b t less fewer)) e h in
    is_next rest next b t less fewer (brings text.items) told

pub begun_at : (input : Option (List ℕ)) (held : AnyHeld) (out : Stream) (H : Held) (ahead : List ℕ) (b t : ℕ) → ahead ≡ [] → b ≡ MAX_INPUT → t ≡ MAX_REQUESTS → IsFirst H → IsHeldAs H held → SoFar input (prepend_known ahead input) b t held out out
begun_at input held out H ahead b t none bytes requests first is =
    subst (λ (l : List ℕ). SoFar input (prepend_known l input) b t held out out) (sym none)
    (subst (λ (r : Option (List ℕ)). SoFar input r b t held out out) (sym (prepend_known-nil input))
    (subst (λ (n : ℕ). SoFar input input n t held out out) (sym bytes)
    (subst (λ (n : ℕ). SoFar input input MAX_INPUT n held out out) (sym requests) (begun input held out H first is))))

pub not_both : (t : Bool) → t ≡ true → t ≡ false → ⊥
not_both true e f = cc
not_both false e f = cc

-- a read that failed
pub read_failed : {T U : Type 0} (r : Result T ServeFault) (f : ReadFault) → IsErrAnd r (λ e. e ≡ fault_of_read f) → IsErrOf r F.ReadFailed → IsErrOf {T = U} (Err f) R.Failed
read_failed (Ok v) f h k = absurd h
read_failed (Err e) R.Failed h k = refl
read_failed (Err e) R.Memory h k = let same : e ≡ F.ReadFailed = cc in cc

-- a reading without memory
pub read_starved : {T U : Type 0} (r : Result T ServeFault) (f : ReadFault) → IsErrAnd r (λ e. e ≡ fault_of_read f) → IsErrOf r F.Memory → IsErrOf {T = U} (Err f) R.Memory
read_starved (Ok v) f h k = absurd h
read_starved (Err e) R.Memory h k = refl
read_starved (Err e) R.Failed h k = let same : e ≡ F.Memory = cc in cc

-- a line that was read brings no text
pub line_alone : (left : Option (List ℕ)) (read : List ℕ) (line : Line) → IsTurn left read (says line) → size_of (asked line) ≡ None
line_alone left read line (I.line raw lacks none) = none
line_alone left read line (I.line_at_end raw last lacks is end none) = none
