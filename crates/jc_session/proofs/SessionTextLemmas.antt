-- Of `Progress`, `SessionText` and `Sent`: what was sent so far, and at each end of a session.
use Rattle.std.proofs.Common.{◌≡◌, ◌≢◌, ℕ, ◌+◌, ◌<◌, ◌≤◌, nat_le, min, List, [], ◌∷◌, ◌++◌, length, take, map, true, false, Option, None, Some, MatchOption, inl, inr, ◌⊎◌, refl, ap, sym, subst, ◌∙◌, arith, length-append, append_assoc, append-nil, Bor}
use Rattle.std.proofs.lemmas.Bool.Decides.{nat_tests}
use Rattle.std.proofs.lemmas.List.{map-append, length-map, length-take, take_all}
use Rattle.std.specs.Io.KnownBytes.{Consumes, IsAtEnd, prepend_known}
use Rattle.std.proofs.KnownBytes.{Consumes-trans}
use Rattle.std.proofs.ByRecursion.{All-push}
use Rattle.jc_debug.specs.DebuggerState.{Session}
use Rattle.jc_debug.specs.Invariant.{Seen, session_of}
use Rattle.jc_session.specs.Lines.{Line, Lacks, with_line_ends, is_within_limit, whole_line, last_line}
use Rattle.jc_session.specs.Requests.{meaning, asks, quit}
use Rattle.jc_session.specs.Views.{line_of_bytes}
use Rattle.jc_session.specs.Answers.{Origin, LineAnswer}
use Rattle.jc_session.specs.AnswerOf.{origin_in, GivesLine}
use Rattle.jc_session.specs.SessionText.{AnswersLines, End, finished, too_many, Ends, at_the_end, at_quit, AreDue}
use Rattle.jc_session.specs.LineReading.{ReadStopsAt}
use Rattle.jc_session.specs.Sent.{OfLines, OfLinesLeft, LosesFront, GoesOn, BreaksOff, AnsweredAll, Answered, WentToRead, WentWhole, WentFront, IsNextSent, ends_in_lf, ends_at_end, IsPast}
use Rattle.jc_session.specs.Progress.{SoFar}
use Rattle.jc_io.specs.Written.{Stream, Wrote, Interrupted}
use Rattle.jc_io.proofs.WrittenLemmas.{wrote_both}
use Rattle.jc_session.proofs.LinesDueLemmas.{ended_append, due_all, due_front, due_bytes, due_lines}

-- ---- answers

answers_more : (O : Origin) (A B C : Session) (xs : List Line) (x : Line) (t u : List ℕ) → AnswersLines O A xs B t → LineAnswer O B x C u → AnswersLines O A (xs ++ x ∷ []) C (t ++ u)
answers_more O A B C [] x t u h k = (C, u, [], subst (λ (n : Session). LineAnswer O n x C u) h.0 k, (refl, refl), ap (λ l. l ++ u) h.1 ∙ sym (append-nil u))
answers_more O A B C (y ∷ xs) x t u h k =
    (h.0, h.1, h.2 ++ u, h.3, answers_more O h.0 B C xs x h.2 u h.4 k, ap (λ l. l ++ u) h.5 ∙ append_assoc h.1 h.2 u)

-- the answer that a call gave was written
pub goes_on : {O : Origin} {d e : Seen} {line : Line} {text sent : List ℕ} (o p : Stream) → origin_in d ≡ O → GivesLine d line e text → sent ≡ text → Wrote sent o p → GoesOn O (session_of d) line (session_of e) o p
goes_on {d = d} {e} {line} {text} o p same gives is went =
    (text, subst (λ (X : Origin). LineAnswer X (session_of d) line (session_of e) text) same gives.answer, subst (λ (t : List ℕ). Wrote t o p) is went)

-- or it was interrupted
pub breaks_off : {O : Origin} {d e : Seen} {line : Line} {text sent : List ℕ} (o p : Stream) → origin_in d ≡ O → GivesLine d line e text → sent ≡ text → Interrupted sent o p → BreaksOff O (session_of d) line o p
breaks_off {d = d} {e} {line} {text} o p same gives is went =
    (session_of e, text, subst (λ (X : Origin). LineAnswer X (session_of d) line (session_of e) text) same gives.answer, subst (λ (t : List ℕ). Interrupted t o p) is went)

-- ---- the line that was kept

-- It is shown by what is kept of it, or it is too long.
pub line_is : (shown : List ℕ → List ℕ) (raw kept : List ℕ) → kept ≡ take 4097 raw → (line : Option (Bor (List ℕ))) → MatchOption line (4096 < length kept) (λ s. (length kept ≤ 4096) × (s.now ≡ shown kept)) → line_of_bytes line ≡ is_within_limit raw (shown raw)
line_is shown raw kept e None h =
    let size : length kept ≡ min 4097 (length raw) = ap length e ∙ length-take 4097 raw in
    let long : 4096 < length raw = omega (arith, size, h) in
    let t : nat_le (length raw) 4096 ≡ false = grind (arith, nat_tests) in
    rw t refl
line_is shown raw kept e (Some s) h =
    let size : length kept ≡ min 4097 (length raw) = ap length e ∙ length-take 4097 raw in
    let short : length raw ≤ 4096 = omega (arith, size, h.0) in
    let t : nat_le (length raw) 4096 ≡ true = grind (arith, nat_tests) in
    rw t (ap Some (h.1 ∙ ap shown (e ∙ take_all 4097 raw (omega (arith, short)))))

pub line_last : (raw kept : List ℕ) → raw ≢ [] → kept ≡ take 4097 raw → (line : Option (Bor (List ℕ))) → MatchOption line (4096 < length kept) (λ s. (length kept ≤ 4096) × (s.now ≡ kept)) → last_line raw ≡ line_of_bytes line ∷ []
line_last [] kept some e line h = absurd (some refl)
line_last (b ∷ bs) kept some e line h = ap (λ l. l ∷ []) (sym (line_is (λ x. x) (b ∷ bs) kept e line h))

-- ---- one line more

ended_more : (whole : List (List ℕ)) (raw : List ℕ) → with_line_ends (whole ++ raw ∷ []) ≡ with_line_ends whole ++ (raw ++ 10 ∷ [])
ended_more whole raw = ended_append whole (raw ∷ []) ∙ ap (λ x. with_line_ends whole ++ x) (append-nil (raw ++ 10 ∷ []))

ended_size : (whole : List (List ℕ)) (raw : List ℕ) → length (with_line_ends (whole ++ raw ∷ [])) ≡ length (with_line_ends whole) + (length raw + 1)
ended_size whole raw =
    ap length (ended_more whole raw) ∙ length-append (with_line_ends whole) (raw ++ 10 ∷ []) ∙ ap (λ k. length (with_line_ends whole) + k) (length-append raw (10 ∷ []))

pub so_far_more : (O : Origin) (A B C : Session) (first now next : Option (List ℕ)) (o p q : Stream) (n m i j : ℕ) (raw : List ℕ) (line : Line) → i ≡ n + length raw + 1 → j ≡ m + 1 → SoFar O A B first now o p n m → Lacks 10 raw → Consumes now next (raw ++ 10 ∷ []) → line ≡ whole_line raw → GoesOn O B line C p q
    → SoFar O A C first next o q i j
so_far_more O A B C first now next o p q n m i j raw line ei ej s l h e g =
    record {
      whole = s.whole ++ raw ∷ [];
      text = s.text ++ g.0;
      no_lf = All-push (Lacks 10) s.whole raw s.no_lf l;
      gone = subst (λ (x : List ℕ). Consumes first next x) (sym (ended_more s.whole raw)) (Consumes-trans first now next (with_line_ends s.whole) (raw ++ 10 ∷ []) s.gone h);
      bytes_are = omega (arith, s.bytes_are, ended_size s.whole raw, ei);
      count_is = omega (arith, s.count_is, length-append s.whole (raw ∷ []), ej);
      answers = subst (λ (xs : List Line). AnswersLines O A xs C (s.text ++ g.0)) (sym (map-append whole_line s.whole (raw ∷ []))) (answers_more O A B C (map whole_line s.whole) (whole_line raw) s.text g.0 s.answers (subst (λ (x : Line). LineAnswer O B x C g.0) e g.1));
      went = wrote_both o p q s.text g.0 s.went g.2;
    }

-- ---- what follows the lines so far, where it is known and where it isn't

-- It follows in what is left where that is known, and it follows in some bytes, whose rest is left then.
abbrev pub Follows : Option (List ℕ) → Option (List ℕ) → (List ℕ → Option (List ℕ) → Type 0) → Type 0
Follows now left Next = ((rest : List ℕ) → now ≡ Some rest → Next rest left) × (rest : List ℕ) × (more : List ℕ) × Next rest (Some more)

-- what else follows then
follows : (now left : Option (List ℕ)) (Next Other : List ℕ → Option (List ℕ) → Type 0) → ((rest : List ℕ) (l : Option (List ℕ)) → Next rest l → Other rest l) → Follows now left Next → Follows now left Other
follows now left Next Other gives f = (λ rest e. gives rest left (f.0 rest e), f.1, f.2, gives f.1 (Some f.2) f.3)

-- Lines that were answered are so many, and what follows them may be anything.
told : (O : Origin) (A B : Session) (first now : Option (List ℕ)) (o p : Stream) (n m : ℕ) (rest : List ℕ) (s : SoFar O A B first now o p n m) → SoFar O A B (Some (with_line_ends s.whole ++ rest)) (Some rest) o p n m
told O A B first now o p n m rest s = record {
  whole = s.whole;
  text = s.text;
  no_lf = s.no_lf;
  gone = refl;
  bytes_are = s.bytes_are;
  count_is = s.count_is;
  answers = s.answers;
  went = s.went;
}

-- What holds of bytes, whatever they are, holds of those that are known, and else of some.
of_bytes : (O : Origin) (A B : Session) (first now left : Option (List ℕ)) (o p : Stream) (n m : ℕ) (Next Says : List ℕ → Option (List ℕ) → Type 0) → SoFar O A B first now o p n m → Follows now left Next
    → ((bytes rest : List ℕ) (l : Option (List ℕ)) → SoFar O A B (Some bytes) (Some rest) o p n m → Next rest l → Says bytes l) → OfLinesLeft first left Says
of_bytes O A B (Some bytes) None left o p n m Next Says s f says = absurd s.gone
of_bytes O A B (Some bytes) (Some rest) left o p n m Next Says s f says = says bytes rest left s (f.0 rest refl)
of_bytes O A B None now left o p n m Next Says s f says =
    (with_line_ends s.whole ++ f.1, f.2, says (with_line_ends s.whole ++ f.1) f.1 (Some f.2) (told O A B None now o p n m f.1 s) f.3)

of_lines : (first left : Option (List ℕ)) (Says : List ℕ → Type 0) → OfLinesLeft first left (λ l rest. Says l) → OfLines first Says
of_lines None left Says h = (h.0, h.2)
of_lines (Some l) left Says h = h

-- ---- the next line

unread : (ahead : List ℕ) (left : Option (List ℕ)) → Consumes (prepend_known ahead left) left ahead
unread ahead None = tt
unread ahead (Some ys) = refl

-- what was read, and then what was read ahead
with_ahead : (now left : Option (List ℕ)) (read ahead : List ℕ) → Consumes now (prepend_known ahead left) read → Consumes now left (read ++ ahead)
with_ahead now left read ahead h = Consumes-trans now (prepend_known ahead left) left read ahead h (unread ahead left)

-- what was read up to a byte
after_byte : (now left : Option (List ℕ)) (raw ahead : List ℕ) (b : ℕ) → Consumes now (prepend_known ahead left) (raw ++ b ∷ []) → Follows now left (λ rest l. Consumes (Some rest) l (raw ++ b ∷ ahead))
after_byte now left raw ahead b h =
    let all = subst (λ (x : List ℕ). Consumes now left x) (append_assoc raw (b ∷ []) ahead) (with_ahead now left (raw ++ b ∷ []) ahead h) in
    (λ rest e. subst (λ (x : Option (List ℕ)). Consumes x left (raw ++ b ∷ ahead)) e all, (raw ++ b ∷ ahead) ++ [], [], refl)

-- the bytes that it begins with
behind_byte : (rest raw ahead : List ℕ) (b : ℕ) (l : Option (List ℕ)) → Consumes (Some rest) l (raw ++ b ∷ ahead) → (more : List ℕ) × (rest ≡ raw ++ b ∷ more)
behind_byte rest raw ahead b None c = absurd c
behind_byte rest raw ahead b (Some ys) c = (ahead ++ ys, c ∙ append_assoc raw (b ∷ ahead) ys)

none_behind : (xs ys : List ℕ) → xs ++ ys ≡ [] → ys ≡ []
none_behind [] ys e = e
none_behind (x ∷ xs) ys e = absurd cc

next_end : (rest raw ahead : List ℕ) (left : Option (List ℕ)) → Consumes (Some rest) (prepend_known ahead left) raw → IsAtEnd (prepend_known ahead left) → (rest ≡ raw) × Consumes (Some rest) left rest
next_end rest raw ahead None h e = absurd h
next_end rest raw ahead (Some ys) h e =
    (h ∙ ap (λ l. raw ++ l) e ∙ append-nil raw, sym (ap (λ l. rest ++ l) (none_behind ahead ys e) ∙ append-nil rest))

-- what was read up to the end
after_end : (now left : Option (List ℕ)) (raw ahead : List ℕ) → Consumes now (prepend_known ahead left) raw → IsAtEnd (prepend_known ahead left) → Follows now left (λ rest l. (rest ≡ raw) × Consumes (Some rest) l rest)
after_end now left raw ahead h a =
    (λ rest e. next_end rest raw ahead left (subst (λ (x : Option (List ℕ)). Consumes x (prepend_known ahead left) raw) e h) a, raw, [], (refl, sym (append-nil raw)))

pub next_whole : (now left : Option (List ℕ)) (raw ahead : List ℕ) (line : Line) → Lacks 10 raw → length ahead < 4096 → Consumes now (prepend_known ahead left) (raw ++ 10 ∷ []) → line ≡ whole_line raw → Follows now left (λ rest l. IsNextSent rest line l)
next_whole now left raw ahead line l few h e =
    follows now left (λ rest r. Consumes (Some rest) r (raw ++ 10 ∷ ahead)) (λ rest r. IsNextSent rest line r)
    (λ rest r c. subst (λ (x : Line). IsNextSent rest x r) (sym e) (ends_in_lf raw ahead l few c))
    (after_byte now left raw ahead 10 h)

pub next_last : (now left : Option (List ℕ)) (raw ahead : List ℕ) (line : Line) → Lacks 10 raw → Consumes now (prepend_known ahead left) raw → IsAtEnd (prepend_known ahead left) → last_line raw ≡ line ∷ [] → Follows now left (λ rest l. IsNextSent rest line l)
next_last now left raw ahead line l h a e =
    follows now left (λ rest r. (rest ≡ raw) × Consumes (Some rest) r rest) (λ rest r. IsNextSent rest line r)
    (λ rest r c. ends_at_end (subst (λ (x : List ℕ). Lacks 10 x) (sym c.0) l) (subst (λ (x : List ℕ). last_line x ≡ line ∷ []) (sym c.0) e) c.1)
    (after_end now left raw ahead h a)

-- what is gone: the lines so far, what was read after them, and what was read ahead
pub loses_front : {O : Origin} {A B : Session} {first now : Option (List ℕ)} {o p : Stream} {n m : ℕ} (left : Option (List ℕ)) (more ahead : List ℕ) → SoFar O A B first now o p n m → Consumes now (prepend_known ahead left) more → LosesFront first left
loses_front {first = first} {now = now} left more ahead s h =
    (with_line_ends s.whole ++ (more ++ ahead), Consumes-trans first now left (with_line_ends s.whole) (more ++ ahead) s.gone (with_ahead now left more ahead h))

-- ---- all lines that are due

-- they were answered up to their end, or up to a `quit`
all_answered : {bytes : List ℕ} {due : List Line} {due_end end : End} (O : Origin) (A B : Session) (lines : List Line) (text : List ℕ) (o p : Stream) → AreDue bytes due due_end → Ends lines end due due_end → AnswersLines O A lines B text → Wrote text o p → AnsweredAll O A bytes end o p
all_answered {due = due} {due_end = due_end} O A B lines text o p are_due ends answers went =
    (text, record { due = due; due_end = due_end; are_due = are_due; lines = lines; ends = ends; last = B; answers = answers }, went)

-- of all bytes
due_last : (O : Origin) (A B : Session) (bytes rest : List ℕ) (o p : Stream) (n m : ℕ) (s : SoFar O A B (Some bytes) (Some rest) o p n m) (raw : List ℕ) → rest ≡ raw → Lacks 10 raw → n + length raw ≤ 67108864 → m + length (last_line raw) ≤ 1000000 → AreDue bytes (map whole_line s.whole ++ last_line raw) finished
due_last O A B bytes rest o p n m s raw is l few_bytes few_lines =
    let whole : bytes ≡ with_line_ends s.whole ++ raw = s.gone ∙ ap (λ x. with_line_ends s.whole ++ x) is in
    let size : length bytes ≡ length (with_line_ends s.whole) + length raw = ap length whole ∙ length-append (with_line_ends s.whole) raw in
    let count = length-append (map whole_line s.whole) (last_line raw) in
    let mapped = length-map s.whole whole_line in
    due_all 67108864 1000000 bytes s.whole raw (record { is = whole; no_lf = s.no_lf; last_no_lf = l }) (omega (arith, size, s.bytes_are, few_bytes)) (omega (arith, count, mapped, s.count_is, few_lines))

-- ---- ends

module _ {O : Origin} {A B : Session} {first now : Option (List ℕ)} {o p : Stream} {n m : ℕ} (left : Option (List ℕ)) (s : SoFar O A B first now o p n m) (le : n ≤ 67108864) (few : m ≤ 1000000) where
  -- what was answered, where the bytes are known
  answered : (bytes rest : List ℕ) (t : SoFar O A B (Some bytes) (Some rest) o p n m) → Answered O A bytes t.whole rest B t.text
  answered bytes rest t =
      record { is = t.gone; no_lf = t.no_lf; count = omega (arith, t.count_is, few); size = omega (arith, t.bytes_are, le); answers = t.answers }

  -- no line is left
  pub at_end : IsAtEnd now → OfLines first (λ l. AnsweredAll O A l finished o p)
  at_end a =
      of_lines first left (λ l. AnsweredAll O A l finished o p)
      (of_bytes O A B first now left o p n m (λ rest r. rest ≡ []) (λ bytes r. AnsweredAll O A bytes finished o p) s
      (λ rest e. subst IsAtEnd e a, [], [], refl)
      (λ bytes rest r t none.
      all_answered O A B (map whole_line t.whole ++ []) t.text o p (due_last O A B bytes rest o p n m t [] none tt (omega (arith, le)) (omega (arith, few))) at_the_end
      (subst (λ (xs : List Line). AnswersLines O A xs B t.text) (sym (append-nil (map whole_line t.whole))) t.answers) t.went))

  -- the line that the end of the input ends is answered, or it is `quit`
  pub at_last : (C : Session) (q : Stream) (raw ahead : List ℕ) (line : Line) → n + length raw ≤ 67108864 → m < 1000000 → Lacks 10 raw → Consumes now (prepend_known ahead left) raw → IsAtEnd (prepend_known ahead left) → last_line raw ≡ line ∷ []
      → GoesOn O B line C p q ⊎ ((meaning line ≡ asks quit) × (q ≡ p)) → OfLines first (λ l. AnsweredAll O A l finished o q)
  at_last C q raw ahead line size count l h a e g =
      of_lines first left (λ l. AnsweredAll O A l finished o q)
      (of_bytes O A B first now left o p n m (λ rest r. (rest ≡ raw) × Consumes (Some rest) r rest) (λ bytes r. AnsweredAll O A bytes finished o q) s (after_end now left raw ahead h a)
      (λ bytes rest r t all. by_answer bytes rest t (due_last O A B bytes rest o p n m t raw all.0 l size (let one = ap length e in omega (arith, one, count))) g))
    where
      by_answer : (bytes rest : List ℕ) (t : SoFar O A B (Some bytes) (Some rest) o p n m) → AreDue bytes (map whole_line t.whole ++ last_line raw) finished → GoesOn O B line C p q ⊎ ((meaning line ≡ asks quit) × (q ≡ p)) → AnsweredAll O A bytes finished o q
      by_answer bytes rest t due (inl k) =
          all_answered O A C (map whole_line t.whole ++ last_line raw) (t.text ++ k.0) o q due at_the_end
          (subst (λ (xs : List Line). AnswersLines O A (map whole_line t.whole ++ xs) C (t.text ++ k.0)) (sym e) (answers_more O A B C (map whole_line t.whole) line t.text k.0 t.answers k.1))
          (wrote_both o p q t.text k.0 t.went k.2)
      by_answer bytes rest t due (inr k) =
          all_answered O A B (map whole_line t.whole) t.text o q due (at_quit line [] (ap (λ x. map whole_line t.whole ++ x) e) k.0) t.answers (subst (λ (x : Stream). Wrote t.text o x) (sym k.1) t.went)

  -- a line that an LF ends is `quit`
  pub at_quit_line : (raw ahead : List ℕ) (line : Line) → n + length raw + 1 ≤ 67108864 → m + 1 ≤ 1000000 → Lacks 10 raw → Consumes now (prepend_known ahead left) (raw ++ 10 ∷ []) → line ≡ whole_line raw → meaning line ≡ asks quit → OfLines first (λ l. AnsweredAll O A l finished o p)
  at_quit_line raw ahead line most_bytes most_lines l h e quits =
      of_lines first left (λ l. AnsweredAll O A l finished o p)
      (of_bytes O A B first now left o p n m (λ rest r. Consumes (Some rest) r (raw ++ 10 ∷ ahead)) (λ bytes r. AnsweredAll O A bytes finished o p) s (after_byte now left raw ahead 10 h)
      (λ bytes rest r t c. quit_here bytes rest t (behind_byte rest raw ahead 10 r c)))
    where
      quit_here : (bytes rest : List ℕ) (t : SoFar O A B (Some bytes) (Some rest) o p n m) → (more : List ℕ) × (rest ≡ raw ++ 10 ∷ more) → AnsweredAll O A bytes finished o p
      quit_here bytes rest t (more, is) =
          let whole : bytes ≡ with_line_ends (t.whole ++ raw ∷ []) ++ more =
          t.gone
          ∙ ap (λ x. with_line_ends t.whole ++ x) (is ∙ sym (append_assoc raw (10 ∷ []) more))
          ∙ sym (append_assoc (with_line_ends t.whole) (raw ++ 10 ∷ []) more)
          ∙ ap (λ x. x ++ more) (sym (ended_more t.whole raw)) in
          let size = ended_size t.whole raw in
          let count = length-append t.whole (raw ∷ []) in
          let due = due_front 67108864 1000000 bytes more (t.whole ++ raw ∷ []) whole (All-push (Lacks 10) t.whole raw t.no_lf l) (omega (arith, size, t.bytes_are, most_bytes)) (omega (arith, count, t.count_is, most_lines)) in
          let parts : map whole_line (t.whole ++ raw ∷ []) ++ due.0 ≡ map whole_line t.whole ++ line ∷ due.0 =
          ap (λ x. x ++ due.0) (map-append whole_line t.whole (raw ∷ []))
          ∙ append_assoc (map whole_line t.whole) (whole_line raw ∷ []) due.0
          ∙ ap (λ x. map whole_line t.whole ++ x ∷ due.0) (sym e) in
          all_answered O A B (map whole_line t.whole) t.text o p due.2 (at_quit line due.0 parts quits) t.answers t.went

  -- ---- faults

  -- there was no memory
  pub went_whole : (line : Line) → Follows now left (λ rest r. IsNextSent rest line r) → OfLinesLeft first left (λ l now_left. WentWhole O A l now_left o p)
  went_whole line next =
      of_bytes O A B first now left o p n m (λ rest r. IsNextSent rest line r) (λ bytes r. WentWhole O A bytes r o p) s next
      (λ bytes rest r t is.
      record {
        whole = t.whole;
        rest = rest;
        last = B;
        text = t.text;
        answered = answered bytes rest t;
        line = line;
        next = is;
        went = t.went;
      })

  -- a write failed
  pub went_front : (q : Stream) (line : Line) → Follows now left (λ rest r. IsNextSent rest line r) → BreaksOff O B line p q → OfLinesLeft first left (λ l now_left. WentFront O A l now_left o q)
  went_front q line next k =
      of_bytes O A B first now left o p n m (λ rest r. IsNextSent rest line r) (λ bytes r. WentFront O A bytes r o q) s next
      (λ bytes rest r t is.
      record {
        whole = t.whole;
        rest = rest;
        last = B;
        text = t.text;
        answered = answered bytes rest t;
        line = line;
        next = is;
        between = p;
        went = t.went;
        breaks_off = k;
      })

  -- a read failed
  pub went_to_read : (raw : List ℕ) → Lacks 10 raw → ReadStopsAt now left raw → OfLinesLeft first left (λ l now_left. WentToRead O A l now_left o p)
  went_to_read raw l h =
      of_bytes O A B first now left o p n m (λ rest r. ReadStopsAt (Some rest) r raw) (λ bytes r. WentToRead O A bytes r o p) s
      (λ rest e. subst (λ (x : Option (List ℕ)). ReadStopsAt x left raw) e h, raw ++ [], [], ([], refl, refl))
      (λ bytes rest r t stops.
      record {
        whole = t.whole;
        part = raw;
        rest = stops.0;
        last = B;
        text = t.text;
        part_no_lf = l;
        answered = subst (λ (x : List ℕ). Answered O A bytes t.whole x B t.text) stops.1 (answered bytes rest t);
        is_left = stops.2;
        went = t.went;
      })

  -- a byte past a limit was read, and less than 4,096 bytes after it
  pub at_limit : (raw ahead : List ℕ) (b : ℕ) → Lacks 10 raw → length ahead < 4096 → Consumes now (prepend_known ahead left) (raw ++ b ∷ []) → (n + length raw ≡ 67108864) ⊎ ((m ≡ 1000000) × (raw ≡ []))
      → OfLinesLeft first left (λ l now_left. AnsweredAll O A l too_many o p × IsPast l now_left)
  at_limit raw ahead b l short h e =
      of_bytes O A B first now left o p n m (λ rest r. Consumes (Some rest) r (raw ++ b ∷ ahead)) (λ bytes r. AnsweredAll O A bytes too_many o p × IsPast bytes r) s (after_byte now left raw ahead b h)
      (λ bytes rest r t c. (
        all_answered O A B (map whole_line t.whole) t.text o p (due bytes rest t (behind_byte rest raw ahead b r c) e) at_the_end t.answers t.went,
        record {
          whole = t.whole;
          part = raw;
          byte = b;
          ahead = ahead;
          no_lf = t.no_lf;
          part_no_lf = l;
          at_limit = at bytes rest t e;
          few = short;
          gone = subst (λ (x : List ℕ). Consumes (Some bytes) r x) (sym (append_assoc (with_line_ends t.whole) raw (b ∷ ahead))) (Consumes-trans (Some bytes) (Some rest) r (with_line_ends t.whole) (raw ++ b ∷ ahead) t.gone c);
        },
      ))
    where
      at : (bytes rest : List ℕ) (t : SoFar O A B (Some bytes) (Some rest) o p n m) → (n + length raw ≡ 67108864) ⊎ ((m ≡ 1000000) × (raw ≡ [])) → (length (with_line_ends t.whole ++ raw) ≡ 67108864) ⊎ ((length t.whole ≡ 1000000) × (raw ≡ []))
      at bytes rest t (inl many) = inl (let size = t.bytes_are in omega (arith, size, many, length-append (with_line_ends t.whole) raw))
      at bytes rest t (inr all) = inr (let count = t.count_is in sym count ∙ all.0, all.1)

      due : (bytes rest : List ℕ) (t : SoFar O A B (Some bytes) (Some rest) o p n m) → (more : List ℕ) × (rest ≡ raw ++ b ∷ more) → (n + length raw ≡ 67108864) ⊎ ((m ≡ 1000000) × (raw ≡ [])) → AreDue bytes (map whole_line t.whole) too_many
      due bytes rest t (more, is) (inl many) =
          due_bytes 67108864 1000000 bytes raw more b t.whole (t.gone ∙ ap (λ x. with_line_ends t.whole ++ x) is) t.no_lf l (omega (arith, t.bytes_are, many)) (omega (arith, t.count_is, few))
      due bytes rest t (more, is) (inr all) =
          due_lines 67108864 1000000 bytes rest t.whole t.gone (λ none. (let some = length-append raw (b ∷ more) in let same = ap length (sym is ∙ none) in omega (arith, some, same))) t.no_lf (omega (arith, t.bytes_are, le)) (omega (arith, t.count_is, all.0))
