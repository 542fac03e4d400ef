-- Of `Input`: lines by what is kept of them, texts that are being read, and what was read of a request.
use Rattle.std.proofs.Common.{◌≡◌, ◌≢◌, ℕ, ◌+◌, ◌<◌, ◌≤◌, nat_le, ◌==◌, ◌⊎◌, inl, inr, List, [], ◌∷◌, ◌++◌, length, take, Bool, true, false, if◌then◌else◌, Option, None, Some, IfSome, MatchOption, Result, Ok, Err, refl, ap, sym, subst, ◌∙◌, arith, length-append, append_assoc, Bor, Vec, Global}
use Rattle.std.proofs.lemmas.Bool.Decides.{nat_tests}
use Rattle.std.proofs.lemmas.List.{length-take-le}
use Rattle.std.specs.Io.KnownBytes.{Consumes, IsAtEnd, prepend_known}
use Rattle.std.proofs.KnownBytes.{Consumes-trans}
use Rattle.jc_io.specs.declared.io.ReadFault.{ReadFault}
use Rattle.jc_io.specs.Streams.{StaysIfKnown}
use Rattle.jc_session.specs.Lines.{Line, Lacks, without_cr, last_line}
use Rattle.jc_session.specs.LineReading.{ReadStopsAt}
use Rattle.jc_session.specs.Views.{line_of_bytes}
use Rattle.jc_session.proofs.AheadLemmas.{kept_more, take_whole, take_full}
use Rattle.jc_session.proofs.LineReadingLemmas.{stops_here}
use Rattle.jc_requests.specs.declared.turn.Turn.{Turn as AnyTurn}
use Rattle.jc_requests.specs.declared.turn.Turn.TheVariants as T
use Rattle.jc_requests.specs.Asked.{asked}
use Rattle.jc_requests.specs.Input.{Turn, says, brings, kept, size_of, IsTurn, IsPart, IsTextPart, IsCutShort}
use Rattle.jc_requests.specs.Input as I
use Rattle.jc_requests.specs.InputViews.{line_by, turn_of, TextPart}

-- ---- lines by what is kept of them

-- what is kept of a line is judged as the line is
pub kept_judged : (ended : Bool) (raw front : List ℕ) → front ≡ take 4097 raw → line_by ended front ≡ line_by ended raw
kept_judged ended raw front e = by_length (nat_le (length raw) 4096) refl
  where
    both_none : (ended : Bool) (xs ys : List ℕ) → nat_le (length xs) 4096 ≡ false → nat_le (length ys) 4096 ≡ false → line_by ended xs ≡ line_by ended ys
    both_none true xs ys t u = rw (t, u) refl
    both_none false xs ys t u = rw (t, u) refl

    by_length : (t : Bool) → nat_le (length raw) 4096 ≡ t → line_by ended front ≡ line_by ended raw
    by_length true t = let le : length raw ≤ 4096 = grind (arith, nat_tests) in ap (line_by ended) (e ∙ take_whole 4097 raw (omega (arith, le)))
    by_length false t =
        let gt : 4096 < length raw = grind (arith, nat_tests) in
        let size : length front ≡ 4097 = ap length e ∙ length-take-le 4097 raw (omega (arith, gt)) in
        let u : nat_le (length front) 4096 ≡ false = grind (arith, nat_tests, size) in
        both_none ended front raw u t

-- what the buffer gives is the line
pub line_given : (ended : Bool) (front : List ℕ) (line : Option (Bor (List ℕ))) → MatchOption line (4096 < length front) (λ s. (length front ≤ 4096) × (s.now ≡ (if ended then without_cr front else front))) → line_of_bytes line ≡ line_by ended front
line_given true front None h = let t : nat_le (length front) 4096 ≡ false = grind (arith, nat_tests) in rw t refl
line_given false front None h = let t : nat_le (length front) 4096 ≡ false = grind (arith, nat_tests) in rw t refl
line_given true front (Some s) h = let le = h.0 in let t : nat_le (length front) 4096 ≡ true = grind (arith, nat_tests, le) in rw t (ap Some h.1)
line_given false front (Some s) h = let le = h.0 in let t : nat_le (length front) 4096 ≡ true = grind (arith, nat_tests, le) in rw t (ap Some h.1)

-- the line that the end of an input ends
pub line_last : (raw : List ℕ) → raw ≢ [] → last_line raw ≡ line_by false raw ∷ []
line_last [] n = absurd (n refl)
line_last (b ∷ bs) n = refl

-- ---- a text that is being read

pub keeps : (text : List ℕ) (b : ℕ) → length text ≤ 8388608 → text ++ b ∷ [] ≡ kept (text ++ b ∷ [])
keeps text b h = let n = length-append text (b ∷ []) in sym (take_whole 8388609 (text ++ b ∷ []) (omega (arith, n, h)))

pub keeps_out : (text : List ℕ) (b : ℕ) → length text ≡ 8388609 → text ≡ kept (text ++ b ∷ [])
keeps_out text b h = sym (take_full 8388609 text (b ∷ []) h)

pub part_more : (old now next : Option (List ℕ)) (front new : List ℕ) (count more most room less b : ℕ) → TextPart old now front count most room → Consumes now next (b ∷ []) → new ≡ kept (front ++ b ∷ []) → less + 1 ≡ room → more ≡ count + 1
    → TextPart old next new more most less
part_more old now next front new count more most room less b r h e one up = record {
  part = r.part ++ b ∷ [];
  gone = Consumes-trans old now next r.part (b ∷ []) r.gone h;
  kept_is = kept_more 8388609 r.part b front new r.kept_is e;
  count_is = let n = length-append r.part (b ∷ []) in let m = r.count_is in omega (arith, n, m, up);
  room_is = let n = length-append r.part (b ∷ []) in let m = r.room_is in omega (arith, n, m, one);
}

pub part_kept : (old now : Option (List ℕ)) (front : List ℕ) (count most room : ℕ) → TextPart old now front count most room → length front ≤ 8388609
part_kept old now front count most room r = by_length (nat_le 8388609 (length r.part)) refl
  where
    by_length : (t : Bool) → nat_le 8388609 (length r.part) ≡ t → length front ≤ 8388609
    by_length true t =
        let le : 8388609 ≤ length r.part = grind (arith, nat_tests) in
        let size : length front ≡ 8388609 = ap length r.kept_is ∙ length-take-le 8388609 r.part le in
        omega (arith, size)
    by_length false t =
        let lt : length r.part < 8388609 = grind (arith, nat_tests) in
        let size : length front ≡ length r.part = ap length (r.kept_is ∙ take_whole 8388609 r.part (omega (arith, lt))) in
        omega (arith, size, lt)

-- a failed read: what was read of the text, and what is left
pub part_stops : (old left new : Option (List ℕ)) (ahead ahead_new front : List ℕ) (count size most room : ℕ) → TextPart old (prepend_known ahead left) front count most room → count < size → ahead ≡ [] → ahead_new ≡ [] → StaysIfKnown left new
    → (part : List ℕ) × (length part < size) × (ahead_new ≡ []) × (length part ≤ most) × ReadStopsAt old new part
part_stops old left new ahead ahead_new front count size most room p lt e f s =
    let n = p.count_is in
    let m = p.room_is in
    (p.part, omega (arith, n, lt), f, omega (arith, m), stops_here old left new ahead p.part p.gone e s)

-- ---- what was read of a request

-- a line, and what is behind it
pub consumes_behind : (old mid new : Option (List ℕ)) (raw text : List ℕ) → Consumes old mid (raw ++ 10 ∷ []) → Consumes mid new text → Consumes old new (raw ++ 10 ∷ text)
consumes_behind old mid new raw text h k = subst (λ (l : List ℕ). Consumes old new l) (append_assoc raw (10 ∷ []) text) (Consumes-trans old mid new (raw ++ 10 ∷ []) text h k)

pub consumes_past : (old mid new : Option (List ℕ)) (raw part : List ℕ) (b : ℕ) → Consumes old mid (raw ++ 10 ∷ []) → Consumes mid new (part ++ b ∷ []) → Consumes old new ((raw ++ 10 ∷ part) ++ b ∷ [])
consumes_past old mid new raw part b h k = subst (λ (l : List ℕ). Consumes old new l) (sym (append_assoc raw (10 ∷ part) (b ∷ []))) (consumes_behind old mid new raw (part ++ b ∷ []) h k)

pub stops_behind : (old mid new : Option (List ℕ)) (raw part : List ℕ) → Consumes old mid (raw ++ 10 ∷ []) → ReadStopsAt mid new part → ReadStopsAt old new (raw ++ 10 ∷ part)
stops_behind None mid new raw part h k = tt
stops_behind (Some xs) None new raw part h k = absurd h
stops_behind (Some xs) (Some ys) new raw part h k = (k.0, h ∙ ap (λ l. (raw ++ 10 ∷ []) ++ l) k.1 ∙ regroup raw part k.0, k.2)
  where
    regroup : (raw part rest : List ℕ) → (raw ++ 10 ∷ []) ++ (part ++ rest) ≡ (raw ++ 10 ∷ part) ++ rest
    regroup raw part rest = append_assoc raw (10 ∷ []) (part ++ rest) ∙ sym (append_assoc raw (10 ∷ part) rest)

pub length_behind : (raw text : List ℕ) → length (raw ++ 10 ∷ text) ≡ length raw + 1 + length text
length_behind raw text = let n = length-append raw (10 ∷ text) in omega (arith, n)

-- how long the text of the line is
sized : (ended : Bool) (raw front : List ℕ) (size : Option ℕ) → front ≡ take 4097 raw → size_of (asked (line_by ended front)) ≡ size → size_of (asked (line_by ended raw)) ≡ size
sized ended raw front size e s = ap (λ l. size_of (asked l)) (sym (kept_judged ended raw front e)) ∙ s

pub a_line : (left : Option (List ℕ)) (raw front : List ℕ) → front ≡ take 4097 raw → Lacks 10 raw → size_of (asked (line_by true front)) ≡ None → IsTurn left (raw ++ 10 ∷ []) (says (line_by true front))
a_line left raw front e n s = subst (λ (l : Line). IsTurn left (raw ++ 10 ∷ []) (says l)) (sym (kept_judged true raw front e)) (I.line raw n (sized true raw front None e s))

pub a_text : (left : Option (List ℕ)) (raw front text items : List ℕ) → front ≡ take 4097 raw → Lacks 10 raw → size_of (asked (line_by true front)) ≡ Some (length text) → items ≡ kept text → IsTurn left (raw ++ 10 ∷ text) (brings items)
a_text left raw front text items e n s k = subst (λ (l : List ℕ). IsTurn left (raw ++ 10 ∷ text) (brings l)) (sym k) (I.text raw text n (sized true raw front (Some (length text)) e s))

last_is : (raw front : List ℕ) → raw ≢ [] → front ≡ take 4097 raw → last_line raw ≡ line_by false front ∷ []
last_is raw front some e = line_last raw some ∙ ap (λ l. l ∷ []) (sym (kept_judged false raw front e))

pub a_last_line : (left : Option (List ℕ)) (raw front : List ℕ) → front ≡ take 4097 raw → raw ≢ [] → Lacks 10 raw → IsAtEnd left → size_of (asked (line_by false front)) ≡ None → IsTurn left raw (says (line_by false front))
a_last_line left raw front e some n a s = I.line_at_end raw (line_by false front) n (last_is raw front some e) a s

pub a_last_text : (left : Option (List ℕ)) (raw front items : List ℕ) → front ≡ take 4097 raw → raw ≢ [] → Lacks 10 raw → IsAtEnd left → items ≡ [] → size_of (asked (line_by false front)) ≡ Some 0 → IsTurn left raw (brings items)
a_last_text left raw front items e some n a none s = subst (λ (l : List ℕ). IsTurn left raw (brings l)) (sym none) (I.text_at_end raw (line_by false front) n (last_is raw front some e) a s)

pub a_part : (raw front part : List ℕ) (n : ℕ) → front ≡ take 4097 raw → Lacks 10 raw → size_of (asked (line_by true front)) ≡ Some n → length part < n → IsPart (raw ++ 10 ∷ part)
a_part raw front part n e l s lt = I.in_text raw part n l (sized true raw front (Some n) e s) lt

pub a_text_part : (raw front part : List ℕ) (n : ℕ) → front ≡ take 4097 raw → Lacks 10 raw → size_of (asked (line_by true front)) ≡ Some n → length part ≤ n → IsTextPart (raw ++ 10 ∷ part)
a_text_part raw front part n e l s le = I.of_text raw part n l (sized true raw front (Some n) e s) le

pub a_short_text : (raw front part : List ℕ) (n : ℕ) → front ≡ take 4097 raw → Lacks 10 raw → size_of (asked (line_by true front)) ≡ Some n → length part < n → IsCutShort (raw ++ 10 ∷ part)
a_short_text raw front part n e l s lt = I.behind_line raw part n l (sized true raw front (Some n) e s) lt

pub no_text_left : (raw front : List ℕ) (n : ℕ) → front ≡ take 4097 raw → raw ≢ [] → Lacks 10 raw → size_of (asked (line_by false front)) ≡ Some n → 0 < n → IsCutShort raw
no_text_left raw front n e some l s lt = I.at_end raw (line_by false front) n l (last_is raw front some e) s lt

-- the request that was read, if one was
pub turn_by : (r : Result AnyTurn ReadFault) (line : Line) (P : Turn → Type 0) → (r ≡ Ok T.Line → P (says line)) → ((v : Vec ℕ Global) → r ≡ Ok (T.Text v) → P (brings v.items)) → IfSome (turn_of r line) P
turn_by (Ok T.Line) line P l t = l refl
turn_by (Ok (T.Text v)) line P l t = t v refl
turn_by (Ok T.End) line P l t = tt
turn_by (Ok T.TooMany) line P l t = tt
turn_by (Ok T.CutShort) line P l t = tt
turn_by (Err e) line P l t = tt

-- ---- how many bytes the next request may have

some_length : (raw : List ℕ) → raw ≢ [] → 0 < length raw
some_length [] n = absurd (n refl)
some_length (b ∷ bs) n = omega arith

-- where some may come, so may a request
pub room_some : (requests bytes room : ℕ) → room ≡ (if requests == 0 then 0 else bytes) → 0 < room → (0 < requests) × (room ≡ bytes)
room_some requests bytes room e some = by (requests == 0) refl
  where
    by : (t : Bool) → (requests == 0) ≡ t → (0 < requests) × (room ≡ bytes)
    by true t = let none : room ≡ 0 = rw t at e in absurd (omega (arith, none, some))
    by false t = let all : room ≡ bytes = rw t at e in (grind (arith, nat_tests), all)

pub room_within : (requests bytes room : ℕ) → room ≡ (if requests == 0 then 0 else bytes) → room ≤ bytes
room_within requests bytes room e = by (requests == 0) refl
  where
    by : (t : Bool) → (requests == 0) ≡ t → room ≤ bytes
    by true t = let none : room ≡ 0 = rw t at e in omega (arith, none)
    by false t = let all : room ≡ bytes = rw t at e in omega (arith, all)

no_bytes : (raw : List ℕ) → length raw ≡ 0 → raw ≡ []
no_bytes [] e = refl
no_bytes (b ∷ bs) e = absurd (omega (arith, e))

-- what was read fills the room
pub room_full : (requests bytes room : ℕ) (raw : List ℕ) → room ≡ (if requests == 0 then 0 else bytes) → length raw ≡ room → ((length raw ≡ bytes) × (0 < requests)) ⊎ ((requests ≡ 0) × (raw ≡ []))
room_full requests bytes room raw e full = by (requests == 0) refl
  where
    by : (t : Bool) → (requests == 0) ≡ t → ((length raw ≡ bytes) × (0 < requests)) ⊎ ((requests ≡ 0) × (raw ≡ []))
    by true t = let none : room ≡ 0 = rw t at e in inr (grind (arith, nat_tests), no_bytes raw (full ∙ none))
    by false t = let all : room ≡ bytes = rw t at e in inl (full ∙ all, grind (arith, nat_tests))

-- ---- the request that was read, and what it took

abbrev pub IsRead : Option (List ℕ) → Option (List ℕ) → ℕ → ℕ → ℕ → ℕ → Turn → Type 0
IsRead old new bytes more requests fewer turn =
    (read : List ℕ) × IsTurn new read turn × Consumes old new read × (more + length read ≡ bytes) × (fewer + 1 ≡ requests)

pub line_read : (old mid new : Option (List ℕ)) (raw front : List ℕ) (line : Line) (bytes more requests fewer : ℕ) → Lacks 10 raw → Consumes old mid (raw ++ 10 ∷ []) → front ≡ take 4097 raw → size_of (asked (line_by true front)) ≡ None → new ≡ mid → line ≡ line_by true front → more + length raw + 1 ≡ bytes → fewer + 1 ≡ requests
    → IsRead old new bytes more requests fewer (says line)
line_read old mid new raw front line bytes more requests fewer lacks gone e none same is count one = (
  raw ++ 10 ∷ [],
  subst (λ (l : Line). IsTurn new (raw ++ 10 ∷ []) (says l)) (sym is) (a_line new raw front e lacks none),
  subst (λ (o : Option (List ℕ)). Consumes old o (raw ++ 10 ∷ [])) (sym same) gone,
  let n = length-append raw (10 ∷ []) in omega (arith, n, count),
  one,
)

pub text_read : (old mid new : Option (List ℕ)) (raw front text items : List ℕ) (bytes more requests fewer : ℕ) → Lacks 10 raw → Consumes old mid (raw ++ 10 ∷ []) → front ≡ take 4097 raw → size_of (asked (line_by true front)) ≡ Some (length text) → Consumes mid new text → items ≡ kept text → more + length text + length raw + 1 ≡ bytes → fewer + 1 ≡ requests
    → IsRead old new bytes more requests fewer (brings items)
text_read old mid new raw front text items bytes more requests fewer lacks gone e size rest is count one = (
  raw ++ 10 ∷ text,
  a_text new raw front text items e lacks size is,
  consumes_behind old mid new raw text gone rest,
  let n = length_behind raw text in omega (arith, n, count),
  one,
)

pub last_line_read : (old new : Option (List ℕ)) (raw front : List ℕ) (bytes more requests fewer : ℕ) → Lacks 10 raw → raw ≢ [] → Consumes old new raw → IsAtEnd new → front ≡ take 4097 raw → size_of (asked (line_by false front)) ≡ None → more + length raw ≡ bytes → fewer + 1 ≡ requests
    → IsRead old new bytes more requests fewer (says (line_by false front))
last_line_read old new raw front bytes more requests fewer lacks some gone end e none count one =
    (raw, a_last_line new raw front e some lacks end none, gone, count, one)

pub last_text_read : (old new : Option (List ℕ)) (raw front items : List ℕ) (bytes more requests fewer : ℕ) → Lacks 10 raw → raw ≢ [] → Consumes old new raw → IsAtEnd new → front ≡ take 4097 raw → items ≡ [] → size_of (asked (line_by false front)) ≡ Some 0 → more + length raw ≡ bytes → fewer + 1 ≡ requests
    → IsRead old new bytes more requests fewer (brings items)
last_text_read old new raw front items bytes more requests fewer lacks some gone end e empty none count one =
    (raw, a_last_text new raw front items e some lacks end empty none, gone, count, one)

-- some bytes of a line may have come
pub room_for : (requests bytes room more : ℕ) (raw : List ℕ) → room ≡ (if requests == 0 then 0 else bytes) → raw ≢ [] → more + length raw ≡ room → (0 < requests) × (room ≡ bytes)
room_for requests bytes room more raw e some count = let n = some_length raw some in room_some requests bytes room e (omega (arith, n, count))
