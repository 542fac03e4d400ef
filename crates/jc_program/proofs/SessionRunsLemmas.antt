-- About SessionRuns: a session on the bytes that were read is one on the whole. `debug` uses it.
use Rattle.std.proofs.Common.{arith, ◌≡◌, ◌≢◌, ◌⊎◌, ◌∙◌, ℕ, inl, inr, List, [], take, Bool, true, false, Option, Some, None, Err, Ok, codes, if◌then◌else◌, refl, ap, sym}
use Rattle.std.specs.Str.{bytes_eq}
use Rattle.std.proofs.lemmas.Slice.Eq.{bytes_eq-Decides}
use Rattle.jc_io.specs.Streams.{IsPrefixUpTo}
use Rattle.jc_session.specs.Answers.{Origin}
use Rattle.jc_session.specs.SessionText.{End, too_many, text_refused, given_stuck, ShowsSession, refused, stuck, talks}
use Rattle.jc_session.specs.Sent.{OfLines, OfLinesLeft, WentToRead, WentWhole, WentFront, ShowsAll, IsPast, WentRefused, WentGiven, OnScenario}
use Rattle.jc_io.specs.declared.io.Sink.{Ghosts as SinkGhosts}
use Rattle.jc_io.specs.declared.io.ReadFault.{ReadFault}
use Rattle.jc_io.specs.declared.io.ReadFault.TheVariants as I
use Rattle.jc_program.specs.WorkFaults.{read_fault}
use Rattle.jc_io.specs.Written.{Stream, sink}
use Rattle.jc_debug.specs.DebuggerState.{Session}
use Rattle.jc_program.specs.SessionRuns.{lines_by, ShowsTo, TalksOn, IsUnstarted, StopsOn, HasTalked, HasStopped}
use Rattle.jc_program.specs.declared.fault.WorkFault.{WorkFault}
use Rattle.jc_program.specs.declared.fault.WorkFault.TheVariants.{Read, Write, TooManyLines, Memory}
use Rattle.jc_program.proofs.FoundLemmas.{some_bytes}
use Rattle.jc_program.proofs.ReadsScenarioLemmas.{reads_whole}

-- ---- the lines, where they are known

pub lines_at : (is_dash : Bool) (input : Option (List ℕ)) (name : List ℕ) → bytes_eq name (codes "-") ≡ is_dash → lines_by input name ≡ (if is_dash then Some [] else input)
lines_at is_dash input name e = ap (λ (b : Bool). if b then Some [] else input) e

pub no_dash : (name : List ℕ) → bytes_eq name (codes "-") ≡ false → name ≢ codes "-"
no_dash name e is = let bad : false ≡ true = sym e ∙ (bytes_eq-Decides name (codes "-")).1 is in cc

-- the lines stay where the input does
pub lines_stay : (new old : Option (List ℕ)) (name : List ℕ) → (name ≢ codes "-" → new ≡ old) → lines_by new name ≡ lines_by old name
lines_stay new old name h = grind (arith, bytes_eq-Decides)

-- ---- a prefix of the scenario's bytes, one byte longer than the longest scenario

module _ (n : ℕ) (b v : List ℕ) (is : n ≡ 8388609) (front : v ≡ take n b) where
  shows_whole : {text : List ℕ} {end : End} (l : List ℕ) → ShowsSession v l text end → ShowsSession b l text end
  shows_whole l (refused fault f line) = refused fault (reads_whole n b v (Err fault) is front f) line
  shows_whole l (stuck s at event why i given) = stuck s at event why (reads_whole n b v (Ok s) is front i) given
  shows_whole l (talks s start i led t) = talks s start (reads_whole n b v (Ok s) is front i) led t

  one_whole : (l : List ℕ) (old new : Stream) (end : End) → ShowsAll v l end old new → ShowsAll b l end old new
  one_whole l old new end h = (h.0, shows_whole l h.1, h.2)

  all_whole : (lines : Option (List ℕ)) (old new : Stream) (end : End) → OfLines lines (λ l. ShowsAll v l end old new) → OfLines lines (λ l. ShowsAll b l end old new)
  all_whole None old new end h = (h.0, one_whole h.0 old new end h.1)
  all_whole (Some l) old new end h = one_whole l old new end h

  past_whole : (lines left : Option (List ℕ)) (old new : Stream) → OfLinesLeft lines left (λ l rest. ShowsAll v l too_many old new × IsPast l rest) → OfLinesLeft lines left (λ l rest. ShowsAll b l too_many old new × IsPast l rest)
  past_whole None left old new h = (h.0, h.1, (one_whole h.0 old new too_many h.2.0, h.2.1))
  past_whole (Some l) left old new h = (one_whole l old new too_many h.0, h.1)

  to_whole : (lines : Option (List ℕ)) (old new : Stream) (end : End) → ShowsTo v lines end old new → ShowsTo b lines end old new
  to_whole lines old new (text_refused fault) h = λ l. one_whole l old new (text_refused fault) (h l)
  to_whole lines old new given_stuck h = λ l. one_whole l old new given_stuck (h l)
  to_whole lines old new end h = all_whole lines old new end h

  scenario_whole : (Says : Origin → Session → Type 0) → OnScenario v Says → OnScenario b Says
  scenario_whole Says h = (h.0, h.1, reads_whole n b v (Ok h.0) is front h.2, h.3, h.4)

  stops_whole : (fault : WorkFault) (lines left : Option (List ℕ)) (old new : Stream) → StopsOn fault v lines left old new → StopsOn fault b lines left old new
  stops_whole Read lines left old new (inl h) = inl h
  stops_whole Read lines left old new (inr h) = inr (scenario_whole (λ O A. OfLinesLeft lines left (λ l rest. WentToRead O A l rest old new)) h)
  stops_whole Write lines left old new (inl (same, h)) = inl (same, (h.0, h.1, reads_whole n b v (Err h.0) is front h.2, h.3, h.4))
  stops_whole Write lines left old new (inr (inl (same, h))) = inr (inl (same, (h.0, h.1, h.2, h.3, reads_whole n b v (Ok h.0) is front h.4, h.5, h.6)))
  stops_whole Write lines left old new (inr (inr h)) = inr (inr (scenario_whole (λ O A. OfLinesLeft lines left (λ l rest. WentFront O A l rest old new)) h))
  stops_whole Memory lines left old new (inl h) = inl h
  stops_whole Memory lines left old new (inr h) = inr (scenario_whole (λ O A. OfLinesLeft lines left (λ l rest. WentWhole O A l rest old new)) h)
  stops_whole TooManyLines lines left old new h = past_whole lines left old new h
  stops_whole _ lines left old new h = absurd h

-- a failed write, where the source of the lines is in hand
pub at_write : {S : Type 0} (left : S → Option (List ℕ)) (bytes : List ℕ) (a b : S) (old new : Stream) → ((b ≡ a) × WentRefused bytes old new) ⊎ ((b ≡ a) × WentGiven bytes old new) ⊎ OnScenario bytes (λ O A. OfLinesLeft (left a) (left b) (λ l rest. WentFront O A l rest old new)) → StopsOn Write bytes (left a) (left b) old new
at_write left bytes a b old new (inl h) = inl (ap left h.0, h.1)
at_write left bytes a b old new (inr (inl h)) = inr (inl (ap left h.0, h.1))
at_write left bytes a b old new (inr (inr h)) = inr (inr h)

-- for want of memory nothing was read or written, or it stopped later: for `serve` too
pub unstarted_or : {S K P : Type 0} (left : S → Option (List ℕ)) (g : SinkGhosts K) (a b : S) (old new : K) → ((b ≡ a) × (new ≡ old)) ⊎ P → IsUnstarted (left a) (left b) (sink g old) (sink g new) ⊎ P
unstarted_or left g a b old new (inl h) = inl (ap left h.0, ap (sink g) h.1)
unstarted_or left g a b old new (inr h) = inr h

-- ---- the bytes of the scenario, where they are known

pub talked_by : (n : ℕ) (told lines own : Option (List ℕ)) (old new : Stream) (v w : List ℕ) (status : ℕ) → n ≡ 8388609 → IsPrefixUpTo n told v → w ≡ v → lines ≡ own → TalksOn w own old new status → HasTalked told lines old new status
talked_by n None lines own old new v w status is front same kept h = (w, tt, rw kept h)
talked_by n (Some bytes) lines own old new v w status is front same kept (end, ends, h) = (bytes, refl, (end, ends, rw kept (to_whole n bytes w is (same ∙ front) own old new end h)))

pub stopped_by : (fault : WorkFault) (n : ℕ) (told lines left own own_left : Option (List ℕ)) (old new : Stream) (v w : List ℕ) → n ≡ 8388609 → IsPrefixUpTo n told v → w ≡ v → lines ≡ own → left ≡ own_left → StopsOn fault w own own_left old new → HasStopped fault told lines left old new
stopped_by fault n None lines left own own_left old new v w is front same kept rest h = (w, tt, rw (kept, rest) h)
stopped_by fault n (Some bytes) lines left own own_left old new v w is front same kept rest h = (bytes, refl, rw (kept, rest) (stops_whole n bytes w is (same ∙ front) fault own own_left old new h))

-- where no line was read, nothing was shown
pub unstarted : (told lines left : Option (List ℕ)) (old new : Stream) (why : ReadFault) → left ≡ lines → new ≡ old → HasStopped (read_fault why) told lines left old new
unstarted told lines left old new I.Failed same out = let b = some_bytes told in (b.0, b.1, inl (same, out))
unstarted told lines left old new I.Memory same out = let b = some_bytes told in (b.0, b.1, inl (same, out))
