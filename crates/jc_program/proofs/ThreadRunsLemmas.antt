-- About ThreadRuns: what was told of a recording, or for want of one. The functions `threads` and `carry_out` use it.
use Rattle.std.proofs.Common.{◌≡◌, ℕ, arith, inl, inr, List, [], Option, Result, Ok, Err, IfOk, IfErr, OnOk, string_bytes, refl, ap, sym, subst}
use Rattle.jc_scenario.specs.WellFormed.{Scenario, IsScenario}
use Rattle.jc_io.specs.Written.{Stream, Sent}
use Rattle.jc_io.proofs.WrittenLemmas.{wrote_none}
use Rattle.jc_program.specs.Recordings.{IsRecordFault}
use Rattle.jc_runner.specs.declared.starting.SpawnRefused.{SpawnRefused}
use Rattle.jc_program.specs.declared.recording.Recording.{Recording}
use Rattle.jc_program.specs.declared.recording.RecordFault.{RecordFault}
use Rattle.jc_program.specs.declared.recording.RecordFault.TheVariants as F
use Rattle.jc_program.specs.ViewText.{IsGivenShown}
use Rattle.jc_program.specs.ViewOutput.{AreTold}
use Rattle.jc_program.specs.Faults.{IsCause}
use Rattle.jc_program.specs.declared.fault.WorkFault.{WorkFault}
use Rattle.jc_program.specs.declared.fault.WorkFault.TheVariants.{Read, Write, NoThread, Memory}
use Rattle.jc_program.specs.ThreadRuns.{outcome_status, IsTold, AreRecordingTexts, ShowsRecording, AreTextsOfRecording, StopsRecording, HasRecorded, IsStoppedRecording}

-- ---- on a scenario

module _ (IsMade : Scenario → Recording → Type 0) (s : Scenario) (old new old_err new_err : Stream) where
  ran : (r : Recording) → IsMade s r → AreRecordingTexts (IsMade s) (string_bytes r.text) (string_bytes r.lines) (outcome_status r.outcome)
  ran r is = record { recording = r; is_recording = is; shown = refl; told = refl; ends = refl }

  abbrev pub Shown : ℕ → Type 0
  Shown status = AreTextsOfRecording (ShowsRecording IsMade s) old new (λ lines. Sent lines old_err new_err) status

  pub recording_shown : (recorded : Result Recording RecordFault) (result : Result ℕ WorkFault) → IfOk recorded (IsMade s) → IfErr recorded (IsRecordFault s) → IsTold recorded result old new old_err new_err → IfOk result Shown
  recording_shown recorded (Err f) is fault h = tt
  recording_shown (Ok r) (Ok status) is fault (ends, wrote, sent) =
      (string_bytes r.lines, (string_bytes r.text, inl (subst (AreRecordingTexts (IsMade s) (string_bytes r.text) (string_bytes r.lines)) (sym ends) (ran r is)), wrote), sent)
  recording_shown (Err (F.Given lines)) (Ok status) is fault (ends, wrote, quiet) =
      ([], (string_bytes lines, inr (subst (IsGivenShown s (string_bytes lines)) (sym ends) fault, refl), wrote), inl (wrote_none old_err new_err quiet))
  recording_shown (Err _) (Ok status) is fault h = absurd cc

  abbrev pub Stops : Type 0 → WorkFault → Type 0
  Stops HasThreads fault = StopsRecording HasThreads (ShowsRecording IsMade s) fault old new

  pub recording_stops : (HasThreads : Type 0) (recorded : Result Recording RecordFault) (result : Result ℕ WorkFault) → ((refused : SpawnRefused) → recorded ≡ Err (F.NoThread refused) → HasThreads) → IfOk recorded (IsMade s) → IfErr recorded (IsRecordFault s) → IsTold recorded result old new old_err new_err → IfErr result (Stops HasThreads)
  recording_stops HasThreads recorded (Ok status) have is fault h = tt
  recording_stops HasThreads (Ok r) (Err f) have is fault (e, part) = rw e (string_bytes r.text, (string_bytes r.lines, outcome_status r.outcome, inl (ran r is)), part)
  recording_stops HasThreads (Err (F.Given lines)) (Err f) have is fault (e, part) = rw e (string_bytes lines, ([], 3, inr (fault, refl)), part)
  recording_stops HasThreads (Err F.Memory) (Err f) have is fault (e, same) = subst (λ (r : Result ℕ WorkFault). IfErr r (Stops HasThreads)) (sym e) same
  recording_stops HasThreads (Err (F.NoThread refused)) (Err f) have is fault (e, same) = subst (λ (r : Result ℕ WorkFault). IfErr r (Stops HasThreads)) (sym e) (same, have refused refl)

  -- ---- on the bytes of the scenario

  module _ (told : Option (List ℕ)) (found : (bytes : List ℕ) × AreTold told bytes × IsScenario bytes s) where
    pub has_recorded : (status : ℕ) → Shown status → HasRecorded IsMade told old new (λ lines. Sent lines old_err new_err) status
    has_recorded status (lines, (out, shows, wrote), sent) = (found.0, found.1, (lines, (out, (Ok s, found.2, shows), wrote), sent))

    pub is_stopped : (HasThreads : List ℕ → Type 0) (fault : WorkFault) → Stops (HasThreads found.0) fault → IsStoppedRecording HasThreads IsMade fault told old new
    is_stopped HasThreads Write (out, (lines, status, shows), part) = (found.0, found.1, (out, (lines, status, (Ok s, found.2, shows)), part))
    is_stopped HasThreads _ h = (found.0, found.1, h)

-- ---- failures

-- none was counted at the end
pub told_same : (recorded : Result Recording RecordFault) (result : Result ℕ WorkFault) (old new old_err new_err : Stream) → IsTold recorded result old new old_err new_err → OnOk result (new.failures ≡ old.failures)
told_same recorded (Err f) old new old_err new_err h = tt
told_same (Ok r) (Ok status) old new old_err new_err (ends, wrote, sent) = wrote.1
told_same (Err (F.Given lines)) (Ok status) old new old_err new_err (ends, wrote, quiet) = wrote.1
told_same (Err _) (Ok status) old new old_err new_err h = absurd cc

-- and which at a fault
pub told_cause : (recorded : Result Recording RecordFault) (result : Result ℕ WorkFault) (old new old_err new_err : Stream) → IsTold recorded result old new old_err new_err → IfErr result (λ fault. (n : ℕ) → IsCause fault ⊥ n n old.failures new.failures)
told_cause recorded (Ok status) old new old_err new_err h = tt
told_cause (Ok r) (Err fault) old new old_err new_err (e, part) = rw e (λ n. (refl, part.1))
told_cause (Err (F.Given lines)) (Err fault) old new old_err new_err (e, part) = rw e (λ n. (refl, part.1))
told_cause _ (Err fault) old new old_err new_err (e, same) =
    subst (λ (r : Result ℕ WorkFault). IfErr r (λ fault. (n : ℕ) → IsCause fault ⊥ n n old.failures new.failures)) (sym e) (λ n. (refl, ap (λ (x : Stream). x.failures) same))

-- what holds of a fault for each number of failures of the input holds for this one
pub cause_of : (fault : WorkFault) (unread : Type 0) (input_old input_new out_old out_new : ℕ) → input_new ≡ input_old → ((n : ℕ) → IsCause fault ⊥ n n out_old out_new) → IsCause fault unread input_old input_new out_old out_new
cause_of Read unread input_old input_new out_old out_new same h = absurd (elim ((h 0).0) [ inl more ↦ omega (arith, more) | inr e ↦ e ])
cause_of _ unread input_old input_new out_old out_new same h = (same, (h 0).1)
