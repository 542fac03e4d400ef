-- About Found: commands on what their file was read as. `scenario_in`, `carry_out` and `threads` use it.
use Rattle.std.proofs.Common.{◌≡◌, ◌≢◌, ◌⊎◌, ◌∙◌, ℕ, ◌+◌, inl, inr, List, [], take, Option, Some, None, Result, Ok, Err, IsErrAnd, IfOk, IfErr, OnOk, String, string_bytes, refl, ap, sym, subst}
use Rattle.std.specs.declared.alloc.Global.{Global}
use Rattle.jc_io.specs.Streams.{IsPrefixUpTo}
use Rattle.jc_io.specs.Written.{Stream, Sent, Wrote, WrotePart, Written, WrittenInPart}
use Rattle.jc_io.proofs.WrittenLemmas.{wrote_none}
use Rattle.jc_io.specs.declared.io.ReadFault.{ReadFault}
use Rattle.jc_io.specs.declared.io.ReadFault.TheVariants as I
use Rattle.jc_parser.specs.declared.fault.ScenarioFault.{ScenarioFault}
use Rattle.jc_parser.specs.declared.fault.ScenarioFault.TheVariants as T
use Rattle.jc_parser.specs.Faults.{fault_refusal}
use Rattle.jc_scenario.specs.Faults.{IsFault}
use Rattle.jc_scenario.specs.WellFormed.{Scenario}
use Rattle.jc_scenario.specs.Views.{scenario_view}
use Rattle.jc_scenario.specs.declared.scenario.Scenario.{Scenario as ScenarioValue}
use Rattle.jc_cli.specs.declared.order.View.{View}
use Rattle.jc_cli.specs.declared.order.Task.{Task}
use Rattle.jc_cli.specs.declared.order.Task.TheVariants.{Show, Debug, Serve, Threads, Weave}
use Rattle.jc_program.specs.declared.fault.WorkFault.{WorkFault}
use Rattle.jc_program.specs.declared.fault.WorkFault.TheVariants.{Write, Memory}
use Rattle.jc_program.specs.WorkFaults.{read_fault}
use Rattle.jc_program.specs.Faults.{IsCause}
use Rattle.jc_program.specs.ViewText.{Shows, IsRefused}
use Rattle.jc_program.specs.ViewOutput.{AreTold, IsUnfinishedOf, HasRun, IsStoppedView}
use Rattle.jc_program.specs.Found.{IsReadAs, IsFound}
use Rattle.jc_program.specs.Commands.{IsAlone, ReadsTextAlone, IsDone, IsStoppedCommand}
use Rattle.jc_program.specs.declared.recording.Recording.{Recording}
use Rattle.jc_program.specs.ThreadRuns.{HasRecorded, IsStoppedRecording}
use Rattle.jc_program.specs.WeaveRuns.{IsBySeed, HaveNoThreads}
use Rattle.jc_program.proofs.ReadsScenarioLemmas.{reads_whole}

-- what a `?` passes on
pub passed_on : {T E : Type 0} (r : Result T E) (x : E) (P : E → Type 0) → IsErrAnd r (λ e. e ≡ x) → P x → IfErr r P
passed_on (Ok v) x P h p = absurd h
passed_on (Err e) x P h p = subst P (sym h) p

-- and of a failed write
pub passed_write : {T : Type 0} (r : Result T WorkFault) (x : WorkFault) (P : WorkFault → Type 0) → x ≡ Write → IsErrAnd r (λ e. e ≡ x) → P Write → IfErr r P
passed_write r x P is h p = passed_on r x P h (subst P (sym is) p)

-- the line for which a text is refused is that of its fault, which isn't want of memory
pub refused_as : (bytes : List ℕ) (fault : ScenarioFault) (line : String Global) → (fault ≢ T.Memory → IsFault bytes fault) → IsRefused fault (string_bytes line) 1 → IsReadAs bytes (Err line)
refused_as bytes fault line is refused =
    let has_refusal : fault ≢ T.Memory = λ same. (let no : None ≡ Some refused.refusal = sym (ap fault_refusal same) ∙ refused.is in cc) in
    (fault, is has_refusal, refused)

-- what was read is a prefix of the file, and is read as the whole
found_whole : (n : ℕ) (bytes v : List ℕ) (found : Result ScenarioValue (String Global)) → n ≡ 8388609 → v ≡ take n bytes → IsReadAs v found → IsReadAs bytes found
found_whole n bytes v (Ok s) is front h = reads_whole n bytes v (Ok (scenario_view s)) is front h
found_whole n bytes v (Err line) is front (fault, h, refused) = (fault, reads_whole n bytes v (Err fault) is front h, refused)

pub found_on_front : (n : ℕ) (told : Option (List ℕ)) (v w : List ℕ) (found : Result ScenarioValue (String Global)) → n ≡ 8388609 → IsPrefixUpTo n told v → w ≡ v → IsReadAs w found → IsFound told found
found_on_front n None v w found is front same h = (w, tt, h)
found_on_front n (Some bytes) v w found is front same h =
    (bytes, refl, found_whole n bytes v found is front (subst (λ (x : List ℕ). IsReadAs x found) same h))

-- the failures at a fault of the reading
pub read_cause : (why : ReadFault) (unread : Type 0) (a b out : ℕ) → (why ≡ I.Memory → b ≡ a) → (why ≡ I.Failed → (b ≡ a + 1) ⊎ unread) → IsCause (read_fault why) unread a b out out
read_cause I.Failed unread a b out memory failed = (failed refl, refl)
read_cause I.Memory unread a b out memory failed = (memory refl, refl)

pub some_bytes : (told : Option (List ℕ)) → (bytes : List ℕ) × AreTold told bytes
some_bytes None = ([], tt)
some_bytes (Some bytes) = (bytes, refl)

-- ---- the reading failed

pub recording_unread : (IsMade : Scenario → Recording → Type 0) (HasThreads : List ℕ → Type 0) (told : Option (List ℕ)) (old new : Stream) (why : ReadFault) → new ≡ old → IsStoppedRecording HasThreads IsMade (read_fault why) told old new
recording_unread IsMade HasThreads told old new I.Failed same = let b = some_bytes told in (b.0, b.1, same)
recording_unread IsMade HasThreads told old new I.Memory same = let b = some_bytes told in (b.0, b.1, same)

pub view_unread : (view : View) (told : Option (List ℕ)) (old new : Stream) (why : ReadFault) → new ≡ old → IsStoppedView view (read_fault why) told old new
view_unread view told old new I.Failed same = let b = some_bytes told in (b.0, b.1, same)
view_unread view told old new I.Memory same = let b = some_bytes told in (b.0, b.1, ([], inl refl, wrote_none old new same))

pub unread : (task : Task) (told lines left : Option (List ℕ)) (old new : Stream) (why : ReadFault) → IsAlone task → ReadsTextAlone task → new ≡ old → IsStoppedCommand task (read_fault why) told lines left old new
unread (Show view) told lines left old new why alone reads same = view_unread view told old new why same
unread Debug told lines left old new why alone reads same = absurd (reads.0 refl)
unread Serve told lines left old new why alone reads same = absurd (reads.1 refl)
unread (Threads limit) told lines left old new why alone reads same = absurd alone
unread (Weave seed limit) told lines left old new why alone reads same = recording_unread (IsBySeed seed limit) HaveNoThreads told old new why same

-- ---- a refused text

module _ (told : Option (List ℕ)) (line : String Global) (found : IsFound told (Err line)) (old new : Stream) where
  abbrev its_line : List ℕ
  its_line = string_bytes line

  module _ (IsMade : Scenario → Recording → Type 0) where
    -- a sink that was left alone was sent nothing
    pub refusal_recorded : (err_old err_new : Stream) → err_new ≡ err_old → Wrote its_line old new → HasRecorded IsMade told old new (λ lines. Sent lines err_old err_new) 1
    refusal_recorded err_old err_new quiet wrote =
        let read = found.2 in
        (found.0, found.1, ([], (its_line, (Err read.0, read.1, (read.2, refl)), wrote), inl (wrote_none err_old err_new quiet)))

    pub refusal_stopped : (HasThreads : List ℕ → Type 0) → WrotePart its_line old new → IsStoppedRecording HasThreads IsMade Write told old new
    refusal_stopped HasThreads part =
        let read = found.2 in
        (found.0, found.1, (its_line, ([], 1, (Err read.0, read.1, (read.2, refl))), part))

  pub refused : (task : Task) (lines : Option (List ℕ)) (err_old err_new : Stream) → IsAlone task → ReadsTextAlone task → err_new ≡ err_old → Wrote its_line old new → IsDone task told lines old new (λ text. Sent text err_old err_new) 1
  refused (Show view) lines err_old err_new alone reads quiet wrote =
      let read = found.2 in
      (found.0, found.1, (its_line, (Err read.0, read.1, read.2), wrote))
  refused Debug lines err_old err_new alone reads quiet wrote = absurd (reads.0 refl)
  refused Serve lines err_old err_new alone reads quiet wrote = absurd (reads.1 refl)
  refused (Threads limit) lines err_old err_new alone reads quiet wrote = absurd alone
  refused (Weave seed limit) lines err_old err_new alone reads quiet wrote = refusal_recorded (IsBySeed seed limit) err_old err_new quiet wrote

  pub refusal_stops : (task : Task) (lines left : Option (List ℕ)) → IsAlone task → ReadsTextAlone task → WrotePart its_line old new → IsStoppedCommand task Write told lines left old new
  refusal_stops (Show view) lines left alone reads part =
      let read = found.2 in
      (found.0, found.1, (its_line, (1, (Err read.0, read.1, read.2)), part))
  refusal_stops Debug lines left alone reads part = absurd (reads.0 refl)
  refusal_stops Serve lines left alone reads part = absurd (reads.1 refl)
  refusal_stops (Threads limit) lines left alone reads part = absurd alone
  refusal_stops (Weave seed limit) lines left alone reads part = refusal_stopped (IsBySeed seed limit) HaveNoThreads part

-- ---- a view of a scenario

module _ (s : ScenarioValue) (old new : Stream) (view : View) where
  -- what is written of it up to a fault
  abbrev pub StopsShow : WorkFault → Type 0
  StopsShow fault =
      ((fault ≡ Memory) × Written (IsUnfinishedOf view (scenario_view s)) old new)
      ⊎ ((fault ≡ Write) × WrittenInPart (λ text. (status : ℕ) × Shows view (scenario_view s) text status) old new)

  module _ (told : Option (List ℕ)) (found : IsFound told (Ok s)) where
    pub shown : (status : ℕ) → Written (λ text. Shows view (scenario_view s) text status) old new → HasRun view told old new status
    shown status (text, h, wrote) = (found.0, found.1, (text, (Ok (scenario_view s), found.2, h), wrote))

    pub show_stops : (fault : WorkFault) → StopsShow fault → IsStoppedView view fault told old new
    show_stops fault (inl (is, h)) = rw is (found.0, found.1, (h.0, inr (scenario_view s, found.2, h.1), h.2))
    show_stops fault (inr (is, h)) = rw is (found.0, found.1, (h.0, (h.1.0, (Ok (scenario_view s), found.2, h.1.1)), h.2))

  -- the failures of its writes
  pub show_same : (result : Result ℕ WorkFault) → IfOk result (λ status. Written (λ text. Shows view (scenario_view s) text status) old new) → OnOk result (new.failures ≡ old.failures)
  show_same (Ok status) (text, h, wrote) = wrote.1
  show_same (Err fault) h = tt

  pub show_cause : (fault : WorkFault) → StopsShow fault → (n : ℕ) → IsCause fault ⊥ n n old.failures new.failures
  show_cause fault (inl (is, h)) n = rw is (refl, h.2.1)
  show_cause fault (inr (is, h)) n = rw is (refl, h.2.1)
