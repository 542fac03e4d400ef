-- What a command writes that records a schedule, whole or up to a fault, for `threads` here and for `weave` in
-- WeaveRuns. The promise cites `ThreadsRan` and `StopsRecording`.
use Rattle.std.specs.Prelude.{◌≡◌, ◌⊎◌, ℕ, List, [], Option, Result, Ok, Err, string_bytes}
use Rattle.jc_parser.specs.declared.fault.ScenarioFault.{ScenarioFault}
use Rattle.jc_scenario.specs.WellFormed.{Scenario, IsScenario}
use Rattle.jc_program.specs.Recordings.{IsRecording}
use Rattle.jc_program.specs.declared.recording.Outcome.{Outcome}
use Rattle.jc_program.specs.declared.recording.Outcome.TheVariants.{NoMemory, Stuck, Done}
use Rattle.jc_program.specs.declared.recording.Recording.{Recording}
use Rattle.jc_program.specs.ViewText.{ReadsAs, IsGivenShown, IsRefused}
use Rattle.jc_io.specs.Written.{Stream, Wrote, WrotePart, Sent, Written, WrittenInPart}
use Rattle.jc_program.specs.ViewOutput.{AreTold}
use Rattle.jc_program.specs.WorkFaults.{fault_status, fault_line}
use Rattle.jc_program.specs.Faults.{IsCause}
use Rattle.jc_program.specs.declared.fault.WorkFault.{WorkFault}
use Rattle.jc_program.specs.declared.fault.WorkFault.TheVariants.{Read, Write, TooManyLines, CutShort, NoThread, Memory}
use Rattle.jc_program.specs.declared.recording.RecordFault.{RecordFault}
use Rattle.jc_program.specs.declared.recording.RecordFault.TheVariants as F

abbrev pub outcome_status : Outcome → ℕ
outcome_status NoMemory = 5
outcome_status Stuck = 3
outcome_status Done = 0

-- The result of a recording, of which the text was written on the output, and then the lines on standard error; or,
-- where there is none, of the lines of a stuck given event, with the status 3, or of the fault. Where a write failed a
-- part of the text was written.
abbrev pub IsTold
    : Result Recording RecordFault → Result ℕ WorkFault → Stream → Stream → Stream → Stream → Type 0
IsTold (Ok r) (Ok status) old new old_err new_err =
    (status ≡ outcome_status r.outcome) × Wrote (string_bytes r.text) old new
    × Sent (string_bytes r.lines) old_err new_err
IsTold (Ok r) (Err fault) old new old_err new_err = (fault ≡ Write) × WrotePart (string_bytes r.text) old new
IsTold (Err (F.Given lines)) (Ok status) old new old_err new_err =
    (status ≡ 3) × Wrote (string_bytes lines) old new × (new_err ≡ old_err)
IsTold (Err (F.Given lines)) (Err fault) old new old_err new_err =
    (fault ≡ Write) × WrotePart (string_bytes lines) old new
IsTold (Err F.Memory) result old new old_err new_err = (result ≡ Err Memory) × (new ≡ old)
IsTold (Err (F.NoThread refused)) result old new old_err new_err = (result ≡ Err (NoThread refused)) × (new ≡ old)

-- ---- recordings of a kind: `IsMade` says which are those of a scenario

-- This is the text of such a recording for the output, these are its lines for standard error, and this is its status.
pub record AreRecordingTexts (IsMade : Recording → Type 0) (out lines : List ℕ) (status : ℕ) : Type 0 where
  pub recording : Recording
  pub is_recording : IsMade recording
  pub shown : out ≡ string_bytes recording.text
  pub told : lines ≡ string_bytes recording.lines
  pub ends : status ≡ outcome_status recording.outcome

-- a recording of the scenario; or a given event is stuck, and nothing was recorded
abbrev pub ShowsRecording : (Scenario → Recording → Type 0) → Scenario → List ℕ → List ℕ → ℕ → Type 0
ShowsRecording IsMade s out lines status =
    AreRecordingTexts (IsMade s) out lines status ⊎ (IsGivenShown s out status × (lines ≡ []))

-- so for a text; where it is refused, nothing was recorded
abbrev pub RecordsOn
    : (Scenario → Recording → Type 0) → Result Scenario ScenarioFault → List ℕ → List ℕ → ℕ → Type 0
RecordsOn IsMade (Ok s) out lines status = ShowsRecording IsMade s out lines status
RecordsOn IsMade (Err fault) out lines status = IsRefused fault out status × (lines ≡ [])

-- a command that records has this text, these lines and this status for these bytes
abbrev pub Records : (Scenario → Recording → Type 0) → List ℕ → List ℕ → List ℕ → ℕ → Type 0
Records IsMade bytes out lines status =
    (read : Result Scenario ScenarioFault) × ReadsAs bytes read × RecordsOn IsMade read out lines status

-- The text of a run was written, and its lines were sent to standard error.
abbrev pub AreTextsOfRecording : (List ℕ → List ℕ → ℕ → Type 0) → Stream → Stream → (List ℕ → Type 0) → ℕ → Type 0
AreTextsOfRecording IsRun old new WereSent status =
    (lines : List ℕ) × Written (λ out. IsRun out lines status) old new × WereSent lines

-- the text of a run
abbrev pub IsTextOf : (List ℕ → List ℕ → ℕ → Type 0) → List ℕ → Type 0
IsTextOf IsRun out = (lines : List ℕ) × (status : ℕ) × IsRun out lines status

-- A fault stopped a run. After a failed write a prefix of its text was written, but not the whole; else nothing was.
-- Want of a thread stops it only where threads may have been started. Too many lines never stop it, nor an input that
-- ends within a text.
abbrev pub StopsRecording : Type 0 → (List ℕ → List ℕ → ℕ → Type 0) → WorkFault → Stream → Stream → Type 0
StopsRecording HasThreads IsRun Read old new = new ≡ old
StopsRecording HasThreads IsRun Write old new = WrittenInPart (IsTextOf IsRun) old new
StopsRecording HasThreads IsRun TooManyLines old new = ⊥
StopsRecording HasThreads IsRun CutShort old new = ⊥
StopsRecording HasThreads IsRun (NoThread refused) old new = (new ≡ old) × HasThreads
StopsRecording HasThreads IsRun Memory old new = new ≡ old

-- a command that records came to its end on the bytes
abbrev pub HasRecorded
    : (Scenario → Recording → Type 0) → Option (List ℕ) → Stream → Stream → (List ℕ → Type 0) → ℕ → Type 0
HasRecorded IsMade told old new WereSent status =
    (bytes : List ℕ) × AreTold told bytes × AreTextsOfRecording (Records IsMade bytes) old new WereSent status

-- a fault stopped it on the bytes
abbrev pub IsStoppedRecording
    : (List ℕ → Type 0) → (Scenario → Recording → Type 0) → WorkFault → Option (List ℕ) → Stream → Stream → Type 0
IsStoppedRecording HasThreads IsMade fault told old new =
    (bytes : List ℕ) × AreTold told bytes × StopsRecording (HasThreads bytes) (Records IsMade bytes) fault old new

-- ---- threads

-- threads made the recording
abbrev pub IsByThreads : ℕ → Scenario → Recording → Type 0
IsByThreads limit s recording = IsRecording s limit recording

-- a run by threads of these bytes has this text, these lines and this status
abbrev pub ThreadsRan : ℕ → List ℕ → List ℕ → List ℕ → ℕ → Type 0
ThreadsRan limit bytes out lines status = Records (IsByThreads limit) bytes out lines status

-- the bytes are a scenario, for which threads may be started
abbrev pub AreThreadScenario : List ℕ → Type 0
AreThreadScenario bytes = (s : Scenario) × IsScenario bytes s

-- the command came to its end on the bytes
abbrev pub HaveThreaded : ℕ → Option (List ℕ) → Stream → Stream → (List ℕ → Type 0) → ℕ → Type 0
HaveThreaded limit told old new WereSent status = HasRecorded (IsByThreads limit) told old new WereSent status

-- a fault stopped the command on the bytes
abbrev pub HaveStopped : ℕ → WorkFault → Option (List ℕ) → Stream → Stream → Type 0
HaveStopped limit fault told old new = IsStoppedRecording AreThreadScenario (IsByThreads limit) fault told old new

-- A fault stopped the command: its status and its line, which was sent to standard error, and the failures of input and
-- output.
pub record IsThreadsFault
    (limit : ℕ) (told : Option (List ℕ)) (unread : Type 0) (input_old input_new : ℕ) (old new : Stream)
    (WasSent : List ℕ → Type 0) (status : ℕ) : Type 0 where
  pub fault : WorkFault
  pub ends : status ≡ fault_status fault
  pub line : WasSent (fault_line fault)
  pub cause : IsCause fault unread input_old input_new old.failures new.failures
  pub stops : HaveStopped limit fault told old new
