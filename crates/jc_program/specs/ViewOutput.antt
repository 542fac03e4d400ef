-- What a view writes, whole or up to a fault. The promise cites `StopsView` for faults.
use Rattle.std.specs.Prelude.{◌≡◌, ℕ, ◌<◌, ◌⊎◌, List, [], ◌++◌, length, Bool, false, take, Option, Some, IfSome, codes, if◌then◌else◌}
use Rattle.std.specs.Str.{bytes_eq}
use Rattle.jc_rules.specs.declared.operation.Event.{Event}
use Rattle.jc_rules.specs.Step.{Network}
use Rattle.jc_scenario.specs.WellFormed.{Scenario, IsScenario}
use Rattle.jc_io.specs.Written.{Stream, Written, WrittenInPart}
use Rattle.jc_program.specs.declared.fault.WorkFault.{WorkFault}
use Rattle.jc_program.specs.declared.fault.WorkFault.TheVariants.{Read, Write, TooManyLines, CutShort, NoThread, Memory}
use Rattle.jc_program.specs.Journals.{IsJournalUnfinished}
use Rattle.jc_program.specs.declared.run.ReplicaLines.{ReplicaLines}
use Rattle.jc_program.specs.declared.run.ReplicaLines.TheVariants.{Dumps, Documents}
use Rattle.jc_program.specs.ReplicaLines.{lines_text}
use Rattle.jc_program.specs.Runs.{Made, Stuck, GoesBy, Plays, events_of, events_text}
use Rattle.jc_network.specs.Given.{IsStart}
use Rattle.jc_cli.specs.declared.order.View.{View}
use Rattle.jc_cli.specs.declared.order.View.TheVariants.{Check, Print, Run, Document, Journal}
use Rattle.jc_program.specs.ViewText.{Ran}

-- ---- whole texts without memory

-- The first events of a schedule lead from a network to another, and this is their text.
pub record Begins
    (trace : Bool) (names : List (List ℕ)) (network : Network) (schedule : List Event) (text : List ℕ)
    : Type 0 where
  pub made : List Made
  pub more : List Event
  pub last : Network
  pub goes : GoesBy network made last
  pub events : schedule ≡ events_of made ++ more
  pub shown : text ≡ events_text trace names 1 made

-- Whole texts of the execution of a schedule, without the last one: the blocks of its first events; or those of all
-- executed events, and the lines of some first replicas; or those of all replicas, but not the line of the stuck event.
pub data Unfinished
    (trace : Bool) (lines : ReplicaLines) (names : List (List ℕ)) (network : Network) (schedule : List Event)
    : List ℕ → Type 0 where
  blocks : {text : List ℕ}
      → Begins trace names network schedule text
      → Unfinished trace lines names network schedule text
  first_lines : {text : List ℕ} (last : Network) (stuck : Option Stuck) (n : ℕ)
      → Plays trace names network schedule last stuck text
      → n < length last.states
      → Unfinished trace lines names network schedule (text ++ lines_text lines names (take n last.states))
  all_lines : {text : List ℕ} (last : Network) (stuck : Stuck)
      → Plays trace names network schedule last (Some stuck) text
      → Unfinished trace lines names network schedule (text ++ lines_text lines names last.states)

-- nothing is written where there was no memory for the start
abbrev pub IsRunUnfinished : Bool → ReplicaLines → List Event → Scenario → List ℕ → Type 0
IsRunUnfinished trace lines events s text =
    (text ≡ []) ⊎ ((start : Network) × IsStart s start × Unfinished trace lines s.names start events text)

-- whole texts of a view of a scenario, without the last one
abbrev pub IsUnfinishedOf : View → Scenario → List ℕ → Type 0
IsUnfinishedOf Check s text = text ≡ []
IsUnfinishedOf Print s text = text ≡ []
IsUnfinishedOf (Run trace) s text = IsRunUnfinished trace Dumps s.schedule s text
IsUnfinishedOf (Document events) s text = IsRunUnfinished false Documents (take events s.schedule) s text
IsUnfinishedOf (Journal trace effects) s text = IsJournalUnfinished (record { rules = trace; effects = effects }) s text

-- Whole texts of a view of these bytes, without the last one; or nothing, where the bytes weren't read or have a fault.
abbrev pub IsUnfinished : View → List ℕ → List ℕ → Type 0
IsUnfinished view bytes text =
    (text ≡ []) ⊎ ((s : Scenario) × IsScenario bytes s × IsUnfinishedOf view s text)

-- ---- what a view has written

-- these are the bytes, where they are known
abbrev pub AreTold : Option (List ℕ) → List ℕ → Type 0
AreTold told bytes = IfSome told (λ all. bytes ≡ all)

-- A view of the bytes came to its end: its text was written, and it ended with this status.
abbrev pub HasRun : View → Option (List ℕ) → Stream → Stream → ℕ → Type 0
HasRun view told old new status =
    (bytes : List ℕ) × AreTold told bytes × Written (λ text. Ran view bytes text status) old new

-- the text of a view of these bytes, whatever its status
abbrev pub IsTextOfView : View → List ℕ → List ℕ → Type 0
IsTextOfView view bytes text = (status : ℕ) × Ran view bytes text status

-- A fault stopped a view of these bytes. Where they weren't read nothing was written; after a failed write a prefix of
-- its text was written, but not the whole; without memory whole texts of it were. No other fault stops a view.
abbrev pub StopsView : View → List ℕ → WorkFault → Stream → Stream → Type 0
StopsView view bytes Read old new = new ≡ old
StopsView view bytes Write old new = WrittenInPart (IsTextOfView view bytes) old new
StopsView view bytes TooManyLines old new = ⊥
StopsView view bytes CutShort old new = ⊥
StopsView view bytes (NoThread refused) old new = ⊥
StopsView view bytes Memory old new = Written (IsUnfinished view bytes) old new

-- A fault stopped a view of the bytes.
abbrev pub IsStoppedView : View → WorkFault → Option (List ℕ) → Stream → Stream → Type 0
IsStoppedView view fault told old new = (bytes : List ℕ) × AreTold told bytes × StopsView view bytes fault old new

-- The bytes of the file that a command names, where they are known: those of standard input for `-`, else of the file.
abbrev pub told_by : Option (List ℕ) → (List ℕ → Option (List ℕ)) → List ℕ → Option (List ℕ)
told_by input files name = if bytes_eq name (codes "-") then input else files name
