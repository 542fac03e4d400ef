-- The text and the status of a view of a scenario's bytes: `check`, `print`, `run`, `view` and `journal`. The promise
-- cites `Ran`.
use Rattle.std.specs.Prelude.{◌≡◌, ◌⊎◌, ℕ, List, ◌++◌, Bool, false, take, Option, Some, Result, Ok, Err}
use Rattle.jc_rules.specs.declared.refusal.Refusal.{Refusal}
use Rattle.jc_rules.specs.declared.operation.Event.{Event}
use Rattle.jc_rules.specs.Refused.{Cause}
use Rattle.jc_rules.specs.Step.{Network}
use Rattle.jc_parser.specs.declared.fault.ScenarioFault.{ScenarioFault}
use Rattle.jc_parser.specs.Faults.{fault_refusal, fault_offset}
use Rattle.jc_scenario.specs.WellFormed.{Scenario, IsScenario}
use Rattle.jc_scenario.specs.Faults.{IsFault}
use Rattle.jc_scenario.specs.Canon.{canon}
use Rattle.jc_network.specs.Given.{before_given, IsStart, IsGivenStuck}
use Rattle.jc_cli.specs.declared.order.View.{View}
use Rattle.jc_cli.specs.declared.order.View.TheVariants.{Check, Print, Run, Document, Journal}
use Rattle.jc_dump.specs.Texts.{refused_text, given_text}
use Rattle.jc_program.specs.Texts.{counts_text}
use Rattle.jc_program.specs.declared.run.ReplicaLines.{ReplicaLines}
use Rattle.jc_program.specs.declared.run.ReplicaLines.TheVariants.{Dumps, Documents}
use Rattle.jc_program.specs.ReplicaLines.{lines_text}
use Rattle.jc_program.specs.Journals.{Journaled}
use Rattle.jc_program.specs.Runs.{Stuck, Plays, stuck_line, status_of}

-- the bytes are this scenario, or have this fault
abbrev pub ReadsAs : List ℕ → Result Scenario ScenarioFault → Type 0
ReadsAs bytes (Ok s) = IsScenario bytes s
ReadsAs bytes (Err fault) = IsFault bytes fault

-- The run of these events from the scenario's start: with the trace the blocks of those that are executed, the line of
-- each replica in the last network, and that of the stuck event, if there is one.
pub record RanThrough
    (trace : Bool) (lines : ReplicaLines) (events : List Event) (s : Scenario) (out : List ℕ) (status : ℕ) : Type 0 where
  pub start : Network
  pub is_start : IsStart s start
  pub last : Network
  pub stuck : Option Stuck
  pub blocks : List ℕ
  pub plays : Plays trace s.names start events last stuck blocks
  pub written : out ≡ blocks ++ lines_text lines s.names last.states ++ stuck_line s.names stuck
  pub ends : status ≡ status_of stuck

-- The scenario has no start: the lines of its first given event that is stuck.
pub record IsGivenShown (s : Scenario) (out : List ℕ) (status : ℕ) : Type 0 where
  pub at : ℕ
  pub event : Event
  pub why : Cause
  pub stuck : IsGivenStuck (before_given s) s.given at event why
  pub written : out ≡ given_text s.names at why event
  pub ends : status ≡ 3

-- a run of these events; or the scenario has no start
abbrev pub ShowsRun : Bool → ReplicaLines → List Event → Scenario → List ℕ → ℕ → Type 0
ShowsRun trace lines events s out status = RanThrough trace lines events s out status ⊎ IsGivenShown s out status

-- the line of a fault
pub record IsRefused (fault : ScenarioFault) (out : List ℕ) (status : ℕ) : Type 0 where
  pub refusal : Refusal
  pub place : ℕ
  pub is : fault_refusal fault ≡ Some refusal
  pub stands : fault_offset fault ≡ Some place
  pub written : out ≡ refused_text refusal place
  pub ends : status ≡ 1

-- The text of a view of a scenario, and its status. `check` and `print` execute no event. A run shows the states after
-- all events of the schedule, and a document view the documents after the first of them, without the blocks.
abbrev pub Shows : View → Scenario → List ℕ → ℕ → Type 0
Shows Check s out status = (out ≡ counts_text s) × (status ≡ 0)
Shows Print s out status = (out ≡ canon s) × (status ≡ 0)
Shows (Run trace) s out status = ShowsRun trace Dumps s.schedule s out status
Shows (Document events) s out status = ShowsRun false Documents (take events s.schedule) s out status
Shows (Journal trace effects) s out status = Journaled (record { rules = trace; effects = effects }) s out status

abbrev pub RanOn : View → Result Scenario ScenarioFault → List ℕ → ℕ → Type 0
RanOn view (Ok s) out status = Shows view s out status
RanOn view (Err fault) out status = IsRefused fault out status

-- a view of these bytes has this text and this status
abbrev pub Ran : View → List ℕ → List ℕ → ℕ → Type 0
Ran view bytes out status = (read : Result Scenario ScenarioFault) × ReadsAs bytes read × RanOn view read out status
