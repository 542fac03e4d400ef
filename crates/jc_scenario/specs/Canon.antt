-- The canonical text of a scenario, which `print` writes. Each line ends with LF.
use Rattle.std.specs.Prelude.{ℕ, List, [], ◌++◌, codes, flat_map}
use Rattle.jc_rules.specs.declared.operation.Event.{Event}
use Rattle.jc_rules.specs.declared.version.Version.{Version}
use Rattle.jc_rules.specs.declared.version.Version.TheVariants.{One, Two}
use Rattle.jc_rules.specs.Syntax.{Cmd}
use Rattle.jc_parser.specs.Scenarios.{Part}
use Rattle.jc_printer.specs.Canon.{canon_cmd, canon_event}
use Rattle.jc_scenario.specs.WellFormed.{Scenario, parts_of}

-- a line inside a block: two blanks, the text and `;`
abbrev pub line_of : List ℕ → List ℕ
line_of text = codes "  " ++ text ++ codes ";\n"

abbrev pub canon_commands : List Cmd → List ℕ
canon_commands script = flat_map (λ c. line_of (canon_cmd c)) script

abbrev pub canon_part : Part → List ℕ
canon_part p = codes "replica " ++ p.name ++ codes " {\n" ++ canon_commands p.script ++ codes "}\n"

abbrev pub canon_events : List (List ℕ) → List Event → List ℕ
canon_events names events = flat_map (λ e. line_of (canon_event names e)) events

-- the first line
abbrev pub header_text : Version → List ℕ
header_text One = codes "jsoncrdt 1\n"
header_text Two = codes "jsoncrdt 2\n"

-- The given events, which version 2 alone has. Where it has none, their block is written too.
abbrev pub canon_given : Version → List (List ℕ) → List Event → List ℕ
canon_given One names events = []
canon_given Two names events = codes "given {\n" ++ canon_events names events ++ codes "}\n"

-- a schedule without events is written too
abbrev pub canon_schedule : List (List ℕ) → List Event → List ℕ
canon_schedule names events = codes "schedule {\n" ++ canon_events names events ++ codes "}\n"

abbrev pub canon : Scenario → List ℕ
canon s =
    header_text s.version ++ flat_map canon_part (parts_of s.names s.scripts) ++ canon_given s.version s.names s.given
    ++ canon_schedule s.names s.schedule

-- the text of version 1: the header, the replicas and the schedule
abbrev pub canon_one : Scenario → List ℕ
canon_one s =
    codes "jsoncrdt 1\n" ++ flat_map canon_part (parts_of s.names s.scripts) ++ canon_schedule s.names s.schedule
