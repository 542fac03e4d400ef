-- The lines of traces and of stuck events, for the contracts of lines.rt and of the crates above.
-- The list of names has the name of each replica at its number.
use Rattle.std.specs.Prelude.{◌≡◌, ℕ, List, [], ◌++◌, length, codes, decimal, flat_map}
use Rattle.jc_rules.specs.declared.operation.Event.{Event}
use Rattle.jc_rules.specs.declared.rule.Rule.{Rule}
use Rattle.jc_rules.specs.RuleNames.{rule_name}
use Rattle.jc_rules.specs.Refusals.{refusal_number, refusal_name}
use Rattle.jc_rules.specs.Refused.{Cause, because, no_node, refusal_of}
use Rattle.jc_printer.specs.Canon.{AreNamed, canon_event}
use Rattle.jc_network.specs.declared.fault.Stuck.{Stuck}
use Rattle.jc_network.specs.Steps.{stuck_for}
use Rattle.jc_json.specs.Json.{tagged_text}

-- a rule of a trace: its depth and its name
abbrev pub row_text : (Rule × ℕ) → List ℕ
row_text row = decimal row.1 ++ codes " " ++ rule_name row.0 ++ codes "\n"

abbrev pub trace_text : List (Rule × ℕ) → List ℕ
trace_text rows = flat_map row_text rows

-- the tagged key of a node that isn't there, and a blank
abbrev pub absent_text : List (List ℕ) → Cause → List ℕ
absent_text names (because refusal) = []
absent_text names (no_node k) = tagged_text names k ++ codes " "

-- the line of a stuck event
abbrev pub stuck_text : List (List ℕ) → Cause → Event → List ℕ
stuck_text names why event =
    codes "stuck " ++ decimal (refusal_number (refusal_of why)) ++ codes " "
    ++ refusal_name (refusal_of why) ++ codes " "
    ++ absent_text names why ++ canon_event names event ++ codes "\n"

-- an event that is stuck for a cause, and whose replicas have names
pub record IsNamedStuck (names : List (List ℕ)) (s : Stuck) : Type 0 where
  pub why : Cause
  pub event : Event
  pub is : s ≡ stuck_for why event
  pub named : AreNamed event (length names)
