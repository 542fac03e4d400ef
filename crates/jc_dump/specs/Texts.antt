-- Trace blocks, the dump lines of a network, and the lines of refused texts: for texts.rt and jc_session.
use Rattle.std.specs.Prelude.{ℕ, suc, List, [], ◌∷◌, ◌++◌, codes, decimal}
use Rattle.jc_rules.specs.declared.operation.Event.{Event}
use Rattle.jc_rules.specs.declared.refusal.Refusal.{Refusal}
use Rattle.jc_rules.specs.declared.refusal.Refusal.TheVariants.{GivenStuck}
use Rattle.jc_rules.specs.declared.rule.Rule.{Rule}
use Rattle.jc_rules.specs.ReplicaNames.{name_at}
use Rattle.jc_rules.specs.Refusals.{refusal_number, refusal_name}
use Rattle.jc_rules.specs.Refused.{Cause}
use Rattle.jc_rules.specs.State.{State}
use Rattle.jc_printer.specs.Canon.{canon_event}
use Rattle.jc_dump.specs.Dump.{dump_line}
use Rattle.jc_dump.specs.Lines.{trace_text, stuck_text}

-- the block of an event by its number
abbrev pub block_text : List (List ℕ) → ℕ → Event → List (Rule × ℕ) → List ℕ
block_text names n event rows =
    codes "event " ++ decimal n ++ codes " " ++ canon_event names event ++ codes "\n" ++ trace_text rows

-- the line of a refused text
abbrev pub refused_text : Refusal → ℕ → List ℕ
refused_text refusal place =
    codes "refused " ++ decimal (refusal_number refusal) ++ codes " "
    ++ refusal_name refusal ++ codes " at " ++ decimal place
    ++ codes "\n"

-- the lines of the first given event that is stuck, with its number from 1
abbrev pub given_text : List (List ℕ) → ℕ → Cause → Event → List ℕ
given_text names at why event = refused_text GivenStuck at ++ stuck_text names why event

-- the dump lines of replicas, numbered from p on
abbrev pub dumps_from : ℕ → List (List ℕ) → List State → List ℕ
dumps_from p names [] = []
dumps_from p names (A ∷ network) = dump_line names (name_at names p) A ++ dumps_from (suc p) names network

-- the dump line of each replica, in the order of their names
abbrev pub dumps_text : List (List ℕ) → List State → List ℕ
dumps_text names network = dumps_from 0 names network
