-- What the private functions write, from the last step of a network.
use Rattle.std.specs.Prelude.{◌≡◌, ◌&&◌, not, ℕ, List, [], ◌∷◌, ◌++◌, codes, cond, decimal, Bool, Option, Some, None}
use Rattle.std.specs.Borrow.{Bor}
use Rattle.std.specs.Option.{option_map}
use Rattle.json.specs.Json.{number, string}
use Rattle.json.specs.Token.{Token}
use Rattle.json.specs.Token as T
use Rattle.json.specs.Tree.{json_tokens}
use Rattle.jc_rules.specs.declared.id.Id.{Id}
use Rattle.jc_rules.specs.declared.operation.Event.{Event}
use Rattle.jc_rules.specs.declared.operation.Op.{Op}
use Rattle.jc_rules.specs.declared.rule.Rule.{Rule}
use Rattle.jc_rules.specs.declared.run.Run.{Run}
use Rattle.jc_rules.specs.Ids.{AreRising, has_id}
use Rattle.jc_rules.specs.Refusals.{refusal_name}
use Rattle.jc_rules.specs.ReplicaNames.{name_at}
use Rattle.jc_rules.specs.RuleNames.{rule_name}
use Rattle.jc_rules.specs.Runs.{rows_of_all}
use Rattle.jc_rules.specs.State.{State}
use Rattle.jc_syntax.specs.Trees.{cmd_of}
use Rattle.jc_printer.specs.Canon.{canon_cmd}
use Rattle.jc_replica.specs.declared.last_step.LastStep.{LastStep}
use Rattle.jc_replica.specs.declared.last_step.LastStep.TheVariants as L
use Rattle.jc_replica.specs.Operations.{identifiers}
use Rattle.jc_network.specs.declared.fault.Stuck.{Stuck}
use Rattle.jc_effects.specs.declared.effects.Effects.{Effects}
use Rattle.jc_effects.specs.Difference.{Differences}
use Rattle.jc_effects.specs.Parts.{differences_of}
use Rattle.jc_journal.specs.Operation.{NamedJson}
use Rattle.jc_journal.specs.EventLine.{given_member, event_member, kind_member, number_member, replica_member, line_members, new_member, op_member}
use Rattle.jc_journal.specs.StuckLine.{key_member, wanted_id, offered_member, missing_member}

-- ---- events that were made

-- the tokens of members, without the end of their object
abbrev pub member_tokens : List NamedJson → List Token
member_tokens [] = []
member_tokens (e ∷ es) = T.key e.0 ∷ (json_tokens e.1 ++ member_tokens es)

-- the tokens of a rule of a trace: its depth, then its name
abbrev pub row_tokens : (Rule × ℕ) → List Token
row_tokens row = T.begin_array ∷ T.number (decimal row.1) ∷ T.string (rule_name row.0) ∷ T.end_array ∷ []

-- the rows of a trace, where they are told
abbrev pub rows_of : Option (Bor (List Run)) → Option (List (Rule × ℕ))
rows_of rules = option_map (λ runs. rows_of_all runs.now) rules

-- what differs, where it is known
abbrev pub differences_in : Option Effects → Option Differences
differences_in effects = option_map differences_of effects

abbrev pub differences_at : Option (Bor Effects) → Option Differences
differences_at effects = option_map (λ e. differences_of e.now) effects

-- the command that ran
abbrev pub step_command : Option LastStep → List NamedJson
step_command (Some (L.Bound c)) = (codes "command", string (canon_cmd (cmd_of c.now))) ∷ []
step_command (Some (L.Made c o)) = (codes "command", string (canon_cmd (cmd_of c.now))) ∷ []
step_command step = []

-- the identifiers that came to what is offered or received
abbrev pub step_new : Option LastStep → Option (List Id)
step_new (Some (L.Sent os)) = Some (identifiers os.now)
step_new (Some (L.Received ids)) = Some ids.now
step_new step = None

-- the operation that was made or applied
abbrev pub step_op : Option LastStep → Option Op
step_op (Some (L.Made c o)) = Some o.now
step_op (Some (L.Applied o)) = Some o.now
step_op step = None

abbrev pub step_members : List (List ℕ) → Bool → ℕ → Event → Option (List (Rule × ℕ)) → Option Differences
    → Option LastStep → List NamedJson
step_members names given n event rules effects step =
    line_members names given n event rules effects
    (step_command step) (new_member names (step_new step)) (op_member names (step_op step))

-- ---- stuck events

-- the token of a replica's name, if it offers the operation
abbrev pub name_tokens : List (List ℕ) → ℕ → Id → State → List Token
name_tokens names p i A = cond (has_id i (identifiers A.send)) (T.string (name_at names p) ∷ []) []

-- the identifiers of all operations that were made
abbrev pub made_ids : List State → List Id
made_ids [] = []
made_ids (A ∷ network) = identifiers A.queue ++ made_ids network

-- the identifiers of those that were made and are in the one set and not in the other
pub record IsMissingOf (network : List State) (deps applied ids : List Id) : Type 0 where
  pub rises : AreRising ids
  pub each : (k : Id) → has_id k ids ≡ has_id k (made_ids network) && (has_id k deps && not (has_id k applied))

-- the members of a stuck event's line, from the fault
abbrev pub told_members : List (List ℕ) → Bool → ℕ → List State → Stuck → List NamedJson
told_members names given n network s =
    ((codes "cause", string (refusal_name s.refusal)) ∷ event_member names s.event ∷ [])
    ++ given_member given ++ key_member names s.key ++ (kind_member s.event ∷ [])
    ++ missing_member names s.number s.event network ++ (number_member n ∷ [])
    ++ offered_member names s.number (wanted_id s.event) network
    ++ replica_member names s.event
    ∷ (codes "stuck", number (decimal s.number))
    ∷ []
