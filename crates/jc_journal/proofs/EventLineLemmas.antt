-- About EventLine: the last step of a network gives the line of its event.
use Rattle.std.proofs.Common.{◌≡◌, ℕ, List, [], ◌∷◌, Bool, Option, Some, None, codes, refl, sym, ◌∙◌, ap}
use Rattle.std.specs.Option.{option_map}
use Rattle.std.proofs.lemmas.Option.{same_Some}
use Rattle.jc_rules.specs.declared.id.Id.{Id}
use Rattle.jc_rules.specs.declared.operation.Event.{Event}
use Rattle.jc_rules.specs.declared.operation.Op.{Op}
use Rattle.jc_rules.specs.declared.rule.Rule.{Rule}
use Rattle.jc_rules.specs.State.{State}
use Rattle.jc_rules.specs.Step.{Step, replica_of}
use Rattle.jc_vectors.specs.StoredStates.{stored_op, stored_state}
use Rattle.jc_replica.specs.declared.last_step.LastStep.{LastStep}
use Rattle.jc_replica.specs.ReplicaHistory.{ReplicaHistory}
use Rattle.jc_network.specs.Steps.{HasReplica}
use Rattle.jc_effects.specs.Difference.{Differences}
use Rattle.jc_journal.specs.Operation.{NamedJson}
use Rattle.jc_journal.specs.EventLine.{command_member, new_ids, new_member, event_op, op_member, line_members, members_line, event_line}
use Rattle.jc_journal.specs.Parts.{step_new, step_op, step_members}
use Rattle.jc_journal.proofs.LastStepPartsLemmas.{HasParts, now_after}
use Rattle.jc_journal.proofs.OperationLemmas.{op_kept}

-- the replica of a step has the stored state before it
pub kept_before : (event : Event) (old new : List State) (rows : List (Rule × ℕ)) (replica : ReplicaHistory) → (s : Step old event new rows) → HasReplica old (replica_of event) replica → replica.history.now ≡ stored_state s.before
kept_before event old new rows replica s has = has.kept ∙ ap stored_state (same_Some has.at s.before (sym has.there ∙ s.is_there))

-- and the one after it
pub kept_after : (event : Event) (old new : List State) (rows : List (Rule × ℕ)) (replica : ReplicaHistory) → (s : Step old event new rows) → HasReplica new (replica_of event) replica → replica.history.now ≡ stored_state s.after
kept_after event old new rows replica s has = has.kept ∙ ap stored_state (same_Some has.at s.after (sym has.there ∙ now_after old event new rows s))

op_is : (names : List (List ℕ)) (x : Option Op) → op_member names (option_map stored_op x) ≡ op_member names x
op_is names None = refl
op_is names (Some o) = ap (λ j. (codes "op", j) ∷ []) (op_kept names o)

-- The line of an event, from the parts that the last step gives.
pub line_of_step : (names : List (List ℕ)) (given : Bool) (n : ℕ) (event : Event) (rules : Option (List (Rule × ℕ))) (effects : Option Differences) (step : Option LastStep) (A B : State)
    → HasParts event A B step
    → members_line (step_members names given n event rules effects step) ≡ event_line names given n event rules effects A B
line_of_step names given n event rules effects step A B h =
    ap (λ (c : List NamedJson). members_line (line_members names given n event rules effects c (new_member names (step_new step)) (op_member names (step_op step)))) h.command
    ∙ ap (λ (is : Option (List Id)). members_line (line_members names given n event rules effects (command_member event A) (new_member names is) (op_member names (step_op step)))) h.new
    ∙ ap (λ (o : List NamedJson). members_line (line_members names given n event rules effects (command_member event A) (new_member names (new_ids event A B)) o))
    (ap (op_member names) h.op ∙ op_is names (event_op event A B))
