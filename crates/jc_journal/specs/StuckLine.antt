-- The line of an event that is stuck in a network. The contract of `stuck_line` cites it. The list of names has the
-- name of each replica at its number.
use Rattle.std.specs.Prelude.{ℕ, suc, List, [], ◌∷◌, ◌++◌, ◌==◌, codes, decimal, cond, Bool, Option, Some, None, slice_get}
use Rattle.json.specs.Json.{number, string}
use Rattle.jc_rules.specs.declared.id.Id.{Id}
use Rattle.jc_rules.specs.declared.key.Tagged.{Tagged}
use Rattle.jc_rules.specs.declared.operation.Event.{Event}
use Rattle.jc_rules.specs.declared.operation.Event.TheVariants as E
use Rattle.jc_rules.specs.declared.operation.Op.{Op}
use Rattle.jc_rules.specs.declared.refusal.Refusal.TheVariants as F
use Rattle.jc_rules.specs.Ids.{has_id, without}
use Rattle.jc_rules.specs.Refusals.{refusal_number, refusal_name}
use Rattle.jc_rules.specs.Refused.{Cause, refusal_of}
use Rattle.jc_rules.specs.ReplicaNames.{name_at}
use Rattle.jc_rules.specs.State.{State}
use Rattle.jc_rules.specs.Table.{op_of}
use Rattle.jc_json.specs.Json.{tagged_text}
use Rattle.jc_replica.specs.Operations.{identifiers}
use Rattle.jc_network.specs.Steps.{key_of_event}
use Rattle.jc_json.specs.Values.{ids_json, strings_json}
use Rattle.jc_journal.specs.Operation.{NamedJson}
use Rattle.jc_journal.specs.EventLine.{members_line, given_member, event_member, kind_member, number_member, replica_member}

-- the tagged key of the node that isn't there, which 25 has
abbrev pub key_member : List (List ℕ) → Option Tagged → List NamedJson
key_member names None = []
key_member names (Some k) = (codes "key", string (tagged_text names k)) ∷ []

-- the operation that the event receives or applies
abbrev pub wanted_id : Event → Option Id
wanted_id (E.Take p q i) = Some i
wanted_id (E.Apply p i) = Some i
wanted_id event = None

-- the names of the replicas that offer the operation with the identifier; the first replica has the number p
abbrev pub offering_from : ℕ → List (List ℕ) → Id → List State → List (List ℕ)
offering_from p names i [] = []
offering_from p names i (A ∷ network) =
    cond (has_id i (identifiers A.send))
    (name_at names p ∷ offering_from (suc p) names i network)
    (offering_from (suc p) names i network)

-- the replicas that offer the operation, for the refusal that it isn't received
abbrev pub offered_member : List (List ℕ) → ℕ → Option Id → List State → List NamedJson
offered_member names refusal None network = []
offered_member names refusal (Some i) network =
    cond (refusal == refusal_number F.NotReceived)
    ((codes "offered", strings_json (offering_from 0 names i network)) ∷ [])
    []

abbrev pub deps_of : Option Op → List Id
deps_of None = []
deps_of (Some o) = o.deps

-- what the received operation depends on and the replica has not applied
abbrev pub missing_ids : Option State → Id → List Id
missing_ids None i = []
missing_ids (Some A) i = without (deps_of (op_of i A.recv)) A.ops

-- the identifiers that are missing, for the refusal that dependencies are
abbrev pub missing_member : List (List ℕ) → ℕ → Event → List State → List NamedJson
missing_member names refusal (E.Apply p i) network =
    cond (refusal == refusal_number F.DepsMissing)
    ((codes "missing", ids_json names (missing_ids (slice_get network p) i)) ∷ [])
    []
missing_member names refusal event network = []

abbrev pub stuck_members : List (List ℕ) → Bool → ℕ → List State → Cause → Event → List NamedJson
stuck_members names given n network why event =
    ((codes "cause", string (refusal_name (refusal_of why))) ∷ event_member names event ∷ [])
    ++ given_member given ++ key_member names (key_of_event why) ++ (kind_member event ∷ [])
    ++ missing_member names (refusal_number (refusal_of why)) event network ++ (number_member n ∷ [])
    ++ offered_member names (refusal_number (refusal_of why)) (wanted_id event) network
    ++ replica_member names event
    ∷ (codes "stuck", number (decimal (refusal_number (refusal_of why))))
    ∷ []

-- The line of the event with this number, which is stuck in the network for this cause.
abbrev pub stuck_event_line : List (List ℕ) → Bool → ℕ → List State → Cause → Event → List ℕ
stuck_event_line names given n network why event =
    members_line (stuck_members names given n network why event)
