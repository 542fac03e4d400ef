-- The line of an event that was made, by the states of its replica before and after it, and what it tells of the event's
-- effects. The contracts of `event_line` and `event_effects` cite it. The list of names has the name of each replica at
-- its number.
use Rattle.std.specs.Prelude.{◌≡◌, ℕ, List, [], ◌∷◌, ◌++◌, codes, decimal, filter, Bool, true, false, Option, Some, None, slice_get}
use Rattle.json.specs.Json.{boolean, number, string, array, Items, no_items, item}
use Rattle.json.specs.Print.{print}
use Rattle.json.specs.Tree.{json_tokens}
use Rattle.jc_rules.specs.declared.id.Id.{Id}
use Rattle.jc_rules.specs.declared.operation.Event.{Event}
use Rattle.jc_rules.specs.declared.operation.Event.TheVariants as E
use Rattle.jc_rules.specs.declared.operation.Op.{Op}
use Rattle.jc_rules.specs.declared.rule.Rule.{Rule}
use Rattle.jc_rules.specs.Context.{Context}
use Rattle.jc_rules.specs.History.{History}
use Rattle.jc_rules.specs.Ids.{without}
use Rattle.jc_rules.specs.ReplicaNames.{name_at}
use Rattle.jc_rules.specs.RuleNames.{rule_name}
use Rattle.jc_rules.specs.State.{State}
use Rattle.jc_rules.specs.Step.{Network, replica_of}
use Rattle.jc_rules.specs.Syntax.{Cmd}
use Rattle.jc_rules.specs.Table.{op_of}
use Rattle.jc_printer.specs.Canon.{canon_cmd, canon_event}
use Rattle.jc_replica.specs.Operations.{identifiers}
use Rattle.jc_replica.specs.Received.{is_new}
use Rattle.jc_effects.specs.Difference.{Differences, IsDifference}
use Rattle.jc_effects.specs.EffectsJson.{effects_json}
use Rattle.jc_json.specs.Values.{ids_json}
use Rattle.jc_journal.specs.Operation.{NamedJson, json_object, op_json}

-- the network is the one before the last step of the history
pub record IsBeforeLast (network : Network) (h : History Network) : Type 0 where
  pub before : List Network
  pub earlier : h.earlier ≡ before ++ network ∷ []

-- ---- what every event has

abbrev pub event_kind : Event → List ℕ
event_kind (E.Exec p) = codes "exec"
event_kind (E.Send p) = codes "send"
event_kind (E.Recv p q) = codes "recv"
event_kind (E.Take p q i) = codes "take"
event_kind (E.Apply p i) = codes "apply"
event_kind (E.Done p) = codes "done"

-- that it is one of the given events
abbrev pub given_member : Bool → List NamedJson
given_member true = (codes "given", boolean true) ∷ []
given_member false = []

abbrev pub event_member : List (List ℕ) → Event → NamedJson
event_member names event = (codes "event", string (canon_event names event))

abbrev pub kind_member : Event → NamedJson
kind_member event = (codes "kind", string (event_kind event))

-- its number, from 1
abbrev pub number_member : ℕ → NamedJson
number_member n = (codes "number", number (decimal n))

abbrev pub replica_member : List (List ℕ) → Event → NamedJson
replica_member names event = (codes "replica", string (name_at names (replica_of event)))

-- ---- what it did

-- the canonical text of the command that comes next
abbrev pub command_text : List Cmd → List ℕ
command_text [] = []
command_text (c ∷ rest) = canon_cmd c

-- the command that ran
abbrev pub command_member : Event → State → List NamedJson
command_member (E.Exec p) A = (codes "command", string (command_text A.left)) ∷ []
command_member event A = []

-- the replica from which it received
abbrev pub sender_member : List (List ℕ) → Event → List NamedJson
sender_member names (E.Recv p q) = (codes "from", string (name_at names q)) ∷ []
sender_member names (E.Take p q i) = (codes "from", string (name_at names q)) ∷ []
sender_member names event = []

-- the identifiers that came to what is offered or to what was received: those after the event and not before it
abbrev pub new_ids : Event → State → State → Option (List Id)
new_ids (E.Send p) A B = Some (without (identifiers B.send) (identifiers A.send))
new_ids (E.Recv p q) A B = Some (without (identifiers B.recv) (identifiers A.recv))
new_ids (E.Take p q i) A B = Some (without (identifiers B.recv) (identifiers A.recv))
new_ids event A B = None

abbrev pub new_member : List (List ℕ) → Option (List Id) → List NamedJson
new_member names None = []
new_member names (Some ids) = (codes "new", ids_json names ids) ∷ []

-- The operation that was made, which is in the queue after the event and not before it; or the received one that was
-- applied.
abbrev pub event_op : Event → State → State → Option Op
event_op (E.Exec p) A B = slice_get (filter (is_new A.queue) B.queue) 0
event_op (E.Apply p i) A B = op_of i A.recv
event_op event A B = None

abbrev pub op_member : List (List ℕ) → Option Op → List NamedJson
op_member names None = []
op_member names (Some o) = (codes "op", op_json names o) ∷ []

-- What is told of the effects of an event, where they are asked for: where it has an operation, the difference of its
-- replica's trees before and after it. Where it has none, nothing is told, and the tree stayed as it was.
abbrev pub AreEffectsOf : Option Op → Context → Context → Option Differences → Type 0
AreEffectsOf None c d told = (told ≡ None) × (d ≡ c)
AreEffectsOf (Some o) c d told = (x : Differences) × (told ≡ Some x) × IsDifference c d x

abbrev pub AreEffects : Bool → Event → State → State → Option Differences → Type 0
AreEffects false event A B told = told ≡ None
AreEffects true event A B told = AreEffectsOf (event_op event A B) A.tree B.tree told

abbrev pub effects_member : List (List ℕ) → Option Differences → List NamedJson
effects_member names None = []
effects_member names (Some x) = (codes "effects", effects_json names x) ∷ []

-- the rules of the event, each with its depth before it, where they are asked for
abbrev pub rule_items : List (Rule × ℕ) → Items
rule_items [] = no_items
rule_items (row ∷ rows) =
    item (array (item (number (decimal row.1)) (item (string (rule_name row.0)) no_items))) (rule_items rows)

abbrev pub rules_member : Option (List (Rule × ℕ)) → List NamedJson
rules_member None = []
rules_member (Some rows) = (codes "rules", array (rule_items rows)) ∷ []

-- ---- the line

-- the members of a line, with those of the command, of the identifiers and of the operation
abbrev pub line_members : List (List ℕ) → Bool → ℕ → Event → Option (List (Rule × ℕ)) → Option Differences
    → List NamedJson → List NamedJson → List NamedJson → List NamedJson
line_members names given n event rules effects command new made =
    command ++ effects_member names effects ++ (event_member names event ∷ []) ++ sender_member names event
    ++ given_member given ++ (kind_member event ∷ []) ++ new ++ (number_member n ∷ []) ++ made
    ++ (replica_member names event ∷ []) ++ rules_member rules

abbrev pub event_members : List (List ℕ) → Bool → ℕ → Event → Option (List (Rule × ℕ)) → Option Differences → State → State
    → List NamedJson
event_members names given n event rules effects A B =
    line_members names given n event rules effects
    (command_member event A) (new_member names (new_ids event A B)) (op_member names (event_op event A B))

-- the line of an object with these members
abbrev pub members_line : List NamedJson → List ℕ
members_line es = print (json_tokens (json_object es)) ++ 10 ∷ []

-- The line of the event with this number, which led its replica from state A to state B, with these rules and effects.
abbrev pub event_line : List (List ℕ) → Bool → ℕ → Event → Option (List (Rule × ℕ)) → Option Differences → State → State
    → List ℕ
event_line names given n event rules effects A B = members_line (event_members names given n event rules effects A B)
