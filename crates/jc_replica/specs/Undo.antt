-- What undo records are for: what a replica held before its steps, computed from them.
use Rattle.std.specs.Prelude.{ℕ, ◌-◌, List, [], ◌∷◌, Bool, true, not, length, take, drop, filter, slice_get, Option, box_value}
use Rattle.std.specs.Global.{Box}
use Rattle.std.specs.Option.{option_map}
use Rattle.jc_rules.specs.declared.id.Id.{Id}
use Rattle.jc_rules.specs.declared.operation.Op.{Op}
use Rattle.jc_rules.specs.Order.{name_cmp}
use Rattle.jc_rules.specs.Context.{Context}
use Rattle.jc_rules.specs.VersionVectors.{truncated}
use Rattle.jc_rules.specs.Ids.{has_id}
use Rattle.jc_rules.specs.ContextsAt.{or_empty}
use Rattle.jc_rules.specs.State.{State, Bound}
use Rattle.jc_rules.specs.Syntax.{Cmd}
use Rattle.jc_rules.specs.History.{timeline}
use Rattle.jc_tree.specs.Tree.{Tree}
use Rattle.jc_tree.specs.Undo.{restored}
use Rattle.jc_cursor.specs.declared.bound.Bound.{Bound as BoundInMemory}
use Rattle.jc_cursor.specs.Bounds.{bound_of}
use Rattle.jc_replica.specs.declared.record.Change.{Change}
use Rattle.jc_replica.specs.declared.record.Change.TheVariants as C
use Rattle.jc_replica.specs.declared.record.Record.{Record}
use Rattle.jc_replica.specs.ReplicaHistory.{ReplicaHistory}

-- What a replica holds beside its script and its document: the number of commands that have ended, whether a yield
-- event was made, the variables, the identifiers applied, the operations made and how many of them are offered, and
-- those received.
pub record Held : Type 0 where
  pub done : ℕ
  pub acted : Bool
  pub vars : List (List ℕ × Bound)
  pub ops : List Id
  pub queue : List Op
  pub sent : ℕ
  pub recv : List Op

abbrev pub held_of : ℕ → Bool → List (List ℕ × Bound) → List Id → List Op → ℕ → List Op → Held
held_of done acted vars ops queue sent recv =
    record { done = done; acted = acted; vars = vars; ops = ops; queue = queue; sent = sent; recv = recv }

abbrev pub state_of : List Cmd → Held → Context → State
state_of script h c = record {
  left = drop h.done script;
  acted = h.acted;
  vars = h.vars;
  tree = c;
  ops = h.ops;
  queue = h.queue;
  send = take h.sent h.queue;
  recv = h.recv;
}

-- what a variable was bound to, as an undo record has it
abbrev pub was_bound : Option (Box BoundInMemory) → Option Bound
was_bound before = option_map (λ b. bound_of (box_value b)) before

-- with what the variable was bound to, or without it where it wasn't bound
abbrev pub unbound : List ℕ → Option Bound → List (List ℕ × Bound) → List (List ℕ × Bound)
unbound x before vars = restored name_cmp x before vars

-- the list without the operations that have these identifiers
abbrev pub without_ops : List Id → List Op → List Op
without_ops ids os = filter (λ o. not (has_id o.id ids)) os

-- what was held before the change
abbrev pub undone_once : Change → Held → Held
undone_once (C.Bound name before) h =
    record h { done = h.done - 1; vars = unbound name (was_bound before) h.vars }
undone_once (C.Made i before) h =
    record h { done = h.done - 1; ops = truncated i.replica before h.ops; queue = take (length h.queue - 1) h.queue }
undone_once (C.Sent sent acted) h = record h { acted = acted; sent = sent }
undone_once (C.Received came acted) h = record h { acted = acted; recv = without_ops came.items h.recv }
undone_once (C.Applied i before acted) h = record h { acted = acted; ops = truncated i.replica before h.ops }
undone_once C.Ended h = record h { done = h.done - 1; acted = true }

-- what was held before all these steps, of which the last was the latest
abbrev pub steps_undone : List Record → Held → Held
steps_undone [] h = h
steps_undone (r ∷ rs) h = undone_once r.change (steps_undone rs h)

-- the content at a mark of the store
abbrev pub content_at : List Context → ℕ → Context
content_at contents n = or_empty (slice_get contents n)

-- the states before each of these steps, the oldest first
abbrev pub states : List Cmd → List Context → List Record → Held → List State
states script contents [] h = []
states script contents (r ∷ rs) h =
    state_of script (steps_undone (r ∷ rs) h) (content_at contents r.mark.changes) ∷ states script contents rs h

abbrev pub replica_history_of : ℕ → List Cmd → Tree → List Record → Held → ReplicaHistory
replica_history_of number script t steps h =
    record {
      number = number;
      history = record { now = state_of script h t.now; earlier = states script (timeline t) steps h };
    }
