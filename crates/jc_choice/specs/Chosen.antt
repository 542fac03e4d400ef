-- The rule by which a replica chooses its next event, and its phase after it: the contract of `choose`.
use Rattle.std.specs.Prelude.{ℕ, ◌+◌, List, [], ◌∷◌, Bool, true, false, not, ◌&&◌, cond, nat_eq, nat_lt, length, slice_get, find, Option, Some, None}
use Rattle.std.specs.List.{list_all}
use Rattle.jc_rules.specs.declared.id.Id.{Id}
use Rattle.jc_rules.specs.declared.operation.Op.{Op}
use Rattle.jc_rules.specs.declared.operation.Event.{Event}
use Rattle.jc_rules.specs.declared.operation.Event.TheVariants as E
use Rattle.jc_rules.specs.Ids.{has_id}
use Rattle.jc_rules.specs.State.{State}
use Rattle.jc_rules.specs.Syntax.{Cmd, LetIn, SetTo, InsertAfter, DeleteAt, Yield}
use Rattle.jc_choice.specs.declared.phase.Phase.{Phase}
use Rattle.jc_choice.specs.declared.phase.Phase.TheVariants as P
use Rattle.jc_choice.specs.Phases.{phase_after}

-- the operation isn't applied, and its dependencies are
abbrev pub is_ready : List Id → Op → Bool
is_ready ops o = not (has_id o.id ops) && list_all (λ i. has_id i ops) o.deps

abbrev pub id_in : Option Op → Option Id
id_in None = None
id_in (Some o) = Some o.id

-- the first operation that is ready; in a list sorted by identifier it is the least
abbrev pub first_ready : List Id → List Op → Option Id
first_ready ops os = id_in (find (is_ready ops) os)

abbrev pub apply_or_end : ℕ → Option Id → Event × Phase
apply_or_end p (Some i) = (E.Apply p i, P.Applying)
apply_or_end p None = (E.Done p, P.Start)

-- a replica doesn't receive from itself
abbrev pub past_own : ℕ → ℕ → ℕ
past_own p q = cond (nat_eq q p) (q + 1) q

-- What replica p of n does at a yield: it sends, receives from each other replica, applies what is ready, and ends. It
-- never takes a single operation.
abbrev pub at_yield : ℕ → ℕ → State → Phase → Event × Phase
at_yield n p A P.Start = (E.Send p, P.Receiving 0)
at_yield n p A (P.Receiving q) =
    cond (nat_lt (past_own p q) n)
    (E.Recv p (past_own p q), P.Receiving (past_own p q + 1))
    (apply_or_end p (first_ready A.ops A.recv))
at_yield n p A P.Applying = apply_or_end p (first_ready A.ops A.recv)

abbrev pub is_yield : Cmd → Bool
is_yield Yield = true
is_yield (LetIn x e) = false
is_yield (SetTo e v) = false
is_yield (InsertAfter e v) = false
is_yield (DeleteAt e) = false

-- the event of replica p of n, by the commands that are left, and the phase after it
abbrev pub chosen_by : ℕ → ℕ → State → Phase → List Cmd → Option (Event × Phase)
chosen_by n p A phase [] = None
chosen_by n p A phase (c ∷ rest) = Some (cond (is_yield c) (at_yield n p A phase) (E.Exec p, P.Start))

abbrev pub chosen_in : ℕ → ℕ → Phase → Option State → Option (Event × Phase)
chosen_in n p phase None = None
chosen_in n p phase (Some A) = chosen_by n p A phase A.left

-- the event of replica p in the network, and the phase after it
abbrev pub choice : List State → ℕ → Phase → Option (Event × Phase)
choice network p phase = chosen_in (length network) p phase (slice_get network p)

abbrev pub event_in : Option (Event × Phase) → Option Event
event_in None = None
event_in (Some (e, phase)) = Some e

-- the event that replica p chooses after its last own event
abbrev pub chosen : List State → ℕ → Option Event → Option Event
chosen network p last = event_in (choice network p (phase_after last))
