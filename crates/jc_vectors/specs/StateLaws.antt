-- The statements of the laws of stored states.
use Rattle.std.specs.Prelude.{◌≡◌, ℕ, List, ◌∷◌, true, false, Some, None, Contains, map}
use Rattle.jc_rules.specs.declared.id.Id.{Id}
use Rattle.jc_rules.specs.declared.operation.Cursor.{Cursor}
use Rattle.jc_rules.specs.declared.operation.Event.{Event}
use Rattle.jc_rules.specs.declared.operation.Mutation.{Mutation}
use Rattle.jc_rules.specs.declared.operation.Op.{Op}
use Rattle.jc_rules.specs.Context.{Context}
use Rattle.jc_rules.specs.Derivation.{Occur, Operate, ToContext, ToState}
use Rattle.jc_rules.specs.Derives.{Derives}
use Rattle.jc_rules.specs.Ids.{has_id, AreIn}
use Rattle.jc_rules.specs.Sound.{IsSound}
use Rattle.jc_rules.specs.State.{State}
use Rattle.jc_rules.specs.Table.{op_of, both}
use Rattle.jc_rules.specs.Trace.{Rows}
use Rattle.jc_vectors.specs.StoredStates.{stored_op, AreOf, RepresentsState, HasOwn, IsUnknown, new_op, after_making, after_taking, after_making_stored, after_taking_stored}

-- A stored state represents one state at most.
abbrev pub OneState : Type 0
OneState = (set : List Op) (A B kept : State) → RepresentsState set A kept → RepresentsState set B kept → A ≡ B

-- A stored state represents the same state where a new operation makes the set larger.
abbrev pub StateStays : Type 0
StateStays =
    (set : List Op) (o : Op) (A kept : State)
    → RepresentsState set A kept → op_of o.id set ≡ None → IsSound (o ∷ set)
    → RepresentsState (o ∷ set) A kept

-- A stored state represents the same state where an operation leaves the set that it doesn't know and on which none
-- depends.
abbrev pub StateShrinks : Type 0
StateShrinks =
    (set : List Op) (o : Op) (A kept : State)
    → RepresentsState (o ∷ set) A kept → op_of o.id set ≡ None
    → ((e : Op) → Contains set e → has_id o.id e.deps ≡ false) → IsUnknown o.id A
    → RepresentsState set A kept

-- A state knows no identifier that no operation of the set has, and no operation of the set depends on it.
abbrev pub NewIsUnknown : Type 0
NewIsUnknown =
    (set : List Op) (A kept : State) (i : Id)
    → RepresentsState set A kept → op_of i set ≡ None
    → IsUnknown i A × ((e : Op) → Contains set e → has_id i e.deps ≡ false)

-- What applying a received operation asks of a stored state and does to it, the rule asks of what it represents and
-- does to that.
abbrev pub ApplyStands : Type 0
ApplyStands =
    (set : List Op) (A kept : State) (i : Id) (k : Op) (t : Context) (r u : Rows)
    → RepresentsState set A kept
    → op_of i kept.recv ≡ Some k → has_id i kept.ops ≡ false → AreIn k.deps kept.ops
    → Derives (Operate kept.tree k) (ToContext t) r u
    → (o : Op)
    × (op_of i A.recv ≡ Some o)
    × (has_id i A.ops ≡ false)
    × AreIn o.deps A.ops
    × Derives (Operate A.tree o) (ToContext t) r u
    × RepresentsState set (after_taking i t A) (after_taking_stored i t kept)

-- The same of an operation that the replica p makes, which has applied all of the set that is its own: its
-- identifier is new, and the set with it is sound.
abbrev pub MakeStands : Type 0
MakeStands =
    (set : List Op) (A kept : State) (p : ℕ) (cur : Cursor) (m : Mutation) (t : Context) (r u : Rows)
    → RepresentsState set A kept → HasOwn set p A
    → Derives (Operate kept.tree (new_op p kept.ops cur m)) (ToContext t) r u
    → (op_of (new_op p A.ops cur m).id set ≡ None)
    × Derives (Operate A.tree (new_op p A.ops cur m)) (ToContext t) r u
    × RepresentsState
    (new_op p A.ops cur m ∷ set)
    (after_making (new_op p A.ops cur m) t A)
    (after_making_stored (new_op p kept.ops cur m) t kept)
    × HasOwn (new_op p A.ops cur m ∷ set) p (after_making (new_op p A.ops cur m) t A)

-- Uniting stored operations is uniting what they represent: sending and receiving.
abbrev pub UnionStands : Type 0
UnionStands =
    (set os ps : List Op) → AreOf set os → AreOf set ps
    → (both (map stored_op os) (map stored_op ps) ≡ map stored_op (both os ps)) × AreOf set (both os ps)

-- That a replica has applied all of the set that is its own is left so by each event of the table, by an operation
-- that comes into the set and is another one's or applied, and by one that leaves the set.
pub record OwnAreApplied : Type 0 where
  pub by_events : (set os : List Op) (p : ℕ) (A B : State) (event : Event) (t u : Rows)
      → HasOwn set p A → Derives (Occur A event os) (ToState B) t u → HasOwn set p B
  pub with_more : (set : List Op) (o : Op) (p : ℕ) (A : State)
      → HasOwn set p A → (o.id.replica ≡ p → has_id o.id A.ops ≡ true) → HasOwn (o ∷ set) p A
  pub with_less : (set : List Op) (o : Op) (p : ℕ) (A : State) → HasOwn (o ∷ set) p A → HasOwn set p A
