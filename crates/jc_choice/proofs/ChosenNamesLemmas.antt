-- About specs/Chosen: what a replica chooses names replicas of the network.
use Rattle.std.proofs.Common.{rules, ◌≡◌, ℕ, ◌+◌, ◌<◌, List, [], ◌∷◌, Option, Some, None, Bool, true, false, cond, nat_lt, Contains, refl, subst, length, slice_get}
use Rattle.std.proofs.lemmas.Option.{same_Some, slice_get_within}
use Rattle.jc_rules.specs.declared.id.Id.{Id}
use Rattle.jc_rules.specs.declared.operation.Op.{Op}
use Rattle.jc_rules.specs.declared.operation.Event.{Event}
use Rattle.jc_rules.specs.declared.operation.Event.TheVariants as E
use Rattle.jc_rules.specs.State.{State}
use Rattle.jc_rules.specs.Syntax.{Cmd}
use Rattle.jc_printer.specs.Canon.{AreNamed}
use Rattle.jc_network.specs.RunInvariant.{IsWell}
use Rattle.jc_network.proofs.MembersLemmas.{first_in, later_in}
use Rattle.jc_choice.specs.declared.phase.Phase.{Phase}
use Rattle.jc_choice.specs.declared.phase.Phase.TheVariants as P
use Rattle.jc_choice.specs.Chosen.{choice, chosen_in, chosen_by, at_yield, apply_or_end, first_ready, is_ready, is_yield, past_own, event_in}

abbrev IsNamedId : ℕ → Option Id → Type 0
IsNamedId n None = Unit {0}
IsNamedId n (Some i) = i.replica < n

abbrev pub IsNamedChoice : ℕ → Option (Event × Phase) → Type 0
IsNamedChoice n None = Unit {0}
IsNamedChoice n (Some c) = AreNamed c.0 n

pub below : (a b : ℕ) → nat_lt a b ≡ true → a < b
below a b h = search (rules, h)

module _ (n p : ℕ) (low : p < n) where
  first_named : (ops : List Id) (os : List Op) → ((o : Op) → Contains os o → o.id.replica < n) → IsNamedId n (first_ready ops os)
  first_named ops [] known = tt
  first_named ops (o ∷ os) known = go (is_ready ops o) refl (first_named ops os (λ x k. known x (later_in x o os k)))
    where
      go : (b : Bool) → is_ready ops o ≡ b → IsNamedId n (first_ready ops os) → IsNamedId n (first_ready ops (o ∷ os))
      go true e rest = rw e (known o (first_in o os))
      go false e rest = rw e rest

  apply_named : (o : Option Id) → IsNamedId n o → AreNamed (apply_or_end p o).0 n
  apply_named None named = low
  apply_named (Some i) named = (low, named)

  module _ (A : State) (known : (o : Op) → Contains A.recv o → o.id.replica < n) where
    ready_named : AreNamed (apply_or_end p (first_ready A.ops A.recv)).0 n
    ready_named = apply_named (first_ready A.ops A.recv) (first_named A.ops A.recv known)

    yield_named : (phase : Phase) → AreNamed (at_yield n p A phase).0 n
    yield_named P.Start = low
    yield_named P.Applying = ready_named
    yield_named (P.Receiving q) = go (nat_lt (past_own p q) n) refl
      where
        go : (b : Bool) → nat_lt (past_own p q) n ≡ b → AreNamed (cond b (E.Recv p (past_own p q), P.Receiving (past_own p q + 1)) (apply_or_end p (first_ready A.ops A.recv))).0 n
        go true e = (low, below (past_own p q) n e)
        go false e = ready_named

    command_named : (phase : Phase) (b : Bool) → AreNamed (cond b (at_yield n p A phase) (E.Exec p, P.Start)).0 n
    command_named phase true = yield_named phase
    command_named phase false = low

    by_named : (phase : Phase) (left : List Cmd) → IsNamedChoice n (chosen_by n p A phase left)
    by_named phase [] = tt
    by_named phase (c ∷ rest) = command_named phase (is_yield c)

pub chosen_named : (N : List State) (p : ℕ) (phase : Phase) → IsWell N → p < length N → IsNamedChoice (length N) (choice N p phase)
chosen_named N p phase w low = go (slice_get N p) refl
  where
    known : (A : State) → slice_get N p ≡ Some A → (o : Op) → Contains A.recv o → o.id.replica < length N
    known A there o k = let m = w.sets.received p A o there k in slice_get_within N o.id.replica m.at m.there

    go : (o : Option State) → slice_get N p ≡ o → IsNamedChoice (length N) (chosen_in (length N) p phase o)
    go None is = tt
    go (Some A) is = by_named (length N) p low A (known A is) phase A.left

-- an event that was chosen so
pub event_named : (n : ℕ) (o : Option (Event × Phase)) (e : Event) → IsNamedChoice n o → event_in o ≡ Some e → AreNamed e n
event_named n None e named is = cc
event_named n (Some c) e named is = subst (λ x. AreNamed x n) (same_Some c.0 e is) named
