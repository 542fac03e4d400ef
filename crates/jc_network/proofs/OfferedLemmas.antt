-- Lemmas about RunInvariant: the counters of what is offered.
use Rattle.std.proofs.Common.{ℕ, ◌+◌, ◌*◌, ◌≤◌, List, [], ◌∷◌, Contains, map, length, sym, ap, subst, arith}
use Rattle.std.specs.List.{AllByRecursion}
use Rattle.jc_rules.specs.declared.operation.Op.{Op}
use Rattle.jc_rules.specs.declared.limits.TheConstants.{MAX_COMMANDS}
use Rattle.jc_rules.specs.State.{State}
use Rattle.jc_rules.specs.Syntax.{Cmd}
use Rattle.jc_vectors.specs.StoredStates.{stored_op}
use Rattle.jc_replica.specs.Operations.{IsHanded, AreHanded}
use Rattle.jc_network.specs.Laws.{starts, IsReached}
use Rattle.jc_network.specs.RunInvariant.{IsReplicaAt, commands_left}
use Rattle.jc_network.specs.Refines.{AreSeen, AreShort}
use Rattle.jc_network.proofs.CountersLemmas.{start_counted, after_counted}
use Rattle.jc_network.proofs.MembersLemmas.{first_in, later_in}
use Rattle.jc_network.proofs.RunInvariantStartLemmas.{start_well, after_well}

handed_kept : (os : List Op) → ((o : Op) → Contains os o → IsHanded o) → AreHanded (map stored_op os)
handed_kept [] f = tt
handed_kept (o ∷ os) f = (f o (first_in o os), handed_kept os (λ x c. f x (later_in x o os c)))

-- the commands of all scripts
pub left_bound : (scripts : List (List Cmd)) → AllByRecursion (λ s. length s ≤ MAX_COMMANDS) scripts → commands_left (starts scripts) ≤ length scripts * MAX_COMMANDS
left_bound [] h = omega arith
left_bound (s ∷ scripts) h =
    let first : length s ≤ 65536 = h.0 in
    let rest : commands_left (starts scripts) ≤ length scripts * 65536 = left_bound scripts h.1 in
    omega (arith, first, rest)

pub offered_handed : (scripts : List (List Cmd)) (network : List State) → IsReached scripts network → AreShort scripts → (set : List Op) (kept : List State) → AreSeen set network kept → (q : ℕ) (K : State) → IsReplicaAt kept q K → AreHanded K.send
offered_handed scripts network r short set kept seen q K e =
    let x = seen.each q K e in
    let well = after_well (starts scripts) r.0 network (start_well scripts) r.1 in
    let total = commands_left (starts scripts) in
    let counted = after_counted total (starts scripts) r.0 network (start_well scripts) (start_counted scripts) r.1 in
    let all : AreHanded (map stored_op x.at.send) = handed_kept x.at.send (λ o c. handed o (well.sets.sound.counted o (well.sets.sent q x.at o x.there c).1) (counted.counters o (well.sets.sent q x.at o x.there c).1)) in
    subst AreHanded (sym (ap (λ (S : State). S.send) x.seen.stands.is)) all
  where
    handed : (o : Op) → 1 ≤ o.id.counter → o.id.counter + commands_left network ≤ commands_left (starts scripts) → IsHanded o
    handed o a b =
        let many = short.many in
        let bound = left_bound scripts short.each in
        (a, omega (arith, b, many, bound))
