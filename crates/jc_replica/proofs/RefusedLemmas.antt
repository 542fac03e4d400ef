-- Lemmas about refusals: a premise's refusal is the refusal of its question.
use Rattle.std.proofs.Common.{◌≡◌, List, Option, Some, None, IfSome, IfErr, IsErrAnd, Result, Ok, Err, sym, subst}
use Rattle.jc_rules.specs.declared.operation.Event.{Event}
use Rattle.jc_rules.specs.declared.operation.Op.{Op}
use Rattle.jc_rules.specs.Refused.{Cause}
use Rattle.jc_rules.specs.Trace.{Rows}
use Rattle.jc_replica.specs.declared.fault.ReplicaFault.{ReplicaFault}
use Rattle.jc_replica.specs.Answers.{AnswersEvent, fault_cause_of, RefusedFor, IsEventRefused}
use Rattle.jc_replica.specs.ReplicaHistory.{ReplicaHistory}

-- for the same cause
pub for_cause : (event : Event) (read : List Op) (old : ReplicaHistory) (fault : ReplicaFault) (cause : Option Cause) (P : Cause → Type 0) → fault_cause_of fault ≡ cause → ((why : Cause) → P why → RefusedFor event read old why) → IfSome cause P → IsEventRefused event read old fault
for_cause event read old fault cause P e f h = subst (λ (x : Option Cause). IfSome x (λ why. RefusedFor event read old why)) (sym e) (go cause h)
  where
    go : (x : Option Cause) → IfSome x P → IfSome x (λ why. RefusedFor event read old why)
    go None h = tt
    go (Some why) h = f why h

pub handed_up : {X : Type 0} (event : Event) (read : List Op) (old : ReplicaHistory) (r : Result X ReplicaFault) (cause : Option Cause) (P : Cause → Type 0) → IsErrAnd r (λ fault. fault_cause_of fault ≡ cause) → ((why : Cause) → P why → RefusedFor event read old why) → IfSome cause P → IfErr r (λ fault. IsEventRefused event read old fault)
handed_up event read old (Ok x) cause P e f h = tt
handed_up event read old (Err fault) cause P e f h = for_cause event read old fault cause P e f h

-- a refused call that left all as it was
pub refused_call : (event : Event) (read : List Op) (old new : ReplicaHistory) (r : Result Rows ReplicaFault) (fault : ReplicaFault) → IsErrAnd r (λ f. f ≡ fault) → new ≡ old → IsEventRefused event read old fault → AnswersEvent event read old new r
refused_call event read old new (Ok rows) fault e ne h = absurd e
refused_call event read old new (Err f) fault e ne h = (ne, subst (λ (x : ReplicaFault). IsEventRefused event read old x) (sym e) h)
