use Rattle.std.proofs.Common.{drop}
use Rattle.jc_json.proofs.GainsLemmas.{Wrote}
use Rattle.jc_journal.specs.Operation.{counter_members}
use Rattle.jc_journal.specs.Parts.{member_tokens}
use Rattle.jc_journal.proofs.operation.write_counters.Given as goal

-- the counters of the replicas below p are written
abbrev pub invariant-loop-p : goal.invariant-loop-p
invariant-loop-p l =
    Wrote l.initial.out l.out (member_tokens (counter_members l.p (drop l.p l.names) l.ids)) (member_tokens (counter_members 0 l.names l.ids))
