use Rattle.std.proofs.Common.{arith}
use Rattle.jc_debug.specs.declared.breaks.Break.TheVariants as Kind
use Rattle.jc_debug.proofs.BreaksLemmas.{never_missing, none_set}
use Rattle.jc_debug.proofs.debugger.Debugger.break_replica.Goals as goal

pub returns-clause-missing : goal.returns-clause-missing
returns-clause-missing c = (
  λ e. absurd (never_missing c.args.self.now c.set.new.self (Kind.Replica c.args.p) c.set.result c.set.ensures e),
  λ le. absurd (omega (arith, le, c.replicas.ensures, c.if-replicas-p.false)),
)

pub returns-clause-kept : goal.returns-clause-kept
returns-clause-kept c = none_set c.args.self.now c.set.new.self (Kind.Replica c.args.p) c.set.result c.set.ensures
