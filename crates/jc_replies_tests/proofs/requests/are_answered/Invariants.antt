use Rattle.std.proofs.Common.{length}
use Rattle.std.specs.List.{All}
use Rattle.jc_printer.specs.Canon.{AreNamed}
use Rattle.jc_session.specs.AnswerOf.{AllNamed}
use Rattle.jc_replies_tests.proofs.requests.are_answered.Given as goal

-- all that the schedule and the given events name has a name
abbrev pub invariant-loop-row : goal.invariant-loop-row
invariant-loop-row g l = record {
  all : AllNamed l.debugger;
  given : All (λ e. AreNamed e (length l.debugger.net.names)) l.given;
}
