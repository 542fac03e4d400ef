use Rattle.jc_parser.proofs.AmongTokensLemmas as own
use Rattle.jc_parser.proofs.laws.event_else_fault_at.Goals as goal

pub returns : goal.returns
returns c = own.event_else_fault_at
