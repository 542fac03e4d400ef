use Rattle.jc_parser.proofs.AmongTokensLemmas as own
use Rattle.jc_parser.proofs.laws.event_or_fault_at.Goals as goal

pub returns : goal.returns
returns c = own.event_or_fault_at
