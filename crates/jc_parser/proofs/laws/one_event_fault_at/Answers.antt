use Rattle.jc_parser.proofs.AmongTokensLemmas as own
use Rattle.jc_parser.proofs.laws.one_event_fault_at.Goals as goal

pub returns : goal.returns
returns c = own.one_event_fault_at
