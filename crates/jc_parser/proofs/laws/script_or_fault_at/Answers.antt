use Rattle.jc_parser.proofs.AmongTokensLemmas as own
use Rattle.jc_parser.proofs.laws.script_or_fault_at.Goals as goal

pub returns : goal.returns
returns c = own.script_or_fault_at
