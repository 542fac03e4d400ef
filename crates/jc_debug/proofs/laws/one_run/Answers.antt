use Rattle.jc_debug.proofs.LawsLemmas as unique
use Rattle.jc_debug.proofs.laws.one_run.Goals as goal

pub returns : goal.returns
returns c = unique.one_run
