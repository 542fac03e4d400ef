use Rattle.jc_rules.proofs.RefusedLemmas.{one_stuck}
use Rattle.jc_rules.proofs.laws.one_stuck.Goals as goal

pub returns : goal.returns
returns c = one_stuck
