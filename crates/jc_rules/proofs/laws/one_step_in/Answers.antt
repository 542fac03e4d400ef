use Rattle.jc_rules.proofs.VersionLemmas.{one_step_in}
use Rattle.jc_rules.proofs.laws.one_step_in.Goals as goal

pub returns : goal.returns
returns c = one_step_in
