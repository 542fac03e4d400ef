use Rattle.jc_rules.proofs.VersionLemmas.{one_stuck_in}
use Rattle.jc_rules.proofs.laws.one_stuck_in.Goals as goal

pub returns : goal.returns
returns c = one_stuck_in
