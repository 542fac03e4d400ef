use Rattle.jc_rules.proofs.VersionLemmas.{one_after_in}
use Rattle.jc_rules.proofs.laws.one_after_in.Goals as goal

pub returns : goal.returns
returns c = one_after_in
