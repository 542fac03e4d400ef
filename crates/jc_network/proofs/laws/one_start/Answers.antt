use Rattle.jc_rules.proofs.VersionLemmas.{one_after_in}
use Rattle.jc_network.specs.Given.{before_given}
use Rattle.jc_network.proofs.laws.one_start.Goals as goal

pub returns : goal.returns
returns c = λ s network other start again. one_after_in (before_given s) s.given network other start again
