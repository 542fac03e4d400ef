use Rattle.jc_rules.proofs.FiftyRulesLemmas.{fifty_stand}
use Rattle.jc_rules.proofs.laws.fifty_rules_stand.Goals as goal

pub returns : goal.returns
returns c = fifty_stand
