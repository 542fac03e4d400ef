use Rattle.jc_rules.proofs.RefusalsLemmas.{names_differ}
use Rattle.jc_rules.proofs.laws.names_differ.Goals as goal

pub returns : goal.returns
returns c = names_differ
