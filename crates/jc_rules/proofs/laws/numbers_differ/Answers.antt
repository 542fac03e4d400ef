use Rattle.jc_rules.proofs.RefusalsLemmas.{numbers_differ}
use Rattle.jc_rules.proofs.laws.numbers_differ.Goals as goal

pub returns : goal.returns
returns c = numbers_differ
