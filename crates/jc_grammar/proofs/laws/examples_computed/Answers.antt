use Rattle.jc_grammar.proofs.ExamplesLemmas.{sentences, scenarios}
use Rattle.jc_grammar.proofs.laws.examples_computed.Goals as goal

pub returns : goal.returns
returns c = (sentences, scenarios)
