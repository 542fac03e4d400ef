use Rattle.jc_grammar.proofs.ScenarioGrammarLemmas.{scenarios_decided}
use Rattle.jc_grammar.proofs.laws.scenarios_decided.Goals as goal

pub returns : goal.returns
returns c = scenarios_decided
