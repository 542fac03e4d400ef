use Rattle.jc_grammar.proofs.TreeReaderLemmas.{decides_all}
use Rattle.jc_grammar.proofs.laws.accepts.Goals as goal

pub returns : goal.returns
returns c = λ g d misfit s ls t. ((λ e. (decides_all g d misfit s).ok ls t e), (λ l. (decides_all g d misfit s).again t _ ls l))
