use Rattle.jc_grammar.proofs.TreeReaderLemmas.{decides_all}
use Rattle.jc_grammar.proofs.FaultsLemmas.{refused_so, fault_refused}
use Rattle.jc_grammar.proofs.laws.refuses.Goals as goal

pub returns : goal.returns
returns c = λ g d misfit s ls e. ((λ r. refused_so (decides_all g d misfit s) ls e r), (λ f. fault_refused (decides_all g d misfit s) ls e f))
