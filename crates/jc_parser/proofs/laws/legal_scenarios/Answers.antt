use Rattle.jc_parser.proofs.LegalScenariosLemmas.{scenarios_legal}
use Rattle.jc_parser.proofs.laws.legal_scenarios.Goals as goal

pub returns : goal.returns
returns c = scenarios_legal c.legal_strings.ensures
