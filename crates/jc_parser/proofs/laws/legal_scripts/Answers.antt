use Rattle.jc_parser.proofs.LegalScenariosLemmas.{scripts_legal}
use Rattle.jc_parser.proofs.laws.legal_scripts.Goals as goal

pub returns : goal.returns
returns c = scripts_legal c.legal_strings.ensures
