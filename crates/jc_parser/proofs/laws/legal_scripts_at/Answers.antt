use Rattle.jc_parser.proofs.LegalScenariosLemmas.{scripts_at_legal}
use Rattle.jc_parser.proofs.laws.legal_scripts_at.Goals as goal

pub returns : goal.returns
returns c = scripts_at_legal c.legal_strings.ensures
