use Rattle.jc_parser.proofs.LegalScenariosLemmas.{expressions_legal}
use Rattle.jc_parser.proofs.laws.legal_expressions.Goals as goal

pub returns : goal.returns
returns c = expressions_legal c.legal_strings.ensures
