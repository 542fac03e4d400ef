use Rattle.jc_parser.proofs.LegalScenariosLemmas.{events_at_legal}
use Rattle.jc_parser.proofs.laws.legal_events_at.Goals as goal

pub returns : goal.returns
returns c = events_at_legal c.legal_strings.ensures
