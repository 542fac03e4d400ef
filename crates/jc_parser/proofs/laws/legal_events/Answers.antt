use Rattle.jc_parser.proofs.LegalScenariosLemmas.{events_legal}
use Rattle.jc_parser.proofs.laws.legal_events.Goals as goal

pub returns : goal.returns
returns c = events_legal c.legal_strings.ensures
