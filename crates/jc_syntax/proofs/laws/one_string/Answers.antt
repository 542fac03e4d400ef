use Rattle.jc_syntax.proofs.StringsPiecesLemmas as pieces
use Rattle.jc_syntax.proofs.laws.one_string.Goals as goal

pub returns : goal.returns
returns c = pieces.one_string
