use Rattle.jc_parser.proofs.SentencesLemmas.{one_of}
use Rattle.jc_parser.proofs.GrammarScenariosLemmas.{exactly}
use Rattle.jc_parser.proofs.laws.one_named_tree.Goals as goal

pub returns : goal.returns
returns c = λ r. one_of (exactly r)
