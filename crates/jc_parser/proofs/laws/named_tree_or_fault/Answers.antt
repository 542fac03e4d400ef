use Rattle.jc_parser.proofs.SentencesLemmas.{none_beside}
use Rattle.jc_parser.proofs.GrammarScenariosLemmas.{exactly}
use Rattle.jc_parser.proofs.laws.named_tree_or_fault.Goals as goal

pub returns : goal.returns
returns c = λ r. none_beside (exactly r)
