use Rattle.jc_parser.proofs.SentencesLemmas.{one_or_fault}
use Rattle.jc_parser.proofs.GrammarScenariosLemmas.{exactly}
use Rattle.jc_parser.proofs.laws.named_tree_else_fault.Goals as goal

pub returns : goal.returns
returns c = λ r. one_or_fault (exactly r)
