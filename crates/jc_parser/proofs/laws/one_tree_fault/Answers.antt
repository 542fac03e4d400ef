use Rattle.jc_parser.proofs.SentencesLemmas.{one_fault_of}
use Rattle.jc_parser.proofs.GrammarScenariosLemmas.{exactly}
use Rattle.jc_parser.proofs.laws.one_tree_fault.Goals as goal

pub returns : goal.returns
returns c = λ r. one_fault_of (exactly r)
