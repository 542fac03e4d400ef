use Rattle.std.proofs.Common.{subst}
use Rattle.jc_parser.specs.ReaderState.{Reading, reading_of, MapsResult}
use Rattle.jc_parser.specs.ScenarioReader.{tree_at}
use Rattle.jc_parser.specs.ScenarioViews.{tree_view}
use Rattle.jc_parser.proofs.SentencesLemmas.{tree_so, fault_so}
use Rattle.jc_parser.proofs.GrammarScenariosLemmas.{exactly}
use Rattle.jc_parser.proofs.scenarios.scenario_of.Goals as goal

pub returns-clause-tree : goal.returns-clause-tree
returns-clause-tree c = tree_so (exactly (reading_of c.args.text.now c.args.tokens.now)) tree_view c.whole.result (subst (λ (r : Reading). MapsResult tree_view c.whole.result (tree_at r)) c.new-cursor.ensures c.whole.ensures)

pub returns-clause-fault : goal.returns-clause-fault
returns-clause-fault c = fault_so (exactly (reading_of c.args.text.now c.args.tokens.now)) tree_view c.whole.result (subst (λ (r : Reading). MapsResult tree_view c.whole.result (tree_at r)) c.new-cursor.ensures c.whole.ensures)
