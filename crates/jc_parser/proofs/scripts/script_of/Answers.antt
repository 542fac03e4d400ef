use Rattle.std.proofs.Common.{map, subst}
use Rattle.jc_syntax.specs.Trees.{cmd_of}
use Rattle.jc_parser.specs.ReaderState.{Reading, reading_of, MapsResult}
use Rattle.jc_parser.specs.ScriptReader.{only_script_at}
use Rattle.jc_parser.proofs.SentencesLemmas.{tree_so, fault_so}
use Rattle.jc_parser.proofs.GrammarScriptsLemmas.{exactly, script_kind}
use Rattle.jc_parser.proofs.scripts.script_of.Goals as goal

pub returns-clause-tree : goal.returns-clause-tree
returns-clause-tree c = tree_so (exactly (reading_of c.args.text.now c.args.tokens.now)) (λ s. map cmd_of s.items) c.only_script.result (subst (λ (r : Reading). MapsResult (λ s. map cmd_of s.items) c.only_script.result (only_script_at r)) c.new-cursor.ensures c.only_script.ensures)

pub returns-clause-fault : goal.returns-clause-fault
returns-clause-fault c = fault_so (exactly (reading_of c.args.text.now c.args.tokens.now)) (λ s. map cmd_of s.items) c.only_script.result (subst (λ (r : Reading). MapsResult (λ s. map cmd_of s.items) c.only_script.result (only_script_at r)) c.new-cursor.ensures c.only_script.ensures)

pub returns-clause-kind : goal.returns-clause-kind
returns-clause-kind c = script_kind (reading_of c.args.text.now c.args.tokens.now) (λ s. map cmd_of s.items) c.only_script.result (subst (λ (r : Reading). MapsResult (λ s. map cmd_of s.items) c.only_script.result (only_script_at r)) c.new-cursor.ensures c.only_script.ensures)
