use Rattle.jc_parser.specs.Scripts.{IsScript, IsNoScript}
use Rattle.jc_parser.specs.ScriptReader.{only_script_at}
use Rattle.jc_parser.proofs.GrammarScriptsLemmas.{exactly}
use Rattle.jc_parser.proofs.TextLawsLemmas.{some_of_text}
use Rattle.jc_parser.proofs.laws.script_else_fault.Goals as goal

pub returns : goal.returns
returns c = some_of_text IsScript IsNoScript only_script_at exactly c.tokens_else_fault.ensures
