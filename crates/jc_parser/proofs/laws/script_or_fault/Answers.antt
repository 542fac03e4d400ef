use Rattle.jc_parser.specs.Scripts.{IsScript, IsNoScript}
use Rattle.jc_parser.specs.ScriptReader.{only_script_at}
use Rattle.jc_parser.proofs.GrammarScriptsLemmas.{exactly}
use Rattle.jc_parser.proofs.TextLawsLemmas.{no_fault_of_text}
use Rattle.jc_parser.proofs.laws.script_or_fault.Goals as goal

pub returns : goal.returns
returns c = no_fault_of_text IsScript IsNoScript only_script_at exactly c.one_list_of_tokens.ensures c.tokens_or_fault.ensures
