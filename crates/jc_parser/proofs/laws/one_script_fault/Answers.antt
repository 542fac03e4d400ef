use Rattle.jc_parser.specs.Scripts.{IsScript, IsNoScript}
use Rattle.jc_parser.specs.ScriptReader.{only_script_at}
use Rattle.jc_parser.proofs.GrammarScriptsLemmas.{exactly}
use Rattle.jc_parser.proofs.TextLawsLemmas.{one_fault_of_text}
use Rattle.jc_parser.proofs.laws.one_script_fault.Goals as goal

pub returns : goal.returns
returns c = one_fault_of_text IsScript IsNoScript only_script_at exactly c.one_list_of_tokens.ensures c.one_fault.ensures c.tokens_or_fault.ensures
