use Rattle.std.proofs.Common.{sym, subst, ◌∙◌}
use Rattle.jc_parser.specs.Scripts.{IsScriptFault}
use Rattle.jc_parser.proofs.SentencesLemmas.{memory_is}
use Rattle.jc_parser.proofs.scripts.parse_script.Goals as goal

pub returns-in-Err-clause-fault : goal.returns-in-Err-clause-fault
returns-in-Err-clause-fault c = λ kept. subst (IsScriptFault c.args.text.now) (sym c.of_sentence.ensures) (c.in-Err.ensures.fault (λ is. kept (memory_is c.of_sentence.result (c.of_sentence.ensures ∙ is))))
