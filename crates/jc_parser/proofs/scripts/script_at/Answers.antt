use Rattle.std.proofs.Common.{List, map, sym, subst, ◌∙◌}
use Rattle.jc_rules.specs.Syntax.{Cmd}
use Rattle.jc_syntax.specs.Trees.{cmd_of}
use Rattle.jc_syntax.specs.declared.token.Token.{Token}
use Rattle.jc_grammar.specs.Symbols.{lexemes}
use Rattle.jc_parser.specs.Sentences.{IsAhead}
use Rattle.jc_parser.specs.ReaderState.{reading_of}
use Rattle.jc_parser.specs.Scripts.{IsClosedScript, IsNoScriptAhead, IsScriptFaultAt}
use Rattle.jc_parser.proofs.SentencesLemmas.{memory_is}
use Rattle.jc_parser.proofs.PrefixLemmas.{rest_of}
use Rattle.jc_parser.proofs.AmongTokensLemmas.{script_at_front}
use Rattle.jc_parser.proofs.scripts.script_at.Goals as goal

pub returns-in-Ok-clause-tree : goal.returns-in-Ok-clause-tree
returns-in-Ok-clause-tree c =
    let script : List Cmd = map cmd_of c.in-Ok.script.items in
    script_at_front c.args.text.now c.args.tokens.now c.args.from script c.in-Ok.left c.requires.within
    (subst (λ (ts : List Token). IsAhead IsClosedScript (lexemes c.args.text.now ts) script c.in-Ok.left) (rest_of c.args.tokens.now c.args.from) c.in-Ok.ensures.tree)

pub returns-in-Err-clause-fault : goal.returns-in-Err-clause-fault
returns-in-Err-clause-fault c = λ kept.
    subst (IsScriptFaultAt c.args.text.now c.args.tokens.now c.args.from) (sym c.of_sentence.ensures)
    (subst (λ (ts : List Token). IsNoScriptAhead (reading_of c.args.text.now ts) c.in-Err.fault) (rest_of c.args.tokens.now c.args.from) (c.in-Err.ensures.fault (λ is. kept (memory_is c.of_sentence.result (c.of_sentence.ensures ∙ is)))))
