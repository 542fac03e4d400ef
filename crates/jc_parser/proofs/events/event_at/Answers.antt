use Rattle.std.proofs.Common.{List, drop, sym, subst, ◌∙◌, arith}
use Rattle.std.proofs.lemmas.List.{length-drop}
use Rattle.jc_syntax.specs.declared.token.Token.{Token}
use Rattle.jc_grammar.specs.Symbols.{lexemes}
use Rattle.jc_parser.specs.Sentences.{IsAhead}
use Rattle.jc_parser.specs.ReaderState.{reading_of}
use Rattle.jc_parser.specs.Events.{IsEvent, IsNoEventAhead, IsEventFaultAt}
use Rattle.jc_parser.proofs.SentencesLemmas.{memory_is}
use Rattle.jc_parser.proofs.PrefixLemmas.{rest_of}
use Rattle.jc_parser.proofs.AmongTokensLemmas.{left_within, event_at_front}
use Rattle.jc_parser.proofs.events.event_at.Goals as goal

pub returns-in-Ok-clause-tree : goal.returns-in-Ok-clause-tree
returns-in-Ok-clause-tree c =
    event_at_front c.args.version c.args.text.now c.args.tokens.now c.args.from c.in-Ok.event c.in-Ok.left c.requires.within
    (subst (λ (ts : List Token). IsAhead (IsEvent c.args.version) (lexemes c.args.text.now ts) c.in-Ok.event c.in-Ok.left) (rest_of c.args.tokens.now c.args.from) c.in-Ok.ensures.tree)

pub returns-in-Err-clause-fault : goal.returns-in-Err-clause-fault
returns-in-Err-clause-fault c = λ kept.
    subst (IsEventFaultAt c.args.version c.args.text.now c.args.tokens.now c.args.from) (sym c.of_sentence.ensures)
    (subst (λ (ts : List Token). IsNoEventAhead c.args.version (reading_of c.args.text.now ts) c.in-Err.fault) (rest_of c.args.tokens.now c.args.from) (c.in-Err.ensures.fault (λ is. kept (memory_is c.of_sentence.result (c.of_sentence.ensures ∙ is)))))

pub overflow_sub-result : goal.overflow_sub-result
overflow_sub-result c =
    let less = left_within c.args.text.now (drop c.args.from c.args.tokens.now) c.in-Ok.event c.in-Ok.left
    (subst (λ (ts : List Token). IsAhead (IsEvent c.args.version) (lexemes c.args.text.now ts) c.in-Ok.event c.in-Ok.left) (rest_of c.args.tokens.now c.args.from) c.in-Ok.ensures.tree) in
    let rest = length-drop c.args.from c.args.tokens.now in
    omega (arith, less, rest)
