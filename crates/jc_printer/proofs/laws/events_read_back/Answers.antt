use Rattle.std.proofs.Common.{sym}
use Rattle.jc_grammar.specs.Symbols.{lexemes}
use Rattle.jc_parser.specs.GrammarTrees.{event_of_tree}
use Rattle.jc_printer.specs.Canon.{canon_event}
use Rattle.jc_printer.proofs.CanonEventsLemmas.{event_printed}
use Rattle.jc_printer.proofs.PrintedSymbolsLemmas.{printed_text}
use Rattle.jc_printer.proofs.WrittenTreesLemmas.{sentence_as}
use Rattle.jc_printer.proofs.WrittenEventsLemmas.{event_clean}
use Rattle.jc_printer.proofs.laws.events_read_back.Goals as goal

pub returns : goal.returns
returns c v names event legal within small allowed short =
    let own = event_printed names event legal within small in
    let text = printed_text own.text (canon_event names event) own.printed short in
    let read = event_clean v names event (lexemes (canon_event names event) text.tokens) small allowed (rw text.spell own.spelled) in
    (event_of_tree v read.tree, record { tokens = text.tokens; lexed = text.lexed; sentence = sentence_as (event_of_tree v) read }, sym read.is)
