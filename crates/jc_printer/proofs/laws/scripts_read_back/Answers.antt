use Rattle.jc_grammar.specs.Symbols.{lexemes}
use Rattle.jc_printer.specs.Canon.{canon_script}
use Rattle.jc_printer.proofs.PrintedSymbolsLemmas.{printed_text}
use Rattle.jc_printer.proofs.CanonTreesLemmas.{script_printed}
use Rattle.jc_printer.proofs.WrittenTreesLemmas.{sentence_of, script_clean}
use Rattle.jc_printer.proofs.laws.scripts_read_back.Goals as goal

pub returns : goal.returns
returns c script formed legal short =
    let own = script_printed script legal formed.each in
    let text = printed_text own.text (canon_script script) own.printed short in
    record { tokens = text.tokens; lexed = text.lexed; sentence = sentence_of (script_clean script (lexemes (canon_script script) text.tokens) formed (rw text.spell own.spelled)) }
