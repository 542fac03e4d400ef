use Rattle.std.proofs.Common.{[], refl}
use Rattle.jc_grammar.specs.Symbols.{lexemes}
use Rattle.jc_printer.specs.Canon.{canon_expr}
use Rattle.jc_printer.proofs.PrintedSymbolsLemmas.{printed_text}
use Rattle.jc_printer.proofs.CanonTreesLemmas.{alone, expression_printed}
use Rattle.jc_printer.proofs.WrittenTreesLemmas.{sentence_of, expression_clean}
use Rattle.jc_printer.proofs.laws.expressions_read_back.Goals as goal

pub returns : goal.returns
returns c e formed legal short =
    let own = expression_printed e [] [] legal formed.parts refl refl in
    let text = printed_text own.text (canon_expr e) (alone own.text (canon_expr e) own.printed) short in
    record { tokens = text.tokens; lexed = text.lexed; sentence = sentence_of (expression_clean e (lexemes (canon_expr e) text.tokens) formed (rw text.spell own.spelled)) }
