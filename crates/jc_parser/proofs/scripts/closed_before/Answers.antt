use Rattle.std.proofs.Common.{List, length, map, sym, subst, ◌<◌}
use Rattle.std.proofs.lemmas.Result.{err_from_is_err_and}
use Rattle.jc_rules.specs.Syntax.{Cmd}
use Rattle.jc_syntax.specs.Trees.{cmd_of}
use Rattle.jc_grammar.specs.Symbols.{lexemes}
use Rattle.jc_parser.specs.ReaderState.{Reading}
use Rattle.jc_parser.specs.Sentences.{IsAhead}
use Rattle.jc_parser.specs.Scripts.{IsClosedScript, IsNoScriptAhead}
use Rattle.jc_parser.proofs.PrefixLemmas.{ahead_ok, ahead_err, ahead_kind}
use Rattle.jc_parser.proofs.AmongTokensLemmas.{fewer_tokens}
use Rattle.jc_parser.proofs.GrammarScriptsLemmas.{ahead}
use Rattle.jc_parser.proofs.scripts.closed_before.Goals as goal

pub returns-in_err-script-clause-fault : goal.returns-in_err-script-clause-fault
returns-in_err-script-clause-fault c =
    let p = err_from_is_err_and c.from_residual.result c.from_residual.ensures.1 in
    rw (p.1, p.2) (λ kept. subst (λ (r : Reading). IsNoScriptAhead r c.in_err-script.field-0.0) c.new-cursor.ensures (ahead_err ahead c.new-cursor.result c.in_err-script.field-0.0 (c.in_err-script.ensures kept)))

pub returns-in_err-script-clause-kind : goal.returns-in_err-script-clause-kind
returns-in_err-script-clause-kind c =
    let p = err_from_is_err_and c.from_residual.result c.from_residual.ensures.1 in
    rw (p.1, p.2) (ahead_kind ahead c.new-cursor.result c.in_err-script.field-0.0 c.in_err-script.ensures)

pub returns-clause-tree : goal.returns-clause-tree
returns-clause-tree c =
    let script : List Cmd = map cmd_of c.in_ok-script.script.items in
    subst (IsAhead IsClosedScript (lexemes c.args.text.now c.args.tokens.now) script) (sym c.left.ensures)
    (subst (λ (r : Reading). IsAhead IsClosedScript r.left script (length c.closed_script.new.cursor.left)) c.new-cursor.ensures (ahead_ok ahead c.new-cursor.result c.closed_script.new.cursor script c.in_ok-script.ensures))

pub returns-clause-fewer : goal.returns-clause-fewer
returns-clause-fewer c =
    let script : List Cmd = map cmd_of c.in_ok-script.script.items in
    subst (λ n. n < length c.args.tokens.now) (sym c.left.ensures)
    (fewer_tokens c.args.text.now c.args.tokens.now script (length c.closed_script.new.cursor.left)
    (subst (λ (r : Reading). IsAhead IsClosedScript r.left script (length c.closed_script.new.cursor.left)) c.new-cursor.ensures (ahead_ok ahead c.new-cursor.result c.closed_script.new.cursor script c.in_ok-script.ensures)))
