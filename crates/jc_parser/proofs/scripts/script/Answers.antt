use Rattle.std.proofs.Common.{rules, ◌-◌, [], ◌∷◌, map, Err, Ok, sym, ap, ◌∙◌}
use Rattle.std.proofs.lemmas.Result.{err_from_is_err_and}
use Rattle.std.proofs.lemmas.List.{map-append}
use Rattle.jc_syntax.specs.Trees.{cmd_of}
use Rattle.jc_syntax.specs.declared.token.TokenKind.TheVariants.{Name, Semi}
use Rattle.jc_parser.specs.ReaderState.{has_kind}
use Rattle.jc_parser.specs.ScriptReader.{too_many_commands_at, command_at, commands_at}
use Rattle.jc_parser.proofs.LoopsLemmas.{with_front, items_done, items_full, items_fail, items_last, items_next}
use Rattle.jc_parser.proofs.scripts.script.Goals as goal

pub returns-then-left-eq0 : goal.returns-then-left-eq0
returns-then-left-eq0 c _ =
    c.commands.invariant ∙ items_full (has_kind Name) command_at too_many_commands_at c.commands.left c.commands.cursor (map cmd_of c.commands.script.items) c.if-left-eq0.true (sym c.begins.ensures ∙ c.commands-test.true) ∙ ap Err (sym c.crowd.ensures)

pub returns-in_err-command : goal.returns-in_err-command
returns-in_err-command c =
    let p = err_from_is_err_and c.from_residual.result c.from_residual.ensures.1 in
    rw (p.1, p.2) (λ kept. c.commands.invariant ∙ items_fail (has_kind Name) command_at too_many_commands_at c.commands.left c.commands.cursor (map cmd_of c.commands.script.items) c.in_err-command.field-0.0 c.if-left-eq0.false (sym c.begins.ensures ∙ c.commands-test.true) (c.in_err-command.ensures kept))

pub returns-then-not-begins : goal.returns-then-not-begins
returns-then-not-begins c =
    c.commands.invariant
    ∙ items_last (has_kind Name) command_at too_many_commands_at c.commands.left c.commands.cursor c.command.new.cursor (cmd_of c.in_ok-command.command) (map cmd_of c.commands.script.items) c.if-left-eq0.false (sym c.begins.ensures ∙ c.commands-test.true) c.in_ok-command.ensures (sym c.begins-in-commands.ensures ∙ c.if-not-begins.true)
    ∙ ap (λ l. Ok (l, c.command.new.cursor)) (sym (ap (λ l. map cmd_of l) c.in_ok-push.ensures.items ∙ map-append cmd_of c.commands.script.items (c.in_ok-command.command ∷ [])))

pub commands-preserved : goal.commands-preserved
commands-preserved c =
    c.commands.invariant
    ∙ items_next (has_kind Name) command_at too_many_commands_at c.commands.left c.commands.cursor c.command.new.cursor c.advance.new.self (cmd_of c.in_ok-command.command) (map cmd_of c.commands.script.items) c.if-left-eq0.false (sym c.begins.ensures ∙ c.commands-test.true) c.in_ok-command.ensures (sym c.begins-in-commands.ensures ∙ c.if-not-begins.false) (c.advance.ensures (has_kind Semi) (sym c.begins-in-commands.ensures ∙ c.if-not-begins.false))
    ∙ ap (λ l. with_front l (commands_at (c.commands.left - 1) c.advance.new.self)) (sym (ap (λ l. map cmd_of l) c.in_ok-push.ensures.items ∙ map-append cmd_of c.commands.script.items (c.in_ok-command.command ∷ [])))

pub returns : goal.returns
returns c = c.commands.invariant ∙ items_done (has_kind Name) command_at too_many_commands_at c.commands.left c.commands.cursor (map cmd_of c.commands.script.items) (sym c.begins.ensures ∙ c.commands-test.false)

pub commands-init : goal.commands-init
commands-init c = search rules
