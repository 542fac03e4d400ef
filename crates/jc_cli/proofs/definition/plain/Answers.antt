use Rattle.std.proofs.Common.{rules, ap, ap₂, ◌||◌, ◌≡◌, ◌∙◌}
use Rattle.std.proofs.lemmas.Result.{IfOk-weaker}
use Rattle.clap.specs.Words.{app_of, new_app, with_rule}
use Rattle.clap.specs.Simple.{app_of_fields}
use Rattle.jc_cli.specs.Program.{IsLocal}
use Rattle.jc_cli.proofs.definition.plain.Goals as goal

pub returns-clause-shape : goal.returns-clause-shape
returns-clause-shape c =
    let command_is : app_of c.after_help.result ≡ new_app c.args.name.now = ap app_of_fields c.after_help.ensures ∙ ap app_of_fields c.about.ensures ∙ c.new.ensures.app in
    IfOk-weaker c.arg.result _ _ (λ m h. h.shape (search rules) ∙ ap₂ with_rule command_is c.file.ensures.rule) c.arg.ensures

pub returns-clause-local : goal.returns-clause-local
returns-clause-local c =
    let command : IsLocal c.after_help.result = search rules in
    IfOk-weaker c.arg.result _ _ (λ m h. h.globals ∙ ap₂ (λ a b. a || b) command c.file.ensures.local) c.arg.ensures
