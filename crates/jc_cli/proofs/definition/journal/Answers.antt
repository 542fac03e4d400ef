use Rattle.std.proofs.Common.{rules, ap, ap₂, ◌||◌, codes, ◌≡◌, ◌∙◌}
use Rattle.std.proofs.lemmas.Result.{IfOk-weaker}
use Rattle.clap.specs.Words.{app_of, new_app, with_rule}
use Rattle.clap.specs.Simple.{app_of_fields}
use Rattle.jc_cli.specs.Program.{IsLocal}
use Rattle.jc_cli.proofs.definition.journal.Goals as goal

pub returns-clause-shape : goal.returns-clause-shape
returns-clause-shape c =
    let command_is : app_of c.after_help.result ≡ new_app (codes "journal") = ap app_of_fields c.after_help.ensures ∙ ap app_of_fields c.about.ensures ∙ c.new.ensures.app in
    let first = c.in_ok-arg.ensures.shape c.journal_trace.ensures.local ∙ ap₂ with_rule command_is c.journal_trace.ensures.rule in
    let second = c.in_ok-arg-2.ensures.shape c.journal_effects.ensures.local ∙ ap₂ with_rule first c.journal_effects.ensures.rule in
    IfOk-weaker c.arg-3.result _ _ (λ m h. h.shape c.file.ensures.local ∙ ap₂ with_rule second c.file.ensures.rule) c.arg-3.ensures

pub returns-clause-local : goal.returns-clause-local
returns-clause-local c =
    let command : IsLocal c.after_help.result = search rules in
    let first = c.in_ok-arg.ensures.globals ∙ ap₂ (λ a b. a || b) command c.journal_trace.ensures.local in
    let second = c.in_ok-arg-2.ensures.globals ∙ ap₂ (λ a b. a || b) first c.journal_effects.ensures.local in
    IfOk-weaker c.arg-3.result _ _ (λ m h. h.globals ∙ ap₂ (λ a b. a || b) second c.file.ensures.local) c.arg-3.ensures
