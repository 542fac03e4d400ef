use Rattle.std.proofs.Common.{ap, ap₂, ◌∙◌}
use Rattle.std.proofs.lemmas.Result.{IfOk-weaker}
use Rattle.clap.specs.Words.{App, with_subcommand}
use Rattle.jc_cli.specs.Program.{program}
use Rattle.jc_cli.proofs.definition.definition.Goals as goal

pub returns : goal.returns
unfolding program
returns c =
    let one = c.in_ok-top-2.ensures.shape c.in_ok-check.ensures.local ∙ ap₂ with_subcommand c.in_ok-top.ensures (ap (λ (a : App). a.top) c.in_ok-check.ensures.shape) in
    let two = c.in_ok-top-3.ensures.shape c.in_ok-print.ensures.local ∙ ap₂ with_subcommand one (ap (λ (a : App). a.top) c.in_ok-print.ensures.shape) in
    let three = c.in_ok-top-4.ensures.shape c.in_ok-run.ensures.local ∙ ap₂ with_subcommand two (ap (λ (a : App). a.top) c.in_ok-run.ensures.shape) in
    let four = c.in_ok-top-5.ensures.shape c.in_ok-view.ensures.local ∙ ap₂ with_subcommand three (ap (λ (a : App). a.top) c.in_ok-view.ensures.shape) in
    let five = c.in_ok-top-6.ensures.shape c.in_ok-journal.ensures.local ∙ ap₂ with_subcommand four (ap (λ (a : App). a.top) c.in_ok-journal.ensures.shape) in
    let six = c.in_ok-top-7.ensures.shape c.in_ok-debug.ensures.local ∙ ap₂ with_subcommand five (ap (λ (a : App). a.top) c.in_ok-debug.ensures.shape) in
    let seven = c.in_ok-top-8.ensures.shape c.serve-serve.ensures.local ∙ ap₂ with_subcommand six (ap (λ (a : App). a.top) c.serve-serve.ensures.shape) in
    let eight = c.in_ok-top-9.ensures.shape c.in_ok-threads.ensures.local ∙ ap₂ with_subcommand seven (ap (λ (a : App). a.top) c.in_ok-threads.ensures.shape) in
    IfOk-weaker c.subcommand-9.result _ _ (λ m h. h.shape c.in_ok-weave.ensures.local ∙ ap₂ with_subcommand eight (ap (λ (a : App). a.top) c.in_ok-weave.ensures.shape)) c.subcommand-9.ensures
