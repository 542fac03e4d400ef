use Rattle.std.proofs.Common.{◌≡◌, ◌∙◌, ap, sym, refl, Some, None}
use Rattle.clap.specs.Words.{found_of, rows_of, subcommand_rows_of}
use Rattle.jc_cli.specs.Arguments.{task_in, file_in}
use Rattle.jc_cli.proofs.ProgramCommandsLemmas.{whole, name_is, no_file}
use Rattle.jc_cli.proofs.reading.order_matched.Goals as goal

pub returns-in_default-file_of : goal.returns-in_default-file_of
returns-in_default-file_of c =
    let inner = c.in-Some.inner.now in
    let rows = rows_of (found_of inner) in
    let is = whole (subcommand_rows_of c.args.matches.now) c.in-Some.name.now rows (c.in-Some.ensures.name ∙ name_is c.args.matches.now) c.in-Some.ensures.rows in
    let none : file_in c.in-Some.name.now rows ≡ None = sym c.in_default-file_of.ensures in
    rw (is, none) (sym (no_file (task_in c.in-Some.name.now rows)))

pub returns : goal.returns
returns c =
    let inner = c.in-Some.inner.now in
    let rows = rows_of (found_of inner) in
    let is = whole (subcommand_rows_of c.args.matches.now) c.in-Some.name.now rows (c.in-Some.ensures.name ∙ name_is c.args.matches.now) c.in-Some.ensures.rows in
    let one : file_in c.in-Some.name.now rows ≡ Some c.in_ok-file.file = sym (ap Some c.in_ok-file.ensures ∙ c.in-Some-file_of.ensures) in
    let task : task_in c.in-Some.name.now rows ≡ Some c.in-Some-task_of.task = sym c.in-Some-task_of.ensures in
    rw (is, task, one) refl
