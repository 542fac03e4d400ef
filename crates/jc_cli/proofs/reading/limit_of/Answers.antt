use Rattle.std.proofs.Common.{ap, Some, None, codes, ◌≡◌, ◌∙◌}
use Rattle.std.specs.Option.{option_and_then}
use Rattle.clap.specs.Words.{first_of, found_of, rows_of}
use Rattle.clap.proofs.WalkLemmas.{first_value-rows}
use Rattle.jc_cli.specs.Arguments.{limit_in}
use Rattle.jc_cli.proofs.reading.limit_of.Goals as goal

pub returns-in-Some : goal.returns-in-Some
returns-in-Some c =
    let one : Some c.in-Some.text.now ≡ first_of (codes "limit") (rows_of (found_of c.args.matches.now)) = c.in-Some.ensures ∙ first_value-rows (found_of c.args.matches.now) (codes "limit") in
    c.limit_in.ensures ∙ ap (option_and_then limit_in) one

pub returns-in-None : goal.returns-in-None
returns-in-None c =
    let one : None ≡ first_of (codes "limit") (rows_of (found_of c.args.matches.now)) = c.in-None.ensures ∙ first_value-rows (found_of c.args.matches.now) (codes "limit") in
    ap (option_and_then limit_in) one
