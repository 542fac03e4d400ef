use Rattle.std.proofs.Common.{ap, Some, None, codes, ◌≡◌, ◌∙◌}
use Rattle.std.specs.Option.{option_and_then}
use Rattle.clap.specs.Words.{first_of, found_of, rows_of}
use Rattle.clap.proofs.WalkLemmas.{first_value-rows}
use Rattle.jc_cli.specs.Arguments.{seed_in}
use Rattle.jc_cli.proofs.reading.seed_of.Goals as goal

pub returns-in-Some : goal.returns-in-Some
returns-in-Some c =
    let one : Some c.in-Some.text.now ≡ first_of (codes "seed") (rows_of (found_of c.args.matches.now)) = c.in-Some.ensures ∙ first_value-rows (found_of c.args.matches.now) (codes "seed") in
    c.seed_in.ensures ∙ ap (option_and_then seed_in) one

pub returns-in-None : goal.returns-in-None
returns-in-None c =
    let one : None ≡ first_of (codes "seed") (rows_of (found_of c.args.matches.now)) = c.in-None.ensures ∙ first_value-rows (found_of c.args.matches.now) (codes "seed") in
    ap (option_and_then seed_in) one
