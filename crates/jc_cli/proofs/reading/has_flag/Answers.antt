use Rattle.std.proofs.Common.{ap, Some, None, codes, ◌≡◌, ◌∙◌, unwrap_or, []}
use Rattle.std.specs.Str.{bytes_eq}
use Rattle.clap.specs.Words.{first_of, found_of, rows_of}
use Rattle.clap.proofs.WalkLemmas.{first_value-rows}
use Rattle.jc_cli.proofs.reading.has_flag.Goals as goal

pub returns-in-Some : goal.returns-in-Some
returns-in-Some c =
    let one : Some c.in-Some.text.now ≡ first_of c.args.name.now (rows_of (found_of c.args.matches.now)) = c.in-Some.ensures ∙ first_value-rows (found_of c.args.matches.now) c.args.name.now in
    c.eq.ensures ∙ ap (λ o. bytes_eq (unwrap_or o []) (codes "true")) one

pub returns-in-None : goal.returns-in-None
returns-in-None c =
    let one : None ≡ first_of c.args.name.now (rows_of (found_of c.args.matches.now)) = c.in-None.ensures ∙ first_value-rows (found_of c.args.matches.now) c.args.name.now in
    ap (λ o. bytes_eq (unwrap_or o []) (codes "true")) one
