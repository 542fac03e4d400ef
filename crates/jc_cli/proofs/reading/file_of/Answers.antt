use Rattle.std.proofs.Common.{◌≡◌, ◌∙◌, ap, sym, [], Some, Bool, false, if◌then◌else◌, codes}
use Rattle.std.specs.Str.{bytes_eq}
use Rattle.clap.specs.Words.{first_of, found_of, rows_of}
use Rattle.clap.proofs.WalkLemmas.{first_value-rows}
use Rattle.jc_cli.proofs.reading.file_of.Goals as goal

pub returns : goal.returns
returns c =
    let rows = rows_of (found_of c.args.matches.now) in
    let other : bytes_eq c.args.name.now (codes "serve") ≡ false = sym c.if-eq.ensures in
    c.get_str.ensures ∙ (first_value-rows (found_of c.args.matches.now) (codes "file") ∙ sym (ap (λ (b : Bool). if b then Some [] else first_of (codes "file") rows) other))
