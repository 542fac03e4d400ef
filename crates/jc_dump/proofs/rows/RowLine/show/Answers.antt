use Rattle.std.proofs.Common.{rules, ◌≡◌, ◌∙◌}
use Rattle.jc_dump.proofs.rows.RowLine.show.Goals as goal

pub returns-then-self-depth : goal.returns-then-self-depth
returns-then-self-depth c =
    let same : c.args.self.now.rule ≡ c.args.rule = search rules in
    let changed = c.set_last_digit.ensures in
    (changed.0, changed.1 ∙ same, changed.2)
