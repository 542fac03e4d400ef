use Rattle.std.proofs.Common.{rules, ◌≡◌, ◌++◌, arith}
use Rattle.jc_rules.proofs.RunsLemmas.{is_opened}
use Rattle.jc_rules.specs.Runs.{deeper, rows_of_all}
use Rattle.jc_rules.proofs.trace.Trace.open_times.Goals as goal

pub returns-clause-ok : goal.returns-clause-ok
returns-clause-ok c =
    let t = c.args.self.now in
    let rows : rows_of_all c.self.inside.runs.items ≡ t.rows ++ deeper c.args.rule t.depth c.args.count = search rules in
    let depth : c.self.inside.depth ≡ t.depth = search rules in
    let number : c.from.result ≡ c.args.count = search rules in
    is_opened c.args.count c.args.rule t _ rows (omega (arith, depth, number))
