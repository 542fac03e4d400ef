use Rattle.std.proofs.Common.{rules, ◌≡◌, ◌+◌, ◌++◌, length, ap, arith, length-append}
use Rattle.jc_rules.proofs.RunsLemmas.{deeper_length}
use Rattle.jc_rules.specs.Runs.{deeper, rows_of_all}
use Rattle.jc_rules.proofs.trace.Trace.add.Goals as goal

pub invariant_of-self-2 : goal.invariant_of-self-2
invariant_of-self-2 c =
    let rows : rows_of_all c.add_run.new.runs.items ≡ rows_of_all c.self.inside.runs.items ++ deeper c.args.rule c.self.inside.depth c.args.count = search rules in
    let number : c.in-Some.rows ≡ c.self.inside.rows + c.args.count = search rules in
    let before : c.self.inside.rows ≡ length (rows_of_all c.self.inside.runs.items) = c.self.invariant.counted in
    let all = ap length rows in
    let both = length-append (rows_of_all c.self.inside.runs.items) (deeper c.args.rule c.self.inside.depth c.args.count) in
    let more = deeper_length c.args.rule c.self.inside.depth c.args.count in
    record {
      counted = omega (arith, all, both, more, number, before);
      within = omega (arith, number, c.self.invariant.within);
    }

pub returns-clause-room : goal.returns-clause-room
returns-clause-room c =
    let rows : rows_of_all c.add_run.new.runs.items ≡ rows_of_all c.self.inside.runs.items ++ deeper c.args.rule c.self.inside.depth c.args.count = search rules in
    let all = ap length rows in
    let both = length-append (rows_of_all c.self.inside.runs.items) (deeper c.args.rule c.self.inside.depth c.args.count) in
    let more = deeper_length c.args.rule c.self.inside.depth c.args.count in
    omega (arith, all, both, more, c.self.invariant.counted, c.self.invariant.within)
