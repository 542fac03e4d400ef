use Rattle.std.proofs.Common.{rules, ◌≡◌, ◌-◌, length, get_or, refl, arith}
use Rattle.jc_rules.proofs.RunsLemmas.{goes_on}
use Rattle.jc_rules.proofs.runs.add_run.Goals as goal

pub returns-clause-ok : goal.returns-clause-ok
returns-clause-ok c =
    let rs = c.args.runs.now.items in
    let size : c.len-len.result ≡ length rs = search rules in
    let at : c.index.result.now ≡ get_or rs (c.len-len.result - 1) c.index.result.now = search rules in
    goes_on rs _ c.len-len.result (c.len-len.result - 1) c.index.result.now c.in-Some.longer c.args.run size (omega arith) refl at refl c.in-Some.ensures
