use Rattle.std.proofs.Common.{length}
use Rattle.jc_rules.specs.Runs.{rows_of_all}
use Rattle.jc_debug.specs.declared.breaks.Break.TheVariants as Kind
use Rattle.jc_debug.specs.Invariant.{start_of}
use Rattle.jc_debug.proofs.BreaksLemmas.{as_break, both_ways, rule_named}
use Rattle.jc_debug.proofs.debugger.Debugger.names.Goals as goal

pub returns-in-Some : goal.returns-in-Some
returns-in-Some c =
    let d = c.args.self.now in
    let named = rule_named d (rows_of_all c.in-Some.runs.now) c.in-Rule.rule c.in-Some.ensures.trace in
    as_break (start_of d) d.schedule (length d.traces) c.args.b (Kind.Rule c.in-Rule.rule) c.has_rule.result c.in-Rule.is (both_ways c.has_rule.ensures named)
