use Rattle.std.proofs.Common.{◌∙◌, ap}
use Rattle.jc_rules.specs.Trace.{at_depth}
use Rattle.jc_apply.proofs.ApplyRulesLemmas.{on_ok, told_some, told_none}
use Rattle.jc_apply.proofs.assigning.trace_added.Goals as goal

pub returns-in_default-clause-ok : goal.returns-in_default-clause-ok
returns-in_default-clause-ok c = on_ok _ (λ e. told_none _ _ _ c.in_default.is e) c.push.ensures.ok

pub returns-clause-ok : goal.returns-clause-ok
returns-clause-ok c =
    told_some c.in-Some.was c.args.was c.presence_rule.result _ _ _ _ c.in-Some.is c.in_ok-open.ensures.ok c.presence_rule.ensures c.in_ok-push.ensures.ok (c.close.ensures ∙ ap (λ n. at_depth n c.push-2.new.self) c.depth-depth.ensures)
