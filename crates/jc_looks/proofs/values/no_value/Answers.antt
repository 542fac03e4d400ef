use Rattle.std.proofs.Common.{ap}
use Rattle.std.proofs.lemmas.Result.{IfOk-weaker}
use Rattle.jc_rules.specs.declared.refusal.Refusal.TheVariants as F
use Rattle.jc_rules.specs.Refused.{because, no_node}
use Rattle.jc_cursor.specs.Evaluates.{eval_cause_of}
use Rattle.jc_looks.proofs.values.no_value.Goals as goal

pub returns-in-NoSuchNode : goal.returns-in-NoSuchNode
returns-in-NoSuchNode c = IfOk-weaker c.no_node.result _ _ (λ answer h. (no_node c.in-NoSuchNode.key, ap eval_cause_of c.in-NoSuchNode.is, h)) c.no_node.ensures

pub returns-in-UnboundVariable : goal.returns-in-UnboundVariable
returns-in-UnboundVariable c = IfOk-weaker c.refused.result _ _ (λ answer h. (because F.UnboundVariable, ap eval_cause_of c.in-UnboundVariable.is, h)) c.refused.ensures

pub returns-in-GetOnHead : goal.returns-in-GetOnHead
returns-in-GetOnHead c = IfOk-weaker c.refused-in-GetOnHead.result _ _ (λ answer h. (because F.GetOnHead, ap eval_cause_of c.in-GetOnHead.is, h)) c.refused-in-GetOnHead.ensures

pub returns-in-NotACursor : goal.returns-in-NotACursor
returns-in-NotACursor c = IfOk-weaker c.refused-in-NotACursor.result _ _ (λ answer h. (because F.NotACursor, ap eval_cause_of c.in-NotACursor.is, h)) c.refused-in-NotACursor.ensures

pub returns-in-PastEnd : goal.returns-in-PastEnd
returns-in-PastEnd c = IfOk-weaker c.refused-in-PastEnd.result _ _ (λ answer h. (because F.PastEnd, ap eval_cause_of c.in-PastEnd.is, h)) c.refused-in-PastEnd.ensures

pub returns-in-NoMap : goal.returns-in-NoMap
returns-in-NoMap c = IfOk-weaker c.refused-in-NoMap.result _ _ (λ answer h. (because F.NoMap, ap eval_cause_of c.in-NoMap.is, h)) c.refused-in-NoMap.ensures

pub returns-in-NoRegister : goal.returns-in-NoRegister
returns-in-NoRegister c = IfOk-weaker c.refused-in-NoRegister.result _ _ (λ answer h. (because F.NoRegister, ap eval_cause_of c.in-NoRegister.is, h)) c.refused-in-NoRegister.ensures

pub returns-in-TooDeep : goal.returns-in-TooDeep
returns-in-TooDeep c = IfOk-weaker c.refused-in-TooDeep.result _ _ (λ answer h. (because F.TooDeep, ap eval_cause_of c.in-TooDeep.is, h)) c.refused-in-TooDeep.ensures
