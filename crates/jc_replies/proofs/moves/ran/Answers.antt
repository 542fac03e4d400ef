use Rattle.std.proofs.Common.{length, codes, subst, ap, ◌∙◌}
use Rattle.std.proofs.lemmas.Result.{IfOk-weaker}
use Rattle.jc_debug.specs.declared.fault.RunEnd.{RunEnd}
use Rattle.jc_debug.specs.Moves.{IsEnd}
use Rattle.jc_answers.specs.JsonTexts.{text_member}
use Rattle.jc_replies.specs.AnswerOf.{background_of}
use Rattle.jc_replies.proofs.MovesLemmas.{ran_break, ran_stuck, ran_end}
use Rattle.jc_replies.proofs.moves.ran.Goals as goal

pub returns-in-Break : goal.returns-in-Break
returns-in-Break c =
    let d = c.args.debugger.now in
    IfOk-weaker c.position_with.result _ _ (λ answer h outcome is.
    ran_break (background_of c.args.given.now d) (length d.traces) c.in-Break.k c.number-number.result c.absent.result answer.items c.number-number.ensures c.absent.ensures h outcome
    (subst (λ (e : RunEnd). IsEnd e outcome) c.in-Break.is is)) c.position_with.ensures

pub returns-in-Stuck : goal.returns-in-Stuck
returns-in-Stuck c =
    let d = c.args.debugger.now in
    IfOk-weaker c.stuck_here.result _ _ (λ answer h outcome is.
    ran_stuck (background_of c.args.given.now d) (length d.traces) c.in-Stuck.stuck answer.items h outcome
    (subst (λ (e : RunEnd). IsEnd e outcome) c.in-Stuck.is is)) c.stuck_here.ensures

pub returns-in-End : goal.returns-in-End
returns-in-End c =
    let d = c.args.debugger.now in
    IfOk-weaker c.position_with-in-End.result _ _ (λ answer h outcome is.
    ran_end (background_of c.args.given.now d) (length d.traces) c.text-end.result c.absent-in-End.result answer.items (c.text-end.ensures ∙ ap (text_member (codes "end")) c.as_slice.ensures) c.absent-in-End.ensures h outcome
    (subst (λ (e : RunEnd). IsEnd e outcome) c.in-End.is is)) c.position_with-in-End.ensures
