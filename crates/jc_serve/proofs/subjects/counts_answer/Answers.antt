use Rattle.std.proofs.Common.{subst, ◌∙◌}
use Rattle.std.proofs.lemmas.Result.{IfOk-weaker}
use Rattle.jc_serve.specs.AnswerOf.{IsSubjectOf}
use Rattle.jc_serve.proofs.SubjectsLemmas.{held_stop, counts_refused, counts_served}
use Rattle.jc_serve.proofs.subjects.counts_answer.Goals as goal

pub returns-in-NoScenario : goal.returns-in-NoScenario
returns-in-NoScenario c =
    IfOk-weaker c.to_vec.result _ _ (λ answer is text H held. counts_refused c.in-NoScenario.why answer.items (is (λ x y e. e) ∙ c.as_slice.ensures.value) text H (subst (λ x. IsSubjectOf text H x) c.in-NoScenario.is held)) c.to_vec.ensures.items_if_clones_equal

pub stuck_counts-requires : goal.stuck_counts-requires
stuck_counts-requires c =
    let (text, (H, is)) = c.requires in
    held_stop text H c.in-StuckGiven.stop (subst (λ x. IsSubjectOf text H x) c.in-StuckGiven.is is)

pub returns-in-Served : goal.returns-in-Served
returns-in-Served c =
    IfOk-weaker c.counts.result _ _ (λ answer h text is held. counts_served text c.in-Served.served _ answer.items c.absent.ensures h is (subst (λ x. IsSubjectOf text is x) c.in-Served.is held)) c.counts.ensures
