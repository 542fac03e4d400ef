use Rattle.std.proofs.Common.{◌≡◌, true, false, sym, subst, ◌∙◌}
use Rattle.std.proofs.lemmas.Result.{IfOk-weaker}
use Rattle.jc_rules.specs.declared.version.Version.TheVariants.{Two}
use Rattle.jc_session.specs.Requests as Q
use Rattle.jc_requests.specs.Asked as K
use Rattle.jc_serve.specs.Subjects.{IsFaultAnswer}
use Rattle.jc_serve.specs.Answers.{IsNoRule, AnswersRefused, no_rule, refuses}
use Rattle.jc_serve.proofs.StopAnswersLemmas.{rule_not_quit, same_word}
use Rattle.jc_serve.proofs.answers.rule_refused.Goals as goal

pub returns-then-is_no_rule : goal.returns-then-is_no_rule
returns-then-is_no_rule c =
    let none = c.is_no_rule.ensures.0 c.if-is_no_rule.true in
    IfOk-weaker c.refused.result _ _ (λ answer is text fault says. subst (λ t. AnswersRefused text fault (K.of_session (Q.break_rule c.args.name.now)) t) (sym is) (no_rule none)) c.refused.ensures

pub returns-else-is_no_rule : goal.returns-else-is_no_rule
returns-else-is_no_rule c =
    let v = c.args.name.now in
    IfOk-weaker c.to_vec.result _ _ (λ answer is text fault says. refuses (rule_not_quit v) (λ w none e.
    let own : IsNoRule Two v = subst (λ n. IsNoRule Two n) (sym (same_word v w e)) none in
    let no : true ≡ false = sym (c.is_no_rule.ensures.1 own) ∙ c.if-is_no_rule.false in absurd cc) (subst (λ a. IsFaultAnswer text fault a) (sym (is (λ x y e. e))) says)) c.to_vec.ensures.items_if_clones_equal
