use Rattle.std.proofs.Common.{ℕ, ap, ◌∙◌}
use Rattle.jc_rules.specs.Trace.{at_depth}
use Rattle.jc_clear.proofs.ClearedLemmas.{cleared_again}
use Rattle.jc_clear.proofs.cleared.push_cleared.Goals as goal

pub returns-clause-ok : goal.returns-clause-ok
returns-clause-ok c =
    λ at a deps k h is. cleared_again at a deps k _ _ _ _ _ _ _ _ _ h is c.in_ok-open.ensures.ok c.in_ok-open-2.ensures.ok c.in_ok-push.ensures.ok c.in_ok-push-2.ensures.ok c.in_ok-push-3.ensures.ok
    (c.close.ensures ∙ ap (λ (n : ℕ). at_depth n c.push-3.new.self) c.depth-below.ensures) c.in_ok-push-4.ensures.ok
    (c.close-2.ensures ∙ ap (λ (n : ℕ). at_depth n c.push-4.new.self) c.depth-depth.ensures)
