use Rattle.std.proofs.Common.{rules, ◌-◌, Err, sym, ap, ◌∙◌}
use Rattle.jc_syntax.specs.Trees.{expr_of}
use Rattle.jc_rules.specs.Syntax.{Expr}
use Rattle.jc_parser.specs.declared.fault.ScenarioFault.TheVariants.{TooLongExpression}
use Rattle.jc_syntax.specs.declared.token.TokenKind.TheVariants.{Dot}
use Rattle.jc_parser.specs.ReaderState.{has_kind}
use Rattle.jc_parser.specs.ExpressionReader.{chain_at}
use Rattle.jc_parser.specs.Views.{selector_view}
use Rattle.jc_parser.proofs.ExpressionLoopsLemmas.{chain_done, chain_dotted, chain_full, chain_fail, chain_next}
use Rattle.jc_parser.proofs.expressions.follow.Goals as goal

pub returns-then-not-begins_selector : goal.returns-then-not-begins_selector
returns-then-not-begins_selector c =
    c.selectors.invariant ∙ chain_dotted c.selectors.left (expr_of c.selectors.expression) c.selectors.cursor c.advance.new.self (sym c.begins.ensures ∙ c.selectors-test.true) (c.advance.ensures (has_kind Dot) (sym c.begins.ensures ∙ c.selectors-test.true)) (sym c.begins_selector.ensures ∙ c.if-not-begins_selector.true)

pub returns-then-left-eq0 : goal.returns-then-left-eq0
returns-then-left-eq0 c =
    λ _. c.selectors.invariant
    ∙ chain_full c.selectors.left (expr_of c.selectors.expression) c.selectors.cursor c.advance.new.self c.if-left-eq0.true (sym c.begins.ensures ∙ c.selectors-test.true) (c.advance.ensures (has_kind Dot) (sym c.begins.ensures ∙ c.selectors-test.true)) (sym c.begins_selector.ensures ∙ c.if-not-begins_selector.false)
    ∙ ap (λ at. Err (TooLongExpression at)) (sym c.place-place.ensures)

pub returns-in-Err : goal.returns-in-Err
returns-in-Err c kept =
    c.selectors.invariant ∙ chain_fail c.selectors.left (expr_of c.selectors.expression) c.selectors.cursor c.advance.new.self c.in-Err.fault c.if-left-eq0.false (sym c.begins.ensures ∙ c.selectors-test.true) (c.advance.ensures (has_kind Dot) (sym c.begins.ensures ∙ c.selectors-test.true)) (sym c.begins_selector.ensures ∙ c.if-not-begins_selector.false) (c.in-Err.ensures kept)

pub selectors-preserved : goal.selectors-preserved
selectors-preserved c =
    c.selectors.invariant
    ∙ chain_next c.selectors.left (expr_of c.selectors.expression) c.selectors.cursor c.advance.new.self c.step.new.cursor (selector_view c.in-Ok.selector) c.if-left-eq0.false (sym c.begins.ensures ∙ c.selectors-test.true) (c.advance.ensures (has_kind Dot) (sym c.begins.ensures ∙ c.selectors-test.true)) (sym c.begins_selector.ensures ∙ c.if-not-begins_selector.false) c.in-Ok.ensures
    ∙ ap (λ (e : Expr). chain_at (c.selectors.left - 1) e c.step.new.cursor) (sym c.in_ok-expression.ensures)

pub returns : goal.returns
returns c = c.selectors.invariant ∙ chain_done c.selectors.left (expr_of c.selectors.expression) c.selectors.cursor (sym c.begins.ensures ∙ c.selectors-test.false)

pub selectors-init : goal.selectors-init
selectors-init c = search rules
