use Rattle.std.proofs.Common.{◌≡◌, get_or, refl, sym, ◌∙◌, ap, arith, below_more, List, ℕ, true, false}
use Rattle.jc_rules.specs.declared.rule.Rule.TheVariants as R
use Rattle.jc_rules.specs.declared.rule.TheConstants.{RULES}
use Rattle.jc_rules.specs.RuleNames.{rule_name}
use Rattle.jc_rules.proofs.RefusalsLemmas.{rule_at, rule_within, rule_place}
use Rattle.jc_rules.proofs.rule.Rule.of_name.Goals as goal
use Rattle.std.specs.Str.{bytes_eq}
use Rattle.std.proofs.lemmas.Slice.Eq.{bytes_eq-Decides}

differ : (xs ys : List ℕ) → bytes_eq xs ys ≡ false → xs ≡ ys → ⊥
differ xs ys f e = let g : true ≡ false = sym ((bytes_eq-Decides xs ys).1 e) ∙ f in let b : ⊥ = cc in b

-- the one at the index is not it either
pub loop-rule-preserved : goal.loop-rule-preserved
loop-rule-preserved c =
    below_more _ _ c.loop-rule.invariant
    (λ r e same.
    let here : get_or RULES c.loop-rule.rule-index R.Exec ≡ r = ap (λ i. get_or RULES i R.Exec) (sym e) ∙ rule_at r R.Exec in
    let value : c.name.result.now ≡ rule_name (get_or RULES c.loop-rule.rule-index R.Exec) = c.name.ensures in
    differ c.name.result.now c.args.name.now (sym c.eq.ensures ∙ c.if-eq.false) (value ∙ (ap rule_name here ∙ same)))

pub returns-clause-unknown : goal.returns-clause-unknown
returns-clause-unknown c = λ r same. c.loop-rule.invariant (rule_place r) (omega (arith, rule_within r)) r refl same
