-- Induction over derivations, by the rules: what each rule keeps is true of each derivable judgement.
use Rattle.std.proofs.Common.{List, [], ◌∷◌}
use Rattle.jc_rules.specs.declared.rule.Rule.{Rule}
use Rattle.jc_rules.specs.Derivation.{Question, Answer, Judgement, gives, Derivation, derive, Premises, none, premise, conclusion, conclusions}
use Rattle.jc_rules.specs.Table.{Follows, Holds, AllHold}

abbrev pub All : (Judgement → Type 0) → List Judgement → Type 0
All M [] = Unit {0}
All M (j ∷ js) = M j × All M js

module _ (M : Judgement → Type 0) (step : (r : Rule) (q : Question) (a : Answer) (js : List Judgement) → Follows r q a js → All M js → M (gives q a)) where
  mutual
    pub by_rules : (d : Derivation) → Holds d → M (conclusion d)
    by_rules (derive r (gives q a) ps) h = step r q a (conclusions ps) h.0 (all_by_rules ps h.1)

    pub all_by_rules : (ps : Premises) → AllHold ps → All M (conclusions ps)
    all_by_rules none h = tt
    all_by_rules (premise d ps) h = (by_rules d h.0, all_by_rules ps h.1)
