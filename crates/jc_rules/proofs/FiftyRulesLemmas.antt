-- About specs/Table: it is the table of the fifty rules of version 1, with RECV-ONE.
use Rattle.std.proofs.Common.{◌≢◌, List, refl}
use Rattle.std.specs.Prelude.{◌↔◌}
use Rattle.jc_rules.specs.declared.rule.Rule.{Rule}
use Rattle.jc_rules.specs.declared.rule.Rule.TheVariants as R
use Rattle.jc_rules.specs.Derivation.{Question, Answer, Judgement, gives, Derivation, derive, Premises, none, premise, conclusions}
use Rattle.jc_rules.specs.Laws.{Lacks, AllLack}
use Rattle.jc_rules.specs.Table.{Follows, FollowsFifty, Holds, AllHold, HoldsFifty, AllHoldFifty}

same_clause : (r : Rule) (q : Question) (a : Answer) (ps : List Judgement) → r ≢ R.RecvOne → Follows r q a ps → FollowsFifty r q a ps
same_clause R.RecvOne q a ps n h = absurd (n refl)
same_clause _ q a ps n h = h

clause_stands : (r : Rule) (q : Question) (a : Answer) (ps : List Judgement) → r ≢ R.RecvOne → FollowsFifty r q a ps → Follows r q a ps
clause_stands R.RecvOne q a ps n h = absurd (n refl)
clause_stands _ q a ps n h = h

mutual
  to_fifty : (d : Derivation) → Lacks R.RecvOne d → Holds d → HoldsFifty d
  to_fifty (derive r (gives q a) ps) n h = (same_clause r q a (conclusions ps) n.0 h.0, all_to_fifty ps n.1 h.1)

  all_to_fifty : (ps : Premises) → AllLack R.RecvOne ps → AllHold ps → AllHoldFifty ps
  all_to_fifty none n h = tt
  all_to_fifty (premise d ps) n h = (to_fifty d n.0 h.0, all_to_fifty ps n.1 h.1)

mutual
  from_fifty : (d : Derivation) → Lacks R.RecvOne d → HoldsFifty d → Holds d
  from_fifty (derive r (gives q a) ps) n h = (clause_stands r q a (conclusions ps) n.0 h.0, all_from_fifty ps n.1 h.1)

  all_from_fifty : (ps : Premises) → AllLack R.RecvOne ps → AllHoldFifty ps → AllHold ps
  all_from_fifty none n h = tt
  all_from_fifty (premise d ps) n h = (from_fifty d n.0 h.0, all_from_fifty ps n.1 h.1)

pub fifty_stand : (d : Derivation) → Lacks R.RecvOne d → Holds d ↔ HoldsFifty d
fifty_stand d n = (to_fifty d n, from_fifty d n)
