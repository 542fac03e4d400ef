use Rattle.jc_listings.proofs.WovenTextsLemmas.{EndsGoOn}
use Rattle.jc_listings.proofs.weaving.ends_answer.Given as goal

-- the ends of the replicas below p
abbrev pub invariant-loop-p : goal.invariant-loop-p
invariant-loop-p l = EndsGoOn l.names l.names l.made l.ends l.p l.all
