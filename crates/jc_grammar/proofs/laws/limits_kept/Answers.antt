use Rattle.jc_grammar.proofs.LimitsLemmas.{limits_kept}
use Rattle.jc_grammar.proofs.laws.limits_kept.Goals as goal

pub returns : goal.returns
returns c = limits_kept
