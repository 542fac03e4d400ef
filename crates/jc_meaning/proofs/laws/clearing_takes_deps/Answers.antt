use Rattle.jc_meaning.proofs.RootedSetsLemmas.{clearing_takes}
use Rattle.jc_meaning.proofs.laws.clearing_takes_deps.Goals as goal

pub returns : goal.returns
returns c = λ set t h m path c d deps s k there a. clearing_takes set t h m path c d deps s k there a
