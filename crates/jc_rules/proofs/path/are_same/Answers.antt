use Rattle.jc_rules.proofs.PathLemmas.{paths_compared}
use Rattle.jc_rules.proofs.path.are_same.Goals as goal

pub returns : goal.returns
returns c = paths_compared c.args.keys.now c.args.others.now c.eq.result c.eq.ensures
