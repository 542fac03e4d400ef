use Rattle.std.proofs.Common.{◌∙◌}
use Rattle.jc_rules.proofs.IdsLemmas.{searched}
use Rattle.jc_effects.proofs.own.has.Goals as goal

pub returns : goal.returns
returns c = c.is_ok.ensures.value ∙ searched c.args.id c.args.ids.now c.binary_search.result c.requires c.binary_search.ensures.bound c.binary_search.ensures.position
