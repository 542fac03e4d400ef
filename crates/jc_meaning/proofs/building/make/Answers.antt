use Rattle.std.proofs.Common.{sym}
use Rattle.jc_rules.proofs.ContextsAtLemmas.{there}
use Rattle.jc_meaning.proofs.GrowthWriteLemmas.{there_grows, make_grows}
use Rattle.jc_meaning.proofs.building.make.Goals as goal
use Rattle.jc_rules.proofs.BoolLemmas.{none_of}

pub returns-then-has : goal.returns-then-has
returns-then-has g c = there_grows c.args.at.now c.args.key.now _ _ (there c.args.at.now _ c.requires) (sym c.if-has.ensures)

pub returns : goal.returns
returns g c = make_grows c.args.at.now c.args.key.now _ _ _ (there c.args.at.now _ c.requires) (none_of _ (sym c.if-has.ensures)) c.in_ok-make_child.ensures.ok.now
