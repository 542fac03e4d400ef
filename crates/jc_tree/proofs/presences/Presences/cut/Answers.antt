use Rattle.jc_tree.proofs.FlagsLemmas.{flags_cut}
use Rattle.jc_tree.proofs.presences.Presences.cut.Goals as goal

pub invariant_of-self : goal.invariant_of-self
invariant_of-self c = flags_cut c.args.most c.self.inside.flags.items _ c.self.inside.sets.items _ c.self.invariant c.truncate.ensures.items c.cut.ensures
