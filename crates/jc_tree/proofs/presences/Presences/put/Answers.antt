use Rattle.std.proofs.Common.{Some, refl}
use Rattle.jc_tree.proofs.CountedLemmas.{some_left}
use Rattle.jc_tree.proofs.FlagsLemmas.{flags_written}
use Rattle.jc_tree.proofs.presences.Presences.put.Goals as goal

pub invariant_of-self-2 : goal.invariant_of-self-2
invariant_of-self-2 c =
    flags_written c.self.inside.flags.items c.reach.new.flags.items _ c.self.inside.sets.items _ c.args.number (Some c.args.ids) _ c.self.invariant c.in_ok-former.ensures.ok c.reach.ensures.more c.in_ok-reach.ensures.there c.reach.ensures.same refl (some_left c.is_empty-is.ensures)
