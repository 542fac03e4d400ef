use Rattle.std.proofs.Common.{refl, sym, ◌∙◌, ap, arith}
use Rattle.jc_tree.specs.Tree.{or_no_entries, has_ids}
use Rattle.jc_tree.proofs.FlagsLemmas.{number_there, flags_written}
use Rattle.jc_tree.proofs.presences.Presences.restore.Goals as goal

pub invariant_of-self-2 : goal.invariant_of-self-2
invariant_of-self-2 c =
    let fs = c.self.inside.flags.items in
    let sets = c.self.inside.sets.items in
    let there = number_there sets c.args.number _ (sym c.in_ok-was.ensures.was) in
    flags_written fs fs _ sets _ c.args.number c.args.former c.is_inhabited-is.result c.self.invariant c.in_ok-was.ensures.some (omega arith) (omega (arith, there, c.self.invariant.within)) (λ m. refl) refl (c.is_inhabited-is.ensures ∙ ap (λ o. has_ids (or_no_entries o)) c.as_ref.ensures.value)
