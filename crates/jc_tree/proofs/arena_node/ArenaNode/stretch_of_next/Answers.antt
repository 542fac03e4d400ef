use Rattle.std.proofs.Common.{◌+◌, ◌<◌, cond, sym, ap, subst, ◌∙◌}
use Rattle.jc_rules.specs.declared.key.Key.TheVariants.{Elem}
use Rattle.jc_tree.proofs.StretchesLemmas.{small_bit, one_before}
use Rattle.jc_tree.proofs.arena_node.ArenaNode.stretch_of_next.Goals as goal

pub returns-clause-over : goal.returns-clause-over
returns-clause-over c =
    let behind = c.in_ok-behind.behind in
    let bit = c.bit_of-bit.ensures in
    one_before c.args.self.now.links c.args.self.now.presences c.args.key.now c.in_ok-id.id c.bit_of-bit.result behind.count behind.bits c.in_ok-checked_add.field-0 behind.least c.lesser_id.result (Elem behind.last)
    (sym c.step-step.ensures.next ∙ c.in_ok-id.ensures)
    (bit ∙ ap (λ is. cond is 1 0) c.step.ensures.present)
    (subst (λ n. n < 2) (sym bit) (small_bit c.step.result.present))
    (c.in_ok-checked_add.ensures.1 ∙ ap (λ n. n + c.bit_of-bit.result) c.in_ok-checked_mul.ensures.1)
    c.lesser_id.ensures.second c.lesser_id.ensures.first c.in_ok-behind.ensures.over
