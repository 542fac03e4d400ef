use Rattle.std.proofs.Common.{ap, ◌∙◌, cond, sym}
use Rattle.std.proofs.lemmas.Nat.Bits.{bit_at_set_same, bit_at_set_other, bit_at_clear_same, bit_at_clear_other}
use Rattle.std.specs.Int.{w64}
use Rattle.jc_tree.proofs.blocks.with_bit.Goals as goal

pub returns-then-is-clause-same : goal.returns-then-is-clause-same
returns-then-is-clause-same c = bit_at_set_same w64 c.args.bits c.args.index c.requires ∙ ap (λ b. cond b 1 0) (sym c.if-is.true)

pub returns-then-is-clause-others : goal.returns-then-is-clause-others
returns-then-is-clause-others c = λ i w d. bit_at_set_other w64 c.args.bits c.args.index c.requires i d

pub returns-else-is-clause-same : goal.returns-else-is-clause-same
returns-else-is-clause-same c = bit_at_clear_same w64 c.args.bits c.args.index c.requires ∙ ap (λ b. cond b 1 0) (sym c.if-is.false)

pub returns-else-is-clause-others : goal.returns-else-is-clause-others
returns-else-is-clause-others c = λ i w d. bit_at_clear_other w64 c.args.bits c.args.index c.requires i w d
