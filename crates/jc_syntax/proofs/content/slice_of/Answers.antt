use Rattle.std.proofs.Common.{rules, arith}
use Rattle.jc_syntax.proofs.TokenBoundsLemmas.{starts_first, stop_boundary}
use Rattle.jc_syntax.proofs.content.slice_of.Goals as goal

pub range-requires-clause-start_le_end : goal.range-requires-clause-start_le_end
range-requires-clause-start_le_end c = omega (arith, starts_first c.args.text.now c.args.token.now c.requires.1)

pub range-requires-clause-end_boundary : goal.range-requires-clause-end_boundary
range-requires-clause-end_boundary c = stop_boundary c.args.text.now c.args.token.now c.utf8.text c.requires.1

-- the token's bytes
pub returns : goal.returns
returns c = search rules
