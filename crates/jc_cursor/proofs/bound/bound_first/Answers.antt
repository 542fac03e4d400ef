use Rattle.std.proofs.Common.{arith}
use Rattle.std.proofs.lemmas.Grind.{common_steps}
use Rattle.jc_cursor.proofs.bound.bound_first.Goals as goal

pub returns-then-is_eq : goal.returns-then-is_eq
returns-then-is_eq c = grind (arith, common_steps)
