use Rattle.std.proofs.Common.{arith}
use Rattle.std.proofs.lemmas.Grind.{common_steps}
use Rattle.jc_scenario.proofs.printing.push_part.Goals as goal

-- the name stands before the brace
pub returns : goal.returns
returns c = grind (arith, common_steps)
