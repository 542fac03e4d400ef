use Rattle.jc_cursor.proofs.ElementsLemmas.{rule_of_zero, rule_of_one}
use Rattle.jc_cursor.proofs.along.rule_by.Goals as goal

pub returns-else-bit-eq0 : goal.returns-else-bit-eq0
returns-else-bit-eq0 c = rule_of_one c.args.bit c.if-bit-eq0.false

pub returns-then-bit-eq0 : goal.returns-then-bit-eq0
returns-then-bit-eq0 c = rule_of_zero c.args.bit c.if-bit-eq0.true
