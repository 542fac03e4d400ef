use Rattle.jc_syntax.proofs.NumberReadingLemmas.{tells_some, tells_none}
use Rattle.jc_syntax.proofs.number.is_number.Goals as goal

pub returns-in-Some : goal.returns-in-Some
returns-in-Some c = tells_some c.args.bytes.now c.in-Some.rest.now c.is_empty.result c.in-Some.ensures c.is_empty.ensures

pub returns-in-None : goal.returns-in-None
returns-in-None c = tells_none c.args.bytes.now c.in-None.ensures
