use Rattle.std.proofs.Common.{rules, append_assoc, refl}
use Rattle.jc_dump.proofs.BytesLemmas.{begins_same, begins_on}
use Rattle.jc_dump.proofs.texts.write_block.Goals as goal

pub returns-in_err-event-clause-begins : goal.returns-in_err-event-clause-begins
returns-in_err-event-clause-begins c = begins_same _ _ refl

pub returns-in_err-push_rows-clause-begins : goal.returns-in_err-push_rows-clause-begins
returns-in_err-push_rows-clause-begins c = begins_on _ _ _ c.push_head.ensures.begins c.push_rows.ensures.begins

pub returns-clause-begins : goal.returns-clause-begins
returns-clause-begins c = begins_on _ _ _ c.push_head.ensures.begins c.push_rows.ensures.begins

pub returns-clause-block : goal.returns-clause-block
returns-clause-block c = search (rules, append_assoc)
