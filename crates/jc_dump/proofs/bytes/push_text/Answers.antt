use Rattle.jc_dump.proofs.BytesLemmas.{pushed_begins, pushed_utf8}
use Rattle.jc_dump.proofs.bytes.push_text.Goals as goal

pub returns-clause-begins : goal.returns-clause-begins
returns-clause-begins c = pushed_begins c.extend_from_slice.result _ _ _ c.extend_from_slice.ensures.items

pub returns-clause-utf8 : goal.returns-clause-utf8
returns-clause-utf8 c = pushed_utf8 c.extend_from_slice.result _ _ _ c.extend_from_slice.ensures.items c.as_bytes.ensures.utf8
