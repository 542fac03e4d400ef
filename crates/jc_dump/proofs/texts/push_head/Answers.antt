use Rattle.jc_dump.proofs.BytesLemmas.{begins_on}
use Rattle.jc_dump.proofs.texts.push_head.Goals as goal

pub returns-in_err-push_text-5-clause-begins : goal.returns-in_err-push_text-5-clause-begins
returns-in_err-push_text-5-clause-begins c =
    begins_on _ _ _ (begins_on _ _ _ c.push_text.ensures.begins c.push_text-2.ensures.begins)
    (begins_on _ _ _ c.push_text-3.ensures.begins (begins_on _ _ _ c.push_text-4.ensures.begins c.push_text-5.ensures.begins))

pub returns-clause-begins : goal.returns-clause-begins
returns-clause-begins c =
    begins_on _ _ _ (begins_on _ _ _ c.push_text.ensures.begins c.push_text-2.ensures.begins)
    (begins_on _ _ _ c.push_text-3.ensures.begins (begins_on _ _ _ c.push_text-4.ensures.begins c.push_text-5.ensures.begins))
