use Rattle.jc_program.proofs.WeaveRunsLemmas.{woven_texts_lead}
use Rattle.jc_program.proofs.laws.woven_texts_lead.Goals as goal

pub returns : goal.returns
returns c = woven_texts_lead c.schedules_lead.ensures c.each_is_chosen.ensures
