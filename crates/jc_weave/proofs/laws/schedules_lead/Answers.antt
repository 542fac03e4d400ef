use Rattle.jc_weave.proofs.WeavingLemmas.{leads}
use Rattle.jc_weave.proofs.laws.schedules_lead.Goals as goal

pub returns : goal.returns
returns c = leads
