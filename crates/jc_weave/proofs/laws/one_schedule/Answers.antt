use Rattle.jc_weave.proofs.LoomsOnceLemmas.{one_schedule}
use Rattle.jc_weave.proofs.laws.one_schedule.Goals as goal

pub returns : goal.returns
returns c = one_schedule
