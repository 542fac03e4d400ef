use Rattle.jc_effects.proofs.LawsEventsLemmas.{stored_changed}
use Rattle.jc_effects.proofs.laws.stored_ops_change.Goals as goal

pub returns : goal.returns
returns c = stored_changed
