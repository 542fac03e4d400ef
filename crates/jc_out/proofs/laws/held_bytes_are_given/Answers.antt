use Rattle.jc_out.proofs.OutLemmas.{gave_held}
use Rattle.jc_out.proofs.laws.held_bytes_are_given.Goals as goal

pub returns : goal.returns
returns c = gave_held
