use Rattle.std.proofs.Common.{rules}
use Rattle.jc_fakes.proofs.TakesUpToSink.write.Goals as goal

-- the room shrinks by what was taken
pub returns-clause-room : goal.returns-clause-room
returns-clause-room g c = search rules
