use Rattle.std.proofs.Common.{ap}
use Rattle.jc_requests.specs.Views.{at_view}
use Rattle.jc_serve.proofs.StopLemmas.{unreached_here}
use Rattle.jc_serve.proofs.stuck.GivenStop.reached.Goals as goal

pub returns-in-None : goal.returns-in-None
returns-in-None c s stop v = unreached_here s stop c.args.self.now v (at_view c.args.at) c.refuse.result (ap at_view c.in-None.is) c.refuse.ensures
