use Rattle.jc_serve.proofs.StopLemmas.{given_led}
use Rattle.jc_serve.proofs.stuck.GivenStop.look.Goals as goal

pub given_network-requires-clause-leads : goal.given_network-requires-clause-leads
given_network-requires-clause-leads c = given_led c.requires.stop.0 c.requires.stop.1 c.args.self.now c.requires.stop.2 c.args.count c.requires.made
