use Rattle.jc_serve.proofs.MoveFaultsLemmas.{aside_there}
use Rattle.jc_serve.proofs.served.Served.bring_aside.Goals as goal

pub bring-requires : goal.bring-requires
bring-requires c = aside_there c.args.self.now c.args.n c.position.ensures.trail c.requires.paired c.requires.before
