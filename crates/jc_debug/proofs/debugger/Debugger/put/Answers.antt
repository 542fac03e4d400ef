use Rattle.jc_debug.proofs.BreaksLemmas.{placed_trail}
use Rattle.jc_debug.proofs.InvariantLemmas.{seen}
use Rattle.jc_debug.proofs.debugger.Debugger.put.Goals as goal

pub invariant_of-self : goal.invariant_of-self
invariant_of-self c =
    let d = seen c.self.inside.net c.self.inside.schedule.items c.self.inside.traces.items c.self.inside.breaks in
    placed_trail d c.args.j c.args.b c.self.invariant
