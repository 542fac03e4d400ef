use Rattle.std.proofs.Common.{arith}
use Rattle.jc_network.proofs.GivenHistoryLemmas.{undone_none, undone_more, undone_all}
use Rattle.jc_network.proofs.net.Net.undo_all.Goals as goal

pub loop-taken-init : goal.loop-taken-init
loop-taken-init c = record { undone = undone_none c.args.self.now }

pub loop-taken-preserved : goal.loop-taken-preserved
loop-taken-preserved c = record {
  undone = undone_more c.args.self.now c.loop-taken.self c.undo.new.self c.loop-taken._taken c.undo.result (omega (arith, c.loop-taken-test.true, c.steps-taken-end.ensures.steps)) c.loop-taken.invariant.undone c.undo.ensures.undone c.undo.ensures.names c.undo.ensures.none;
}

pub returns : goal.returns
returns c = undone_all c.args.self.now c.loop-taken.self c.loop-taken._taken (omega (arith, c.loop-taken-test.false, c.steps-taken-end.ensures.steps, c.loop-taken.auto._taken-end)) c.loop-taken.invariant.undone
