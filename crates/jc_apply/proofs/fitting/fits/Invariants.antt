use Rattle.std.proofs.Common.{take, is_some}
use Rattle.std.specs.Prelude.{IfSome}
use Rattle.jc_apply.proofs.ReachLemmas.{Walked}
use Rattle.jc_apply.proofs.fitting.fits.Given as goal

abbrev pub invariant-loop-depth : goal.invariant-loop-depth
invariant-loop-depth g l = record {
  walked : Walked (g.S.TreeStore.tree l.store).now l.path l.depth (is_some l.place);
  named : IfSome l.place (λ p. g.S.TreeStore.names l.store p (take l.depth l.path));
}
