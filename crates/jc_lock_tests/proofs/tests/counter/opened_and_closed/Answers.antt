use Rattle.std.proofs.Common.{sym}
use Rattle.std.proofs.lemmas.Bool.{false≢true}
use Rattle.jc_lock.proofs.GatheredLemmas.{each_of}
use Rattle.jc_lock.proofs.NumbersLemmas.{each_once_in_order}
use Rattle.jc_lock_tests.proofs.tests.counter.opened_and_closed.Goals as goal

pub unreachable-requires : goal.unreachable-requires
unreachable-requires c =
    let opened = c.in-Ok.ensures in
    let each = each_of _ _ _ _ (sym opened.lock.0) (sym opened.numbers) (each_once_in_order c.args.passes) in
    false≢true (c.in-Err.ensures.when.1 each)
