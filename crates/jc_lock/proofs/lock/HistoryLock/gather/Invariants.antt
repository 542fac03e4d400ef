use Rattle.std.proofs.Common.{◌≡◌, ◌++◌, ◌<◌, length, vec_len}
use Rattle.std.specs.Prelude.{All}
use Rattle.jc_lock.specs.declared.view.Stage.TheVariants.{Rests}
use Rattle.jc_lock.specs.Gathered.{known_of}
use Rattle.jc_lock.specs.Shows.{IsPassOf}
use Rattle.jc_lock.proofs.lock.HistoryLock.gather.Given as goal

abbrev pub invariant-loop-pass : goal.invariant-loop-pass
invariant-loop-pass g l = record {
  table : l.seat.table_id ≡ l.self.table.shared.table_id;
  rests : l.seat.me.0.stage ≡ Rests;
  some : 0 < length l.seat.me.0.knows;
  all : All (IsPassOf l.self) l.passes.items;
  known : known_of l.passes.items ++ l.seat.me.0.knows ≡ known_of l.fn.passes.items;
}

abbrev pub decreases-loop-pass : goal.decreases-loop-pass
decreases-loop-pass g l = vec_len l.passes
