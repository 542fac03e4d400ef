use Rattle.std.proofs.Common.{◌≡◌, ◌-◌, ◌≤◌, map, length, vec_capacity}
use Rattle.std.specs.Prelude.{All}
use Rattle.std.specs.List.{range_with_len}
use Rattle.jc_lock.specs.Steps.{dealer}
use Rattle.jc_lock.specs.Shows.{pass_number, IsNewPass}
use Rattle.jc_lock.proofs.lock.HistoryLock.deal_all.Given as goal

abbrev pub invariant-loop-number : goal.invariant-loop-number
invariant-loop-number g l = record {
  table : l.seat.table_id ≡ l.initial.seat.table_id;
  view : l.seat.me.0 ≡ dealer (g.K.Kept.origin l.terms.opened.value) l.terms.takes l.number (l.passes - l.number);
  count : length l.out.items ≡ l.number;
  room : l.passes ≤ vec_capacity l.out;
  numbers : map pass_number l.out.items ≡ range_with_len 0 l.number;
  new : All (IsNewPass l.self l.terms.takes (g.K.Kept.origin l.terms.opened.value)) l.out.items;
}
