use Rattle.std.proofs.Common.{◌≡◌, ◌++◌, map, take}
use Rattle.jc_lock_tests.specs.declared.tests.diary.Line.{Line}
use Rattle.jc_lock.specs.Shows.{IsPassOf, pass_number, pass_mine}
use Rattle.jc_lock_tests.proofs.tests.diary.write_all.Given as goal

abbrev pub invariant-loop-text : goal.invariant-loop-text
invariant-loop-text g l = record {
  lock : IsPassOf l.lock l.pass;
  number : pass_number l.pass ≡ pass_number l.initial.pass;
  count : l.count ≡ l.text-index;
  mine : map (λ (x : Line). x.text) (pass_mine l.pass) ≡ map (λ (x : Line). x.text) (pass_mine l.initial.pass) ++ take l.text-index l.texts;
}
