use Rattle.std.proofs.Common.{arith}
use Rattle.jc_cursor.proofs.along.go_on.Goals as goal

pub returns-clause-ok : goal.returns-clause-ok
returns-clause-ok g c at named = record {
  count = c.in-Some.stretch.count;
  bits = c.in-Some.stretch.bits;
  least = c.in-Some.stretch.least;
  some = c.in-Some.ensures.some;
  most = c.in-Some.ensures.most;
  leads = c.in-Some.ensures.over at named;
  counted = omega (arith, c.in_ok-present.ensures.present, c.in_ok-present.ensures.most, c.in-Some.ensures.most);
  rows = c.in_ok-present.ensures.rows;
}
