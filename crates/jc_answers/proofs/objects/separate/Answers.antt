use Rattle.std.proofs.Common.{◌<◌, ◌≤◌, length, arith}
use Rattle.jc_answers.proofs.JsonTextsLemmas.{first_member, next_member}
use Rattle.jc_answers.proofs.objects.separate.Goals as goal

pub returns-then-len-le1 : goal.returns-then-len-le1
returns-then-len-le1 c = λ ms m is.
    let short : length c.args.out.now.items ≤ 1 = omega (arith, c.len.ensures, c.if-len-le1.true) in
    first_member c.args.out.now.items ms m short is

pub returns : goal.returns
returns c = λ ms m is.
    let long : 1 < length c.args.out.now.items = omega (arith, c.len.ensures, c.if-len-le1.false) in
    next_member c.args.out.now.items c.push.new.self.items ms m long c.in_ok-push.ensures.items is
