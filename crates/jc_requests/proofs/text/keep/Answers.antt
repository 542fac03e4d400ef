use Rattle.std.proofs.Common.{◌≡◌, ◌≤◌, length, ◌∙◌, arith}
use Rattle.jc_requests.proofs.InputLemmas.{keeps, keeps_out}
use Rattle.jc_requests.proofs.text.keep.Goals as goal

pub returns-in_ok-push : goal.returns-in_ok-push
returns-in_ok-push c =
    let text = c.args.text.now.items in
    let le : length text ≤ 8388608 = omega (arith, c.len.ensures, c.if-len-le-MAX_TEXT.true) in
    c.in_ok-push.ensures.items ∙ keeps text c.args.byte le

pub returns-else-len-le-MAX_TEXT : goal.returns-else-len-le-MAX_TEXT
returns-else-len-le-MAX_TEXT c =
    let text = c.args.text.now.items in
    let size : length text ≡ 8388609 = omega (arith, c.len.ensures, c.if-len-le-MAX_TEXT.false, c.requires) in
    keeps_out text c.args.byte size
