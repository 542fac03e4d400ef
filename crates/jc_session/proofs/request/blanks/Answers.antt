use Rattle.std.proofs.Common.{rules, ◌≡◌, get_or, false, sym, arith}
use Rattle.std.proofs.lemmas.List.Sums.{prefix_len_is}
use Rattle.jc_session.specs.Requests.{is_blank_char}
use Rattle.jc_session.proofs.request.blanks.Goals as goal

pub returns-then-not-is_blank : goal.returns-then-not-is_blank
returns-then-not-is_blank c =
    let stops : is_blank_char (get_or c.args.text.now c.loop-at.at 0) ≡ false = search rules in
    sym (prefix_len_is is_blank_char c.args.text.now c.loop-at.at 0 (omega arith) c.loop-at.invariant (λ _. stops))

pub returns : goal.returns
returns c = sym (prefix_len_is is_blank_char c.args.text.now _ 0 (omega arith) (λ k lt. c.loop-at.invariant k (omega arith)) (λ lt. absurd (omega arith)))
