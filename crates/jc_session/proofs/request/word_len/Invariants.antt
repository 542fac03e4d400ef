use Rattle.std.proofs.Common.{◌≡◌, ℕ, ◌<◌, get_or, false}
use Rattle.jc_session.specs.Requests.{is_blank_char}
use Rattle.jc_session.proofs.request.word_len.Given as goal

-- no byte before is a blank
abbrev pub invariant-loop-at : goal.invariant-loop-at
invariant-loop-at l = (k : ℕ) → k < l.at → is_blank_char (get_or l.text k 0) ≡ false
