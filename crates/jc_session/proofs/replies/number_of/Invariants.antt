use Rattle.std.proofs.Common.{◌≢◌, List, ℕ, ◌<◌, get_or}
use Rattle.jc_session.proofs.replies.number_of.Given as goal

-- no earlier replica has the name
abbrev pub invariant-loop-number : goal.invariant-loop-number
invariant-loop-number l = (k : ℕ) → k < l.number → (d : List ℕ) → get_or l.names k d ≢ l.name
