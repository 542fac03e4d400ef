use Rattle.std.proofs.Common.{◌≤◌, length, subst, sym, ℕ}
use Rattle.std.proofs.lemmas.List.Sums.{prefix_len-le-length}
use Rattle.jc_session.specs.Requests.{is_blank_char}
use Rattle.jc_session.proofs.request.past_blanks.Goals as goal

pub split_at-requires : goal.split_at-requires
split_at-requires c = subst (λ (n : ℕ). n ≤ length c.args.text.now) (sym c.blanks.ensures) (prefix_len-le-length is_blank_char c.args.text.now)
