use Rattle.std.proofs.Common.{◌≤◌, ℕ, length, subst, sym, not}
use Rattle.std.proofs.lemmas.List.Sums.{prefix_len-le-length}
use Rattle.jc_session.specs.Requests.{is_blank_char}
use Rattle.jc_requests.proofs.forms.after_word.Goals as goal

pub split_at-requires : goal.split_at-requires
split_at-requires c =
    subst (λ (n : ℕ). n ≤ length c.past_blanks-text.result.now) (sym c.word_len.ensures) (prefix_len-le-length (λ b. not (is_blank_char b)) c.past_blanks-text.result.now)
