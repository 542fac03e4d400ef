use Rattle.std.proofs.Common.{◌≤◌, ℕ, length, subst, sym}
use Rattle.std.proofs.lemmas.List.Sums.{prefix_len-le-length}
use Rattle.std.proofs.Common.{not}
use Rattle.jc_session.specs.Requests.{is_blank_char}
use Rattle.jc_session.proofs.RequestsLemmas.{none_left, some_left_of, no_words, word_parts, word_ascii}
use Rattle.jc_session.proofs.request.first_word.Goals as goal

pub returns-then-is_empty-clause-parts : goal.returns-then-is_empty-clause-parts
returns-then-is_empty-clause-parts c =
    no_words c.args.text.now c.past_blanks-text.result.now c.past_blanks-text.ensures (none_left c.past_blanks-text.result.now c.is_empty.result c.is_empty.ensures c.if-is_empty.true)

pub split_at-requires : goal.split_at-requires
split_at-requires c =
    subst (λ (n : ℕ). n ≤ length c.past_blanks-text.result.now) (sym c.word_len.ensures) (prefix_len-le-length (λ b. not (is_blank_char b)) c.past_blanks-text.result.now)

pub returns-clause-parts : goal.returns-clause-parts
returns-clause-parts c =
    word_parts c.args.text.now c.past_blanks-text.result.now c.split_at.result.0.now c.split_at.result.1.now c.word_len.result c.past_blanks-text.ensures (some_left_of c.past_blanks-text.result.now c.is_empty.result c.is_empty.ensures c.if-is_empty.false) c.word_len.ensures c.split_at.ensures.front c.split_at.ensures.back

pub returns-clause-ascii : goal.returns-clause-ascii
returns-clause-ascii c =
    word_ascii c.args.text.now c.past_blanks-text.result.now c.split_at.result.0.now c.split_at.result.1.now c.word_len.result c.past_blanks-text.ensures c.split_at.ensures.front c.split_at.ensures.back
