use Rattle.std.proofs.Common.{◌<◌, ◌≤◌, inl, length, refl, arith}
use Rattle.jc_syntax.specs.Lexemes.{AreTokensOf}
use Rattle.jc_syntax.proofs.LexemesLemmas.{tokens_more, lexeme_later, each_token}
use Rattle.jc_syntax.proofs.lexer.lex.Goals as goal

-- the token is the next lexeme
pub tokens-preserved : goal.tokens-preserved
tokens-preserved c =
    let t = c.in_ok-token.token in
    let is = c.in_ok-token.ensures.token in
    let so_far = c.tokens.invariant in
    let more : c.tokens.at < length c.as_bytes-bytes.result.now = omega arith in
    let skipped = c.skip_blanks-at-in-tokens.ensures in (
      skipped.within,
      rw (c.in_ok-push.ensures.items, skipped.place) (tokens_more c.as_bytes-bytes.result.now 0 c.tokens.at t c.tokens.tokens.items so_far.1 is.0 more is.1),
    )

-- the token has at least one byte
pub tokens-smaller : goal.tokens-smaller
tokens-smaller c =
    let t = c.in_ok-token.token in
    let is = c.in_ok-token.ensures.token in
    let inside : t.start < length c.as_bytes-bytes.result.now = omega (arith, is.0) in
    omega (arith, is.0, lexeme_later c.as_bytes-bytes.result.now t inside is.1, c.skip_blanks-at-in-tokens.ensures.from)

-- the text is longer than it may be
pub returns-then-bytes-gt-MAX_TEXT-clause-fault : goal.returns-then-bytes-gt-MAX_TEXT-clause-fault
returns-then-bytes-gt-MAX_TEXT-clause-fault c kept = inl (omega (arith, c.if-bytes-gt-MAX_TEXT.true, c.as_bytes-bytes.ensures.len), refl)

-- the tokens end where the text does
pub returns-clause-tokens : goal.returns-clause-tokens
returns-clause-tokens c =
    let room : length c.as_bytes-bytes.result.now ≤ 8388608 = omega arith in
    let here : AreTokensOf c.as_bytes-bytes.result.now c.tokens.tokens.items = (room, c.tokens.at, c.tokens.invariant.1, omega (arith, c.tokens-test.false)) in
    rw c.as_bytes-bytes.ensures.value at here

pub returns-clause-each : goal.returns-clause-each
returns-clause-each c =
    let room : length c.as_bytes-bytes.result.now ≤ 8388608 = omega arith in
    rw c.as_bytes-bytes.ensures.value at (each_token c.as_bytes-bytes.result.now 0 c.tokens.at c.tokens.tokens.items room c.tokens.invariant.1)
