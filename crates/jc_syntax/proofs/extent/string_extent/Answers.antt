use Rattle.std.proofs.Common.{◌≡◌, ◌+◌, ◌++◌, ◌∷◌, [], inr, length, length-append, refl, sym, ap, ◌∙◌, arith}
use Rattle.jc_syntax.specs.Strings.{piece_bytes, spelled}
use Rattle.jc_syntax.proofs.StringsPiecesLemmas.{pieces_more, spelled_more}
use Rattle.jc_syntax.proofs.extent.string_extent.Goals as goal

-- the piece is the next one
pub pieces-preserved : goal.pieces-preserved
pieces-preserved c =
    let len = c.in_ok-piece.ensures.len in
    let so_far = c.pieces.invariant in
    let piece = c.in_ok-piece.piece in
    let ps = so_far.3 in
    let size : length (spelled (ps ++ piece ∷ [])) ≡ length (spelled ps) + length (piece_bytes piece) =
    ap length (spelled_more piece ps) ∙ length-append (spelled ps) (piece_bytes piece) in (
      omega (arith, so_far.0, len.0, c.len-at.ensures),
      omega (arith, len.1, c.pieces-test.true, c.len-at.ensures),
      omega (arith, so_far.2, len.0, c.len-at.ensures, c.size-size.ensures.small),
      ps ++ piece ∷ [],
      rw c.len-at.ensures (pieces_more c.args.bytes.now (c.args.quote + 1) c.pieces.at piece ps so_far.4 c.pieces-test.true c.if-bytes-at-eq34.false (sym c.in_ok-piece.ensures.value)),
      omega (arith, so_far.5, size, c.size-size.ensures.size),
    )

-- no quote follows the pieces
pub returns-clause-malformed : goal.returns-clause-malformed
returns-clause-malformed c =
    record { pieces = c.pieces.invariant.3; place = c.pieces.at; between = c.pieces.invariant.4; stops = inr (omega (arith, c.pieces-test.false), refl) }
