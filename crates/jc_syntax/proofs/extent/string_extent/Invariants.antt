use Rattle.std.proofs.Common.{◌≡◌, ◌+◌, ◌*◌, ◌-◌, ◌<◌, ◌≤◌, List, length}
use Rattle.jc_syntax.specs.declared.piece.Piece.{Piece}
use Rattle.jc_syntax.specs.Strings.{spelled, ArePieces}
use Rattle.jc_syntax.proofs.extent.string_extent.Given as goal

abbrev pub invariant-pieces : goal.invariant-pieces
invariant-pieces l =
    (l.quote < l.at) × (l.at ≤ length l.bytes + 12) × (l.size ≤ 4 * l.at)
    × (ps : List Piece) × ArePieces l.bytes (l.quote + 1) ps l.at × (l.size ≡ length (spelled ps))

abbrev pub decreases-pieces : goal.decreases-pieces
decreases-pieces l = length l.bytes + 12 - l.at
