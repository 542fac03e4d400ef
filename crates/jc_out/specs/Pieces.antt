-- The pieces that a task has to write, and what was written of them: `Out::end` cites it.
use Rattle.std.specs.Prelude.{ℕ, List, [], ◌∷◌, ◌++◌, Bool, true, false, take}
use Rattle.jc_io.specs.Written.{Stream, Wrote, WrotePart}
use Rattle.jc_out.specs.Out.{OutState}

-- the pieces, one behind another
abbrev pub pieces_text : List (List ℕ) → List ℕ
pieces_text [] = []
pieces_text (piece ∷ pieces) = piece ++ pieces_text pieces

abbrev pub EndsBy : Bool → ℕ → List (List ℕ) → Stream → Stream → Type 0
EndsBy false n pieces first now = Wrote (pieces_text (take n pieces)) first now
EndsBy true n pieces first now = WrotePart (pieces_text pieces) first now

-- Since the sink was the first stream, the first n pieces were written; or one write failed, and a prefix of all pieces
-- was written, and not the whole.
abbrev pub EndsAfter : ℕ → List (List ℕ) → Stream → OutState → Type 0
EndsAfter n pieces first o = EndsBy o.is_broken n pieces first o.stream
