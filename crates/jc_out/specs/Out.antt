-- What an output was given: `Out` cites it, and what writes over outputs.
use Rattle.std.specs.Prelude.{◌≡◌, ℕ, List, ◌++◌, Bool, true, false}
use Rattle.std.specs.Borrow.{GName}
use Rattle.jc_io.specs.declared.io.Sink.{Ghosts as SinkGhosts}
use Rattle.jc_out.specs.declared.output.Out.{Out}
use Rattle.jc_io.specs.Written.{Stream, sink, Wrote, WrotePart}

-- An output: the name of the reference through which it writes, what is known of the sink behind this, the bytes that
-- are held for the sink, and whether a write failed.
pub record OutState : Type 0 where
  pub reference : GName
  pub stream : Stream
  pub held : List ℕ
  pub is_broken : Bool

abbrev pub output : {K : Type 0} → SinkGhosts K → Out K → OutState
output g o = record {
  reference = o.sink.ghost_name;
  stream = sink g o.sink.now;
  held = o.held.now.items;
  is_broken = o.is_broken;
}

abbrev pub GaveBy : Bool → List ℕ → List ℕ → Stream → Stream → Type 0
GaveBy false text held first now = (sent : List ℕ) × (text ≡ sent ++ held) × Wrote sent first now
GaveBy true text held first now = WrotePart text first now

-- Since the sink was the first stream, the output was given this text. It was written, but for an end that is held; or
-- one write failed, and a prefix was written, and not the whole.
abbrev pub GaveText : List ℕ → Stream → OutState → Type 0
GaveText text first o = GaveBy o.is_broken text o.held first o.stream

-- The output was given this text too, whatever it was given before. It writes through the same reference.
abbrev pub AddsText : List ℕ → OutState → OutState → Type 0
AddsText text old new =
    (new.reference ≡ old.reference)
    × ((first : Stream) (before : List ℕ) → GaveText before first old → GaveText (before ++ text) first new)
