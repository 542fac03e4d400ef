-- What was written of a text, by what is known of a stream: the clauses of sessions and of the program cite it.
use Rattle.std.specs.Prelude.{◌≡◌, ℕ, ◌+◌, ◌⊎◌, List, Option}
use Rattle.std.specs.Io.KnownBytes.{Appends}
use Rattle.jc_io.specs.Streams.{AppendsIfKnown, AppendsPrefix}
use Rattle.jc_io.specs.declared.io.Sink.{Ghosts as SinkGhosts}

-- What is known of a stream: the bytes that are left to be read, or that were written, where these are known; and how
-- many of its calls have failed.
pub record Stream : Type 0 where
  pub bytes : Option (List ℕ)
  pub failures : ℕ

abbrev pub sink : {S : Type 0} → SinkGhosts S → S → Stream
sink g s = record { bytes = g.taken s; failures = g.failures s }

-- The text was written, and nothing failed.
abbrev pub Wrote : List ℕ → Stream → Stream → Type 0
Wrote text old new = Appends old.bytes new.bytes text × (new.failures ≡ old.failures)

-- One write of the text failed: a prefix of it was written, and not the whole.
abbrev pub WrotePart : List ℕ → Stream → Stream → Type 0
WrotePart text old new = AppendsPrefix old.bytes new.bytes text × (new.failures ≡ old.failures + 1)

-- The text was written, and the one flush after it failed.
abbrev pub WroteUnflushed : List ℕ → Stream → Stream → Type 0
WroteUnflushed text old new = AppendsIfKnown old.bytes new.bytes text × (new.failures ≡ old.failures + 1)

-- The text was written, whole or up to the one write that failed.
abbrev pub Sent : List ℕ → Stream → Stream → Type 0
Sent text old new = Wrote text old new ⊎ WrotePart text old new

-- The text was to be written and flushed, and one of these failed.
abbrev pub Interrupted : List ℕ → Stream → Stream → Type 0
Interrupted text old new = WrotePart text old new ⊎ WroteUnflushed text old new

-- the whole of a text of this kind was written
abbrev pub Written : (List ℕ → Type 0) → Stream → Stream → Type 0
Written IsText old new = (text : List ℕ) × IsText text × Wrote text old new

-- a prefix of such a text, up to the one write that failed, and not the whole
abbrev pub WrittenInPart : (List ℕ → Type 0) → Stream → Stream → Type 0
WrittenInPart IsText old new = (text : List ℕ) × IsText text × WrotePart text old new
