use Rattle.std.proofs.Common.{◌≡◌, map, string_bytes, take}
use Rattle.jc_cli.proofs.reading.said_by.Given as goal

abbrev pub invariant-loop-word : goal.invariant-loop-word
invariant-loop-word l = map (λ s. s.now) l.said.items ≡ map string_bytes (take l.word-index l.words)
