use Rattle.std.proofs.Common.{◌≡◌, ◌++◌, length, string_bytes}
use denote.Text.{Utf8}
use denote.Shadow.{shadow}
use Rattle.jc_printer.specs.Canon.{escape}
use Rattle.jc_printer.proofs.quote.push_content.Given as goal

-- what is written, and what is still to be written
abbrev pub invariant-runs : goal.invariant-runs
invariant-runs l = shadow (Utf8 l.rest) × (string_bytes l.out ++ escape l.rest ≡ string_bytes l.fn.out ++ escape l.text)

abbrev pub decreases-runs : goal.decreases-runs
decreases-runs l = length l.rest
