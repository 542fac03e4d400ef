use Rattle.std.proofs.Common.{◌-◌, length, string_bytes}
use Rattle.jc_syntax.specs.Lexemes.{token_content}
use Rattle.jc_syntax.proofs.StringsDecodeLemmas.{IsLeft}
use Rattle.jc_syntax.proofs.content.string_of.Given as goal

abbrev pub invariant-runs : goal.invariant-runs
invariant-runs l = IsLeft l.text (l.token.stop - 1) l.at (string_bytes l.content) (token_content l.text l.token)

abbrev pub decreases-runs : goal.decreases-runs
decreases-runs l = length l.text - l.at
