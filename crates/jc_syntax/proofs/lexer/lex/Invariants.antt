use Rattle.std.proofs.Common.{◌-◌, ◌≤◌, length}
use Rattle.jc_syntax.specs.Lexemes.{AreTokens}
use Rattle.jc_syntax.proofs.lexer.lex.Given as goal

abbrev pub invariant-tokens : goal.invariant-tokens
invariant-tokens l = (l.at ≤ length l.bytes) × AreTokens l.bytes 0 l.tokens.items l.at

abbrev pub decreases-tokens : goal.decreases-tokens
decreases-tokens l = length l.bytes - l.at
