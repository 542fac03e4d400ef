use Rattle.std.proofs.Common.{rules}
use Rattle.jc_syntax.proofs.lexer.token_at.Goals as goal

-- a token that keeps its limit
pub returns-clause-token : goal.returns-clause-token
returns-clause-token c = search rules
