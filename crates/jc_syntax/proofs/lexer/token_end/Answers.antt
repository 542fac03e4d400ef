use Rattle.std.proofs.Common.{sym, ◌∙◌}
use Rattle.jc_syntax.proofs.TokenEndsLemmas.{only_end}
use Rattle.jc_syntax.proofs.lexer.token_end.Goals as goal

pub returns-clause-only : goal.returns-clause-only
returns-clause-only c =
    only_end c.run_end.result c.args.text.now c.args.at c.in_ok-kind.kind (sym c.kind_at.ensures ∙ c.in_ok-kind.was) c.run_end.ensures.end
