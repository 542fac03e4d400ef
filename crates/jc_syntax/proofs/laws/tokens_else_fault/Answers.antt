use Rattle.jc_syntax.proofs.LexemesDecideLemmas.{list_else_fault}
use Rattle.jc_syntax.proofs.laws.tokens_else_fault.Goals as goal

pub returns : goal.returns
returns c = list_else_fault
