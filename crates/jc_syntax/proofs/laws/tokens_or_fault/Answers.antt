use Rattle.jc_syntax.proofs.LexemesLemmas as tokens
use Rattle.jc_syntax.proofs.laws.tokens_or_fault.Goals as goal

pub returns : goal.returns
returns c = tokens.list_or_fault
