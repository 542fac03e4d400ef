use Rattle.jc_syntax.proofs.LexemesLemmas as tokens
use Rattle.jc_syntax.proofs.laws.one_list_of_tokens.Goals as goal

pub returns : goal.returns
returns c = tokens.one_list
