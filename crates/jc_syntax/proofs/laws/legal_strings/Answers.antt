use Rattle.jc_syntax.proofs.StringsUtf8Lemmas.{string_legal}
use Rattle.jc_syntax.proofs.laws.legal_strings.Goals as goal

pub returns : goal.returns
returns c = string_legal
