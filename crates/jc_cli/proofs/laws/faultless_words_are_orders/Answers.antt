use Rattle.jc_cli.proofs.LawsLemmas.{faultless_are_orders}
use Rattle.jc_cli.proofs.laws.faultless_words_are_orders.Goals as goal

pub returns : goal.returns
returns c = faultless_are_orders
