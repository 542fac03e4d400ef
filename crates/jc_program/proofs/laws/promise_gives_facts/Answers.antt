use Rattle.jc_program.proofs.PromiseFactsLemmas.{promise_gives_facts}
use Rattle.jc_program.proofs.laws.promise_gives_facts.Goals as goal

pub returns : goal.returns
returns c = promise_gives_facts c.faultless_words_are_orders.ensures
