use Rattle.jc_program.proofs.PromiseFactsLemmas.{alone_promise_gives_facts}
use Rattle.jc_program.proofs.laws.alone_promise_gives_facts.Goals as goal

pub returns : goal.returns
returns c = alone_promise_gives_facts c.faultless_words_are_orders.ensures
