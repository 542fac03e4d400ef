use Rattle.std.proofs.Common.{decimal}
use Rattle.jc_answers.proofs.JsonTextsLemmas.{item_pushed}
use Rattle.jc_answers.proofs.arrays.ArrayText.push_number.Goals as goal

pub returns : goal.returns
returns c =
    let separated = c.separate.new.self in
    item_pushed c.push_number.result c.args.self.now (record { text = c.push_number.new.out; begun = separated.begun }) separated.text.items (decimal c.args.n) c.in_ok-separate.ensures.text c.in_ok-separate.ensures.begun c.push_number.ensures
