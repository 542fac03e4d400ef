use Rattle.jc_printer.specs.Canon.{quoted}
use Rattle.jc_answers.proofs.JsonTextsLemmas.{item_pushed}
use Rattle.jc_answers.proofs.arrays.ArrayText.push_string.Goals as goal

pub returns : goal.returns
returns c =
    let separated = c.separate.new.self in
    item_pushed c.push_string.result c.args.self.now (record { text = c.push_string.new.out; begun = separated.begun }) separated.text.items (quoted c.args.s.now) c.in_ok-separate.ensures.text c.in_ok-separate.ensures.begun c.push_string.ensures
