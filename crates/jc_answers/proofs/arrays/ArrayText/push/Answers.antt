use Rattle.jc_answers.proofs.JsonTextsLemmas.{appended, item_pushed}
use Rattle.jc_answers.proofs.arrays.ArrayText.push.Goals as goal

pub returns : goal.returns
returns c =
    let separated = c.separate.new.self in
    item_pushed c.extend_from_slice.result c.args.self.now (record { text = c.extend_from_slice.new.self; begun = separated.begun }) separated.text.items c.args.text.now c.in_ok-separate.ensures.text c.in_ok-separate.ensures.begun
    (appended c.extend_from_slice.result separated.text.items c.extend_from_slice.new.self.items c.args.text.now c.extend_from_slice.ensures.items)
