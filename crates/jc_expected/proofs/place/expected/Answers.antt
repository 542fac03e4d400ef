use Rattle.std.proofs.Common.{[], map}
use Rattle.std.proofs.lemmas.Result.{IfOk-weaker}
use Rattle.jc_printer.specs.Canon.{quoted}
use Rattle.jc_expected.specs.Expected.{told}
use Rattle.jc_expected.proofs.ExpectedLemmas.{going_on, is_test, both}
use Rattle.jc_expected.proofs.place.expected.Goals as goal

pub returns : goal.returns
returns c =
    let goes_on = going_on c.scenario_else_fault.ensures c.args.text.now c.args.at in
    let test = is_test c.scenario_else_fault.ensures c.scenario_or_fault.ensures c.one_fault.ensures c.args.text.now c.args.at in
    let pushed = both (both c.in_ok-push_words.ensures c.in_ok-push_kinds.ensures) c.in_ok-push_those.ensures in
    IfOk-weaker c.end.result _ _ (λ list h.
    record { goes_on = goes_on; test = test; is = h (map quoted (told goes_on)) (pushed.more goes_on test [] c.in_ok-list.ensures) }) c.end.ensures
