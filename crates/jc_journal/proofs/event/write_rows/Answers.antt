use Rattle.json.specs.Token as T
use Rattle.jc_json.proofs.GainsLemmas.{gains_one}
use Rattle.jc_journal.proofs.TokensLemmas.{rows_written}
use Rattle.jc_journal.proofs.event.write_rows.Goals as goal

pub returns : goal.returns
returns c =
    let begun = gains_one c.begin_array.result c.args.out.now c.begin_array.new.self T.begin_array c.in_ok-begin_array.field-0 c.in_ok-begin_array.was c.begin_array.ensures in
    rows_written c.end_array.result _ _ _ _ c.args.runs.now c.loop-run.run-index c.loop-run-test.false begun c.loop-run.invariant c.end_array.ensures
