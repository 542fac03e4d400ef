use Rattle.std.proofs.lemmas.Result.{IfOk-weaker}
use Rattle.jc_expected.proofs.ExpectedLemmas.{scenario_begins, fault_begins}
use Rattle.jc_expected.proofs.trying.is_beginning.Goals as goal
use Rattle.jc_expected.proofs.trying.is_beginning.Goals.{in-Ok, in-Err}

pub returns : goal.returns
returns c =
    let text = c.args.text.now in
    elim c.match-read.branch [
      | in-Ok w ↦ rw w.result-is (scenario_begins text _ (rw w.in-Ok.is at c.read.ensures.scenario))
      | in-Err w ↦
          rw w.result-is (IfOk-weaker w.leaves_open.result _ _ (fault_begins text _ c.scenario_or_fault.ensures c.one_fault.ensures (rw w.in-Err.is at c.read.ensures.fault)) w.leaves_open.ensures)
    ]
