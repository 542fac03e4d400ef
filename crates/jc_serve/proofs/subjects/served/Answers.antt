use Rattle.std.proofs.Common.{refl}
use Rattle.jc_scenario.specs.Views.{scenario_view}
use Rattle.jc_serve.proofs.SubjectsLemmas.{new_session_for}
use Rattle.jc_serve.proofs.subjects.served.Goals as goal

pub second-requires-clause-starts : goal.second-requires-clause-starts
second-requires-clause-starts c = (c.args.here.net.history.now, c.requires.started.start)

pub returns : goal.returns
returns c =
    new_session_for (scenario_view c.args.scenario)
    (record { scenario = c.args.scenario; here = c.args.here; aside = c.in_ok-aside.aside; marks = c.in_ok-marks.marks })
    refl c.requires.formed c.requires.started c.requires.session c.in_ok-aside.ensures.started c.in_ok-aside.ensures.session c.in_ok-marks.ensures.0 c.in_ok-marks.ensures.1
