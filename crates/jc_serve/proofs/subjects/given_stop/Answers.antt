use Rattle.std.proofs.Common.{◌-◌, refl}
use Rattle.jc_scenario.specs.Views.{scenario_view}
use Rattle.jc_serve.proofs.SubjectsLemmas.{new_stop}
use Rattle.jc_serve.proofs.subjects.given_stop.Goals as goal

pub returns : goal.returns
returns c =
    new_stop (scenario_view c.args.scenario) c.args.at c.args.stuck c.requires.stuck
    (record { scenario = c.args.scenario; count = c.args.at - 1; net = c.in_ok-net.net; stuck = c.args.stuck })
    c.requires.formed refl refl c.in_ok-net.ensures.names c.in_ok-net.ensures.leads refl
