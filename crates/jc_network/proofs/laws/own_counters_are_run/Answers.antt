use Rattle.std.proofs.Common.{◌++◌}
use Rattle.jc_rules.proofs.VersionLemmas.{after_states}
use Rattle.jc_rules.specs.History.{first_of}
use Rattle.jc_network.specs.Given.{before_given}
use Rattle.jc_network.proofs.CountersLemmas.{run_counted}
use Rattle.jc_network.proofs.AfterLemmas.{after_more}
use Rattle.jc_network.proofs.laws.own_counters_are_run.Goals as goal

pub returns : goal.returns
returns c = λ s net start begun o k.
    let events = s.given ++ begun.events in
    let led = after_more (before_given s) s.given (first_of net.history) begun.events net.history.now start begun.led in
    run_counted s.scripts net.history.now.states (events, after_states (before_given s) events net.history.now led) o k
