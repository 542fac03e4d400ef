-- What contracts see of a recorded network, and what its type keeps: `Recorded`'s view and invariant.
use Rattle.std.specs.Prelude.{◌≡◌, ℕ, ◌≤◌, List, [], length, refl}
use Rattle.std.specs.Coded.{Coded, code_by, coded×, coded_ℕ, coded_list}
use Rattle.jc_rules.specs.declared.limits.TheConstants.{MAX_EVENTS}
use Rattle.jc_rules.specs.declared.operation.Event.{Event}
use Rattle.jc_rules.specs.contracts.operation.Event.{the_row as event_row}
use Rattle.jc_rules.specs.declared.version.Version.{Version}
use Rattle.jc_rules.specs.contracts.version.Version.{the_row as version_row}
use Rattle.jc_rules.specs.Syntax.{Cmd}
use Rattle.jc_replica.specs.Codes.{cmd_code}
use Rattle.jc_network.specs.NetworkHistory.{NetworkHistory, network_history_code}
use Rattle.jc_scenario.specs.WellFormed.{Scenario}
use Rattle.jc_choice.specs.Legal.{IsLegal}

-- a network, the events that were made, and the scenario from whose start they were made
pub record Recording : Type 0 where
  pub net : NetworkHistory
  pub schedule : List Event
  pub start : Scenario

abbrev pub scenario_code : Coded Scenario
scenario_code =
    code_by (Version × (List (List ℕ) × (List (List Cmd) × (List Event × List Event))))
    (coded× version_row.coded
    (coded× (coded_list (coded_list coded_ℕ))
    (coded× (coded_list (coded_list cmd_code)) (coded× (coded_list event_row.coded) (coded_list event_row.coded)))))
    (λ s. (s.version, (s.names, (s.scripts, (s.given, s.schedule)))))
    (λ t. record { version = t.0; names = t.1.0; scripts = t.1.1.0; given = t.1.1.1.0; schedule = t.1.1.1.1 })
    (λ _. refl)

abbrev pub recording_code : Coded Recording
recording_code =
    code_by (NetworkHistory × (List Event × Scenario))
    (coded× network_history_code (coded× (coded_list event_row.coded) scenario_code))
    (λ r. (r.net, (r.schedule, r.start)))
    (λ t. record { net = t.0; schedule = t.1.0; start = t.1.1 })
    (λ _. refl)

abbrev pub recording : NetworkHistory → List Event → Scenario → Recording
recording net schedule start = record { net = net; schedule = schedule; start = start }

-- The events lead from the start to the network, from which nothing can be taken back, and there aren't too many.
pub record IsRecorded (net : NetworkHistory) (schedule : List Event) (start : Scenario) : Type 0 where
  pub legal : IsLegal schedule start net.history.now
  pub named : net.names ≡ start.names
  pub begun : net.history.earlier ≡ []
  pub small : length schedule ≤ MAX_EVENTS
