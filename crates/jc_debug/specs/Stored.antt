-- The code of a debugger's view, which its `Model` needs.
use Rattle.std.specs.Prelude.{List, Option, refl}
use Rattle.std.specs.Coded.{Coded, code_by, coded×, coded_list, coded_option}
use Rattle.jc_rules.specs.declared.operation.Event.{Event}
use Rattle.jc_rules.specs.contracts.operation.Event.{the_row as event_row}
use Rattle.jc_rules.specs.Trace.{Rows, rows_code}
use Rattle.jc_network.specs.NetworkHistory.{NetworkHistory, network_history_code}
use Rattle.jc_debug.specs.declared.breaks.Break.{Break}
use Rattle.jc_debug.specs.contracts.breaks.Break.{the_row as break_row}
use Rattle.jc_debug.specs.Invariant.{Seen}

abbrev SeenFields : Type 0
SeenFields = NetworkHistory × (List Event × (List Rows × List (Option Break)))

abbrev seen_fields_code : Coded SeenFields
seen_fields_code =
    coded× network_history_code
    (coded× (coded_list event_row.coded) (coded× (coded_list rows_code) (coded_list (coded_option break_row.coded))))

abbrev seen_fields : Seen → SeenFields
seen_fields d = (d.net, (d.schedule, (d.traces, d.breaks)))

abbrev seen_with_fields : SeenFields → Seen
seen_with_fields f = record { net = f.0; schedule = f.1.0; traces = f.1.1.0; breaks = f.1.1.1 }

abbrev pub seen_code : Coded Seen
seen_code = code_by SeenFields seen_fields_code seen_fields seen_with_fields (λ _. refl)
