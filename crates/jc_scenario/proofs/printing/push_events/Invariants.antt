use Rattle.std.proofs.Common.{◌≡◌, ◌++◌, take, string_bytes}
use Rattle.jc_scenario.specs.Canon.{canon_events}
use Rattle.jc_scenario.proofs.printing.push_events.Given as goal

-- the events before the index were written
abbrev pub invariant-loop-event : goal.invariant-loop-event
invariant-loop-event l = string_bytes l.out ≡ string_bytes l.initial.out ++ canon_events l.names (take l.event-index l.events)
