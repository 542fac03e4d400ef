use Rattle.std.proofs.Common.{take}
use Rattle.jc_scenario.specs.Resolved.{AreResolved}
use Rattle.jc_scenario.proofs.reading.resolved.Given as goal

-- the events before the index are resolved
abbrev pub invariant-loop-event : goal.invariant-loop-event
invariant-loop-event l = AreResolved l.names (take l.event-index l.events) l.numbered.items
