use Rattle.std.proofs.Common.{◌≡◌, take}
use Rattle.jc_parser.proofs.scenarios.copy_events.Given as goal

-- the events before the index were copied
abbrev pub invariant-loop-event : goal.invariant-loop-event
invariant-loop-event l = l.copies.items ≡ take l.event-index l.events
