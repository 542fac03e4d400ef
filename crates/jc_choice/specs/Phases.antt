-- The phase of a replica is a function of the last event that it made.
use Rattle.std.specs.Prelude.{◌+◌, List, [], ◌∷◌, Option, Some, None}
use Rattle.jc_rules.specs.declared.operation.Event.{Event}
use Rattle.jc_rules.specs.declared.operation.Event.TheVariants as E
use Rattle.jc_choice.specs.declared.phase.Phase.{Phase}
use Rattle.jc_choice.specs.declared.phase.Phase.TheVariants as P

abbrev pub last_event_of : List Event → Option Event
last_event_of [] = None
last_event_of (e ∷ []) = Some e
last_event_of (e ∷ f ∷ es) = last_event_of (f ∷ es)

abbrev pub phase_after : Option Event → Phase
phase_after None = P.Start
phase_after (Some (E.Exec p)) = P.Start
phase_after (Some (E.Send p)) = P.Receiving 0
phase_after (Some (E.Recv p q)) = P.Receiving (q + 1)
phase_after (Some (E.Take p q i)) = P.Start
phase_after (Some (E.Apply p i)) = P.Applying
phase_after (Some (E.Done p)) = P.Start
