use denote.Param.Send.{sendable}
use Rattle.jc_runner.proofs.CrossesLemmas.{closure_send, worked_send}
use Rattle.jc_runner.proofs.starting.start.Goals as goal

pub spawn_with-requires-send-F : goal.spawn_with-requires-send-F
spawn_with-requires-send-F g c κs within =
    let closure = closure_send _ _ _ _ c.type_bounds.sync-R c.type_bounds.send-G in
    record { owned = closure.owned; leaving = closure.leaving }

pub spawn_with-requires-send-T : goal.spawn_with-requires-send-T
spawn_with-requires-send-T g c κs within = search (sendable, worked_send) depth 20
