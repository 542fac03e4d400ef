-- About the types of this crate: a recorded network, a bench and a thread's result may cross threads.
use base.Fml.{Lft}
use denote.Exit.{no}
use denote.RattleType.{RattleType}
use denote.Param.{arg, param}
use denote.Param.Send.{IsSend, IsSync, sendable, arg_send, param_send, shr_send}
use denote.Param.SendFields.{as_row_send, declared_send}
use denote.Struct.Field.{row_field}
use denote.Struct.Tuple.{TupleAt, type_at}
use denote.Ref.{ShrRef}
use mathlib.Core.List.{[], ◌∷◌}
use mir.Syntax.{static, ty_unit}
use Rattle.std.proofs.Crossing.{crosses, Box-send}
use Rattle.std.proofs.MapsCrossing as maps
use Rattle.jc_rules.proofs.id_set.IdSet.TheSendSync as id_set
use Rattle.jc_rules.proofs.operation.Event.TheSendSync as event
use Rattle.jc_rules.proofs.operation.Op.TheSendSync as op
use Rattle.jc_rules.proofs.text.Text.TheSendSync as text
use Rattle.jc_rules.proofs.value.Value.TheSendSync as value
use Rattle.jc_rules.proofs.version.Version.TheSendSync as version
use Rattle.jc_cursor.proofs.bound.Bound.TheSendSync as bound
use Rattle.jc_replica.proofs.received.Received.TheSendSync as received
use Rattle.jc_replica.proofs.record.Record.TheSendSync as recorded_step
use Rattle.jc_tree.proofs.arena.ArenaTree.TheSendSync as arena
use Rattle.jc_syntax.specs.contracts.tree.Expr.{the_field as expr_field}
use Rattle.jc_syntax.specs.contracts.tree.Cmd.{the_row as cmd_row}
use Rattle.jc_syntax.proofs.tree.Expr.TheLaws.TheKnot.{send-Expr}
use Rattle.jc_scenario.specs.contracts.scenario.Scenario.{the_field as scenario_field}
use Rattle.jc_network.specs.contracts.net.Net.{the_row as net_row}
use Rattle.jc_rules.specs.contracts.operation.Event.{the_row as event_row}
use Rattle.jc_lock.specs.contracts.lock.Pass as Pass
use Rattle.jc_lock.proofs.lock.HistoryLock.TheSendSync as lock
use Rattle.jc_lock.proofs.lock.Pass.TheSendSync as pass
use Rattle.jc_runner.specs.contracts.bench.Bench.{the_row as bench_row}
use Rattle.jc_runner.specs.contracts.recorded.Beginning.{the_row as beginning_row}
use Rattle.jc_runner.specs.contracts.recorded.Recorded.{the_row as recorded_row}
use Rattle.jc_runner.specs.contracts.recorded.RecordedKept.TheImpl.{ghosts}
use Rattle.jc_runner.specs.contracts.worker.Worked.{the_row as worked_row}
use Rattle.jc_choice.proofs.end.End.TheSendSync as end

pub ruleset parts = (id_set.the_send, event.the_send, event.the_field_send, op.the_send, text.the_send, value.the_send, value.the_field_send, version.the_send, version.the_field_send, bound.the_send, bound.the_field_send, received.the_send, recorded_step.the_send, arena.the_send)

pub expr_field_send : IsSend (expr_field).row
expr_field_send = send-Expr (search (sendable, parts)) Box-send (search sendable)

pub cmd_send : IsSend cmd_row
cmd_send = search (sendable, crosses, parts, expr_field_send) depth 20

pub scenario_field_send : IsSend (scenario_field).row
scenario_field_send = search (sendable, crosses, parts, cmd_send) depth 20

pub net_send : IsSend net_row
net_send = search (sendable, crosses, maps.crosses, parts, cmd_send) depth 30

pub recorded_send : IsSend recorded_row
recorded_send = search (sendable, crosses, parts, net_send, scenario_field_send) depth 20

pub bench_sync : IsSync bench_row
bench_sync = search (sendable, crosses, lock.the_field_sync, recorded_send) depth 20

pub pass_send : IsSend (Pass.the_row recorded_row event_row beginning_row ghosts)
pass_send = search (sendable, crosses, pass.the_send, recorded_send) depth 20

pub worked_send : IsSend worked_row
worked_send = search (sendable, crosses, pass.the_field_send, end.the_field_send, recorded_send) depth 20

-- A closure that borrows the runtime and the bench, and owns a pass and a gate. The names of the closure and of its
-- lifetimes don't matter.
pub closure_send : (κ ν : Lft) (R G : RattleType) → IsSync R → IsSend G
    → IsSend (param 2 (arg ty_unit no (TupleAt [] (ShrRef static κ R ∷ ShrRef static ν bench_row ∷ Pass.the_row recorded_row event_row beginning_row ghosts ∷ G ∷ []))))
closure_send κ ν R G sync send =
    param_send 2 _ (arg_send ty_unit no _ (declared_send (type_at [] (ShrRef static κ R ∷ ShrRef static ν bench_row ∷ Pass.the_row recorded_row event_row beginning_row ghosts ∷ G ∷ []))
    (as_row_send (row_field _) (shr_send static κ R sync), (as_row_send (row_field _) (shr_send static ν bench_row bench_sync), (as_row_send (row_field _) pass_send, (as_row_send (row_field _) send, tt))))))
