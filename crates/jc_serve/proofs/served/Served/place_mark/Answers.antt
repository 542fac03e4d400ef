use Rattle.std.proofs.Common.{ap, refl, arith}
use Rattle.std.proofs.Common.{length}
use Rattle.std.proofs.lemmas.Option.{slice_get_within}
use Rattle.std.proofs.lemmas.Result.{err_from_is_err_and}
use Rattle.jc_serve.proofs.BreakpointsLemmas.{bad_place, valueless, no_cursor_at, place_found}
use Rattle.jc_serve.proofs.served.Served.place_mark.Goals as goal

pub returns-in_err-replica : goal.returns-in_err-replica
returns-in_err-replica c =
    let q = err_from_is_err_and c.from_residual.result c.from_residual.ensures.1 in
    rw (q.1, q.2) (bad_place c.net-net.result.now c.args.self.now.here.net c.net-net.ensures.net c.names.result.now c.names.ensures.names c.args.name.now c.args.expression.now _ c.in_err-replica.ensures)

pub value_of-requires : goal.value_of-requires
value_of-requires c =
    let within = slice_get_within c.names.result.now c.in_ok-replica.replica c.args.name.now c.in_ok-replica.ensures.0 in
    let each = c.names.ensures.each in
    let many = ap length c.names.ensures.names in
    omega (arith, within, each, many)

pub returns-in_err-cursor : goal.returns-in_err-cursor
returns-in_err-cursor c =
    let q = err_from_is_err_and c.from_residual-in_err-cursor.result c.from_residual-in_err-cursor.ensures.1 in
    rw (q.1, q.2) (valueless c.net-net.result.now c.args.self.now.here.net c.net-net.ensures.net c.names.result.now c.names.ensures.names c.args.name.now c.args.expression.now c.in_ok-replica.replica c.in_ok-replica.parsed c.in_ok-replica.ensures.0 c.in_ok-replica.ensures.1 _ c.in_err-cursor.ensures)

pub returns-in-Cursor : goal.returns-in-Cursor
returns-in-Cursor c = (
  c.in_ok-replica.replica,
  c.in-Cursor.cursor,
  refl,
  place_found c.net-net.result.now c.args.self.now.here.net c.net-net.ensures.net c.names.result.now c.names.ensures.names c.args.name.now c.args.expression.now c.in_ok-replica.replica c.in_ok-replica.parsed c.in_ok-replica.ensures.0 c.in_ok-replica.ensures.1 c.in_ok-cursor.field-0 c.in-Cursor.cursor c.in-Cursor.is c.in_ok-cursor.ensures,
)

pub returns : goal.returns
returns c =
    no_cursor_at c.net-net.result.now c.args.self.now.here.net c.net-net.ensures.net c.names.result.now c.names.ensures.names c.args.name.now c.args.expression.now c.in_ok-replica.replica c.in_ok-replica.parsed c.in_ok-replica.ensures.0 c.in_ok-replica.ensures.1 c.in_ok-cursor.field-0 c.of.result c.in_default.not-Cursor c.in_ok-cursor.ensures c.of.ensures
