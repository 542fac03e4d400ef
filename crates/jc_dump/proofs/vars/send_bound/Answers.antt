use Rattle.std.proofs.Common.{◌≡◌, IfOk, codes, sym, subst}
use Rattle.std.proofs.lemmas.Result.{on_ok_weaker}
use Rattle.serde_json.specs.Events.{SendsValue}
use Rattle.serde_json.specs.View.{view}
use Rattle.jc_cursor.specs.declared.bound.Bound.{Bound}
use Rattle.jc_cursor.specs.Bounds.{bound_of}
use Rattle.jc_json.specs.Json.{texts_data}
use Rattle.jc_json.proofs.PartsSendLemmas.{one_sent}
use Rattle.jc_dump.specs.Dump.{cursor_data, pairs_data, bound_data}
use Rattle.jc_dump.proofs.vars.send_bound.Goals as goal
use Rattle.jc_dump.proofs.vars.send_bound.Goals.{in-Cursor+in_ok-key-in-Cursor+in_ok-send_value-in-Cursor, in-Keys+in_ok-key-in-Keys+in_ok-send_keys-in-Keys, in-Values+in_ok-key-in-Values+in_ok-send_value-in-Values}

pub returns : goal.returns
returns g c =
    let names = c.args.names.now in
    let old = g.W.Serializer.written c.args.out.now in
    let end = g.W.Serializer.written c.end_map.new.self in
    on_ok_weaker c.end_map.result (λ e. elim c.match-bound.branch [
      | in-Cursor+in_ok-key-in-Cursor+in_ok-send_value-in-Cursor w ↦
          let d = cursor_data names w.in-Cursor.cursor in
          let named = g.W.Serializer.written w.key.new.self in
          let sent : SendsValue d named (g.W.Serializer.written c.match-bound.out) = subst (λ o. SendsValue d named (g.W.Serializer.written o)) (sym w.out-is) (w.in_ok-send_value-in-Cursor.ensures d w.cursor_value.ensures) in
          subst (λ (b : Bound). SendsValue (bound_data names (bound_of b)) old end) (sym w.in-Cursor.is) (one_sent (codes "cursor") d _ _ named _ _ c.in_ok-begin_map.ensures w.in_ok-key-in-Cursor.ensures sent e)
      | in-Keys+in_ok-key-in-Keys+in_ok-send_keys-in-Keys w ↦
          let d = texts_data w.in-Keys.keys in
          let named = g.W.Serializer.written w.key-in-Keys.new.self in
          let all : SendsValue d named (g.W.Serializer.written w.send_keys.new.out) = subst (λ keys. SendsValue (texts_data keys) named (g.W.Serializer.written w.send_keys.new.out)) w.as_slice.ensures w.in_ok-send_keys-in-Keys.ensures in
          let sent : SendsValue d named (g.W.Serializer.written c.match-bound.out) = subst (λ o. SendsValue d named (g.W.Serializer.written o)) (sym w.out-is) all in
          subst (λ (b : Bound). SendsValue (bound_data names (bound_of b)) old end) (sym w.in-Keys.is) (one_sent (codes "keys") d _ _ named _ _ c.in_ok-begin_map.ensures w.in_ok-key-in-Keys.ensures sent e)
      | in-Values+in_ok-key-in-Values+in_ok-send_value-in-Values w ↦
          let d = pairs_data names w.in-Values.pairs in
          let named = g.W.Serializer.written w.key-in-Values.new.self in
          let all : SendsValue d named (g.W.Serializer.written w.send_value-in-Values.new.out) = w.in_ok-send_value-in-Values.ensures d (subst (λ pairs. IfOk w.pairs_value.result (λ v. view v ≡ pairs_data names pairs)) w.as_slice-in-Values.ensures w.pairs_value.ensures) in
          let sent : SendsValue d named (g.W.Serializer.written c.match-bound.out) = subst (λ o. SendsValue d named (g.W.Serializer.written o)) (sym w.out-is) all in
          subst (λ (b : Bound). SendsValue (bound_data names (bound_of b)) old end) (sym w.in-Values.is) (one_sent (codes "values") d _ _ named _ _ c.in_ok-begin_map.ensures w.in_ok-key-in-Values.ensures sent e)
    ]) c.end_map.ensures
