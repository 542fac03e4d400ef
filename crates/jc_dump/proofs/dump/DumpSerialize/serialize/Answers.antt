use Rattle.std.proofs.Common.{codes, ap, sym, subst, ◌∙◌}
use Rattle.std.specs.Int.{from_bool}
use Rattle.std.proofs.lemmas.Result.{on_ok_weaker}
use Rattle.jc_json.specs.Json.{context_data}
use Rattle.jc_dump.specs.DumpParts.{SendsMember}
use Rattle.jc_dump.proofs.DumpPartsLemmas.{SendsTree, shown_sent}
use Rattle.jc_dump.proofs.dump.DumpSerialize.serialize.Goals as goal
use Rattle.jc_dump.proofs.dump.DumpSerialize.serialize.Goals.{in-Some+in_ok-send_member, in_default}

pub returns : goal.returns
returns g c =
    let d = c.args.self.now in
    let names = d.names.now in
    let before = g.W.Serializer.written c.send_before_tree.new.out in
    let after = g.W.Serializer.written c.match-self.out in
    let sent : SendsTree names (λ s. (g.S.TreeStore.tree s).now) d.store before after = elim c.match-self.branch [
      | in-Some+in_ok-send_member w ↦
          let tree = (g.S.TreeStore.tree w.in-Some.store.now).now in
          let root : SendsMember (codes "tree") (context_data names tree) before (g.W.Serializer.written w.send_member.new.out) = w.in_ok-send_member.ensures in
          subst (λ o. SendsTree names (λ s. (g.S.TreeStore.tree s).now) o before after) (sym w.in-Some.is)
          (subst (λ o. SendsMember (codes "tree") (context_data names tree) before (g.W.Serializer.written o)) (sym w.out-is) root)
      | in_default w ↦ subst (λ o. SendsTree names (λ s. (g.S.TreeStore.tree s).now) o before after) (sym w.in_default.is) (ap (λ o. g.W.Serializer.written o) w.out-is)
    ] in
    on_ok_weaker c.end_map.result (λ e. shown_sent names d.shown.now (λ s. (g.S.TreeStore.tree s).now) d.store c.from.result _ (g.W.Serializer.written c.begin_map.new.self) before after _ _ _
    (c.from.ensures ∙ ap from_bool c.is_some.ensures) c.in_ok-begin_map.ensures c.in_ok-send_before_tree.ensures sent c.in_ok-key.ensures c.in_ok-send_vars.ensures e)
    c.end_map.ensures
