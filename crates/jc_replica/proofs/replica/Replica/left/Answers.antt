use Rattle.std.proofs.Common.{rules, ◌≡◌, ◌-◌, length, take, drop, map, ap, ◌∙◌}
use Rattle.jc_syntax.specs.Trees.{cmd_of}
use Rattle.jc_replica.specs.ReplicaHistory.{ReplicaHistory}
use Rattle.jc_replica.proofs.ScriptLemmas.{left_of}
use Rattle.jc_replica.proofs.replica.Replica.left.Goals as goal

pub returns : goal.returns
returns g c =
    let i = c.self.inside in
    let all : c.deref.result.now ≡ i.script.items = search rules in
    ap (λ xs. map cmd_of (take (length xs - i.done) (drop i.done xs))) all ∙ left_of i.script.items i.done ∙ ap (λ (p : ReplicaHistory). p.history.now.left) c.self.view_is
