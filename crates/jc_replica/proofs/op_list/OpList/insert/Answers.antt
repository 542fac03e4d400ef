use Rattle.std.proofs.Common.{◌≡◌, ◌+◌, drop, insert, refl, ap, ◌∙◌}
use Rattle.jc_replica.specs.OpLists.{OpsWithRoom}
use Rattle.jc_replica.proofs.OpListsLemmas.{inserted_behind}
use Rattle.jc_replica.proofs.op_list.OpList.insert.Goals as goal

pub returns-else-self-gt0-clause-items : goal.returns-else-self-gt0-clause-items
returns-else-self-gt0-clause-items c =
    let came : c.insert.new.self.items ≡ _ = rw c.unwrap.ensures at c.insert.ensures.items in
    ap (drop c.self.inside.spare) came ∙ inserted_behind c.self.inside.spare c.args.place (c.self.inside.spare + c.args.place) c.self.inside.slots.items c.args.op refl c.self.invariant ∙ ap (λ (r : OpsWithRoom). insert r.items c.args.place c.args.op) c.self.view_is
