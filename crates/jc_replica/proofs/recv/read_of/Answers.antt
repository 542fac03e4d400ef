use Rattle.std.proofs.Common.{◌∷◌, [], Option, Some, option_map, sym, ◌∙◌, ap}
use Rattle.jc_rules.specs.declared.id.Id.{Id}
use Rattle.jc_replica.specs.Received.{read_of}
use Rattle.jc_replica.proofs.recv.read_of.Goals as goal

pub returns-in-Some-find : goal.returns-in-Some-find
returns-in-Some-find c =
    ap Some c.from_ref.ensures.value
    ∙ ap (option_map (λ o. o ∷ [])) c.in-Some-find.ensures
    ∙ ap (λ (id : Option Id). read_of id c.args.ops.now) (sym c.in-Some.is)
