use Rattle.std.proofs.Common.{sym}
use Rattle.jc_rules.specs.declared.id.Id.{Id}
use Rattle.jc_rules.proofs.VersionVectorsLemmas.{is_place, no_place, greatest_at, none_left}
use Rattle.jc_rules.proofs.id_set.counter_of.Goals as goal

pub returns-in-Some : goal.returns-in-Some
returns-in-Some c =
    let nobody : Id = record { counter = 0; replica = 0 } in
    let place = is_place c.args.replica c.in-Some.place c.args.last.now nobody c.place_of.result c.place_of.ensures c.in-Some.is in
    sym (greatest_at c.args.replica c.args.last.now c.in-Some.place nobody c.requires place.within place.replica)

pub returns-in-None : goal.returns-in-None
returns-in-None c = sym (none_left c.args.replica c.args.last.now (no_place c.args.replica c.args.last.now c.place_of.result c.place_of.ensures c.in-None.is))
