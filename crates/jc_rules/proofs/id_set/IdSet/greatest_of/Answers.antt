use Rattle.std.proofs.Common.{List, sym, ◌∙◌, ap}
use Rattle.jc_rules.specs.declared.id.Id.{Id}
use Rattle.jc_rules.specs.VersionVectors.{greatest_of}
use Rattle.jc_rules.proofs.CoveredLemmas.{greatest_of-filled}
use Rattle.jc_rules.proofs.RepresentationLemmas.{greatest_of_stands}
use Rattle.jc_rules.proofs.id_set.IdSet.greatest_of.Goals as goal

pub returns-clause-exact : goal.returns-clause-exact
returns-clause-exact c =
    c.counter_of.ensures ∙ ap (λ (s : List Id). greatest_of c.args.replica s) c.as_slice.ensures.value ∙ sym (greatest_of-filled c.args.replica c.self.inside.last.items) ∙ ap (λ (s : List Id). greatest_of c.args.replica s) c.self.view_is

pub returns-clause-stands : goal.returns-clause-stands
returns-clause-stands c = λ set s h. returns-clause-exact c ∙ greatest_of_stands set s c.args.self.now c.args.replica h
