use Rattle.std.proofs.Common.{List, sym, ◌∙◌, ap}
use Rattle.jc_rules.specs.declared.id.Id.{Id}
use Rattle.jc_rules.specs.Ids.{greatest}
use Rattle.jc_rules.proofs.IdSetLemmas.{greatest_all, greatest-filled}
use Rattle.jc_rules.proofs.RepresentationLemmas.{greatest_stands}
use Rattle.jc_rules.proofs.id_set.IdSet.greatest.Goals as goal

pub returns-clause-exact : goal.returns-clause-exact
returns-clause-exact c =
    c.greatest_in.ensures ∙ greatest_all c.as_slice.result.now ∙ ap (λ (s : List Id). greatest s) c.as_slice.ensures.value ∙ sym (greatest-filled c.self.inside.last.items) ∙ ap (λ (s : List Id). greatest s) c.self.view_is

pub returns-clause-stands : goal.returns-clause-stands
returns-clause-stands c = λ set s h. returns-clause-exact c ∙ greatest_stands set s c.args.self.now h
