use Rattle.std.proofs.Common.{◌≡◌, List, ◌∙◌, ap, leb, subst}
use Rattle.std.specs.List.{list_all}
use Rattle.jc_rules.specs.declared.id.Id.{Id}
use Rattle.jc_rules.specs.VersionVectors.{greatest_of}
use Rattle.jc_rules.proofs.IdSetLemmas.{tested_sets}
use Rattle.jc_rules.proofs.RepresentationLemmas.{subset_stands}
use Rattle.jc_rules.proofs.id_set.IdSet.is_subset.Goals as goal

pub returns-clause-exact : goal.returns-clause-exact
returns-clause-exact c =
    let all = subst (λ (t : List Id). c.are_below.result ≡ list_all (λ i. leb i.counter (greatest_of i.replica t)) c.as_slice.result.now) c.as_slice-2.ensures.value c.are_below.ensures in
    tested_sets c.self.inside.last.items c.other.inside.last.items c.args.self.now c.args.other.now c.are_below.result c.self.view_is c.other.view_is (all ∙ ap (λ (s : List Id). list_all (λ i. leb i.counter (greatest_of i.replica c.other.inside.last.items)) s) c.as_slice.ensures.value)

pub returns-clause-stands : goal.returns-clause-stands
returns-clause-stands c = λ set s t h g.
    let exact = returns-clause-exact c in
    let both = subset_stands set s t c.args.self.now c.args.other.now h g in
    ((λ e. both.0 (exact.0 e)), (λ e. exact.1 (both.1 e)))
