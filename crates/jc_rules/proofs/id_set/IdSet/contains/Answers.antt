use Rattle.std.proofs.Common.{List, ℕ, ◌∙◌, ap, leb, le-ltb}
use Rattle.jc_rules.specs.declared.id.Id.{Id}
use Rattle.jc_rules.specs.Ids.{has_id}
use Rattle.jc_rules.specs.VersionVectors.{greatest_of}
use Rattle.jc_rules.proofs.IdSetLemmas.{below_found, none_found}
use Rattle.jc_rules.proofs.RepresentationLemmas.{contains_stands}
use Rattle.jc_rules.proofs.id_set.IdSet.contains.Goals as goal

pub returns-then-id-gt0-clause-exact : goal.returns-then-id-gt0-clause-exact
returns-then-id-gt0-clause-exact c =
    let greatest = c.counter_of.ensures ∙ ap (λ (s : List Id). greatest_of c.args.id.replica s) c.as_slice.ensures.value in
    ap (λ (n : ℕ). leb c.args.id.counter n) greatest ∙ below_found c.args.id c.self.inside.last.items c.if-id-gt0.true ∙ ap (λ (s : List Id). has_id c.args.id s) c.self.view_is

pub returns-then-id-gt0-clause-stands : goal.returns-then-id-gt0-clause-stands
returns-then-id-gt0-clause-stands c = λ set s o h e. returns-then-id-gt0-clause-exact c ∙ contains_stands set s c.args.self.now c.args.id o h e

pub returns-else-id-gt0-clause-exact : goal.returns-else-id-gt0-clause-exact
returns-else-id-gt0-clause-exact c =
    le-ltb 0 c.args.id.counter c.if-id-gt0.false ∙ none_found c.args.id c.self.inside.last.items c.if-id-gt0.false ∙ ap (λ (s : List Id). has_id c.args.id s) c.self.view_is

pub returns-else-id-gt0-clause-stands : goal.returns-else-id-gt0-clause-stands
returns-else-id-gt0-clause-stands c = λ set s o h e. returns-else-id-gt0-clause-exact c ∙ contains_stands set s c.args.self.now c.args.id o h e
