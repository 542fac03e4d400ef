use Rattle.std.proofs.Common.{◌<◌, ◌≤◌, List, ◌∙◌, sym, ap, subst, eqb, get_or}
use Rattle.std.specs.Prelude.{position}
use Rattle.jc_rules.specs.declared.id.Id.{Id}
use Rattle.jc_rules.specs.Ids.{union}
use Rattle.jc_rules.specs.VersionVectors.{covered, ids_up_to}
use Rattle.jc_rules.proofs.VersionVectorsLemmas.{is_place, no_place, one_each-set, one_each-push}
use Rattle.jc_rules.proofs.IdSetLemmas.{filled-set, filled-kept, filled-push}
use Rattle.jc_rules.proofs.RepresentationLemmas.{stands-inserted}
use Rattle.jc_rules.proofs.id_set.IdSet.insert.Goals as goal

pub invariant_of-self : goal.invariant_of-self
invariant_of-self c =
    let found = c.place_of.ensures ∙ ap (λ (s : List Id). position (λ i. eqb i.replica c.args.id.replica) s) c.as_slice.ensures.value in
    one_each-set c.args.id c.self.inside.last.items c.in-Some.place c.args.id (is_place _ _ _ _ _ found c.in-Some.is) c.self.invariant

pub invariant_of-self-in-Continue-1 : goal.invariant_of-self-in-Continue-1
invariant_of-self-in-Continue-1 c =
    let found = c.place_of.ensures ∙ ap (λ (s : List Id). position (λ i. eqb i.replica c.args.id.replica) s) c.as_slice.ensures.value in
    rw c.in_ok-push-in-None.ensures.items (one_each-push c.args.id c.self.inside.last.items (no_place _ _ _ found c.in-None.is) c.self.invariant)

pub returns-then-index-id-clause-exact : goal.returns-then-index-id-clause-exact
returns-then-index-id-clause-exact c =
    let found = c.place_of.ensures ∙ ap (λ (s : List Id). position (λ i. eqb i.replica c.args.id.replica) s) c.as_slice.ensures.value in
    let less : (get_or c.self.inside.last.items c.in-Some.place c.index.result.now).counter < c.args.id.counter = subst (λ (i : Id). i.counter < c.args.id.counter) c.index.ensures c.if-index-id.true in
    filled-set c.args.id c.self.inside.last.items c.in-Some.place c.index.result.now (is_place _ _ _ _ _ found c.in-Some.is) less ∙ ap (λ (s : List Id). union (ids_up_to c.args.id.replica c.args.id.counter) s) c.self.view_is

pub returns-then-index-id-clause-stands : goal.returns-then-index-id-clause-stands
returns-then-index-id-clause-stands c = λ set s o h e f. stands-inserted set s c.args.self.now _ c.args.id o h e f (returns-then-index-id-clause-exact c)

pub returns-else-index-id-clause-exact : goal.returns-else-index-id-clause-exact
returns-else-index-id-clause-exact c =
    let found = c.place_of.ensures ∙ ap (λ (s : List Id). position (λ i. eqb i.replica c.args.id.replica) s) c.as_slice.ensures.value in
    let more : c.args.id.counter ≤ (get_or c.self.inside.last.items c.in-Some.place c.index.result.now).counter = subst (λ (i : Id). c.args.id.counter ≤ i.counter) c.index.ensures c.if-index-id.false in
    sym c.self.view_is ∙ filled-kept c.args.id c.self.inside.last.items c.in-Some.place c.index.result.now (is_place _ _ _ _ _ found c.in-Some.is) c.self.invariant more ∙ ap (λ (s : List Id). union (ids_up_to c.args.id.replica c.args.id.counter) s) c.self.view_is

pub returns-else-index-id-clause-stands : goal.returns-else-index-id-clause-stands
returns-else-index-id-clause-stands c = λ set s o h e f. stands-inserted set s c.args.self.now _ c.args.id o h e f (returns-else-index-id-clause-exact c)

pub returns-in_ok-push-in-None-clause-exact : goal.returns-in_ok-push-in-None-clause-exact
returns-in_ok-push-in-None-clause-exact c =
    ap (λ (s : List Id). covered s) c.in_ok-push-in-None.ensures.items ∙ filled-push c.args.id c.self.inside.last.items ∙ ap (λ (s : List Id). union (ids_up_to c.args.id.replica c.args.id.counter) s) c.self.view_is

pub returns-in_ok-push-in-None-clause-stands : goal.returns-in_ok-push-in-None-clause-stands
returns-in_ok-push-in-None-clause-stands c = λ set s o h e f. stands-inserted set s c.args.self.now _ c.args.id o h e f (returns-in_ok-push-in-None-clause-exact c)
