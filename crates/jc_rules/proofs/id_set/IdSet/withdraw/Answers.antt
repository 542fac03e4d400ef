use Rattle.std.proofs.Common.{◌≡◌, ℕ, List, ◌∙◌, sym, ap, subst, eqb, set, arith}
use Rattle.std.specs.Prelude.{position}
use Rattle.jc_rules.specs.declared.id.Id.{Id}
use Rattle.jc_rules.specs.VersionVectors.{covered, greatest_of, truncated, IsVersionVector}
use Rattle.jc_rules.proofs.CoveredLemmas.{greatest_of-filled}
use Rattle.jc_rules.proofs.VersionVectorsLemmas.{is_place, no_place, none_left, one_each-set, one_each-remove}
use Rattle.jc_rules.proofs.WithdrawLemmas.{filled-withdrawn, filled-removed, stands-withdrawn}
use Rattle.jc_rules.proofs.id_set.IdSet.withdraw.Goals as goal

pub unreachable-requires : goal.unreachable-requires
unreachable-requires c =
    let found = c.place_of.ensures ∙ ap (λ (s : List Id). position (λ i. eqb i.replica c.args.id.replica) s) c.as_slice.ensures.value in
    let none = none_left c.args.id.replica c.self.inside.last.items (no_place c.args.id.replica c.self.inside.last.items c.place_of.result found c.in_default.is) in
    let greatest = sym (greatest_of-filled c.args.id.replica c.self.inside.last.items) ∙ ap (λ (s : List Id). greatest_of c.args.id.replica s) c.self.view_is ∙ c.requires.greatest in
    omega (arith, none, greatest, c.requires.lower)

pub invariant_of-self : goal.invariant_of-self
invariant_of-self c =
    let found = c.place_of.ensures ∙ ap (λ (s : List Id). position (λ i. eqb i.replica c.args.id.replica) s) c.as_slice.ensures.value in
    let place = is_place _ _ _ c.args.id _ found c.in-Some.is in
    subst IsVersionVector (sym c.remove.ensures.items) (one_each-remove c.self.inside.last.items c.in-Some.place place.within c.self.invariant)

pub invariant_of-self-else-before-eq0 : goal.invariant_of-self-else-before-eq0
invariant_of-self-else-before-eq0 c =
    let found = c.place_of.ensures ∙ ap (λ (s : List Id). position (λ i. eqb i.replica c.args.id.replica) s) c.as_slice.ensures.value in
    let place = is_place c.args.id.replica c.in-Some.place c.self.inside.last.items c.index_mut.result.now c.place_of.result found c.in-Some.is in
    let same : c.index_mut.result.now.replica ≡ c.args.id.replica = ap (λ (i : Id). i.replica) c.index_mut.ensures.value ∙ place.replica in
    one_each-set (record { counter = c.args.before; replica = c.index_mut.result.now.replica }) c.self.inside.last.items c.in-Some.place c.index_mut.result.now (record { within = place.within; replica = place.replica ∙ sym same }) c.self.invariant

pub returns-then-before-eq0-clause-exact : goal.returns-then-before-eq0-clause-exact
returns-then-before-eq0-clause-exact c =
    let found = c.place_of.ensures ∙ ap (λ (s : List Id). position (λ i. eqb i.replica c.args.id.replica) s) c.as_slice.ensures.value in
    ap (λ (s : List Id). covered s) c.remove.ensures.items ∙ filled-removed c.args.id.replica c.args.before c.self.inside.last.items c.in-Some.place c.args.id c.self.invariant (is_place _ _ _ _ _ found c.in-Some.is) c.if-before-eq0.true ∙ ap (λ (s : List Id). truncated c.args.id.replica c.args.before s) c.self.view_is

pub returns-then-before-eq0-clause-stands : goal.returns-then-before-eq0-clause-stands
returns-then-before-eq0-clause-stands c = λ set s h closed last. stands-withdrawn set s c.args.self.now _ c.args.id c.args.before h c.requires.greatest c.requires.lower (returns-then-before-eq0-clause-exact c) closed last

pub returns-else-before-eq0-clause-exact : goal.returns-else-before-eq0-clause-exact
returns-else-before-eq0-clause-exact c =
    let found = c.place_of.ensures ∙ ap (λ (s : List Id). position (λ i. eqb i.replica c.args.id.replica) s) c.as_slice.ensures.value in
    let place = is_place c.args.id.replica c.in-Some.place c.self.inside.last.items c.index_mut.result.now c.place_of.result found c.in-Some.is in
    let same : c.index_mut.result.now.replica ≡ c.args.id.replica = ap (λ (i : Id). i.replica) c.index_mut.ensures.value ∙ place.replica in
    let greatest : greatest_of c.args.id.replica c.self.inside.last.items ≡ c.args.id.counter = sym (greatest_of-filled c.args.id.replica c.self.inside.last.items) ∙ ap (λ (s : List Id). greatest_of c.args.id.replica s) c.self.view_is ∙ c.requires.greatest in
    ap (λ (r : ℕ). covered (set c.self.inside.last.items c.in-Some.place (record { counter = c.args.before; replica = r }))) same ∙ filled-withdrawn c.args.id.replica c.args.before c.self.inside.last.items c.in-Some.place c.index_mut.result.now c.self.invariant place (omega (arith, greatest, c.requires.lower)) ∙ ap (λ (s : List Id). truncated c.args.id.replica c.args.before s) c.self.view_is

pub returns-else-before-eq0-clause-stands : goal.returns-else-before-eq0-clause-stands
returns-else-before-eq0-clause-stands c = λ set s h closed last. stands-withdrawn set s c.args.self.now _ c.args.id c.args.before h c.requires.greatest c.requires.lower (returns-else-before-eq0-clause-exact c) closed last
