use Rattle.std.proofs.Common.{rules, ◌≡◌, sym, ◌∙◌, ap}
use Rattle.jc_effects.specs.declared.effects.Effects.{Effects}
use Rattle.jc_effects.specs.Difference.{is_listed}
use Rattle.jc_effects.specs.Parts.{own_seen, differences_of}
use Rattle.jc_effects.proofs.PlacesLemmas.{listed_first, listed_later}
use Rattle.jc_effects.proofs.places.is_listed.Goals as goal

pub returns-then-eq : goal.returns-then-eq
returns-then-eq c =
    let p = c.in-Place in
    let key = c.args.key.now in
    let same : key ≡ p.own = search rules in
    sym (listed_first p.own (own_seen p.own p.field-1) (differences_of p.field-2.value) (differences_of p.field-3.value) (differences_of p.more.value) key same)
    ∙ sym (ap (λ (x : Effects). is_listed key (differences_of x)) p.is)
    ∙ c.loop-rest.invariant

pub loop-rest-preserved : goal.loop-rest-preserved
loop-rest-preserved c =
    let p = c.in-Place in
    let key = c.args.key.now in
    let apart : key ≡ p.own → ⊥ = search rules in
    ap (λ (x : Effects). is_listed key (differences_of x)) c.deref-rest.ensures
    ∙ sym (listed_later p.own (own_seen p.own p.field-1) (differences_of p.field-2.value) (differences_of p.field-3.value) (differences_of p.more.value) key apart)
    ∙ sym (ap (λ (x : Effects). is_listed key (differences_of x)) p.is)
    ∙ c.loop-rest.invariant
