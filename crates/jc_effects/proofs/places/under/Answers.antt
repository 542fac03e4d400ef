use Rattle.std.proofs.Common.{rules, ◌≡◌, sym, ◌∙◌, ap}
use Rattle.jc_rules.specs.Context.{key_of_tagged}
use Rattle.jc_effects.specs.declared.effects.Effects.{Effects}
use Rattle.jc_effects.specs.Parts.{own_seen, differences_of}
use Rattle.jc_effects.specs.Places.{part_under, differences_under}
use Rattle.jc_effects.proofs.PlacesLemmas.{under_first, under_later}
use Rattle.jc_effects.proofs.places.under.Goals as goal

pub returns-then-eq : goal.returns-then-eq
returns-then-eq c =
    let p = c.in-Place in
    let t = c.args.tagged.now in
    let told : p.key ≡ c.key.result.now = search rules in
    let same : p.key ≡ key_of_tagged t = told ∙ c.key.ensures in
    c.part_under.ensures
    ∙ ap (λ (x : Effects). part_under t (differences_of x) (differences_of c.deref-then-eq.result.now)) c.deref.ensures
    ∙ ap (λ (x : Effects). part_under t (differences_of p.map.value) (differences_of x)) c.deref-then-eq.ensures
    ∙ sym (under_first p.key (own_seen p.key p.field-1) (differences_of p.map.value) (differences_of p.list.value) (differences_of p.more.value) t same)
    ∙ sym (ap (λ (x : Effects). differences_under t (differences_of x)) p.is)
    ∙ c.loop-rest.invariant

pub loop-rest-preserved : goal.loop-rest-preserved
loop-rest-preserved c =
    let p = c.in-Place in
    let t = c.args.tagged.now in
    let told : p.key ≡ c.key.result.now → ⊥ = search rules in
    let apart : p.key ≡ key_of_tagged t → ⊥ = λ e. told (e ∙ sym c.key.ensures) in
    ap (λ (x : Effects). differences_under t (differences_of x)) c.deref-rest.ensures
    ∙ sym (under_later p.key (own_seen p.key p.field-1) (differences_of p.map.value) (differences_of p.list.value) (differences_of p.more.value) t apart)
    ∙ sym (ap (λ (x : Effects). differences_under t (differences_of x)) p.is)
    ∙ c.loop-rest.invariant
