-- Operations that a replica may be handed.
use Rattle.std.proofs.Common.{◌≡◌, ◌≤◌, ℕ, List, [], ◌∷◌, Bool, true, false, ◌&&◌, leb, eqb, refl, sym, subst, ◌∙◌}
use Rattle.std.specs.List.{list_all}
use Rattle.std.proofs.lemmas.Bool.{leb-true, eqb-true}
use Rattle.jc_rules.specs.declared.operation.Op.{Op}
use Rattle.jc_replica.specs.Operations.{AreHanded, AreOwn, AreOfOne}

left : (a b : Bool) → a && b ≡ true → a ≡ true
left true b e = refl
left false b e = cc

right : (a b : Bool) → a && b ≡ true → b ≡ true
right true b e = e
right false b e = cc

all_handed : (os : List Op) → list_all (λ o. leb 1 o.id.counter && leb o.id.counter 4194304) os ≡ true → AreHanded os
all_handed [] e = tt
all_handed (o ∷ os) e =
    let first = left (leb 1 o.id.counter && leb o.id.counter 4194304) _ e in (
      (leb-true 1 o.id.counter (left (leb 1 o.id.counter) (leb o.id.counter 4194304) first), leb-true o.id.counter 4194304 (right (leb 1 o.id.counter) (leb o.id.counter 4194304) first)),
      all_handed os (right (leb 1 o.id.counter && leb o.id.counter 4194304) _ e),
    )

pub handed : (os : List Op) (b : Bool) → b ≡ list_all (λ o. leb 1 o.id.counter && leb o.id.counter 4194304) os → b ≡ true → AreHanded os
handed os b e t = all_handed os (sym e ∙ t)

all_own : (r : ℕ) (os : List Op) → list_all (λ o. eqb o.id.replica r) os ≡ true → AreOwn r os
all_own r [] e = tt
all_own r (o ∷ os) e = (eqb-true o.id.replica r (left (eqb o.id.replica r) _ e), all_own r os (right (eqb o.id.replica r) _ e))

pub of_one : (os : List Op) (r : ℕ) (b : Bool) → b ≡ list_all (λ o. eqb o.id.replica r) os → b ≡ true → AreOfOne os
of_one [] r b e t = tt
of_one (o ∷ os) r b e t =
    let all = all_own r (o ∷ os) (sym e ∙ t) in
    subst (λ n. AreOwn n os) (sym all.0) all.1
