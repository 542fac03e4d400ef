-- Unions of rising lists of identifiers, added one by one, for `united`.
use Rattle.std.proofs.Common.{◌≡◌, List, [], ◌∷◌, ◌++◌, Bool, true, false, ◌||◌, refl, ◌∙◌}
use Rattle.jc_rules.specs.declared.id.Id.{Id}
use Rattle.jc_rules.specs.Order.{same_id}
use Rattle.jc_rules.specs.Ids.{has_id, with_id, union}
use Rattle.jc_rules.proofs.IdsLemmas.{has_id-with, has_id-union, with-rises, union-rises, same_members}
use Rattle.jc_rules.proofs.BoolLemmas.{or_swap}

has_id-last : (k i : Id) (js : List Id) → has_id k (js ++ i ∷ []) ≡ same_id k i || has_id k js
has_id-last k i [] = refl
has_id-last k i (j ∷ js) = rw (has_id-last k i js) (or_swap (same_id k j) (same_id k i) (has_id k js))

-- one more identifier of the second list
pub union-last : (i : Id) (ids js : List Id) → with_id i (union ids js) ≡ union ids (js ++ i ∷ [])
union-last i ids js =
    same_members (with_id i (union ids js)) (union ids (js ++ i ∷ [])) (with-rises i (union ids js) (union-rises ids js)) (union-rises ids (js ++ i ∷ []))
    (λ k. has_id-with k i (union ids js) ∙ rw (has_id-union k ids js, has_id-union k ids (js ++ i ∷ []), has_id-last k i js) (or_swap (same_id k i) (has_id k ids) (has_id k js)))

or_assoc : (a b c : Bool) → (a || b) || c ≡ a || (b || c)
or_assoc true b c = refl
or_assoc false b c = refl

pub union-union : (is js ks : List Id) → union (union is js) ks ≡ union is (union js ks)
union-union is js ks =
    same_members (union (union is js) ks) (union is (union js ks)) (union-rises (union is js) ks) (union-rises is (union js ks))
    (λ k. rw (has_id-union k (union is js) ks, has_id-union k is js, has_id-union k is (union js ks), has_id-union k js ks) (or_assoc (has_id k is) (has_id k js) (has_id k ks)))
