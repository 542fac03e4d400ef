-- Lemmas about Received (is_new): which operations of a list another one hasn't.
use Rattle.std.proofs.Common.{◌≡◌, ℕ, List, [], ◌∷◌, ◌++◌, Bool, true, false, not, ◌||◌, ◌&&◌, filter, take, drop, refl, sym, ◌∙◌, ap, subst}
use Rattle.std.specs.List.{AllByRecursion}
use Rattle.std.specs.declared.cmp.Ordering.TheVariants.{Less}
use Rattle.std.proofs.lemmas.List.Elements.{filter-append}
use Rattle.jc_rules.specs.declared.id.Id.{Id}
use Rattle.jc_rules.specs.declared.operation.Op.{Op}
use Rattle.jc_rules.specs.Ids.{has_id, without}
use Rattle.jc_rules.specs.Order.{id_cmp, same_id}
use Rattle.jc_rules.specs.Table.{both}
use Rattle.jc_rules.proofs.BoolLemmas.{or_right, or_assoc}
use Rattle.jc_rules.proofs.IdsLemmas.{same_id-self, has_id-with, has_id-without, without-rises, same_members}
use Rattle.jc_rules.proofs.OrderLemmas.{ids_total}
use Rattle.jc_rules.proofs.RisingLemmas as rising
use Rattle.jc_replica.specs.Operations.{identifiers, AreInOrder}
use Rattle.jc_replica.specs.Received.{is_new}
use Rattle.jc_replica.proofs.ReceivedLemmas.{take-drop}
use Rattle.jc_replica.proofs.ReceivedUnionLemmas.{identifiers-with, both-in_order}

-- by their identifiers
pub new_without : (os ps : List Op) → identifiers (filter (is_new os) ps) ≡ without (identifiers ps) (identifiers os)
new_without os [] = refl
new_without os (p ∷ ps) = go (has_id p.id (identifiers os)) refl (new_without os ps)
  where
    go : (b : Bool) → has_id p.id (identifiers os) ≡ b → identifiers (filter (is_new os) ps) ≡ without (identifiers ps) (identifiers os) → identifiers (filter (is_new os) (p ∷ ps)) ≡ without (identifiers (p ∷ ps)) (identifiers os)
    go true e ih = rw e ih
    go false e ih = rw e (ap (λ (is : List Id). p.id ∷ is) ih)

-- the same list has nothing new
pub none_new : (os : List Op) → filter (is_new os) os ≡ []
none_new os = among os (λ i h. h)
  where
    among : (ps : List Op) → ((i : Id) → has_id i (identifiers ps) ≡ true → has_id i (identifiers os) ≡ true) → filter (is_new os) ps ≡ []
    among [] h = refl
    among (p ∷ ps) h =
        let there : has_id p.id (identifiers os) ≡ true = h p.id (rw (same_id-self p.id) refl) in
        rw there (among ps (λ i e. h i (or_right (same_id i p.id) (has_id i (identifiers ps)) e)))

all_new : (os ps : List Op) → AllByRecursion (λ o. is_new os o ≡ true) ps → filter (is_new os) ps ≡ ps
all_new os [] h = refl
all_new os (p ∷ ps) h = rw h.0 (ap (λ (qs : List Op). p ∷ qs) (all_new os ps h.1))

-- ---- what comes behind a list in order is new

later_all : (P : Id → Type 0) (os ps : List Op) → AllByRecursion P (identifiers (os ++ ps)) → AllByRecursion P (identifiers ps)
later_all P [] ps h = h
later_all P (o ∷ os) ps h = later_all P os ps h.1

new_behind : (o : Op) (os ps : List Op) → AllByRecursion (λ j. id_cmp o.id j ≡ Less) (identifiers ps) → AllByRecursion (λ p. is_new os p ≡ true) ps → AllByRecursion (λ p. is_new (o ∷ os) p ≡ true) ps
new_behind o os [] h g = tt
new_behind o os (p ∷ ps) h g =
    let apart : same_id p.id o.id ≡ false = rw (rising.less_greater ids_total o.id p.id h.0) refl in
    (rw apart (g.0), new_behind o os ps h.1 g.1)

nothing_there : (ps : List Op) → AllByRecursion (λ p. is_new [] p ≡ true) ps
nothing_there [] = tt
nothing_there (p ∷ ps) = (refl, nothing_there ps)

are_new : (os ps : List Op) → AreInOrder (os ++ ps) → AllByRecursion (λ p. is_new os p ≡ true) ps
are_new [] ps h = nothing_there ps
are_new (o ∷ os) ps h = new_behind o os ps (later_all (λ j. id_cmp o.id j ≡ Less) os ps h.0) (are_new os ps h.1)

pub rest_new : (os ps : List Op) → AreInOrder (os ++ ps) → filter (is_new os) (os ++ ps) ≡ ps
rest_new os ps h =
    filter-append (is_new os) os ps
    ∙ ap (λ (xs : List Op). xs ++ filter (is_new os) ps) (none_new os)
    ∙ all_new os ps (are_new os ps h)

-- what a list in order has behind a number of its operations
pub behind_new : (n : ℕ) (os : List Op) → AreInOrder os → filter (is_new (take n os)) os ≡ drop n os
behind_new n os h =
    ap (λ (xs : List Op). filter (is_new (take n os)) xs) (sym (take-drop n os))
    ∙ rest_new (take n os) (drop n os) (subst AreInOrder (sym (take-drop n os)) h)

-- ---- what is united is new where it wasn't there

left_alone : (a b : Bool) → (a || b) && not b ≡ a && not b
left_alone true true = refl
left_alone true false = refl
left_alone false true = refl
left_alone false false = refl

has_both : (k : Id) (os ps : List Op) → has_id k (identifiers (both os ps)) ≡ has_id k (identifiers ps) || has_id k (identifiers os)
has_both k os [] = refl
has_both k os (p ∷ ps) =
    ap (has_id k) (identifiers-with p (both os ps))
    ∙ has_id-with k p.id (identifiers (both os ps))
    ∙ ap (λ b. same_id k p.id || b) (has_both k os ps)
    ∙ or_assoc (same_id k p.id) (has_id k (identifiers ps)) (has_id k (identifiers os))

united_without : (os ps : List Op) → AreInOrder os → AreInOrder ps → without (identifiers (both os ps)) (identifiers os) ≡ without (identifiers ps) (identifiers os)
united_without os ps h g =
    let is = identifiers os in
    same_members (without (identifiers (both os ps)) is) (without (identifiers ps) is)
    (without-rises (identifiers (both os ps)) is (both-in_order os ps h))
    (without-rises (identifiers ps) is g)
    (λ k. has_id-without k (identifiers (both os ps)) is
    ∙ ap (λ b. b && not (has_id k is)) (has_both k os ps)
    ∙ left_alone (has_id k (identifiers ps)) (has_id k is)
    ∙ sym (has_id-without k (identifiers ps) is))

-- so what came is what there is now and wasn't before
pub came_new : (os fresh : List Op) → AreInOrder os → AreInOrder fresh → AllByRecursion (λ o. is_new os o ≡ true) fresh → identifiers (filter (is_new os) (both os fresh)) ≡ identifiers fresh
came_new os fresh h g new =
    new_without os (both os fresh)
    ∙ united_without os fresh h g
    ∙ sym (new_without os fresh)
    ∙ ap identifiers (all_new os fresh new)
