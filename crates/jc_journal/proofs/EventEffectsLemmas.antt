-- About EventLine (AreEffects): the operation of an event leads from its replica's tree to the next one. `event_effects`
-- uses it.
use Rattle.std.proofs.Common.{◌≡◌, ℕ, List, Bool, true, false, Option, Some, None, refl, sym, ◌∙◌, ap, subst}
use Rattle.std.specs.Option.{option_map}
use Rattle.std.proofs.lemmas.Option.{same_Some}
use Rattle.jc_rules.specs.declared.operation.Event.{Event}
use Rattle.jc_rules.specs.declared.operation.Event.TheVariants as E
use Rattle.jc_rules.specs.declared.operation.Op.{Op}
use Rattle.jc_rules.specs.declared.rule.Rule.{Rule}
use Rattle.jc_rules.specs.Context.{Context}
use Rattle.jc_rules.specs.State.{State}
use Rattle.jc_rules.specs.Step.{Step, replica_of}
use Rattle.jc_rules.specs.Syntax.{Cmd}
use Rattle.jc_vectors.specs.StoredStates.{stored_op}
use Rattle.jc_replica.specs.declared.last_step.LastStep.{LastStep}
use Rattle.jc_replica.specs.ReplicaHistory.{ReplicaHistory}
use Rattle.jc_network.specs.Laws.{IsReached}
use Rattle.jc_network.specs.Steps.{HasReplica}
use Rattle.jc_effects.specs.Difference.{Differences, IsDifference}
use Rattle.jc_effects.specs.Laws.{IsNextTree, IsChangedBy}
use Rattle.jc_effects.proofs.OneLemmas.{one_difference}
use Rattle.jc_effects.proofs.SomeDifferenceLemmas.{some_difference}
use Rattle.jc_effects.proofs.LawsEventsLemmas.{AppliesJust, exec_applies, apply_applies, others_apply, IsTreeAfter, tree_after, changes}
use Rattle.jc_journal.specs.EventLine.{event_op, AreEffectsOf, AreEffects}
use Rattle.jc_journal.specs.Parts.{step_op}
use Rattle.jc_journal.proofs.EventLineLemmas.{kept_before, kept_after}
use Rattle.jc_journal.proofs.LastStepPartsLemmas.{HasParts}

-- the operation of an event is the one that it applied
event_applies : (scripts : List (List Cmd)) (network new : List State) (event : Event) (rows : List (Rule × ℕ)) → IsReached scripts network → (s : Step network event new rows) → AppliesJust s.before s.after (event_op event s.before s.after)
event_applies scripts network new (E.Exec p) rows r s = exec_applies scripts network new p rows r s
event_applies scripts network new (E.Apply p i) rows r s = apply_applies scripts network new p i rows r s
event_applies scripts network new event rows r s = others_apply scripts network new event rows r s tt

-- so it leads from the one tree to the next
pub changed_by_event : (scripts : List (List Cmd)) (network new : List State) (event : Event) (rows : List (Rule × ℕ)) → IsReached scripts network → (s : Step network event new rows) → (o : Op) → event_op event s.before s.after ≡ Some o → IsNextTree o s.before.tree s.after.tree
changed_by_event scripts network new event rows r s o is =
    changes scripts network new event rows r s o (subst (AppliesJust s.before s.after) is (event_applies scripts network new event rows r s))

-- and does so as it is kept; where there is none, the tree stays
pub event_tree : (scripts : List (List Cmd)) (network new : List State) (event : Event) (rows : List (Rule × ℕ)) → IsReached scripts network → (s : Step network event new rows) → IsTreeAfter (event_op event s.before s.after) s.before.tree s.after.tree
event_tree scripts network new event rows r s = tree_after scripts network new event rows r s (event_op event s.before s.after) (event_applies scripts network new event rows r s)

-- ---- of the operation as it is kept

no_none : (kept : Op) → Some kept ≡ None → ⊥
no_none kept e = cc

kept_changes : (found : Option Op) (kept : Op) (c d : Context) → Some kept ≡ option_map stored_op found → IsTreeAfter found c d → IsChangedBy kept c d
kept_changes None kept c d e t = absurd (no_none kept e)
kept_changes (Some o) kept c d e t = subst (λ (k : Op). IsChangedBy k c d) (sym (same_Some kept (stored_op o) e)) t

kept_tells : (found : Option Op) (kept : Op) (c d : Context) → Some kept ≡ option_map stored_op found → (x : Differences) → IsDifference c d x → AreEffectsOf found c d (Some x)
kept_tells None kept c d e x h = absurd (no_none kept e)
kept_tells (Some o) kept c d e x h = (x, refl, h)

-- the trees of the stores are those of the replica's states
pub store_changes : (found : Option Op) (kept : Op) (c d x y : Context) → Some kept ≡ option_map stored_op found → x ≡ c → y ≡ d → IsTreeAfter found c d → IsChangedBy kept x y
store_changes found kept c d x y is p q h =
    subst (λ (z : Context). IsChangedBy kept z y) (sym p) (subst (λ (z : Context). IsChangedBy kept c z) (sym q) (kept_changes found kept c d is h))

pub store_tells : (found : Option Op) (kept : Op) (c d x y : Context) (z : Differences) → Some kept ≡ option_map stored_op found → x ≡ c → y ≡ d → IsDifference x y z → AreEffectsOf found c d (Some z)
store_tells found kept c d x y z is p q h =
    kept_tells found kept c d is z (subst (λ (v : Context). IsDifference v d z) p (subst (λ (v : Context). IsDifference x v z) q h))

pub none_tells : (found : Option Op) (c d : Context) → None ≡ option_map stored_op found → IsTreeAfter found c d → AreEffectsOf found c d None
none_tells None c d e h = (refl, h)
none_tells (Some o) c d e h = absurd (no_none (stored_op o) (sym e))

-- ---- the identifier of an operation

same_id : (found : Option Op) → option_map (λ (o : Op). o.id) (option_map stored_op found) ≡ option_map (λ (o : Op). o.id) found
same_id None = refl
same_id (Some o) = refl

-- it is kept by its identifier
pub kept_id : (event : Event) (A B : State) (step : Option LastStep) (kept : Option Op) → HasParts event A B step → kept ≡ step_op step
    → option_map (λ (o : Op). o.id) kept ≡ option_map (λ (o : Op). o.id) (event_op event A B)
kept_id event A B step kept h e = ap (option_map (λ (o : Op). o.id)) (e ∙ h.op) ∙ same_id (event_op event A B)

-- the trees of the replica before and after it
pub tree_was : (event : Event) (old new : List State) (rows : List (Rule × ℕ)) (replica : ReplicaHistory) → (s : Step old event new rows) → HasReplica old (replica_of event) replica → replica.history.now.tree ≡ s.before.tree
tree_was event old new rows replica s has = ap (λ (K : State). K.tree) (kept_before event old new rows replica s has)

pub tree_is : (event : Event) (old new : List State) (rows : List (Rule × ℕ)) (replica : ReplicaHistory) → (s : Step old event new rows) → HasReplica new (replica_of event) replica → replica.history.now.tree ≡ s.after.tree
tree_is event old new rows replica s has = ap (λ (K : State). K.tree) (kept_after event old new rows replica s has)

-- ---- effects

-- an event of a run has effects
pub told_effects : (told : Bool) (scripts : List (List Cmd)) (network new : List State) (event : Event) (rows : List (Rule × ℕ)) → IsReached scripts network → (s : Step network event new rows) → (x : Option Differences) × AreEffects told event s.before s.after x
told_effects false scripts network new event rows r s = (None, refl)
told_effects true scripts network new event rows r s = go (event_op event s.before s.after) refl
  where
    go : (o : Option Op) → event_op event s.before s.after ≡ o → (x : Option Differences) × AreEffectsOf o s.before.tree s.after.tree x
    go None e = (None, (refl, subst (λ (o : Option Op). IsTreeAfter o s.before.tree s.after.tree) e (event_tree scripts network new event rows r s)))
    go (Some o) e =
        let x = some_difference o s.before.tree s.after.tree (changed_by_event scripts network new event rows r s o e) in
        (Some x.0, (x.0, refl, x.1))

same_of : (o : Option Op) (c d : Context) (x y : Option Differences) → AreEffectsOf o c d x → AreEffectsOf o c d y → x ≡ y
same_of None c d x y a b = a.0 ∙ sym b.0
same_of (Some o) c d x y a b = a.1 ∙ (ap (λ (z : Differences). Some z) (one_difference c d a.0 b.0 a.2 b.2) ∙ sym b.1)

-- and these alone
pub same_effects : (told : Bool) (event : Event) (A B : State) (x y : Option Differences) → AreEffects told event A B x → AreEffects told event A B y → x ≡ y
same_effects false event A B x y a b = a ∙ sym b
same_effects true event A B x y a b = same_of (event_op event A B) A.tree B.tree x y a b
