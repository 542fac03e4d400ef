-- About Visible and Places: what a network's replicas show.
use Rattle.std.proofs.Common.{◌≡◌, ℕ, List, [], ◌∷◌, ◌++◌, Some, slice_get, sym, ◌∙◌, ap, subst}
use Rattle.std.proofs.lemmas.Option.{same_Some}
use Rattle.json.specs.Print.{print}
use Rattle.json.specs.Tree.{json_tokens}
use Rattle.jc_rules.specs.declared.operation.Cursor.{Cursor}
use Rattle.jc_rules.specs.Context.{Context}
use Rattle.jc_rules.specs.ContextsAt.{node_at}
use Rattle.jc_rules.specs.ReplicaNames.{name_at}
use Rattle.jc_rules.specs.WellFormed.{IsChained}
use Rattle.jc_rules.specs.State.{State}
use Rattle.jc_vectors.specs.StoredStates.{stored_state}
use Rattle.jc_replica.specs.ReplicaHistory.{ReplicaHistory}
use Rattle.jc_network.specs.Steps.{HasReplica}
use Rattle.jc_network.specs.Invariant.{IsFromStart}
use Rattle.jc_network.proofs.RunInvariantStartLemmas.{start_well}
use Rattle.jc_network.proofs.ChainedLemmas.{are_chained}
use Rattle.jc_meaning.proofs.ComparisonLemmas.{run_well}
use Rattle.jc_view.specs.Places.{shown_in, place_line}
use Rattle.jc_view.specs.Visible.{document, goes_by, line_json, view_line}
use Rattle.jc_view.proofs.AppliedPathsLemmas.{goes_kept}

-- the tree that a replica keeps is that of its state
pub tree_is : (network : List State) (p : ℕ) (replica : ReplicaHistory) (A : State) (t : Context) → HasReplica network p replica → slice_get network p ≡ Some A → t ≡ replica.history.now.tree → t ≡ A.tree
tree_is network p replica A t has there e = e ∙ ap (λ (S : State). S.tree) has.kept ∙ ap (λ (S : State). S.tree) (same_Some has.at A (sym has.there ∙ there))

pub chained_of : (network : List State) (p : ℕ) (replica : ReplicaHistory) (t : Context) → IsFromStart network → HasReplica network p replica → t ≡ replica.history.now.tree → IsChained t
chained_of network p replica t r has e =
    let chained : IsChained has.at.tree = are_chained r.0 r.1.0 network (start_well r.0) r.1.1 p has.at has.there in
    subst IsChained (sym (tree_is network p replica has.at t has has.there e)) chained

-- what is shown of a replica's state is shown of what it stands for
pub same_view : (names : List (List ℕ)) (name : List ℕ) (network : List State) (p : ℕ) (replica : ReplicaHistory) (A : State) → IsFromStart network → HasReplica network p replica → slice_get network p ≡ Some A → view_line names name replica.history.now ≡ view_line names name A
unfolding view_line
same_view names name network p replica A r has there =
    let same : has.at ≡ A = same_Some has.at A (sym has.there ∙ there) in
    let goes : goes_by (stored_state has.at) ≡ goes_by has.at = goes_kept network (run_well network r) p has.at has.there in
    ap (λ (S : State). view_line names name S) has.kept
    ∙ ap (λ g. print (json_tokens (line_json name (document names g has.at.tree))) ++ 10 ∷ []) goes
    ∙ ap (λ (S : State). view_line names name S) same

pub same_place : (names : List (List ℕ)) (name : List ℕ) (cursor : Cursor) (network : List State) (p : ℕ) (replica : ReplicaHistory) (A : State) → IsFromStart network → HasReplica network p replica → slice_get network p ≡ Some A → place_line names name replica.history.now cursor ≡ place_line names name A cursor
unfolding place_line
same_place names name cursor network p replica A r has there =
    let same : has.at ≡ A = same_Some has.at A (sym has.there ∙ there) in
    let goes : goes_by (stored_state has.at) ≡ goes_by has.at = goes_kept network (run_well network r) p has.at has.there in
    ap (λ (S : State). place_line names name S cursor) has.kept
    ∙ ap (λ g. print (json_tokens (line_json name (shown_in names g cursor.path (node_at cursor.path has.at.tree) cursor.last))) ++ 10 ∷ []) goes
    ∙ ap (λ (S : State). place_line names name S cursor) same

-- a line, by what its parts are
pub line_is : (of : List (List ℕ) → List ℕ → State → List ℕ) (names ns : List (List ℕ)) (n : List ℕ) (p : ℕ) (K A : State) (line : List ℕ) → line ≡ of ns n K → n ≡ name_at ns p → ns ≡ names → of names (name_at names p) K ≡ of names (name_at names p) A → line ≡ of names (name_at names p) A
line_is of names ns n p K A line e f h k = e ∙ ap (λ x. of ns x K) f ∙ ap (λ x. of x (name_at x p) K) h ∙ k
