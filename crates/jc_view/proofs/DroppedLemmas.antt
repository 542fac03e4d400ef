-- About Laws: empty presence sets show nothing, and replicas with the same operations show the same document.
use Rattle.std.proofs.Common.{◌≡◌, ℕ, List, [], ◌∷◌, ◌++◌, refl, sym, ◌∙◌, ap, Contains}
use Rattle.jc_rules.specs.declared.id.Id.{Id}
use Rattle.jc_rules.specs.declared.key.Key.{Key}
use Rattle.jc_rules.specs.declared.key.Tagged.{Tagged}
use Rattle.jc_rules.specs.declared.key.Tagged.TheVariants.{MapT, ListT}
use Rattle.jc_rules.specs.Context.{Context, context, Children, no_child, child}
use Rattle.jc_rules.specs.WellFormed.{drop, drop_all}
use Rattle.jc_rules.specs.State.{State}
use Rattle.jc_rules.specs.Syntax.{Cmd}
use Rattle.jc_network.specs.Laws.{IsReached}
use Rattle.jc_meaning.proofs.RunsLemmas.{trees_converge}
use Rattle.jc_view.specs.Visible.{GoesThrough, goes_by, present, map_json, list_json, maps_in, lists_in, document, visible}
use Rattle.jc_view.proofs.AppliedPathsLemmas.{same_goes}

present_twice : (p : List (Key × List Id)) → present (present p) ≡ present p
present_twice [] = refl
present_twice ((k, []) ∷ p) = present_twice p
present_twice ((k, i ∷ is) ∷ p) = ap (λ q. (k, i ∷ is) ∷ q) (present_twice p)

mutual
  map_dropped : (names : List (List ℕ)) (goes : GoesThrough) (at : List Tagged) (c : Context) → map_json names goes at (drop c) ≡ map_json names goes at c
  map_dropped names goes at (context m l r p n) =
      rw (maps_dropped names goes at m, lists_dropped names goes at l, present_twice p) refl

  list_dropped : (names : List (List ℕ)) (goes : GoesThrough) (at : List Tagged) (c : Context) → list_json names goes at (drop c) ≡ list_json names goes at c
  list_dropped names goes at (context m l r p n) =
      rw (maps_dropped names goes at m, lists_dropped names goes at l, present_twice p) refl

  maps_dropped : (names : List (List ℕ)) (goes : GoesThrough) (at : List Tagged) (cs : Children) → maps_in names goes at (drop_all cs) ≡ maps_in names goes at cs
  maps_dropped names goes at no_child = refl
  maps_dropped names goes at (child k c cs) = rw (map_dropped names goes (at ++ MapT k ∷ []) c, maps_dropped names goes at cs) refl

  lists_dropped : (names : List (List ℕ)) (goes : GoesThrough) (at : List Tagged) (cs : Children) → lists_in names goes at (drop_all cs) ≡ lists_in names goes at cs
  lists_dropped names goes at no_child = refl
  lists_dropped names goes at (child k c cs) = rw (list_dropped names goes (at ++ ListT k ∷ []) c, lists_dropped names goes at cs) refl

pub document_dropped : (names : List (List ℕ)) (goes : GoesThrough) (c : Context) → document names goes (drop c) ≡ document names goes c
document_dropped names goes (context m l r p n) =
    rw (maps_dropped names goes [] m, lists_dropped names goes [] l, present_twice p) refl

pub views_same : (names : List (List ℕ)) (scripts : List (List Cmd)) (network : List State) → IsReached scripts network → (A B : State) → Contains network A → Contains network B → A.ops ≡ B.ops → visible names A ≡ visible names B
views_same names scripts network r A B k l e =
    sym (document_dropped names (goes_by A) A.tree)
    ∙ ap (document names (goes_by A)) (trees_converge scripts network r A B k l e)
    ∙ document_dropped names (goes_by A) B.tree
    ∙ ap (λ goes. document names goes B.tree) (same_goes scripts network r A B k l e)
