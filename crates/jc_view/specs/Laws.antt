-- The statements of the crate's laws (`laws`).
use Rattle.std.specs.Prelude.{◌≡◌, ◌≢◌, ℕ, List, [], ◌∷◌, ◌++◌, true, Contains, codes}
use Rattle.json.specs.Tree.{HasNumbers}
use Rattle.jc_rules.specs.declared.id.Id.{Id}
use Rattle.jc_rules.specs.declared.key.Key.{Key}
use Rattle.jc_rules.specs.declared.key.Key.TheVariants.{Doc}
use Rattle.jc_rules.specs.declared.key.Tagged.{Tagged}
use Rattle.jc_rules.specs.declared.operation.Cursor.{Cursor}
use Rattle.jc_rules.specs.Ids.{has_id}
use Rattle.jc_rules.specs.Context.{Context, presences}
use Rattle.jc_rules.specs.WellFormed.{drop}
use Rattle.jc_rules.specs.State.{State}
use Rattle.jc_rules.specs.Syntax.{Cmd}
use Rattle.jc_network.specs.Laws.{IsReached}
use Rattle.jc_meaning.specs.Seen.{seen, ids_at}
use Rattle.jc_view.specs.Places.{place_line}
use Rattle.jc_view.specs.Visible.{GoesThrough, is_alive, goes_by, present, marked, document, visible, view_json, view_line}

-- Empty presence sets show nothing.
abbrev pub DroppedShowTheSame : Type 0
DroppedShowTheSame =
    (names : List (List ℕ)) (goes : GoesThrough) (c : Context) → document names goes (drop c) ≡ document names goes c

-- Replicas that have applied the same operations show the same document, in each network that events lead to.
abbrev pub ViewsConverge : Type 0
ViewsConverge =
    (names : List (List ℕ)) (scripts : List (List Cmd)) (network : List State)
    → IsReached scripts network
    → (A B : State)
    → Contains network A
    → Contains network B
    → A.ops ≡ B.ops
    → visible names A ≡ visible names B

-- A map or a list in which something is present is alive, in each network that events lead to, so it is shown.
abbrev pub PresentAreAlive : Type 0
PresentAreAlive =
    (scripts : List (List Cmd)) (network : List State)
    → IsReached scripts network
    → (A : State)
    → Contains network A
    → (at : List Tagged) (t : Tagged) (k : Key) (i : Id)
    → has_id i (ids_at k (seen (at ++ t ∷ []) A.tree)) ≡ true
    → is_alive (goes_by A) at (present (presences (seen at A.tree))) t ≡ true

-- At the document's own cursor the line is that of the whole document.
abbrev pub DocumentIsAPlace : Type 0
DocumentIsAPlace =
    (names : List (List ℕ)) (name : List ℕ) (A : State) (cursor : Cursor)
    → cursor.path ≡ []
    → cursor.last ≡ Doc
    → place_line names name A cursor ≡ view_line names name A

-- What is shown has numbers of JSON alone.
abbrev pub ViewsHaveNumbers : Type 0
ViewsHaveNumbers = (names : List (List ℕ)) (name : List ℕ) (A : State) → HasNumbers (view_json names name A)

-- No name is shown as `!conflict`, and different names are shown differently.
abbrev pub NamesStayApart : Type 0
NamesStayApart =
    ((s : List ℕ) → marked s ≢ codes "!conflict") × ((s t : List ℕ) → marked s ≡ marked t → s ≡ t)
