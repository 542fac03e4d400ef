-- What is shown at a place of a replica's document, and the line that has it: the contract of `view_place` cites it. The
-- list of names has the name of each replica at its number.
use Rattle.std.specs.Prelude.{ℕ, List, [], ◌∷◌, ◌++◌, cond, Option, Some, None, is_some}
use Rattle.json.specs.Json.{Json}
use Rattle.json.specs.Print.{print}
use Rattle.json.specs.Tree.{json_tokens}
use Rattle.jc_rules.specs.declared.key.Key.{Key}
use Rattle.jc_rules.specs.declared.key.Tagged.{Tagged}
use Rattle.jc_rules.specs.declared.operation.Cursor.{Cursor}
use Rattle.jc_rules.specs.Context.{Context, presences}
use Rattle.jc_rules.specs.ContextsAt.{node_at}
use Rattle.jc_rules.specs.Entries.{find}
use Rattle.jc_rules.specs.Order.{key_cmp}
use Rattle.jc_rules.specs.State.{State}
use Rattle.jc_view.specs.Parts.{parts_shown_at}
use Rattle.jc_view.specs.Visible.{GoesThrough, goes_by, line_json, present}

-- What is shown at a key of the context at a path. Nothing is, where there is no such context, or where the key's presence
-- set is empty or absent.
abbrev pub shown_in : List (List ℕ) → GoesThrough → List Tagged → Option Context → Key → Option Json
shown_in names goes at None k = None
shown_in names goes at (Some c) k =
    cond (is_some (find key_cmp k (present (presences c)))) (Some (parts_shown_at names goes at c k)) None

-- what is shown at a cursor
abbrev pub shown_at : List (List ℕ) → State → Cursor → Option Json
shown_at names A cursor = shown_in names (goes_by A) cursor.path (node_at cursor.path A.tree) cursor.last

unfoldable pub place_line : List (List ℕ) → List ℕ → State → Cursor → List ℕ
place_line names name A cursor = print (json_tokens (line_json name (shown_at names A cursor))) ++ 10 ∷ []
