-- What is shown at a place has numbers of JSON alone.
use Rattle.std.proofs.Common.{ℕ, List, Option, Some, None, Bool, true, false, is_some, codes, cond}
use Rattle.jc_rules.specs.declared.key.Key.{Key}
use Rattle.jc_rules.specs.declared.key.Tagged.{Tagged}
use Rattle.jc_rules.specs.declared.operation.Cursor.{Cursor}
use Rattle.jc_rules.specs.Order.{key_cmp}
use Rattle.jc_rules.specs.Entries.{find}
use Rattle.jc_rules.specs.Context.{Context, context}
use Rattle.jc_rules.specs.ContextsAt.{node_at}
use Rattle.jc_rules.specs.State.{State}
use Rattle.json.specs.Tree.{HasNumbers}
use Rattle.jc_view.specs.Places.{shown_in, shown_at}
use Rattle.jc_view.specs.Visible.{line_json, GoesThrough, goes_by, is_alive, present, at_key, maps_in, lists_in}
use Rattle.jc_view.proofs.NumbersLemmas.{MayHave, part_numbers, key_numbers, maps_numbers, lists_numbers}

shown_numbers : (names : List (List ℕ)) (goes : GoesThrough) (at : List Tagged) (o : Option Context) (k : Key) → MayHave (shown_in names goes at o k)
shown_numbers names goes at None k = tt
shown_numbers names goes at (Some (context m l r p n)) k = go (is_some (find key_cmp k (present p)))
  where
    go : (b : Bool) → MayHave (cond b (Some (at_key names (is_alive goes at (present p)) (maps_in names goes at m) (lists_in names goes at l) r k)) None)
    go true = key_numbers names (is_alive goes at (present p)) (maps_in names goes at m) (lists_in names goes at l) r k (maps_numbers names goes at m) (lists_numbers names goes at l)
    go false = tt

pub place_numbers : (names : List (List ℕ)) (name : List ℕ) (A : State) (cursor : Cursor) → HasNumbers (line_json name (shown_at names A cursor))
place_numbers names name A cursor =
    part_numbers (codes "doc") (shown_at names A cursor) _ (shown_numbers names (goes_by A) cursor.path (node_at cursor.path A.tree) cursor.last) (tt, tt)
