-- The parts of which the code makes a dump, and how they are sent, for the contracts of dump.rt and vars.rt.
use Rattle.std.specs.Prelude.{◌≡◌, ℕ, List, [], ◌∷◌, ◌++◌, Option, None, Some, length, codes}
use Rattle.std.specs.Borrow.{Bor}
use Rattle.serde.specs.Event.{Log, Sends, Then, field_key}
use Rattle.serde.specs.declared.name.Case.TheVariants.{AsIs}
use Rattle.serde_json.specs.Data.{Data, unsigned, boolean, number, string}
use Rattle.serde_json.specs.Events.{SendsValue}
use Rattle.jc_rules.specs.Context.{Context}
use Rattle.jc_rules.specs.State.{State}
use Rattle.jc_json.specs.Json.{ids_data, context_data}
use Rattle.jc_cursor.specs.declared.bound.Bound.{Bound as BoundInMemory}
use Rattle.jc_cursor.specs.Bounds.{bound_of, vars_of}
use Rattle.jc_dump.specs.declared.dump.Shown.{Shown}
use Rattle.jc_dump.specs.Dump.{bound_data, vars_data, ids_of_dumped}

abbrev pub bound_shown : List (List ℕ) → Bor BoundInMemory → Data
bound_shown names b = bound_data names (bound_of b.now)

-- the tree's member, if there is a tree
abbrev pub tree_members : List (List ℕ) → Option Context → List (List ℕ × Data)
tree_members names None = []
tree_members names (Some tree) = (codes "tree", context_data names tree) ∷ []

-- the members of a dump, from the parts in memory
unfoldable pub shown_members : List (List ℕ) → Shown → Option Context → List (List ℕ × Data)
shown_members names shown tree =
    (codes "acted", boolean shown.acted)
    ∷ (codes "left", number (unsigned shown.left))
    ∷ (codes "name", string shown.name.now)
    ∷ (codes "ops", ids_data names shown.ops.items)
    ∷ (codes "queue", ids_data names shown.queue.items)
    ∷ (codes "recv", ids_data names shown.recv.items)
    ∷ (codes "send", ids_data names shown.send.items)
    ∷ tree_members names tree
    ++ (codes "vars", vars_data names (vars_of shown.vars.now.entries))
    ∷ []

-- a member is sent: its name, then its value
abbrev pub SendsMember : List ℕ → Data → Log → Log → Type 0
SendsMember name d = Then (Sends (field_key name AsIs)) (SendsValue d)

-- the members before the tree are sent one by one
abbrev pub SendsBeforeTree : List (List ℕ) → Shown → Log → Log → Type 0
SendsBeforeTree names shown =
    Then (SendsMember (codes "acted") (boolean shown.acted)) (
    Then (SendsMember (codes "left") (number (unsigned shown.left))) (
    Then (SendsMember (codes "name") (string shown.name.now)) (
    Then (SendsMember (codes "ops") (ids_data names shown.ops.items)) (
    Then (SendsMember (codes "queue") (ids_data names shown.queue.items)) (
    Then (SendsMember (codes "recv") (ids_data names shown.recv.items)) (
    SendsMember (codes "send") (ids_data names shown.send.items)))))))

-- The parts and the tree are those of the state.
pub record HasParts (A : State) (shown : Shown) (tree : Context) : Type 0 where
  pub acted : A.acted ≡ shown.acted
  pub left : length A.left ≡ shown.left
  pub ops : A.ops ≡ shown.ops.items
  pub queue : ids_of_dumped A.queue ≡ shown.queue.items
  pub recv : ids_of_dumped A.recv ≡ shown.recv.items
  pub send : ids_of_dumped A.send ≡ shown.send.items
  pub tree_is : A.tree ≡ tree
  pub vars : A.vars ≡ vars_of shown.vars.now.entries
