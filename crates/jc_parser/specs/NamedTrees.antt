-- Events and scenarios as their texts have them: by names of replicas, with or without the offsets of these.
use Rattle.std.specs.Prelude.{ℕ, List, ◌∷◌, map}
use Rattle.jc_rules.specs.declared.version.Version.{Version}
use Rattle.jc_rules.specs.Syntax.{Cmd}
use Rattle.jc_syntax.specs.declared.tree.NamedEvent.{NamedEvent}
use Rattle.jc_syntax.specs.declared.tree.NamedEvent.TheVariants.{Exec, Send, Recv, Take, Apply, Done}

-- an event by the names of its replicas, without their offsets
pub data Call : Type 0 where
  executes : List ℕ → Call
  sends : List ℕ → Call
  receives : List ℕ → List ℕ → Call
  takes : List ℕ → List ℕ → ℕ → List ℕ → Call
  applies : List ℕ → ℕ → List ℕ → Call
  ends : List ℕ → Call

abbrev pub call_of : NamedEvent → Call
call_of (Exec p) = executes p.name
call_of (Send p) = sends p.name
call_of (Recv p q) = receives p.name q.name
call_of (Take p q counter r) = takes p.name q.name counter r.name
call_of (Apply p counter q) = applies p.name counter q.name
call_of (Done p) = ends p.name

-- a replica of a text
pub record Part : Type 0 where
  pub name : List ℕ
  pub script : List Cmd

abbrev pub name_of_part : Part → List ℕ
name_of_part p = p.name

-- a version and replicas, and events with the offsets of their names
pub record NamedTree : Type 0 where
  pub version : Version
  pub parts : List Part
  pub given : List NamedEvent
  pub events : List NamedEvent

abbrev pub tree : Version → List Part → List NamedEvent → List NamedEvent → NamedTree
tree v parts given events = record { version = v; parts = parts; given = given; events = events }

-- a replica before the others
abbrev pub with_replica_part : Part → NamedTree → NamedTree
with_replica_part p t = tree t.version (p ∷ t.parts) t.given t.events

-- the same, with events by names alone
pub record ScenarioTree : Type 0 where
  pub version : Version
  pub parts : List Part
  pub given : List Call
  pub calls : List Call

abbrev pub tree_of_named : NamedTree → ScenarioTree
tree_of_named t =
    record { version = t.version; parts = t.parts; given = map call_of t.given; calls = map call_of t.events }
