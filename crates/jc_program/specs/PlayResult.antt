-- What `play` and what it calls return and write: the contracts in `run` cite it.
use Rattle.std.specs.Prelude.{◌≡◌, ℕ, List, Bool, Option, Some, None, length}
use Rattle.jc_rules.specs.declared.operation.Event.{Event}
use Rattle.jc_printer.specs.Canon.{AreNamed}
use Rattle.jc_network.specs.declared.fault.Stuck.{Stuck as StuckEvent}
use Rattle.jc_network.specs.NetworkHistory.{NetworkHistory}
use Rattle.jc_network.specs.Steps.{stuck_for}
use Rattle.jc_out.specs.Out.{OutState, AddsText}
use Rattle.jc_program.specs.Runs.{Stuck, Plays}

-- a text of this kind was added
abbrev pub Added : (List ℕ → Type 0) → OutState → OutState → Type 0
Added IsText old new = (text : List ℕ) × IsText text × AddsText text old new

-- the stuck event, its cause, and that its replicas have names
abbrev pub Tells : List (List ℕ) → Option StuckEvent → Option Stuck → Type 0
Tells names None None = Unit {0}
Tells names (Some s) (Some (event, why)) = (s ≡ stuck_for why event) × AreNamed event (length names)
Tells names _ _ = ⊥

-- The schedule was executed to its end or its first stuck event, and the text of its events was added.
pub record PlaysAll
    (trace : Bool) (old new : NetworkHistory) (schedule : List Event)
    (a b : OutState) (answer : Option StuckEvent) : Type 0 where
  pub stuck : Option Stuck
  pub text : List ℕ
  pub plays : Plays trace old.names old.history.now schedule new.history.now stuck text
  pub tells : Tells old.names answer stuck
  pub names : new.names ≡ old.names
  pub added : AddsText text a b
