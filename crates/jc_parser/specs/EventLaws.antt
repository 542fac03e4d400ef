-- The laws' statements for events, which follow from the definitions alone.
use Rattle.std.specs.Prelude.{◌≡◌, ◌≤◌, ◌⊎◌, ℕ, List, length}
use Rattle.jc_rules.specs.declared.version.Version.{Version}
use Rattle.jc_syntax.specs.declared.token.Token.{Token}
use Rattle.jc_syntax.specs.declared.tree.NamedEvent.{NamedEvent}
use Rattle.jc_parser.specs.declared.fault.ScenarioFault.{ScenarioFault}
use Rattle.jc_parser.specs.Events.{IsEventOf, IsEventFault, IsEventAt, IsEventFaultAt}

-- A text is one event at most, with one offset for each of its names.
abbrev pub OneEvent : Type 0
OneEvent =
    (v : Version) (text : List ℕ) (e other : NamedEvent) → IsEventOf v text e → IsEventOf v text other → e ≡ other

-- A text that is an event has no fault.
abbrev pub EventOrFault : Type 0
EventOrFault =
    (v : Version) (text : List ℕ) (e : NamedEvent) (fault : ScenarioFault)
    → IsEventOf v text e → IsEventFault v text fault → ⊥

-- A text that is no event has a fault.
abbrev pub EventElseFault : Type 0
EventElseFault =
    (v : Version) (text : List ℕ)
    → ((e : NamedEvent) × IsEventOf v text e) ⊎ ((fault : ScenarioFault) × IsEventFault v text fault)

-- A text that is no event has one fault at most, at one offset.
abbrev pub OneEventFault : Type 0
OneEventFault =
    (v : Version) (text : List ℕ) (fault other : ScenarioFault)
    → IsEventFault v text fault → IsEventFault v text other → fault ≡ other

-- At most one event begins at a token, and one token comes after it.
abbrev pub OneEventAt : Type 0
OneEventAt =
    (v : Version) (text : List ℕ) (tokens : List Token) (from next other_next : ℕ) (e other : NamedEvent)
    → IsEventAt v text tokens from e next
    → IsEventAt v text tokens from other other_next
    → (e ≡ other) × (next ≡ other_next)

-- Where an event begins at a token, there is no fault.
abbrev pub EventOrFaultAt : Type 0
EventOrFaultAt =
    (v : Version) (text : List ℕ) (tokens : List Token) (from next : ℕ) (e : NamedEvent) (fault : ScenarioFault)
    → IsEventAt v text tokens from e next
    → IsEventFaultAt v text tokens from fault
    → ⊥

-- At each token an event begins, or there is a fault.
abbrev pub EventElseFaultAt : Type 0
EventElseFaultAt =
    (v : Version) (text : List ℕ) (tokens : List Token) (from : ℕ)
    → from ≤ length tokens
    → ((e : NamedEvent) × (next : ℕ) × IsEventAt v text tokens from e next)
    ⊎ ((fault : ScenarioFault) × IsEventFaultAt v text tokens from fault)

-- Where no event begins at a token, there is one fault at most, at one offset.
abbrev pub OneEventFaultAt : Type 0
OneEventFaultAt =
    (v : Version) (text : List ℕ) (tokens : List Token) (from : ℕ) (fault other : ScenarioFault)
    → IsEventFaultAt v text tokens from fault
    → IsEventFaultAt v text tokens from other
    → fault ≡ other
