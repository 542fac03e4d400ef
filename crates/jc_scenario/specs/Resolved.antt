-- Names in events and the replicas' numbers, for `resolve` and for scenarios of texts.
use Rattle.std.specs.Prelude.{◌≡◌, ℕ, ◌⊎◌, List, [], ◌∷◌, length, map, flat_map, All}
use Rattle.std.specs.List.{Contains}
use Rattle.jc_rules.specs.declared.operation.Event.{Event}
use Rattle.jc_syntax.specs.declared.tree.Named.{Named}
use Rattle.jc_syntax.specs.declared.tree.NamedEvent.{NamedEvent}
use Rattle.jc_syntax.specs.declared.tree.NamedEvent.TheVariants.{Exec, Send, Recv, Take, Apply, Done}
use Rattle.jc_parser.specs.Events.{call_of}
use Rattle.jc_parser.specs.LegalSymbols.{call_by}
use Rattle.jc_printer.specs.Canon.{AreNamed}

-- ---- one event

-- its replicas have these numbers: with their names it is the event that was written
pub record IsResolved (names : List (List ℕ)) (named : NamedEvent) (event : Event) : Type 0 where
  pub known : AreNamed event (length names)
  pub called : call_by names event ≡ call_of named

-- the names in it, from left to right
abbrev pub names_in_event : NamedEvent → List Named
names_in_event (Exec p) = p ∷ []
names_in_event (Send p) = p ∷ []
names_in_event (Recv p q) = p ∷ q ∷ []
names_in_event (Take p q counter r) = p ∷ q ∷ r ∷ []
names_in_event (Apply p counter q) = p ∷ q ∷ []
names_in_event (Done p) = p ∷ []

-- the first of these names that no replica has is at this offset
abbrev pub IsFirstStranger : List (List ℕ) → List Named → ℕ → Type 0
IsFirstStranger names [] at = ⊥
IsFirstStranger names (x ∷ xs) at =
    ((Contains names x.name → ⊥) × (at ≡ x.place))
    ⊎ (Contains names x.name × IsFirstStranger names xs at)

-- ---- a list of events

pub record AreResolved (names : List (List ℕ)) (named : List NamedEvent) (events : List Event) : Type 0 where
  pub known : All (λ e. AreNamed e (length names)) events
  pub called : map (call_by names) events ≡ map call_of named

abbrev pub all_names_in : List NamedEvent → List Named
all_names_in events = flat_map names_in_event events
