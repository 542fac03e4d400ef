-- The answer to `weave`: how each replica ended, and the events of the schedule that the seed gives.
use Rattle.std.specs.Prelude.{◌≡◌, ℕ, List, [], ◌∷◌, ◌++◌, Option, Some, None, codes}
use Rattle.jc_rules.specs.declared.operation.Event.{Event}
use Rattle.jc_rules.specs.declared.refusal.Refusal.{Refusal}
use Rattle.jc_rules.specs.Refusals.{refusal_number, refusal_name}
use Rattle.jc_rules.specs.Step.{Network}
use Rattle.jc_printer.specs.Canon.{canon_event}
use Rattle.jc_scenario.specs.WellFormed.{Scenario}
use Rattle.jc_json.specs.Json.{tagged_text}
use Rattle.jc_dump.specs.Lines.{IsNamedStuck}
use Rattle.jc_choice.specs.declared.end.End.{End}
use Rattle.jc_choice.specs.declared.end.End.TheVariants.{Finished, LimitReached, StuckAt, NoMemory}
use Rattle.jc_weave.specs.Weaving.{IsWoven, counts_in}
use Rattle.jc_rules.specs.declared.key.Tagged.{Tagged}
use Rattle.jc_answers.specs.JsonTexts.{NamedText, number_member, string_member, text_member, object_text, array_text}
use Rattle.jc_replies.specs.ReplyTexts.{events_answer}

-- the tagged key of the node that isn't there, which 25 has
abbrev pub key_if_any : List (List ℕ) → Option Tagged → List NamedText
key_if_any names None = []
key_if_any names (Some k) = string_member (codes "key") (tagged_text names k)

-- how a replica ended that got stuck: why, the event, and the member of a key
abbrev pub stuck_members : List ℕ → ℕ → Refusal → List ℕ → List NamedText → List NamedText
stuck_members name made refusal event key =
    string_member (codes "cause") (refusal_name refusal) ++ (string_member (codes "end") (codes "stuck")
    ++ (string_member (codes "event") event ++ (key
    ++ (number_member (codes "made") made
    ++ (string_member (codes "name") name ++ number_member (codes "stuck") (refusal_number refusal))))))

-- how a replica of this name ended, which made so many events
abbrev pub end_members : List (List ℕ) → List ℕ → ℕ → End → List NamedText
end_members names name made Finished =
    string_member (codes "end") (codes "finished") ++ number_member (codes "made") made
    ++ string_member (codes "name") name
end_members names name made LimitReached =
    string_member (codes "end") (codes "limit") ++ number_member (codes "made") made
    ++ string_member (codes "name") name
end_members names name made (StuckAt s) =
    stuck_members name made s.refusal (canon_event names s.event) (key_if_any names s.key)
-- no woven schedule has such an end
end_members names name made NoMemory = []

-- where it is an event that is stuck, its replicas have names; and memory was there
abbrev pub IsNamedEnd : List (List ℕ) → End → Type 0
IsNamedEnd names (StuckAt s) = IsNamedStuck names s
IsNamedEnd names NoMemory = ⊥
IsNamedEnd names end = Unit {0}

-- the ends of replicas, by their names and how many events each made
abbrev pub end_answers : List (List ℕ) → List (List ℕ) → List ℕ → List End → List (List ℕ)
end_answers all (name ∷ names) (made ∷ counts) (end ∷ ends) =
    object_text (end_members all name made end) ∷ end_answers all names counts ends
end_answers all names counts ends = []

abbrev pub woven_answer : List (List ℕ) → List Event → List End → List ℕ
woven_answer names schedule ends =
    object_text (
    text_member (codes "ends") (array_text (end_answers names names (counts_in schedule names) ends))
    ++ text_member (codes "events") (events_answer names schedule))

-- the answer for a seed and a limit
pub record IsWovenText (s : Scenario) (seed limit : ℕ) (answer : List ℕ) : Type 0 where
  pub schedule : List Event
  pub network : Network
  pub ends : List End
  pub woven : IsWoven s seed limit schedule network ends
  pub is : answer ≡ woven_answer s.names schedule ends
