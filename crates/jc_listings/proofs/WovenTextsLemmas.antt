-- About `WovenTexts`: lists of ends, and what is told of a woven schedule.
use Rattle.std.proofs.Common.{◌≡◌, ℕ, zero, suc, ◌+◌, ◌<◌, ◌≤◌, List, [], ◌∷◌, ◌++◌, length, take, get_or, codes, refl, ap, sym, subst, ◌∙◌, arith}
use Rattle.std.specs.List.{All}
use Rattle.std.proofs.lemmas.List.Elements.{All-weaker}
use Rattle.jc_rules.specs.declared.operation.Event.{Event}
use Rattle.jc_rules.specs.Step.{Network}
use Rattle.jc_printer.specs.Canon.{AreNamed}
use Rattle.jc_scenario.specs.WellFormed.{Scenario, IsWellFormedScenario}
use Rattle.jc_choice.specs.declared.end.End.{End}
use Rattle.jc_choice.specs.declared.end.End.TheVariants as N
use Rattle.jc_choice.proofs.LegalLemmas.{well_formed_with}
use Rattle.jc_weave.specs.Weaving.{counts_in, IsWoven}
use Rattle.jc_weave.proofs.WeavingLemmas.{leads, within}
use Rattle.jc_weave.proofs.WeavingStuckLemmas.{IsEndOfReplicas, ends_of_replicas, ends_long, counts_long}
use Rattle.jc_answers.specs.declared.arrays.ArrayText.{ArrayText}
use Rattle.jc_rules.specs.declared.refusal.Refusal.{Refusal}
use Rattle.jc_rules.specs.Refusals.{refusal_number, refusal_name}
use Rattle.jc_answers.specs.declared.objects.Member.{Member}
use Rattle.jc_answers.specs.JsonTexts.{number_member, string_member, text_member, object_text, array_text}
use Rattle.jc_answers.specs.Parts.{HasItems, member_of, members_of}
use Rattle.jc_replies.specs.ReplyTexts.{events_answer}
use Rattle.jc_listings.specs.WovenTexts.{stuck_members, end_members, end_answers, IsNamedEnd, IsWovenText}

-- ---- members

pub seven_members : (a b c d e f g : Member) (name : List ℕ) (made : ℕ) (refusal : Refusal) (event : List ℕ)
    → member_of a ≡ string_member (codes "cause") (refusal_name refusal)
    → member_of b ≡ string_member (codes "end") (codes "stuck")
    → member_of c ≡ string_member (codes "event") event
    → member_of e ≡ number_member (codes "made") made
    → member_of f ≡ string_member (codes "name") name
    → member_of g ≡ number_member (codes "stuck") (refusal_number refusal)
    → members_of (a ∷ b ∷ c ∷ d ∷ e ∷ f ∷ g ∷ []) ≡ stuck_members name made refusal event (member_of d)
seven_members a b c d e f g name made refusal event cause end own count named number =
    λ i. cause i ++ (end i ++ (own i ++ (member_of d ++ (count i ++ (named i ++ (number i ++ []))))))

two_members : (a b : Member) (one two : List ℕ) → member_of a ≡ text_member (codes "ends") one → member_of b ≡ text_member (codes "events") two → members_of (a ∷ b ∷ []) ≡ text_member (codes "ends") one ++ text_member (codes "events") two
two_members a b one two ends events = λ i. ends i ++ (events i ++ [])

-- ---- lists of ends

-- the list with those of the first replicas
abbrev pub EndsGoOn : List (List ℕ) → List (List ℕ) → List ℕ → List End → ℕ → ArrayText → Type 0
EndsGoOn all names made ends p a = HasItems a (end_answers all (take p names) (take p made) (take p ends))

next_end : (all names : List (List ℕ)) (made : List ℕ) (ends : List End) (p : ℕ) (n : List ℕ) (m : ℕ) (e : End) → p < length names → p < length made → p < length ends → end_answers all (take (suc p) names) (take (suc p) made) (take (suc p) ends) ≡ end_answers all (take p names) (take p made) (take p ends) ++ object_text (end_members all (get_or names p n) (get_or made p m) (get_or ends p e)) ∷ []
next_end all [] made ends p n m e a b d = absurd (omega arith)
next_end all (x ∷ names) [] ends p n m e a b d = absurd (omega arith)
next_end all (x ∷ names) (y ∷ made) [] p n m e a b d = absurd (omega arith)
next_end all (x ∷ names) (y ∷ made) (z ∷ ends) zero n m e a b d = refl
next_end all (x ∷ names) (y ∷ made) (z ∷ ends) (suc p) n m e a b d =
    ap (λ ts. object_text (end_members all x y z) ∷ ts) (next_end all names made ends p n m e (omega arith) (omega arith) (omega arith))

pub more_ends : (all names : List (List ℕ)) (made : List ℕ) (ends : List End) (p : ℕ) (n : List ℕ) (m : ℕ) (e : End) (a : ArrayText) (text : List ℕ) → p < length names → p < length made → p < length ends → text ≡ object_text (end_members all (get_or names p n) (get_or made p m) (get_or ends p e)) → HasItems a (end_answers all (take p names) (take p made) (take p ends) ++ text ∷ []) → EndsGoOn all names made ends (p + 1) a
more_ends all names made ends p n m e a text in_names in_made in_ends is h =
    let one : suc p ≡ p + 1 = omega arith in
    subst (λ k. EndsGoOn all names made ends k a) one
    (subst (HasItems a) (ap (λ t. end_answers all (take p names) (take p made) (take p ends) ++ t ∷ []) is ∙ sym (next_end all names made ends p n m e in_names in_made in_ends)) h)

-- ---- woven schedules

named_end : (names : List (List ℕ)) (end : End) → IsEndOfReplicas (length names) end → IsNamedEnd names end
named_end names N.Finished h = tt
named_end names (N.StuckAt stuck) h = record { why = h.why; event = h.event; is = h.is; named = h.named }
named_end names N.LimitReached h = tt
named_end names N.NoMemory h = absurd h

pub named_ends : (s : Scenario) (seed limit : ℕ) (schedule : List Event) (network : Network) (ends : List End) → IsWellFormedScenario s → IsWoven s seed limit schedule network ends → All (IsNamedEnd s.names) ends
named_ends s seed limit schedule network ends formed x = All-weaker (IsEndOfReplicas (length s.names)) (IsNamedEnd s.names) (named_end s.names) ends (ends_of_replicas s seed limit schedule network ends formed x)

pub each_end : (s : Scenario) (seed limit : ℕ) (schedule : List Event) (network : Network) (ends : List End) → IsWoven s seed limit schedule network ends → length ends ≡ length s.names
each_end s seed limit schedule network ends x = ap length x.are_ends ∙ ends_long x.stucks network.states s.names

pub each_count : (s : Scenario) (schedule : List Event) (made : List ℕ) → made ≡ counts_in schedule s.names → length made ≡ length s.names
each_count s schedule made is = ap length is ∙ counts_long schedule s.names

pub named_events : (s : Scenario) (seed limit : ℕ) (schedule : List Event) (network : Network) (ends : List End) → IsWellFormedScenario s → limit ≤ 100000 → IsWoven s seed limit schedule network ends → All (λ e. AreNamed e (length s.names)) schedule
named_events s seed limit schedule network ends formed most x =
    (well_formed_with s schedule network formed (leads s seed limit schedule network ends x) (omega (arith, within s seed limit schedule network ends x, most))).known

pub woven_told : (s : Scenario) (seed limit : ℕ) (schedule events : List Event) (network : Network) (ends others : List End) (names : List (List ℕ)) (made : List ℕ) (a b : Member) (one two answer : List ℕ)
    → IsWoven s seed limit schedule network ends
    → names ≡ s.names → made ≡ counts_in schedule s.names → others ≡ ends → events ≡ schedule
    → member_of a ≡ text_member (codes "ends") one → member_of b ≡ text_member (codes "events") two
    → one ≡ array_text (end_answers names names made others) → two ≡ events_answer names events
    → answer ≡ object_text (members_of (a ∷ b ∷ []))
    → IsWovenText s seed limit answer
woven_told s seed limit schedule events network ends others names made a b one two answer woven named counted same own is_a is_b is_one is_two is = record {
  schedule = schedule;
  network = network;
  ends = ends;
  woven = woven;
  is = is ∙ (ap object_text (two_members a b one two is_a is_b) ∙ ((λ i. object_text (text_member (codes "ends") (is_one i) ++ text_member (codes "events") (is_two i))) ∙ (λ i. object_text (text_member (codes "ends") (array_text (end_answers (named i) (named i) (counted i) (same i))) ++ text_member (codes "events") (events_answer (named i) (own i))))));
}
