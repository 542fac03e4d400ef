-- Of `Expected`: there is one test that tells what goes on, and lists with one spelling more.
use Rattle.std.proofs.Common.{◌≡◌, ◌≢◌, ◌⊎◌, inl, inr, ℕ, ◌+◌, ◌<◌, Bool, true, false, List, [], ◌∷◌, ◌++◌, length, map, take, get_or, refl, sym, ap, subst, ◌∙◌, append_assoc, append-nil}
use Rattle.std.specs.Prelude.{◌↔◌, IsTrue, filter, if◌then◌else◌}
use Rattle.std.proofs.lemmas.List.{map-append, take_more}
use Rattle.std.proofs.lemmas.List.Elements.{filter-append}
use Rattle.jc_parser.specs.declared.fault.ScenarioFault.{ScenarioFault}
use Rattle.jc_parser.specs.declared.fault.ScenarioFault.TheVariants.{Memory}
use Rattle.jc_printer.specs.Canon.{quoted}
use Rattle.jc_scenario.specs.Faults.{IsFault}
use Rattle.jc_scenario.specs.WellFormed.{Scenario, IsScenario}
use Rattle.jc_scenario.specs.Laws.{ScenarioOrFault, ScenarioElseFault, OneFault}
use Rattle.jc_answers.specs.declared.arrays.ArrayText.{ArrayText}
use Rattle.jc_answers.specs.Parts.{HasItems}
use Rattle.jc_expected.specs.Expected.{leaves_open, IsBeginning, text_with, IsTest, told_if}
use Rattle.jc_expected.specs.Appended.{Appends}

-- ---- the test

-- what a text is
abbrev pub IsRead : List ℕ → Type 0
IsRead text = ((s : Scenario) × IsScenario text s) ⊎ ((fault : ScenarioFault) × IsFault text fault)

abbrev pub is_open : (text : List ℕ) → IsRead text → Bool
is_open text (inl s) = true
is_open text (inr (fault, is)) = leaves_open fault

judged : (text : List ℕ) (r : IsRead text) → ScenarioOrFault → OneFault → IsTrue (is_open text r) ↔ IsBeginning text
judged text (inl s) apart same = (λ h. inl s, λ b. refl)
judged text (inr (fault, is)) apart same = (
  λ h. inr (fault, is, h),
  λ b. elim b [
    | inl (s, k) ↦ absurd (apart text s fault k is)
    | inr (other, k, kept) ↦ ap leaves_open (same text fault other is k) ∙ kept
  ],
)

pub scenario_begins : (text : List ℕ) (s : Scenario) → IsScenario text s → IsTrue true ↔ IsBeginning text
scenario_begins text s is = (λ h. inl (s, is), λ b. refl)

pub fault_begins : (text : List ℕ) (fault : ScenarioFault) → ScenarioOrFault → OneFault → (fault ≢ Memory → IsFault text fault) → (b : Bool) → (b ≡ leaves_open fault) × (fault ≢ Memory) → IsTrue b ↔ IsBeginning text
fault_begins text fault apart same is b (told, kept) = subst (λ (x : Bool). IsTrue x ↔ IsBeginning text) (sym told) (judged text (inr (fault, is kept)) apart same)

-- what goes on at an offset of a text
abbrev pub going_on : ScenarioElseFault → List ℕ → ℕ → List ℕ → Bool
going_on told text at spelling = is_open (text_with text at spelling) (told (text_with text at spelling))

pub is_test : (told : ScenarioElseFault) → ScenarioOrFault → OneFault → (text : List ℕ) (at : ℕ) → IsTest text at (going_on told text at)
is_test told apart same text at = λ spelling. judged (text_with text at spelling) (told (text_with text at spelling)) apart same

pub same_answer : {P : Type 0} (b c : Bool) → (IsTrue b ↔ P) → (IsTrue c ↔ P) → b ≡ c
same_answer true true h k = refl
same_answer true false h k = sym (k.1 (h.0 refl))
same_answer false true h k = h.1 (k.0 refl)
same_answer false false h k = refl

-- ---- lists with more

-- two appended one after the other
pub both : {text : List ℕ} {at : ℕ} {X Y : (List ℕ → Bool) → List (List ℕ)} {a b c : ArrayText} → Appends text at X a b → Appends text at Y b c → Appends text at (λ g. X g ++ Y g) a c
both {X} {Y} {c} first next = record {
  more = λ g t ts h. subst (λ (us : List (List ℕ)). HasItems c (map quoted us)) (append_assoc ts (X g) (Y g)) (next.more g t (ts ++ X g) (first.more g t ts h));
}

-- the same, told otherwise
pub same_appended : {text : List ℕ} {at : ℕ} {X Y : (List ℕ → Bool) → List (List ℕ)} {a b : ArrayText} → ((g : List ℕ → Bool) → IsTest text at g → X g ≡ Y g) → Appends text at X a b → Appends text at Y a b
same_appended {b} same h = record {
  more = λ g t ts k. subst (λ (us : List (List ℕ)). HasItems b (map quoted (ts ++ us))) (same g t) (h.more g t ts k);
}

-- nothing appended
pub none_appended : {text : List ℕ} {at : ℕ} {X : (List ℕ → Bool) → List (List ℕ)} (a : ArrayText) → ((g : List ℕ → Bool) → IsTest text at g → X g ≡ []) → Appends text at X a a
none_appended a none = record {
  more = λ g t ts k. subst (λ (us : List (List ℕ)). HasItems a (map quoted us)) (sym (append-nil ts) ∙ ap (λ (us : List (List ℕ)). ts ++ us) (sym (none g t))) k;
}

-- one appended
pub one_appended : {text : List ℕ} {at : ℕ} {X : (List ℕ → Bool) → List (List ℕ)} (a b : ArrayText) (w : List ℕ) → ((g : List ℕ → Bool) → IsTest text at g → X g ≡ w ∷ []) → ((us : List (List ℕ)) → HasItems a us → HasItems b (us ++ quoted w ∷ [])) → Appends text at X a b
one_appended a b w is pushed = record {
  more = λ g t ts k.
      subst (λ (us : List (List ℕ)). HasItems b us) (sym (map-append quoted ts (w ∷ [])) ∙ ap (λ (us : List (List ℕ)). map quoted (ts ++ us)) (sym (is g t))) (pushed (map quoted ts) k);
}

-- a choice by a test that is told
pub when_told : {A : Type 0} (c : Bool) (x y : A) → c ≡ true → (if c then x else y) ≡ x
when_told c x y is = rw is refl

pub when_not : {A : Type 0} (c : Bool) (x y : A) → c ≡ false → (if c then x else y) ≡ y
when_not c x y is = rw is refl

-- what goes on of one spelling more
pub filter_more : {X : Type 0} (f : X → List ℕ) (g : List ℕ → Bool) (xs : List X) (i : ℕ) (d : X) → i < length xs → filter g (map f (take i xs)) ++ told_if (g (f (get_or xs i d))) (f (get_or xs i d)) ≡ filter g (map f (take (i + 1) xs))
filter_more f g xs i d lt = sym (ap (λ ys. filter g (map f ys)) (take_more xs i d lt) ∙ ap (filter g) (map-append f (take i xs) (get_or xs i d ∷ [])) ∙ filter-append g (map f (take i xs)) (f (get_or xs i d) ∷ []))
