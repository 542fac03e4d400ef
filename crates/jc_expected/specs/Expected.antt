-- What could stand at an offset of a text: docs/FORMATS.md, "What could stand there".
use Rattle.std.specs.Prelude.{◌≡◌, ◌↔◌, ◌⊎◌, ℕ, List, [], ◌∷◌, ◌++◌, Bool, true, false, IsTrue, if◌then◌else◌, codes, filter, map, take}
use Rattle.jc_parser.specs.declared.fault.ScenarioFault.{ScenarioFault}
use Rattle.jc_parser.specs.declared.fault.ScenarioFault.TheVariants.{EndOfText, TooManyCommands, TooLongExpression, SameName, TooManyReplicas, UnknownReplica, TooManyEvents}
use Rattle.jc_printer.specs.Canon.{quoted}
use Rattle.jc_scenario.specs.Faults.{IsFault}
use Rattle.jc_scenario.specs.WellFormed.{Scenario, IsScenario}
use Rattle.jc_answers.specs.JsonTexts.{array_text}

-- ---- what goes on

-- a fault of what would have to come behind the text, of a limit, or of replicas' names
abbrev pub leaves_open : ScenarioFault → Bool
leaves_open (EndOfText place) = true
leaves_open (TooManyCommands place) = true
leaves_open (TooLongExpression place) = true
leaves_open (SameName place) = true
leaves_open (TooManyReplicas place) = true
leaves_open (UnknownReplica place) = true
leaves_open (TooManyEvents place) = true
leaves_open fault = false

-- The text is a scenario, or has such a fault: so each of its tokens fits.
abbrev pub IsBeginning : List ℕ → Type 0
IsBeginning text =
    ((s : Scenario) × IsScenario text s)
    ⊎ ((fault : ScenarioFault) × IsFault text fault × (leaves_open fault ≡ true))

-- a text up to an offset, a blank, and a spelling
abbrev pub text_with : List ℕ → ℕ → List ℕ → List ℕ
text_with text at spelling = take at text ++ 32 ∷ spelling

-- the test of spellings that tells which go on at an offset of a text
abbrev pub IsTest : List ℕ → ℕ → (List ℕ → Bool) → Type 0
IsTest text at goes_on = (spelling : List ℕ) → IsTrue (goes_on spelling) ↔ IsBeginning (text_with text at spelling)

-- ---- what is told, by such a test

-- these words, where another one doesn't go on: else they stand there as any name does
abbrev pub words_but : (List ℕ → Bool) → List ℕ → List (List ℕ) → List (List ℕ)
words_but goes_on other words = if goes_on other then [] else filter goes_on words

abbrev pub told_if : Bool → List ℕ → List (List ℕ)
told_if b name = if b then name ∷ [] else []

-- any number, or else digits alone
abbrev pub numbers_told : (List ℕ → Bool) → List (List ℕ)
numbers_told goes_on =
    if goes_on (codes "0.5") then codes "number" ∷ []
    else told_if (goes_on (codes "100")) (codes "digits")

-- names, numbers and strings
abbrev pub kinds_told : (List ℕ → Bool) → List (List ℕ)
kinds_told goes_on =
    told_if (goes_on (codes "x")) (codes "name")
    ++ numbers_told goes_on
    ++ told_if (goes_on (codes "\"\"")) (codes "string")

-- words that begin a command
abbrev pub starts : List (List ℕ)
starts = codes "yield" ∷ codes "let" ∷ codes "doc" ∷ []

-- the other reserved words
abbrev pub others : List (List ℕ)
others =
    codes "get" ∷ codes "idx" ∷ codes "keys" ∷ codes "values" ∷ codes "insertAfter" ∷ codes "delete" ∷ codes "true"
    ∷ codes "false" ∷ codes "null" ∷ []

-- words that aren't reserved
abbrev pub plain_words : List (List ℕ)
plain_words =
    codes "replica" ∷ codes "given" ∷ codes "schedule" ∷ codes "exec" ∷ codes "send" ∷ codes "recv" ∷ codes "take"
    ∷ codes "apply" ∷ codes "done" ∷ []

abbrev pub signs : List (List ℕ)
signs =
    codes "." ∷ codes ":=" ∷ codes "=" ∷ codes "(" ∷ codes ")" ∷ codes "[" ∷ codes "]" ∷ codes "{" ∷ codes ";"
    ∷ codes "," ∷ codes "}" ∷ []

-- the words that stand there as themselves
abbrev pub words_told : (List ℕ → Bool) → List (List ℕ)
words_told goes_on =
    words_but goes_on (codes "get") starts
    ++ words_but goes_on (codes "let") others
    ++ words_but goes_on (codes "x") plain_words

abbrev pub told : (List ℕ → Bool) → List (List ℕ)
told goes_on = words_told goes_on ++ kinds_told goes_on ++ filter goes_on signs

-- The list tells what could stand at an offset of a text.
pub record IsExpected (text : List ℕ) (at : ℕ) (list : List ℕ) : Type 0 where
  pub goes_on : List ℕ → Bool
  pub test : IsTest text at goes_on
  pub is : list ≡ array_text (map quoted (told goes_on))
