-- Texts of which docs/FORMATS.md says what they are. A text is a list of symbols here, and the offset of each is its
-- number.
use Rattle.std.specs.Prelude.{◌≡◌, ℕ, zero, suc, List, [], ◌∷◌, ◌++◌, length, codes, Option, Some, None, Result, Ok, Err}
use Rattle.jc_rules.specs.declared.limits.TheConstants.{MAX_SELECTORS, MAX_REPLICAS}
use Rattle.jc_rules.specs.declared.refusal.Refusal.{Refusal}
use Rattle.jc_rules.specs.declared.refusal.Refusal.TheVariants.{Unexpected, EndOfText, IndexTooLarge, ReservedName, TooLongExpression, NoHeader, SameName, NoReplica, TooManyReplicas}
use Rattle.jc_grammar.specs.Symbols.{Symbol, word, number, dot, open_paren, close_paren, open_brace, close_brace, comma, assign, equals, Lexeme}
use Rattle.jc_grammar.specs.Guards.{TextFault, nothing_seen}
use Rattle.jc_grammar.specs.Grammar.{Grammar, NoticedFault}
use Rattle.jc_grammar.specs.TreeReader.{read_whole}
use Rattle.jc_grammar.specs.ScenarioGrammar.{expression, script, scenario, misfit_at, scenario_misfit}

-- the symbols as lexemes, numbered from n on
abbrev pub numbered : ℕ → List Symbol → List Lexeme
numbered n [] = []
numbered n (s ∷ more) = record { place = n; symbol = s } ∷ numbered (suc n) more

abbrev pub fault_of_read : {T : Type 0} → Result T NoticedFault → Option TextFault
fault_of_read (Ok t) = None
fault_of_read (Err e) = Some e.fault

-- the fault of symbols as a text of a grammar, if they have one
abbrev pub fault_by : Grammar → List Symbol → Option TextFault
fault_by g symbols = fault_of_read (read_whole g (misfit_at (length symbols)) nothing_seen (numbered 0 symbols))

abbrev pub scenario_fault_by : List Lexeme → Option TextFault
scenario_fault_by ls = fault_of_read (read_whole scenario (scenario_misfit (length ls) ls) nothing_seen ls)

abbrev pub scenario_fault : List Symbol → Option TextFault
scenario_fault symbols = scenario_fault_by (numbered 0 symbols)

abbrev pub refusal_at : Refusal → ℕ → Option TextFault
refusal_at refusal offset = Some (record { refusal = refusal; offset = offset })

-- ---- parts of texts

-- `doc.idx(N)`
abbrev pub element : List ℕ → List Symbol
element digits = word (codes "doc") ∷ dot ∷ word (codes "idx") ∷ open_paren ∷ number digits ∷ close_paren ∷ []

-- a word, and n times `.keys`
abbrev pub keys_of : ℕ → Symbol → List Symbol
keys_of zero root = root ∷ []
keys_of (suc n) root = root ∷ dot ∷ keys_of n (word (codes "keys"))

-- `jsoncrdt N`
abbrev pub header_of : List ℕ → List Symbol
header_of version = word (codes "jsoncrdt") ∷ number version ∷ []

-- `replica NAME {}`
abbrev pub idle : List ℕ → List Symbol
idle name = word (codes "replica") ∷ word name ∷ open_brace ∷ close_brace ∷ []

-- n of them, each with a name of its own
abbrev pub idle_ones : ℕ → List Symbol
idle_ones zero = []
idle_ones (suc n) = idle (n ∷ []) ++ idle_ones n

-- `schedule {a.take(a, 1, a)}`
abbrev pub a_take : List Symbol
a_take =
    word (codes "schedule") ∷ open_brace ∷ word (codes "a") ∷ dot ∷ word (codes "take") ∷ open_paren ∷ word (codes "a")
    ∷ comma ∷ number (codes "1") ∷ comma ∷ word (codes "a") ∷ close_paren ∷ close_brace ∷ []

-- the word of a block, and no events
abbrev pub without_events : List ℕ → List Symbol
without_events name = word name ∷ open_brace ∷ close_brace ∷ []

-- ---- what they are

-- "Faults of a sentence", "Reserved words"
pub record SentenceExamples : Type 0 where
  pub small : fault_by expression (element (codes "4294967295")) ≡ None
  pub large : fault_by expression (element (codes "4294967296")) ≡ refusal_at IndexTooLarge 4
  pub no_digits : fault_by expression (element (codes "1e9")) ≡ refusal_at Unexpected 4
  pub full : fault_by expression (keys_of MAX_SELECTORS (word (codes "doc"))) ≡ None
  pub longer : fault_by expression (keys_of (suc MAX_SELECTORS) (word (codes "doc"))) ≡ refusal_at TooLongExpression 513
  pub dot_last : fault_by expression (keys_of MAX_SELECTORS (word (codes "doc")) ++ dot ∷ []) ≡ refusal_at EndOfText 514
  pub full_command :
      fault_by script (keys_of MAX_SELECTORS (word (codes "doc")) ++ dot ∷ word (codes "delete") ∷ []) ≡ None
  pub longer_command :
      fault_by script (keys_of (suc MAX_SELECTORS) (word (codes "doc"))) ≡ refusal_at TooLongExpression 513
  pub longer_binding :
      fault_by script (word (codes "let") ∷ word (codes "x") ∷ equals ∷ keys_of (suc MAX_SELECTORS) (word (codes "y")))
      ≡ refusal_at TooLongExpression 516
  pub no_value :
      fault_by script (word (codes "let") ∷ word (codes "x") ∷ equals ∷ word (codes "yield") ∷ [])
      ≡ refusal_at ReservedName 3
  pub no_name : fault_by script (word (codes "let") ∷ word (codes "keys") ∷ []) ≡ refusal_at ReservedName 1
  pub no_place : fault_by script (word (codes "true") ∷ assign ∷ number (codes "1") ∷ []) ≡ refusal_at ReservedName 0
  pub keyword : fault_by script (word (codes "let") ∷ assign ∷ number (codes "1") ∷ []) ≡ refusal_at Unexpected 1
  pub empty : fault_by script [] ≡ None

-- "Faults of a scenario"
pub record ScenarioExamples : Type 0 where
  pub no_text : scenario_fault [] ≡ refusal_at NoHeader 0
  pub no_version : scenario_fault (header_of (codes "3")) ≡ refusal_at NoHeader 1
  pub none_in_one : scenario_fault (header_of (codes "1")) ≡ refusal_at NoReplica 2
  pub none_in_two : scenario_fault (header_of (codes "2")) ≡ refusal_at NoReplica 2
  pub one : scenario_fault (header_of (codes "2") ++ idle (codes "a")) ≡ None
  pub unclosed :
      scenario_fault (
      header_of (codes "1") ++ word (codes "replica") ∷ word (codes "a") ∷ open_brace ∷ word (codes "yield") ∷ [])
      ≡ refusal_at EndOfText 6
  pub no_name : scenario_fault (header_of (codes "1") ++ idle (codes "let")) ≡ refusal_at ReservedName 3
  pub same : scenario_fault (header_of (codes "1") ++ (idle (codes "a") ++ idle (codes "a"))) ≡ refusal_at SameName 7
  pub most : scenario_fault (header_of (codes "1") ++ idle_ones MAX_REPLICAS) ≡ None
  pub more : scenario_fault (header_of (codes "1") ++ idle_ones (suc MAX_REPLICAS)) ≡ refusal_at TooManyReplicas 259
  pub given :
      scenario_fault (header_of (codes "1") ++ (idle (codes "a") ++ without_events (codes "given")))
      ≡ refusal_at Unexpected 6
  pub given_last :
      scenario_fault (
      header_of (codes "2") ++ (idle (codes "a") ++ (without_events (codes "schedule") ++ without_events (codes "given"))))
      ≡ refusal_at Unexpected 9
  pub given_first :
      scenario_fault (
      header_of (codes "2") ++ (idle (codes "a") ++ (without_events (codes "given") ++ without_events (codes "schedule"))))
      ≡ None
  pub taken : scenario_fault (header_of (codes "1") ++ (idle (codes "a") ++ a_take)) ≡ refusal_at Unexpected 10
  pub taken_in_two : scenario_fault (header_of (codes "2") ++ (idle (codes "a") ++ a_take)) ≡ None

abbrev pub ExamplesHold : Type 0
ExamplesHold = SentenceExamples × ScenarioExamples
