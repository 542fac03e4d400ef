-- The symbols that the canonical text of a scenario is written with.
use Rattle.std.proofs.Common.{ℕ, List, [], ◌∷◌, ◌++◌}
use Rattle.std.specs.Prelude.{codes}
use Rattle.jc_rules.specs.declared.operation.Event.{Event}
use Rattle.jc_rules.specs.declared.version.Version.{Version}
use Rattle.jc_rules.specs.declared.version.Version.TheVariants.{One, Two}
use Rattle.jc_grammar.specs.Symbols.{Symbol, word, number, open_brace, close_brace, semicolon}
use Rattle.jc_parser.specs.Scenarios.{Part}
use Rattle.jc_printer.proofs.CanonSymbolsLemmas.{cmd_symbols, event_symbols}

-- items with a `;` behind each
abbrev pub ended : {A : Type 0} → (A → List Symbol) → List A → List Symbol
ended written [] = []
ended written (a ∷ items) = written a ++ semicolon ∷ ended written items

-- a replica behind its word
abbrev pub named_symbols : Part → List Symbol
named_symbols p = word p.name ∷ open_brace ∷ (ended cmd_symbols p.script ++ close_brace ∷ [])

abbrev pub part_symbols : Part → List Symbol
part_symbols p = word (codes "replica") ∷ named_symbols p

abbrev pub parts_symbols : List Part → List Symbol
parts_symbols [] = []
parts_symbols (p ∷ ps) = part_symbols p ++ parts_symbols ps

abbrev pub block_symbols : List ℕ → List (List ℕ) → List Event → List Symbol
block_symbols lead names es = word lead ∷ open_brace ∷ (ended (event_symbols names) es ++ close_brace ∷ [])

abbrev pub given_symbols : Version → List (List ℕ) → List Event → List Symbol
given_symbols One names es = []
given_symbols Two names es = block_symbols (codes "given") names es

abbrev pub schedule_symbols : List (List ℕ) → List Event → List Symbol
schedule_symbols names es = block_symbols (codes "schedule") names es

-- the number of a version, by its text
abbrev pub version_text : Version → List ℕ
version_text One = codes "1"
version_text Two = codes "2"

abbrev pub header : Version → List Symbol
header v = word (codes "jsoncrdt") ∷ number (version_text v) ∷ []
