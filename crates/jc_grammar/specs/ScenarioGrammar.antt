-- The language of scenarios as one value: docs/LANGUAGE.md tells it in words, "Grammar" in docs/FORMATS.md as a grammar
-- of the same names. Above each production stand the sections that it is compared with. A choice is made by the next
-- symbol, so what FORMATS.md writes as several that begin alike is one here, told apart behind what they share.
use Rattle.std.specs.Prelude.{◌≡◌, ℕ, zero, suc, ◌-◌, List, [], ◌∷◌, length, codes, true}
use Rattle.jc_rules.specs.declared.limits.TheConstants.{MAX_SELECTORS, MAX_COMMANDS, MAX_REPLICAS, MAX_EVENTS}
use Rattle.jc_rules.specs.declared.refusal.Refusal.TheVariants.{Unexpected, EndOfText, NoHeader, NoReplica}
use Rattle.jc_rules.specs.declared.version.Version.{Version}
use Rattle.jc_rules.specs.declared.version.Version.TheVariants.{One, Two}
use Rattle.jc_syntax.specs.declared.token.TokenKind.{TokenKind}
use Rattle.jc_syntax.specs.declared.token.TokenKind.TheVariants.{Name, Number, Str, Dot, ParenL, ParenR, BraceL, BraceR, BracketL, BracketR, Comma, Semi, Assign, Equals}
use Rattle.jc_grammar.specs.Symbols.{Lexeme}
use Rattle.jc_grammar.specs.Symbols.{place_at}
use Rattle.jc_grammar.specs.Classes.{any, the_word, other_word, the_number, digits}
use Rattle.jc_grammar.specs.Guards.{fault_at, Misfit, small_index, free_binding, free_root, dot_seen, new_replica, no_selector, no_command, no_event}
use Rattle.jc_grammar.specs.Grammar.{Grammar, symbol, nothing, ◌then◌, ◌or◌, guarded, listed, chained, repeated}
use Rattle.jc_grammar.specs.LookAhead.{is_decided}

-- ---- tokens: FORMATS.md, "Lexemes"

-- any name, number or string, or the sign
abbrev pub token : TokenKind → Grammar
token kind = symbol (any kind)

-- a word in quotes
abbrev pub keyword : List ℕ → Grammar
keyword w = symbol (the_word w)

-- digits alone, below 2 to the 32: FORMATS.md, "Faults of a sentence"
abbrev pub index : Grammar
index = guarded small_index (symbol digits)

abbrev pub in_parens : Grammar → Grammar
in_parens g = token ParenL then g then token ParenR

-- ---- LANGUAGE.md, "Commands": an expression leads to a place of the document

-- selector
abbrev pub selector : Grammar
selector =
    keyword (codes "get") then in_parens (token Str)
    or keyword (codes "idx") then in_parens index
    or keyword (codes "keys")
    or keyword (codes "values")

-- The first part of an expression, `doc` or a variable: these words are no variable. FORMATS.md, "Reserved words".
abbrev pub root_but : List (List ℕ) → Grammar
root_but words = guarded free_root (keyword (codes "doc") or symbol (other_word words))

abbrev pub selector_dot : Grammar
selector_dot = guarded dot_seen (token Dot)

-- expression
abbrev pub expression : Grammar
expression = root_but (codes "doc" ∷ []) then repeated MAX_SELECTORS no_selector selector_dot selector nothing

-- value
abbrev pub literal : Grammar
literal =
    token Number
    or token Str
    or keyword (codes "true")
    or keyword (codes "false")
    or keyword (codes "null")
    or token BraceL then token BraceR
    or token BracketL then token BracketR

-- command, `x := v`, behind the expression
abbrev pub assignment : Grammar
assignment = token Assign then literal

-- command, `x.insertAfter(v)` and `x.delete`, behind the dot
abbrev pub ending : Grammar
ending = keyword (codes "insertAfter") then in_parens literal or keyword (codes "delete")

-- command, those that begin with an expression: at their start `let` and `yield` are keywords
abbrev pub change : Grammar
change =
    root_but (codes "let" ∷ codes "yield" ∷ codes "doc" ∷ [])
    then chained MAX_SELECTORS no_selector selector_dot selector assignment ending

-- command, `let x = y`
abbrev pub binding : Grammar
binding = keyword (codes "let") then guarded free_binding (token Name) then token Equals then expression

-- command
abbrev pub command : Grammar
command = keyword (codes "yield") or binding or change

-- script
abbrev pub script : Grammar
script = listed MAX_COMMANDS no_command command (token Semi)

-- a script and the brace that closes it
abbrev pub closed_script : Grammar
closed_script = script then token BraceR

-- ---- LANGUAGE.md, "Events", and for `take` "One operation at a time"

-- identifier
abbrev pub identifier : Grammar
identifier = index then token Comma then token Name

-- event, behind the dot: those of both versions
abbrev pub common_action : Grammar
common_action =
    keyword (codes "exec")
    or keyword (codes "send")
    or keyword (codes "recv") then in_parens (token Name)
    or keyword (codes "apply") then in_parens identifier
    or keyword (codes "done")

-- event, behind the dot
abbrev pub action : Version → Grammar
action One = common_action
action Two = keyword (codes "take") then in_parens (token Name then token Comma then identifier) or common_action

-- event
abbrev pub event : Version → Grammar
event v = token Name then token Dot then action v

-- events
abbrev pub events : Version → Grammar
events v = listed MAX_EVENTS no_event (event v) (token Semi)

-- ---- LANGUAGE.md, "A past that is given"

abbrev pub block : List ℕ → Version → Grammar
block word v = keyword word then token BraceL then events v then token BraceR

-- given
abbrev pub given : Grammar
given = block (codes "given") Two

-- schedule
abbrev pub schedule : Version → Grammar
schedule v = block (codes "schedule") v

-- [ given ] [ schedule ]
abbrev pub blocks : Version → Grammar
blocks One = schedule One or nothing
blocks Two = (given or nothing) then (schedule Two or nothing)

-- ---- LANGUAGE.md, "A first one"

-- replica, behind its word
abbrev pub replica : Grammar
replica = guarded (new_replica MAX_REPLICAS) (token Name) then token BraceL then closed_script

-- scenario, behind the version: one replica or more, and the blocks
abbrev pub body : Version → Grammar
body v =
    keyword (codes "replica") then replica
    then repeated (MAX_REPLICAS - 1) (new_replica MAX_REPLICAS) (keyword (codes "replica")) replica (blocks v)

-- scenario
abbrev pub scenario : Grammar
scenario =
    keyword (codes "jsoncrdt")
    then (symbol (the_number (codes "1")) then body One or symbol (the_number (codes "2")) then body Two)

-- ---- what fits nothing

-- FORMATS.md, "Faults of a sentence": 7 at the token, 8 at the text's end
abbrev pub misfit_at : ℕ → Misfit
misfit_at stop [] = record { refusal = EndOfText; offset = stop }
misfit_at stop (x ∷ after) = fault_at Unexpected x

-- FORMATS.md, "Faults of a scenario": behind no token or one it is 14, behind two 16
abbrev pub header_misfit : ℕ → ℕ → Misfit
header_misfit zero stop after = record { refusal = NoHeader; offset = place_at stop after }
header_misfit (suc zero) stop after = record { refusal = NoHeader; offset = place_at stop after }
header_misfit (suc (suc zero)) stop after = record { refusal = NoReplica; offset = place_at stop after }
header_misfit (suc (suc (suc n))) stop after = misfit_at stop after

-- the misfits of a scenario with these lexemes
abbrev pub scenario_misfit : ℕ → List Lexeme → Misfit
scenario_misfit stop ls after = header_misfit (length ls - length after) stop after

-- ---- the law's statement

-- The next symbol decides each choice in all that can be a text by itself.
abbrev pub ScenariosDecided : Type 0
ScenariosDecided =
    (is_decided expression [] ≡ true)
    × (is_decided script [] ≡ true)
    × ((v : Version) → is_decided (event v) [] ≡ true)
    × (is_decided scenario [] ≡ true)
