-- Guards: what they remember from left to right, and what they refuse. They are the refusals 9 to 12, 15, 17 and 19.
use Rattle.std.specs.Prelude.{ℕ, List, [], ◌∷◌, length, if◌then◌else◌, codes, nat_lt}
use Rattle.jc_rules.specs.declared.refusal.Refusal.{Refusal}
use Rattle.jc_rules.specs.declared.refusal.Refusal.TheVariants.{IndexTooLarge, ReservedName, TooManyCommands, TooLongExpression, SameName, TooManyReplicas, TooManyEvents}
use Rattle.jc_grammar.specs.Symbols.{Lexeme}
use Rattle.jc_grammar.specs.SymbolTests.{value_of_symbol, is_word, numeral_value, is_reserved, is_misused}
use Rattle.jc_grammar.specs.Classes.{is_in}

-- a refusal, and the offset that is told with it
pub record TextFault : Type 0 where
  pub refusal : Refusal
  pub offset : ℕ

-- the fault at a lexeme
abbrev pub fault_at : Refusal → Lexeme → TextFault
fault_at refusal x = record { refusal = refusal; offset = x.place }

-- the fault where what comes next fits nothing, by the lexemes that are left
abbrev pub Misfit : Type 0
Misfit = List Lexeme → TextFault

-- the replicas' names so far, and the offset of the last dot
pub record GuardState : Type 0 where
  pub names : List (List ℕ)
  pub dot : ℕ

-- what is remembered where a text begins
abbrev pub nothing_seen : GuardState
nothing_seen = record { names = []; dot = 0 }

pub data Verdict : Type 0 where
  refuses : TextFault → Verdict
  passes : GuardState → Verdict

-- A guard judges the first symbol of a part of a sentence. Those whose names begin with `no` refuse each.
pub data Guard : Type 0 where
  small_index : Guard
  free_binding : Guard
  free_root : Guard
  dot_seen : Guard
  new_replica : ℕ → Guard
  no_selector : Guard
  no_command : Guard
  no_event : Guard

abbrev pub unless_reserved : Lexeme → Verdict → Verdict
unless_reserved x v = if is_reserved (value_of_symbol x.symbol) then refuses (fault_at ReservedName x) else v

abbrev pub verdict_of : Guard → GuardState → Lexeme → Verdict
verdict_of small_index s x =
    if nat_lt (numeral_value (value_of_symbol x.symbol)) 4294967296 then passes s
    else refuses (fault_at IndexTooLarge x)
verdict_of free_binding s x = unless_reserved x (passes s)
verdict_of free_root s x = if is_word (codes "doc") x.symbol then passes s else unless_reserved x (passes s)
verdict_of dot_seen s x = passes (record s { dot = x.place })
verdict_of (new_replica most) s x =
    unless_reserved x (
    if is_in (value_of_symbol x.symbol) s.names then refuses (fault_at SameName x)
    else (if nat_lt (length s.names) most then passes (record s { names = value_of_symbol x.symbol ∷ s.names })
    else refuses (fault_at TooManyReplicas x)))
verdict_of no_selector s x = refuses (record { refusal = TooLongExpression; offset = s.dot })
verdict_of no_command s x = refuses (fault_at (if is_misused x.symbol then ReservedName else TooManyCommands) x)
verdict_of no_event s x = refuses (fault_at TooManyEvents x)
