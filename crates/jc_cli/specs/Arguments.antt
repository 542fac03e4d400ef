-- The command that the arguments are, or the fault in them. `order_of` and the contracts of jc_program cite it.
use Rattle.std.specs.Prelude.{◌≡◌, ◌≢◌, ◌≤◌, ◌⊎◌, ⊤, ℕ, List, [], ◌∷◌, Bool, true, Option, Some, None, codes, if◌then◌else◌, option_map, unwrap_or, string_bytes}
use Rattle.std.specs.Option.{option_and_then}
use Rattle.std.specs.Str.{bytes_eq}
use Rattle.std.specs.Str.Parse.{digits_value, without_leading_plus}
use Rattle.clap.specs.ValueTests.{is_unsigned_in}
use Rattle.clap.specs.Words.{Kinds, Row, Text, fault_of, first_of, subcommand_of}
use Rattle.clap.specs.declared.error.kind.ErrorKind.{ErrorKind}
use Rattle.clap.specs.declared.error.kind.ErrorKind.TheVariants.{DisplayHelp, DisplayVersion, OutOfMemory}
use Rattle.jc_rules.specs.declared.limits.TheConstants.{MAX_EVENTS, MAX_THREAD_EVENTS}
use Rattle.jc_cli.specs.Program.{program}
use Rattle.jc_cli.specs.declared.order.Order.{Order}
use Rattle.jc_cli.specs.declared.order.Task.{Task}
use Rattle.jc_cli.specs.declared.order.Task.TheVariants.{Show, Debug, Serve, Threads, Weave}
use Rattle.jc_cli.specs.declared.order.View.TheVariants.{Check, Print, Run, Document, Journal}
use Rattle.jc_cli.specs.declared.fault.WordsFault.{WordsFault}
use Rattle.jc_cli.specs.declared.fault.WordsFault.TheVariants.{Help, Usage, Memory}

-- whether the option with this name, which takes no value, is given
abbrev pub has_flag : Text → List Row → Bool
has_flag name rows = bytes_eq (unwrap_or (first_of name rows) []) (codes "true")

abbrev pub is_traced : List Row → Bool
is_traced = has_flag (codes "trace")

abbrev pub has_effects : List Row → Bool
has_effects = has_flag (codes "effects")

-- the number of a text that is one from 0 to 100,000, the greatest limit of each command that has one
abbrev pub limit_in : Text → Option ℕ
limit_in text =
    if is_unsigned_in 0 MAX_THREAD_EVENTS text then Some (digits_value 10 (without_leading_plus text)) else None

abbrev pub limit_given : List Row → Option ℕ
limit_given rows = option_and_then limit_in (first_of (codes "limit") rows)

-- the number of a text that is one below 2 to the 64
abbrev pub seed_in : Text → Option ℕ
seed_in text =
    if is_unsigned_in 0 18446744073709551615 text then Some (digits_value 10 (without_leading_plus text)) else None

abbrev pub seed_given : List Row → Option ℕ
seed_given rows = option_and_then seed_in (first_of (codes "seed") rows)

-- the documents after this number of events at most
abbrev pub documents : ℕ → Task
documents n = Show (Document n)

-- a schedule from this seed, with this number of events at most
abbrev pub weave_by : Option ℕ → Option ℕ → Option Task
weave_by (Some seed) (Some limit) = Some (Weave seed limit)
weave_by (Some seed) None = None
weave_by None limit = None

-- the task of the command with this name, by the values of its arguments
abbrev pub task_in : Text → List Row → Option Task
task_in name rows =
    if bytes_eq name (codes "check") then Some (Show Check)
    else (if bytes_eq name (codes "print") then Some (Show Print)
    else (if bytes_eq name (codes "run") then Some (Show (Run (is_traced rows)))
    else (if bytes_eq name (codes "view") then option_map documents (limit_given rows)
    else (if bytes_eq name (codes "journal") then Some (Show (Journal (is_traced rows) (has_effects rows)))
    else (if bytes_eq name (codes "debug") then Some Debug
    else (if bytes_eq name (codes "serve") then Some Serve
    else (if bytes_eq name (codes "threads") then option_map Threads (limit_given rows)
    else (if bytes_eq name (codes "weave") then weave_by (seed_given rows) (limit_given rows)
    else None))))))))

-- the file of the command with this name; `serve` has none, and an empty name stands for it
abbrev pub file_in : Text → List Row → Option Text
file_in name rows = if bytes_eq name (codes "serve") then Some [] else first_of (codes "file") rows

abbrev pub with_file : Option Task → Option Text → Option Order
with_file (Some task) (Some file) = Some (record { task = task; file = file })
with_file (Some task) None = None
with_file None file = None

abbrev pub order_in : (Text × List Row) → Option Order
order_in s = with_file (task_in s.0 s.1) (file_in s.0 s.1)

-- the command of arguments with these faults and these matches
abbrev pub order_by : Kinds → Option (Text × List Row) → Option Order
order_by [] s = option_and_then order_in s
order_by (k ∷ kinds) s = None

-- The arguments that `help` before these means. What follows the topic isn't read.
abbrev pub asked_of : List Text → List Text
asked_of [] = codes "--help" ∷ []
asked_of (topic ∷ rest) = if bytes_eq topic (codes "help") then codes "--help" ∷ [] else topic ∷ codes "--help" ∷ []

-- The arguments as they are parsed: `help` is `--help`, and `help TOPIC` is `TOPIC --help`.
unfoldable pub with_help_meant : List Text → List Text
with_help_meant [] = []
with_help_meant (w ∷ ws) = if bytes_eq w (codes "help") then asked_of ws else w ∷ ws

-- the faults that the parser finds in the arguments
abbrev pub words_faults : List Text → Kinds
words_faults words = fault_of program (with_help_meant words)

-- The command that the arguments are; no arguments are `run --trace -`.
unfoldable pub words_order : List Text → Option Order
words_order [] = Some (record { task = Show (Run true); file = codes "-" })
words_order (w ∷ ws) = order_by (words_faults (w ∷ ws)) (subcommand_of program (with_help_meant (w ∷ ws)))

-- a call for help, or for the version, which is answered in the same way
abbrev pub IsCall : ErrorKind → Type 0
IsCall kind = (kind ≡ DisplayHelp) ⊎ (kind ≡ DisplayVersion)

-- the arguments are such a call, and have no other fault
abbrev pub AsksHelp : List Text → Type 0
AsksHelp words = (words_faults words ≡ DisplayHelp ∷ []) ⊎ (words_faults words ≡ DisplayVersion ∷ [])

-- the arguments have no fault
abbrev pub IsFaultless : List Text → Type 0
IsFaultless words = words_faults words ≡ []

-- the limit of `threads` and of `weave` is from 0 to 100,000
abbrev pub HasLimitInRange : Task → Type 0
HasLimitInRange (Threads limit) = limit ≤ MAX_THREAD_EVENTS
HasLimitInRange (Weave seed limit) = limit ≤ MAX_EVENTS
HasLimitInRange task = ⊤

-- why the arguments are no command
abbrev pub IsWordsFault : List Text → WordsFault → Type 0
IsWordsFault words (Help text) = (words_order words ≡ None) × AsksHelp words
IsWordsFault words (Usage text) = (words_order words ≡ None) × (AsksHelp words → ⊥)
IsWordsFault words Memory = Unit {0}

-- the fault for an error of this kind
abbrev pub IsFaultBy : ErrorKind → WordsFault → Type 0
IsFaultBy kind (Help text) = IsCall kind
IsFaultBy kind (Usage text) = (IsCall kind → ⊥) × (kind ≢ OutOfMemory)
IsFaultBy kind Memory = Unit {0}

-- the text of a fault is never empty
abbrev pub HasText : WordsFault → Type 0
HasText (Help text) = string_bytes text ≢ []
HasText (Usage text) = string_bytes text ≢ []
HasText Memory = ⊤
