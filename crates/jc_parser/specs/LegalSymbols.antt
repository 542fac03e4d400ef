-- Legal trees: their names, numbers and strings are such as tokens have. The printer's laws are about these.
use Rattle.std.specs.Prelude.{◌≡◌, ℕ, ◌<◌, ◌≤◌, List, length, slice_index, true, All}
use Rattle.std.specs.List.{AllPass}
use Rattle.std.specs.Str.{IsUtf8}
use Rattle.jc_rules.specs.declared.operation.Event.{Event}
use Rattle.jc_rules.specs.declared.operation.Event.TheVariants.{Exec, Send, Recv, Take, Apply, Done}
use Rattle.jc_rules.specs.declared.value.Value.{Value}
use Rattle.jc_rules.specs.declared.value.Value.TheVariants as values
use Rattle.jc_rules.specs.Syntax.{Expr, TheDoc, Variable, GetKey, Index, KeysOf, ValuesOf, Cmd, LetIn, SetTo, InsertAfter, DeleteAt, Yield}
use Rattle.jc_syntax.specs.Bytes.{is_name_start, is_name_byte}
use Rattle.jc_syntax.specs.Numbers.{IsNumber}
use Rattle.jc_parser.specs.NamedTrees.{Call, executes, sends, receives, takes, applies, ends, Part, ScenarioTree}
use Rattle.jc_rules.specs.ReplicaNames.{name_at}
use Rattle.jc_rules.specs.declared.limits.TheConstants.{MAX_NAME, MAX_STRING}

-- a letter or `_`, then letters, digits and `_`, at most 255 bytes in all
abbrev pub IsName : List ℕ → Type 0
IsName name = (is_name_start (slice_index name 0) ≡ true) × AllPass is_name_byte name × (length name ≤ MAX_NAME)

-- a JSON number of at most 65,535 bytes
abbrev pub IsNumeric : List ℕ → Type 0
IsNumeric text = IsNumber text × (length text ≤ MAX_STRING)

-- what a string may spell: UTF-8 of at most 65,535 bytes
abbrev pub IsContent : List ℕ → Type 0
IsContent content = IsUtf8 content × (length content ≤ MAX_STRING)

abbrev pub IsLegalExpr : Expr → Type 0
IsLegalExpr TheDoc = Unit {0}
IsLegalExpr (Variable name) = IsName name
IsLegalExpr (GetKey e key) = IsContent key × IsLegalExpr e
IsLegalExpr (Index e i) = IsLegalExpr e
IsLegalExpr (KeysOf e) = IsLegalExpr e
IsLegalExpr (ValuesOf e) = IsLegalExpr e

abbrev pub IsLegalValue : Value → Type 0
IsLegalValue (values.Number text) = IsNumeric text
IsLegalValue (values.Str content) = IsContent content
IsLegalValue v = Unit {0}

abbrev pub IsLegalCmd : Cmd → Type 0
IsLegalCmd (LetIn name e) = IsName name × IsLegalExpr e
IsLegalCmd (SetTo e v) = IsLegalExpr e × IsLegalValue v
IsLegalCmd (InsertAfter e v) = IsLegalExpr e × IsLegalValue v
IsLegalCmd (DeleteAt e) = IsLegalExpr e
IsLegalCmd Yield = Unit {0}

-- ---- events

-- the names of an event's replicas
abbrev pub IsLegalCall : Call → Type 0
IsLegalCall (executes p) = IsName p
IsLegalCall (sends p) = IsName p
IsLegalCall (receives p q) = IsName p × IsName q
IsLegalCall (takes p q counter r) = IsName p × IsName q × IsName r
IsLegalCall (applies p counter q) = IsName p × IsName q
IsLegalCall (ends p) = IsName p

-- an event by the names of its replicas
abbrev pub call_by : List (List ℕ) → Event → Call
call_by names (Exec p) = executes (name_at names p)
call_by names (Send p) = sends (name_at names p)
call_by names (Recv p q) = receives (name_at names p) (name_at names q)
call_by names (Take p q i) = takes (name_at names p) (name_at names q) i.counter (name_at names i.replica)
call_by names (Apply p i) = applies (name_at names p) i.counter (name_at names i.replica)
call_by names (Done p) = ends (name_at names p)

-- a counter within the limit of a text
abbrev pub IsCounterBelow : Event → Type 0
IsCounterBelow (Apply p i) = i.counter < 4294967296
IsCounterBelow (Take p q i) = i.counter < 4294967296
IsCounterBelow e = Unit {0}

-- ---- scenarios

abbrev pub IsLegalPart : Part → Type 0
IsLegalPart p = IsName p.name × All IsLegalCmd p.script

-- names, numbers and strings of the replicas, and names in the events
abbrev pub IsLegalTree : ScenarioTree → Type 0
IsLegalTree t = All IsLegalPart t.parts × All IsLegalCall t.given × All IsLegalCall t.calls
