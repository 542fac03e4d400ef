-- The canonical text of the language, which `print` writes.
use Rattle.std.specs.Prelude.{ℕ, ◌/◌, ◌%◌, ◌<◌, Bool, not, ◌&&◌, ◌==◌, nat_le, if◌then◌else◌, List, [], ◌∷◌, ◌++◌, codes, decimal, flat_map}
use Rattle.std.specs.Char.{digit_char}
use Rattle.jc_rules.specs.declared.operation.Event.{Event}
use Rattle.jc_rules.specs.declared.operation.Event.TheVariants.{Exec, Send, Recv, Take, Apply, Done}
use Rattle.jc_rules.specs.declared.value.Value.{Value}
use Rattle.jc_rules.specs.declared.value.Value.TheVariants as V
use Rattle.jc_rules.specs.ReplicaNames.{name_at}
use Rattle.jc_rules.specs.Syntax.{Expr, TheDoc, Variable, GetKey, Index, KeysOf, ValuesOf, Cmd, LetIn, SetTo, InsertAfter, DeleteAt, Yield}

-- ---- string literals

-- a plain byte, which spells itself: neither a control byte nor a quote nor a backslash
abbrev pub is_plain_char : ℕ → Bool
is_plain_char b = nat_le 32 b && (not (b == 34) && not (b == 92))

-- how a string spells a byte: a short escape, `\u00` with two lower-case digits, or the byte
abbrev pub escape_byte : ℕ → List ℕ
escape_byte b =
    if b == 34 then codes "\\\""
    else (if b == 92 then codes "\\\\"
    else (if b == 8 then codes "\\b"
    else (if b == 12 then codes "\\f"
    else (if b == 10 then codes "\\n"
    else (if b == 13 then codes "\\r"
    else (if b == 9 then codes "\\t"
    else (if nat_le 32 b then b ∷ []
    else codes "\\u00" ++ digit_char (b / 16) ∷ digit_char (b % 16) ∷ [])))))))

abbrev pub escape : List ℕ → List ℕ
escape bytes = flat_map escape_byte bytes

abbrev pub quoted : List ℕ → List ℕ
quoted bytes = codes "\"" ++ escape bytes ++ codes "\""

-- ---- expressions, values, commands

abbrev pub canon_expr : Expr → List ℕ
canon_expr TheDoc = codes "doc"
canon_expr (Variable x) = x
canon_expr (GetKey e key) = canon_expr e ++ codes ".get(" ++ quoted key ++ codes ")"
canon_expr (Index e i) = canon_expr e ++ codes ".idx(" ++ decimal i ++ codes ")"
canon_expr (KeysOf e) = canon_expr e ++ codes ".keys"
canon_expr (ValuesOf e) = canon_expr e ++ codes ".values"

-- a number is its own text
abbrev pub canon_value : Value → List ℕ
canon_value (V.Number text) = text
canon_value (V.Str text) = quoted text
canon_value V.True = codes "true"
canon_value V.False = codes "false"
canon_value V.Null = codes "null"
canon_value V.EmptyMap = codes "{}"
canon_value V.EmptyList = codes "[]"

abbrev pub canon_cmd : Cmd → List ℕ
canon_cmd (LetIn x e) = codes "let " ++ x ++ codes " = " ++ canon_expr e
canon_cmd (SetTo e v) = canon_expr e ++ codes " := " ++ canon_value v
canon_cmd (InsertAfter e v) = canon_expr e ++ codes ".insertAfter(" ++ canon_value v ++ codes ")"
canon_cmd (DeleteAt e) = canon_expr e ++ codes ".delete"
canon_cmd Yield = codes "yield"

-- commands joined by `; `
abbrev pub canon_script : List Cmd → List ℕ
canon_script [] = []
canon_script (c ∷ cs) = canon_cmd c ++ flat_map (λ d. codes "; " ++ canon_cmd d) cs

-- ---- events

abbrev pub canon_event : List (List ℕ) → Event → List ℕ
canon_event names (Exec p) = name_at names p ++ codes ".exec"
canon_event names (Send p) = name_at names p ++ codes ".send"
canon_event names (Recv p q) = name_at names p ++ codes ".recv(" ++ name_at names q ++ codes ")"
canon_event names (Take p q i) =
    name_at names p ++ codes ".take(" ++ name_at names q ++ codes ", " ++ decimal i.counter ++ codes ", "
    ++ name_at names i.replica ++ codes ")"
canon_event names (Apply p i) =
    name_at names p ++ codes ".apply(" ++ decimal i.counter ++ codes ", " ++ name_at names i.replica ++ codes ")"
canon_event names (Done p) = name_at names p ++ codes ".done"

-- each replica of the event has a name
abbrev pub AreNamed : Event → ℕ → Type 0
AreNamed (Exec p) n = p < n
AreNamed (Send p) n = p < n
AreNamed (Recv p q) n = (p < n) × (q < n)
AreNamed (Take p q i) n = (p < n) × (q < n) × (i.replica < n)
AreNamed (Apply p i) n = (p < n) × (i.replica < n)
AreNamed (Done p) n = p < n
