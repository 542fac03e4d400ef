-- About `Canon`: the canonical text of a tree is written with symbols of the tree.
use Rattle.std.proofs.Common.{◌≡◌, ℕ, ◌<◌, ◌≤◌, ◌^◌, List, [], ◌∷◌, ◌++◌, length, slice_index, true, refl, sym, ap, subst, arith, append_assoc, append-nil, decimal}
use Rattle.std.specs.Prelude.{codes, flat_map}
use Rattle.std.specs.List.{list_all, All}
use Rattle.std.proofs.lemmas.Bool.{or_parts}
use Rattle.std.proofs.lemmas.List.Elements.{All-tail}
use Rattle.std.proofs.lemmas.List.Sums.{AllPass-from_list_all}
use Rattle.jc_rules.specs.declared.value.Value.{Value}
use Rattle.jc_rules.specs.declared.value.Value.TheVariants as values
use Rattle.jc_rules.specs.Syntax.{Expr, TheDoc, Variable, GetKey, Index, KeysOf, ValuesOf, Cmd, LetIn, SetTo, InsertAfter, DeleteAt, Yield}
use Rattle.jc_syntax.specs.Bytes.{is_name_start, is_name_byte, is_number_byte}
use Rattle.jc_grammar.specs.Symbols.{Symbol, word, number, string, dot, open_paren, close_paren, open_brace, close_brace, open_bracket, close_bracket, semicolon, assign, equals}
use Rattle.jc_printer.specs.Canon.{quoted, canon_expr, canon_value, canon_cmd, canon_script}
use Rattle.jc_parser.specs.Expressions.{HasLegalParts}
use Rattle.jc_parser.specs.Scripts.{IsCommandWellFormed}
use Rattle.jc_parser.specs.LegalSymbols.{IsName, IsLegalExpr, IsLegalValue, IsLegalCmd}
use Rattle.jc_printer.proofs.NumeralsLemmas.{numeric_of}
use Rattle.jc_printer.proofs.PrintedSymbolsLemmas.{IsPrinted, put, spaced}
use Rattle.jc_printer.proofs.WrittenSymbolsLemmas.{IsPartedBy, IsWritten}
use Rattle.jc_printer.proofs.CanonSymbolsLemmas.{Spells, get_symbols, index_symbols, expr_symbols, value_symbols, cmd_symbols, joined}

-- symbols of a language are written with these bytes, before what follows
pub record PrintsAs (L : List Symbol → Type 0) (own : List ℕ) (after : List Symbol) (rest : List ℕ) : Type 0 where
  pub text : List Symbol
  pub spelled : L text
  pub printed : IsPrinted (text ++ after) (own ++ rest)

-- the same, however the bytes are put together
same_bytes : (ss : List Symbol) (xs ys : List ℕ) → ys ≡ xs → IsPrinted ss xs → IsPrinted ss ys
same_bytes ss xs ys same p = subst (IsPrinted ss) (sym same) p

more_printed : (u v after : List Symbol) (xs ys : List ℕ) → ys ≡ xs → IsPrinted (u ++ (v ++ after)) xs → IsPrinted ((u ++ v) ++ after) ys
more_printed u v after xs ys same p = subst (λ (ss : List Symbol). IsPrinted ss ys) (sym (append_assoc u v after)) (same_bytes (u ++ (v ++ after)) xs ys same p)

-- where nothing comes after
pub alone : (ss : List Symbol) (own : List ℕ) → IsPrinted (ss ++ []) (own ++ []) → IsPrinted ss own
alone ss own p = subst (IsPrinted ss) (append-nil own) (subst (λ (l : List Symbol). IsPrinted l (own ++ [])) (append-nil ss) p)

pub regroup : (a b c d : List ℕ) → ((a ++ b) ++ c) ++ d ≡ a ++ (b ++ (c ++ d))
regroup a b c d = simp append_assoc

regroup_four : (a b c d e : List ℕ) → (((a ++ b) ++ c) ++ d) ++ e ≡ a ++ (b ++ (c ++ (d ++ e)))
regroup_four a b c d e = simp append_assoc

-- ---- words

pub keyword : (name : List ℕ) → is_name_start (slice_index name 0) ≡ true → list_all is_name_byte name ≡ true → length name ≤ 255 → IsName name
keyword name start all short = (start, AllPass-from_list_all is_name_byte name all, short)

-- what no number goes on with, no name goes on with
pub number_parts : (rest : List ℕ) → IsPartedBy is_number_byte rest → IsPartedBy is_name_byte rest
number_parts rest h = (or_parts (is_name_byte (slice_index rest 0)) _ h).0

-- a word and a dot before it
pub dotted : (name : List ℕ) (after : List Symbol) (rest : List ℕ) → IsName name → IsPartedBy is_name_byte rest → IsPrinted after rest → IsPrinted (dot ∷ word name ∷ after) (46 ∷ (name ++ rest))
dotted name after rest is parted p = put dot (word name ∷ after) (46 ∷ []) (name ++ rest) refl (put (word name) after name rest (refl, is, parted) p)

-- a symbol in parentheses
pub enclosed : (s : Symbol) (after : List Symbol) (own rest : List ℕ) → IsWritten s own (41 ∷ rest) → IsPrinted after rest → IsPrinted (open_paren ∷ s ∷ close_paren ∷ after) (40 ∷ (own ++ 41 ∷ rest))
enclosed s after own rest w p =
    put open_paren (s ∷ close_paren ∷ after) (40 ∷ []) (own ++ 41 ∷ rest) refl (put s (close_paren ∷ after) own (41 ∷ rest) w (put close_paren after (41 ∷ []) rest refl p))

-- ---- expressions

index_below : (i : ℕ) → i < 4294967296 → i < 2 ^ 64
index_below i h = omega (arith, h)

pub expression_printed : (e : Expr) (after : List Symbol) (rest : List ℕ) → IsLegalExpr e → HasLegalParts e → IsPartedBy is_name_byte rest → IsPrinted after rest → PrintsAs (Spells (expr_symbols e)) (canon_expr e) after rest
expression_printed TheDoc after rest legal parts parted p = record {
  text = word (codes "doc") ∷ [];
  spelled = refl;
  printed = put (word (codes "doc")) after (codes "doc") rest (refl, keyword (codes "doc") refl refl (omega arith), parted) p;
}
expression_printed (Variable name) after rest legal parts parted p = record {
  text = word name ∷ [];
  spelled = refl;
  printed = put (word name) after name rest (refl, legal, parted) p;
}
expression_printed (GetKey e key) after rest legal parts parted p =
    let step = dotted (codes "get") (open_paren ∷ string key ∷ close_paren ∷ after) (40 ∷ (quoted key ++ 41 ∷ rest)) (keyword (codes "get") refl refl (omega arith)) refl (enclosed (string key) after (quoted key) rest (refl, legal.0) p) in
    let before = expression_printed e (get_symbols key ++ after) (codes ".get(" ++ (quoted key ++ (codes ")" ++ rest))) legal.1 parts refl step in
    record {
      text = before.text ++ get_symbols key;
      spelled = ap (λ (w : List Symbol). w ++ get_symbols key) before.spelled;
      printed = more_printed before.text (get_symbols key) after _ _ (regroup_four (canon_expr e) (codes ".get(") (quoted key) (codes ")") rest) before.printed;
    }
expression_printed (Index e i) after rest legal parts parted p =
    let small = index_below i parts.0 in
    let step = dotted (codes "idx") (open_paren ∷ number (decimal i) ∷ close_paren ∷ after) (40 ∷ (decimal i ++ 41 ∷ rest)) (keyword (codes "idx") refl refl (omega arith)) refl (enclosed (number (decimal i)) after (decimal i) rest (refl, numeric_of i small, refl) p) in
    let before = expression_printed e (index_symbols i ++ after) (codes ".idx(" ++ (decimal i ++ (codes ")" ++ rest))) legal parts.1 refl step in
    record {
      text = before.text ++ index_symbols i;
      spelled = ap (λ (w : List Symbol). w ++ index_symbols i) before.spelled;
      printed = more_printed before.text (index_symbols i) after _ _ (regroup_four (canon_expr e) (codes ".idx(") (decimal i) (codes ")") rest) before.printed;
    }
expression_printed (KeysOf e) after rest legal parts parted p =
    let step = dotted (codes "keys") after rest (keyword (codes "keys") refl refl (omega arith)) parted p in
    let before = expression_printed e (dot ∷ word (codes "keys") ∷ after) (codes ".keys" ++ rest) legal parts refl step in
    record {
      text = before.text ++ dot ∷ word (codes "keys") ∷ [];
      spelled = ap (λ (w : List Symbol). w ++ dot ∷ word (codes "keys") ∷ []) before.spelled;
      printed = more_printed before.text (dot ∷ word (codes "keys") ∷ []) after _ _ (append_assoc (canon_expr e) (codes ".keys") rest) before.printed;
    }
expression_printed (ValuesOf e) after rest legal parts parted p =
    let step = dotted (codes "values") after rest (keyword (codes "values") refl refl (omega arith)) parted p in
    let before = expression_printed e (dot ∷ word (codes "values") ∷ after) (codes ".values" ++ rest) legal parts refl step in
    record {
      text = before.text ++ dot ∷ word (codes "values") ∷ [];
      spelled = ap (λ (w : List Symbol). w ++ dot ∷ word (codes "values") ∷ []) before.spelled;
      printed = more_printed before.text (dot ∷ word (codes "values") ∷ []) after _ _ (append_assoc (canon_expr e) (codes ".values") rest) before.printed;
    }

-- ---- values

value_word : (name : List ℕ) (L : List Symbol → Type 0) (after : List Symbol) (rest : List ℕ) → L (word name ∷ []) → IsName name → IsPartedBy is_number_byte rest → IsPrinted after rest → PrintsAs L name after rest
value_word name L after rest spelled is parted p = record {
  text = word name ∷ [];
  spelled = spelled;
  printed = put (word name) after name rest (refl, is, number_parts rest parted) p;
}

pub value_printed : (v : Value) (after : List Symbol) (rest : List ℕ) → IsLegalValue v → IsPartedBy is_number_byte rest → IsPrinted after rest → PrintsAs (Spells (value_symbols v)) (canon_value v) after rest
value_printed (values.Number text) after rest legal parted p = record {
  text = number text ∷ [];
  spelled = refl;
  printed = put (number text) after text rest (refl, legal, parted) p;
}
value_printed (values.Str content) after rest legal parted p = record {
  text = string content ∷ [];
  spelled = refl;
  printed = put (string content) after (quoted content) rest (refl, legal) p;
}
value_printed values.True after rest legal parted p = value_word (codes "true") (Spells (value_symbols values.True)) after rest refl (keyword (codes "true") refl refl (omega arith)) parted p
value_printed values.False after rest legal parted p = value_word (codes "false") (Spells (value_symbols values.False)) after rest refl (keyword (codes "false") refl refl (omega arith)) parted p
value_printed values.Null after rest legal parted p = value_word (codes "null") (Spells (value_symbols values.Null)) after rest refl (keyword (codes "null") refl refl (omega arith)) parted p
value_printed values.EmptyMap after rest legal parted p = record {
  text = open_brace ∷ close_brace ∷ [];
  spelled = refl;
  printed = put open_brace (close_brace ∷ after) (123 ∷ []) (125 ∷ rest) refl (put close_brace after (125 ∷ []) rest refl p);
}
value_printed values.EmptyList after rest legal parted p = record {
  text = open_bracket ∷ close_bracket ∷ [];
  spelled = refl;
  printed = put open_bracket (close_bracket ∷ after) (91 ∷ []) (93 ∷ rest) refl (put close_bracket after (93 ∷ []) rest refl p);
}

-- ---- commands

-- a keyword and a blank
pub command_printed : (c : Cmd) (after : List Symbol) (rest : List ℕ) → IsLegalCmd c → IsCommandWellFormed c → IsPartedBy is_number_byte rest → IsPrinted after rest → PrintsAs (Spells (cmd_symbols c)) (canon_cmd c) after rest
command_printed Yield after rest legal formed parted p = value_word (codes "yield") (Spells (cmd_symbols Yield)) after rest refl (keyword (codes "yield") refl refl (omega arith)) parted p
command_printed (LetIn name e) after rest legal formed parted p =
    let right = expression_printed e after rest legal.1 formed.1.parts (number_parts rest parted) p in
    let sign = put equals (right.text ++ after) (codes "=") (32 ∷ (canon_expr e ++ rest)) refl (spaced (right.text ++ after) 32 (canon_expr e ++ rest) refl right.printed) in
    let left = put (word name) (equals ∷ (right.text ++ after)) name (codes " = " ++ (canon_expr e ++ rest)) (refl, legal.0, refl) (spaced (equals ∷ (right.text ++ after)) 32 (61 ∷ 32 ∷ (canon_expr e ++ rest)) refl sign) in
    let whole = put (word (codes "let")) (word name ∷ equals ∷ (right.text ++ after)) (codes "let") (32 ∷ (name ++ (codes " = " ++ (canon_expr e ++ rest)))) (refl, keyword (codes "let") refl refl (omega arith), refl) (spaced (word name ∷ equals ∷ (right.text ++ after)) 32 (name ++ (codes " = " ++ (canon_expr e ++ rest))) refl left) in
    record {
      text = word (codes "let") ∷ word name ∷ equals ∷ right.text;
      spelled = ap (λ (w : List Symbol). word (codes "let") ∷ word name ∷ equals ∷ w) right.spelled;
      printed = same_bytes (word (codes "let") ∷ word name ∷ equals ∷ (right.text ++ after)) _ _ (regroup_four (codes "let ") name (codes " = ") (canon_expr e) rest) whole;
    }
command_printed (SetTo e v) after rest legal formed parted p =
    let right = value_printed v after rest legal.1 parted p in
    let sign = put assign (right.text ++ after) (codes ":=") (32 ∷ (canon_value v ++ rest)) refl (spaced (right.text ++ after) 32 (canon_value v ++ rest) refl right.printed) in
    let left = expression_printed e (assign ∷ (right.text ++ after)) (codes " := " ++ (canon_value v ++ rest)) legal.0 formed.parts refl (spaced (assign ∷ (right.text ++ after)) 32 (58 ∷ 61 ∷ 32 ∷ (canon_value v ++ rest)) refl sign) in
    record {
      text = left.text ++ assign ∷ right.text;
      spelled = λ i. left.spelled i ++ assign ∷ right.spelled i;
      printed = more_printed left.text (assign ∷ right.text) after _ _ (regroup (canon_expr e) (codes " := ") (canon_value v) rest) left.printed;
    }
command_printed (InsertAfter e v) after rest legal formed parted p =
    let closed = put close_paren after (codes ")") rest refl p in
    let inner = value_printed v (close_paren ∷ after) (41 ∷ rest) legal.1 refl closed in
    let opened = put open_paren (inner.text ++ close_paren ∷ after) (codes "(") (canon_value v ++ 41 ∷ rest) refl inner.printed in
    let step = dotted (codes "insertAfter") (open_paren ∷ (inner.text ++ close_paren ∷ after)) (40 ∷ (canon_value v ++ 41 ∷ rest)) (keyword (codes "insertAfter") refl refl (omega arith)) refl opened in
    let before = expression_printed e (dot ∷ word (codes "insertAfter") ∷ open_paren ∷ (inner.text ++ close_paren ∷ after)) (codes ".insertAfter(" ++ (canon_value v ++ (codes ")" ++ rest))) legal.0 formed.parts refl step in
    let tail : List Symbol = dot ∷ word (codes "insertAfter") ∷ open_paren ∷ (inner.text ++ close_paren ∷ []) in
    let same : tail ++ after ≡ dot ∷ word (codes "insertAfter") ∷ open_paren ∷ (inner.text ++ close_paren ∷ after) = ap (λ (l : List Symbol). dot ∷ word (codes "insertAfter") ∷ open_paren ∷ l) (append_assoc inner.text (close_paren ∷ []) after) in
    record {
      text = before.text ++ tail;
      spelled = λ i. before.spelled i ++ dot ∷ word (codes "insertAfter") ∷ open_paren ∷ (inner.spelled i ++ close_paren ∷ []);
      printed = more_printed before.text tail after _ _ (regroup_four (canon_expr e) (codes ".insertAfter(") (canon_value v) (codes ")") rest) (rw same before.printed);
    }
command_printed (DeleteAt e) after rest legal formed parted p =
    let step = dotted (codes "delete") after rest (keyword (codes "delete") refl refl (omega arith)) (number_parts rest parted) p in
    let before = expression_printed e (dot ∷ word (codes "delete") ∷ after) (codes ".delete" ++ rest) legal formed.parts refl step in
    record {
      text = before.text ++ dot ∷ word (codes "delete") ∷ [];
      spelled = ap (λ (w : List Symbol). w ++ dot ∷ word (codes "delete") ∷ []) before.spelled;
      printed = more_printed before.text (dot ∷ word (codes "delete") ∷ []) after _ _ (append_assoc (canon_expr e) (codes ".delete") rest) before.printed;
    }

-- ---- scripts

abbrev further : List Cmd → List ℕ
further cs = flat_map (λ d. codes "; " ++ canon_cmd d) cs

pub record IsListed (cs : List Cmd) (bytes : List ℕ) : Type 0 where
  pub text : List Symbol
  pub spelled : Spells (joined cmd_symbols cs) text
  pub printed : IsPrinted text bytes

listed : (c : Cmd) (cs : List Cmd) → All IsLegalCmd (c ∷ cs) → All IsCommandWellFormed (c ∷ cs) → IsListed (c ∷ cs) (canon_cmd c ++ further cs)
listed c [] legal formed =
    let one = command_printed c [] [] (legal 0 c (omega arith)) (formed 0 c (omega arith)) refl refl in
    record {
      text = one.text;
      spelled = one.spelled;
      printed = rw append-nil at one.printed;
    }
listed c (d ∷ ds) legal formed =
    let more = listed d ds (All-tail IsLegalCmd c (d ∷ ds) legal) (All-tail IsCommandWellFormed c (d ∷ ds) formed) in
    let parted = put semicolon more.text (codes ";") (32 ∷ (canon_cmd d ++ further ds)) refl (spaced more.text 32 (canon_cmd d ++ further ds) refl more.printed) in
    let one = command_printed c (semicolon ∷ more.text) (59 ∷ 32 ∷ (canon_cmd d ++ further ds)) (legal 0 c (omega arith)) (formed 0 c (omega arith)) refl parted in
    record {
      text = one.text ++ semicolon ∷ more.text;
      spelled = λ i. one.spelled i ++ semicolon ∷ more.spelled i;
      printed = one.printed;
    }

pub script_printed : (cs : List Cmd) → All IsLegalCmd cs → All IsCommandWellFormed cs → IsListed cs (canon_script cs)
script_printed [] legal formed = record { text = []; spelled = refl; printed = refl }
script_printed (c ∷ cs) legal formed = listed c cs legal formed
