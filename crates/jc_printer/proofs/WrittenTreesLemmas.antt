-- About `GrammarTrees` of `jc_parser`: lexemes with the symbols of a tree in memory are a tree of the grammar that says it.
use Rattle.std.proofs.Common.{◌≡◌, ℕ, zero, suc, ◌+◌, ◌-◌, ◌≤◌, ◌<◌, inl, inr, true, false, List, [], ◌∷◌, ◌++◌, length, None, decimal, refl, sym, ap, subst, ◌∙◌, append_assoc, append-nil, arith}
use Rattle.std.specs.Prelude.{codes, not}
use Rattle.std.specs.Str.{bytes_eq}
use Rattle.std.specs.List.{All}
use Rattle.std.proofs.lemmas.Bool.{lt-ltb}
use Rattle.std.proofs.lemmas.List.Elements.{All-head, All-tail}
use Rattle.jc_rules.specs.declared.limits.TheConstants.{MAX_SELECTORS, MAX_COMMANDS}
use Rattle.jc_rules.specs.declared.value.Value.{Value}
use Rattle.jc_rules.specs.declared.value.Value.TheVariants as values
use Rattle.jc_rules.specs.Syntax.{Expr, TheDoc, Variable, GetKey, Index, KeysOf, ValuesOf, Cmd, LetIn, SetTo, InsertAfter, DeleteAt, Yield}
use Rattle.jc_syntax.specs.declared.token.TokenKind.TheVariants.{Name, Number, Str, ParenL, ParenR, BraceL, BraceR, BracketL, BracketR, Semi, Assign, Equals}
use Rattle.jc_grammar.specs.Symbols.{Symbol, word, number, string, dot, open_paren, close_paren, open_brace, close_brace, open_bracket, close_bracket, semicolon, assign, equals, Lexeme, symbols}
use Rattle.jc_grammar.specs.SymbolTests.{value_of_symbol, numeral_value, is_reserved}
use Rattle.jc_grammar.specs.Classes.{Class, any, is_of, is_in}
use Rattle.jc_grammar.specs.Guards.{GuardState, Guard, passes, verdict_of, small_index, free_binding, dot_seen, no_selector, no_command, nothing_seen}
use Rattle.jc_grammar.specs.Grammar.{Grammar, symbol, nothing, ◌then◌, ◌or◌, guarded, listed, chained, repeated, ParseTree, leaves, FitsClasses, state_after, first_refusal}
use Rattle.jc_grammar.specs.ScenarioGrammar.{token, keyword, index, selector, root_but, selector_dot, expression, literal, assignment, ending, command, script}
use Rattle.jc_parser.specs.GrammarTrees.{value_of, number_of, items_of, selected, root_of_tree, path_of_tree, expression_of_tree, value_of_tree, ending_of_tree, assignment_of_tree, change_of_tree, command_of_tree, script_of_tree}
use Rattle.jc_parser.specs.Sentences.{IsSentence}
use Rattle.jc_parser.specs.Expressions.{selector_count, HasLegalParts, IsWellFormedExpression}
use Rattle.jc_parser.specs.Scripts.{IsCommandWellFormed, IsScriptWellFormed}
use Rattle.jc_printer.proofs.NumeralsLemmas.{numeral_of, value_of_numeral}
use Rattle.jc_printer.proofs.CanonSymbolsLemmas.{get_symbols, index_symbols, expr_symbols, value_symbols, cmd_symbols, joined, free}

-- ---- lexemes of symbols

-- lexemes of symbols that stand one behind the other
pub record Parted (ls : List Lexeme) (a b : List Symbol) : Type 0 where
  pub front : List Lexeme
  pub back : List Lexeme
  pub is : ls ≡ front ++ back
  pub first : symbols front ≡ a
  pub second : symbols back ≡ b

pub parted : (ls : List Lexeme) (a b : List Symbol) → symbols ls ≡ a ++ b → Parted ls a b
parted ls [] b same = record { front = []; back = ls; is = refl; first = refl; second = same }
parted [] (s ∷ a) b same = cc
parted (l ∷ ls) (s ∷ a) b same =
    let head : l.symbol ≡ s = cc in
    let rest : symbols ls ≡ a ++ b = cc in
    let more = parted ls a b rest in
    record {
      front = l ∷ more.front;
      back = more.back;
      is = ap (λ (k : List Lexeme). l ∷ k) more.is;
      first = λ i. head i ∷ more.first i;
      second = more.second;
    }

-- one lexeme, and others behind it
pub record Leads (ls : List Lexeme) (s : Symbol) (b : List Symbol) : Type 0 where
  pub first : Lexeme
  pub others : List Lexeme
  pub is : ls ≡ first ∷ others
  pub symbol : first.symbol ≡ s
  pub second : symbols others ≡ b

pub leads : (ls : List Lexeme) (s : Symbol) (b : List Symbol) → symbols ls ≡ s ∷ b → Leads ls s b
leads [] s b same = cc
leads (l ∷ ls) s b same = record { first = l; others = ls; is = refl; symbol = cc; second = cc }

pub none_left : (ls : List Lexeme) → symbols ls ≡ [] → ls ≡ []
none_left [] h = refl
none_left (x ∷ xs) h = absurd cc

after : (x : Lexeme) {a b : List Lexeme} → a ≡ b → x ∷ a ≡ x ∷ b
after x same = ap (λ (l : List Lexeme). x ∷ l) same

-- ---- trees in which nothing is refused, whatever the guards remember and whatever comes behind

pub record CleanTree (g : Grammar) (t : ParseTree g) : Type 0 where
  pub fits : FitsClasses g t
  pub clear : (s : GuardState) (u : List Lexeme) → first_refusal g s t u ≡ None

-- lexemes that are such a tree, and what it says
pub record IsClean (g : Grammar) {A : Type 0} (view : ParseTree g → A) (a : A) (ls : List Lexeme) : Type 0 where
  pub tree : ParseTree g
  pub clean : CleanTree g tree
  pub text : leaves g tree ≡ ls
  pub is : a ≡ view tree

pub sentence_of : {g : Grammar} {A : Type 0} {view : ParseTree g → A} {a : A} {ls : List Lexeme} → IsClean g view a ls → IsSentence g view ls a
sentence_of c = record { tree = c.tree; text = (c.clean.fits, c.clean.clear nothing_seen [], c.text); is = c.is }

-- as what another function says of its tree
pub sentence_as : {g : Grammar} {A B : Type 0} {view : ParseTree g → A} {a : A} {ls : List Lexeme} (other : ParseTree g → B) (c : IsClean g view a ls) → IsSentence g other ls (other c.tree)
sentence_as other c = record { tree = c.tree; text = (c.clean.fits, c.clean.clear nothing_seen [], c.text); is = refl }

pub clean_mark : (c : Class) (s : Symbol) (x : Lexeme) → x.symbol ≡ s → is_of c s ≡ true → CleanTree (symbol c) x
clean_mark c s x is fits = record { fits = rw is fits; clear = λ own u. refl }

pub clean_none : CleanTree nothing tt
clean_none = record { fits = tt; clear = λ own u. refl }

pub clean_then : {g h : Grammar} {a : ParseTree g} {b : ParseTree h} → CleanTree g a → CleanTree h b → CleanTree (g then h) (a, b)
clean_then {g} {h} {a} {b} p q = record { fits = (p.fits, q.fits); clear = λ s u. rw (p.clear s (leaves h b ++ u), q.clear (state_after g s a) u) refl }

pub clean_left : {g h : Grammar} {a : ParseTree g} → CleanTree g a → CleanTree (g or h) (inl a)
clean_left p = record { fits = p.fits; clear = p.clear }

pub clean_right : {g h : Grammar} {b : ParseTree h} → CleanTree h b → CleanTree (g or h) (inr b)
clean_right q = record { fits = q.fits; clear = q.clear }

-- the guard passes the first lexeme of each such tree
abbrev pub Passes : Guard → Lexeme → Type 0
Passes c x = (s : GuardState) → (own : GuardState) × (verdict_of c s x ≡ passes own)

pub clean_guarded : {c : Class} {x : Lexeme} (guard : Guard) → Passes guard x → CleanTree (symbol c) x → CleanTree (guarded guard (symbol c)) x
clean_guarded guard pass p = record { fits = p.fits; clear = λ s u. let (own, is) = pass s in rw is refl }

-- ---- numbers, keys

index_passes : (x : Lexeme) (i : ℕ) → x.symbol ≡ number (decimal i) → i < 4294967296 → Passes small_index x
index_passes x i is small = λ s. (s, rw (is, sym (value_of_numeral i (omega (arith, small))), lt-ltb i 4294967296 small) refl)

pub clean_index : (x : Lexeme) (i : ℕ) → x.symbol ≡ number (decimal i) → i < 4294967296 → CleanTree index x
clean_index x i is small = clean_guarded small_index (index_passes x i is small) (record { fits = rw (is, numeral_of i (omega (arith, small))) refl; clear = λ s u. refl })

pub index_is : (x : Lexeme) (i : ℕ) → x.symbol ≡ number (decimal i) → i < 4294967296 → number_of x ≡ i
index_is x i is small = ap (λ (s : Symbol). numeral_value (value_of_symbol s)) is ∙ sym (value_of_numeral i (omega (arith, small)))

pub clean_word : (w : List ℕ) (x : Lexeme) → x.symbol ≡ word w → bytes_eq w w ≡ true → CleanTree (keyword w) x
clean_word w x is same = record { fits = rw is same; clear = λ s u. refl }

-- ---- expressions

clean_dot : (d : Lexeme) → d.symbol ≡ dot → CleanTree selector_dot d
clean_dot d is = clean_guarded dot_seen (λ s. (_, refl)) (record { fits = rw is refl; clear = λ s u. refl })

-- a dot and a selector that extends one expression to another
record IsStep (e f : Expr) (ls : List Lexeme) : Type 0 where
  first : Lexeme
  own : ParseTree selector
  is : ls ≡ first ∷ leaves selector own
  is_dot : first.symbol ≡ dot
  clean : CleanTree selector own
  same : f ≡ selected e own

get_step : (e : Expr) (key : List ℕ) (ls : List Lexeme) → symbols ls ≡ get_symbols key → IsStep e (GetKey e key) ls
get_step e key ls is =
    let d = leads ls dot (word (codes "get") ∷ open_paren ∷ string key ∷ close_paren ∷ []) is in
    let w = leads d.others (word (codes "get")) (open_paren ∷ string key ∷ close_paren ∷ []) d.second in
    let p = leads w.others open_paren (string key ∷ close_paren ∷ []) w.second in
    let k = leads p.others (string key) (close_paren ∷ []) p.second in
    let q = leads k.others close_paren [] k.second in
    let none : q.others ≡ [] = none_left q.others q.second in
    record {
      first = d.first;
      own = inl (w.first, (p.first, (k.first, q.first)));
      is = d.is ∙ after d.first (w.is ∙ after w.first (p.is ∙ after p.first (k.is ∙ after k.first (q.is ∙ after q.first none))));
      is_dot = d.symbol;
      clean = clean_left (clean_then (clean_word (codes "get") w.first w.symbol refl) (clean_then (clean_mark (any ParenL) open_paren p.first p.symbol refl) (clean_then (clean_mark (any Str) (string key) k.first k.symbol refl) (clean_mark (any ParenR) close_paren q.first q.symbol refl))));
      same = ap (λ (s : Symbol). GetKey e (value_of_symbol s)) (sym k.symbol);
    }

index_step : (e : Expr) (i : ℕ) (ls : List Lexeme) → i < 4294967296 → symbols ls ≡ index_symbols i → IsStep e (Index e i) ls
index_step e i ls small is =
    let d = leads ls dot (word (codes "idx") ∷ open_paren ∷ number (decimal i) ∷ close_paren ∷ []) is in
    let w = leads d.others (word (codes "idx")) (open_paren ∷ number (decimal i) ∷ close_paren ∷ []) d.second in
    let p = leads w.others open_paren (number (decimal i) ∷ close_paren ∷ []) w.second in
    let k = leads p.others (number (decimal i)) (close_paren ∷ []) p.second in
    let q = leads k.others close_paren [] k.second in
    let none : q.others ≡ [] = none_left q.others q.second in
    record {
      first = d.first;
      own = inr (inl (w.first, (p.first, (k.first, q.first))));
      is = d.is ∙ after d.first (w.is ∙ after w.first (p.is ∙ after p.first (k.is ∙ after k.first (q.is ∙ after q.first none))));
      is_dot = d.symbol;
      clean = clean_right (clean_left (clean_then (clean_word (codes "idx") w.first w.symbol refl) (clean_then (clean_mark (any ParenL) open_paren p.first p.symbol refl) (clean_then (clean_index k.first i k.symbol small) (clean_mark (any ParenR) close_paren q.first q.symbol refl)))));
      same = ap (λ (n : ℕ). Index e n) (sym (index_is k.first i k.symbol small));
    }

keys_step : (e : Expr) (ls : List Lexeme) → symbols ls ≡ dot ∷ word (codes "keys") ∷ [] → IsStep e (KeysOf e) ls
keys_step e ls is =
    let d = leads ls dot (word (codes "keys") ∷ []) is in
    let w = leads d.others (word (codes "keys")) [] d.second in
    let none : w.others ≡ [] = none_left w.others w.second in
    record { first = d.first; own = inr (inr (inl w.first)); is = d.is ∙ after d.first (w.is ∙ after w.first none); is_dot = d.symbol; clean = clean_right (clean_right (clean_left (clean_word (codes "keys") w.first w.symbol refl))); same = refl }

values_step : (e : Expr) (ls : List Lexeme) → symbols ls ≡ dot ∷ word (codes "values") ∷ [] → IsStep e (ValuesOf e) ls
values_step e ls is =
    let d = leads ls dot (word (codes "values") ∷ []) is in
    let w = leads d.others (word (codes "values")) [] d.second in
    let none : w.others ≡ [] = none_left w.others w.second in
    record { first = d.first; own = inr (inr (inr w.first)); is = d.is ∙ after d.first (w.is ∙ after w.first none); is_dot = d.symbol; clean = clean_right (clean_right (clean_right (clean_word (codes "values") w.first w.symbol refl))); same = refl }

-- what is behind an expression: selectors, and an end that may depend on it
pub record IsPath {X : Type 0} (R : ℕ → Grammar) (V : (n : ℕ) → Expr → ParseTree (R n) → X) : Type 0 where
  pub step : (n : ℕ) (e : Expr) (x : X) (d : Lexeme) (own : ParseTree selector) (ls : List Lexeme) → CleanTree selector_dot d → CleanTree selector own → IsClean (R n) (V n (selected e own)) x ls → IsClean (R (suc n)) (V (suc n) e) x (d ∷ (leaves selector own ++ ls))

-- a word that is no variable is one of these
abbrev AreReserved : List (List ℕ) → Type 0
AreReserved words = (name : List ℕ) → is_reserved name ≡ false → not (is_in name words) ≡ true

doc_clean : (words : List (List ℕ)) (x : Lexeme) → x.symbol ≡ word (codes "doc") → CleanTree (root_but words) (inl x)
doc_clean words x is = record { fits = rw is refl; clear = λ s u. rw is refl }

root_clean : (words : List (List ℕ)) → AreReserved words → (name : List ℕ) (x : Lexeme) → x.symbol ≡ word name → is_reserved name ≡ false → CleanTree (root_but words) (inr x)
root_clean words own name x is is_free = record {
  fits = rw (is, own name is_free) refl;
  clear = λ s u. rw (is, is_free, (free name is_free).no_doc) refl;
}

module _ {X : Type 0} (R : ℕ → Grammar) (V : (n : ℕ) → Expr → ParseTree (R n) → X) (path : IsPath R V) (words : List (List ℕ)) (own : AreReserved words) where
  abbrev Whole : ℕ → Grammar
  Whole n = root_but words then R n

  abbrev whole_view : (n : ℕ) → ParseTree (Whole n) → X
  whole_view n t = V n (root_of_tree words t.0) t.1

  -- one selector more
  further : (e f : Expr) (m n : ℕ) (x : X) (ls rest front back : List Lexeme) → ls ≡ front ++ back → IsStep e f back → IsClean (R n) (V n f) x rest
      → ((more : List Lexeme) → IsClean (R (suc n)) (V (suc n) e) x more → IsClean (Whole m) (whole_view m) x (front ++ more)) → IsClean (Whole m) (whole_view m) x (ls ++ rest)
  further e f m n x ls rest front back whole st tail before =
      let more = path.step n e x st.first st.own rest (clean_dot st.first st.is_dot) st.clean (subst (λ (g : Expr). IsClean (R n) (V n g) x rest) st.same tail) in
      let text : ls ++ rest ≡ front ++ (st.first ∷ (leaves selector st.own ++ rest)) = ap (λ (l : List Lexeme). l ++ rest) (whole ∙ ap (λ (l : List Lexeme). front ++ l) st.is) ∙ append_assoc front (st.first ∷ leaves selector st.own) rest in
      subst (IsClean (Whole m) (whole_view m) x) (sym text) (before (st.first ∷ (leaves selector st.own ++ rest)) more)

  pub path_clean : (e : Expr) (m n : ℕ) (x : X) (ls rest : List Lexeme) → m ≡ selector_count e + n → HasLegalParts e → symbols ls ≡ expr_symbols e → IsClean (R n) (V n e) x rest → IsClean (Whole m) (whole_view m) x (ls ++ rest)
  path_clean TheDoc m n x ls rest count parts is tail =
      let one = leads ls (word (codes "doc")) [] is in
      let same : m ≡ n = omega (arith, count) in
      let none : one.others ≡ [] = none_left one.others one.second in
      rw (same, one.is, none) (record {
        tree = (inl one.first, tail.tree);
        clean = clean_then (doc_clean words one.first one.symbol) tail.clean;
        text = ap (λ (l : List Lexeme). one.first ∷ l) tail.text;
        is = tail.is;
      })
  path_clean (Variable name) m n x ls rest count parts is tail =
      let one = leads ls (word name) [] is in
      let same : m ≡ n = omega (arith, count) in
      let none : one.others ≡ [] = none_left one.others one.second in
      rw (same, one.is, none) (record {
        tree = (inr one.first, tail.tree);
        clean = clean_then (root_clean words own name one.first one.symbol parts) tail.clean;
        text = ap (λ (l : List Lexeme). one.first ∷ l) tail.text;
        is = tail.is ∙ ap (λ (s : Symbol). V n (Variable (value_of_symbol s)) tail.tree) (sym one.symbol);
      })
  path_clean (GetKey e key) m n x ls rest count parts is tail =
      let whole = parted ls (expr_symbols e) (get_symbols key) is in
      further e (GetKey e key) m n x ls rest whole.front whole.back whole.is (get_step e key whole.back whole.second) tail (λ more c. path_clean e m (suc n) x whole.front more (omega (arith, count)) parts whole.first c)
  path_clean (Index e i) m n x ls rest count parts is tail =
      let whole = parted ls (expr_symbols e) (index_symbols i) is in
      further e (Index e i) m n x ls rest whole.front whole.back whole.is (index_step e i whole.back parts.0 whole.second) tail (λ more c. path_clean e m (suc n) x whole.front more (omega (arith, count)) parts.1 whole.first c)
  path_clean (KeysOf e) m n x ls rest count parts is tail =
      let whole = parted ls (expr_symbols e) (dot ∷ word (codes "keys") ∷ []) is in
      further e (KeysOf e) m n x ls rest whole.front whole.back whole.is (keys_step e whole.back whole.second) tail (λ more c. path_clean e m (suc n) x whole.front more (omega (arith, count)) parts whole.first c)
  path_clean (ValuesOf e) m n x ls rest count parts is tail =
      let whole = parted ls (expr_symbols e) (dot ∷ word (codes "values") ∷ []) is in
      further e (ValuesOf e) m n x ls rest whole.front whole.back whole.is (values_step e whole.back whole.second) tail (λ more c. path_clean e m (suc n) x whole.front more (omega (arith, count)) parts whole.first c)

-- ---- expressions by themselves

abbrev selectors : ℕ → Grammar
selectors n = repeated n no_selector selector_dot selector nothing

selectors_path : IsPath selectors path_of_tree
unfolding repeated path_of_tree
selectors_path = record { step = λ n e x d own ls is_dot is tail. record { tree = inl (d, (own, tail.tree)); clean = clean_left (clean_then is_dot (clean_then is tail.clean)); text = ap (λ (l : List Lexeme). d ∷ (leaves selector own ++ l)) tail.text; is = tail.is } }

no_more : (n : ℕ) (e : Expr) → IsClean (selectors n) (path_of_tree n e) e []
unfolding repeated path_of_tree
no_more zero e = record { tree = inr tt; clean = clean_right clean_none; text = refl; is = refl }
no_more (suc n) e = record { tree = inr tt; clean = clean_right clean_none; text = refl; is = refl }

doc_alone : AreReserved (codes "doc" ∷ [])
doc_alone name h = let f = free name h in rw f.no_doc refl

pub expression_clean : (e : Expr) (ls : List Lexeme) → IsWellFormedExpression e → symbols ls ≡ expr_symbols e → IsClean expression expression_of_tree e ls
expression_clean e ls formed is =
    let room : MAX_SELECTORS ≡ selector_count e + (MAX_SELECTORS - selector_count e) = let few = formed.selectors in omega (arith, few) in
    subst (IsClean expression expression_of_tree e) (append-nil ls)
    (path_clean selectors path_of_tree selectors_path (codes "doc" ∷ []) doc_alone e MAX_SELECTORS (MAX_SELECTORS - selector_count e) e ls [] room formed.parts is (no_more (MAX_SELECTORS - selector_count e) e))

-- ---- values

pub value_clean : (v : Value) (ls : List Lexeme) → symbols ls ≡ value_symbols v → IsClean literal value_of_tree v ls
value_clean (values.Number text) ls is =
    let x = leads ls (number text) [] is in
    rw (x.is, none_left x.others x.second) (record { tree = inl x.first; clean = clean_left (clean_mark (any Number) (number text) x.first x.symbol refl); text = refl; is = ap (λ (s : Symbol). values.Number (value_of_symbol s)) (sym x.symbol) })
value_clean (values.Str content) ls is =
    let x = leads ls (string content) [] is in
    rw (x.is, none_left x.others x.second) (record { tree = inr (inl x.first); clean = clean_right (clean_left (clean_mark (any Str) (string content) x.first x.symbol refl)); text = refl; is = ap (λ (s : Symbol). values.Str (value_of_symbol s)) (sym x.symbol) })
value_clean values.True ls is =
    let x = leads ls (word (codes "true")) [] is in
    rw (x.is, none_left x.others x.second) (record { tree = inr (inr (inl x.first)); clean = clean_right (clean_right (clean_left (clean_word (codes "true") x.first x.symbol refl))); text = refl; is = refl })
value_clean values.False ls is =
    let x = leads ls (word (codes "false")) [] is in
    rw (x.is, none_left x.others x.second) (record { tree = inr (inr (inr (inl x.first))); clean = clean_right (clean_right (clean_right (clean_left (clean_word (codes "false") x.first x.symbol refl)))); text = refl; is = refl })
value_clean values.Null ls is =
    let x = leads ls (word (codes "null")) [] is in
    rw (x.is, none_left x.others x.second) (record { tree = inr (inr (inr (inr (inl x.first)))); clean = clean_right (clean_right (clean_right (clean_right (clean_left (clean_word (codes "null") x.first x.symbol refl))))); text = refl; is = refl })
value_clean values.EmptyMap ls is =
    let x = leads ls open_brace (close_brace ∷ []) is in
    let y = leads x.others close_brace [] x.second in
    rw (x.is, y.is, none_left y.others y.second) (record { tree = inr (inr (inr (inr (inr (inl (x.first, y.first)))))); clean = clean_right (clean_right (clean_right (clean_right (clean_right (clean_left (clean_then (clean_mark (any BraceL) open_brace x.first x.symbol refl) (clean_mark (any BraceR) close_brace y.first y.symbol refl))))))); text = refl; is = refl })
value_clean values.EmptyList ls is =
    let x = leads ls open_bracket (close_bracket ∷ []) is in
    let y = leads x.others close_bracket [] x.second in
    rw (x.is, y.is, none_left y.others y.second) (record { tree = inr (inr (inr (inr (inr (inr (x.first, y.first)))))); clean = clean_right (clean_right (clean_right (clean_right (clean_right (clean_right (clean_then (clean_mark (any BracketL) open_bracket x.first x.symbol refl) (clean_mark (any BracketR) close_bracket y.first y.symbol refl))))))); text = refl; is = refl })

-- ---- commands that begin with an expression

abbrev changes : ℕ → Grammar
changes n = chained n no_selector selector_dot selector assignment ending

changes_path : IsPath changes change_of_tree
unfolding chained change_of_tree
changes_path = record { step = λ n e x d own ls is_dot is tail. record { tree = inl (d, inl (own, tail.tree)); clean = clean_left (clean_then is_dot (clean_left (clean_then is tail.clean))); text = ap (λ (l : List Lexeme). d ∷ (leaves selector own ++ l)) tail.text; is = tail.is } }

-- an end behind a dot, and an assignment, with any number of selectors still possible
ended_clean : (n : ℕ) (e : Expr) (x : Cmd) (d : Lexeme) (ls : List Lexeme) → CleanTree selector_dot d → IsClean ending (ending_of_tree e) x ls → IsClean (changes n) (change_of_tree n e) x (d ∷ ls)
unfolding chained change_of_tree
ended_clean zero e x d ls is_dot c = record { tree = inl (d, inr c.tree); clean = clean_left (clean_then is_dot (clean_right c.clean)); text = ap (λ (l : List Lexeme). d ∷ l) c.text; is = c.is }
ended_clean (suc n) e x d ls is_dot c = record { tree = inl (d, inr c.tree); clean = clean_left (clean_then is_dot (clean_right c.clean)); text = ap (λ (l : List Lexeme). d ∷ l) c.text; is = c.is }

assigned_clean : (n : ℕ) (e : Expr) (x : Cmd) (ls : List Lexeme) → IsClean assignment (assignment_of_tree e) x ls → IsClean (changes n) (change_of_tree n e) x ls
unfolding chained change_of_tree
assigned_clean zero e x ls c = record { tree = inr c.tree; clean = clean_right c.clean; text = c.text; is = c.is }
assigned_clean (suc n) e x ls c = record { tree = inr c.tree; clean = clean_right c.clean; text = c.text; is = c.is }

keywords_free : AreReserved (codes "let" ∷ codes "yield" ∷ codes "doc" ∷ [])
keywords_free name h = let f = free name h in rw (f.no_let, f.no_yield, f.no_doc) refl

change_clean : (e : Expr) (x : Cmd) (ls rest : List Lexeme) → IsWellFormedExpression e → symbols ls ≡ expr_symbols e → ((n : ℕ) → IsClean (changes n) (change_of_tree n e) x rest) → IsClean command command_of_tree x (ls ++ rest)
change_clean e x ls rest formed is tail =
    let room : MAX_SELECTORS ≡ selector_count e + (MAX_SELECTORS - selector_count e) = let few = formed.selectors in omega (arith, few) in
    let c = path_clean changes change_of_tree changes_path (codes "let" ∷ codes "yield" ∷ codes "doc" ∷ []) keywords_free e MAX_SELECTORS (MAX_SELECTORS - selector_count e) x ls rest room formed.parts is (tail (MAX_SELECTORS - selector_count e)) in
    record { tree = inr (inr c.tree); clean = clean_right (clean_right c.clean); text = c.text; is = c.is }

inserted_clean : (e : Expr) (v : Value) (ls : List Lexeme) → symbols ls ≡ word (codes "insertAfter") ∷ open_paren ∷ (value_symbols v ++ close_paren ∷ []) → IsClean ending (ending_of_tree e) (InsertAfter e v) ls
inserted_clean e v ls is =
    let w = leads ls (word (codes "insertAfter")) (open_paren ∷ (value_symbols v ++ close_paren ∷ [])) is in
    let p = leads w.others open_paren (value_symbols v ++ close_paren ∷ []) w.second in
    let inner = parted p.others (value_symbols v) (close_paren ∷ []) p.second in
    let q = leads inner.back close_paren [] inner.second in
    let c = value_clean v inner.front inner.first in
    rw (w.is, p.is, inner.is, q.is, none_left q.others q.second) (record {
      tree = inl (w.first, (p.first, (c.tree, q.first)));
      clean = clean_left (clean_then (clean_word (codes "insertAfter") w.first w.symbol refl) (clean_then (clean_mark (any ParenL) open_paren p.first p.symbol refl) (clean_then c.clean (clean_mark (any ParenR) close_paren q.first q.symbol refl))));
      text = ap (λ (l : List Lexeme). w.first ∷ p.first ∷ (l ++ q.first ∷ [])) c.text;
      is = ap (InsertAfter e) c.is;
    })

deleted_clean : (e : Expr) (ls : List Lexeme) → symbols ls ≡ word (codes "delete") ∷ [] → IsClean ending (ending_of_tree e) (DeleteAt e) ls
deleted_clean e ls is =
    let w = leads ls (word (codes "delete")) [] is in
    rw (w.is, none_left w.others w.second) (record { tree = inr w.first; clean = clean_right (clean_word (codes "delete") w.first w.symbol refl); text = refl; is = refl })

set_clean : (e : Expr) (v : Value) (ls : List Lexeme) → symbols ls ≡ assign ∷ value_symbols v → IsClean assignment (assignment_of_tree e) (SetTo e v) ls
set_clean e v ls is =
    let a = leads ls assign (value_symbols v) is in
    let c = value_clean v a.others a.second in
    rw a.is (record { tree = (a.first, c.tree); clean = clean_then (clean_mark (any Assign) assign a.first a.symbol refl) c.clean; text = ap (λ (l : List Lexeme). a.first ∷ l) c.text; is = ap (SetTo e) c.is })

-- a name that is bound
bound_clean : (x : Lexeme) (name : List ℕ) → x.symbol ≡ word name → is_reserved name ≡ false → CleanTree (guarded free_binding (token Name)) x
bound_clean x name is is_free = clean_guarded free_binding (λ s. (s, rw (is, is_free) refl)) (clean_mark (any Name) (word name) x is refl)

pub command_clean : (c : Cmd) (ls : List Lexeme) → IsCommandWellFormed c → symbols ls ≡ cmd_symbols c → IsClean command command_of_tree c ls
command_clean Yield ls formed is =
    let x = leads ls (word (codes "yield")) [] is in
    rw (x.is, none_left x.others x.second) (record { tree = inl x.first; clean = clean_left (clean_word (codes "yield") x.first x.symbol refl); text = refl; is = refl })
command_clean (LetIn name e) ls formed is =
    let l = leads ls (word (codes "let")) (word name ∷ equals ∷ expr_symbols e) is in
    let n = leads l.others (word name) (equals ∷ expr_symbols e) l.second in
    let q = leads n.others equals (expr_symbols e) n.second in
    let c = expression_clean e q.others formed.1 q.second in
    rw (l.is, n.is, q.is) (record {
      tree = inr (inl (l.first, (n.first, (q.first, c.tree))));
      clean = clean_right (clean_left (clean_then (clean_word (codes "let") l.first l.symbol refl) (clean_then (bound_clean n.first name n.symbol formed.0) (clean_then (clean_mark (any Equals) equals q.first q.symbol refl) c.clean))));
      text = ap (λ (k : List Lexeme). l.first ∷ n.first ∷ q.first ∷ k) c.text;
      is = ap (λ (s : Symbol). LetIn (value_of_symbol s) e) (sym n.symbol) ∙ ap (LetIn (value_of n.first)) c.is;
    })
command_clean (SetTo e v) ls formed is =
    let whole = parted ls (expr_symbols e) (assign ∷ value_symbols v) is in
    rw whole.is (change_clean e (SetTo e v) whole.front whole.back formed whole.first (λ n. assigned_clean n e (SetTo e v) whole.back (set_clean e v whole.back whole.second)))
command_clean (InsertAfter e v) ls formed is =
    let whole = parted ls (expr_symbols e) (dot ∷ word (codes "insertAfter") ∷ open_paren ∷ (value_symbols v ++ close_paren ∷ [])) is in
    let d = leads whole.back dot (word (codes "insertAfter") ∷ open_paren ∷ (value_symbols v ++ close_paren ∷ [])) whole.second in
    rw (whole.is, d.is) (change_clean e (InsertAfter e v) whole.front (d.first ∷ d.others) formed whole.first (λ n. ended_clean n e (InsertAfter e v) d.first d.others (clean_dot d.first d.symbol) (inserted_clean e v d.others d.second)))
command_clean (DeleteAt e) ls formed is =
    let whole = parted ls (expr_symbols e) (dot ∷ word (codes "delete") ∷ []) is in
    let d = leads whole.back dot (word (codes "delete") ∷ []) whole.second in
    rw (whole.is, d.is) (change_clean e (DeleteAt e) whole.front (d.first ∷ d.others) formed whole.first (λ n. ended_clean n e (DeleteAt e) d.first d.others (clean_dot d.first d.symbol) (deleted_clean e d.others d.second)))

-- ---- lists

-- each item's symbols are a tree that says it
abbrev pub EachClean : {A : Type 0} (x : Grammar) → (ParseTree x → A) → (A → List Symbol) → (A → Type 0) → Type 0
EachClean {A} x item written P = (a : A) (ls : List Lexeme) → P a → symbols ls ≡ written a → IsClean x item a ls

abbrev semi : Grammar
semi = token Semi

pub no_items : {A : Type 0} (n : ℕ) (c : Guard) (x : Grammar) (item : ParseTree x → A) → IsClean (listed n c x semi) (items_of n c x semi item) [] []
unfolding listed items_of
no_items zero c x item = record { tree = inr tt; clean = clean_right clean_none; text = refl; is = refl }
no_items (suc n) c x item = record { tree = inr tt; clean = clean_right clean_none; text = refl; is = refl }

last_item : {A : Type 0} (n : ℕ) (c : Guard) (x : Grammar) (item : ParseTree x → A) (a : A) (ls : List Lexeme) → IsClean x item a ls → IsClean (listed (suc n) c x semi) (items_of (suc n) c x semi item) (a ∷ []) ls
unfolding listed items_of
last_item n c x item a ls own = record {
  tree = inl (own.tree, inr tt);
  clean = clean_left (clean_then own.clean (clean_right clean_none));
  text = append-nil (leaves x own.tree) ∙ own.text;
  is = ap (λ b. b ∷ []) own.is;
}

pub next_item : {A : Type 0} (n : ℕ) (c : Guard) (x : Grammar) (item : ParseTree x → A) (a : A) (items : List A) (ls rest : List Lexeme) (sign : Lexeme) → sign.symbol ≡ semicolon → IsClean x item a ls → IsClean (listed n c x semi) (items_of n c x semi item) items rest → IsClean (listed (suc n) c x semi) (items_of (suc n) c x semi item) (a ∷ items) (ls ++ sign ∷ rest)
unfolding listed items_of
next_item n c x item a items ls rest sign is own more = record {
  tree = inl (own.tree, inl (sign, more.tree));
  clean = clean_left (clean_then own.clean (clean_left (clean_then (clean_mark (any Semi) semicolon sign is refl) more.clean)));
  text = λ i. own.text i ++ sign ∷ more.text i;
  is = λ i. own.is i ∷ more.is i;
}

-- items with a `;` between
pub joined_clean : {A : Type 0} (c : Guard) (x : Grammar) (item : ParseTree x → A) (written : A → List Symbol) (P : A → Type 0) → EachClean x item written P → (n : ℕ) (items : List A) (ls : List Lexeme) → length items ≤ n → All P items → symbols ls ≡ joined written items → IsClean (listed n c x semi) (items_of n c x semi item) items ls
joined_clean c x item written P each n [] ls few all is = rw (none_left ls is) (no_items n c x item)
joined_clean c x item written P each zero (a ∷ items) ls few all is = absurd (omega (arith, few))
joined_clean c x item written P each (suc n) (a ∷ []) ls few all is = last_item n c x item a ls (each a ls (All-head P a [] all) is)
joined_clean c x item written P each (suc n) (a ∷ b ∷ more) ls few all is =
    let whole = parted ls (written a) (semicolon ∷ joined written (b ∷ more)) is in
    let sign = leads whole.back semicolon (joined written (b ∷ more)) whole.second in
    let rest = joined_clean c x item written P each n (b ∷ more) sign.others (omega (arith, few)) (All-tail P a (b ∷ more) all) sign.second in
    rw (whole.is, sign.is) (next_item n c x item a (b ∷ more) whole.front sign.others sign.first sign.symbol (each a whole.front (All-head P a (b ∷ more) all) whole.first) rest)

pub script_clean : (commands : List Cmd) (ls : List Lexeme) → IsScriptWellFormed commands → symbols ls ≡ joined cmd_symbols commands → IsClean script script_of_tree commands ls
script_clean commands ls formed is = joined_clean no_command command command_of_tree cmd_symbols IsCommandWellFormed (λ c l own text. command_clean c l own text) MAX_COMMANDS commands ls formed.commands formed.each is
