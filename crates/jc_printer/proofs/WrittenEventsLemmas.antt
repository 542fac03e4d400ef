-- About `GrammarTrees` of `jc_parser`: lexemes with the symbols of an event are a tree that says it by names.
use Rattle.std.proofs.Common.{◌≡◌, ℕ, ◌<◌, inl, inr, List, [], ◌∷◌, decimal, refl, sym, ap, ◌∙◌}
use Rattle.std.specs.Prelude.{codes}
use Rattle.jc_rules.specs.declared.operation.Event.{Event}
use Rattle.jc_rules.specs.declared.operation.Event.TheVariants.{Exec, Send, Recv, Take, Apply, Done}
use Rattle.jc_rules.specs.declared.version.Version.{Version}
use Rattle.jc_rules.specs.declared.version.Version.TheVariants.{One, Two}
use Rattle.jc_rules.specs.ReplicaNames.{name_at}
use Rattle.jc_rules.specs.Version.{Allows}
use Rattle.jc_syntax.specs.declared.token.TokenKind.TheVariants.{Name, Dot, ParenL, ParenR, Comma}
use Rattle.jc_grammar.specs.Symbols.{Symbol, word, number, dot, open_paren, close_paren, comma, Lexeme, symbols}
use Rattle.jc_grammar.specs.SymbolTests.{value_of_symbol}
use Rattle.jc_grammar.specs.Classes.{any}
use Rattle.jc_grammar.specs.Grammar.{ParseTree, leaves}
use Rattle.jc_grammar.specs.ScenarioGrammar.{token, identifier, common_action, action, event}
use Rattle.jc_parser.specs.NamedTrees.{Call, executes, sends, receives, takes, applies, ends, call_of}
use Rattle.jc_parser.specs.GrammarTrees.{value_of, named, counter_of, author_of, common_of_tree, action_of_tree, event_of_tree}
use Rattle.jc_parser.specs.LegalSymbols.{call_by, IsCounterBelow}
use Rattle.jc_printer.proofs.CanonSymbolsLemmas.{identifier_symbols, event_symbols}
use Rattle.jc_printer.proofs.WrittenTreesLemmas.{leads, none_left, CleanTree, IsClean, clean_mark, clean_word, clean_then, clean_left, clean_right, clean_index, index_is}

-- what an event's tree says by names
abbrev pub call_in : (v : Version) → ParseTree (event v) → Call
call_in v t = call_of (event_of_tree v t)

value_is : (x : Lexeme) (name : List ℕ) → x.symbol ≡ word name → name ≡ value_of x
value_is x name is = sym (ap (λ (s : Symbol). value_of_symbol s) is)

clean_name : (x : Lexeme) (name : List ℕ) → x.symbol ≡ word name → CleanTree (token Name) x
clean_name x name is = clean_mark (any Name) (word name) x is refl

-- the action of an event, behind its dot: each version has the common ones
record IsAction (v : Version) (p : Lexeme) (call : Call) (ls : List Lexeme) : Type 0 where
  tree : ParseTree (action v)
  clean : CleanTree (action v) tree
  text : leaves (action v) tree ≡ ls
  is : call ≡ call_of (action_of_tree v (named p) tree)

common_in : (v : Version) (p : Lexeme) (call : Call) (ls : List Lexeme) → IsClean common_action (λ t. call_of (common_of_tree (named p) t)) call ls → IsAction v p call ls
common_in One p call ls c = record { tree = c.tree; clean = c.clean; text = c.text; is = c.is }
common_in Two p call ls c = record { tree = inr c.tree; clean = clean_right c.clean; text = c.text; is = c.is }

-- the replica, the dot and what comes behind
event_of : (v : Version) (name : List ℕ) (rest : List Symbol) (call : Call) (ls : List Lexeme) → symbols ls ≡ word name ∷ dot ∷ rest
    → ((p : Lexeme) (others : List Lexeme) → p.symbol ≡ word name → symbols others ≡ rest → IsAction v p call others) → IsClean (event v) (call_in v) call ls
event_of v name rest call ls is own =
    let p = leads ls (word name) (dot ∷ rest) is in
    let d = leads p.others dot rest p.second in
    let a = own p.first d.others p.symbol d.second in
    rw (p.is, d.is) (record {
      tree = (p.first, (d.first, a.tree));
      clean = clean_then (clean_name p.first name p.symbol) (clean_then (clean_mark (any Dot) dot d.first d.symbol refl) a.clean);
      text = ap (λ (l : List Lexeme). p.first ∷ d.first ∷ l) a.text;
      is = a.is;
    })

-- an identifier and the closing parenthesis
record IsIdentifier (i : ℕ) (author : List ℕ) (ls : List Lexeme) : Type 0 where
  tree : ParseTree identifier
  close : Lexeme
  clean : CleanTree identifier tree
  closes : CleanTree (token ParenR) close
  text : tree.0 ∷ tree.1.0 ∷ tree.1.1 ∷ close ∷ [] ≡ ls
  counter : i ≡ counter_of tree
  name : author ≡ (author_of tree).name

identifier_in : (i : ℕ) (author : List ℕ) (ls : List Lexeme) → i < 4294967296 → symbols ls ≡ identifier_symbols (decimal i) author → IsIdentifier i author ls
identifier_in i author ls small is =
    let n = leads ls (number (decimal i)) (comma ∷ word author ∷ close_paren ∷ []) is in
    let c = leads n.others comma (word author ∷ close_paren ∷ []) n.second in
    let a = leads c.others (word author) (close_paren ∷ []) c.second in
    let q = leads a.others close_paren [] a.second in
    rw (n.is, c.is, a.is, q.is, none_left q.others q.second) (record {
      tree = (n.first, (c.first, a.first));
      close = q.first;
      clean = clean_then (clean_index n.first i n.symbol small) (clean_then (clean_mark (any Comma) comma c.first c.symbol refl) (clean_name a.first author a.symbol));
      closes = clean_mark (any ParenR) close_paren q.first q.symbol refl;
      text = refl;
      counter = sym (index_is n.first i n.symbol small);
      name = value_is a.first author a.symbol;
    })

plain : (what : List ℕ) (ls : List Lexeme) → symbols ls ≡ word what ∷ [] → (x : Lexeme) × (ls ≡ x ∷ []) × (x.symbol ≡ word what)
plain what ls is = let x = leads ls (word what) [] is in (x.first, x.is ∙ ap (λ (l : List Lexeme). x.first ∷ l) (none_left x.others x.second), x.symbol)

recv_in : (v : Version) (p : Lexeme) (name other : List ℕ) (ls : List Lexeme) → p.symbol ≡ word name → symbols ls ≡ word (codes "recv") ∷ open_paren ∷ word other ∷ close_paren ∷ [] → IsAction v p (receives name other) ls
recv_in v p name other ls named_is is =
    let w = leads ls (word (codes "recv")) (open_paren ∷ word other ∷ close_paren ∷ []) is in
    let o = leads w.others open_paren (word other ∷ close_paren ∷ []) w.second in
    let q = leads o.others (word other) (close_paren ∷ []) o.second in
    let c = leads q.others close_paren [] q.second in
    rw (w.is, o.is, q.is, c.is, none_left c.others c.second) (common_in v p (receives name other) (w.first ∷ o.first ∷ q.first ∷ c.first ∷ []) (record {
      tree = inr (inr (inl (w.first, (o.first, (q.first, c.first)))));
      clean = clean_right (clean_right (clean_left (clean_then (clean_word (codes "recv") w.first w.symbol refl) (clean_then (clean_mark (any ParenL) open_paren o.first o.symbol refl) (clean_then (clean_name q.first other q.symbol) (clean_mark (any ParenR) close_paren c.first c.symbol refl))))));
      text = refl;
      is = λ i. receives (value_is p name named_is i) (value_is q.first other q.symbol i);
    }))

apply_in : (v : Version) (p : Lexeme) (name : List ℕ) (i : ℕ) (author : List ℕ) (ls : List Lexeme) → p.symbol ≡ word name → i < 4294967296 → symbols ls ≡ word (codes "apply") ∷ open_paren ∷ identifier_symbols (decimal i) author → IsAction v p (applies name i author) ls
apply_in v p name i author ls named_is small is =
    let w = leads ls (word (codes "apply")) (open_paren ∷ identifier_symbols (decimal i) author) is in
    let o = leads w.others open_paren (identifier_symbols (decimal i) author) w.second in
    let d = identifier_in i author o.others small o.second in
    rw (w.is, o.is) (common_in v p (applies name i author) (w.first ∷ o.first ∷ o.others) (record {
      tree = inr (inr (inr (inl (w.first, (o.first, (d.tree, d.close))))));
      clean = clean_right (clean_right (clean_right (clean_left (clean_then (clean_word (codes "apply") w.first w.symbol refl) (clean_then (clean_mark (any ParenL) open_paren o.first o.symbol refl) (clean_then d.clean d.closes))))));
      text = ap (λ (l : List Lexeme). w.first ∷ o.first ∷ l) d.text;
      is = λ k. applies (value_is p name named_is k) (d.counter k) (d.name k);
    }))

take_in : (p : Lexeme) (name sender : List ℕ) (i : ℕ) (author : List ℕ) (ls : List Lexeme) → p.symbol ≡ word name → i < 4294967296 → symbols ls ≡ word (codes "take") ∷ open_paren ∷ word sender ∷ comma ∷ identifier_symbols (decimal i) author → IsAction Two p (takes name sender i author) ls
take_in p name sender i author ls named_is small is =
    let w = leads ls (word (codes "take")) (open_paren ∷ word sender ∷ comma ∷ identifier_symbols (decimal i) author) is in
    let o = leads w.others open_paren (word sender ∷ comma ∷ identifier_symbols (decimal i) author) w.second in
    let q = leads o.others (word sender) (comma ∷ identifier_symbols (decimal i) author) o.second in
    let c = leads q.others comma (identifier_symbols (decimal i) author) q.second in
    let d = identifier_in i author c.others small c.second in
    rw (w.is, o.is, q.is, c.is) (record {
      tree = inl (w.first, (o.first, ((q.first, (c.first, d.tree)), d.close)));
      clean = clean_left (clean_then (clean_word (codes "take") w.first w.symbol refl) (clean_then (clean_mark (any ParenL) open_paren o.first o.symbol refl) (clean_then (clean_then (clean_name q.first sender q.symbol) (clean_then (clean_mark (any Comma) comma c.first c.symbol refl) d.clean)) d.closes)));
      text = ap (λ (l : List Lexeme). w.first ∷ o.first ∷ q.first ∷ c.first ∷ l) d.text;
      is = λ k. takes (value_is p name named_is k) (value_is q.first sender q.symbol k) (d.counter k) (d.name k);
    })

pub event_clean : (v : Version) (names : List (List ℕ)) (e : Event) (ls : List Lexeme) → IsCounterBelow e → Allows e v → symbols ls ≡ event_symbols names e → IsClean (event v) (call_in v) (call_by names e) ls
event_clean v names (Exec p) ls small allowed is =
    event_of v (name_at names p) (word (codes "exec") ∷ []) (executes (name_at names p)) ls is
    (λ x others named_is text. let (w, parts, own) = plain (codes "exec") others text in rw parts (common_in v x (executes (name_at names p)) (w ∷ []) (record { tree = inl w; clean = clean_left (clean_word (codes "exec") w own refl); text = refl; is = ap executes (value_is x (name_at names p) named_is) })))
event_clean v names (Send p) ls small allowed is =
    event_of v (name_at names p) (word (codes "send") ∷ []) (sends (name_at names p)) ls is
    (λ x others named_is text. let (w, parts, own) = plain (codes "send") others text in rw parts (common_in v x (sends (name_at names p)) (w ∷ []) (record { tree = inr (inl w); clean = clean_right (clean_left (clean_word (codes "send") w own refl)); text = refl; is = ap sends (value_is x (name_at names p) named_is) })))
event_clean v names (Done p) ls small allowed is =
    event_of v (name_at names p) (word (codes "done") ∷ []) (ends (name_at names p)) ls is
    (λ x others named_is text. let (w, parts, own) = plain (codes "done") others text in rw parts (common_in v x (ends (name_at names p)) (w ∷ []) (record { tree = inr (inr (inr (inr w))); clean = clean_right (clean_right (clean_right (clean_right (clean_word (codes "done") w own refl)))); text = refl; is = ap ends (value_is x (name_at names p) named_is) })))
event_clean v names (Recv p q) ls small allowed is =
    event_of v (name_at names p) (word (codes "recv") ∷ open_paren ∷ word (name_at names q) ∷ close_paren ∷ []) (receives (name_at names p) (name_at names q)) ls is
    (λ x others named_is text. recv_in v x (name_at names p) (name_at names q) others named_is text)
event_clean One names (Take p q i) ls small allowed is = absurd allowed
event_clean Two names (Take p q i) ls small allowed is =
    event_of Two (name_at names p) (word (codes "take") ∷ open_paren ∷ word (name_at names q) ∷ comma ∷ identifier_symbols (decimal i.counter) (name_at names i.replica)) (takes (name_at names p) (name_at names q) i.counter (name_at names i.replica)) ls is
    (λ x others named_is text. take_in x (name_at names p) (name_at names q) i.counter (name_at names i.replica) others named_is small text)
event_clean v names (Apply p i) ls small allowed is =
    event_of v (name_at names p) (word (codes "apply") ∷ open_paren ∷ identifier_symbols (decimal i.counter) (name_at names i.replica)) (applies (name_at names p) i.counter (name_at names i.replica)) ls is
    (λ x others named_is text. apply_in v x (name_at names p) i.counter (name_at names i.replica) others named_is small text)
