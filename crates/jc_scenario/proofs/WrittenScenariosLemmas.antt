-- About `GrammarTrees` of `jc_parser`: lexemes with the symbols of a scenario are a tree that says it, and no guard refuses.
use Rattle.std.proofs.Common.{◌≡◌, ◌≢◌, ℕ, zero, suc, ◌+◌, ◌-◌, ◌≤◌, ◌<◌, inl, inr, false, List, [], ◌∷◌, ◌++◌, map, length, None, refl, sym, ap, subst, ◌∙◌, append_assoc, arith}
use Rattle.std.specs.Prelude.{codes, All}
use Rattle.std.proofs.lemmas.Bool.{lt-ltb}
use Rattle.std.proofs.lemmas.List.Elements.{All-nil, All-cons, All-head, All-tail}
use Rattle.jc_rules.specs.declared.limits.TheConstants.{MAX_COMMANDS, MAX_REPLICAS, MAX_EVENTS}
use Rattle.jc_rules.specs.declared.operation.Event.{Event}
use Rattle.jc_rules.specs.declared.operation.Event.TheVariants.{Exec}
use Rattle.jc_rules.specs.declared.version.Version.{Version}
use Rattle.jc_rules.specs.declared.version.Version.TheVariants.{One, Two}
use Rattle.jc_rules.specs.Syntax.{Cmd}
use Rattle.jc_rules.specs.Version.{Allows}
use Rattle.jc_syntax.specs.declared.token.TokenKind.TheVariants.{Name, BraceL, BraceR, Semi}
use Rattle.jc_grammar.specs.Symbols.{Symbol, word, number, open_brace, close_brace, semicolon, Lexeme, symbols}
use Rattle.jc_grammar.specs.SymbolTests.{value_of_symbol, is_reserved}
use Rattle.jc_grammar.specs.Classes.{any, is_in}
use Rattle.jc_grammar.specs.Guards.{GuardState, Guard, passes, verdict_of, new_replica, no_command, no_event, nothing_seen}
use Rattle.jc_grammar.specs.Grammar.{Grammar, ◌then◌, guarded, listed, repeated, ParseTree, leaves, FitsClasses, state_after, first_refusal}
use Rattle.jc_grammar.specs.Faults.{IsTreeText}
use Rattle.jc_grammar.specs.ScenarioGrammar.{token, keyword, command, closed_script, event, block, blocks, replica, body, scenario}
use Rattle.jc_parser.specs.NamedTrees.{Call, call_of, Part, ScenarioTree, tree_of_named}
use Rattle.jc_parser.specs.GrammarTrees.{value_of, items_of, command_of_tree, closed_script_of_tree, event_of_tree, block_of_tree, blocks_of_tree, replica_of_tree, tail_of_tree, body_of_tree, scenario_of_tree}
use Rattle.jc_parser.specs.Scripts.{IsCommandWellFormed, IsScriptWellFormed}
use Rattle.jc_parser.specs.LegalSymbols.{call_by, IsCounterBelow}
use Rattle.jc_parser.proofs.GrammarStatesLemmas.{script_keeps}
use Rattle.jc_parser.proofs.LegalScenariosLemmas.{tree_keeps}
use Rattle.jc_printer.proofs.CanonSymbolsLemmas.{cmd_symbols, event_symbols}
use Rattle.jc_printer.proofs.WrittenTreesLemmas.{parted, leads, none_left, CleanTree, IsClean, clean_mark, clean_word, clean_then, clean_left, no_items, next_item, command_clean}
use Rattle.jc_printer.proofs.WrittenEventsLemmas.{call_in, event_clean}
use Rattle.jc_scenario.proofs.ScenarioSymbolsLemmas.{ended, named_symbols, parts_symbols, block_symbols, given_symbols, schedule_symbols, header}

-- ---- lists

-- items with a `;` behind each
ended_clean : {A B : Type 0} (c : Guard) (x : Grammar) (item : ParseTree x → B) (says : A → B) (written : A → List Symbol) (P : A → Type 0) → ((a : A) (ls : List Lexeme) → P a → symbols ls ≡ written a → IsClean x item (says a) ls)
    → (n : ℕ) (items : List A) (ls : List Lexeme) → length items ≤ n → All P items → symbols ls ≡ ended written items → IsClean (listed n c x (token Semi)) (items_of n c x (token Semi) item) (map says items) ls
ended_clean c x item says written P each n [] ls few all is = rw (none_left ls is) (no_items n c x item)
ended_clean c x item says written P each zero (a ∷ items) ls few all is = absurd (omega (arith, few))
ended_clean c x item says written P each (suc n) (a ∷ items) ls few all is =
    let whole = parted ls (written a) (semicolon ∷ ended written items) is in
    let sign = leads whole.back semicolon (ended written items) whole.second in
    let rest = ended_clean c x item says written P each n items sign.others (omega (arith, few)) (All-tail P a items all) sign.second in
    rw (whole.is, sign.is) (next_item n c x item (says a) (map says items) whole.front sign.others sign.first sign.symbol (each a whole.front (All-head P a items all) whole.first) rest)

same_commands : (commands : List Cmd) → map (λ (c : Cmd). c) commands ≡ commands
same_commands [] = refl
same_commands (c ∷ cs) = ap (λ (l : List Cmd). c ∷ l) (same_commands cs)

-- a script and its closing brace
closed_clean : (commands : List Cmd) (ls : List Lexeme) → IsScriptWellFormed commands → symbols ls ≡ ended cmd_symbols commands ++ close_brace ∷ [] → IsClean closed_script closed_script_of_tree commands ls
closed_clean commands ls formed is =
    let whole = parted ls (ended cmd_symbols commands) (close_brace ∷ []) is in
    let brace = leads whole.back close_brace [] whole.second in
    let c = ended_clean no_command command command_of_tree (λ (d : Cmd). d) cmd_symbols IsCommandWellFormed (λ d l own text. command_clean d l own text) MAX_COMMANDS commands whole.front formed.commands formed.each whole.first in
    rw (whole.is, brace.is, none_left brace.others brace.second) (record {
      tree = (c.tree, brace.first);
      clean = clean_then c.clean (clean_mark (any BraceR) close_brace brace.first brace.symbol refl);
      text = ap (λ (l : List Lexeme). l ++ brace.first ∷ []) c.text;
      is = sym (same_commands commands) ∙ c.is;
    })

-- ---- blocks of events

items_map : {A B : Type 0} (n : ℕ) (c : Guard) (x y : Grammar) (item : ParseTree x → A) (f : A → B) (t : ParseTree (listed n c x y)) → items_of n c x y (λ a. f (item a)) t ≡ map f (items_of n c x y item t)
unfolding listed items_of
items_map zero c x y item f (inl t) = refl
items_map zero c x y item f (inr t) = refl
items_map (suc n) c x y item f (inr t) = refl
items_map (suc n) c x y item f (inl (a, inr end)) = refl
items_map (suc n) c x y item f (inl (a, inl (b, more))) = ap (λ l. f (item a) ∷ l) (items_map n c x y item f more)

-- an event that is written so in a text of this version
abbrev IsWrittenEvent : Version → Event → Type 0
IsWrittenEvent v e = IsCounterBelow e × Allows e v

-- what a block's tree says by names
abbrev calls_in : (lead : List ℕ) (v : Version) → ParseTree (block lead v) → List Call
calls_in lead v t = map call_of (block_of_tree lead v t)

-- a word that a block begins with
abbrev CanLead : List ℕ → Type 0
CanLead lead = (x : Lexeme) → x.symbol ≡ word lead → CleanTree (keyword lead) x

block_clean : (lead : List ℕ) (v : Version) (names : List (List ℕ)) (es : List Event) (ls : List Lexeme) → CanLead lead → length es ≤ MAX_EVENTS → All (IsWrittenEvent v) es → symbols ls ≡ block_symbols lead names es → IsClean (block lead v) (calls_in lead v) (map (call_by names) es) ls
block_clean lead v names es ls leading few all is =
    let w = leads ls (word lead) (open_brace ∷ (ended (event_symbols names) es ++ close_brace ∷ [])) is in
    let o = leads w.others open_brace (ended (event_symbols names) es ++ close_brace ∷ []) w.second in
    let whole = parted o.others (ended (event_symbols names) es) (close_brace ∷ []) o.second in
    let brace = leads whole.back close_brace [] whole.second in
    let c = ended_clean no_event (event v) (call_in v) (call_by names) (event_symbols names) (IsWrittenEvent v) (λ e l own text. event_clean v names e l own.0 own.1 text) MAX_EVENTS es whole.front few all whole.first in
    rw (w.is, o.is, whole.is, brace.is, none_left brace.others brace.second) (record {
      tree = (w.first, (o.first, (c.tree, brace.first)));
      clean = clean_then (leading w.first w.symbol) (clean_then (clean_mark (any BraceL) open_brace o.first o.symbol refl) (clean_then c.clean (clean_mark (any BraceR) close_brace brace.first brace.symbol refl)));
      text = ap (λ (l : List Lexeme). w.first ∷ o.first ∷ (l ++ brace.first ∷ [])) c.text;
      is = c.is ∙ items_map MAX_EVENTS no_event (event v) (token Semi) (event_of_tree v) call_of c.tree;
    })

-- the given events and the schedule
record AreWrittenBlocks (v : Version) (gs es : List Event) : Type 0 where
  first_given : v ≡ One → gs ≡ []
  given_short : length gs ≤ MAX_EVENTS
  given : All (IsWrittenEvent Two) gs
  short : length es ≤ MAX_EVENTS
  schedule : All (IsWrittenEvent v) es

abbrev pub numbered_tree : Version → List (List ℕ) → List Part → List Event → List Event → ScenarioTree
numbered_tree v names ps gs es = record { version = v; parts = ps; given = map (call_by names) gs; calls = map (call_by names) es }

blocks_clean : (v : Version) (names : List (List ℕ)) (gs es : List Event) (ls : List Lexeme) → AreWrittenBlocks v gs es → symbols ls ≡ given_symbols v names gs ++ schedule_symbols names es → IsClean (blocks v) (λ t. tree_of_named (blocks_of_tree v t)) (numbered_tree v names [] gs es) ls
blocks_clean One names gs es ls own is =
    let c = block_clean (codes "schedule") One names es ls (λ x h. clean_word (codes "schedule") x h refl) own.short own.schedule is in
    record {
      tree = inl c.tree;
      clean = clean_left c.clean;
      text = c.text;
      is = λ i. record { version = One; parts = []; given = map (call_by names) (own.first_given refl i); calls = c.is i };
    }
blocks_clean Two names gs es ls own is =
    let whole = parted ls (block_symbols (codes "given") names gs) (block_symbols (codes "schedule") names es) is in
    let g = block_clean (codes "given") Two names gs whole.front (λ x h. clean_word (codes "given") x h refl) own.given_short own.given whole.first in
    let c = block_clean (codes "schedule") Two names es whole.back (λ x h. clean_word (codes "schedule") x h refl) own.short own.schedule whole.second in
    rw whole.is (record {
      tree = (inl g.tree, inl c.tree);
      clean = clean_then (clean_left g.clean) (clean_left c.clean);
      text = λ i. g.text i ++ c.text i;
      is = λ i. record { version = Two; parts = []; given = g.is i; calls = c.is i };
    })

-- ---- replicas

-- lexemes that are a tree in which no guard refuses, from what they remember
record IsTreeFrom (g : Grammar) {A : Type 0} (s : GuardState) (view : ParseTree g → A) (a : A) (ls : List Lexeme) : Type 0 where
  tree : ParseTree g
  fits : FitsClasses g tree
  clear : (u : List Lexeme) → first_refusal g s tree u ≡ None
  text : leaves g tree ≡ ls
  is : a ≡ view tree

-- a replica behind its word, and what is remembered behind it
record IsReplica (s : GuardState) (p : Part) (ls : List Lexeme) : Type 0 where
  own : IsTreeFrom replica s replica_of_tree p ls
  names : (state_after replica s own.tree).names ≡ p.name ∷ s.names

name_passes : (s : GuardState) (x : Lexeme) (name : List ℕ) → x.symbol ≡ word name → is_reserved name ≡ false → is_in name s.names ≡ false → length s.names < MAX_REPLICAS → verdict_of (new_replica MAX_REPLICAS) s x ≡ passes (record s { names = name ∷ s.names })
name_passes s x name is free new room = rw (is, free, new, lt-ltb (length s.names) MAX_REPLICAS room) refl

abbrev named_by : Grammar
named_by = guarded (new_replica MAX_REPLICAS) (token Name)

replica_from : (s : GuardState) (p : Part) (ls : List Lexeme) → is_reserved p.name ≡ false → is_in p.name s.names ≡ false → length s.names < MAX_REPLICAS → IsScriptWellFormed p.script → symbols ls ≡ named_symbols p → IsReplica s p ls
replica_from s p ls free new room formed is =
    let n = leads ls (word p.name) (open_brace ∷ (ended cmd_symbols p.script ++ close_brace ∷ [])) is in
    let o = leads n.others open_brace (ended cmd_symbols p.script ++ close_brace ∷ []) n.second in
    let c = closed_clean p.script o.others formed o.second in
    let passed = name_passes s n.first p.name n.symbol free new room in
    let behind : CleanTree (token BraceL then closed_script) (o.first, c.tree) = clean_then (clean_mark (any BraceL) open_brace o.first o.symbol refl) c.clean in
    let own_name : p.name ≡ value_of n.first = sym (ap (λ (s : Symbol). value_of_symbol s) n.symbol) in
    let named : (state_after named_by s n.first).names ≡ p.name ∷ s.names = rw passed refl in
    rw (n.is, o.is) (record {
      own = record {
        tree = (n.first, (o.first, c.tree));
        fits = (rw n.symbol refl, behind.fits);
        clear = λ u. rw (passed, behind.clear (record s { names = p.name ∷ s.names }) u) refl;
        text = ap (λ (l : List Lexeme). n.first ∷ o.first ∷ l) c.text;
        is = λ i. record { name = own_name i; script = c.is i };
      };
      names = tree_keeps (token BraceL then closed_script) (rw script_keeps refl) (state_after named_by s n.first) (o.first, c.tree) ∙ named;
    })

-- replicas that are none of these, and no two of one name
abbrev pub AreNewParts : List (List ℕ) → List Part → Type 0
AreNewParts names [] = Unit {0}
AreNewParts names (p ∷ ps) = (is_reserved p.name ≡ false) × (is_in p.name names ≡ false) × IsScriptWellFormed p.script × AreNewParts (p.name ∷ names) ps

abbrev more : Version → ℕ → Grammar
more v n = repeated n (new_replica MAX_REPLICAS) (keyword (codes "replica")) replica (blocks v)

abbrev tail_in : (v : Version) (n : ℕ) → ParseTree (more v n) → ScenarioTree
tail_in v n t = tree_of_named (tail_of_tree v n t)

module _ (v : Version) (names : List (List ℕ)) (gs es : List Event) (own : AreWrittenBlocks v gs es) where
  abbrev blocks_symbols : List Symbol
  blocks_symbols = given_symbols v names gs ++ schedule_symbols names es

  abbrev Numbered : List Part → ScenarioTree
  Numbered ps = numbered_tree v names ps gs es

  no_replicas : (n : ℕ) (s : GuardState) (ls : List Lexeme) → symbols ls ≡ blocks_symbols → IsTreeFrom (more v n) s (tail_in v n) (Numbered []) ls
  unfolding repeated tail_of_tree
  no_replicas zero s ls is = let c = blocks_clean v names gs es ls own is in record { tree = inr c.tree; fits = c.clean.fits; clear = λ u. c.clean.clear s u; text = c.text; is = c.is }
  no_replicas (suc n) s ls is = let c = blocks_clean v names gs es ls own is in record { tree = inr c.tree; fits = c.clean.fits; clear = λ u. c.clean.clear s u; text = c.text; is = c.is }

  -- one replica and those behind it
  next_replica : (n : ℕ) (s : GuardState) (p : Part) (ps : List Part) (x : Lexeme) (front back : List Lexeme) → x.symbol ≡ word (codes "replica") → (r : IsReplica s p front) → IsTreeFrom (more v n) (state_after replica s r.own.tree) (tail_in v n) (Numbered ps) back → IsTreeFrom (more v (suc n)) s (tail_in v (suc n)) (Numbered (p ∷ ps)) (x ∷ (front ++ back))
  unfolding repeated tail_of_tree
  next_replica n s p ps x front back is r rest = record {
    tree = inl (x, (r.own.tree, rest.tree));
    fits = (rw is refl, (r.own.fits, rest.fits));
    clear = λ u. rw (r.own.clear (leaves (more v n) rest.tree ++ u), rest.clear u) refl;
    text = λ i. x ∷ (r.own.text i ++ rest.text i);
    is = λ i. record { version = (rest.is i).version; parts = r.own.is i ∷ (rest.is i).parts; given = (rest.is i).given; calls = (rest.is i).calls };
  }

  tail_from : (n : ℕ) (s : GuardState) (ps : List Part) (ls : List Lexeme) → length ps ≤ n → length s.names + length ps ≤ MAX_REPLICAS → AreNewParts s.names ps → symbols ls ≡ parts_symbols ps ++ blocks_symbols → IsTreeFrom (more v n) s (tail_in v n) (Numbered ps) ls
  tail_from n s [] ls few room new is = no_replicas n s ls is
  tail_from zero s (p ∷ ps) ls few room new is = absurd (omega (arith, few))
  tail_from (suc n) s (p ∷ ps) ls few room (free, fresh, formed, others) is =
      let x = leads ls (word (codes "replica")) ((named_symbols p ++ parts_symbols ps) ++ blocks_symbols) is in
      let whole = parted x.others (named_symbols p) (parts_symbols ps ++ blocks_symbols) (x.second ∙ append_assoc (named_symbols p) (parts_symbols ps) blocks_symbols) in
      let r = replica_from s p whole.front free fresh (omega (arith, room)) formed whole.first in
      let next : GuardState = state_after replica s r.own.tree in
      let count : length next.names ≡ suc (length s.names) = ap length r.names in
      let rest = tail_from n next ps whole.back (omega (arith, few)) (omega (arith, room, count)) (subst (λ (ns : List (List ℕ)). AreNewParts ns ps) (sym r.names) others) whole.second in
      rw (x.is, whole.is) (next_replica n s p ps x.first whole.front whole.back x.symbol r rest)

-- ---- scenarios

-- a scenario that a text can have
pub record IsWritable (v : Version) (ps : List Part) (gs es : List Event) : Type 0 where
  pub some : ps ≢ []
  pub new : AreNewParts [] ps
  pub few : length ps ≤ MAX_REPLICAS
  pub first_given : v ≡ One → gs ≡ []
  pub given_short : length gs ≤ MAX_EVENTS
  pub given_counters : All IsCounterBelow gs
  pub short : length es ≤ MAX_EVENTS
  pub counters : All IsCounterBelow es
  pub allowed : All (λ e. Allows e v) es

second_allows : (e : Event) → Allows e Two
second_allows (Exec p) = tt
second_allows _ = tt

each_written : (v : Version) (es : List Event) → All IsCounterBelow es → All (λ e. Allows e v) es → All (IsWrittenEvent v) es
each_written v es small allowed = λ k d less. (small k d less, allowed k d less)

each_given : (gs : List Event) → All IsCounterBelow gs → All (IsWrittenEvent Two) gs
each_given [] small = All-nil (IsWrittenEvent Two)
each_given (g ∷ gs) small = All-cons (IsWrittenEvent Two) g gs (All-head IsCounterBelow g gs small, second_allows g) (each_given gs (All-tail IsCounterBelow g gs small))

-- the tree of a scenario's lexemes
pub record IsWrittenScenario (v : Version) (names : List (List ℕ)) (ps : List Part) (gs es : List Event) (ls : List Lexeme) : Type 0 where
  pub tree : ParseTree scenario
  pub text : IsTreeText scenario nothing_seen tree None ls
  pub is : numbered_tree v names ps gs es ≡ tree_of_named (scenario_of_tree tree)

body_from : (v : Version) (names : List (List ℕ)) (p : Part) (ps : List Part) (gs es : List Event) (ls : List Lexeme) → IsWritable v (p ∷ ps) gs es → symbols ls ≡ parts_symbols (p ∷ ps) ++ (given_symbols v names gs ++ schedule_symbols names es) → IsTreeFrom (body v) nothing_seen (λ t. tree_of_named (body_of_tree v t)) (numbered_tree v names (p ∷ ps) gs es) ls
body_from v names p ps gs es ls can is =
    let blocks_own : AreWrittenBlocks v gs es = record { first_given = can.first_given; given_short = can.given_short; given = each_given gs can.given_counters; short = can.short; schedule = each_written v es can.counters can.allowed } in
    let (free, fresh, formed, others) = can.new in
    let x = leads ls (word (codes "replica")) ((named_symbols p ++ parts_symbols ps) ++ (given_symbols v names gs ++ schedule_symbols names es)) is in
    let whole = parted x.others (named_symbols p) (parts_symbols ps ++ (given_symbols v names gs ++ schedule_symbols names es)) (x.second ∙ append_assoc (named_symbols p) (parts_symbols ps) (given_symbols v names gs ++ schedule_symbols names es)) in
    let r = replica_from nothing_seen p whole.front free fresh (omega arith) formed whole.first in
    let next : GuardState = state_after replica nothing_seen r.own.tree in
    let count : length next.names ≡ 1 = ap length r.names in
    let few = can.few in
    let rest = tail_from v names gs es blocks_own (MAX_REPLICAS - 1) next ps whole.back (omega (arith, few)) (omega (arith, few, count)) (subst (λ (ns : List (List ℕ)). AreNewParts ns ps) (sym r.names) others) whole.second in
    rw (x.is, whole.is) (record {
      tree = (x.first, (r.own.tree, rest.tree));
      fits = (rw x.symbol refl, (r.own.fits, rest.fits));
      clear = λ u. rw (r.own.clear (leaves (more v (MAX_REPLICAS - 1)) rest.tree ++ u), rest.clear u) refl;
      text = λ i. x.first ∷ (r.own.text i ++ rest.text i);
      is = λ i. record { version = (rest.is i).version; parts = r.own.is i ∷ (rest.is i).parts; given = (rest.is i).given; calls = (rest.is i).calls };
    })

pub scenario_written : (v : Version) (names : List (List ℕ)) (ps : List Part) (gs es : List Event) (ls : List Lexeme) → IsWritable v ps gs es → symbols ls ≡ header v ++ (parts_symbols ps ++ (given_symbols v names gs ++ schedule_symbols names es)) → IsWrittenScenario v names ps gs es ls
scenario_written v names [] gs es ls can is = absurd (can.some refl)
scenario_written One names (p ∷ ps) gs es ls can is =
    let m = leads ls (word (codes "jsoncrdt")) (number (codes "1") ∷ (parts_symbols (p ∷ ps) ++ (given_symbols One names gs ++ schedule_symbols names es))) is in
    let n = leads m.others (number (codes "1")) (parts_symbols (p ∷ ps) ++ (given_symbols One names gs ++ schedule_symbols names es)) m.second in
    let b = body_from One names p ps gs es n.others can n.second in
    rw (m.is, n.is) (record {
      tree = (m.first, inl (n.first, b.tree));
      text = ((rw m.symbol refl, (rw n.symbol refl, b.fits)), rw (b.clear []) refl, ap (λ (l : List Lexeme). m.first ∷ n.first ∷ l) b.text);
      is = b.is;
    })
scenario_written Two names (p ∷ ps) gs es ls can is =
    let m = leads ls (word (codes "jsoncrdt")) (number (codes "2") ∷ (parts_symbols (p ∷ ps) ++ (given_symbols Two names gs ++ schedule_symbols names es))) is in
    let n = leads m.others (number (codes "2")) (parts_symbols (p ∷ ps) ++ (given_symbols Two names gs ++ schedule_symbols names es)) m.second in
    let b = body_from Two names p ps gs es n.others can n.second in
    rw (m.is, n.is) (record {
      tree = (m.first, inr (n.first, b.tree));
      text = ((rw m.symbol refl, (rw n.symbol refl, b.fits)), rw (b.clear []) refl, ap (λ (l : List Lexeme). m.first ∷ n.first ∷ l) b.text);
      is = b.is;
    })
