-- About `LegalSymbolLaws`: the replicas, the given events and the schedule of a scenario's tree are legal.
use Rattle.std.proofs.Common.{◌≡◌, ◌≢◌, ℕ, zero, suc, ◌+◌, ◌-◌, ◌≤◌, ◌<◌, inl, inr, true, false, List, [], ◌∷◌, map, length, None, refl, sym, ap, subst, ◌∙◌, arith}
use Rattle.std.specs.Prelude.{codes, nat_lt}
use Rattle.std.specs.List.{All, AllPairs, slice_range}
use Rattle.std.specs.Str.{IsUtf8, bytes_eq}
use Rattle.std.proofs.lemmas.Bool.{cases_Bool, ltb-true}
use Rattle.std.proofs.lemmas.List.{length-map}
use Rattle.std.proofs.lemmas.List.Elements.{All-nil, All-cons, All-map, All-weaker, All-take, All-drop}
use Rattle.std.proofs.lemmas.List.Kept.{AllPairs-cons}
use Rattle.std.proofs.lemmas.Slice.Eq.{bytes_eq-Decides}
use Rattle.jc_rules.specs.declared.limits.TheConstants.{MAX_REPLICAS, MAX_EVENTS}
use Rattle.jc_rules.specs.declared.version.Version.{Version}
use Rattle.jc_rules.specs.declared.version.Version.TheVariants.{One, Two}
use Rattle.jc_syntax.specs.declared.token.Token.{Token}
use Rattle.jc_syntax.specs.declared.token.TokenKind.TheVariants.{Name, BraceL, BraceR, Semi}
use Rattle.jc_syntax.specs.declared.tree.NamedEvent.{NamedEvent}
use Rattle.jc_syntax.specs.Lexemes.{AreTokensOf, IsTokenOf}
use Rattle.jc_syntax.proofs.LexemesLemmas.{each_token}
use Rattle.jc_grammar.specs.Symbols.{Lexeme, lexemes, symbols}
use Rattle.jc_grammar.specs.SymbolTests.{is_reserved}
use Rattle.jc_grammar.specs.Classes.{is_in}
use Rattle.jc_grammar.specs.Guards.{GuardState, Verdict, refuses, passes, Guard, verdict_of, new_replica, no_event, nothing_seen}
use Rattle.jc_grammar.specs.Grammar.{Grammar, symbol, nothing, ◌then◌, ◌or◌, guarded, repeated, ParseTree, leaves, verdict_at, state_by, state_after}
use Rattle.jc_grammar.specs.Faults.{IsTreeText}
use Rattle.jc_grammar.specs.ScenarioGrammar.{token, keyword, script, closed_script, event, events, block, blocks, replica, body, scenario}
use Rattle.jc_grammar.proofs.LookAheadLemmas.{both_true}
use Rattle.jc_grammar.proofs.LimitsLemmas.{limits_kept}
use Rattle.jc_parser.specs.NamedTrees.{Call, call_of, Part, name_of_part, NamedTree, with_replica_part, tree_of_named}
use Rattle.jc_parser.specs.GrammarTrees.{value_of, event_of_tree, events_of_tree, any_block_of_tree, blocks_of_tree, replica_of_tree, tail_of_tree, body_of_tree, scenario_of_tree}
use Rattle.jc_parser.specs.Scripts.{IsScriptWellFormed}
use Rattle.jc_parser.specs.Events.{IsCallWellFormed, HasCall}
use Rattle.jc_parser.specs.Scenarios.{IsTreeWithin}
use Rattle.jc_parser.specs.LegalSymbols.{IsLegalCall, IsLegalPart, IsLegalTree}
use Rattle.jc_parser.specs.LegalSymbolLaws.{LegalExpressions, LegalScripts, LegalEvents, LegalScriptsAt, LegalEventsAt, LegalScenarios}
use Rattle.jc_parser.proofs.GrammarStatesLemmas.{keeps_names, names_nothing, script_keeps, verdict_at_keeps}
use Rattle.jc_parser.proofs.LegalTokensLemmas.{LegalStrings, symbols_legal}
use Rattle.jc_parser.proofs.LegalTreesLemmas.{AreLegal, Sound, first, second, left, right, guard_passed, name_sound, items_all, items_counted, expression_good, script_good, IsGoodEvent, event_good}

-- ---- blocks of events

abbrev IsGoodBlock : Version → List NamedEvent → Type 0
IsGoodBlock v es = (length es ≤ MAX_EVENTS) × All (IsGoodEvent v) es

events_good : (v : Version) {s : GuardState} (t : ParseTree (events v)) {u : List Lexeme} → Sound (events v) s t u → IsGoodBlock v (events_of_tree v t)
events_good v {s} t {u} k =
    let count = items_counted MAX_EVENTS no_event (event v) (token Semi) (event_of_tree v) t in
    let few = limits_kept.events v s t u k.clear in
    (omega (arith, count, few), items_all (IsGoodEvent v) MAX_EVENTS no_event (event v) (token Semi) (event_of_tree v) (λ s a u own. event_good v a own) t k)

any_block_good : (word : List ℕ) (v : Version) {s : GuardState} (t : ParseTree (block word v or nothing)) {u : List Lexeme} → Sound (block word v or nothing) s t u → IsGoodBlock v (any_block_of_tree word v t)
any_block_good word v (inl t) k = events_good v t.1.1.0 (first (second (second (left k))))
any_block_good word v (inr t) k = (omega arith, All-nil (IsGoodEvent v))

-- a scenario of this version, its given events and its schedule; version 1 has no given events
record AreGoodBlocks (v : Version) (t : NamedTree) : Type 0 where
  version : t.version ≡ v
  first_given : v ≡ One → t.given ≡ []
  given : IsGoodBlock Two t.given
  schedule : IsGoodBlock v t.events

blocks_good : (v : Version) {s : GuardState} (t : ParseTree (blocks v)) {u : List Lexeme} → Sound (blocks v) s t u → AreGoodBlocks v (blocks_of_tree v t)
blocks_good One t k = record { version = refl; first_given = λ same. refl; given = (omega arith, All-nil (IsGoodEvent Two)); schedule = any_block_good (codes "schedule") One t k }
blocks_good Two t k = record {
  version = refl;
  first_given = λ same. absurd cc;
  given = any_block_good (codes "given") Two t.0 (first k);
  schedule = any_block_good (codes "schedule") Two t.1 (second k);
}

-- ---- what the guards remember behind a tree

pub tree_keeps : (g : Grammar) → keeps_names g ≡ true → (s : GuardState) (t : ParseTree g) → (state_after g s t).names ≡ s.names
tree_keeps (symbol c) free s t = refl
tree_keeps nothing free s t = refl
tree_keeps (g then h) free s t =
    let (one, two) = both_true (keeps_names g) (keeps_names h) free in
    tree_keeps h two (state_after g s t.0) t.1 ∙ tree_keeps g one s t.0
tree_keeps (g or h) free s (inl t) = tree_keeps g (both_true (keeps_names g) (keeps_names h) free).0 s t
tree_keeps (g or h) free s (inr t) = tree_keeps h (both_true (keeps_names g) (keeps_names h) free).1 s t
tree_keeps (guarded c g) free s t =
    let (own, one) = both_true (names_nothing c) (keeps_names g) free in
    by_guard c g s t own (λ next. tree_keeps g one next t) (verdict_at c s (leaves g t)) refl
  where
    by_guard : (c : Guard) (g : Grammar) (s : GuardState) (t : ParseTree g) → names_nothing c ≡ true → ((next : GuardState) → (state_after g next t).names ≡ next.names) → (v : Verdict) → verdict_at c s (leaves g t) ≡ v → (state_by v s (λ own. state_after g own t)).names ≡ s.names
    by_guard c g s t own later (refuses e) is = refl
    by_guard c g s t own later (passes next) is = later next ∙ verdict_at_keeps c s (leaves g t) next is own

-- ---- replicas

-- what passes the guard of a replica's name
record IsNewName (s : GuardState) (x : Lexeme) (own : GuardState) : Type 0 where
  free : is_reserved (value_of x) ≡ false
  new : is_in (value_of x) s.names ≡ false
  room : length s.names < MAX_REPLICAS
  names : own.names ≡ value_of x ∷ s.names

same_state : (s own : GuardState) → passes s ≡ passes own → own ≡ s
same_state s own h = cc

new_name : (s : GuardState) (x : Lexeme) (own : GuardState) → verdict_of (new_replica MAX_REPLICAS) s x ≡ passes own → IsNewName s x own
new_name s x own h =
    elim (cases_Bool (is_reserved (value_of x))) [
      | inl taken ↦ let bad = rw taken at h in absurd cc
      | inr free ↦
          elim (cases_Bool (is_in (value_of x) s.names)) [
            | inl known ↦ let bad = rw (free, known) at h in absurd cc
            | inr new ↦
                elim (cases_Bool (nat_lt (length s.names) MAX_REPLICAS)) [
                  | inl room ↦
                      let same = same_state (record s { names = value_of x ∷ s.names }) own (rw (free, new, room) at h) in
                      record { free = free; new = new; room = ltb-true (length s.names) MAX_REPLICAS room; names = ap (λ (q : GuardState). q.names) same }
                  | inr full ↦ let bad = rw (free, new, full) at h in absurd cc
                ]
          ]
    ]

-- a replica that is none of these, and what is remembered behind it
record IsGoodReplica (s : GuardState) (t : ParseTree replica) : Type 0 where
  own : GuardState
  name : IsNewName s t.0 own
  script : IsScriptWellFormed (replica_of_tree t).script
  legal : IsLegalPart (replica_of_tree t)
  names : (state_after replica s t).names ≡ (replica_of_tree t).name ∷ s.names

abbrev named_by : Grammar
named_by = guarded (new_replica MAX_REPLICAS) (token Name)

state_named : (s own : GuardState) (x : Lexeme) → verdict_of (new_replica MAX_REPLICAS) s x ≡ passes own → state_after named_by s x ≡ own
state_named s own x h = rw h refl

replica_good : {s : GuardState} (t : ParseTree replica) {u : List Lexeme} → Sound replica s t u → IsGoodReplica s t
replica_good {s} t k =
    let p = guard_passed (first k) in
    let name = new_name s t.0 p.own p.passed in
    let (formed, legal) = script_good t.1.1.0 (first (second (second k))) in
    let behind = tree_keeps (token BraceL then closed_script) (rw script_keeps refl) (state_after named_by s t.0) t.1 in
    record {
      own = p.own;
      name = name;
      script = formed;
      legal = (name_sound p.sound, legal);
      names = behind ∙ ap (λ (q : GuardState). q.names) (state_named s p.own t.0 p.passed) ∙ name.names;
    }

-- replicas that are none of these, and no two of one name
abbrev AreNew : List (List ℕ) → List Part → Type 0
AreNew names [] = Unit {0}
AreNew names (p ∷ ps) =
    (is_reserved p.name ≡ false) × (is_in p.name names ≡ false) × IsScriptWellFormed p.script × IsLegalPart p × AreNew (p.name ∷ names) ps

record IsGoodTail (v : Version) (names : List (List ℕ)) (t : NamedTree) : Type 0 where
  parts : AreNew names t.parts
  few : length names + length t.parts ≤ MAX_REPLICAS
  blocks : AreGoodBlocks v t

-- one replica before a tail
tail_with : (v : Version) (s : GuardState) (r : ParseTree replica) (names : List (List ℕ)) (t : NamedTree) → IsGoodReplica s r → names ≡ (replica_of_tree r).name ∷ s.names → IsGoodTail v names t → IsGoodTail v s.names (with_replica_part (replica_of_tree r) t)
tail_with v s r names t own is tail =
    let count : length names ≡ suc (length s.names) = ap length is in
    record {
      parts = (own.name.free, own.name.new, own.script, own.legal, subst (λ (ns : List (List ℕ)). AreNew ns t.parts) is tail.parts);
      few = let few = tail.few in omega (arith, few, count);
      blocks = record { version = tail.blocks.version; first_given = tail.blocks.first_given; given = tail.blocks.given; schedule = tail.blocks.schedule };
    }

own_name : (name : List ℕ) (names : List (List ℕ)) → is_in name (name ∷ names) ≡ true
own_name name names = rw ((bytes_eq-Decides name name).1 refl) refl

-- one replica past the limit is refused
no_replica_past : {s : GuardState} {t : ParseTree replica} {u : List Lexeme} → Sound (guarded (new_replica MAX_REPLICAS) replica) s t u → ⊥
no_replica_past {s} {t} {u} k =
    let p = guard_passed k in
    let name = new_name s t.0 p.own p.passed in
    let again = replica_good t p.sound in
    let none : is_in (value_of t.0) p.own.names ≡ false = again.name.new in
    let known : is_in (value_of t.0) p.own.names ≡ true = rw name.names (own_name (value_of t.0) s.names) in
    let bad : true ≡ false = sym known ∙ none in
    cc

no_parts : (v : Version) (names : List (List ℕ)) (t : ParseTree (blocks v)) → AreNew names (blocks_of_tree v t).parts
no_parts One names t = tt
no_parts Two names t = tt

none_more : (v : Version) (names : List (List ℕ)) (t : ParseTree (blocks v)) → length names ≤ MAX_REPLICAS → length names + length (blocks_of_tree v t).parts ≤ MAX_REPLICAS
none_more One names t few = omega (arith, few)
none_more Two names t few = omega (arith, few)

tail_good : (v : Version) (n : ℕ) {s : GuardState} (t : ParseTree (repeated n (new_replica MAX_REPLICAS) (keyword (codes "replica")) replica (blocks v))) {u : List Lexeme} → length s.names ≤ MAX_REPLICAS → Sound (repeated n (new_replica MAX_REPLICAS) (keyword (codes "replica")) replica (blocks v)) s t u → IsGoodTail v s.names (tail_of_tree v n t)
unfolding repeated tail_of_tree
tail_good v zero (inl t) few k = absurd (no_replica_past (second (left k)))
tail_good v zero {s} (inr t) few k = record { parts = no_parts v s.names t; few = none_more v s.names t few; blocks = blocks_good v t (right k) }
tail_good v (suc n) {s} (inl (lead, (own, more))) few k =
    let r = replica_good own (first (second (left k))) in
    let count : length (state_after replica s own).names ≡ suc (length s.names) = ap length r.names in
    let room = r.name.room in
    tail_with v s own (state_after replica s own).names (tail_of_tree v n more) r r.names (tail_good v n more (omega (arith, count, room)) (second (second (left k))))
tail_good v (suc n) {s} (inr t) few k = record { parts = no_parts v s.names t; few = none_more v s.names t few; blocks = blocks_good v t (right k) }

-- ---- scenarios

abbrev Differ : List ℕ → List ℕ → Type 0
Differ a b = a ≢ b

-- a name that is among them is none of the new ones
apart_from : (names : List (List ℕ)) (x : List ℕ) (ps : List Part) → AreNew names ps → is_in x names ≡ true → All (Differ x) (map name_of_part ps)
apart_from names x [] h some = All-nil (Differ x)
apart_from names x (p ∷ ps) (free, new, formed, legal, rest) some =
    All-cons (Differ x) p.name (map name_of_part ps) (λ same. (let bad : true ≡ false = sym some ∙ ap (λ (n : List ℕ). is_in n names) same ∙ new in absurd cc))
    (apart_from (p.name ∷ names) x ps rest (among_more x p.name names some))
  where
    among_more : (x y : List ℕ) (names : List (List ℕ)) → is_in x names ≡ true → is_in x (y ∷ names) ≡ true
    among_more x y names some =
        elim (cases_Bool (bytes_eq x y)) [
          | inl is ↦ rw is refl
          | inr other ↦ rw (other, some) refl
        ]

apart : (names : List (List ℕ)) (ps : List Part) → AreNew names ps → AllPairs Differ (map name_of_part ps)
apart names [] h = λ i j d less within. absurd (omega (arith, within))
apart names (p ∷ ps) (free, new, formed, legal, rest) =
    AllPairs-cons Differ p.name (map name_of_part ps) (apart_from (p.name ∷ names) p.name ps rest (own_name p.name names)) (apart (p.name ∷ names) ps rest)

each_new : (P : Part → Type 0) → ((names : List (List ℕ)) (p : Part) (ps : List Part) → AreNew names (p ∷ ps) → P p) → (names : List (List ℕ)) (ps : List Part) → AreNew names ps → All P ps
each_new P own names [] h = All-nil P
each_new P own names (p ∷ ps) h = All-cons P p ps (own names p ps h) (each_new P own (p.name ∷ names) ps h.4)

calls : (P : Call → Type 0) (v : Version) (es : List NamedEvent) → ((e : NamedEvent) → IsGoodEvent v e → P (call_of e)) → All (IsGoodEvent v) es → All P (map call_of es)
calls P v es own all = All-map P call_of es (All-weaker (IsGoodEvent v) (λ e. P (call_of e)) own es all)

tree_good : (v : Version) (t : NamedTree) → (t.parts ≢ []) → IsGoodTail v [] t → IsTreeWithin (tree_of_named t) × IsLegalTree (tree_of_named t)
tree_good v t some tail =
    let given = tail.blocks.given in
    let schedule = tail.blocks.schedule in
    let given_count = length-map t.given call_of in
    let count = length-map t.events call_of in (
      record {
        parts = record {
          some = some;
          free = each_new (λ p. is_reserved p.name ≡ false) (λ names p ps h. h.0) [] t.parts tail.parts;
          apart = apart [] t.parts tail.parts;
          few = let few = tail.few in omega (arith, few);
          scripts = each_new (λ p. IsScriptWellFormed p.script) (λ names p ps h. h.2) [] t.parts tail.parts;
        };
        first_given = λ one. ap (map call_of) (tail.blocks.first_given (sym tail.blocks.version ∙ one));
        few_given = let few = given.0 in omega (arith, few, given_count);
        given = calls IsCallWellFormed Two t.given (λ e h. h.0) given.1;
        few = let few = schedule.0 in omega (arith, few, count);
        calls = calls IsCallWellFormed v t.events (λ e h. h.0) schedule.1;
        allowed = subst (λ (w : Version). All (HasCall w) (map call_of t.events)) (sym tail.blocks.version) (calls (HasCall v) v t.events (λ e h. h.2) schedule.1);
      },
      (each_new IsLegalPart (λ names p ps h. h.3) [] t.parts tail.parts, calls IsLegalCall Two t.given (λ e h. h.1) given.1, calls IsLegalCall v t.events (λ e h. h.1) schedule.1),
    )

body_good : (v : Version) {s : GuardState} (t : ParseTree (body v)) {u : List Lexeme} → s.names ≡ [] → Sound (body v) s t u → IsTreeWithin (tree_of_named (body_of_tree v t)) × IsLegalTree (tree_of_named (body_of_tree v t))
body_good v {s} (lead, (own, more)) none k =
    let r = replica_good own (first (second k)) in
    let count : length (state_after replica s own).names ≡ suc (length s.names) = ap length r.names in
    let room = r.name.room in
    let tail = tail_good v (MAX_REPLICAS - 1) more (omega (arith, count, room)) (second (second k)) in
    tree_good v (with_replica_part (replica_of_tree own) (tail_of_tree v (MAX_REPLICAS - 1) more)) (λ bad. cc)
    (subst (λ (ns : List (List ℕ)). IsGoodTail v ns (with_replica_part (replica_of_tree own) (tail_of_tree v (MAX_REPLICAS - 1) more))) none
    (tail_with v s own (state_after replica s own).names (tail_of_tree v (MAX_REPLICAS - 1) more) r r.names tail))

scenario_good : (t : ParseTree scenario) {u : List Lexeme} → Sound scenario nothing_seen t u → IsTreeWithin (tree_of_named (scenario_of_tree t)) × IsLegalTree (tree_of_named (scenario_of_tree t))
scenario_good (mark, inl t) k = body_good One t.1 refl (second (left (second k)))
scenario_good (mark, inr t) k = body_good Two t.1 refl (second (right (second k)))

-- ---- texts

-- the tree of legal symbols
sound : {g : Grammar} {t : ParseTree g} {ls : List Lexeme} → AreLegal (symbols ls) → IsTreeText g nothing_seen t None ls → Sound g nothing_seen t []
sound legal (fits, none, text) = record { fits = fits; clear = none; legal = subst (λ (l : List Lexeme). AreLegal (symbols l)) (sym text) legal }

text_legal : LegalStrings → (text : List ℕ) (ts : List Token) → IsUtf8 text → AreTokensOf text ts → AreLegal (symbols (lexemes text ts))
text_legal strings text ts utf8 (short, place, are, ended) = symbols_legal strings text ts utf8 (each_token text 0 place ts short are)

part_legal : LegalStrings → (text : List ℕ) (ts : List Token) (from next : ℕ) → IsUtf8 text → All (IsTokenOf text) ts → AreLegal (symbols (lexemes text (slice_range ts from next)))
part_legal strings text ts from next utf8 each = symbols_legal strings text (slice_range ts from next) utf8 (All-take (IsTokenOf text) _ _ (All-drop (IsTokenOf text) from ts each))

pub expressions_legal : LegalStrings → LegalExpressions
expressions_legal strings text e utf8 is = rw is.sentence.is (expression_good is.sentence.tree (sound (text_legal strings text is.tokens utf8 is.lexed) is.sentence.text))

pub scripts_legal : LegalStrings → LegalScripts
scripts_legal strings text commands utf8 is = rw is.sentence.is (script_good is.sentence.tree (sound (text_legal strings text is.tokens utf8 is.lexed) is.sentence.text))

pub events_legal : LegalStrings → LegalEvents
events_legal strings v text e utf8 is = let good = event_good v is.sentence.tree (sound (text_legal strings text is.tokens utf8 is.lexed) is.sentence.text) in rw is.sentence.is (good.0, good.1)

pub scripts_at_legal : LegalStrings → LegalScriptsAt
scripts_at_legal strings text ts from brace commands utf8 each is = rw is.closed.is (script_good is.closed.tree.0 (first {g = script} {h = token BraceR} {t = is.closed.tree} (sound (part_legal strings text ts from (brace + 1) utf8 each) is.closed.text)))

pub events_at_legal : LegalStrings → LegalEventsAt
events_at_legal strings v text ts from e next utf8 each is = let good = event_good v is.event.tree (sound (part_legal strings text ts from next utf8 each) is.event.text) in rw is.event.is (good.0, good.1)

pub scenarios_legal : LegalStrings → LegalScenarios
scenarios_legal strings text ts t utf8 each is = rw is.is (scenario_good is.tree (sound (symbols_legal strings text ts utf8 each) is.text))
