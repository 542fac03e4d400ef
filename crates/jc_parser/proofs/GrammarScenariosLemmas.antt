-- About `Scenarios`: the readers of scenarios read what the grammar's reader reads, and so what is read is the scenario.
use Rattle.std.proofs.Common.{◌≡◌, ℕ, zero, suc, ◌+◌, ◌-◌, ◌≤◌, inl, inr, Bool, true, false, ◌||◌, List, [], ◌∷◌, ◌++◌, length, Ok, Err, refl, sym, ap, ◌∙◌, arith}
use Rattle.std.specs.Prelude.{codes, nat_lt}
use Rattle.std.specs.Str.{bytes_eq}
use Rattle.std.proofs.lemmas.Bool.{cases_Bool, lt-ltb, le-ltb}
use Rattle.std.proofs.lemmas.Slice.Eq.{bytes_eq-Decides}
use Rattle.jc_rules.specs.Syntax.{Cmd}
use Rattle.jc_rules.specs.declared.limits.TheConstants.{MAX_REPLICAS, MAX_EVENTS}
use Rattle.jc_rules.specs.declared.refusal.Refusal.TheVariants as refusals
use Rattle.jc_rules.specs.declared.version.Version.{Version}
use Rattle.jc_rules.specs.declared.version.Version.TheVariants.{One, Two}
use Rattle.jc_syntax.specs.declared.token.TokenKind.TheVariants.{Name, BraceL, BraceR}
use Rattle.jc_grammar.specs.Symbols.{Symbol, word, number, Lexeme}
use Rattle.jc_grammar.specs.SymbolTests.{has_kind, is_word, is_number_symbol, is_reserved}
use Rattle.jc_grammar.specs.Classes.{is_in}
use Rattle.jc_grammar.specs.Guards.{GuardState, TextFault, Misfit, nothing_seen, new_replica, no_event}
use Rattle.jc_grammar.specs.Grammar.{Grammar, nothing, ◌then◌, ◌or◌, guarded, ParseTree, repeated}
use Rattle.jc_grammar.specs.TreeReader.{TreeOutcome, ◌⟫◌, with_tree, pair_of, whole_of, read_tree, read_whole}
use Rattle.jc_grammar.specs.ScenarioGrammar.{token, keyword, closed_script, event, events, block, blocks, replica, scenario, misfit_at, header_misfit, scenario_misfit}
use Rattle.jc_grammar.specs.Limits.{either}
use Rattle.jc_grammar.proofs.ScenarioGrammarLemmas.{scenarios_decided}
use Rattle.jc_parser.specs.declared.fault.ScenarioFault.TheVariants.{TooManyEvents}
use Rattle.jc_parser.specs.ReaderState.{Reading, ReadOutcome, ◌>>=◌, place, one, skip, named_at}
use Rattle.jc_parser.specs.PartReaders.{version_at, front_at, result_of_read}
use Rattle.jc_parser.specs.ScriptReader.{closed_script_at}
use Rattle.jc_parser.specs.ScenarioReader.{is_among, other_name_at, new_name_at, body_at, part_at, events_at, block_at, any_block_at, given_at, blocks_at, too_many_replicas_at, tail_at, rest_at, tree_at}
use Rattle.jc_parser.specs.GrammarTrees.{value_of, closed_script_of_tree, events_of_tree, block_of_tree, any_block_of_tree, blocks_of_tree, replica_of_tree, tail_of_tree, scenario_of_tree}
use Rattle.jc_parser.proofs.GrammarAgreesLemmas.{reading, at_place, fault_as, given, given_with, given_map, Agrees, agrees_map, then_same, agrees_then, agrees_or, agrees_mark, agrees_word, agrees_nothing, agrees_as, or_false}
use Rattle.jc_parser.proofs.GrammarEventsLemmas.{agrees_event}
use Rattle.jc_parser.proofs.GrammarListsLemmas.{RefusesWith, AlwaysBeginsBy, agrees_listed}
use Rattle.jc_parser.proofs.GrammarScriptsLemmas.{agrees_closed_script}
use Rattle.jc_parser.proofs.GrammarStatesLemmas.{ok_bind, same_ok, ok_with, read_keeps, script_keeps, AgreeTo, same_read}
use Rattle.jc_parser.specs.Scenarios.{NamedTree, tree, with_replica_part, IsNamedTree, IsTreeFault}
use Rattle.jc_parser.proofs.GuardsLemmas.{IsTold, misfit_told}
use Rattle.jc_parser.proofs.SentencesLemmas.{IsExactly, exactly_so, reads_exactly, given_whole}

-- ---- blocks of events

event_first : (v : Version) → AlwaysBeginsBy (event v) (has_kind Name)
event_first v cs s = or_false (has_kind Name s)

crowd : RefusesWith no_event (λ s. TooManyEvents (place s))
crowd stop s x xs = (_, refl, refl)

agrees_events : (v : Version) → Agrees (events v) (events_of_tree v) (events_at v MAX_EVENTS)
agrees_events v = agrees_listed MAX_EVENTS no_event (has_kind Name) (λ s. TooManyEvents (place s)) (event_first v) crowd (agrees_event v)

agrees_block : (name : List ℕ) (v : Version) → Agrees (block name v) (block_of_tree name v) (block_at name v MAX_EVENTS)
unfolding block_at
agrees_block name v =
    agrees_then (λ t u. events_of_tree v u.1.0) (λ _ r. skip (has_kind BraceL) r >>= λ b. events_at v MAX_EVENTS b.1 >>= λ es. skip (has_kind BraceR) es.1 >>= λ c. Ok (es.0, c.1)) (agrees_word name)
    (λ t. agrees_then (λ u w. events_of_tree v w.0) (λ _ r. events_at v MAX_EVENTS r >>= λ es. skip (has_kind BraceR) es.1 >>= λ c. Ok (es.0, c.1)) (agrees_mark BraceL)
    (λ u. agrees_then (λ w x. events_of_tree v w) (λ es r. skip (has_kind BraceR) r >>= λ c. Ok (es, c.1)) (agrees_events v) (λ w. agrees_map (λ x. events_of_tree v w) (agrees_mark BraceR))))

same_any_block : (name : List ℕ) (v : Version) (t : ParseTree (block name v or nothing)) → either (block_of_tree name v) (λ _. []) t ≡ any_block_of_tree name v t
same_any_block name v (inl t) = refl
same_any_block name v (inr t) = refl

agrees_any_block : (name : List ℕ) (v : Version) → Agrees (block name v or nothing) (any_block_of_tree name v) (any_block_at name v MAX_EVENTS)
unfolding any_block_at
agrees_any_block name v = agrees_as (any_block_of_tree name v) (same_any_block name v) (agrees_or (is_word name) (λ s. or_false (is_word name s)) (agrees_block name v) (agrees_nothing []))

agrees_blocks : (v : Version) → Agrees (blocks v) (blocks_of_tree v) (blocks_at v MAX_EVENTS)
unfolding blocks_at given_at
agrees_blocks One = agrees_map (λ es. tree One [] [] es) (agrees_any_block (codes "schedule") One)
agrees_blocks Two =
    agrees_then (λ t u. tree Two [] (any_block_of_tree (codes "given") Two t) (any_block_of_tree (codes "schedule") Two u)) (λ g r. any_block_at (codes "schedule") Two MAX_EVENTS r >>= λ s. Ok (tree Two [] g s.0, s.1)) (agrees_any_block (codes "given") Two)
    (λ t. agrees_map (λ es. tree Two [] (any_block_of_tree (codes "given") Two t) es) (agrees_any_block (codes "schedule") Two))

-- ---- names of replicas

-- the guards remember these names, in another order
record Remembers (s : GuardState) (names : List (List ℕ)) : Type 0 where
  known : (name : List ℕ) → is_in name s.names ≡ is_among names name
  count : length s.names ≡ length names

or_last : (a b c : Bool) → (a || (b || c)) ≡ (b || (a || c))
or_last true true c = refl
or_last true false c = refl
or_last false b c = refl

among_last : (name own : List ℕ) (names : List (List ℕ)) → (bytes_eq name own || is_among names name) ≡ is_among (names ++ own ∷ []) name
among_last name own [] = refl
among_last name own (n ∷ names) = or_last (bytes_eq name own) (bytes_eq name n) (is_among names name) ∙ ap (λ b. bytes_eq name n || b) (among_last name own names)

one_more : (names : List (List ℕ)) (own : List ℕ) → length (names ++ own ∷ []) ≡ suc (length names)
one_more [] own = refl
one_more (n ∷ names) own = ap suc (one_more names own)

remembers_more : (s next : GuardState) (names : List (List ℕ)) (own : List ℕ) → Remembers s names → next.names ≡ own ∷ s.names → Remembers next (names ++ own ∷ [])
remembers_more s next names own r same = record {
  known = λ name. ap (is_in name) same ∙ ap (λ b. bytes_eq name own || b) (r.known name) ∙ among_last name own names;
  count = ap length same ∙ ap suc r.count ∙ sym (one_more names own);
}

abbrev new_name : Grammar
new_name = guarded (new_replica MAX_REPLICAS) (token Name)

name_first : (stop place : ℕ) (s : GuardState) (names : List (List ℕ)) (t : Symbol) (xs : List Lexeme) → Remembers s names → nat_lt (length s.names) 64 ≡ true
    → new_name_at names (reading stop (at_place place t ∷ xs)) ≡ given value_of stop (read_tree new_name (misfit_at stop) s (at_place place t ∷ xs))
unfolding new_name_at other_name_at named_at one
name_first stop place s names (word w) xs r room =
    elim (cases_Bool (is_reserved w)) [
      | inl taken ↦ rw taken refl
      | inr free ↦
          elim (cases_Bool (is_among names w)) [
            | inl known ↦ rw (free, r.known w, known) refl
            | inr other ↦ rw (free, r.known w, other, room) refl
          ]
    ]
name_first stop place s names t xs r room = refl

name_same : (stop : ℕ) (s : GuardState) (names : List (List ℕ)) (ls : List Lexeme) → Remembers s names → nat_lt (length s.names) 64 ≡ true → new_name_at names (reading stop ls) ≡ given value_of stop (read_tree new_name (misfit_at stop) s ls)
unfolding new_name_at other_name_at named_at one
name_same stop s names [] r room = refl
name_same stop s names (x ∷ xs) r room = name_first stop x.place s names x.symbol xs r room

-- what the guard remembers of a name
name_kept : (misfit : Misfit) (s : GuardState) (ls : List Lexeme) (x : Lexeme) (own : GuardState) (rest : List Lexeme) → read_tree new_name misfit s ls ≡ Ok (x, own, rest) → own.names ≡ value_of x ∷ s.names
name_kept misfit s [] x own rest h = absurd cc
name_kept misfit s (y ∷ ys) x own rest h = by_symbol y.place y.symbol h
  where
    by_symbol : (at : ℕ) (t : Symbol) → read_tree new_name misfit s (at_place at t ∷ ys) ≡ Ok (x, own, rest) → own.names ≡ value_of x ∷ s.names
    by_symbol at (word w) h =
        elim (cases_Bool (is_reserved w)) [
          | inl taken ↦ let bad = rw taken at h in absurd cc
          | inr free ↦
              elim (cases_Bool (is_in w s.names)) [
                | inl known ↦ let bad = rw (free, known) at h in absurd cc
                | inr other ↦
                    elim (cases_Bool (nat_lt (length s.names) 64)) [
                      | inl room ↦
                          let all = same_ok (at_place at (word w), record s { names = w ∷ s.names }, ys) (x, own, rest) (rw (free, other, room) at h) in
                          sym (ap (λ (q : Lexeme × GuardState × List Lexeme). q.1.names) all) ∙ ap (λ (q : Lexeme × GuardState × List Lexeme). value_of q.0 ∷ s.names) all
                      | inr full ↦ let bad = rw (free, other, full) at h in absurd cc
                    ]
              ]
        ]
    by_symbol at t h = absurd cc

-- ---- a replica

abbrev behind_name : Grammar
behind_name = token BraceL then closed_script

agrees_behind_name : Agrees behind_name (λ t. closed_script_of_tree t.1) body_at
unfolding body_at
agrees_behind_name = agrees_then (λ t u. closed_script_of_tree u) (λ _ r. closed_script_at r) (agrees_mark BraceL) (λ t. agrees_closed_script)

part_same : (stop : ℕ) (s : GuardState) (names : List (List ℕ)) (ls : List Lexeme) → Remembers s names → nat_lt (length s.names) 64 ≡ true → part_at names (reading stop ls) ≡ given replica_of_tree stop (read_tree replica (misfit_at stop) s ls)
unfolding part_at
part_same stop s names ls r room =
    rw (name_same stop s names ls r room)
    (then_same behind_name (λ (x : Lexeme) (u : ParseTree behind_name). record { name = value_of x; script = closed_script_of_tree u.1 }) (λ n q. body_at q >>= λ commands. Ok (record { name = n; script = commands.0 }, commands.1)) stop (read_tree new_name (misfit_at stop) s ls)
    (λ x own rest read. (agrees_map (λ (commands : List Cmd). record { name = value_of x; script = commands }) agrees_behind_name).same stop own rest))

part_kept : (misfit : Misfit) (s : GuardState) (names : List (List ℕ)) (ls : List Lexeme) (t : ParseTree replica) (own : GuardState) (rest : List Lexeme) → Remembers s names → read_tree replica misfit s ls ≡ Ok (t, own, rest) → Remembers own (names ++ (replica_of_tree t).name ∷ [])
part_kept misfit s names ls t own rest r h =
    let (a, first, more) = ok_bind (read_tree new_name misfit s ls) (λ a. read_tree behind_name misfit a.1 a.2 ⟫ with_tree (pair_of a.0)) (t, own, rest) h in
    let (b, second, same) = ok_with (read_tree behind_name misfit a.1 a.2) (pair_of a.0) t own rest more in
    let kept : own.names ≡ a.1.names = (read_keeps behind_name misfit a.1 a.2 b own rest second).1 (rw script_keeps refl) in
    let own_name : value_of a.0 ≡ value_of t.0 = ap (λ (u : ParseTree replica). value_of u.0) same in
    remembers_more s own names (value_of t.0) r (kept ∙ name_kept misfit s ls a.0 a.1 a.2 first ∙ ap (λ (n : List ℕ). n ∷ s.names) own_name)

-- ---- replicas, and the blocks behind them

full_first : {A : Type 0} (view : ParseTree replica → A) (stop place : ℕ) (s : GuardState) (names : List (List ℕ)) (t : Symbol) (xs : List Lexeme) → Remembers s names → nat_lt (length s.names) 64 ≡ false
    → Err (too_many_replicas_at names (reading stop (at_place place t ∷ xs))) ≡ given view stop (read_tree (guarded (new_replica MAX_REPLICAS) replica) (misfit_at stop) s (at_place place t ∷ xs))
full_first view stop place s names (word w) xs r full =
    elim (cases_Bool (is_reserved w)) [
      | inl taken ↦ rw taken refl
      | inr free ↦
          elim (cases_Bool (is_among names w)) [
            | inl known ↦ rw (free, r.known w, known) refl
            | inr other ↦ rw (free, r.known w, other, full) refl
          ]
    ]
full_first view stop place s names t xs r full = refl

full_same : {A : Type 0} (view : ParseTree replica → A) (stop : ℕ) (s : GuardState) (names : List (List ℕ)) (ls : List Lexeme) → Remembers s names → nat_lt (length s.names) 64 ≡ false
    → Err (too_many_replicas_at names (reading stop ls)) ≡ given view stop (read_tree (guarded (new_replica MAX_REPLICAS) replica) (misfit_at stop) s ls)
full_same view stop s names [] r full = refl
full_same view stop s names (x ∷ xs) r full = full_first view stop x.place s names x.symbol xs r full

abbrev is_replica : Symbol → Bool
is_replica s = is_word (codes "replica") s

abbrev more : Version → ℕ → Grammar
more v n = repeated n (new_replica MAX_REPLICAS) (keyword (codes "replica")) replica (blocks v)

-- a replica and those behind it
next_same : (v : Version) (n stop : ℕ) (s : GuardState) (names : List (List ℕ)) (ls : List Lexeme) → Remembers s names → length names + suc n ≡ 64
    → ((own : GuardState) (others : List (List ℕ)) (rest : List Lexeme) → Remembers own others → length others + n ≡ 64 → tail_at v MAX_EVENTS n others (reading stop rest) ≡ given (tail_of_tree v n) stop (read_tree (more v n) (misfit_at stop) own rest))
    → (part_at names (reading stop ls) >>= λ p. tail_at v MAX_EVENTS n (names ++ p.0.name ∷ []) p.1 >>= λ t. Ok (with_replica_part p.0 t.0, t.1))
    ≡ given (λ (t : ParseTree (replica then more v n)). with_replica_part (replica_of_tree t.0) (tail_of_tree v n t.1)) stop (read_tree (replica then more v n) (misfit_at stop) s ls)
next_same v n stop s names ls r count tail =
    let same : length s.names ≡ length names = r.count in
    rw (part_same stop s names ls r (lt-ltb (length s.names) 64 (omega (arith, count, same))))
    (then_same (more v n) (λ (p : ParseTree replica) (t : ParseTree (more v n)). with_replica_part (replica_of_tree p) (tail_of_tree v n t))
    (λ p q. tail_at v MAX_EVENTS n (names ++ p.name ∷ []) q >>= λ t. Ok (with_replica_part p t.0, t.1)) stop (read_tree replica (misfit_at stop) s ls)
    (λ p own rest read.
    let longer : length (names ++ (replica_of_tree p).name ∷ []) ≡ suc (length names) = one_more names (replica_of_tree p).name in
    rw (tail own (names ++ (replica_of_tree p).name ∷ []) rest (part_kept (misfit_at stop) s names ls p own rest r read) (omega (arith, count, longer)))
    (given_map (with_replica_part (replica_of_tree p)) (tail_of_tree v n) stop (read_tree (more v n) (misfit_at stop) own rest))))

tail_same : (v : Version) (n stop : ℕ) (s : GuardState) (names : List (List ℕ)) (ls : List Lexeme) → Remembers s names → length names + n ≡ 64 → tail_at v MAX_EVENTS n names (reading stop ls) ≡ given (tail_of_tree v n) stop (read_tree (more v n) (misfit_at stop) s ls)
unfolding repeated tail_of_tree tail_at one
tail_same v zero stop s names [] r count = (agrees_blocks v).same stop s [] ∙ given_with (λ b. inr b) (tail_of_tree v zero) stop (read_tree (blocks v) (misfit_at stop) s [])
tail_same v zero stop s names (x ∷ xs) r count =
    elim (cases_Bool (is_replica x.symbol)) [
      | inl fits ↦
          let same : length s.names ≡ length names = r.count in
          let view : ParseTree replica → NamedTree = λ p. tree v (replica_of_tree p ∷ []) [] [] in
          rw fits
          (full_same view stop s names xs r (le-ltb (length s.names) 64 (omega (arith, count, same)))
          ∙ given_with (pair_of x) (λ (t : Lexeme × ParseTree replica). view t.1) stop (read_tree (guarded (new_replica MAX_REPLICAS) replica) (misfit_at stop) s xs)
          ∙ given_with (λ a. inl a) (tail_of_tree v zero) stop (read_tree (guarded (new_replica MAX_REPLICAS) replica) (misfit_at stop) s xs ⟫ with_tree (pair_of x)))
      | inr other ↦ rw other ((agrees_blocks v).same stop s (x ∷ xs) ∙ given_with (λ b. inr b) (tail_of_tree v zero) stop (read_tree (blocks v) (misfit_at stop) s (x ∷ xs)))
    ]
tail_same v (suc n) stop s names [] r count = (agrees_blocks v).same stop s [] ∙ given_with (λ b. inr b) (tail_of_tree v (suc n)) stop (read_tree (blocks v) (misfit_at stop) s [])
tail_same v (suc n) stop s names (x ∷ xs) r count =
    elim (cases_Bool (is_replica x.symbol)) [
      | inl fits ↦
          rw fits
          (next_same v n stop s names xs r count (λ own others rest known counted. tail_same v n stop own others rest known counted)
          ∙ given_with (pair_of x) (λ (t : Lexeme × ParseTree (replica then more v n)). with_replica_part (replica_of_tree t.1.0) (tail_of_tree v n t.1.1)) stop (read_tree (replica then more v n) (misfit_at stop) s xs)
          ∙ given_with (λ a. inl a) (tail_of_tree v (suc n)) stop (read_tree (replica then more v n) (misfit_at stop) s xs ⟫ with_tree (pair_of x)))
      | inr other ↦ rw other ((agrees_blocks v).same stop s (x ∷ xs) ∙ given_with (λ b. inr b) (tail_of_tree v (suc n)) stop (read_tree (blocks v) (misfit_at stop) s (x ∷ xs)))
    ]

abbrev behind_front : Version → Grammar
behind_front v = replica then more v (MAX_REPLICAS - 1)

abbrev behind_front_of_tree : (v : Version) → ParseTree (behind_front v) → NamedTree
behind_front_of_tree v t = with_replica_part (replica_of_tree t.0) (tail_of_tree v (MAX_REPLICAS - 1) t.1)

rest_same : (v : Version) (stop : ℕ) (ls : List Lexeme) → rest_at v MAX_EVENTS (MAX_REPLICAS - 1) (reading stop ls) ≡ given (behind_front_of_tree v) stop (read_tree (behind_front v) (misfit_at stop) nothing_seen ls)
unfolding rest_at
rest_same v stop ls = next_same v 63 stop nothing_seen [] ls (record { known = λ name. refl; count = refl }) refl (λ own others rest known counted. tail_same v 63 stop own others rest known counted)

-- ---- the header, and the misfits behind it

first_misfit : (stop : ℕ) (x : Lexeme) (xs : List Lexeme) → scenario_misfit stop (x ∷ xs) (x ∷ xs) ≡ record { refusal = refusals.NoHeader; offset = x.place }
first_misfit stop x xs = let none : length (x ∷ xs) - length (x ∷ xs) ≡ 0 = omega arith in ap (λ k. header_misfit k stop (x ∷ xs)) none

second_misfit : (stop : ℕ) (a x : Lexeme) (xs : List Lexeme) → scenario_misfit stop (a ∷ x ∷ xs) (x ∷ xs) ≡ record { refusal = refusals.NoHeader; offset = x.place }
second_misfit stop a x xs = let single : length (a ∷ x ∷ xs) - length (x ∷ xs) ≡ 1 = omega arith in ap (λ k. header_misfit k stop (x ∷ xs)) single

third_misfit : (stop : ℕ) (a b x : Lexeme) (xs : List Lexeme) → scenario_misfit stop (a ∷ b ∷ x ∷ xs) (x ∷ xs) ≡ record { refusal = refusals.NoReplica; offset = x.place }
third_misfit stop a b x xs = let both : length (a ∷ b ∷ x ∷ xs) - length (x ∷ xs) ≡ 2 = omega arith in ap (λ k. header_misfit k stop (x ∷ xs)) both

late_misfit : (k stop : ℕ) (after : List Lexeme) → 3 ≤ k → header_misfit k stop after ≡ misfit_at stop after
late_misfit zero stop after late = absurd (omega (arith, late))
late_misfit (suc zero) stop after late = absurd (omega (arith, late))
late_misfit (suc (suc zero)) stop after late = absurd (omega (arith, late))
late_misfit (suc (suc (suc n))) stop after late = refl

later_misfits : (stop : ℕ) (a b c : Lexeme) (xs : List Lexeme) → AgreeTo (scenario_misfit stop (a ∷ b ∷ c ∷ xs)) (misfit_at stop) xs
later_misfits stop a b c xs = λ after less. late_misfit (length (a ∷ b ∷ c ∷ xs) - length after) stop after (omega (arith, less))

-- all that is behind the front, and nothing more
whole_behind : {T U X : Type 0} (v : Version) (stop : ℕ) (misfit : Misfit) (xs : List Lexeme) → AgreeTo misfit (misfit_at stop) xs → (f : ParseTree (behind_front v) → T) (g : T → U) (h : U → X) (k : X → ParseTree scenario)
    → ((t : ParseTree (behind_front v)) → scenario_of_tree (k (h (g (f t)))) ≡ behind_front_of_tree v t)
    → (rest_at v MAX_EVENTS (MAX_REPLICAS - 1) (reading stop xs) >>= result_of_read)
    ≡ given_whole scenario_of_tree (((((read_tree (behind_front v) misfit nothing_seen xs ⟫ with_tree f) ⟫ with_tree g) ⟫ with_tree h) ⟫ with_tree k) ⟫ λ a. whole_of misfit a.0 a.2)
whole_behind v stop misfit xs agree f g h k same =
    ap (λ (o : ReadOutcome NamedTree). o >>= result_of_read) (rest_same v stop xs ∙ ap (given (behind_front_of_tree v) stop) (sym (same_read (behind_front v) misfit (misfit_at stop) nothing_seen xs agree)))
    ∙ by_read (read_tree (behind_front v) misfit nothing_seen xs) refl
  where
    by_read : (o : TreeOutcome (ParseTree (behind_front v))) → read_tree (behind_front v) misfit nothing_seen xs ≡ o
        → (given (behind_front_of_tree v) stop o >>= result_of_read) ≡ given_whole scenario_of_tree (((((o ⟫ with_tree f) ⟫ with_tree g) ⟫ with_tree h) ⟫ with_tree k) ⟫ λ a. whole_of misfit a.0 a.2)
    by_read (Ok (t, own, [])) read = ap (λ (n : NamedTree). Ok n) (sym (same t))
    by_read (Ok (t, own, x ∷ rest)) read =
        let short = (read_keeps (behind_front v) misfit nothing_seen xs t own (x ∷ rest) read).0 in
        ap (λ (e : TextFault). Err (fault_as e)) (sym (agree (x ∷ rest) short))
    by_read (Err e) read = refl

one_version : (s : Symbol) → is_number_symbol (codes "1") s ≡ true → is_number_symbol (codes "2") s ≡ false
one_version (number w) h = rw ((bytes_eq-Decides w (codes "1")).0 h) refl
one_version s h = refl

abbrev Same : ℕ → List Lexeme → Type 0
Same stop ls = tree_at (reading stop ls) ≡ given_whole scenario_of_tree (read_whole scenario (scenario_misfit stop ls) nothing_seen ls)

same_version : (stop : ℕ) (a b : Lexeme) (others : List Lexeme) → is_word (codes "jsoncrdt") a.symbol ≡ true → Same stop (a ∷ b ∷ others)
unfolding tree_at front_at version_at one
same_version stop a b [] header =
    elim (cases_Bool (is_number_symbol (codes "1") b.symbol)) [
      | inl first ↦ rw (header, first, one_version b.symbol first) refl
      | inr no_first ↦
          elim (cases_Bool (is_number_symbol (codes "2") b.symbol)) [
            | inl second ↦ rw (header, no_first, second) refl
            | inr neither ↦ rw (header, no_first, neither) refl
          ]
    ]
same_version stop a b (c ∷ xs) header =
    elim (cases_Bool (is_number_symbol (codes "1") b.symbol)) [
      | inl first ↦
          elim (cases_Bool (is_replica c.symbol)) [
            | inl is ↦
                rw (header, first, one_version b.symbol first, is)
                (whole_behind One stop (scenario_misfit stop (a ∷ b ∷ c ∷ xs)) xs (later_misfits stop a b c xs) (pair_of c) (pair_of b) (λ t. inl t) (pair_of a) (λ t. refl))
            | inr other ↦ rw (header, first, one_version b.symbol first, other, third_misfit stop a b c xs) refl
          ]
      | inr no_first ↦
          elim (cases_Bool (is_number_symbol (codes "2") b.symbol)) [
            | inl second ↦
                elim (cases_Bool (is_replica c.symbol)) [
                  | inl is ↦
                      rw (header, no_first, second, is)
                      (whole_behind Two stop (scenario_misfit stop (a ∷ b ∷ c ∷ xs)) xs (later_misfits stop a b c xs) (pair_of c) (pair_of b) (λ t. inr t) (pair_of a) (λ t. refl))
                  | inr other ↦ rw (header, no_first, second, other, third_misfit stop a b c xs) refl
                ]
            | inr neither ↦ rw (header, no_first, neither, second_misfit stop a b (c ∷ xs)) refl
          ]
    ]

same_header : (stop : ℕ) (ls : List Lexeme) → Same stop ls
unfolding tree_at front_at version_at one
same_header stop [] = refl
same_header stop (a ∷ []) =
    elim (cases_Bool (is_word (codes "jsoncrdt") a.symbol)) [
      | inl header ↦ rw header refl
      | inr other ↦ rw other refl
    ]
same_header stop (a ∷ b ∷ others) =
    elim (cases_Bool (is_word (codes "jsoncrdt") a.symbol)) [
      | inl header ↦ same_version stop a b others header
      | inr other ↦ rw (other, first_misfit stop a (b ∷ others)) refl
    ]

-- ---- what is read

header_told : (n stop : ℕ) (after : List Lexeme) → IsTold (fault_as (header_misfit n stop after))
header_told zero stop after e = cc
header_told (suc zero) stop after e = cc
header_told (suc (suc zero)) stop after e = cc
header_told (suc (suc (suc n))) stop after e = misfit_told stop after e

pub exactly : (r : Reading) → IsExactly (IsNamedTree r) (IsTreeFault r) (tree_at r)
exactly r =
    exactly_so (tree_at r) (same_header r.stop r.left)
    (reads_exactly scenario scenarios_decided.3 (scenario_misfit r.stop r.left) (λ after. header_told (length r.left - length after) r.stop after) scenario_of_tree r.left)
