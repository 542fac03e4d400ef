-- About `Events`: the readers of events read what the grammar's reader reads, and so what is read is the event.
use Rattle.std.proofs.Common.{◌≡◌, ℕ, inl, inr, true, List, [], ◌∷◌, Result, Ok, refl}
use Rattle.std.specs.Prelude.{codes, nat_lt, IfErr}
use Rattle.std.proofs.lemmas.Bool.{cases_Bool}
use Rattle.jc_rules.specs.declared.version.Version.{Version}
use Rattle.jc_rules.specs.declared.version.Version.TheVariants.{One, Two}
use Rattle.jc_syntax.specs.declared.token.TokenKind.TheVariants.{Name, Dot, ParenL, ParenR, Comma}
use Rattle.jc_syntax.specs.declared.tree.Named.{Named}
use Rattle.jc_syntax.specs.declared.tree.NamedEvent.{NamedEvent}
use Rattle.jc_syntax.specs.declared.tree.NamedEvent.TheVariants.{Exec, Send, Recv, Take, Apply, Done}
use Rattle.jc_grammar.specs.Symbols.{Symbol, number, Lexeme}
use Rattle.jc_grammar.specs.SymbolTests.{has_kind, is_word, is_numeral, numeral_value}
use Rattle.jc_grammar.specs.Classes.{any}
use Rattle.jc_grammar.specs.Guards.{GuardState}
use Rattle.jc_grammar.specs.Grammar.{◌then◌, ParseTree}
use Rattle.jc_grammar.specs.TreeReader.{read_tree}
use Rattle.jc_grammar.proofs.ScenarioGrammarLemmas.{scenarios_decided}
use Rattle.jc_grammar.specs.ScenarioGrammar.{token, keyword, index, in_parens, identifier, common_action, action, event, misfit_at}
use Rattle.jc_grammar.specs.Limits.{either}
use Rattle.jc_parser.specs.declared.fault.ScenarioFault.{ScenarioFault}
use Rattle.jc_parser.specs.ReaderState.{Reading, MapsResult, ◌>>=◌, one, skip, named_at}
use Rattle.jc_parser.specs.ExpressionReader.{index_at}
use Rattle.jc_parser.specs.EventReader.{last_name_at, sender_at, last_identifier_at, taking_at, application_at, common_action_at, action_at, any_event_at}
use Rattle.jc_parser.specs.EventReader.{only_event_at}
use Rattle.jc_parser.specs.GrammarTrees.{number_of, named, inside, counter_of, author_of, taken, take_of_tree, common_of_tree, action_of_tree, event_of_tree}
use Rattle.jc_parser.proofs.GrammarAgreesLemmas.{reading, at_place, given, Agrees, agrees_map, agrees_then, agrees_or, agrees_one, agrees_mark, agrees_word, agrees_as, agrees_assoc, or_false}
use Rattle.jc_grammar.specs.LookAhead.{is_decided}
use Rattle.jc_grammar.proofs.PrefixLemmas.{each_class}
use Rattle.jc_parser.specs.Faults.{IsOfSentence}
use Rattle.jc_parser.specs.Events.{IsEvent, IsNoEvent}
use Rattle.jc_parser.proofs.GuardsLemmas.{event_sentences}
use Rattle.jc_parser.proofs.SentencesLemmas.{IsExactly, agrees_exactly, kind_so}
use Rattle.jc_parser.proofs.PrefixLemmas.{IsAheadReader}

pub agrees_name : Agrees (token Name) named named_at
unfolding named_at
agrees_name = agrees_map named (agrees_one (has_kind Name) (any Name) (λ s. refl))

index_first : (stop place : ℕ) (s : GuardState) (t : Symbol) (xs : List Lexeme) → index_at (reading stop (at_place place t ∷ xs)) ≡ given number_of stop (read_tree index (misfit_at stop) s (at_place place t ∷ xs))
unfolding index_at one
index_first stop place s (number digits) xs =
    elim (cases_Bool (is_numeral digits)) [
      | inl numeral ↦
          elim (cases_Bool (nat_lt (numeral_value digits) 4294967296)) [
            | inl small ↦ rw (numeral, small) refl
            | inr large ↦ rw (numeral, large) refl
          ]
      | inr other ↦ rw other refl
    ]
index_first stop place s t xs = refl

pub agrees_index : Agrees index number_of index_at
unfolding index_at one
agrees_index = record { same = by_first }
  where
    by_first : (stop : ℕ) (s : GuardState) (ls : List Lexeme) → index_at (reading stop ls) ≡ given number_of stop (read_tree index (misfit_at stop) s ls)
    by_first stop s [] = refl
    by_first stop s (x ∷ xs) = index_first stop x.place s x.symbol xs

-- a name and the closing parenthesis
agrees_last_name : Agrees (token Name then token ParenR) (λ t. named t.0) last_name_at
unfolding last_name_at
agrees_last_name = agrees_then (λ t u. named t) (λ q r. skip (has_kind ParenR) r >>= λ a. Ok (q, a.1)) agrees_name (λ t. agrees_map (λ u. named t) (agrees_mark ParenR))

-- an identifier and the closing parenthesis
agrees_last_identifier : Agrees (identifier then token ParenR) (λ t. (counter_of t.0, author_of t.0)) last_identifier_at
unfolding last_identifier_at
agrees_last_identifier =
    agrees_assoc (agrees_then (λ t u. (number_of t, named u.0.1)) (λ i r. skip (has_kind Comma) r >>= λ a. last_name_at a.1 >>= λ q. Ok ((i, q.0), q.1)) agrees_index
    (λ t. agrees_assoc (agrees_then (λ u w. (number_of t, named w.0)) (λ _ r. last_name_at r >>= λ q. Ok ((number_of t, q.0), q.1)) (agrees_mark Comma)
    (λ u. agrees_map (λ q. (number_of t, q)) agrees_last_name))))

agrees_sender : Agrees (keyword (codes "recv") then in_parens (token Name)) (λ t. named (inside (token Name) t.1)) sender_at
unfolding sender_at
agrees_sender =
    agrees_then (λ t u. named (inside (token Name) u)) (λ _ r. skip (has_kind ParenL) r >>= λ b. last_name_at b.1) (agrees_word (codes "recv"))
    (λ t. agrees_then (λ u w. named w.0) (λ _ r. last_name_at r) (agrees_mark ParenL) (λ u. agrees_last_name))

agrees_application : (p : Named) → Agrees (keyword (codes "apply") then in_parens identifier) (λ t. Apply p (counter_of (inside identifier t.1)) (author_of (inside identifier t.1))) (application_at p)
unfolding application_at
agrees_application p =
    agrees_then (λ t u. Apply p (counter_of (inside identifier u)) (author_of (inside identifier u))) (λ _ r. skip (has_kind ParenL) r >>= λ b. last_identifier_at b.1 >>= λ i. Ok (Apply p i.0.0 i.0.1, i.1)) (agrees_word (codes "apply"))
    (λ t. agrees_then (λ u w. Apply p (counter_of w.0) (author_of w.0)) (λ _ r. last_identifier_at r >>= λ i. Ok (Apply p i.0.0 i.0.1, i.1)) (agrees_mark ParenL)
    (λ u. agrees_map (λ (i : ℕ × Named). Apply p i.0 i.1) agrees_last_identifier))

agrees_taking : (p : Named) → Agrees (keyword (codes "take") then in_parens taken) (λ t. take_of_tree p (inside taken t.1)) (taking_at p)
unfolding taking_at
agrees_taking p =
    agrees_then (λ t u. take_of_tree p (inside taken u)) (λ _ r. skip (has_kind ParenL) r >>= λ b. named_at b.1 >>= λ q. skip (has_kind Comma) q.1 >>= λ c. last_identifier_at c.1 >>= λ i. Ok (Take p q.0 i.0.0 i.0.1, i.1)) (agrees_word (codes "take"))
    (λ t. agrees_then (λ u w. take_of_tree p w.0) (λ _ r. named_at r >>= λ q. skip (has_kind Comma) q.1 >>= λ c. last_identifier_at c.1 >>= λ i. Ok (Take p q.0 i.0.0 i.0.1, i.1)) (agrees_mark ParenL)
    (λ u. agrees_assoc (agrees_then (λ x y. Take p (named x) (counter_of y.0.1) (author_of y.0.1)) (λ q r. skip (has_kind Comma) r >>= λ c. last_identifier_at c.1 >>= λ i. Ok (Take p q i.0.0 i.0.1, i.1)) agrees_name
    (λ x. agrees_assoc (agrees_then (λ y z. Take p (named x) (counter_of z.0) (author_of z.0)) (λ _ r. last_identifier_at r >>= λ i. Ok (Take p (named x) i.0.0 i.0.1, i.1)) (agrees_mark Comma)
    (λ y. agrees_map (λ (i : ℕ × Named). Take p (named x) i.0 i.1) agrees_last_identifier))))))

agrees_plain : (w : List ℕ) (e : NamedEvent) → Agrees (keyword w) (λ t. e) (λ r. skip (is_word w) r >>= λ a. Ok (e, a.1))
agrees_plain w e = agrees_map (λ _. e) (agrees_word w)

same_common : (p : Named) (t : ParseTree common_action)
    → either (λ x. Exec p) (either (λ x. Send p) (either (λ (x : ParseTree (keyword (codes "recv") then in_parens (token Name))). Recv p (named (inside (token Name) x.1)))
    (either (λ (x : ParseTree (keyword (codes "apply") then in_parens identifier)). Apply p (counter_of (inside identifier x.1)) (author_of (inside identifier x.1))) (λ x. Done p)))) t
    ≡ common_of_tree p t
same_common p (inl t) = refl
same_common p (inr (inl t)) = refl
same_common p (inr (inr (inl t))) = refl
same_common p (inr (inr (inr (inl t)))) = refl
same_common p (inr (inr (inr (inr t)))) = refl

agrees_common : (p : Named) → Agrees common_action (common_of_tree p) (common_action_at p)
unfolding common_action_at
agrees_common p =
    agrees_as (common_of_tree p) (same_common p)
    (agrees_or (is_word (codes "exec")) (λ s. or_false (is_word (codes "exec") s)) (agrees_plain (codes "exec") (Exec p))
    (agrees_or (is_word (codes "send")) (λ s. or_false (is_word (codes "send") s)) (agrees_plain (codes "send") (Send p))
    (agrees_or (is_word (codes "recv")) (λ s. or_false (is_word (codes "recv") s)) (agrees_map (λ q. Recv p q) agrees_sender)
    (agrees_or (is_word (codes "apply")) (λ s. or_false (is_word (codes "apply") s)) (agrees_application p)
    (agrees_plain (codes "done") (Done p))))))

same_action : (p : Named) (t : ParseTree (action Two)) → either (λ (x : ParseTree (keyword (codes "take") then in_parens taken)). take_of_tree p (inside taken x.1)) (common_of_tree p) t ≡ action_of_tree Two p t
same_action p (inl t) = refl
same_action p (inr t) = refl

agrees_action : (v : Version) (p : Named) → Agrees (action v) (action_of_tree v p) (action_at v p)
unfolding action_at
agrees_action One p = agrees_as (action_of_tree One p) (λ t. refl) (agrees_common p)
agrees_action Two p = agrees_as (action_of_tree Two p) (same_action p) (agrees_or (is_word (codes "take")) (λ s. or_false (is_word (codes "take") s)) (agrees_taking p) (agrees_common p))

pub agrees_event : (v : Version) → Agrees (event v) (event_of_tree v) (any_event_at v)
unfolding any_event_at
agrees_event v =
    agrees_then (λ t u. action_of_tree v (named t) u.1) (λ p r. skip (has_kind Dot) r >>= λ a. action_at v p a.1) agrees_name
    (λ t. agrees_then (λ u w. action_of_tree v (named t) w) (λ _ r. action_at v (named t) r) (agrees_mark Dot) (λ u. agrees_action v (named t)))

-- ---- what is read

pub exactly : (v : Version) (r : Reading) → IsExactly (IsEvent v r.left) (IsNoEvent v r) (only_event_at v r)
unfolding only_event_at
exactly v r = agrees_exactly (agrees_event v) (scenarios_decided.2 v) r

pub event_kind : {X : Type 0} (v : Version) (r : Reading) (view : X → NamedEvent) (result : Result X ScenarioFault) → MapsResult view result (only_event_at v r) → IfErr result IsOfSentence
unfolding only_event_at
event_kind v r view result h = kind_so (agrees_event v) (event_sentences v) r view result h

-- an event begins the lexemes
decided : (v : Version) → is_decided (event v) each_class ≡ true
decided One = refl
decided Two = refl

pub ahead : (v : Version) → IsAheadReader (event v) (event_of_tree v) (any_event_at v)
ahead v = record { agrees = agrees_event v; decided = decided v; sentences = event_sentences v }
