-- About `Guards`: which guards a grammar has, and what they refuse. No text has the fault that memory ran out, and what
-- has none of the guards of scenarios has a fault of sentences.
use Rattle.std.proofs.Common.{◌≡◌, ◌≢◌, ℕ, zero, suc, ◌⊎◌, inl, inr, Bool, true, false, ◌&&◌, cond, List, [], ◌∷◌, Result, Ok, Err, refl, subst}
use Rattle.std.specs.Prelude.{nat_lt, length, codes}
use Rattle.std.proofs.lemmas.Bool.{cases_Bool}
use Rattle.jc_rules.specs.declared.limits.TheConstants.{MAX_SELECTORS, MAX_COMMANDS}
use Rattle.jc_rules.specs.declared.refusal.Refusal.TheVariants as refusals
use Rattle.jc_rules.specs.declared.version.Version.{Version}
use Rattle.jc_rules.specs.declared.version.Version.TheVariants.{One, Two}
use Rattle.jc_syntax.specs.declared.token.TokenKind.TheVariants.{Semi}
use Rattle.jc_grammar.specs.Symbols.{Lexeme}
use Rattle.jc_grammar.specs.SymbolTests.{value_of_symbol, numeral_value, is_word, is_reserved, is_misused}
use Rattle.jc_grammar.specs.Classes.{is_of, is_in}
use Rattle.jc_grammar.specs.Guards.{Misfit, GuardState, Verdict, refuses, passes, Guard, small_index, free_binding, free_root, dot_seen, new_replica, no_selector, no_command, no_event, verdict_of}
use Rattle.jc_grammar.specs.Grammar.{Grammar, symbol, nothing, ◌then◌, ◌or◌, guarded, listed, chained, repeated, ParseTree, NoticedFault, verdict_at}
use Rattle.jc_grammar.specs.LookAhead.{begins_with_any, first_classes}
use Rattle.jc_grammar.specs.TreeReader.{TreeOutcome, ◌⟫◌, with_tree, pair_of, whole_of, read_by, read_tree, read_whole}
use Rattle.jc_grammar.specs.ScenarioGrammar.{token, selector, selector_dot, expression, assignment, ending, command, script, closed_script, event, misfit_at}
use Rattle.jc_grammar.proofs.LookAheadLemmas.{both_true}
use Rattle.jc_parser.specs.declared.parse_fault.ParseFault.TheVariants as sentence
use Rattle.jc_parser.specs.declared.fault.ScenarioFault.{ScenarioFault}
use Rattle.jc_parser.specs.declared.fault.ScenarioFault.TheVariants.{IndexTooLarge, ReservedName, TooManyCommands, TooLongExpression, Memory}
use Rattle.jc_parser.specs.Faults.{IsOfSentence}
use Rattle.jc_parser.proofs.GrammarAgreesLemmas.{fault_as}

-- ---- the guards of a grammar

-- each guard passes the test
abbrev pub all_guards : (Guard → Bool) → Grammar → Bool
all_guards p (symbol c) = true
all_guards p nothing = true
all_guards p (g then h) = all_guards p g && all_guards p h
all_guards p (g or h) = all_guards p g && all_guards p h
all_guards p (guarded c g) = p c && all_guards p g

listed_guards : (p : Guard → Bool) (n : ℕ) (c : Guard) (x y : Grammar) → p c ≡ true → all_guards p x ≡ true → all_guards p y ≡ true → all_guards p (listed n c x y) ≡ true
unfolding listed
listed_guards p zero c x y own one two = rw (own, one) refl
listed_guards p (suc n) c x y own one two = rw (one, two, listed_guards p n c x y own one two) refl

chained_guards : (p : Guard → Bool) (n : ℕ) (c : Guard) (x y e f : Grammar) → p c ≡ true → all_guards p x ≡ true → all_guards p y ≡ true → all_guards p e ≡ true → all_guards p f ≡ true → all_guards p (chained n c x y e f) ≡ true
unfolding chained
chained_guards p zero c x y e f own one two three four = rw (own, one, two, three, four) refl
chained_guards p (suc n) c x y e f own one two three four = rw (one, two, three, four, chained_guards p n c x y e f own one two three four) refl

repeated_guards : (p : Guard → Bool) (n : ℕ) (c : Guard) (x y e : Grammar) → p c ≡ true → all_guards p x ≡ true → all_guards p y ≡ true → all_guards p e ≡ true → all_guards p (repeated n c x y e) ≡ true
unfolding repeated
repeated_guards p zero c x y e own one two three = rw (own, one, two, three) refl
repeated_guards p (suc n) c x y e own one two three = rw (one, two, three, repeated_guards p n c x y e own one two three) refl

pub all_any : (g : Grammar) → all_guards (λ c. true) g ≡ true
all_any (symbol c) = refl
all_any nothing = refl
all_any (g then h) = rw (all_any g, all_any h) refl
all_any (g or h) = rw (all_any g, all_any h) refl
all_any (guarded c g) = all_any g

-- the guards of a script, by which a test decides
pub script_guards : (p : Guard → Bool) → p small_index ≡ true → p free_root ≡ true → p dot_seen ≡ true → p free_binding ≡ true → p no_selector ≡ true → p no_command ≡ true → all_guards p script ≡ true
script_guards p index root dot binding past crowd = listed_guards p MAX_COMMANDS no_command command (token Semi) crowd of_command refl
  where
    of_selector : all_guards p selector ≡ true
    of_selector = rw index refl

    of_dot : all_guards p selector_dot ≡ true
    of_dot = rw dot refl

    of_command : all_guards p command ≡ true
    of_command =
        rw (
          root,
          binding,
          chained_guards p MAX_SELECTORS no_selector selector_dot selector assignment ending past of_dot of_selector refl refl,
          repeated_guards p MAX_SELECTORS no_selector selector_dot selector nothing past of_dot of_selector refl,
        ) refl

-- ---- what they refuse

-- what is refused is such a fault
abbrev VerdictIs : (ScenarioFault → Type 0) → Verdict → Type 0
VerdictIs F (refuses e) = F (fault_as e)
VerdictIs F (passes s) = Unit {0}

abbrev pub GuardRefuses : (ScenarioFault → Type 0) → Guard → Type 0
GuardRefuses F c = (s : GuardState) (x : Lexeme) → VerdictIs F (verdict_of c s x)

verdict_if : (F : ScenarioFault → Type 0) (b : Bool) (v w : Verdict) → VerdictIs F v → VerdictIs F w → VerdictIs F (cond b v w)
verdict_if F true v w a b = a
verdict_if F false v w a b = b

-- what the guards of sentences refuse
record SentenceFaults (F : ScenarioFault → Type 0) : Type 0 where
  index : (p : ℕ) → F (IndexTooLarge p)
  word : (p : ℕ) → F (ReservedName p)
  commands : (p : ℕ) → F (TooManyCommands p)
  selectors : (p : ℕ) → F (TooLongExpression p)

abbrev pub is_of_sentence : Guard → Bool
is_of_sentence (new_replica most) = false
is_of_sentence no_event = false
is_of_sentence c = true

either_command : (F : ScenarioFault → Type 0) → SentenceFaults F → (p : ℕ) (b : Bool) → F (fault_as (record { refusal = cond b refusals.ReservedName refusals.TooManyCommands; offset = p }))
either_command F f p true = f.word p
either_command F f p false = f.commands p

guard_refuses : (F : ScenarioFault → Type 0) → SentenceFaults F → (c : Guard) → is_of_sentence c ≡ true → GuardRefuses F c
guard_refuses F f small_index own s x = verdict_if F (nat_lt (numeral_value (value_of_symbol x.symbol)) 4294967296) _ _ tt (f.index x.place)
guard_refuses F f free_binding own s x = verdict_if F (is_reserved (value_of_symbol x.symbol)) _ _ (f.word x.place) tt
guard_refuses F f free_root own s x = verdict_if F (is_word (codes "doc") x.symbol) _ _ tt (verdict_if F (is_reserved (value_of_symbol x.symbol)) _ _ (f.word x.place) tt)
guard_refuses F f dot_seen own s x = tt
guard_refuses F f (new_replica most) own s x = absurd cc
guard_refuses F f no_selector own s x = f.selectors s.dot
guard_refuses F f no_command own s x = either_command F f x.place (is_misused x.symbol)
guard_refuses F f no_event own s x = absurd cc

-- no guard refuses with the fault that memory ran out
abbrev pub IsTold : ScenarioFault → Type 0
IsTold e = e ≢ Memory

told : SentenceFaults IsTold
told = record { index = λ p e. cc; word = λ p e. cc; commands = λ p e. cc; selectors = λ p e. cc }

any_guard : (c : Guard) → GuardRefuses IsTold c
any_guard (new_replica most) s x =
    verdict_if IsTold (is_reserved (value_of_symbol x.symbol)) _ _ (λ e. cc)
    (verdict_if IsTold (is_in (value_of_symbol x.symbol) s.names) _ _ (λ e. cc) (verdict_if IsTold (nat_lt (length s.names) most) _ _ tt (λ e. cc)))
any_guard no_event s x = λ e. cc
any_guard small_index s x = guard_refuses IsTold told small_index refl s x
any_guard free_binding s x = guard_refuses IsTold told free_binding refl s x
any_guard free_root s x = guard_refuses IsTold told free_root refl s x
any_guard dot_seen s x = tt
any_guard no_selector s x = guard_refuses IsTold told no_selector refl s x
any_guard no_command s x = guard_refuses IsTold told no_command refl s x

of_sentences : SentenceFaults IsOfSentence
of_sentences = record {
  index = λ p. (sentence.IndexTooLarge p, refl);
  word = λ p. (sentence.ReservedName p, refl);
  commands = λ p. (sentence.TooManyCommands p, refl);
  selectors = λ p. (sentence.TooLongExpression p, refl);
}

-- ---- what is read with them

abbrev err_as : {A : Type 0} → NoticedFault → Result A NoticedFault
err_as e = Err e

same_err : {A : Type 0} (d e : NoticedFault) → err_as {A = A} d ≡ Err e → d ≡ e
same_err d e h = cc

err_bind : {A B : Type 0} (o : Result A NoticedFault) (f : A → Result B NoticedFault) (e : NoticedFault) → (o ⟫ f) ≡ Err e → (o ≡ Err e) ⊎ ((x : A) × (o ≡ Ok x) × (f x ≡ Err e))
err_bind (Ok x) f e h = inr (x, refl, h)
err_bind (Err d) f e h = inl cc

err_with : {A B : Type 0} (o : TreeOutcome A) (f : A → B) (e : NoticedFault) → (o ⟫ with_tree f) ≡ Err e → o ≡ Err e
err_with (Ok x) f e h = absurd cc
err_with (Err d) f e h = cc

module _ (F : ScenarioFault → Type 0) (p : Guard → Bool) (guards : (c : Guard) → p c ≡ true → GuardRefuses F c) (misfit : Misfit) (misfits : (ls : List Lexeme) → F (fault_as (misfit ls))) where
  -- the fault of what fits nothing
  misfit_is : {A : Type 0} (ls : List Lexeme) (e : NoticedFault) → err_as {A = A} (record { fault = misfit ls; rest = ls }) ≡ Err e → F (fault_as e.fault)
  misfit_is {A} ls e h = subst (λ (d : NoticedFault). F (fault_as d.fault)) (same_err {A = A} (record { fault = misfit ls; rest = ls }) e h) (misfits ls)

  verdict_is : {A : Type 0} (v : Verdict) (ls : List Lexeme) (k : GuardState → TreeOutcome A) (e : NoticedFault) → VerdictIs F v → ((s : GuardState) → k s ≡ Err e → F (fault_as e.fault)) → read_by v ls k ≡ Err e → F (fault_as e.fault)
  verdict_is {A} (refuses d) ls k e own later h = subst (λ (q : NoticedFault). F (fault_as q.fault)) (same_err {A = A × GuardState × List Lexeme} (record { fault = d; rest = ls }) e h) own
  verdict_is (passes s) ls k e own later h = later s h

  verdict_at_is : (c : Guard) (s : GuardState) (ls : List Lexeme) → p c ≡ true → VerdictIs F (verdict_at c s ls)
  verdict_at_is c s [] own = tt
  verdict_at_is c s (x ∷ xs) own = guards c own s x

  read_refused : (g : Grammar) → all_guards p g ≡ true → (s : GuardState) (ls : List Lexeme) (e : NoticedFault) → read_tree g misfit s ls ≡ Err e → F (fault_as e.fault)
  read_refused (symbol c) own s [] e h = misfit_is {A = Lexeme × GuardState × List Lexeme} [] e h
  read_refused (symbol c) own s (x ∷ xs) e h =
      elim (cases_Bool (is_of c x.symbol)) [
        | inl fits ↦ let bad = rw fits at h in absurd cc
        | inr other ↦ misfit_is {A = Lexeme × GuardState × List Lexeme} (x ∷ xs) e (rw other at h)
      ]
  read_refused nothing own s ls e h = absurd cc
  read_refused (g then h) own s ls e r =
      let (one, two) = both_true (all_guards p g) (all_guards p h) own in
      elim (err_bind (read_tree g misfit s ls) (λ a. read_tree h misfit a.1 a.2 ⟫ with_tree (pair_of a.0)) e r) [
        | inl first ↦ read_refused g one s ls e first
        | inr (a, read, last) ↦ read_refused h two a.1 a.2 e (err_with (read_tree h misfit a.1 a.2) (pair_of a.0) e last)
      ]
  read_refused (g or h) own s ls e r =
      let (one, two) = both_true (all_guards p g) (all_guards p h) own in
      elim (cases_Bool (begins_with_any (first_classes g []) ls)) [
        | inl fits ↦ read_refused g one s ls e (err_with (read_tree g misfit s ls) (λ a. inl a) e (rw fits at r))
        | inr other ↦ read_refused h two s ls e (err_with (read_tree h misfit s ls) (λ b. inr b) e (rw other at r))
      ]
  read_refused (guarded c g) own s ls e r =
      let (one, two) = both_true (p c) (all_guards p g) own in
      elim (cases_Bool (begins_with_any (first_classes g []) ls)) [
        | inl fits ↦ verdict_is (verdict_at c s ls) ls (λ next. read_tree g misfit next ls) e (verdict_at_is c s ls one) (λ next h. read_refused g two next ls e h) (rw fits at r)
        | inr other ↦ read_refused g two s ls e (rw other at r)
      ]

  whole_refused : (g : Grammar) → all_guards p g ≡ true → (s : GuardState) (ls : List Lexeme) (e : NoticedFault) → read_whole g misfit s ls ≡ Err e → F (fault_as e.fault)
  whole_refused g own s ls e r =
      elim (err_bind (read_tree g misfit s ls) (λ a. whole_of misfit a.0 a.2) e r) [
        | inl first ↦ read_refused g own s ls e first
        | inr (a, read, last) ↦ by_rest a.0 a.2 last
      ]
    where
      by_rest : (t : ParseTree g) (rest : List Lexeme) → whole_of misfit t rest ≡ Err e → F (fault_as e.fault)
      by_rest t [] last = absurd cc
      by_rest t (x ∷ xs) last = misfit_is {A = ParseTree g} (x ∷ xs) e last

-- ---- no text has the fault that memory ran out

pub no_memory : (misfit : Misfit) → ((ls : List Lexeme) → IsTold (fault_as (misfit ls))) → (g : Grammar) (s : GuardState) (ls : List Lexeme) (e : NoticedFault) → read_whole g misfit s ls ≡ Err e → IsTold (fault_as e.fault)
no_memory misfit misfits g s ls e h = whole_refused IsTold (λ c. true) (λ c own. any_guard c) misfit misfits g (all_any g) s ls e h

pub no_memory_ahead : (misfit : Misfit) → ((ls : List Lexeme) → IsTold (fault_as (misfit ls))) → (g : Grammar) (s : GuardState) (ls : List Lexeme) (e : NoticedFault) → read_tree g misfit s ls ≡ Err e → IsTold (fault_as e.fault)
no_memory_ahead misfit misfits g s ls e h = read_refused IsTold (λ c. true) (λ c own. any_guard c) misfit misfits g (all_any g) s ls e h

pub misfit_told : (stop : ℕ) (ls : List Lexeme) → IsTold (fault_as (misfit_at stop ls))
misfit_told stop [] e = cc
misfit_told stop (x ∷ xs) e = cc

-- ---- sentences

misfit_of_sentence : (stop : ℕ) (ls : List Lexeme) → IsOfSentence (fault_as (misfit_at stop ls))
misfit_of_sentence stop [] = (sentence.EndOfText stop, refl)
misfit_of_sentence stop (x ∷ xs) = (sentence.Unexpected x.place, refl)

-- the guards are those of sentences
abbrev pub IsSentences : Grammar → Type 0
IsSentences g = all_guards is_of_sentence g ≡ true

pub sentence_kind : (g : Grammar) → IsSentences g → (stop : ℕ) (s : GuardState) (ls : List Lexeme) (e : NoticedFault) → read_tree g (misfit_at stop) s ls ≡ Err e → IsOfSentence (fault_as e.fault)
sentence_kind g own stop s ls e h = read_refused IsOfSentence is_of_sentence (guard_refuses IsOfSentence of_sentences) (misfit_at stop) (misfit_of_sentence stop) g own s ls e h

pub whole_kind : (g : Grammar) → IsSentences g → (stop : ℕ) (s : GuardState) (ls : List Lexeme) (e : NoticedFault) → read_whole g (misfit_at stop) s ls ≡ Err e → IsOfSentence (fault_as e.fault)
whole_kind g own stop s ls e h = whole_refused IsOfSentence is_of_sentence (guard_refuses IsOfSentence of_sentences) (misfit_at stop) (misfit_of_sentence stop) g own s ls e h

pub expression_sentences : IsSentences expression
expression_sentences = rw (repeated_guards is_of_sentence MAX_SELECTORS no_selector selector_dot selector nothing refl refl refl refl) refl

pub script_sentences : IsSentences script
script_sentences = script_guards is_of_sentence refl refl refl refl refl refl

pub closed_sentences : IsSentences closed_script
closed_sentences = rw script_sentences refl

pub event_sentences : (v : Version) → IsSentences (event v)
event_sentences One = refl
event_sentences Two = refl
