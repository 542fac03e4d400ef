-- About `TreeReader` of `jc_grammar`: a reader written by hand reads what a grammar's reader reads, whatever the guards
-- remember.
use Rattle.std.proofs.Common.{◌≡◌, ℕ, inl, inr, Bool, true, false, ◌||◌, cond, List, [], ◌∷◌, Ok, Err, refl, ap, ◌∙◌}
use Rattle.jc_rules.specs.declared.refusal.Refusal.{Refusal}
use Rattle.jc_rules.specs.declared.refusal.Refusal.TheVariants as refusals
use Rattle.jc_syntax.specs.declared.token.TokenKind.{TokenKind}
use Rattle.jc_grammar.specs.Symbols.{Symbol, Lexeme}
use Rattle.jc_grammar.specs.SymbolTests.{has_kind, is_word}
use Rattle.jc_grammar.specs.Classes.{Class, is_of, any, the_word}
use Rattle.jc_grammar.specs.Guards.{TextFault, GuardState}
use Rattle.jc_grammar.specs.Grammar.{Grammar, symbol, nothing, ◌then◌, ◌or◌, ParseTree}
use Rattle.jc_grammar.specs.LookAhead.{is_of_any, begins_with_any, first_classes}
use Rattle.jc_grammar.specs.TreeReader.{TreeOutcome, ◌⟫◌, with_tree, pair_of, refused_at, read_symbol, read_tree}
use Rattle.jc_grammar.specs.ScenarioGrammar.{misfit_at}
use Rattle.jc_grammar.specs.Limits.{either}
use Rattle.jc_parser.specs.declared.fault.ScenarioFault.{ScenarioFault}
use Rattle.jc_parser.specs.declared.fault.ScenarioFault.TheVariants.{BadByte, OpenString, BadEscape, LoneSurrogate, BadNumber, TextTooLong, Unexpected, EndOfText, IndexTooLarge, ReservedName, TooManyCommands, TooLongExpression, NotUtf8, NoHeader, SameName, NoReplica, TooManyReplicas, UnknownReplica, TooManyEvents, Memory}
use Rattle.jc_parser.specs.ReaderState.{Reading, ReadOutcome, ◌>>=◌, begins_with, one, skip}

abbrev pub reading : ℕ → List Lexeme → Reading
reading stop ls = record { left = ls; stop = stop }

-- a symbol at an offset
abbrev pub at_place : ℕ → Symbol → Lexeme
at_place p s = record { place = p; symbol = s }

-- a refusal of a text at an offset, as a fault of a scenario; the other refusals are those of no text
abbrev pub refusal_as : Refusal → ℕ → ScenarioFault
refusal_as refusals.BadByte p = BadByte p
refusal_as refusals.OpenString p = OpenString p
refusal_as refusals.BadEscape p = BadEscape p
refusal_as refusals.LoneSurrogate p = LoneSurrogate p
refusal_as refusals.BadNumber p = BadNumber p
refusal_as refusals.TextTooLong p = TextTooLong p
refusal_as refusals.Unexpected p = Unexpected p
refusal_as refusals.EndOfText p = EndOfText p
refusal_as refusals.IndexTooLarge p = IndexTooLarge p
refusal_as refusals.ReservedName p = ReservedName p
refusal_as refusals.TooManyCommands p = TooManyCommands p
refusal_as refusals.TooLongExpression p = TooLongExpression p
refusal_as refusals.NotUtf8 p = NotUtf8 p
refusal_as refusals.NoHeader p = NoHeader p
refusal_as refusals.SameName p = SameName p
refusal_as refusals.NoReplica p = NoReplica p
refusal_as refusals.TooManyReplicas p = TooManyReplicas p
refusal_as refusals.UnknownReplica p = UnknownReplica p
refusal_as refusals.TooManyEvents p = TooManyEvents p
refusal_as other p = Memory

abbrev pub fault_as : TextFault → ScenarioFault
fault_as own = refusal_as own.refusal own.offset

-- what is read of a tree, by a function
abbrev pub given : {T A : Type 0} → (T → A) → ℕ → TreeOutcome T → ReadOutcome A
given view stop (Ok a) = Ok (view a.0, reading stop a.2)
given view stop (Err e) = Err (fault_as e.fault)

-- the reader gives what a function gives of the grammar's trees
pub record Agrees (g : Grammar) {A : Type 0} (view : ParseTree g → A) (f : Reading → ReadOutcome A) : Type 0 where
  pub same : (stop : ℕ) (s : GuardState) (ls : List Lexeme) → f (reading stop ls) ≡ given view stop (read_tree g (misfit_at stop) s ls)

pub given_with : {T U A : Type 0} (m : T → U) (view : U → A) (stop : ℕ) (o : TreeOutcome T) → given (λ t. view (m t)) stop o ≡ given view stop (o ⟫ with_tree m)
given_with m view stop (Ok a) = refl
given_with m view stop (Err e) = refl

-- what is made of what is read
pub given_map : {T A B : Type 0} (m : A → B) (view : T → A) (stop : ℕ) (o : TreeOutcome T) → (given view stop o >>= λ a. Ok (m a.0, a.1)) ≡ given (λ t. m (view t)) stop o
given_map m view stop (Ok a) = refl
given_map m view stop (Err e) = refl

pub agrees_map : {g : Grammar} {A B : Type 0} {view : ParseTree g → A} {f : Reading → ReadOutcome A} (m : A → B) → Agrees g view f → Agrees g (λ t. m (view t)) (λ r. f r >>= λ a. Ok (m a.0, a.1))
agrees_map {g} {view} m F = record { same = λ stop s ls. rw (F.same stop s ls) (given_map m view stop (read_tree g (misfit_at stop) s ls)) }

-- one part after another, where the second may depend on what the guards remember of the first
pub then_same : {T A B : Type 0} (h : Grammar) {view : T → A} (after : T → ParseTree h → B) (k : A → Reading → ReadOutcome B) (stop : ℕ) (o : TreeOutcome T)
    → ((a : T) (own : GuardState) (rest : List Lexeme) → o ≡ Ok (a, own, rest) → k (view a) (reading stop rest) ≡ given (after a) stop (read_tree h (misfit_at stop) own rest))
    → (given view stop o >>= λ a. k a.0 a.1) ≡ given (λ (t : T × ParseTree h). after t.0 t.1) stop (o ⟫ λ a. read_tree h (misfit_at stop) a.1 a.2 ⟫ with_tree (pair_of a.0))
then_same {T} {A} {B} h after k stop (Ok (a, own, rest)) K = K a own rest refl ∙ given_with (pair_of a) (λ (t : T × ParseTree h). after t.0 t.1) stop (read_tree h (misfit_at stop) own rest)
then_same h after k stop (Err e) K = refl

pub agrees_then : {g h : Grammar} {A B : Type 0} {view : ParseTree g → A} {f : Reading → ReadOutcome A} (after : ParseTree g → ParseTree h → B) (k : A → Reading → ReadOutcome B) → Agrees g view f → ((a : ParseTree g) → Agrees h (after a) (k (view a)))
    → Agrees (g then h) (λ t. after t.0 t.1) (λ r. f r >>= λ a. k a.0 a.1)
agrees_then {g} {h} {view} after k F K =
    record { same = λ stop s ls. rw (F.same stop s ls) (then_same h after k stop (read_tree g (misfit_at stop) s ls) (λ a own rest read. (K a).same stop own rest)) }

-- the next lexeme is one that the grammar begins with, if the test says so
abbrev pub BeginsBy : Grammar → (Symbol → Bool) → Type 0
BeginsBy g p = (s : Symbol) → is_of_any (first_classes g []) s ≡ p s

pub same_test : (g : Grammar) (p : Symbol → Bool) → BeginsBy g p → (ls : List Lexeme) → begins_with_any (first_classes g []) ls ≡ begins_with p ls
same_test g p same [] = refl
same_test g p same (x ∷ xs) = same x.symbol

pub agrees_or : {g h : Grammar} {A : Type 0} {left : ParseTree g → A} {right : ParseTree h → A} {f k : Reading → ReadOutcome A} (p : Symbol → Bool) → BeginsBy g p → Agrees g left f → Agrees h right k
    → Agrees (g or h) (either left right) (λ r. cond (begins_with p r.left) (f r) (k r))
agrees_or {g} {h} {left} {right} {f} {k} p same F K = record { same = λ stop s ls. by_same stop s ls (begins_with p ls) (begins_with_any (first_classes g []) ls) (same_test g p same ls) }
  where
    by_same : (stop : ℕ) (s : GuardState) (ls : List Lexeme) (b d : Bool) → d ≡ b → cond b (f (reading stop ls)) (k (reading stop ls)) ≡ given (either left right) stop (cond d (read_tree g (misfit_at stop) s ls ⟫ with_tree (λ a. inl a)) (read_tree h (misfit_at stop) s ls ⟫ with_tree (λ b. inr b)))
    by_same stop s ls true true e = F.same stop s ls ∙ given_with (λ a. inl a) (either left right) stop (read_tree g (misfit_at stop) s ls)
    by_same stop s ls false false e = K.same stop s ls ∙ given_with (λ b. inr b) (either left right) stop (read_tree h (misfit_at stop) s ls)
    by_same stop s ls true false e = absurd cc
    by_same stop s ls false true e = absurd cc

-- ---- one symbol

pub agrees_one : (p : Symbol → Bool) (c : Class) → ((s : Symbol) → is_of c s ≡ p s) → Agrees (symbol c) (λ x. x) (one p)
unfolding one
agrees_one p c same = record { same = λ stop s ls. by_first stop s ls }
  where
    by_test : (stop : ℕ) (s : GuardState) (x : Lexeme) (xs : List Lexeme) (b d : Bool) → d ≡ b → cond b (Ok (x, reading stop xs)) (Err (Unexpected x.place)) ≡ given (λ (y : Lexeme). y) stop (cond d (Ok (x, s, xs)) (refused_at (misfit_at stop (x ∷ xs)) (x ∷ xs)))
    by_test stop s x xs true true h = refl
    by_test stop s x xs false false h = refl
    by_test stop s x xs true false h = absurd cc
    by_test stop s x xs false true h = absurd cc

    by_first : (stop : ℕ) (s : GuardState) (ls : List Lexeme) → one p (reading stop ls) ≡ given (λ (y : Lexeme). y) stop (read_symbol c (misfit_at stop) s ls)
    by_first stop s [] = refl
    by_first stop s (x ∷ xs) = by_test stop s x xs (p x.symbol) (is_of c x.symbol) (same x.symbol)

pub agrees_skip : (p : Symbol → Bool) (c : Class) → ((s : Symbol) → is_of c s ≡ p s) → Agrees (symbol c) (λ x. tt) (skip p)
agrees_skip p c same = agrees_map (λ x. tt) (agrees_one p c same)

pub agrees_mark : (k : TokenKind) → Agrees (symbol (any k)) (λ x. tt) (skip (has_kind k))
agrees_mark k = agrees_skip (has_kind k) (any k) (λ s. refl)

pub agrees_word : (w : List ℕ) → Agrees (symbol (the_word w)) (λ x. tt) (skip (is_word w))
agrees_word w = agrees_skip (is_word w) (the_word w) (λ s. refl)

pub agrees_nothing : {A : Type 0} (a : A) → Agrees nothing (λ _. a) (λ r. Ok (a, r))
agrees_nothing a = record { same = λ stop s ls. refl }

-- ---- the same, told otherwise

-- the same view of the trees
pub agrees_as : {g : Grammar} {A : Type 0} {view : ParseTree g → A} {f : Reading → ReadOutcome A} (other : ParseTree g → A) → ((t : ParseTree g) → view t ≡ other t) → Agrees g view f → Agrees g other f
agrees_as {g} {view} other same F = record { same = λ stop s ls. F.same stop s ls ∙ told stop (read_tree g (misfit_at stop) s ls) }
  where
    told : (stop : ℕ) (o : TreeOutcome (ParseTree g)) → given view stop o ≡ given other stop o
    told stop (Ok a) = ap (λ t. Ok (t, reading stop a.2)) (same a.0)
    told stop (Err e) = refl

-- the same reader
pub agrees_so : {g : Grammar} {A : Type 0} {view : ParseTree g → A} {f : Reading → ReadOutcome A} (h : Reading → ReadOutcome A) → ((r : Reading) → h r ≡ f r) → Agrees g view f → Agrees g view h
agrees_so h agree F = record { same = λ stop s ls. agree (reading stop ls) ∙ F.same stop s ls }

-- ---- one class or more that begin a part

pub or_false : (b : Bool) → (b || false) ≡ b
or_false true = refl
or_false false = refl

-- parts in a row, the first two of them together
pub agrees_assoc : {g h k : Grammar} {A : Type 0} {view : ParseTree (g then (h then k)) → A} {f : Reading → ReadOutcome A} → Agrees (g then (h then k)) view f → Agrees ((g then h) then k) (λ t. view (t.0.0, (t.0.1, t.1))) f
agrees_assoc {g} {h} {k} {A} {view} F = record { same = λ stop s ls. F.same stop s ls ∙ by_first stop (read_tree g (misfit_at stop) s ls) }
  where
    whole : ParseTree ((g then h) then k) → A
    whole t = view (t.0.0, (t.0.1, t.1))

    by_third : (stop : ℕ) (a : ParseTree g) (b : ParseTree h) (o : TreeOutcome (ParseTree k)) → given view stop ((o ⟫ with_tree (pair_of b)) ⟫ with_tree (pair_of a)) ≡ given whole stop (o ⟫ with_tree (pair_of (a, b)))
    by_third stop a b (Ok c) = refl
    by_third stop a b (Err e) = refl

    by_second : (stop : ℕ) (a : ParseTree g) (o : TreeOutcome (ParseTree h))
        → given view stop ((o ⟫ λ b. read_tree k (misfit_at stop) b.1 b.2 ⟫ with_tree (pair_of b.0)) ⟫ with_tree (pair_of a))
        ≡ given whole stop ((o ⟫ with_tree (pair_of a)) ⟫ λ b. read_tree k (misfit_at stop) b.1 b.2 ⟫ with_tree (pair_of b.0))
    by_second stop a (Ok b) = by_third stop a b.0 (read_tree k (misfit_at stop) b.1 b.2)
    by_second stop a (Err e) = refl

    by_first : (stop : ℕ) (o : TreeOutcome (ParseTree g))
        → given view stop (o ⟫ λ a. (read_tree h (misfit_at stop) a.1 a.2 ⟫ λ b. read_tree k (misfit_at stop) b.1 b.2 ⟫ with_tree (pair_of b.0)) ⟫ with_tree (pair_of a.0))
        ≡ given whole stop ((o ⟫ λ a. read_tree h (misfit_at stop) a.1 a.2 ⟫ with_tree (pair_of a.0)) ⟫ λ b. read_tree k (misfit_at stop) b.1 b.2 ⟫ with_tree (pair_of b.0))
    by_first stop (Ok a) = by_second stop a.0 (read_tree h (misfit_at stop) a.1 a.2)
    by_first stop (Err e) = refl
