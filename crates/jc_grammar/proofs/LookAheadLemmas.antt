-- About `Symbols` and `Grammar`: which symbols come first.
use Rattle.std.proofs.Common.{◌≡◌, ℕ, ◌⊎◌, inl, inr, Bool, true, false, ◌&&◌, ◌||◌, List, [], ◌∷◌, ◌++◌, refl, sym, subst, ◌∙◌, append_assoc}
use Rattle.std.specs.Prelude.{not}
use Rattle.std.specs.Str.{bytes_eq}
use Rattle.std.proofs.lemmas.Bool.{cases_Bool, eqb-true, eq-eqb}
use Rattle.std.proofs.lemmas.List.{append-nil}
use Rattle.std.proofs.lemmas.Slice.Eq.{bytes_eq-Decides}
use Rattle.jc_grammar.specs.Symbols.{Symbol, word, number, Lexeme}
use Rattle.jc_grammar.specs.SymbolTests.{kind_of_symbol, number_of_kind, same_kind}
use Rattle.jc_grammar.specs.Classes.{Class, is_in, is_of, kind_of_class, are_apart, any, the_word, other_word, the_number, digits}
use Rattle.jc_grammar.specs.Grammar.{Grammar, ParseTree, leaves, FitsClasses, symbol, nothing, ◌then◌, ◌or◌, guarded}
use Rattle.jc_grammar.specs.LookAhead.{is_of_any, begins_with_any, may_be_empty, first_classes, is_apart_from, all_are_apart}

pub both_true : (a b : Bool) → (a && b) ≡ true → (a ≡ true) × (b ≡ true)
both_true true b e = (refl, e)
both_true false b e = absurd cc

pub cases_or : (a b : Bool) → (a || b) ≡ true → (a ≡ true) ⊎ (b ≡ true)
cases_or true b e = inl refl
cases_or false b e = inr e

or_left : (a b : Bool) → a ≡ true → (a || b) ≡ true
or_left true b e = refl
or_left false b e = absurd cc

or_right : (a b : Bool) → b ≡ true → (a || b) ≡ true
or_right true b e = refl
or_right false b e = e

neither : (a b : Bool) → a ≡ false → b ≡ false → (a || b) ≡ false
neither true b e f = absurd cc
neither false b e f = f

pub not_true : (a : Bool) → not a ≡ true → a ≡ false
not_true true e = absurd cc
not_true false e = refl

apart_words : (w v u : List ℕ) → not (bytes_eq v w) ≡ true → bytes_eq u w ≡ true → bytes_eq u v ≡ false
apart_words w v u e h =
    elim (cases_Bool (bytes_eq u v)) [
      | inl also ↦
          let both : bytes_eq v w ≡ true = rw (← (bytes_eq-Decides u v).0 also) h in
          let bad : not true ≡ true = rw both at e in
          absurd cc
      | inr other ↦ other
    ]

-- a symbol of a class is of its kind
kind_fits : (c : Class) (s : Symbol) → is_of c s ≡ true → number_of_kind (kind_of_symbol s) ≡ number_of_kind (kind_of_class c)
kind_fits (any kind) s h = eqb-true (number_of_kind (kind_of_symbol s)) (number_of_kind kind) h
kind_fits (the_word w) (word v) h = refl
kind_fits (the_word w) s h = absurd cc
kind_fits (other_word ws) (word own) h = refl
kind_fits (other_word ws) s h = absurd cc
kind_fits (the_number n) (number own) h = refl
kind_fits (the_number n) s h = absurd cc
kind_fits digits (number own) h = refl
kind_fits digits s h = absurd cc

apart_kinds : (c d : Class) (s : Symbol) → not (same_kind (kind_of_class c) (kind_of_class d)) ≡ true → is_of c s ≡ true → is_of d s ≡ false
apart_kinds c d s e h =
    elim (cases_Bool (is_of d s)) [
      | inl also ↦
          let one : number_of_kind (kind_of_class c) ≡ number_of_kind (kind_of_class d) = sym (kind_fits c s h) ∙ kind_fits d s also in
          let both : same_kind (kind_of_class c) (kind_of_class d) ≡ true = eq-eqb (number_of_kind (kind_of_class c)) (number_of_kind (kind_of_class d)) one in
          let bad : not true ≡ true = rw both at e in
          absurd cc
      | inr other ↦ other
    ]

pub apart_is : (c d : Class) (s : Symbol) → are_apart c d ≡ true → is_of c s ≡ true → is_of d s ≡ false
apart_is (the_word w) (the_word v) (word u) e h = apart_words w v u e h
apart_is (the_word w) (the_word v) s e h = absurd cc
apart_is (the_word w) (other_word ws) (word u) e h = rw ((bytes_eq-Decides u w).0 h, e) refl
apart_is (the_word w) (other_word ws) s e h = absurd cc
apart_is (other_word ws) (the_word w) (word u) e h =
    elim (cases_Bool (bytes_eq u w)) [
      | inl also ↦
          let here : is_in u ws ≡ true = rw ((bytes_eq-Decides u w).0 also) e in
          let bad : not true ≡ true = rw here at h in
          absurd cc
      | inr other ↦ other
    ]
apart_is (other_word ws) (the_word w) s e h = absurd cc
apart_is (the_number m) (the_number n) (number u) e h = apart_words m n u e h
apart_is (the_number m) (the_number n) s e h = absurd cc
apart_is c d s e h = apart_kinds c d s e h

-- ---- lists of classes

apart_one : (c : Class) (ds : List Class) (s : Symbol) → is_apart_from c ds ≡ true → is_of c s ≡ true → is_of_any ds s ≡ false
apart_one c [] s e h = refl
apart_one c (d ∷ ds) s e h =
    let (one, rest) = both_true (are_apart c d) (is_apart_from c ds) e in
    neither (is_of d s) (is_of_any ds s) (apart_is c d s one h) (apart_one c ds s rest h)

pub apart_any : (cs ds : List Class) (s : Symbol) → all_are_apart cs ds ≡ true → is_of_any cs s ≡ true → is_of_any ds s ≡ false
apart_any [] ds s e h = absurd cc
apart_any (c ∷ cs) ds s e h =
    let (one, rest) = both_true (is_apart_from c ds) (all_are_apart cs ds) e in
    elim (cases_or (is_of c s) (is_of_any cs s) h) [
      | inl here ↦ apart_one c ds s one here
      | inr later ↦ apart_any cs ds s rest later
    ]

any_left : (cs ds : List Class) (s : Symbol) → is_of_any cs s ≡ true → is_of_any (cs ++ ds) s ≡ true
any_left [] ds s h = absurd cc
any_left (c ∷ cs) ds s h =
    elim (cases_or (is_of c s) (is_of_any cs s) h) [
      | inl here ↦ or_left (is_of c s) (is_of_any (cs ++ ds) s) here
      | inr later ↦ or_right (is_of c s) (is_of_any (cs ++ ds) s) (any_left cs ds s later)
    ]

any_right : (cs ds : List Class) (s : Symbol) → is_of_any ds s ≡ true → is_of_any (cs ++ ds) s ≡ true
any_right [] ds s h = h
any_right (c ∷ cs) ds s h = or_right (is_of c s) (is_of_any (cs ++ ds) s) (any_right cs ds s h)

pub any_split : (cs ds : List Class) (s : Symbol) → is_of_any (cs ++ ds) s ≡ true → (is_of_any cs s ≡ true) ⊎ (is_of_any ds s ≡ true)
any_split [] ds s h = inr h
any_split (c ∷ cs) ds s h =
    elim (cases_or (is_of c s) (is_of_any (cs ++ ds) s) h) [
      | inl here ↦ inl (or_left (is_of c s) (is_of_any cs s) here)
      | inr later ↦
          elim (any_split cs ds s later) [
            | inl one ↦ inl (or_right (is_of c s) (is_of_any cs s) one)
            | inr two ↦ inr two
          ]
    ]

-- ---- what comes first

-- nothing comes, or one of these
abbrev pub follows : List Class → List Lexeme → Bool
follows cs [] = true
follows cs (x ∷ xs) = is_of_any cs x.symbol

follows_left : (cs ds : List Class) (ls : List Lexeme) → follows cs ls ≡ true → follows (cs ++ ds) ls ≡ true
follows_left cs ds [] h = refl
follows_left cs ds (x ∷ xs) h = any_left cs ds x.symbol h

follows_right : (cs ds : List Class) (ls : List Lexeme) → follows ds ls ≡ true → follows (cs ++ ds) ls ≡ true
follows_right cs ds [] h = refl
follows_right cs ds (x ∷ xs) h = any_right cs ds x.symbol h

pub starts : (g : Grammar) (after : List Class) (t : ParseTree g) (u : List Lexeme) → FitsClasses g t → follows after u ≡ true → follows (first_classes g after) (leaves g t ++ u) ≡ true
starts (symbol c) after x u fit h = or_left (is_of c x.symbol) false fit
starts nothing after t u fit h = h
starts (g then h) after t u fit f = rw append_assoc (starts g (first_classes h after) t.0 (leaves h t.1 ++ u) fit.0 (starts h after t.1 u fit.1 f))
starts (g or h) after (inl t) u fit f = follows_left (first_classes g after) (first_classes h after) (leaves g t ++ u) (starts g after t u fit f)
starts (g or h) after (inr t) u fit f = follows_right (first_classes g after) (first_classes h after) (leaves h t ++ u) (starts h after t u fit f)
starts (guarded c g) after t u fit f = starts g after t u fit f

-- it has a first lexeme
abbrev pub HasFirst : List Lexeme → Type 0
HasFirst ls = (x : Lexeme) × (xs : List Lexeme) × (ls ≡ x ∷ xs)

first_before : (a b : List Lexeme) → HasFirst a → HasFirst (a ++ b)
first_before a b (x, xs, e) = (x, xs ++ b, rw e refl)

first_after : (a b : List Lexeme) → HasFirst b → HasFirst (a ++ b)
first_after [] b h = h
first_after (x ∷ xs) b h = (x, xs ++ b, refl)

pub both_false : (a b : Bool) → (a && b) ≡ false → (a ≡ false) ⊎ (b ≡ false)
both_false true b e = inr e
both_false false b e = inl refl

pub one_false : (a b : Bool) → (a || b) ≡ false → (a ≡ false) × (b ≡ false)
one_false true b e = absurd cc
one_false false b e = (refl, e)

pub has_first : (g : Grammar) (t : ParseTree g) → may_be_empty g ≡ false → HasFirst (leaves g t)
has_first (symbol c) x e = (x, [], refl)
has_first nothing t e = absurd cc
has_first (g then h) t e =
    elim (both_false (may_be_empty g) (may_be_empty h) e) [
      | inl one ↦ first_before (leaves g t.0) (leaves h t.1) (has_first g t.0 one)
      | inr two ↦ first_after (leaves g t.0) (leaves h t.1) (has_first h t.1 two)
    ]
has_first (g or h) (inl t) e = has_first g t (one_false (may_be_empty g) (may_be_empty h) e).0
has_first (g or h) (inr t) e = has_first h t (one_false (may_be_empty g) (may_be_empty h) e).1
has_first (guarded c g) t e = has_first g t e

first_then : (cs : List Class) (a u : List Lexeme) → HasFirst a → follows cs a ≡ true → begins_with_any cs (a ++ u) ≡ true
first_then cs a u (x, xs, e) h = let here : follows cs (x ∷ xs) ≡ true = rw e at h in rw e here

-- what is never empty begins with one of its first symbols
pub starts_own : (g : Grammar) (t : ParseTree g) (u : List Lexeme) → may_be_empty g ≡ false → FitsClasses g t → begins_with_any (first_classes g []) (leaves g t ++ u) ≡ true
starts_own g t u e fit =
    first_then (first_classes g []) (leaves g t) u (has_first g t e)
    (subst (λ (w : List Lexeme). follows (first_classes g []) w ≡ true) (append-nil (leaves g t)) (starts g [] t [] fit refl))

-- what follows one list of classes does not begin with one of another that is apart
pub starts_other : (cs ds : List Class) (w : List Lexeme) → all_are_apart cs ds ≡ true → follows ds w ≡ true → begins_with_any cs w ≡ false
starts_other cs ds [] e h = refl
starts_other cs ds (x ∷ xs) e h =
    elim (cases_Bool (is_of_any cs x.symbol)) [
      | inl also ↦ let bad : is_of_any ds x.symbol ≡ false = apart_any cs ds x.symbol e also in absurd cc
      | inr other ↦ other
    ]

-- the first lexeme of two lists with one front
pub same_first : (cs : List Class) (before : List Lexeme) (x : Lexeme) (a b : List Lexeme) → begins_with_any cs (before ++ x ∷ a) ≡ begins_with_any cs (before ++ x ∷ b)
same_first cs [] x a b = refl
same_first cs (y ∷ before) x a b = refl
