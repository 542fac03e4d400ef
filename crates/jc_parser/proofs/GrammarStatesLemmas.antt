-- About `TreeReader` of `jc_grammar`: what is left is no longer than what was there, the misfit is asked of this alone,
-- and no guard but one remembers names.
use Rattle.std.proofs.Common.{◌≡◌, ◌≤◌, inl, inr, Bool, true, false, cond, List, [], ◌∷◌, length, Result, Ok, Err, refl, sym, ap, ◌∙◌, arith}
use Rattle.std.specs.Prelude.{codes, nat_lt}
use Rattle.std.proofs.lemmas.Bool.{cases_Bool}
use Rattle.jc_grammar.specs.Symbols.{Lexeme}
use Rattle.jc_grammar.specs.SymbolTests.{value_of_symbol, numeral_value, is_word, is_reserved}
use Rattle.jc_grammar.specs.Classes.{Class, is_of}
use Rattle.jc_grammar.specs.Guards.{TextFault, Misfit, GuardState, Verdict, refuses, passes, Guard, small_index, free_binding, free_root, dot_seen, new_replica, no_selector, no_command, no_event, verdict_of}
use Rattle.jc_grammar.specs.Grammar.{Grammar, symbol, nothing, ◌then◌, ◌or◌, guarded, ParseTree, NoticedFault, verdict_at}
use Rattle.jc_grammar.specs.LookAhead.{begins_with_any, first_classes}
use Rattle.jc_grammar.specs.TreeReader.{TreeOutcome, ◌⟫◌, with_tree, pair_of, read_by, read_tree}
use Rattle.jc_grammar.specs.ScenarioGrammar.{script}
use Rattle.jc_grammar.proofs.LookAheadLemmas.{both_true}
use Rattle.jc_parser.proofs.GuardsLemmas.{all_guards, script_guards}

-- ---- guards that remember no names

abbrev pub names_nothing : Guard → Bool
names_nothing (new_replica most) = false
names_nothing c = true

abbrev pub keeps_names : Grammar → Bool
keeps_names g = all_guards names_nothing g

same_names : (s own : GuardState) → passes s ≡ passes own → own.names ≡ s.names
same_names s own h = let same : s ≡ own = cc in ap (λ (q : GuardState). q.names) (sym same)

not_passed : (e : TextFault) (own : GuardState) → refuses e ≡ passes own → ⊥
not_passed e own h = absurd cc

-- a verdict by a test
tested : (b : Bool) (s own : GuardState) (e : TextFault) → cond b (passes s) (refuses e) ≡ passes own → own.names ≡ s.names
tested true s own e h = same_names s own h
tested false s own e h = absurd (not_passed e own h)

freed : (b : Bool) (s own : GuardState) (e : TextFault) → cond b (refuses e) (passes s) ≡ passes own → own.names ≡ s.names
freed true s own e h = absurd (not_passed e own h)
freed false s own e h = same_names s own h

verdict_keeps : (c : Guard) (s : GuardState) (x : Lexeme) (own : GuardState) → names_nothing c ≡ true → verdict_of c s x ≡ passes own → own.names ≡ s.names
verdict_keeps small_index s x own free h = tested (nat_lt (numeral_value (value_of_symbol x.symbol)) 4294967296) s own _ h
verdict_keeps free_binding s x own free h = freed (is_reserved (value_of_symbol x.symbol)) s own _ h
verdict_keeps free_root s x own free h =
    elim (cases_Bool (is_word (codes "doc") x.symbol)) [
      | inl doc ↦ same_names s own (rw doc at h)
      | inr other ↦ freed (is_reserved (value_of_symbol x.symbol)) s own _ (rw other at h)
    ]
verdict_keeps dot_seen s x own free h = same_names (record s { dot = x.place }) own h
verdict_keeps (new_replica most) s x own free h = absurd cc
verdict_keeps no_selector s x own free h = absurd (not_passed _ own h)
verdict_keeps no_command s x own free h = absurd (not_passed _ own h)
verdict_keeps no_event s x own free h = absurd (not_passed _ own h)

-- ---- what a reader leaves

abbrev err_as : {A : Type 0} → NoticedFault → Result A NoticedFault
err_as e = Err e

abbrev ok_as : {A : Type 0} → A → Result A NoticedFault
ok_as x = Ok x

pub ok_bind : {A B : Type 0} (o : Result A NoticedFault) (f : A → Result B NoticedFault) (y : B) → (o ⟫ f) ≡ Ok y → (x : A) × (o ≡ Ok x) × (f x ≡ Ok y)
ok_bind (Ok x) f y h = (x, refl, h)
ok_bind (Err e) f y h = absurd cc

pub same_ok : {A : Type 0} (x y : A) → ok_as x ≡ Ok y → x ≡ y
same_ok x y h = cc

pub ok_with : {A B : Type 0} (o : TreeOutcome A) (f : A → B) (u : B) (own : GuardState) (rest : List Lexeme) → (o ⟫ with_tree f) ≡ Ok (u, own, rest) → (t : A) × (o ≡ Ok (t, own, rest)) × (f t ≡ u)
ok_with {A} {B} (Ok (t, s, l)) f u own rest h =
    let all = same_ok (f t, s, l) (u, own, rest) h in
    let state : s ≡ own = ap (λ (q : B × GuardState × List Lexeme). q.1) all in
    let left : l ≡ rest = ap (λ (q : B × GuardState × List Lexeme). q.2) all in
    (t, rw (state, left) refl, ap (λ (q : B × GuardState × List Lexeme). q.0) all)
ok_with (Err e) f u own rest h = absurd cc

-- what is left is no longer, and the names are the same where no guard remembers one
abbrev Keeps : Grammar → GuardState → List Lexeme → GuardState → List Lexeme → Type 0
Keeps g s ls own rest = (length rest ≤ length ls) × (keeps_names g ≡ true → own.names ≡ s.names)

at_most : (ls rest : List Lexeme) → ls ≡ rest → length rest ≤ length ls
at_most ls rest same = let long : length ls ≡ length rest = ap length same in omega (arith, long)

not_ok : {A : Type 0} (e : NoticedFault) (y : A) → err_as {A = A} e ≡ Ok y → ⊥
not_ok e y h = absurd cc

taken : (c : Class) (x : Lexeme) (s : GuardState) (xs : List Lexeme) (t : Lexeme) (own : GuardState) (rest : List Lexeme) → ok_as {A = Lexeme × GuardState × List Lexeme} (x, s, xs) ≡ Ok (t, own, rest) → Keeps (symbol c) s (x ∷ xs) own rest
taken c x s xs t own rest h =
    let all = same_ok (x, s, xs) (t, own, rest) h in
    let short : length rest ≤ length xs = at_most xs rest (ap (λ (q : Lexeme × GuardState × List Lexeme). q.2) all) in
    (omega (arith, short), λ free. sym (ap (λ (q : Lexeme × GuardState × List Lexeme). q.1.names) all))

pub verdict_at_keeps : (c : Guard) (s : GuardState) (ls : List Lexeme) (next : GuardState) → verdict_at c s ls ≡ passes next → names_nothing c ≡ true → next.names ≡ s.names
verdict_at_keeps c s [] next check free = same_names s next check
verdict_at_keeps c s (x ∷ xs) next check free = verdict_keeps c s x next free check

-- a part with a guard, where the part keeps what it should
guard_keeps : {A : Type 0} (c : Guard) (g : Grammar) (s : GuardState) (ls : List Lexeme) (t : A) (own : GuardState) (rest : List Lexeme) (read : GuardState → TreeOutcome A) → ((next : GuardState) → read next ≡ Ok (t, own, rest) → Keeps g next ls own rest)
    → (v : Verdict) → verdict_at c s ls ≡ v → read_by v ls read ≡ Ok (t, own, rest) → Keeps (guarded c g) s ls own rest
guard_keeps c g s ls t own rest read keeps (refuses f) check h = absurd (not_ok (record { fault = f; rest = ls }) (t, own, rest) h)
guard_keeps c g s ls t own rest read keeps (passes next) check h =
    let (short, names) = keeps next h in
    (short, λ free. (let (one, two) = both_true (names_nothing c) (keeps_names g) free in names two ∙ verdict_at_keeps c s ls next check one))

pub read_keeps : (g : Grammar) (misfit : Misfit) (s : GuardState) (ls : List Lexeme) (t : ParseTree g) (own : GuardState) (rest : List Lexeme) → read_tree g misfit s ls ≡ Ok (t, own, rest) → Keeps g s ls own rest
read_keeps (symbol c) misfit s [] t own rest h = absurd cc
read_keeps (symbol c) misfit s (x ∷ xs) t own rest h =
    elim (cases_Bool (is_of c x.symbol)) [
      | inl fits ↦ taken c x s xs t own rest (rw fits at h)
      | inr other ↦ absurd (not_ok (record { fault = misfit (x ∷ xs); rest = x ∷ xs }) (t, own, rest) (rw other at h))
    ]
read_keeps nothing misfit s ls t own rest h =
    let all = same_ok (tt, s, ls) (t, own, rest) h in
    (at_most ls rest (ap (λ (q : Unit {0} × GuardState × List Lexeme). q.2) all), λ free. sym (ap (λ (q : Unit {0} × GuardState × List Lexeme). q.1.names) all))
read_keeps (g then h) misfit s ls t own rest e =
    let (a, first, more) = ok_bind (read_tree g misfit s ls) (λ a. read_tree h misfit a.1 a.2 ⟫ with_tree (pair_of a.0)) (t, own, rest) e in
    let (b, second, same) = ok_with (read_tree h misfit a.1 a.2) (pair_of a.0) t own rest more in
    let (short, names) = read_keeps g misfit s ls a.0 a.1 a.2 first in
    let (shorter, later) = read_keeps h misfit a.1 a.2 b own rest second in
    (omega (arith, short, shorter), λ free. (let (one, two) = both_true (keeps_names g) (keeps_names h) free in later two ∙ names one))
read_keeps (g or h) misfit s ls t own rest e =
    elim (cases_Bool (begins_with_any (first_classes g []) ls)) [
      | inl fits ↦
          let (a, read, same) = ok_with (read_tree g misfit s ls) (λ a. inl a) t own rest (rw fits at e) in
          let (short, names) = read_keeps g misfit s ls a own rest read in
          (short, λ free. names (both_true (keeps_names g) (keeps_names h) free).0)
      | inr other ↦
          let (b, read, same) = ok_with (read_tree h misfit s ls) (λ b. inr b) t own rest (rw other at e) in
          let (short, names) = read_keeps h misfit s ls b own rest read in
          (short, λ free. names (both_true (keeps_names g) (keeps_names h) free).1)
    ]
read_keeps (guarded c g) misfit s ls t own rest e =
    elim (cases_Bool (begins_with_any (first_classes g []) ls)) [
      | inl fits ↦ guard_keeps c g s ls t own rest (λ next. read_tree g misfit next ls) (λ next read. read_keeps g misfit next ls t own rest read) (verdict_at c s ls) refl (rw fits at e)
      | inr other ↦
          let (short, names) = read_keeps g misfit s ls t own rest (rw other at e) in
          (short, λ free. names (both_true (names_nothing c) (keeps_names g) free).1)
    ]

pub script_keeps : keeps_names script ≡ true
script_keeps = script_guards names_nothing refl refl refl refl refl refl

-- ---- misfits

-- two misfits are the same of all that is no longer than this
abbrev pub AgreeTo : Misfit → Misfit → List Lexeme → Type 0
AgreeTo m n ls = (after : List Lexeme) → length after ≤ length ls → m after ≡ n after

agree_less : (m n : Misfit) (ls rest : List Lexeme) → length rest ≤ length ls → AgreeTo m n ls → AgreeTo m n rest
agree_less m n ls rest short agree = λ after less. agree after (omega (arith, short, less))

then_read : {A B C : Type 0} (pair : A → B → C) (f g : GuardState → List Lexeme → TreeOutcome B) (o : TreeOutcome A) → ((a : A) (own : GuardState) (rest : List Lexeme) → o ≡ Ok (a, own, rest) → f own rest ≡ g own rest)
    → (o ⟫ λ a. f a.1 a.2 ⟫ with_tree (pair a.0)) ≡ (o ⟫ λ a. g a.1 a.2 ⟫ with_tree (pair a.0))
then_read {A} {B} pair f g (Ok (a, own, rest)) same = ap (λ (o : TreeOutcome B). o ⟫ with_tree (pair a)) (same a own rest refl)
then_read pair f g (Err e) same = refl

guard_read : {A : Type 0} (o : TreeOutcome A) (f g : GuardState → TreeOutcome A) (ls : List Lexeme) → ((own : GuardState) → f own ≡ g own) → (b : Bool) (v : Verdict) → cond b (read_by v ls f) o ≡ cond b (read_by v ls g) o
guard_read o f g ls same false v = refl
guard_read o f g ls same true (refuses e) = refl
guard_read o f g ls same true (passes own) = same own

pub same_read : (g : Grammar) (m n : Misfit) (s : GuardState) (ls : List Lexeme) → AgreeTo m n ls → read_tree g m s ls ≡ read_tree g n s ls
same_read (symbol c) m n s [] agree = rw (agree [] (omega arith)) refl
same_read (symbol c) m n s (x ∷ xs) agree = rw (agree (x ∷ xs) (omega arith)) refl
same_read nothing m n s ls agree = refl
same_read (g then h) m n s ls agree =
    rw (same_read g m n s ls agree)
    (then_read (λ (a : ParseTree g). pair_of a) (read_tree h m) (read_tree h n) (read_tree g n s ls)
    (λ a own rest read. same_read h m n own rest (agree_less m n ls rest (read_keeps g n s ls a own rest read).0 agree)))
same_read (g or h) m n s ls agree = rw (same_read g m n s ls agree, same_read h m n s ls agree) refl
same_read (guarded c g) m n s ls agree = rw (same_read g m n s ls agree) (guard_read (read_tree g n s ls) (λ own. read_tree g m own ls) (λ own. read_tree g n own ls) ls (λ own. same_read g m n own ls agree) (begins_with_any (first_classes g []) ls) (verdict_at c s ls))
