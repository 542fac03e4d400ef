-- About `Sentences`: what a grammar says of lexemes is what its reader reads, and so is what a reader reads that agrees
-- with it. So lexemes are one sentence at most or have one fault.
use Rattle.std.proofs.Common.{◌≡◌, ◌≢◌, ℕ, ◌⊎◌, inl, inr, true, List, [], ◌∷◌, Some, None, Result, Ok, Err, refl, sym, ap, subst, ◌∙◌}
use Rattle.std.specs.Prelude.{IfOk, IfErr}
use Rattle.jc_rules.specs.declared.refusal.Refusal.{Refusal}
use Rattle.jc_rules.specs.declared.refusal.Refusal.TheVariants as refusals
use Rattle.jc_syntax.specs.declared.fault.LexFault.{LexFault}
use Rattle.jc_syntax.specs.declared.fault.LexFault.TheVariants as lexical
use Rattle.jc_grammar.specs.Symbols.{Lexeme}
use Rattle.jc_grammar.specs.Guards.{TextFault, Misfit, nothing_seen}
use Rattle.jc_grammar.specs.Grammar.{Grammar, ParseTree, NoticedFault}
use Rattle.jc_grammar.specs.LookAhead.{is_decided}
use Rattle.jc_grammar.specs.TreeReader.{TreeOutcome, ◌⟫◌, whole_of, read_tree, read_whole}
use Rattle.jc_grammar.specs.Faults.{Language}
use Rattle.jc_grammar.specs.ScenarioGrammar.{misfit_at}
use Rattle.jc_grammar.proofs.FaultsDecideLemmas.{TextFunction, Decides}
use Rattle.jc_grammar.proofs.TreeReaderLemmas.{decides_all}
use Rattle.jc_grammar.proofs.FaultsLemmas.{refused_so, fault_refused}
use Rattle.jc_parser.specs.declared.parse_fault.ParseFault.{ParseFault}
use Rattle.jc_parser.specs.declared.parse_fault.ParseFault.TheVariants as sentence
use Rattle.jc_parser.specs.declared.fault.ScenarioFault.{ScenarioFault}
use Rattle.jc_parser.specs.declared.fault.ScenarioFault.TheVariants.{BadByte, OpenString, BadEscape, LoneSurrogate, BadNumber, TextTooLong, Unexpected, EndOfText, IndexTooLarge, ReservedName, TooManyCommands, TooLongExpression, NotUtf8, NoHeader, SameName, NoReplica, TooManyReplicas, UnknownReplica, TooManyEvents, Memory}
use Rattle.jc_parser.specs.Faults.{from_lexer, from_sentence, IsOfSentence}
use Rattle.jc_parser.specs.ReaderState.{Reading, ReadOutcome, ◌>>=◌, MapsResult}
use Rattle.jc_parser.specs.PartReaders.{result_of_read}
use Rattle.jc_parser.specs.Sentences.{IsSentence, IsTextFault, IsLanguageFault, IsSentenceFault}
use Rattle.jc_parser.proofs.GrammarAgreesLemmas.{reading, refusal_as, fault_as, given, Agrees}
use Rattle.jc_parser.proofs.GuardsLemmas.{IsTold, no_memory, misfit_told, IsSentences, whole_kind}

-- ---- faults of both types

-- the refusal and the offset of a text's fault are that fault's
is_text_fault : (refusal : Refusal) (p : ℕ) → refusal_as refusal p ≢ Memory → IsTextFault (refusal_as refusal p) (record { refusal = refusal; offset = p })
is_text_fault refusals.BadByte p other = (refl, refl)
is_text_fault refusals.OpenString p other = (refl, refl)
is_text_fault refusals.BadEscape p other = (refl, refl)
is_text_fault refusals.LoneSurrogate p other = (refl, refl)
is_text_fault refusals.BadNumber p other = (refl, refl)
is_text_fault refusals.TextTooLong p other = (refl, refl)
is_text_fault refusals.Unexpected p other = (refl, refl)
is_text_fault refusals.EndOfText p other = (refl, refl)
is_text_fault refusals.IndexTooLarge p other = (refl, refl)
is_text_fault refusals.ReservedName p other = (refl, refl)
is_text_fault refusals.TooManyCommands p other = (refl, refl)
is_text_fault refusals.TooLongExpression p other = (refl, refl)
is_text_fault refusals.NotUtf8 p other = (refl, refl)
is_text_fault refusals.NoHeader p other = (refl, refl)
is_text_fault refusals.SameName p other = (refl, refl)
is_text_fault refusals.NoReplica p other = (refl, refl)
is_text_fault refusals.TooManyReplicas p other = (refl, refl)
is_text_fault refusals.UnknownReplica p other = (refl, refl)
is_text_fault refusals.TooManyEvents p other = (refl, refl)
is_text_fault refusal p other = absurd (other refl)

pub text_fault : (fault : ScenarioFault) (own : TextFault) → fault ≢ Memory → fault_as own ≡ fault → IsTextFault fault own
text_fault fault own other same = subst (λ (e : ScenarioFault). IsTextFault e own) same (is_text_fault own.refusal own.offset (λ memory. other (sym same ∙ memory)))

told : (refusal : Refusal) (p : ℕ) (own : TextFault) → Some refusal ≡ Some own.refusal → Some p ≡ Some own.offset → fault_as own ≡ refusal_as refusal p
told refusal p own a b =
    let same : own.refusal ≡ refusal = cc in
    let here : own.offset ≡ p = cc in
    ap (λ (r : Refusal). refusal_as r own.offset) same ∙ ap (refusal_as refusal) here

pub same_fault : (fault : ScenarioFault) (own : TextFault) → IsTextFault fault own → fault_as own ≡ fault
same_fault (BadByte p) own (a, b) = told refusals.BadByte p own a b
same_fault (OpenString p) own (a, b) = told refusals.OpenString p own a b
same_fault (BadEscape p) own (a, b) = told refusals.BadEscape p own a b
same_fault (LoneSurrogate p) own (a, b) = told refusals.LoneSurrogate p own a b
same_fault (BadNumber p) own (a, b) = told refusals.BadNumber p own a b
same_fault (TextTooLong p) own (a, b) = told refusals.TextTooLong p own a b
same_fault (Unexpected p) own (a, b) = told refusals.Unexpected p own a b
same_fault (EndOfText p) own (a, b) = told refusals.EndOfText p own a b
same_fault (IndexTooLarge p) own (a, b) = told refusals.IndexTooLarge p own a b
same_fault (ReservedName p) own (a, b) = told refusals.ReservedName p own a b
same_fault (TooManyCommands p) own (a, b) = told refusals.TooManyCommands p own a b
same_fault (TooLongExpression p) own (a, b) = told refusals.TooLongExpression p own a b
same_fault (NotUtf8 p) own (a, b) = told refusals.NotUtf8 p own a b
same_fault (NoHeader p) own (a, b) = told refusals.NoHeader p own a b
same_fault (SameName p) own (a, b) = told refusals.SameName p own a b
same_fault (NoReplica p) own (a, b) = told refusals.NoReplica p own a b
same_fault (TooManyReplicas p) own (a, b) = told refusals.TooManyReplicas p own a b
same_fault (UnknownReplica p) own (a, b) = told refusals.UnknownReplica p own a b
same_fault (TooManyEvents p) own (a, b) = told refusals.TooManyEvents p own a b
same_fault Memory own (a, b) = absurd cc

-- ---- what is read is exactly what is so

pub record IsExactly {A : Type 0} (Is : A → Type 0) (IsFault : ScenarioFault → Type 0) (read : Result A ScenarioFault) : Type 0 where
  pub ok : (a : A) → read ≡ Ok a → Is a
  pub again : (a : A) → Is a → read ≡ Ok a
  pub err : (e : ScenarioFault) → read ≡ Err e → IsFault e
  pub refused : (e : ScenarioFault) → IsFault e → read ≡ Err e

-- the same, of what is read otherwise
pub exactly_so : {A : Type 0} {Is : A → Type 0} {F : ScenarioFault → Type 0} {read : Result A ScenarioFault} (other : Result A ScenarioFault) → other ≡ read → IsExactly Is F read → IsExactly Is F other
exactly_so other same p = rw same p

-- one at most; no fault beside it; it or a fault; one fault at most
pub one_of : {A : Type 0} {Is : A → Type 0} {F : ScenarioFault → Type 0} {read : Result A ScenarioFault} → IsExactly Is F read → (a b : A) → Is a → Is b → a ≡ b
one_of {A} p a b one two = let both : as_ok a ≡ Ok b = sym (p.again a one) ∙ p.again b two in cc
  where
    as_ok : A → Result A ScenarioFault
    as_ok x = Ok x

pub none_beside : {A : Type 0} {Is : A → Type 0} {F : ScenarioFault → Type 0} {read : Result A ScenarioFault} → IsExactly Is F read → (a : A) (e : ScenarioFault) → Is a → F e → ⊥
none_beside {A} p a e is fault = let both : as_ok a ≡ Err e = sym (p.again a is) ∙ p.refused e fault in cc
  where
    as_ok : A → Result A ScenarioFault
    as_ok x = Ok x

pub one_or_fault : {A : Type 0} {Is : A → Type 0} {F : ScenarioFault → Type 0} {read : Result A ScenarioFault} → IsExactly Is F read → ((a : A) × Is a) ⊎ ((e : ScenarioFault) × F e)
one_or_fault {A} {Is} {F} {read} p = by_read read refl
  where
    by_read : (r : Result A ScenarioFault) → read ≡ r → ((a : A) × Is a) ⊎ ((e : ScenarioFault) × F e)
    by_read (Ok a) h = inl (a, p.ok a h)
    by_read (Err e) h = inr (e, p.err e h)

pub one_fault_of : {A : Type 0} {Is : A → Type 0} {F : ScenarioFault → Type 0} {read : Result A ScenarioFault} → IsExactly Is F read → (d e : ScenarioFault) → F d → F e → d ≡ e
one_fault_of {A} p d e one two = let both : as_err d ≡ Err e = sym (p.refused d one) ∙ p.refused e two in cc
  where
    as_err : ScenarioFault → Result A ScenarioFault
    as_err x = Err x

-- as the clauses have it, of what a function returns
pub tree_so : {X A : Type 0} {Is : A → Type 0} {F : ScenarioFault → Type 0} {read : Result A ScenarioFault} → IsExactly Is F read → (view : X → A) (result : Result X ScenarioFault) → MapsResult view result read → IfOk result (λ x. Is (view x))
tree_so p view (Ok x) h = p.ok (view x) h
tree_so p view (Err e) h = tt

pub fault_so : {X A : Type 0} {Is : A → Type 0} {F : ScenarioFault → Type 0} {read : Result A ScenarioFault} → IsExactly Is F read → (view : X → A) (result : Result X ScenarioFault) → MapsResult view result read → IfErr result (λ e. e ≢ Memory → F e)
fault_so p view (Ok x) h = tt
fault_so p view (Err e) h = λ other. p.err e (h other)

-- ---- a grammar's reader

-- what is read of a whole tree, by a function
abbrev pub given_whole : {T A : Type 0} → (T → A) → Result T NoticedFault → Result A ScenarioFault
given_whole view (Ok t) = Ok (view t)
given_whole view (Err e) = Err (fault_as e.fault)

given_ok : {T A : Type 0} (view : T → A) (r : Result T NoticedFault) (a : A) → given_whole view r ≡ Ok a → (t : T) × (r ≡ Ok t) × (a ≡ view t)
given_ok view (Ok t) a h = (t, refl, cc)
given_ok view (Err e) a h = absurd cc

pub given_err : {T A : Type 0} (view : T → A) (r : Result T NoticedFault) (e : ScenarioFault) → given_whole view r ≡ Err e → (d : NoticedFault) × (r ≡ Err d) × (fault_as d.fault ≡ e)
given_err view (Ok t) e h = absurd cc
given_err view (Err d) e h = (d, refl, cc)

-- lexemes that a tree of a language is spelled with, and what it says
abbrev pub IsIn : {T A : Type 0} → Language T → (T → A) → List Lexeme → A → Type 0
IsIn {T} L view ls a = (t : T) × L t None ls × (a ≡ view t)

-- a function that decides a language reads exactly what is in it
pub decides_exactly : {T A : Type 0} {L : Language T} {misfit : Misfit} {f : TextFunction T} → Decides L misfit f → (view : T → A) (ls : List Lexeme) → ((e : NoticedFault) → f ls ≡ Err e → IsTold (fault_as e.fault))
    → IsExactly (IsIn L view ls) (IsLanguageFault L misfit ls) (given_whole view (f ls))
decides_exactly {T} {A} {L} {misfit} {f} D view ls told_of = record { ok = ok; again = again; err = err; refused = refused }
  where
    ok : (a : A) → given_whole view (f ls) ≡ Ok a → IsIn L view ls a
    ok a h = let (t, read, is) = given_ok view (f ls) a h in (t, D.ok ls t read, is)

    again : (a : A) → IsIn L view ls a → given_whole view (f ls) ≡ Ok a
    again a (t, text, is) = rw (D.again t None ls text, is) refl

    err : (e : ScenarioFault) → given_whole view (f ls) ≡ Err e → IsLanguageFault L misfit ls e
    err e h =
        let (d, read, is) = given_err view (f ls) e h in
        (d.fault, refused_so D ls d.fault (d.rest, read), text_fault e d.fault (λ memory. told_of d read (is ∙ memory)) is)

    refused : (e : ScenarioFault) → IsLanguageFault L misfit ls e → given_whole view (f ls) ≡ Err e
    refused e (own, is, text) =
        let (rest, read) = fault_refused D ls own is in
        rw read (ap (λ (x : ScenarioFault). Err x) (same_fault e own text))

pub reads_exactly : {A : Type 0} (g : Grammar) → is_decided g [] ≡ true → (misfit : Misfit) → ((after : List Lexeme) → IsTold (fault_as (misfit after))) → (view : ParseTree g → A) (ls : List Lexeme)
    → IsExactly (IsSentence g view ls) (IsSentenceFault g misfit ls) (given_whole view (read_whole g misfit nothing_seen ls))
reads_exactly g decided misfit told_of view ls =
    let p = decides_exactly (decides_all g decided misfit nothing_seen) view ls (λ e h. no_memory misfit told_of g nothing_seen ls e h) in
    record {
      ok = λ a h. (let (t, text, is) = p.ok a h in record { tree = t; text = text; is = is });
      again = λ a s. p.again a (s.tree, s.text, s.is);
      err = p.err;
      refused = p.refused;
    }

-- a reader that agrees with a grammar, up to the end
whole_same : {A : Type 0} {g : Grammar} {view : ParseTree g → A} {f : Reading → ReadOutcome A} → Agrees g view f → (stop : ℕ) (ls : List Lexeme) → (f (reading stop ls) >>= result_of_read) ≡ given_whole view (read_whole g (misfit_at stop) nothing_seen ls)
whole_same {A} {g} {view} F stop ls = ap (λ (o : ReadOutcome A). o >>= result_of_read) (F.same stop nothing_seen ls) ∙ by_rest (read_tree g (misfit_at stop) nothing_seen ls)
  where
    by_rest : (o : TreeOutcome (ParseTree g)) → (given view stop o >>= result_of_read) ≡ given_whole view (o ⟫ λ a. whole_of (misfit_at stop) a.0 a.2)
    by_rest (Ok (t, s, [])) = refl
    by_rest (Ok (t, s, x ∷ xs)) = refl
    by_rest (Err e) = refl

-- what is read whole by a reader that agrees with a decided grammar is exactly its sentence
pub agrees_exactly : {A : Type 0} {g : Grammar} {view : ParseTree g → A} {f : Reading → ReadOutcome A} → Agrees g view f → is_decided g [] ≡ true → (r : Reading)
    → IsExactly (IsSentence g view r.left) (IsSentenceFault g (misfit_at r.stop) r.left) (f r >>= result_of_read)
agrees_exactly {A} {g} {view} {f} F decided r = exactly_so (f r >>= result_of_read) (whole_same F r.stop r.left) (reads_exactly g decided (misfit_at r.stop) (misfit_told r.stop) view r.left)

-- ---- faults of sentences

-- want of memory aside
pub kind_is : (e : ScenarioFault) → (e ≢ Memory → IsOfSentence e) → IsOfSentence e
kind_is Memory h = (sentence.Memory, refl)
kind_is _ h = h (λ e. cc)

pub lexical_is : (d : LexFault) → IsOfSentence (from_lexer d)
lexical_is (lexical.BadByte p) = (sentence.BadByte p, refl)
lexical_is (lexical.OpenString p) = (sentence.OpenString p, refl)
lexical_is (lexical.BadEscape p) = (sentence.BadEscape p, refl)
lexical_is (lexical.LoneSurrogate p) = (sentence.LoneSurrogate p, refl)
lexical_is (lexical.BadNumber p) = (sentence.BadNumber p, refl)
lexical_is (lexical.TextTooLong p) = (sentence.TextTooLong p, refl)
lexical_is lexical.Memory = (sentence.Memory, refl)

pub memory_is : (e : ParseFault) → from_sentence e ≡ Memory → e ≡ sentence.Memory
memory_is sentence.Memory h = refl
memory_is e h = absurd cc

-- and its fault is one of sentences where its guards are
pub kind_so : {X A : Type 0} {g : Grammar} {view : ParseTree g → A} {f : Reading → ReadOutcome A} → Agrees g view f → IsSentences g → (r : Reading) (own : X → A) (result : Result X ScenarioFault) → MapsResult own result (f r >>= result_of_read) → IfErr result IsOfSentence
kind_so F guards r own (Ok x) h = tt
kind_so {g} {view} {f} F guards r own (Err e) h = kind_is e (λ kept. of_read e (h kept))
  where
    of_read : (d : ScenarioFault) → (f r >>= result_of_read) ≡ Err d → IsOfSentence d
    of_read d read =
        let (own, refused, is) = given_err view (read_whole g (misfit_at r.stop) nothing_seen r.left) d (sym (whole_same F r.stop r.left) ∙ read) in
        subst IsOfSentence is (whole_kind g guards r.stop nothing_seen r.left own refused)
