-- Tokens that are a prefix of others, and what such a prefix is, for scripts and events among tokens.
use Rattle.std.proofs.Common.{◌≡◌, ◌≢◌, ℕ, ◌+◌, ◌-◌, ◌≤◌, ◌⊎◌, inl, inr, true, List, [], ◌++◌, length, take, drop, Result, Ok, Err, refl, sym, ap, subst, ◌∙◌, arith}
use Rattle.std.specs.Prelude.{slice_range}
use Rattle.std.proofs.Math.Seq.{take-append_seam, take-length}
use Rattle.std.proofs.lemmas.List.{length-append, length-drop, length-map, map-append, take-map}
use Rattle.std.proofs.lemmas.List.Folds.{drop_split}
use Rattle.jc_syntax.specs.declared.token.Token.{Token}
use Rattle.jc_grammar.specs.Symbols.{Lexeme, lexeme, lexemes}
use Rattle.jc_grammar.specs.Guards.{GuardState, nothing_seen}
use Rattle.jc_grammar.specs.Grammar.{Grammar, ParseTree, NoticedFault, leaves}
use Rattle.jc_grammar.specs.LookAhead.{is_decided}
use Rattle.jc_grammar.specs.TreeReader.{TreeOutcome, ◌⟫◌, read_tree}
use Rattle.jc_grammar.specs.Faults.{IsTreeBefore}
use Rattle.jc_grammar.specs.ScenarioGrammar.{misfit_at}
use Rattle.jc_grammar.proofs.PrefixLemmas.{each_class, read_front, decides_front, refusal_same}
use Rattle.jc_parser.specs.declared.fault.ScenarioFault.{ScenarioFault}
use Rattle.jc_parser.specs.declared.fault.ScenarioFault.TheVariants.{Memory}
use Rattle.jc_parser.specs.Faults.{IsOfSentence}
use Rattle.jc_parser.specs.ReaderState.{Reading, ReadOutcome, reading_of}
use Rattle.jc_parser.specs.Sentences.{IsSentence, IsPrefixFault, IsAhead}
use Rattle.jc_parser.proofs.GrammarAgreesLemmas.{fault_as, given, Agrees}
use Rattle.jc_parser.proofs.GuardsLemmas.{no_memory_ahead, misfit_told, IsSentences, sentence_kind}
use Rattle.jc_parser.proofs.SentencesLemmas.{IsExactly, exactly_so, given_whole, IsIn, decides_exactly, one_of, none_beside, one_or_fault, one_fault_of, kind_is}

-- from one token on up to where so many are left stand these lexemes
pub record AreFront (text : List ℕ) (tokens : List Token) (from next : ℕ) (before : List Lexeme) : Type 0 where
  pub ordered : from ≤ next
  pub ends : next ≤ length tokens
  pub are : lexemes text (slice_range tokens from next) ≡ before

pub are_front : (text : List ℕ) (tokens : List Token) (from left : ℕ) (before after : List Lexeme) → from ≤ length tokens → lexemes text (drop from tokens) ≡ before ++ after → left ≡ length after → AreFront text tokens from (length tokens - left) before
are_front text tokens from left before after within parts count =
    let all : length (lexemes text (drop from tokens)) ≡ length (drop from tokens) = length-map (drop from tokens) (lexeme text) in
    let rest : length (drop from tokens) ≡ length tokens - from = length-drop from tokens in
    let both : length (before ++ after) ≡ length before + length after = length-append before after in
    let same : length (lexemes text (drop from tokens)) ≡ length (before ++ after) = ap length parts in
    let long : length tokens - left - from ≡ length before = omega arith in
    let front : lexemes text (slice_range tokens from (length tokens - left)) ≡ before =
    sym (take-map (lexeme text) (length tokens - left - from) (drop from tokens)) ∙ ap (λ (l : List Lexeme). take (length tokens - left - from) l) parts ∙ ap (λ n. take n (before ++ after)) long ∙ take-append_seam before after in
    record { ordered = omega arith; ends = omega arith; are = front }

-- a slice from a token on is the rest of the tokens
pub rest_of : (tokens : List Token) (from : ℕ) → take (length tokens - from) (drop from tokens) ≡ drop from tokens
rest_of tokens from = ap (λ n. take n (drop from tokens)) (sym (length-drop from tokens)) ∙ take-length (drop from tokens)

pub parts_at : (text : List ℕ) (tokens : List Token) (from next : ℕ) → from ≤ next → lexemes text (drop from tokens) ≡ lexemes text (slice_range tokens from next) ++ lexemes text (drop next tokens)
parts_at text tokens from next ordered = ap (lexemes text) (drop_split tokens from next ordered) ∙ map-append (lexeme text) (slice_range tokens from next) (drop next tokens)

-- as many lexemes are left as tokens
pub left_same : (text : List ℕ) (tokens : List Token) (next other : ℕ) → next ≤ length tokens → other ≤ length tokens → lexemes text (drop next tokens) ≡ lexemes text (drop other tokens) → next ≡ other
left_same text tokens next other ends other_ends same =
    let both : length (lexemes text (drop next tokens)) ≡ length (lexemes text (drop other tokens)) = ap length same in
    let one : length (lexemes text (drop next tokens)) ≡ length (drop next tokens) = length-map (drop next tokens) (lexeme text) in
    let two : length (lexemes text (drop other tokens)) ≡ length (drop other tokens) = length-map (drop other tokens) (lexeme text) in
    let three : length (drop next tokens) ≡ length tokens - next = length-drop next tokens in
    let four : length (drop other tokens) ≡ length tokens - other = length-drop other tokens in
    omega arith

-- ---- what is read of the front

-- the reader reads trees of a grammar that is decided whatever comes behind, and whose guards are those of sentences
pub record IsAheadReader (g : Grammar) {A : Type 0} (view : ParseTree g → A) (f : Reading → ReadOutcome A) : Type 0 where
  pub agrees : Agrees g view f
  pub decided : is_decided g each_class ≡ true
  pub sentences : IsSentences g

-- the tokens from one number up to another are this
pub record IsFrom (g : Grammar) {A : Type 0} (view : ParseTree g → A) (text : List ℕ) (tokens : List Token) (from : ℕ) (a : A) (next : ℕ) : Type 0 where
  pub ordered : from ≤ next
  pub ends : next ≤ length tokens
  pub sentence : IsSentence g view (lexemes text (slice_range tokens from next)) a

-- a result, and the lexemes that are left
abbrev front_of : {A : Type 0} → ReadOutcome A → Result (A × List Lexeme) ScenarioFault
front_of (Ok x) = Ok (x.0, x.1.left)
front_of (Err e) = Err e

module _ {g : Grammar} {A : Type 0} {view : ParseTree g → A} {f : Reading → ReadOutcome A} (F : IsAheadReader g view f) where
  -- what a tree says, and the lexemes behind it
  abbrev Front : ParseTree g × List Lexeme → A × List Lexeme
  Front t = (view t.0, t.1)

  abbrev IsFront : List Lexeme → A × List Lexeme → Type 0
  IsFront ls x = IsIn (IsTreeBefore g nothing_seen) Front ls x

  -- a tree, and the lexemes behind it
  abbrev kept : ParseTree g × GuardState × List Lexeme → Result (ParseTree g × List Lexeme) NoticedFault
  kept a = Ok (a.0, a.2)

  front_same : (r : Reading) → front_of (f r) ≡ given_whole Front (read_front g (misfit_at r.stop) nothing_seen r.left)
  front_same r = ap front_of (F.agrees.same r.stop nothing_seen r.left) ∙ by_read (read_tree g (misfit_at r.stop) nothing_seen r.left)
    where
      by_read : (o : TreeOutcome (ParseTree g)) → front_of (given view r.stop o) ≡ given_whole Front (o ⟫ kept)
      by_read (Ok (t, s, rest)) = refl
      by_read (Err e) = refl

  front_err : (o : TreeOutcome (ParseTree g)) (e : NoticedFault) → (o ⟫ kept) ≡ Err e → o ≡ Err e
  front_err (Ok a) e h = absurd cc
  front_err (Err d) e h = cc

  front_exactly : (r : Reading) → IsExactly (IsFront r.left) (IsPrefixFault g r) (front_of (f r))
  front_exactly r =
      exactly_so (front_of (f r)) (front_same r)
      (decides_exactly (decides_front g F.decided (misfit_at r.stop) nothing_seen) Front r.left
      (λ e h. no_memory_ahead (misfit_at r.stop) (misfit_told r.stop) g nothing_seen r.left e (front_err (read_tree g (misfit_at r.stop) nothing_seen r.left) e h)))

  -- the sentence in front, and what is behind it
  front_parts : (ls : List Lexeme) (a : A) (rest : List Lexeme) → IsFront ls (a, rest) → (before : List Lexeme) × (ls ≡ before ++ rest) × IsSentence g view before a
  front_parts ls a rest (t, (fits, none, text), is) =
      let behind : t.1 ≡ rest = sym (ap (λ (x : A × List Lexeme). x.1) is) in
      (leaves g t.0, sym text ∙ ap (λ (l : List Lexeme). leaves g t.0 ++ l) behind, record { tree = t.0; text = (fits, refusal_same g each_class F.decided nothing_seen t.0 t.1 [] none, refl); is = ap (λ (x : A × List Lexeme). x.0) is })

  parts_front : (ls before rest : List Lexeme) (a : A) → ls ≡ before ++ rest → IsSentence g view before a → IsFront ls (a, rest)
  parts_front ls before rest a parts s =
      let (fits, none, text) = s.text in
      ((s.tree, rest), (fits, refusal_same g each_class F.decided nothing_seen s.tree [] rest none, ap (λ (l : List Lexeme). l ++ rest) text ∙ sym parts), ap (λ (x : A). (x, rest)) s.is)

  pub ahead_ok : (r s : Reading) (a : A) → f r ≡ Ok (a, s) → IsAhead (IsSentence g view) r.left a (length s.left)
  ahead_ok r s a h =
      let (before, parts, is) = front_parts r.left a s.left ((front_exactly r).ok (a, s.left) (ap front_of h)) in
      record { before = before; after = s.left; parts = parts; sentence = is; count = refl }

  pub ahead_err : (r : Reading) (d : ScenarioFault) → f r ≡ Err d → IsPrefixFault g r d
  ahead_err r d h = (front_exactly r).err d (ap front_of h)

  pub ahead_kind : (r : Reading) (d : ScenarioFault) → (d ≢ Memory → f r ≡ Err d) → IsOfSentence d
  ahead_kind r d h = kind_is d (λ kept. by_read (read_tree g (misfit_at r.stop) nothing_seen r.left) refl (sym (F.agrees.same r.stop nothing_seen r.left) ∙ h kept))
    where
      by_read : (o : TreeOutcome (ParseTree g)) → read_tree g (misfit_at r.stop) nothing_seen r.left ≡ o → given view r.stop o ≡ Err d → IsOfSentence d
      by_read (Ok a) read same = absurd cc
      by_read (Err e) read same = let is : fault_as e.fault ≡ d = cc in subst IsOfSentence is (sentence_kind g F.sentences r.stop nothing_seen r.left e read)

  -- ---- among the tokens of a text

  -- the lexemes up to the next token are the sentence's
  pub at_front : (text : List ℕ) (tokens : List Token) (from : ℕ) (a : A) (left : ℕ) → from ≤ length tokens → IsAhead (IsSentence g view) (lexemes text (drop from tokens)) a left → IsFrom g view text tokens from a (length tokens - left)
  at_front text tokens from a left within s =
      let front = are_front text tokens from left s.before s.after within s.parts s.count in
      record { ordered = front.ordered; ends = front.ends; sentence = subst (λ (ls : List Lexeme). IsSentence g view ls a) (sym front.are) s.sentence }

  is_front : (text : List ℕ) (tokens : List Token) (from : ℕ) (a : A) (next : ℕ) → IsFrom g view text tokens from a next → IsFront (lexemes text (drop from tokens)) (a, lexemes text (drop next tokens))
  is_front text tokens from a next is = parts_front (lexemes text (drop from tokens)) (lexemes text (slice_range tokens from next)) (lexemes text (drop next tokens)) a (parts_at text tokens from next is.ordered) is.sentence

  pub one_from : (text : List ℕ) (tokens : List Token) (from : ℕ) (a b : A) (next other : ℕ) → IsFrom g view text tokens from a next → IsFrom g view text tokens from b other → (a ≡ b) × (next ≡ other)
  one_from text tokens from a b next other one two =
      let same = one_of (front_exactly (reading_of text (drop from tokens))) (a, lexemes text (drop next tokens)) (b, lexemes text (drop other tokens)) (is_front text tokens from a next one) (is_front text tokens from b other two) in
      (ap (λ (x : A × List Lexeme). x.0) same, left_same text tokens next other one.ends two.ends (ap (λ (x : A × List Lexeme). x.1) same))

  pub none_beside_from : (text : List ℕ) (tokens : List Token) (from : ℕ) (a : A) (next : ℕ) (e : ScenarioFault) → IsFrom g view text tokens from a next → IsPrefixFault g (reading_of text (drop from tokens)) e → ⊥
  none_beside_from text tokens from a next e is fault = none_beside (front_exactly (reading_of text (drop from tokens))) (a, lexemes text (drop next tokens)) e (is_front text tokens from a next is) fault

  pub some_from : (text : List ℕ) (tokens : List Token) (from : ℕ) → from ≤ length tokens → ((a : A) × (left : ℕ) × IsAhead (IsSentence g view) (lexemes text (drop from tokens)) a left) ⊎ ((e : ScenarioFault) × IsPrefixFault g (reading_of text (drop from tokens)) e)
  some_from text tokens from within =
      elim (one_or_fault (front_exactly (reading_of text (drop from tokens)))) [
        | inl (x, is) ↦
            let (before, parts, own) = front_parts (lexemes text (drop from tokens)) x.0 x.1 is in
            inl (x.0, length x.1, record { before = before; after = x.1; parts = parts; sentence = own; count = refl })
        | inr fault ↦ inr fault
      ]

  pub one_fault_from : (text : List ℕ) (tokens : List Token) (from : ℕ) (d e : ScenarioFault) → IsPrefixFault g (reading_of text (drop from tokens)) d → IsPrefixFault g (reading_of text (drop from tokens)) e → d ≡ e
  one_fault_from text tokens from d e one two = one_fault_of (front_exactly (reading_of text (drop from tokens))) d e one two
