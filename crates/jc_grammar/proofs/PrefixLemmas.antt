-- About `Faults`: a decided grammar's reader decides what begins with a tree, whatever comes behind it.
use Rattle.std.proofs.Common.{◌≡◌, inl, inr, true, ◌&&◌, List, [], ◌∷◌, ◌++◌, Option, None, Ok, refl, sym, ap, ◌∙◌}
use Rattle.std.specs.Prelude.{not}
use Rattle.jc_syntax.specs.declared.token.TokenKind.TheVariants.{Name, Number, Str, Dot, ParenL, ParenR, BraceL, BraceR, BracketL, BracketR, Comma, Semi, Assign, Equals}
use Rattle.jc_grammar.specs.Symbols.{Symbol, word, number, string, dot, open_paren, close_paren, open_brace, close_brace, open_bracket, close_bracket, comma, semicolon, assign, equals, Lexeme}
use Rattle.jc_grammar.specs.Classes.{Class, any}
use Rattle.jc_grammar.specs.Guards.{Misfit, GuardState, Verdict, refuses, passes}
use Rattle.jc_grammar.specs.Grammar.{Grammar, NoticedFault, symbol, nothing, ◌then◌, ◌or◌, guarded, ParseTree, leaves, first_of, verdict_at, state_after, refusal_by, first_refusal}
use Rattle.jc_grammar.specs.LookAhead.{is_of_any, may_be_empty, first_classes, all_are_apart, is_decided}
use Rattle.jc_grammar.specs.TreeReader.{◌⟫◌, read_tree}
use Rattle.jc_grammar.specs.Faults.{Language, IsTreeBefore}
use Rattle.jc_grammar.proofs.LookAheadLemmas.{both_true, not_true, follows, has_first}
use Rattle.jc_grammar.proofs.FaultsDecideLemmas.{TextFunction, Decides, decides_same}
use Rattle.jc_grammar.proofs.TreeReaderLemmas.{first_none, verdict_front, decides}
use Rattle.jc_grammar.proofs.LimitsLemmas.{both_none}

-- each kind of symbol
abbrev pub each_class : List Class
each_class =
    any Name ∷ any Number ∷ any Str ∷ any Dot ∷ any ParenL ∷ any ParenR ∷ any BraceL ∷ any BraceR ∷ any BracketL
    ∷ any BracketR ∷ any Comma ∷ any Semi ∷ any Assign ∷ any Equals ∷ []

of_some : (s : Symbol) → is_of_any each_class s ≡ true
of_some (word bytes) = refl
of_some (number bytes) = refl
of_some (string content) = refl
of_some dot = refl
of_some open_paren = refl
of_some close_paren = refl
of_some open_brace = refl
of_some close_brace = refl
of_some open_bracket = refl
of_some close_bracket = refl
of_some comma = refl
of_some semicolon = refl
of_some assign = refl
of_some equals = refl

any_follows : (ls : List Lexeme) → follows each_class ls ≡ true
any_follows [] = refl
any_follows (x ∷ xs) = of_some x.symbol

-- a tree, and what is left
abbrev pub read_front : (g : Grammar) → Misfit → GuardState → TextFunction (ParseTree g × List Lexeme)
read_front g misfit s ls = read_tree g misfit s ls ⟫ λ a. Ok (a.0, a.2)

abbrev Rest : {T : Type 0} → T → Language (T × List Lexeme)
Rest a t v w = (t ≡ (a, w)) × (v ≡ None)

rest_decides : {T : Type 0} (misfit : Misfit) (a : T) → Decides (Rest a) misfit (λ ls. Ok (a, ls))
rest_decides {T} misfit a = record {
  ok = λ ls t e. (cc, refl);
  again = λ t v ls l. rw (l.0, l.1) refl;
  err = λ ls e r. absurd cc;
}

pub decides_front : (g : Grammar) → is_decided g each_class ≡ true → (misfit : Misfit) (s : GuardState) → Decides (IsTreeBefore g s) misfit (read_front g misfit s)
decides_front g d misfit s =
    decides_same (read_front g misfit s) (λ ls. refl)
    (λ t v w a. rw a.next.0 (a.fit, sym (a.refusal_is ∙ ap (first_of (first_refusal g s a.tree a.rest)) a.next.1 ∙ first_none (first_refusal g s a.tree a.rest)), sym a.text_is))
    (λ t v w l. record { tree = t.0; rest = t.1; last = None; fit = l.0; next = (refl, refl); refusal_is = sym l.1 ∙ sym (first_none (first_refusal g s t.0 t.1)); text_is = sym l.2 })
    (decides g each_class d misfit s (λ a own. Rest a) (λ a own ls. Ok (a, ls))
    (λ a own. record {
      follow = λ t v w l. any_follows w;
      possible = ((a, []), None, [], (refl, refl));
      inside = λ t v w l. rw l.1 tt;
      decides = rest_decides misfit a;
    }))

-- ---- what is refused in a tree depends on nothing behind it

refused_behind : (v : Verdict) (a b : List Lexeme) (f g : GuardState → Option NoticedFault) → ((own : GuardState) → f own ≡ None → g own ≡ None) → refusal_by v a f ≡ None → refusal_by v b g ≡ None
refused_behind (refuses e) a b f g later none = absurd cc
refused_behind (passes own) a b f g later none = later own none

-- both sides of a choice are decided
sides : (g h : Grammar) (cs : List Class) → is_decided (g or h) cs ≡ true → (is_decided g cs ≡ true) × (is_decided h cs ≡ true)
sides g h cs d =
    let (own, rest) = both_true (not (may_be_empty g)) (all_are_apart (first_classes g []) (first_classes h cs) && (is_decided g cs && is_decided h cs)) d in
    let (other, both) = both_true (all_are_apart (first_classes g []) (first_classes h cs)) (is_decided g cs && is_decided h cs) rest in
    both_true (is_decided g cs) (is_decided h cs) both

pub refusal_same : (g : Grammar) (cs : List Class) → is_decided g cs ≡ true → (s : GuardState) (t : ParseTree g) (u v : List Lexeme) → first_refusal g s t u ≡ None → first_refusal g s t v ≡ None
refusal_same (symbol c) cs d s t u v none = refl
refusal_same nothing cs d s t u v none = refl
refusal_same (g then h) cs d s t u v none =
    let (one, two) = both_true (is_decided g (first_classes h cs)) (is_decided h cs) d in
    let (first, rest) = both_none (first_refusal g s t.0 (leaves h t.1 ++ u)) (first_refusal h (state_after g s t.0) t.1 u) none in
    rw (refusal_same g (first_classes h cs) one s t.0 (leaves h t.1 ++ u) (leaves h t.1 ++ v) first, refusal_same h cs two (state_after g s t.0) t.1 u v rest) refl
refusal_same (g or h) cs d s (inl a) u v none = refusal_same g cs (sides g h cs d).0 s a u v none
refusal_same (g or h) cs d s (inr b) u v none = refusal_same h cs (sides g h cs d).1 s b u v none
refusal_same (guarded c g) cs d s t u v none =
    let (own, one) = both_true (not (may_be_empty g)) (is_decided g cs) d in
    let first = has_first g t (not_true (may_be_empty g) own) in
    let here : refusal_by (verdict_at c s (leaves g t)) (leaves g t ++ u) (λ next. first_refusal g next t u) ≡ None = rw (verdict_front c s (leaves g t) u first) at none in
    rw (verdict_front c s (leaves g t) v first)
    (refused_behind (verdict_at c s (leaves g t)) (leaves g t ++ u) (leaves g t ++ v) (λ next. first_refusal g next t u) (λ next. first_refusal g next t v) (λ next rest. refusal_same g cs one next t u v rest) here)
