-- About `Places`: the tokens of a tree of the language are blocks, with the commands or events in them. `places` uses it.
use Rattle.std.proofs.Common.{◌≡◌, ◌≢◌, ℕ, zero, suc, ◌-◌, List, [], ◌∷◌, ◌++◌, inl, inr, Bool, true, false, ◌&&◌, refl, ap, sym, subst, ◌∙◌, append_assoc, append-nil}
use Rattle.std.specs.Prelude.{codes}
use Rattle.std.proofs.lemmas.Slice.Eq.{bytes_eq-Decides}
use Rattle.jc_rules.specs.declared.limits.TheConstants.{MAX_SELECTORS, MAX_COMMANDS, MAX_REPLICAS, MAX_EVENTS}
use Rattle.jc_rules.specs.declared.version.Version.{Version}
use Rattle.jc_rules.specs.declared.version.Version.TheVariants.{One, Two}
use Rattle.jc_syntax.specs.declared.token.Token.{Token}
use Rattle.jc_syntax.specs.declared.token.TokenKind.{TokenKind}
use Rattle.jc_syntax.specs.declared.token.TokenKind.TheVariants.{Name, Number, Str, ParenL, ParenR, BraceL, BraceR, BracketL, BracketR, Semi, Assign, Equals}
use Rattle.jc_syntax.specs.Lexemes.{token_bytes, token_content}
use Rattle.jc_grammar.specs.Symbols.{Lexeme, lexeme, lexemes, symbol_of}
use Rattle.jc_grammar.specs.Classes.{Class, any, the_word, the_number, is_of}
use Rattle.jc_grammar.specs.Guards.{Guard, no_selector, no_command, no_event, new_replica, free_binding}
use Rattle.jc_grammar.specs.Grammar.{Grammar, symbol, nothing, ◌then◌, ◌or◌, guarded, listed, chained, repeated, ParseTree, leaves, FitsClasses}
use Rattle.jc_grammar.specs.ScenarioGrammar.{token, keyword, selector, root_but, selector_dot, expression, literal, assignment, ending, change, binding, command, script, closed_script, event, events, block, blocks, replica, body, scenario}
use Rattle.jc_scenario.specs.WellFormed.{Scenario, IsScenario}
use Rattle.jc_listings.specs.Places.{Span, stop_of, AreInside, none, other, braces, AreItems, last, some, Block, AreBraced, IsBlock, AreBlocks}
use Rattle.jc_listings.specs.Places as P

-- ---- tokens of trees

-- the tokens of a tree, whatever its guards refuse
record Spelled (text : List ℕ) (g : Grammar) (t : ParseTree g) (ts : List Token) : Type 0 where
  pub fits : FitsClasses g t
  pub spells : lexemes text ts ≡ leaves g t

-- tokens of two parts
record Halves (text : List ℕ) (g h : Grammar) (t : ParseTree (g then h)) (ts : List Token) : Type 0 where
  pub front : List Token
  pub back : List Token
  pub are : ts ≡ front ++ back
  pub one : Spelled text g t.0 front
  pub two : Spelled text h t.1 back

-- the tokens of some lexemes, and of those behind them
record Split (text : List ℕ) (ts : List Token) (u v : List Lexeme) : Type 0 where
  pub front : List Token
  pub back : List Token
  pub are : ts ≡ front ++ back
  pub one : lexemes text front ≡ u
  pub two : lexemes text back ≡ v

split : (text : List ℕ) (ts : List Token) (u v : List Lexeme) → lexemes text ts ≡ u ++ v → Split text ts u v
split text ts [] v h = record { front = []; back = ts; are = refl; one = refl; two = h }
split text [] (x ∷ u) v h = absurd cc
split text (t ∷ ts) (x ∷ u) v h =
    let here : lexeme text t ≡ x = cc in
    let rest = split text ts u v cc in
    record { front = t ∷ rest.front; back = rest.back; are = ap (λ xs. t ∷ xs) rest.are; one = (λ i. here i ∷ rest.one i); two = rest.two }

halves : (text : List ℕ) (g h : Grammar) (t : ParseTree (g then h)) (ts : List Token) → Spelled text (g then h) t ts → Halves text g h t ts
halves text g h t ts k =
    let s = split text ts (leaves g t.0) (leaves h t.1) k.spells in
    record {
      front = s.front;
      back = s.back;
      are = s.are;
      one = record { fits = k.fits.0; spells = s.one };
      two = record { fits = k.fits.1; spells = s.two };
    }

-- the one token of a symbol
record IsLeaf (text : List ℕ) (c : Class) (ts : List Token) : Type 0 where
  pub token : Token
  pub is : ts ≡ token ∷ []
  pub fits : is_of c (symbol_of token.kind (token_bytes text token) (token_content text token)) ≡ true

leaf : (text : List ℕ) (c : Class) (x : Lexeme) (ts : List Token) → Spelled text (symbol c) x ts → IsLeaf text c ts
leaf text c x [] k = let bad = k.spells in absurd cc
leaf text c x (t ∷ []) k =
    let here : lexeme text t ≡ x = let is = k.spells in cc in
    record { token = t; is = refl; fits = ap (λ (l : Lexeme). is_of c l.symbol) here ∙ k.fits }
leaf text c x (t ∷ u ∷ ts) k = let bad = k.spells in absurd cc

no_tokens : (text : List ℕ) (ts : List Token) → lexemes text ts ≡ [] → ts ≡ []
no_tokens text [] h = refl
no_tokens text (t ∷ ts) h = absurd cc

semi_kind : (k : TokenKind) (b c : List ℕ) → is_of (any Semi) (symbol_of k b c) ≡ true → k ≡ Semi
semi_kind Semi b c h = refl
semi_kind k b c h = absurd cc

opening_kind : (k : TokenKind) (b c : List ℕ) → is_of (any BraceL) (symbol_of k b c) ≡ true → k ≡ BraceL
opening_kind BraceL b c h = refl
opening_kind k b c h = absurd cc

closing_kind : (k : TokenKind) (b c : List ℕ) → is_of (any BraceR) (symbol_of k b c) ≡ true → k ≡ BraceR
closing_kind BraceR b c h = refl
closing_kind k b c h = absurd cc

word_bytes : (k : TokenKind) (b c w : List ℕ) → is_of (the_word w) (symbol_of k b c) ≡ true → b ≡ w
word_bytes Name b c w h = (bytes_eq-Decides b w).0 h
word_bytes k b c w h = absurd cc

-- ---- what is inside commands and events

-- a kind that is no `;` and no brace
IsPlain : TokenKind → Type 0
IsPlain k = (k ≢ Semi) × (k ≢ BraceL) × (k ≢ BraceR)

-- a token of such a class is no `;` and no brace
IsPlainClass : Class → Type 0
IsPlainClass c = (k : TokenKind) (b d : List ℕ) → is_of c (symbol_of k b d) ≡ true → IsPlain k

inside_both : (a b : List Token) → AreInside a → AreInside b → AreInside (a ++ b)
inside_both a b none k = k
inside_both a b (other n l r h) k = other n l r (inside_both _ b h k)
inside_both a b (braces l r h) k = braces l r (inside_both _ b h k)

-- the tokens of each of its trees are inside a command or an event
IsInner : List ℕ → Grammar → Type 0
IsInner text g = (t : ParseTree g) (ts : List Token) → Spelled text g t ts → AreInside ts

module _ (text : List ℕ) where
  inner_symbol : (c : Class) → IsPlainClass c → IsInner text (symbol c)
  unfolding IsInner IsPlainClass IsPlain
  inner_symbol c plain x ts k =
      let l = leaf text c x ts k in
      let p = plain l.token.kind (token_bytes text l.token) (token_content text l.token) l.fits in
      subst AreInside (sym l.is) (other p.0 p.1 p.2 none)

  inner_nothing : IsInner text nothing
  unfolding IsInner
  inner_nothing t ts k = subst AreInside (sym (no_tokens text ts k.spells)) none

  inner_then : (g h : Grammar) → IsInner text g → IsInner text h → IsInner text (g then h)
  unfolding IsInner
  inner_then g h a b t ts k =
      let s = halves text g h t ts k in
      subst AreInside (sym s.are) (inside_both s.front s.back (a t.0 s.front s.one) (b t.1 s.back s.two))

  inner_or : (g h : Grammar) → IsInner text g → IsInner text h → IsInner text (g or h)
  unfolding IsInner
  inner_or g h a b (inl t) ts k = a t ts (record { fits = k.fits; spells = k.spells })
  inner_or g h a b (inr t) ts k = b t ts (record { fits = k.fits; spells = k.spells })

  inner_guarded : (c : Guard) (g : Grammar) → IsInner text g → IsInner text (guarded c g)
  unfolding IsInner
  inner_guarded c g a t ts k = a t ts (record { fits = k.fits; spells = k.spells })

  inner_repeated : (n : ℕ) (c : Guard) (x y e : Grammar) → IsInner text x → IsInner text y → IsInner text e → IsInner text (repeated n c x y e)
  unfolding repeated
  inner_repeated zero c x y e a b d = inner_or (x then guarded c y) e (inner_then x (guarded c y) a (inner_guarded c y b)) d
  inner_repeated (suc n) c x y e a b d =
      let more = inner_repeated n c x y e a b d in
      inner_or (x then y then repeated n c x y e) e (inner_then x (y then repeated n c x y e) a (inner_then y (repeated n c x y e) b more)) d

  inner_chained : (n : ℕ) (c : Guard) (x y e f : Grammar) → IsInner text x → IsInner text y → IsInner text e → IsInner text f → IsInner text (chained n c x y e f)
  unfolding chained
  inner_chained zero c x y e f a b d o =
      inner_or (x then (guarded c y or f)) e (inner_then x (guarded c y or f) a (inner_or (guarded c y) f (inner_guarded c y b) o)) d
  inner_chained (suc n) c x y e f a b d o =
      let more = inner_chained n c x y e f a b d o in
      inner_or (x then (y then chained n c x y e f or f)) e
      (inner_then x (y then chained n c x y e f or f) a (inner_or (y then chained n c x y e f) f (inner_then y (chained n c x y e f) b more) o)) d

  inner_braces : IsInner text (token BraceL then token BraceR)
  unfolding IsInner
  inner_braces t ts k =
      let s = halves text (token BraceL) (token BraceR) t ts k in
      let l = leaf text (any BraceL) t.0 s.front s.one in
      let r = leaf text (any BraceR) t.1 s.back s.two in
      let opens = opening_kind l.token.kind (token_bytes text l.token) (token_content text l.token) l.fits in
      let closes = closing_kind r.token.kind (token_bytes text r.token) (token_content text r.token) r.fits in
      let are : ts ≡ l.token ∷ r.token ∷ [] = s.are ∙ (λ i. l.is i ++ r.is i) in
      subst AreInside (sym are) (braces opens closes none)

-- ---- parts without braces

abbrev is_plain_kind : TokenKind → Bool
is_plain_kind Semi = false
is_plain_kind BraceL = false
is_plain_kind BraceR = false
is_plain_kind k = true

abbrev is_plain_class : Class → Bool
is_plain_class (any k) = is_plain_kind k
is_plain_class c = true

abbrev is_plain : Grammar → Bool
is_plain (symbol c) = is_plain_class c
is_plain nothing = true
is_plain (g then h) = is_plain g && is_plain h
is_plain (g or h) = is_plain g && is_plain h
is_plain (guarded c g) = is_plain g

-- no token of the class has this kind
abbrev IsNone : Class → TokenKind → Type 0
IsNone c kind = (b d : List ℕ) → is_of c (symbol_of kind b d) ≡ false

no_semi : (c : Class) → is_plain_class c ≡ true → IsNone c Semi
no_semi (any Semi) h b d = absurd cc
no_semi (any BraceL) h b d = absurd cc
no_semi (any BraceR) h b d = absurd cc
no_semi (any k) h b d = refl
no_semi c h b d = refl

no_opening : (c : Class) → is_plain_class c ≡ true → IsNone c BraceL
no_opening (any Semi) h b d = absurd cc
no_opening (any BraceL) h b d = absurd cc
no_opening (any BraceR) h b d = absurd cc
no_opening (any k) h b d = refl
no_opening c h b d = refl

no_closing : (c : Class) → is_plain_class c ≡ true → IsNone c BraceR
no_closing (any Semi) h b d = absurd cc
no_closing (any BraceL) h b d = absurd cc
no_closing (any BraceR) h b d = absurd cc
no_closing (any k) h b d = refl
no_closing c h b d = refl

other_kind : (c : Class) (kind k : TokenKind) (b d : List ℕ) → IsNone c kind → is_of c (symbol_of k b d) ≡ true → k ≢ kind
other_kind c kind k b d absent h e =
    let here : is_of c (symbol_of kind b d) ≡ true = subst (λ (x : TokenKind). is_of c (symbol_of x b d) ≡ true) e h in
    let none_there = absent b d in
    absurd cc

plain_class : (c : Class) → is_plain_class c ≡ true → IsPlainClass c
unfolding IsPlainClass IsPlain
plain_class c h k b d fits =
    (other_kind c Semi k b d (no_semi c h) fits, other_kind c BraceL k b d (no_opening c h) fits, other_kind c BraceR k b d (no_closing c h) fits)

both_true : (a b : Bool) → (a && b) ≡ true → (a ≡ true) × (b ≡ true)
both_true true b h = (refl, h)
both_true false b h = absurd cc

inner_plain : (text : List ℕ) (g : Grammar) → is_plain g ≡ true → IsInner text g
inner_plain text (symbol c) h = inner_symbol text c (plain_class c h)
inner_plain text nothing h = inner_nothing text
inner_plain text (g then k) h = let b = both_true (is_plain g) (is_plain k) h in inner_then text g k (inner_plain text g b.0) (inner_plain text k b.1)
inner_plain text (g or k) h = let b = both_true (is_plain g) (is_plain k) h in inner_or text g k (inner_plain text g b.0) (inner_plain text k b.1)
inner_plain text (guarded c g) h = inner_guarded text c g (inner_plain text g h)

-- ---- commands and events

module _ (text : List ℕ) where
  inner_literal : IsInner text literal
  inner_literal =
      inner_or text _ _ (inner_plain text (token Number) refl)
      (inner_or text _ _ (inner_plain text (token Str) refl)
      (inner_or text _ _ (inner_plain text (keyword (codes "true")) refl)
      (inner_or text _ _ (inner_plain text (keyword (codes "false")) refl)
      (inner_or text _ _ (inner_plain text (keyword (codes "null")) refl)
      (inner_or text _ _ (inner_braces text) (inner_plain text (token BracketL then token BracketR) refl))))))

  inner_expression : IsInner text expression
  inner_expression =
      inner_then text _ _ (inner_plain text (root_but (codes "doc" ∷ [])) refl)
      (inner_repeated text MAX_SELECTORS no_selector selector_dot selector nothing (inner_plain text selector_dot refl) (inner_plain text selector refl) (inner_nothing text))

  inner_ending : IsInner text ending
  inner_ending =
      inner_or text _ _
      (inner_then text _ _ (inner_plain text (keyword (codes "insertAfter")) refl)
      (inner_then text _ _ (inner_plain text (token ParenL) refl) (inner_then text _ _ inner_literal (inner_plain text (token ParenR) refl))))
      (inner_plain text (keyword (codes "delete")) refl)

  inner_change : IsInner text change
  inner_change =
      inner_then text _ _ (inner_plain text (root_but (codes "let" ∷ codes "yield" ∷ codes "doc" ∷ [])) refl)
      (inner_chained text MAX_SELECTORS no_selector selector_dot selector assignment ending
      (inner_plain text selector_dot refl) (inner_plain text selector refl)
      (inner_then text _ _ (inner_plain text (token Assign) refl) inner_literal) inner_ending)

  inner_binding : IsInner text binding
  inner_binding =
      inner_then text _ _ (inner_plain text (keyword (codes "let")) refl)
      (inner_then text _ _ (inner_plain text (guarded free_binding (token Name)) refl)
      (inner_then text _ _ (inner_plain text (token Equals) refl) inner_expression))

  inner_command : IsInner text command
  inner_command = inner_or text _ _ (inner_plain text (keyword (codes "yield")) refl) (inner_or text _ _ inner_binding inner_change)

  inner_event : (v : Version) → IsInner text (event v)
  inner_event One = inner_plain text (event One) refl
  inner_event Two = inner_plain text (event Two) refl

-- ---- lists of commands or of events

-- the tokens of each of its trees are some
IsSome : List ℕ → Grammar → Type 0
IsSome text g = (t : ParseTree g) (ts : List Token) → Spelled text g t ts → (first : Token) × (more : List Token) × (ts ≡ first ∷ more)

abbrev has_first : Grammar → Bool
has_first (symbol c) = true
has_first nothing = false
has_first (g then h) = has_first g
has_first (g or h) = has_first g && has_first h
has_first (guarded c g) = has_first g

first_of : (text : List ℕ) (g : Grammar) → has_first g ≡ true → IsSome text g
unfolding IsSome
first_of text (symbol c) h t ts k = let l = leaf text c t ts k in (l.token, [], l.is)
first_of text nothing h t ts k = absurd cc
first_of text (g then d) h t ts k =
    let s = halves text g d t ts k in
    let own = first_of text g h t.0 s.front s.one in
    (own.0, own.1 ++ s.back, s.are ∙ ap (λ xs. xs ++ s.back) own.2)
first_of text (g or d) h (inl t) ts k = first_of text g (both_true (has_first g) (has_first d) h).0 t ts (record { fits = k.fits; spells = k.spells })
first_of text (g or d) h (inr t) ts k = first_of text d (both_true (has_first g) (has_first d) h).1 t ts (record { fits = k.fits; spells = k.spells })
first_of text (guarded c g) h t ts k = first_of text g h t ts (record { fits = k.fits; spells = k.spells })

-- they are commands or events
HasItems : List Token → Type 0
HasItems ts = (spans : List Span) × AreItems ts spans

AreListed : List ℕ → Grammar → Type 0
AreListed text g = (t : ParseTree g) (ts : List Token) → Spelled text g t ts → HasItems ts

one_item : (ts : List Token) (first : Token) (more : List Token) → ts ≡ first ∷ more → AreInside ts → HasItems ts
unfolding HasItems
one_item ts first more is inside = (_, subst (λ xs. AreItems xs ((first.start, stop_of first more) ∷ [])) (sym is) (last first more (subst AreInside is inside)))

item_before : (a rest : List Token) (first : Token) (more : List Token) (semi : Token) → a ≡ first ∷ more → AreInside a → semi.kind ≡ Semi → HasItems rest → HasItems (a ++ semi ∷ rest)
unfolding HasItems
item_before a rest first more semi is inside kind h =
    (_, subst (λ xs. AreItems (xs ++ semi ∷ rest) ((first.start, stop_of first more) ∷ h.0)) (sym is) (some first more semi (subst AreInside is inside) kind h.1))

module _ (text : List ℕ) (c : Guard) (x : Grammar) (inner : IsInner text x) (is_some : IsSome text x) where
  are_listed : (n : ℕ) → AreListed text (listed n c x (token Semi))
  unfolding listed AreListed IsInner IsSome HasItems
  are_listed zero (inl t) ts k =
      let here : Spelled text x t ts = record { fits = k.fits; spells = k.spells } in
      let own = is_some t ts here in
      one_item ts own.0 own.1 own.2 (inner t ts here)
  are_listed zero (inr t) ts k = ([], subst (λ xs. AreItems xs []) (sym (no_tokens text ts k.spells)) P.none)
  are_listed (suc n) (inr t) ts k = ([], subst (λ xs. AreItems xs []) (sym (no_tokens text ts k.spells)) P.none)
  are_listed (suc n) (inl (t, inr u)) ts k =
      let s = halves text x (token Semi then listed n c x (token Semi) or nothing) (t, inr u) ts (record { fits = k.fits; spells = k.spells }) in
      let own = is_some t s.front s.one in
      let done = no_tokens text s.back s.two.spells in
      let all : ts ≡ s.front = s.are ∙ (ap (λ xs. s.front ++ xs) done ∙ append-nil s.front) in
      subst HasItems (sym all) (one_item s.front own.0 own.1 own.2 (inner t s.front s.one))
  are_listed (suc n) (inl (t, inl (sign, more))) ts k =
      let s = halves text x (token Semi then listed n c x (token Semi) or nothing) (t, inl (sign, more)) ts (record { fits = k.fits; spells = k.spells }) in
      let own = is_some t s.front s.one in
      let r = halves text (token Semi) (listed n c x (token Semi)) (sign, more) s.back (record { fits = s.two.fits; spells = s.two.spells }) in
      let l = leaf text (any Semi) sign r.front r.one in
      let kind = semi_kind l.token.kind (token_bytes text l.token) (token_content text l.token) l.fits in
      let rest = are_listed n more r.back r.two in
      let back : s.back ≡ l.token ∷ r.back = r.are ∙ ap (λ xs. xs ++ r.back) l.is in
      let all : ts ≡ s.front ++ l.token ∷ r.back = s.are ∙ ap (λ xs. s.front ++ xs) back in
      subst HasItems (sym all) (item_before s.front r.back own.0 own.1 l.token own.2 (inner t s.front s.one) kind rest)

-- ---- blocks

-- the tokens of each of its trees have commands or events between braces
AreClosed : List ℕ → Grammar → Type 0
AreClosed text g = (t : ParseTree g) (ts : List Token) → Spelled text g t ts → (items : List Span) × (stop : ℕ) × AreBraced ts items stop

closed : (text : List ℕ) (g : Grammar) → AreListed text g → AreClosed text (token BraceL then g then token BraceR)
unfolding AreClosed AreListed HasItems
closed text g h (left, (own, right)) ts k =
    let s = halves text (token BraceL) (g then token BraceR) (left, (own, right)) ts k in
    let r = halves text g (token BraceR) (own, right) s.back s.two in
    let opens = leaf text (any BraceL) left s.front s.one in
    let closes = leaf text (any BraceR) right r.back r.two in
    let items = h own r.front r.one in
    let back : s.back ≡ r.front ++ closes.token ∷ [] = r.are ∙ ap (λ xs. r.front ++ xs) closes.is in (
      items.0,
      closes.token.stop,
      record {
        opens = opens.token;
        inside = r.front;
        closes = closes.token;
        are = s.are ∙ (λ i. opens.is i ++ back i);
        is_open = opening_kind opens.token.kind (token_bytes text opens.token) (token_content text opens.token) opens.fits;
        is_close = closing_kind closes.token.kind (token_bytes text closes.token) (token_content text closes.token) closes.fits;
        are_items = items.1;
        ends = refl;
      },
    )

-- the tokens of each of its trees are a block
IsBlockPart : List ℕ → Grammar → Type 0
IsBlockPart text g = (t : ParseTree g) (ts : List Token) → Spelled text g t ts → (b : Block) × IsBlock text ts b

-- its tokens are blocks
HasBlocks : List ℕ → List Token → Type 0
HasBlocks text ts = (bs : List Block) × AreBlocks text ts bs

AreBlockParts : List ℕ → Grammar → Type 0
AreBlockParts text g = (t : ParseTree g) (ts : List Token) → Spelled text g t ts → HasBlocks text ts

module _ (text : List ℕ) where
  leaf_word : (w : List ℕ) (x : Lexeme) (ts : List Token) → Spelled text (keyword w) x ts → (word : Token) × (ts ≡ word ∷ []) × (token_bytes text word ≡ w)
  leaf_word w x ts k =
      let l = leaf text (the_word w) x ts k in
      (l.token, l.is, word_bytes l.token.kind (token_bytes text l.token) (token_content text l.token) w l.fits)

  same_block : {ts us : List Token} {b : Block} → ts ≡ us → IsBlock text us b → (c : Block) × IsBlock text ts c
  same_block {b = b} is h = (b, subst (λ xs. IsBlock text xs b) (sym is) h)

  replica_block : IsBlockPart text (keyword (codes "replica") then replica)
  unfolding IsBlockPart AreClosed
  replica_block (lead, (own, more)) ts k =
      let s = halves text (keyword (codes "replica")) replica (lead, (own, more)) ts k in
      let r = halves text (guarded (new_replica MAX_REPLICAS) (token Name)) (token BraceL then closed_script) (own, more) s.back s.two in
      let word = leaf_word (codes "replica") lead s.front s.one in
      let name = leaf text (any Name) own r.front (record { fits = r.one.fits; spells = r.one.spells }) in
      let inner = closed text script (are_listed text no_command command (inner_command text) (first_of text command refl) MAX_COMMANDS) more r.back r.two in
      let all : ts ≡ word.0 ∷ name.token ∷ r.back = s.are ∙ ((λ i. word.1 i ++ r.are i) ∙ ap (λ xs. word.0 ∷ xs ++ r.back) name.is) in
      same_block all (P.replica word.0 name.token word.2 inner.2)

  given_block : IsBlockPart text (block (codes "given") Two)
  unfolding IsBlockPart AreClosed
  given_block (lead, own) ts k =
      let s = halves text (keyword (codes "given")) (token BraceL then events Two then token BraceR) (lead, own) ts k in
      let word = leaf_word (codes "given") lead s.front s.one in
      let inner = closed text (events Two) (are_listed text no_event (event Two) (inner_event text Two) (first_of text (event Two) refl) MAX_EVENTS) own s.back s.two in
      let all : ts ≡ word.0 ∷ s.back = s.are ∙ ap (λ xs. xs ++ s.back) word.1 in
      same_block all (P.given word.0 word.2 inner.2)

  schedule_block : (v : Version) → IsBlockPart text (block (codes "schedule") v)
  unfolding IsBlockPart AreClosed
  schedule_block v (lead, own) ts k =
      let s = halves text (keyword (codes "schedule")) (token BraceL then events v then token BraceR) (lead, own) ts k in
      let word = leaf_word (codes "schedule") lead s.front s.one in
      let inner = closed text (events v) (are_listed text no_event (event v) (inner_event text v) (first_of text (event v) refl) MAX_EVENTS) own s.back s.two in
      let all : ts ≡ word.0 ∷ s.back = s.are ∙ ap (λ xs. xs ++ s.back) word.1 in
      same_block all (P.schedule word.0 word.2 inner.2)

  append_blocks : (a b : List Token) (bs cs : List Block) → AreBlocks text a bs → AreBlocks text b cs → AreBlocks text (a ++ b) (bs ++ cs)
  append_blocks a b bs cs P.none k = k
  append_blocks a b bs cs (P.some {tokens} {rest} {block} {blocks} h more) k =
      subst (λ xs. AreBlocks text xs (block ∷ blocks ++ cs)) (sym (append_assoc tokens rest b)) (P.some h (append_blocks rest b blocks cs more k))

  blocks_one : (g : Grammar) → IsBlockPart text g → AreBlockParts text g
  unfolding IsBlockPart AreBlockParts HasBlocks
  blocks_one g h t ts k = let b = h t ts k in (b.0 ∷ [], subst (λ xs. AreBlocks text xs (b.0 ∷ [])) (append-nil ts) (P.some b.1 P.none))

  blocks_nothing : AreBlockParts text nothing
  unfolding AreBlockParts HasBlocks
  blocks_nothing t ts k = ([], subst (λ xs. AreBlocks text xs []) (sym (no_tokens text ts k.spells)) P.none)

  blocks_or : (g h : Grammar) → AreBlockParts text g → AreBlockParts text h → AreBlockParts text (g or h)
  unfolding AreBlockParts
  blocks_or g h a b (inl t) ts k = a t ts (record { fits = k.fits; spells = k.spells })
  blocks_or g h a b (inr t) ts k = b t ts (record { fits = k.fits; spells = k.spells })

  blocks_then : (g h : Grammar) → AreBlockParts text g → AreBlockParts text h → AreBlockParts text (g then h)
  unfolding AreBlockParts HasBlocks
  blocks_then g h a b t ts k =
      let s = halves text g h t ts k in
      let one = a t.0 s.front s.one in
      let two = b t.1 s.back s.two in
      (one.0 ++ two.0, subst (λ xs. AreBlocks text xs (one.0 ++ two.0)) (sym s.are) (append_blocks s.front s.back one.0 two.0 one.1 two.1))

  -- a block of two parts, and what is behind them
  blocks_both : (x y h : Grammar) → AreBlockParts text (x then y) → AreBlockParts text h → AreBlockParts text (x then y then h)
  unfolding AreBlockParts
  blocks_both x y h a b (t, (u, v)) ts k =
      blocks_then (x then y) h a b ((t, u), v) ts
      (record { fits = ((k.fits.0, k.fits.1.0), k.fits.1.1); spells = k.spells ∙ sym (append_assoc (leaves x t) (leaves y u) (leaves h v)) })

  blocks_repeated : (n : ℕ) (c : Guard) (x y e : Grammar) → AreBlockParts text (x then y) → AreBlockParts text e → AreBlockParts text (repeated n c x y e)
  unfolding repeated AreBlockParts
  blocks_repeated zero c x y e a b (inl t) ts k = a t ts (record { fits = k.fits; spells = k.spells })
  blocks_repeated zero c x y e a b (inr t) ts k = b t ts (record { fits = k.fits; spells = k.spells })
  blocks_repeated (suc n) c x y e a b t ts k =
      blocks_or (x then y then repeated n c x y e) e (blocks_both x y (repeated n c x y e) a (blocks_repeated n c x y e a b)) b t ts k

  blocks_last : (v : Version) → AreBlockParts text (blocks v)
  blocks_last One = blocks_or _ _ (blocks_one _ (schedule_block One)) blocks_nothing
  blocks_last Two = blocks_then _ _ (blocks_or _ _ (blocks_one _ given_block) blocks_nothing) (blocks_or _ _ (blocks_one _ (schedule_block Two)) blocks_nothing)

  body_blocks : (v : Version) → AreBlockParts text (body v)
  body_blocks v =
      blocks_both (keyword (codes "replica")) replica _ (blocks_one _ replica_block)
      (blocks_repeated (MAX_REPLICAS - 1) (new_replica MAX_REPLICAS) (keyword (codes "replica")) replica (blocks v) (blocks_one _ replica_block) (blocks_last v))

-- ---- scenarios

-- behind the two tokens of a header are blocks
pub record AreHeaded (text : List ℕ) (ts : List Token) : Type 0 where
  pub word : Token
  pub version : Token
  pub tokens : List Token
  pub blocks : List Block
  pub are : ts ≡ word ∷ version ∷ tokens
  pub are_blocks : AreBlocks text tokens blocks

headed : (text : List ℕ) (c : Class) (v : Version) (mark : Lexeme) (t : ParseTree (symbol c then body v)) (front back ts : List Token) → ts ≡ front ++ back → Spelled text (keyword (codes "jsoncrdt")) mark front → Spelled text (symbol c then body v) t back → AreHeaded text ts
unfolding AreBlockParts HasBlocks
headed text c v mark t front back ts are one two =
    let s = halves text (symbol c) (body v) t back two in
    let word = leaf text (the_word (codes "jsoncrdt")) mark front one in
    let version = leaf text c t.0 s.front s.one in
    let inner = body_blocks text v t.1 s.back s.two in
    record {
      word = word.token;
      version = version.token;
      tokens = s.back;
      blocks = inner.0;
      are = are ∙ ((λ i. word.is i ++ s.are i) ∙ ap (λ xs. word.token ∷ xs ++ s.back) version.is);
      are_blocks = inner.1;
    }

of_tree : (text : List ℕ) (t : ParseTree scenario) (ts : List Token) → Spelled text scenario t ts → AreHeaded text ts
of_tree text (mark, inl t) ts k =
    let s = halves text (keyword (codes "jsoncrdt")) _ (mark, inl t) ts k in
    headed text (the_number (codes "1")) One mark t s.front s.back ts s.are s.one (record { fits = s.two.fits; spells = s.two.spells })
of_tree text (mark, inr t) ts k =
    let s = halves text (keyword (codes "jsoncrdt")) _ (mark, inr t) ts k in
    headed text (the_number (codes "2")) Two mark t s.front s.back ts s.are s.one (record { fits = s.two.fits; spells = s.two.spells })

-- the tokens of a scenario's text
pub scenario_headed : (text : List ℕ) (s : Scenario) (h : IsScenario text s) → AreHeaded text h.tokens
scenario_headed text s h =
    let sentence = h.scenario.named in
    of_tree text sentence.tree h.tokens (record { fits = sentence.text.0; spells = sym sentence.text.2 })
