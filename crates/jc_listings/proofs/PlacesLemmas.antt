-- About `Places`: how far the functions of `placing` have come in the tokens.
use Rattle.std.proofs.Common.{◌≡◌, ◌≢◌, ℕ, suc, ◌+◌, ◌-◌, ◌≤◌, ◌<◌, ◌⊎◌, inl, inr, List, [], ◌∷◌, ◌++◌, length, map, take, drop, get_or, true, false, codes, Option, Some, None, refl, ap, sym, subst, ◌∙◌, append_assoc, append-nil, length-append, arith}
use Rattle.std.specs.Str.{bytes_eq}
use Rattle.std.proofs.lemmas.Option.{none-some}
use Rattle.std.proofs.lemmas.List.{length-drop, drop-drop, drop_at, drop-append-le, drop_more, drop_all, take_rest, get_or-drop, get_or-append-add, map-append}
use Rattle.jc_syntax.specs.declared.token.Token.{Token}
use Rattle.jc_syntax.specs.declared.token.TokenKind.{TokenKind}
use Rattle.jc_syntax.specs.declared.token.TokenKind.TheVariants.{Name, Semi, BraceL, BraceR}
use Rattle.jc_rules.specs.declared.refusal.Refusal.{Refusal}
use Rattle.jc_syntax.specs.declared.fault.LexFault.{LexFault}
use Rattle.jc_syntax.specs.declared.fault.LexFault.TheVariants.{Memory}
use Rattle.jc_syntax.specs.Faults.{lex_refusal}
use Rattle.jc_syntax.specs.Lexemes.{AreTokensOf, IsFaultOf, token_bytes}
use Rattle.jc_syntax.proofs.LexemesLemmas.{one_list, list_or_fault}
use Rattle.jc_scenario.specs.WellFormed.{Scenario, IsScenario}
use Rattle.jc_answers.specs.declared.arrays.ArrayText.{ArrayText}
use Rattle.jc_answers.specs.JsonTexts.{array_text}
use Rattle.jc_answers.specs.Parts.{HasItems}
use Rattle.jc_listings.specs.Places.{Span, Block, AreInside, none, other, braces, AreItems, last, some, AreBraced, IsBlock, AreBlocks, stop_of, span_answer, block_text, block_answer, IsPlaces}
use Rattle.jc_listings.specs.Places as P
use Rattle.jc_listings.specs.PlaceParts.{EndsItem, BeginsWithItems, BeginsWithBlock}
use Rattle.jc_listings.proofs.PlacesTreesLemmas.{AreHeaded, scenario_headed}

-- what a list of tokens has past its end
abbrev pub no_token : Token
no_token = record { kind = Name; start = 0; stop = 0 }

-- ---- one command or event

-- so many of its tokens are passed, and none within `{}`
abbrev pub IsWithinItem : List Token → ℕ → Type 0
IsWithinItem tokens len =
    (inside rest : List Token) → tokens ≡ inside ++ rest → AreInside inside → EndsItem rest → (len ≤ length inside) × AreInside (drop len inside)

-- how many they are
abbrev pub IsItemLen : List Token → ℕ → Type 0
IsItemLen tokens len =
    (inside rest : List Token) → tokens ≡ inside ++ rest → AreInside inside → EndsItem rest → len ≡ length inside

-- of a part of a list, which goes up to the end
pub item_len_of : (tokens : List Token) (at len : ℕ) → IsItemLen (take (length tokens - at) (drop at tokens)) len → IsItemLen (drop at tokens) len
item_len_of tokens at len h = subst (λ ts. IsItemLen ts len) (take_rest tokens at) h

-- the kinds of tokens that end one
abbrev IsEnd : Token → Type 0
IsEnd t = (t.kind ≡ Semi) ⊎ (t.kind ≡ BraceR)

same_kind : (t x : Token) (kind : TokenKind) → t ≡ x → t.kind ≡ kind → x.kind ≡ kind
same_kind t x kind is h = subst (λ (y : Token). y.kind ≡ kind) is h

-- what is left of it, with the token that comes next
next_of : (tokens inside rest : List Token) (len : ℕ) (d : Token) → tokens ≡ inside ++ rest → len ≤ length inside → len < length tokens → get_or tokens len d ∷ drop (len + 1) tokens ≡ drop len inside ++ rest
next_of tokens inside rest len d are within lt = sym (drop_more tokens len d lt) ∙ (ap (drop len) are ∙ drop-append-le len inside rest within)

ends_with : (t : Token) (more rest : List Token) → t ∷ more ≡ rest → EndsItem rest → IsEnd t
ends_with t more [] h ends = absurd cc
ends_with t more (x ∷ xs) h (inl semi) = let same : x ≡ t = cc in inl (same_kind x t Semi same semi)
ends_with t more (x ∷ xs) h (inr close) = let same : x ≡ t = cc in inr (same_kind x t BraceR same close)

-- where a token ends it, nothing is left
ended : (t : Token) (more u rest : List Token) → t ∷ more ≡ u ++ rest → AreInside u → IsEnd t → u ≡ []
ended t more u rest h none end = refl
ended t more u rest h (other {t = x} n l r k) (inl semi) = let same : t ≡ x = cc in absurd (n (same_kind t x Semi same semi))
ended t more u rest h (other {t = x} n l r k) (inr close) = let same : t ≡ x = cc in absurd (r (same_kind t x BraceR same close))
ended t more u rest h (braces {opens} l r k) (inl semi) = let same : t ≡ opens = cc in let bad : BraceL ≡ Semi = sym l ∙ same_kind t opens Semi same semi in absurd cc
ended t more u rest h (braces {opens} l r k) (inr close) = let same : t ≡ opens = cc in let bad : BraceL ≡ BraceR = sym l ∙ same_kind t opens BraceR same close in absurd cc

none_left : (inside : List Token) (len : ℕ) → len ≤ length inside → drop len inside ≡ [] → len ≡ length inside
none_left inside len within h = let size : length (drop len inside) ≡ 0 = ap length h in omega (arith, length-drop len inside)

pub item_ends : (tokens : List Token) (len : ℕ) (d : Token) → IsWithinItem tokens len → len < length tokens → IsEnd (get_or tokens len d) → IsItemLen tokens len
item_ends tokens len d h lt end inside rest are inner ends =
    let w = h inside rest are inner ends in
    none_left inside len w.0 (ended (get_or tokens len d) (drop (len + 1) tokens) (drop len inside) rest (next_of tokens inside rest len d are w.0 lt) w.1 end)

-- behind one token, or behind two braces
passed : (inside u xs : List Token) (len n : ℕ) → len ≤ length inside → drop len inside ≡ u → drop n u ≡ xs → n ≤ length u → AreInside xs → (len + n ≤ length inside) × AreInside (drop (len + n) inside)
passed inside u xs len n room is behind within k =
    let size : length (drop len inside) ≡ length u = ap length is in
    (omega (arith, length-drop len inside), subst AreInside (sym (sym (drop-drop n len inside) ∙ (ap (drop n) is ∙ behind))) k)

two_passed : (t : Token) (more inside u rest : List Token) (len : ℕ) → len ≤ length inside → drop len inside ≡ u → t ∷ more ≡ u ++ rest → EndsItem rest → AreInside u → t.kind ≡ BraceL → (len + 2 ≤ length inside) × AreInside (drop (len + 2) inside)
two_passed t more inside u rest len room is h ends none opening =
    elim (ends_with t more rest h ends) [
      | inl semi ↦ let bad : BraceL ≡ Semi = sym opening ∙ semi in absurd cc
      | inr close ↦ let bad : BraceL ≡ BraceR = sym opening ∙ close in absurd cc
    ]
two_passed t more inside u rest len room is h ends (other {t = x} n l r k) opening = let same : t ≡ x = cc in absurd (l (same_kind t x BraceL same opening))
two_passed t more inside u rest len room is h ends (braces {opens} {closes} {rest = xs} l r k) opening = passed inside (opens ∷ closes ∷ xs) xs len 2 room is refl (omega arith) k

one_passed : (t : Token) (more inside u rest : List Token) (len : ℕ) → len ≤ length inside → drop len inside ≡ u → t ∷ more ≡ u ++ rest → EndsItem rest → AreInside u → t.kind ≢ Semi → t.kind ≢ BraceL → t.kind ≢ BraceR → (len + 1 ≤ length inside) × AreInside (drop (len + 1) inside)
one_passed t more inside u rest len room is h ends none n l r = elim (ends_with t more rest h ends) [ inl semi ↦ absurd (n semi) | inr close ↦ absurd (r close) ]
one_passed t more inside u rest len room is h ends (other {t = x} {rest = xs} a b c k) n l r = passed inside (x ∷ xs) xs len 1 room is refl (omega arith) k
one_passed t more inside u rest len room is h ends (braces {opens} a b k) n l r = let same : opens ≡ t = cc in absurd (l (same_kind opens t BraceL same a))

pub past_braces : (tokens : List Token) (len : ℕ) (d : Token) → IsWithinItem tokens len → len < length tokens → (get_or tokens len d).kind ≡ BraceL → IsWithinItem tokens (len + 2)
past_braces tokens len d h lt opening inside rest are inner ends =
    let w = h inside rest are inner ends in
    two_passed (get_or tokens len d) (drop (len + 1) tokens) inside (drop len inside) rest len w.0 refl (next_of tokens inside rest len d are w.0 lt) ends w.1 opening

pub past_other : (tokens : List Token) (len : ℕ) (d : Token) → IsWithinItem tokens len → len < length tokens → (get_or tokens len d).kind ≢ Semi → (get_or tokens len d).kind ≢ BraceL → (get_or tokens len d).kind ≢ BraceR → IsWithinItem tokens (len + 1)
past_other tokens len d h lt n l r inside rest are inner ends =
    let w = h inside rest are inner ends in
    one_passed (get_or tokens len d) (drop (len + 1) tokens) inside (drop len inside) rest len w.0 refl (next_of tokens inside rest len d are w.0 lt) ends w.1 n l r

-- ---- commands or events

-- those before a token are listed, and these are left
pub record ItemsLeft (inside : List Token) (spans : List Span) (at : ℕ) (a : ArrayText) : Type 0 where
  pub before : List Span
  pub left : List Span
  pub are : spans ≡ before ++ left
  pub within : at ≤ length inside
  pub are_left : AreItems (drop at inside) left
  pub listed : HasItems a (map span_answer before)

abbrev pub ItemsGoOn : List Token → ℕ → ArrayText → Type 0
ItemsGoOn tokens at a = (h : BeginsWithItems tokens) → ItemsLeft h.inside h.spans at a

-- and there is a token
abbrev pub ItemsHere : List Token → ℕ → ArrayText → Type 0
ItemsHere tokens at a = (at < length tokens) × ItemsGoOn tokens at a

pub items_begin : (tokens : List Token) (a : ArrayText) → HasItems a [] → ItemsGoOn tokens 0 a
items_begin tokens a empty h = record { before = []; left = h.spans; are = refl; within = omega arith; are_left = h.are_items; listed = empty }

size_of : (tokens inside : List Token) (closes : Token) (rest : List Token) → tokens ≡ inside ++ closes ∷ rest → length inside < length tokens
size_of tokens inside closes rest are = let size = ap length are in omega (arith, length-append inside (closes ∷ rest))

pub items_room : (tokens : List Token) (at : ℕ) (a : ArrayText) → BeginsWithItems tokens → ItemsGoOn tokens at a → at < length tokens
items_room tokens at a h k = let within = (k h).within in omega (arith, size_of tokens h.inside h.closes h.rest h.are)

not_closed : (t : Token) (ts : List Token) → AreInside (t ∷ ts) → t.kind ≢ BraceR
not_closed t ts (other n l r k) = r
not_closed t ts (braces l r k) = λ close. let bad : BraceL ≡ BraceR = sym l ∙ close in absurd cc

-- what is left of items, with the token that comes next
left_of : (tokens inside : List Token) (closes : Token) (rest : List Token) (at : ℕ) → tokens ≡ inside ++ closes ∷ rest → at ≤ length inside → drop at tokens ≡ drop at inside ++ closes ∷ rest
left_of tokens inside closes rest at are within = ap (drop at) are ∙ drop-append-le at inside (closes ∷ rest) within

-- at the brace nothing is left
all_listed : (t : Token) (more u : List Token) (closes : Token) (rest : List Token) (left : List Span) → t ∷ more ≡ u ++ closes ∷ rest → t.kind ≡ BraceR → AreItems u left → (u ≡ []) × (left ≡ [])
all_listed t more u closes rest left h close P.none = (refl, refl)
all_listed t more u closes rest left h close (last first others inner) =
    let same : t ≡ first = cc in absurd (not_closed first others inner (same_kind t first BraceR same close))
all_listed t more u closes rest left h close (some first others semi inner kind items) =
    let same : t ≡ first = cc in absurd (not_closed first others inner (same_kind t first BraceR same close))

pub items_end : (tokens : List Token) (at : ℕ) (a : ArrayText) (d : Token) → ItemsGoOn tokens at a → at < length tokens → (get_or tokens at d).kind ≡ BraceR → (h : BeginsWithItems tokens) → HasItems a (map span_answer h.spans) × (at ≡ length h.inside)
items_end tokens at a d k lt close h =
    let w = k h in
    let next : get_or tokens at d ∷ drop (at + 1) tokens ≡ drop at h.inside ++ h.closes ∷ h.rest = sym (drop_more tokens at d lt) ∙ left_of tokens h.inside h.closes h.rest at h.are w.within in
    let all = all_listed (get_or tokens at d) (drop (at + 1) tokens) (drop at h.inside) h.closes h.rest w.left next close w.are_left in
    let spans : h.spans ≡ w.before = w.are ∙ (ap (λ xs. w.before ++ xs) all.1 ∙ append-nil w.before) in
    (subst (λ (xs : List Span). HasItems a (map span_answer xs)) (sym spans) w.listed, none_left h.inside at w.within all.0)

-- the next one is the last, or a `;` is behind it
data IsTail (inside : List Token) (closes : Token) (rest : List Token) (behind : ℕ) : List Token → List Span → Type 0 where
  at_close : behind ≡ length inside → IsTail inside closes rest behind (closes ∷ rest) []
  at_semi : {semi : Token} {more : List Token} {after : List Span}
      → semi.kind ≡ Semi
      → AreItems (drop (behind + 1) inside) after
      → behind + 1 ≤ length inside
      → IsTail inside closes rest behind (semi ∷ more) after

record NextItem (inside : List Token) (closes : Token) (rest : List Token) (at len : ℕ) (u : List Token) (left : List Span) : Type 0 where
  pub first : Token
  pub more : List Token
  pub tail : List Token
  pub after : List Span
  pub are : u ++ closes ∷ rest ≡ (first ∷ more) ++ tail
  pub is : left ≡ (first.start, stop_of first more) ∷ after
  pub size : len ≡ length (first ∷ more)
  pub ends : IsTail inside closes rest (at + len) tail after

next_item : (tokens inside : List Token) (closes : Token) (rest : List Token) (at len : ℕ) (t : Token) (later u : List Token) (left : List Span)
    → drop at inside ≡ u → at ≤ length inside → drop at tokens ≡ u ++ closes ∷ rest → t ∷ later ≡ u ++ closes ∷ rest → t.kind ≢ BraceR → closes.kind ≡ BraceR → IsItemLen (drop at tokens) len → AreItems u left
    → NextItem inside closes rest at len u left
next_item tokens inside closes rest at len t later u left is within here next unclosed close h P.none =
    let same : closes ≡ t = cc in absurd (unclosed (same_kind closes t BraceR same close))
next_item tokens inside closes rest at len t later u left is within here next unclosed close h (last first more inner) =
    let size : len ≡ length (first ∷ more) = h (first ∷ more) (closes ∷ rest) here inner (inr close) in
    let all : length (drop at inside) ≡ length (first ∷ more) = ap length is in
    let behind : at + len ≡ length inside = omega (arith, length-drop at inside) in
    record { first = first; more = more; tail = closes ∷ rest; after = []; are = refl; is = refl; size = size; ends = at_close behind }
next_item tokens inside closes rest at len t later u left is within here next unclosed close h (some {rest = own} {spans} first more semi inner kind items) =
    let parts : (first ∷ more ++ semi ∷ own) ++ closes ∷ rest ≡ (first ∷ more) ++ semi ∷ (own ++ closes ∷ rest) = append_assoc (first ∷ more) (semi ∷ own) (closes ∷ rest) in
    let size : len ≡ length (first ∷ more) = h (first ∷ more) (semi ∷ (own ++ closes ∷ rest)) (here ∙ parts) inner (inl kind) in
    let all : length (drop at inside) ≡ length ((first ∷ more) ++ semi ∷ own) = ap length is in
    let room : at + len + 1 ≤ length inside = omega (arith, length-drop at inside, length-append (first ∷ more) (semi ∷ own)) in
    let behind : drop len (drop at inside) ≡ semi ∷ own = ap (drop len) is ∙ drop_at (first ∷ more) (semi ∷ own) len (sym size) in
    let own_is : drop (at + len + 1) inside ≡ own = sym (drop-drop 1 (at + len) inside) ∙ (ap (drop 1) (sym (drop-drop len at inside)) ∙ ap (drop 1) behind) in
    record { first = first; more = more; tail = semi ∷ (own ++ closes ∷ rest); after = spans; are = parts; is = refl; size = size; ends = at_semi kind (subst (λ xs. AreItems xs spans) (sym own_is) items) room }

item_at : (tokens : List Token) (at len : ℕ) (a : ArrayText) (d : Token) → (k : ItemsGoOn tokens at a) → at < length tokens → (get_or tokens at d).kind ≢ BraceR → IsItemLen (drop at tokens) len → (h : BeginsWithItems tokens) → NextItem h.inside h.closes h.rest at len (drop at h.inside) (k h).left
item_at tokens at len a d k lt unclosed is h =
    let w = k h in
    let here = left_of tokens h.inside h.closes h.rest at h.are w.within in
    next_item tokens h.inside h.closes h.rest at len (get_or tokens at d) (drop (at + 1) tokens) (drop at h.inside) w.left refl w.within here (sym (drop_more tokens at d lt) ∙ here) unclosed h.is_close is w.are_left

-- its tokens, in those of all
at_item : (tokens : List Token) (at : ℕ) (first : Token) (more tail : List Token) → drop at tokens ≡ (first ∷ more) ++ tail → (i : ℕ) (d : Token) → get_or tokens (at + i) d ≡ get_or ((first ∷ more) ++ tail) i d
at_item tokens at first more tail here i d = sym (get_or-drop at tokens i d) ∙ ap (λ xs. get_or xs i d) here

last_of : (first : Token) (more tail : List Token) (d : Token) → (get_or ((first ∷ more) ++ tail) (length more) d).stop ≡ stop_of first more
last_of first [] tail d = refl
last_of first (t ∷ more) tail d = last_of t more tail d

pub record ItemRoom (tokens : List Token) (at len : ℕ) : Type 0 where
  pub some : 1 ≤ len
  pub behind : at + len < length tokens

tail_room : (inside : List Token) (closes : Token) (rest : List Token) (behind : ℕ) (tail : List Token) (after : List Span) → IsTail inside closes rest behind tail after → behind ≤ length inside
tail_room inside closes rest behind tail after (at_close is) = omega arith
tail_room inside closes rest behind tail after (at_semi kind items room) = omega arith

pub item_room : (tokens : List Token) (at len : ℕ) (a : ArrayText) (d : Token) → ItemsGoOn tokens at a → at < length tokens → (get_or tokens at d).kind ≢ BraceR → IsItemLen (drop at tokens) len → BeginsWithItems tokens → ItemRoom tokens at len
item_room tokens at len a d k lt unclosed is h =
    let n = item_at tokens at len a d k lt unclosed is h in
    let size = n.size in
    let inside = tail_room h.inside h.closes h.rest (at + len) n.tail n.after n.ends in
    record { some = omega arith; behind = omega (arith, size_of tokens h.inside h.closes h.rest h.are) }

-- one is listed, and the token behind it is a `;` or none
module _ (tokens : List Token) (at len : ℕ) (a b : ArrayText) (d : Token) (k : ItemsGoOn tokens at a) (lt : at < length tokens) (unclosed : (get_or tokens at d).kind ≢ BraceR) (is : IsItemLen (drop at tokens) len) (text : List ℕ) (is_text : text ≡ span_answer ((get_or tokens at d).start, (get_or tokens (at + len - 1) d).stop)) (push : (ts : List (List ℕ)) → HasItems a ts → HasItems b (ts ++ text ∷ [])) where
  listed_more : (h : BeginsWithItems tokens) → (n : NextItem h.inside h.closes h.rest at len (drop at h.inside) (k h).left) → HasItems b (map span_answer ((k h).before ++ (n.first.start, stop_of n.first n.more) ∷ []))
  listed_more h n =
      let w = k h in
      let here : drop at tokens ≡ (n.first ∷ n.more) ++ n.tail = left_of tokens h.inside h.closes h.rest at h.are w.within ∙ n.are in
      let number : at ≡ at + 0 = omega arith in
      let token : get_or tokens at d ≡ n.first = ap (λ i. get_or tokens i d) number ∙ at_item tokens at n.first n.more n.tail here 0 d in
      let size = n.size in
      let before_last : at + len - 1 ≡ at + length n.more = omega arith in
      let start_is : (get_or tokens at d).start ≡ n.first.start = ap (λ (t : Token). t.start) token in
      let stop_is : (get_or tokens (at + len - 1) d).stop ≡ stop_of n.first n.more = ap (λ i. (get_or tokens i d).stop) before_last ∙ (ap (λ (t : Token). t.stop) (at_item tokens at n.first n.more n.tail here (length n.more) d) ∙ last_of n.first n.more n.tail d) in
      let told : text ≡ span_answer (n.first.start, stop_of n.first n.more) = is_text ∙ (λ i. span_answer (start_is i, stop_is i)) in
      subst (HasItems b) (ap (λ t. map span_answer w.before ++ t ∷ []) told ∙ sym (map-append span_answer w.before ((n.first.start, stop_of n.first n.more) ∷ [])))
      (push (map span_answer w.before) w.listed)

  tail_token : (h : BeginsWithItems tokens) → (n : NextItem h.inside h.closes h.rest at len (drop at h.inside) (k h).left) → get_or tokens (at + len) d ≡ get_or n.tail 0 d
  tail_token h n =
      let w = k h in
      let here : drop at tokens ≡ (n.first ∷ n.more) ++ n.tail = left_of tokens h.inside h.closes h.rest at h.are w.within ∙ n.are in
      let size = n.size in
      let number : len ≡ length (n.first ∷ n.more) + 0 = omega arith in
      at_item tokens at n.first n.more n.tail here len d ∙ (ap (λ i. get_or ((n.first ∷ n.more) ++ n.tail) i d) number ∙ get_or-append-add (n.first ∷ n.more) n.tail 0 d)

  past_semi : (h : BeginsWithItems tokens) (tail : List Token) (after : List Span) → IsTail h.inside h.closes h.rest (at + len) tail after → (get_or tail 0 d).kind ≡ Semi → (at + len + 1 ≤ length h.inside) × AreItems (drop (at + len + 1) h.inside) after
  past_semi h tail after (at_close all) kind = let bad : BraceR ≡ Semi = sym h.is_close ∙ kind in absurd cc
  past_semi h tail after (at_semi own items room) kind = (room, items)

  past_last : (h : BeginsWithItems tokens) (tail : List Token) (after : List Span) → IsTail h.inside h.closes h.rest (at + len) tail after → (get_or tail 0 d).kind ≢ Semi → (at + len ≤ length h.inside) × AreItems (drop (at + len) h.inside) after
  past_last h tail after (at_close all) kind = (omega arith, subst (λ xs. AreItems xs []) (sym (drop_all (at + len) h.inside (omega arith))) P.none)
  past_last h tail after (at_semi own items room) kind = absurd (kind own)

  pub more_behind_semi : (get_or tokens (at + len) d).kind ≡ Semi → ItemsGoOn tokens (at + len + 1) b
  more_behind_semi kind h =
      let w = k h in
      let n = item_at tokens at len a d k lt unclosed is h in
      let e = past_semi h n.tail n.after n.ends (sym (ap (λ (t : Token). t.kind) (tail_token h n)) ∙ kind) in
      record {
        before = w.before ++ (n.first.start, stop_of n.first n.more) ∷ [];
        left = n.after;
        are = w.are ∙ (ap (λ xs. w.before ++ xs) n.is ∙ sym (append_assoc w.before ((n.first.start, stop_of n.first n.more) ∷ []) n.after));
        within = e.0;
        are_left = e.1;
        listed = listed_more h n;
      }

  pub more_at_close : (get_or tokens (at + len) d).kind ≢ Semi → ItemsGoOn tokens (at + len) b
  more_at_close kind h =
      let w = k h in
      let n = item_at tokens at len a d k lt unclosed is h in
      let e = past_last h n.tail n.after n.ends (λ own. kind (ap (λ (t : Token). t.kind) (tail_token h n) ∙ own)) in
      record {
        before = w.before ++ (n.first.start, stop_of n.first n.more) ∷ [];
        left = n.after;
        are = w.are ∙ (ap (λ xs. w.before ++ xs) n.is ∙ sym (append_assoc w.before ((n.first.start, stop_of n.first n.more) ∷ []) n.after));
        within = e.0;
        are_left = e.1;
        listed = listed_more h n;
      }

-- ---- a block

-- where a block's tokens begin with its word, and so many later with what is in it
pub record IsOpened (text : List ℕ) (tokens : List Token) (block : Block) (count : ℕ) (name : Option (List ℕ)) (first : ℕ) : Type 0 where
  pub room : first ≤ length tokens
  pub items : BeginsWithItems (drop first tokens)
  pub told : block_answer block ≡ block_text (token_bytes text (get_or tokens 0 no_token)) name ((get_or tokens 0 no_token).start, items.closes.stop) (array_text (map span_answer items.spans))
  pub size : count ≡ length items.inside + 1 + first

-- its tokens from its brace on
record IsBracedAt (tokens : List Token) (count : ℕ) (items : List Span) (stop first : ℕ) : Type 0 where
  pub room : first + 1 ≤ length tokens
  pub inner : BeginsWithItems (drop (first + 1) tokens)
  pub spans : inner.spans ≡ items
  pub stops : inner.closes.stop ≡ stop
  pub size : count ≡ length inner.inside + 2

braced_at : (tokens rest braced : List Token) (items : List Span) (stop first : ℕ) → drop first tokens ≡ braced ++ rest → first ≤ length tokens → AreBraced braced items stop → IsBracedAt tokens (length braced) items stop first
braced_at tokens rest braced items stop first behind room b =
    let parts : braced ++ rest ≡ b.opens ∷ (b.inside ++ b.closes ∷ rest) = ap (λ ts. ts ++ rest) b.are ∙ ap (λ ts. b.opens ∷ ts) (append_assoc b.inside (b.closes ∷ []) rest) in
    let all : drop first tokens ≡ b.opens ∷ (b.inside ++ b.closes ∷ rest) = behind ∙ parts in
    let size : length (drop first tokens) ≡ suc (length (b.inside ++ b.closes ∷ rest)) = ap length all in
    let own : length braced ≡ suc (length (b.inside ++ b.closes ∷ [])) = ap length b.are in
    record {
      room = omega (arith, length-drop first tokens);
      inner = record { inside = b.inside; closes = b.closes; rest = rest; spans = items; are = sym (drop-drop 1 first tokens) ∙ ap (drop 1) all; is_close = b.is_close; are_items = b.are_items };
      spans = refl;
      stops = sym b.ends;
      size = omega (arith, length-append b.inside (b.closes ∷ []));
    }

-- a word that isn't `replica`
is_another : (bytes w : List ℕ) → bytes ≡ w → bytes_eq bytes (codes "replica") ≡ bytes_eq w (codes "replica")
is_another bytes w same = ap (λ v. bytes_eq v (codes "replica")) same

-- a block without a name
plain_opened : (text : List ℕ) (ts rest : List Token) (block : Block) → IsBlock text ts block → bytes_eq (token_bytes text (get_or (ts ++ rest) 0 no_token)) (codes "replica") ≡ false → IsOpened text (ts ++ rest) block (length ts) None 2
plain_opened text ts rest block (P.replica word name is b) no_name =
    let bad : false ≡ true = sym no_name ∙ is_another (token_bytes text word) (codes "replica") is in absurd cc
plain_opened text ts rest block (P.given {tokens = braced} {items} {stop} word is b) no_name =
    let x = braced_at (word ∷ (braced ++ rest)) rest braced items stop 1 refl (omega arith) b in
    let size = x.size in
    record {
      room = x.room;
      items = x.inner;
      told = (λ i. block_text (sym is i) None (word.start, sym x.stops i) (array_text (map span_answer (sym x.spans i))));
      size = omega arith;
    }
plain_opened text ts rest block (P.schedule {tokens = braced} {items} {stop} word is b) no_name =
    let x = braced_at (word ∷ (braced ++ rest)) rest braced items stop 1 refl (omega arith) b in
    let size = x.size in
    record {
      room = x.room;
      items = x.inner;
      told = (λ i. block_text (sym is i) None (word.start, sym x.stops i) (array_text (map span_answer (sym x.spans i))));
      size = omega arith;
    }

-- that of a replica
replica_opened : (text : List ℕ) (ts rest : List Token) (block : Block) → IsBlock text ts block → bytes_eq (token_bytes text (get_or (ts ++ rest) 0 no_token)) (codes "replica") ≡ true → IsOpened text (ts ++ rest) block (length ts) (Some (token_bytes text (get_or (ts ++ rest) 1 no_token))) 3
replica_opened text ts rest block (P.given word is b) named =
    let bad : true ≡ false = sym named ∙ is_another (token_bytes text word) (codes "given") is in absurd cc
replica_opened text ts rest block (P.schedule word is b) named =
    let bad : true ≡ false = sym named ∙ is_another (token_bytes text word) (codes "schedule") is in absurd cc
replica_opened text ts rest block (P.replica {tokens = braced} {items} {stop} word name is b) named =
    let x = braced_at (word ∷ name ∷ (braced ++ rest)) rest braced items stop 2 refl (omega arith) b in
    let size = x.size in
    record {
      room = x.room;
      items = x.inner;
      told = (λ i. block_text (sym is i) (Some (token_bytes text name)) (word.start, sym x.stops i) (array_text (map span_answer (sym x.spans i))));
      size = omega arith;
    }

pub opened_plain : (text : List ℕ) (tokens : List Token) → bytes_eq (token_bytes text (get_or tokens 0 no_token)) (codes "replica") ≡ false → (h : BeginsWithBlock text tokens) → IsOpened text tokens h.block (length h.own) None 2
opened_plain text tokens no_name h =
    subst (λ ts. IsOpened text ts h.block (length h.own) None 2) (sym h.are)
    (plain_opened text h.own h.rest h.block h.is_block (sym (ap (λ (ts : List Token). bytes_eq (token_bytes text (get_or ts 0 no_token)) (codes "replica")) h.are) ∙ no_name))

pub opened_replica : (text : List ℕ) (tokens : List Token) → bytes_eq (token_bytes text (get_or tokens 0 no_token)) (codes "replica") ≡ true → (h : BeginsWithBlock text tokens) → IsOpened text tokens h.block (length h.own) (Some (token_bytes text (get_or tokens 1 no_token))) 3
opened_replica text tokens named h =
    subst (λ (ts : List Token). IsOpened text ts h.block (length h.own) (Some (token_bytes text (get_or ts 1 no_token))) 3) (sym h.are)
    (replica_opened text h.own h.rest h.block h.is_block (sym (ap (λ (ts : List Token). bytes_eq (token_bytes text (get_or ts 0 no_token)) (codes "replica")) h.are) ∙ named))

block_size : (text : List ℕ) (ts : List Token) (block : Block) → IsBlock text ts block → 2 ≤ length ts
block_size text ts block (P.replica word name is b) = omega arith
block_size text ts block (P.given {tokens = braced} word is b) = let own = ap length b.are in omega arith
block_size text ts block (P.schedule {tokens = braced} word is b) = let own = ap length b.are in omega arith

pub block_room : (text : List ℕ) (tokens : List Token) → BeginsWithBlock text tokens → 2 ≤ length tokens
block_room text tokens h = let size = ap length h.are in omega (arith, length-append h.own h.rest, block_size text h.own h.block h.is_block)

pub own_room : (text : List ℕ) (tokens : List Token) → (h : BeginsWithBlock text tokens) → length h.own ≤ length tokens
own_room text tokens h = let size = ap length h.are in omega (arith, length-append h.own h.rest)

-- a part of tokens that goes up to their end
pub part_begins : (tokens : List Token) (first : ℕ) → BeginsWithItems (drop first tokens) → BeginsWithItems (take (length tokens - first) (drop first tokens))
part_begins tokens first h = subst BeginsWithItems (sym (take_rest tokens first)) h

-- what is told of a block by what is told of what is in it
pub block_told : (text answer : List ℕ) (tokens : List Token) (block : Block) (count first : ℕ) (name : Option (List ℕ)) → (o : IsOpened text tokens block count name first)
    → ((h : BeginsWithItems (take (length tokens - first) (drop first tokens))) → answer ≡ block_text (token_bytes text (get_or tokens 0 no_token)) name ((get_or tokens 0 no_token).start, h.closes.stop) (array_text (map span_answer h.spans)))
    → answer ≡ block_answer block
block_told text answer tokens block count first name o h =
    let told = subst (λ (ts : List Token). (k : BeginsWithItems ts) → answer ≡ block_text (token_bytes text (get_or tokens 0 no_token)) name ((get_or tokens 0 no_token).start, k.closes.stop) (array_text (map span_answer k.spans))) (take_rest tokens first) h in
    told o.items ∙ sym o.told

pub block_counted : (text : List ℕ) (tokens : List Token) (block : Block) (count first len : ℕ) (name : Option (List ℕ)) → (o : IsOpened text tokens block count name first) → ((h : BeginsWithItems (take (length tokens - first) (drop first tokens))) → len ≡ length h.inside + 1) → len + first ≡ count
block_counted text tokens block count first len name o h =
    let told = subst (λ (ts : List Token). (k : BeginsWithItems ts) → len ≡ length k.inside + 1) (take_rest tokens first) h in
    let own = told o.items in
    let size = o.size in
    omega arith

-- ---- blocks

pub record BlocksLeft (text : List ℕ) (tokens : List Token) (blocks : List Block) (at : ℕ) (a : ArrayText) : Type 0 where
  pub before : List Block
  pub left : List Block
  pub are : blocks ≡ before ++ left
  pub are_left : AreBlocks text (drop at tokens) left
  pub listed : HasItems a (map block_answer before)

abbrev pub BlocksGoOn : List ℕ → List Token → ℕ → ArrayText → Type 0
BlocksGoOn text tokens at a = (blocks : List Block) → AreBlocks text tokens blocks → BlocksLeft text tokens blocks at a

-- they begin within the tokens
abbrev pub BlocksHere : List ℕ → List Token → ℕ → ArrayText → Type 0
BlocksHere text tokens at a = (at ≤ length tokens) × BlocksGoOn text tokens at a

pub blocks_begin : (text : List ℕ) (tokens : List Token) (a : ArrayText) → HasItems a [] → BlocksGoOn text tokens 0 a
blocks_begin text tokens a empty blocks h = record { before = []; left = blocks; are = refl; are_left = h; listed = empty }

-- there is a next one
record NextBlock (text : List ℕ) (tokens : List Token) (left : List Block) : Type 0 where
  pub begins : BeginsWithBlock text tokens
  pub after : List Block
  pub is : left ≡ begins.block ∷ after
  pub are_after : AreBlocks text begins.rest after

next_block : (text : List ℕ) (tokens : List Token) (left : List Block) → 0 < length tokens → AreBlocks text tokens left → NextBlock text tokens left
next_block text tokens left lt P.none = absurd (omega arith)
next_block text tokens left lt (P.some {tokens = own} {rest} {block} {blocks} h more) =
    record { begins = record { own = own; rest = rest; block = block; are = refl; is_block = h }; after = blocks; is = refl; are_after = more }

block_at : (text : List ℕ) (tokens : List Token) (at : ℕ) (a : ArrayText) → (k : BlocksGoOn text tokens at a) → at < length tokens → (blocks : List Block) → (h : AreBlocks text tokens blocks) → NextBlock text (drop at tokens) (k blocks h).left
block_at text tokens at a k lt blocks h = next_block text (drop at tokens) (k blocks h).left (omega (arith, length-drop at tokens)) (k blocks h).are_left

pub block_begins : (text : List ℕ) (tokens : List Token) (at : ℕ) (a : ArrayText) → BlocksGoOn text tokens at a → at < length tokens → ((bs : List Block) × AreBlocks text tokens bs) → BeginsWithBlock text (take (length tokens - at) (drop at tokens))
block_begins text tokens at a k lt h = subst (BeginsWithBlock text) (sym (take_rest tokens at)) (block_at text tokens at a k lt h.0 h.1).begins

-- one is listed
module _ (text : List ℕ) (tokens : List Token) (at len : ℕ) (a b : ArrayText) (k : BlocksGoOn text tokens at a) (lt : at < length tokens) (answer : List ℕ) (told : (h : BeginsWithBlock text (take (length tokens - at) (drop at tokens))) → answer ≡ block_answer h.block) (counted : (h : BeginsWithBlock text (take (length tokens - at) (drop at tokens))) → len ≡ length h.own) (push : (ts : List (List ℕ)) → HasItems a ts → HasItems b (ts ++ answer ∷ [])) where
  told_here : (h : BeginsWithBlock text (drop at tokens)) → answer ≡ block_answer h.block
  told_here = subst (λ (ts : List Token). (h : BeginsWithBlock text ts) → answer ≡ block_answer h.block) (take_rest tokens at) told

  counted_here : (h : BeginsWithBlock text (drop at tokens)) → len ≡ length h.own
  counted_here = subst (λ (ts : List Token). (h : BeginsWithBlock text ts) → len ≡ length h.own) (take_rest tokens at) counted

  pub blocks_more : BlocksGoOn text tokens (at + len) b
  blocks_more blocks h =
      let w = k blocks h in
      let n = block_at text tokens at a k lt blocks h in
      let behind : drop (at + len) tokens ≡ n.begins.rest = sym (drop-drop len at tokens) ∙ (ap (drop len) n.begins.are ∙ drop_at n.begins.own n.begins.rest len (sym (counted_here n.begins))) in
      record {
        before = w.before ++ n.begins.block ∷ [];
        left = n.after;
        are = w.are ∙ (ap (λ xs. w.before ++ xs) n.is ∙ sym (append_assoc w.before (n.begins.block ∷ []) n.after));
        are_left = subst (λ ts. AreBlocks text ts n.after) (sym behind) n.are_after;
        listed = subst (HasItems b) (ap (λ t. map block_answer w.before ++ t ∷ []) (told_here n.begins) ∙ sym (map-append block_answer w.before (n.begins.block ∷ []))) (push (map block_answer w.before) w.listed);
      }

  pub blocks_room : ((bs : List Block) × AreBlocks text tokens bs) → (at + len ≤ length tokens) × (0 < len)
  blocks_room h =
      let n = block_at text tokens at a k lt h.0 h.1 in
      let size = ap length n.begins.are in
      let own = counted_here n.begins in
      (omega (arith, length-drop at tokens, length-append n.begins.own n.begins.rest), omega (arith, block_size text n.begins.own n.begins.block n.begins.is_block))

no_blocks : (text : List ℕ) (ts : List Token) (left : List Block) → ts ≡ [] → AreBlocks text ts left → left ≡ []
no_blocks text ts left is P.none = refl
no_blocks text ts left is (P.some {tokens = own} {rest} {block} h more) =
    let size = ap length is in absurd (omega (arith, length-append own rest, block_size text own block h))

pub blocks_end : (text : List ℕ) (tokens : List Token) (at : ℕ) (a : ArrayText) → BlocksGoOn text tokens at a → length tokens ≤ at → (blocks : List Block) → AreBlocks text tokens blocks → HasItems a (map block_answer blocks)
blocks_end text tokens at a k all blocks h =
    let w = k blocks h in
    let none_left = no_blocks text (drop at tokens) w.left (drop_all at tokens all) w.are_left in
    let are : blocks ≡ w.before = w.are ∙ (ap (λ xs. w.before ++ xs) none_left ∙ append-nil w.before) in
    subst (λ (xs : List Block). HasItems a (map block_answer xs)) (sym are) w.listed

-- ---- all of a text

-- the text of a scenario has tokens
pub not_refused : (text : List ℕ) (fault : LexFault) (r : Refusal) → ((s : Scenario) × IsScenario text s) → lex_refusal fault ≡ Some r → (fault ≢ Memory → IsFaultOf text fault) → ⊥
not_refused text fault r (s, told) is h =
    list_or_fault text told.tokens fault told.lexed (h (λ e. none-some r (sym (ap lex_refusal e) ∙ is)))

pub tokens_headed : (text : List ℕ) (tokens : List Token) → ((s : Scenario) × IsScenario text s) → AreTokensOf text tokens → AreHeaded text tokens
tokens_headed text tokens h lexed =
    subst (AreHeaded text) (one_list text h.1.tokens tokens h.1.lexed lexed) (scenario_headed text h.0 h.1)

pub headed_room : (text : List ℕ) (tokens : List Token) → AreHeaded text tokens → 2 ≤ length tokens
headed_room text tokens h = let size = ap length h.are in omega arith

-- those behind the header
behind_header : (text : List ℕ) (tokens : List Token) → (h : AreHeaded text tokens) → take (length tokens - 2) (drop 2 tokens) ≡ h.tokens
behind_header text tokens h = take_rest tokens 2 ∙ ap (drop 2) h.are

pub blocks_there : (text : List ℕ) (tokens : List Token) → AreHeaded text tokens → (bs : List Block) × AreBlocks text (take (length tokens - 2) (drop 2 tokens)) bs
blocks_there text tokens h = (h.blocks, subst (λ ts. AreBlocks text ts h.blocks) (sym (behind_header text tokens h)) h.are_blocks)

pub places_told : (text answer : List ℕ) (tokens : List Token) → AreHeaded text tokens → AreTokensOf text tokens → ((bs : List Block) → AreBlocks text (take (length tokens - 2) (drop 2 tokens)) bs → answer ≡ array_text (map block_answer bs)) → IsPlaces text answer
unfolding blocks_there
places_told text answer tokens h lexed told = record {
  word = h.word;
  version = h.version;
  tokens = h.tokens;
  blocks = h.blocks;
  lexed = subst (AreTokensOf text) h.are lexed;
  are_blocks = h.are_blocks;
  is = told h.blocks (blocks_there text tokens h).1;
}
