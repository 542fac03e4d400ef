-- What is left of a text from an offset on, for the lemmas about written symbols.
use Rattle.std.proofs.Common.{◌≡◌, ℕ, ◌+◌, ◌<◌, List, ◌∷◌, ◌++◌, length, slice_index, drop, refl, sym, ap, subst, ◌∙◌, arith, length-drop, add-zero}
use Rattle.std.proofs.lemmas.List.{get_or-drop, drop-drop, drop_at}

-- past what stands at the front, the rest is left
pub left_after : (text : List ℕ) (at n : ℕ) (own rest : List ℕ) → drop at text ≡ own ++ rest → n ≡ length own → drop (at + n) text ≡ rest
left_after text at n own rest h count = sym (drop-drop n at text) ∙ ap (drop n) h ∙ drop_at own rest n (sym count)

-- a byte of what is left is a byte of the text
pub byte_there : (text : List ℕ) (at k b : ℕ) (bs : List ℕ) → drop at text ≡ bs → slice_index bs k ≡ b → slice_index text (at + k) ≡ b
byte_there text at k b bs h is = sym (get_or-drop at text k 0) ∙ ap (λ (l : List ℕ). slice_index l k) h ∙ is

pub byte_here : (text : List ℕ) (at b : ℕ) (bs : List ℕ) → drop at text ≡ b ∷ bs → slice_index text at ≡ b
byte_here text at b bs h = subst (λ (n : ℕ). slice_index text n ≡ b) (add-zero at) (byte_there text at 0 b (b ∷ bs) h refl)

-- where something is left, the place stands in the text
pub stands : (text : List ℕ) (at b : ℕ) (bs : List ℕ) → drop at text ≡ b ∷ bs → at < length text
stands text at b bs h = omega (arith, length-drop at text, ap length h)
