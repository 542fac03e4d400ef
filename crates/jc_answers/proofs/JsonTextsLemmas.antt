-- Of `JsonTexts` and `Parts`: objects and arrays with one part more.
use Rattle.std.proofs.Common.{◌≡◌, ℕ, ◌<◌, ◌≤◌, Bool, true, List, [], ◌∷◌, ◌++◌, length, map, Result, Ok, Err, OnOk, is_ok, if◌then◌else◌, refl, ap, sym, ◌∙◌, arith, append_assoc, codes}
use Rattle.jc_answers.specs.declared.arrays.ArrayText.{ArrayText}
use Rattle.jc_answers.specs.JsonTexts.{NamedText, with_commas, member_text}
use Rattle.jc_answers.specs.Parts.{object_begun, has_some, comma_after, HasItems}

commas_more : (t : List ℕ) (ts : List (List ℕ)) (u : List ℕ) → with_commas (t ∷ (ts ++ u ∷ [])) ≡ with_commas (t ∷ ts) ++ (codes "," ++ u)
commas_more t [] u = refl
commas_more t (x ∷ ts) u = ap (λ r. t ++ (codes "," ++ r)) (commas_more x ts u) ∙ sym (append_assoc t (codes "," ++ with_commas (x ∷ ts)) (codes "," ++ u))

-- ---- objects

texts_more : (ms : List NamedText) (m : NamedText) → map member_text (ms ++ m ∷ []) ≡ map member_text ms ++ member_text m ∷ []
texts_more [] m = refl
texts_more (x ∷ ms) m = ap (λ ts. member_text x ∷ ts) (texts_more ms m)

begun_more : (x : NamedText) (ms : List NamedText) (m : NamedText) → object_begun (x ∷ (ms ++ m ∷ [])) ≡ object_begun (x ∷ ms) ++ (codes "," ++ member_text m)
begun_more x ms m =
    ap (λ ts. codes "{" ++ with_commas (member_text x ∷ ts)) (texts_more ms m)
    ∙ ap (λ r. codes "{" ++ r) (commas_more (member_text x) (map member_text ms) (member_text m))

-- an object with a member has two bytes or more
two_bytes : (x : NamedText) (ms : List NamedText) → (rest : List ℕ) × (object_begun (x ∷ ms) ≡ 123 ∷ 34 ∷ rest)
two_bytes x [] = (_, refl)
two_bytes x (y ∷ ms) = (_, refl)

pub next_member : (old new : List ℕ) (ms : List NamedText) (m : NamedText) → 1 < length old → new ≡ old ++ 44 ∷ [] → old ≡ object_begun ms → new ++ member_text m ≡ object_begun (ms ++ m ∷ [])
next_member old new [] m long pushed is = let size = ap length is in absurd (omega (arith, long, size))
next_member old new (x ∷ ms) m long pushed is =
    ap (λ t. t ++ member_text m) (pushed ∙ ap (λ t. t ++ 44 ∷ []) is)
    ∙ append_assoc (object_begun (x ∷ ms)) (codes ",") (member_text m)
    ∙ sym (begun_more x ms m)

pub first_member : (old : List ℕ) (ms : List NamedText) (m : NamedText) → length old ≤ 1 → old ≡ object_begun ms → old ++ member_text m ≡ object_begun (ms ++ m ∷ [])
first_member old [] m short is = ap (λ t. t ++ member_text m) is
first_member old (x ∷ ms) m short is =
    let size = ap length (is ∙ (two_bytes x ms).1) in
    absurd (omega (arith, short, size))

-- ---- arrays

pub items_more : (old new t : List ℕ) (begun : Bool) (ts : List (List ℕ)) → old ≡ codes "[" ++ with_commas ts → begun ≡ has_some ts → new ≡ (old ++ comma_after begun) ++ t → new ≡ codes "[" ++ with_commas (ts ++ t ∷ [])
items_more old new t begun [] text some h = h ∙ (λ i. (text i ++ comma_after (some i)) ++ t)
items_more old new t begun (x ∷ xs) text some h =
    h ∙ (λ i. (text i ++ comma_after (some i)) ++ t)
    ∙ ap (λ r. codes "[" ++ r) (append_assoc (with_commas (x ∷ xs)) (codes ",") t ∙ sym (commas_more x xs t))

pub some_more : (ts : List (List ℕ)) (t : List ℕ) → true ≡ has_some (ts ++ t ∷ [])
some_more [] t = refl
some_more (x ∷ ts) t = refl

-- what a call appended that reports by its result
pub appended : {T E : Type 0} (r : Result T E) (old new more : List ℕ) → new ≡ (if is_ok r then old ++ more else old) → OnOk r (new ≡ old ++ more)
appended (Ok x) old new more h = h
appended (Err y) old new more h = tt

pub item_pushed : {T E : Type 0} (r : Result T E) (a b : ArrayText) (separated t : List ℕ) → separated ≡ a.text.items ++ comma_after a.begun → b.begun ≡ true → OnOk r (b.text.items ≡ separated ++ t) → OnOk r ((ts : List (List ℕ)) → HasItems a ts → HasItems b (ts ++ t ∷ []))
item_pushed (Ok x) a b separated t parted begun h = λ ts k.
    record {
      text = items_more a.text.items b.text.items t a.begun ts k.text k.begun (h ∙ ap (λ s. s ++ t) parted);
      begun = begun ∙ some_more ts t;
    }
item_pushed (Err y) a b separated t parted begun h = tt
