-- About specs/Dump: lists of JSON values that are made item by item.
use Rattle.std.proofs.Common.{◌≡◌, ℕ, ◌+◌, ◌<◌, List, [], ◌∷◌, ◌++◌, length, take, map, get_or, sym, ◌∙◌, ap}
use Rattle.std.proofs.lemmas.List.{take_more, map-append}
use Rattle.serde_json.specs.Data.{Data, string}
use Rattle.serde_json.specs.View.{view}
use Rattle.serde_json.specs.declared.value.Value.{Value}

-- one more value of a list
pub data_more : {X : Type 0} (f : X → Data) (vs : List Value) (v : Value) (xs : List X) (i : ℕ) (x d : X) → i < length xs → x ≡ get_or xs i d → map view vs ≡ map f (take i xs) → view v ≡ f x
    → map view (vs ++ v ∷ []) ≡ map f (take (i + 1) xs)
data_more f vs v xs i x d h e so_far g =
    map-append view vs (v ∷ [])
    ∙ ap (λ ds. ds ++ view v ∷ []) so_far
    ∙ ap (λ y. map f (take i xs) ++ y ∷ []) g
    ∙ sym (map-append f (take i xs) (x ∷ []))
    ∙ ap (map f) (ap (λ y. take i xs ++ y ∷ []) e ∙ sym (take_more xs i d h))

-- one more text at the end
pub text_more : (vs : List Value) (v : Value) (texts : List (List ℕ)) (text : List ℕ) → map view vs ≡ map string texts → view v ≡ string text → map view (vs ++ v ∷ []) ≡ map string (texts ++ text ∷ [])
text_more vs v texts text so_far g =
    map-append view vs (v ∷ [])
    ∙ ap (λ ds. ds ++ view v ∷ []) so_far
    ∙ ap (λ d. map string texts ++ d ∷ []) g
    ∙ sym (map-append string texts (text ∷ []))

-- one more text of a list
pub texts_more : {X : Type 0} (t : X → List ℕ) (vs : List Value) (v : Value) (xs : List X) (i : ℕ) (x d : X) → i < length xs → x ≡ get_or xs i d → map view vs ≡ map string (map t (take i xs)) → view v ≡ string (t x)
    → map view (vs ++ v ∷ []) ≡ map string (map t (take (i + 1) xs))
texts_more t vs v xs i x d h e so_far g =
    text_more vs v (map t (take i xs)) (t x) so_far g
    ∙ ap (map string) (sym (map-append t (take i xs) (x ∷ [])) ∙ ap (map t) (ap (λ y. take i xs ++ y ∷ []) e ∙ sym (take_more xs i d h)))
