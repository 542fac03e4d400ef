-- Texts that are pushed one after another, for the functions of `print`.
use Rattle.std.proofs.Common.{◌≡◌, ℕ, ◌+◌, ◌<◌, List, [], ◌∷◌, ◌++◌, map, take, length, get_or, Result, Ok, Err, sym, ap, ◌∙◌, append_assoc}
use Rattle.std.specs.Prelude.{if◌then◌else◌, is_ok, OnOk, flat_map}
use Rattle.std.proofs.lemmas.List.{append-nil, map-append, take_more}
use Rattle.std.proofs.lemmas.List.Concat.{flat_map-append}

then_pushed : (s t u a b : List ℕ) → t ≡ s ++ a → u ≡ t ++ b → u ≡ s ++ (a ++ b)
then_pushed s t u a b first next = next ∙ ap (λ (l : List ℕ). l ++ b) first ∙ append_assoc s a b

pub four_pushed : (s t u v w a b c d : List ℕ) → t ≡ s ++ a → u ≡ t ++ b → v ≡ u ++ c → w ≡ v ++ d → w ≡ s ++ (((a ++ b) ++ c) ++ d)
four_pushed s t u v w a b c d e1 e2 e3 e4 = then_pushed s v w ((a ++ b) ++ c) d (then_pushed s u v (a ++ b) c (then_pushed s t u a b e1 e2) e3) e4

-- what follows where the last one was pushed
pub where_pushed : {T E P : Type 0} (r : Result T E) (s t u : List ℕ) → u ≡ (if is_ok r then t else s) → (u ≡ t → P) → OnOk r P
where_pushed (Ok x) s t u is give = give is
where_pushed (Err e) s t u is give = tt

-- one item more was pushed, behind what parts it from the one before
pub item_pushed : {A B : Type 0} (g : A → B) (f : B → List ℕ) (between : List ℕ) (xs : List A) (i : ℕ) (x : A) (s t u v : List ℕ) → i < length xs → x ≡ get_or xs i x → t ≡ s ++ flat_map (λ y. between ++ f y) (map g (take i xs)) → u ≡ t ++ between → v ≡ u ++ f (g x) → v ≡ s ++ flat_map (λ y. between ++ f y) (map g (take (i + 1) xs))
item_pushed {A} {B} g f between xs i x s t u v less is so_far parted own =
    let written : B → List ℕ = λ y. between ++ f y in
    let before : List ℕ = flat_map written (map g (take i xs)) in
    let more : take (i + 1) xs ≡ take i xs ++ x ∷ [] = take_more xs i x less ∙ ap (λ (y : A). take i xs ++ y ∷ []) (sym is) in
    let text : flat_map written (map g (take (i + 1) xs)) ≡ before ++ written (g x) =
    ap (λ (l : List A). flat_map written (map g l)) more ∙ ap (λ (l : List B). flat_map written l) (map-append g (take i xs) (x ∷ [])) ∙ flat_map-append written (map g (take i xs)) (g x ∷ []) ∙ ap (λ (l : List ℕ). before ++ l) (append-nil (written (g x))) in
    then_pushed s t v before (written (g x)) so_far (then_pushed t u v between (f (g x)) parted own) ∙ ap (λ (l : List ℕ). s ++ l) (sym text)
