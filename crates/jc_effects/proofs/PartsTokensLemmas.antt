-- About Parts: the tokens of members and of items, one after another.
use Rattle.std.proofs.Common.{◌≡◌, ◌==◌, ℕ, length, List, [], ◌∷◌, ◌++◌, append_assoc, Bool, true, false, codes, map, refl, sym, ◌∙◌, ap, subst}
use Rattle.std.proofs.lemmas.List.{append-nil}
use Rattle.json.specs.Json.{Json, array, object, Items, no_items, item}
use Rattle.json.specs.Token.{Token}
use Rattle.json.specs.Token as T
use Rattle.json.specs.Tree.{json_tokens, items_tokens, members_tokens}
use Rattle.json.specs.Written.{Written}
use Rattle.jc_rules.specs.declared.id.Id.{Id}
use Rattle.jc_rules.specs.declared.key.Key.{Key}
use Rattle.jc_rules.specs.Context.{Register}
use Rattle.jc_rules.proofs.BoolLemmas.{no_truth}
use Rattle.jc_json.specs.Json.{id_text}
use Rattle.jc_json.specs.Gains.{Gains}
use Rattle.jc_json.specs.Values.{string_items, pair_items}
use Rattle.jc_json.specs.declared.writing.Numbers.TheVariants.{Named}
use Rattle.jc_json.proofs.GainsLemmas.{gains_then, gains_between}
use Rattle.jc_effects.specs.Difference.{OwnDifference, Differences, no_difference, difference, is_no_difference}
use Rattle.jc_effects.specs.EffectsJson.{Labelled, as_members, as_items, id_json, some_items, place_members, place_items}
use Rattle.jc_effects.specs.Parts.{labelled_tokens, item_tokens, first_place_tokens, front_members, middle_members, back_members}

-- ---- members

pub tokens-append : (es fs : List Labelled) → labelled_tokens (es ++ fs) ≡ labelled_tokens es ++ labelled_tokens fs
tokens-append [] fs = refl
tokens-append (e ∷ es) fs =
    ap (λ (ts : List Token). T.key e.0 ∷ ts)
    (ap (λ (ts : List Token). json_tokens e.1 ++ ts) (tokens-append es fs) ∙ sym (append_assoc (json_tokens e.1) (labelled_tokens es) (labelled_tokens fs)))

pub labelled_then : (a b c : Written) (es fs : List Labelled) → Gains a b (labelled_tokens es) → Gains b c (labelled_tokens fs) → Gains a c (labelled_tokens (es ++ fs))
labelled_then a b c es fs g h = subst (Gains a c) (sym (tokens-append es fs)) (gains_then a b c (labelled_tokens es) (labelled_tokens fs) g h)

members_end : (es : List Labelled) → members_tokens (as_members es) ≡ labelled_tokens es ++ T.end_object ∷ []
members_end [] = refl
members_end (e ∷ es) =
    ap (λ (ts : List Token). T.key e.0 ∷ ts)
    (ap (λ (ts : List Token). json_tokens e.1 ++ ts) (members_end es) ∙ sym (append_assoc (json_tokens e.1) (labelled_tokens es) (T.end_object ∷ [])))

pub object_written : (a b c d : Written) (es : List Labelled) → Gains a b (T.begin_object ∷ []) → Gains b c (labelled_tokens es) → Gains c d (T.end_object ∷ []) → Gains a d (json_tokens (object (as_members es)))
object_written a b c d es f g h = gains_between a b c d T.begin_object T.end_object (labelled_tokens es) (json_tokens (object (as_members es))) (ap (λ (ts : List Token). T.begin_object ∷ ts) (members_end es)) f g h

-- one member: its key, then its value
pub labelled_one : (a b c : Written) (k : List ℕ) (j : Json) → Gains a b (T.key k ∷ []) → Gains b c (json_tokens j) → Gains a c (labelled_tokens ((k, j) ∷ []))
labelled_one a b c k j g h =
    subst (Gains a c) (ap (λ (ts : List Token). T.key k ∷ ts) (sym (append-nil (json_tokens j)))) (gains_then a b c (T.key k ∷ []) (json_tokens j) g h)

-- ---- items

abbrev pub is_no_item : Items → Bool
is_no_item no_items = true
is_no_item (item j js) = false

items_end : (js : Items) → items_tokens js ≡ item_tokens js ++ T.end_array ∷ []
items_end no_items = refl
items_end (item j js) = ap (λ (ts : List Token). json_tokens j ++ ts) (items_end js) ∙ sym (append_assoc (json_tokens j) (item_tokens js) (T.end_array ∷ []))

pub array_written : (a b c d : Written) (js : Items) → Gains a b (T.begin_array ∷ []) → Gains b c (item_tokens js) → Gains c d (T.end_array ∷ []) → Gains a d (json_tokens (array js))
array_written a b c d js f g h = gains_between a b c d T.begin_array T.end_array (item_tokens js) (json_tokens (array js)) (ap (λ (ts : List Token). T.begin_array ∷ ts) (items_end js)) f g h

-- a member with a list that isn't empty
pub some_written : (a b c : Written) (name : List ℕ) (js : Items) → is_no_item js ≡ false → Gains a b (T.key name ∷ []) → Gains b c (json_tokens (array js)) → Gains a c (labelled_tokens (some_items name js))
some_written a b c name no_items e g h = no_truth (sym e)
some_written a b c name (item j js) e g h = labelled_one a b c name (array (item j js)) g h

pub places_none : (names : List (List ℕ)) (x : Differences) → is_no_item (place_items names x) ≡ is_no_difference x
places_none names no_difference = refl
places_none names (difference k o m l rest) = refl

-- ---- places

pub place_written : (a b c d e f g h : Written) (names : List (List ℕ)) (k : Key) (o : OwnDifference) (m l rest : Differences) → Gains a b (T.begin_object ∷ []) → Gains b c (labelled_tokens (front_members names k o))
    → Gains c d (labelled_tokens (some_items (codes "list") (place_items names l))) → Gains d e (labelled_tokens (middle_members names o)) → Gains e f (labelled_tokens (some_items (codes "map") (place_items names m)))
    → Gains f g (labelled_tokens (back_members names o)) → Gains g h (T.end_object ∷ []) → Gains a h (first_place_tokens names (difference k o m l rest))
place_written a b c d e f g h names k o m l rest begins front list middle maps back ends =
    object_written a b g h (place_members names k o (place_items names m) (place_items names l)) begins
    (labelled_then b f g (((front_members names k o ++ some_items (codes "list") (place_items names l)) ++ middle_members names o) ++ some_items (codes "map") (place_items names m)) (back_members names o)
    (labelled_then b e f ((front_members names k o ++ some_items (codes "list") (place_items names l)) ++ middle_members names o) (some_items (codes "map") (place_items names m))
    (labelled_then b d e (front_members names k o ++ some_items (codes "list") (place_items names l)) (middle_members names o)
    (labelled_then b c d (front_members names k o) (some_items (codes "list") (place_items names l)) front list) middle) maps) back)
    ends

-- items of a list that isn't empty
pub items_empty : {X : Type 0} (f : X → Json) (xs : List X) (b : Bool) → b ≡ (length xs == 0) → b ≡ false → is_no_item (as_items (map f xs)) ≡ false
items_empty f [] b e g = let z : true ≡ false = sym e ∙ g in no_truth (sym z)
items_empty f (x ∷ xs) b e g = refl

pub pairs_there : (names : List (List ℕ)) (r : Register) (b : Bool) → b ≡ (length r == 0) → b ≡ false → is_no_item (pair_items Named names r) ≡ false
pairs_there names [] b e g = let z : true ≡ false = sym e ∙ g in no_truth (sym z)
pairs_there names (p ∷ r) b e g = refl

-- a list of identifiers, as their texts and one by one
pub id_items : (names : List (List ℕ)) (ids : List Id) → string_items (map (λ i. id_text names i) ids) ≡ as_items (map (id_json names) ids)
id_items names [] = refl
id_items names (i ∷ ids) = ap (item (id_json names i)) (id_items names ids)
