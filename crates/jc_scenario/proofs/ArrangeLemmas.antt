-- For `order`: a name inserted among rising names, and its script beside it.
use Rattle.std.proofs.Common.{◌≡◌, ℕ, zero, suc, ◌≤◌, ◌<◌, List, [], ◌∷◌, map, length, get_or, Ok, Err, refl, ap, ◌∙◌, arith}
use Rattle.std.specs.List.{AllByRecursion, Contains, insert}
use Rattle.std.specs.List.Sorted.{IsBinarySearchResult, IsPermutation}
use Rattle.std.specs.declared.cmp.Ordering.TheVariants.{Less, Greater}
use Rattle.std.proofs.lemmas.List.Elements.{recursion_from_All}
use Rattle.std.proofs.lemmas.List.Sorted.{IsPermutation-insert}
use Rattle.jc_rules.specs.Entries.{IsRising}
use Rattle.jc_rules.specs.Order.{name_cmp}
use Rattle.jc_rules.specs.Syntax.{Cmd}
use Rattle.jc_rules.proofs.OrderLemmas.{names_total, exact_names}
use Rattle.jc_rules.proofs.RisingLemmas as rising
use Rattle.jc_parser.specs.Scenarios.{Part}
use Rattle.jc_scenario.specs.WellFormed.{parts_of}

abbrev pub part : List ℕ → List Cmd → Part
part name script = record { name = name; script = script }

-- ---- the order of names

all_insert : (P : List ℕ → Type 0) (ns : List (List ℕ)) (p : ℕ) (n : List ℕ) → AllByRecursion P ns → P n → AllByRecursion P (insert ns p n)
all_insert P [] zero n all one = (one, tt)
all_insert P [] (suc p) n all one = (one, tt)
all_insert P (m ∷ ms) zero n all one = (one, all)
all_insert P (m ∷ ms) (suc p) n all one = (all.0, all_insert P ms p n all.1 one)

-- between the lesser and the greater ones
pub rises : (n : List ℕ) (ns : List (List ℕ)) (p : ℕ) → IsRising name_cmp ns → p ≤ length ns → ((k : ℕ) (d : List ℕ) → k < p → name_cmp (get_or ns k d) n ≡ Less) → ((k : ℕ) (d : List ℕ) → p ≤ k → k < length ns → name_cmp (get_or ns k d) n ≡ Greater) → IsRising name_cmp (insert ns p n)
rises n [] zero h le less more = (tt, tt)
rises n [] (suc p) h le less more = absurd (omega arith)
rises n (m ∷ ms) zero h le less more =
    (recursion_from_All (λ j. name_cmp n j ≡ Less) (m ∷ ms) (λ k d inside. rising.greater_less names_total (get_or (m ∷ ms) k d) n (more k d (omega arith) inside)), h)
rises n (m ∷ ms) (suc p) h le less more = (
  all_insert (λ j. name_cmp m j ≡ Less) ms p n h.0 (less 0 m (omega arith)),
  rises n ms p h.1 (omega arith) (λ k d l. less (suc k) d (omega arith)) (λ k d l i. more (suc k) d (omega arith) (omega arith)),
)

pub inserted-rises : (n : List ℕ) (ns : List (List ℕ)) (p : ℕ) → IsRising name_cmp ns → p ≤ length ns → IsBinarySearchResult (λ m. name_cmp m n) ns (Err p) → IsRising name_cmp (insert ns p n)
inserted-rises n ns p h bound found =
    let parts = found (rising.non_decreasing names_total n ns h) in
    rises n ns p h bound (λ k d l. parts.0 k d (omega arith) l) parts.1

pub found_there : (n : List ℕ) (ns : List (List ℕ)) (k : ℕ) → k < length ns → IsBinarySearchResult (λ m. name_cmp m n) ns (Ok k) → Contains ns n
found_there n ns k inside found = (k, inside, exact_names (get_or ns k n) n (found n))

-- ---- names and scripts side by side

pub parts-insert : (ns : List (List ℕ)) (ss : List (List Cmd)) (p : ℕ) (n : List ℕ) (s : List Cmd) → length ss ≡ length ns → parts_of (insert ns p n) (insert ss p s) ≡ insert (parts_of ns ss) p (part n s)
parts-insert [] [] zero n s each = refl
parts-insert [] [] (suc p) n s each = refl
parts-insert [] (t ∷ ss) p n s each = absurd (omega arith)
parts-insert (m ∷ ns) [] p n s each = absurd (omega arith)
parts-insert (m ∷ ns) (t ∷ ss) zero n s each = refl
parts-insert (m ∷ ns) (t ∷ ss) (suc p) n s each = ap (λ (l : List Part). part m t ∷ l) (parts-insert ns ss p n s (omega arith))

map-insert : {X Y : Type 0} (f : X → Y) (xs : List X) (p : ℕ) (x : X) → map f (insert xs p x) ≡ insert (map f xs) p (f x)
map-insert f [] zero x = refl
map-insert f [] (suc p) x = refl
map-insert f (y ∷ xs) zero x = refl
map-insert {X} {Y} f (y ∷ xs) (suc p) x = ap (λ (l : List Y). f y ∷ l) (map-insert f xs p x)

pub parts-entered : {X : Type 0} (f : X → List Cmd) (ns : List (List ℕ)) (xs : List X) (p : ℕ) (n : List ℕ) (x : X) → length xs ≡ length ns → length (map f xs) ≡ length xs → IsPermutation (part n (f x) ∷ parts_of ns (map f xs)) (parts_of (insert ns p n) (map f (insert xs p x)))
parts-entered f ns xs p n x each count =
    rw (map-insert f xs p x, parts-insert ns (map f xs) p n (f x) (count ∙ each)) (IsPermutation-insert (parts_of ns (map f xs)) p (part n (f x)))
