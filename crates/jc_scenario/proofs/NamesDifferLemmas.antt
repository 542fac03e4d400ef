-- About `WellFormed`: names of replicas that differ.
use Rattle.std.proofs.Common.{◌≡◌, ◌≢◌, ℕ, ◌<◌, List, [], ◌∷◌, map, length, get_or, take, refl, sym, ap, subst, ◌∙◌, arith, length-take}
use Rattle.std.specs.List.{AllPairs, Contains}
use Rattle.std.specs.List.Sorted.{IsPermutation}
use Rattle.std.specs.declared.cmp.Ordering.TheVariants.{Less}
use Rattle.std.proofs.lemmas.List.{get_or-map, get_or-take, length-map, map-id, take-map}
use Rattle.std.proofs.lemmas.List.Elements.{All-from_recursion, All-weaker}
use Rattle.std.proofs.lemmas.List.Kept.{AllPairs-cons}
use Rattle.std.proofs.lemmas.List.Sorted.{IsPermutation-map, IsPermutation-sym, Contains-permutation}
use Rattle.jc_rules.specs.Entries.{IsRising}
use Rattle.jc_rules.specs.Order.{name_cmp}
use Rattle.jc_rules.specs.Syntax.{Cmd}
use Rattle.jc_rules.proofs.OrderLemmas.{names_total}
use Rattle.jc_rules.proofs.RisingLemmas as rising
use Rattle.jc_parser.specs.declared.scenarios.NamedReplica.{NamedReplica}
use Rattle.jc_parser.specs.Scenarios.{Part, name_of_part}
use Rattle.jc_parser.specs.ScenarioViews.{part_view, names_of}
use Rattle.jc_scenario.specs.WellFormed.{parts_of}

pub names-parts : (ns : List (List ℕ)) (ss : List (List Cmd)) → length ss ≡ length ns → map name_of_part (parts_of ns ss) ≡ ns
names-parts [] [] each = refl
names-parts [] (s ∷ ss) each = refl
names-parts (n ∷ ns) [] each = absurd (omega arith)
names-parts (n ∷ ns) (s ∷ ss) each = ap (λ (l : List (List ℕ)). n ∷ l) (names-parts ns ss (omega arith))

-- the name of a replica that comes later is none of those before it
pub name_new : (all : List Part) (i : ℕ) (x : Part) (ns : List (List ℕ)) (ss : List (List Cmd)) → AllPairs (λ a b. a ≢ b) (map name_of_part all) → i < length all → x ≡ get_or all i x → IsPermutation (take i all) (parts_of ns ss) → length ss ≡ length ns → Contains ns x.name → ⊥
name_new all i x ns ss apart inside is same each has =
    let early : List Part = take i all in
    let names : IsPermutation (map name_of_part (take i all)) ns = subst (IsPermutation (map name_of_part (take i all))) (names-parts ns ss each) (IsPermutation-map name_of_part (take i all) (parts_of ns ss) same) in
    let (k, within, here) = Contains-permutation ns (map name_of_part (take i all)) x.name (IsPermutation-sym (map name_of_part (take i all)) ns names) has in
    let short : k < length (take i all) = omega (arith, within, length-map (take i all) name_of_part) in
    let before : k < i = omega (arith, short, length-take i all) in
    let first : get_or (map name_of_part all) k x.name ≡ x.name =
    get_or-map name_of_part all k x x.name (omega arith)
    ∙ ap name_of_part (sym (get_or-take i all k x before))
    ∙ sym (get_or-map name_of_part (take i all) k x x.name short)
    ∙ here in
    let second : get_or (map name_of_part all) i x.name ≡ x.name = get_or-map name_of_part all i x x.name inside ∙ ap name_of_part (sym is) in
    apart k i x.name before (omega (arith, length-map all name_of_part)) (first ∙ sym second)

-- the same of replicas in memory
pub later_new : (all before : List NamedReplica) (x : NamedReplica) (ns : List (List ℕ)) (ss : List (List Cmd)) → AllPairs (λ a b. a ≢ b) (names_of all) → length before < length all → x ≡ get_or all (length before) x → map (λ y. y) before ≡ take (length before) all → IsPermutation (map part_view before) (parts_of ns ss) → length ss ≡ length ns → Contains ns x.name → ⊥
later_new all before x ns ss apart inside is front same each has =
    let own : before ≡ take (length before) all = sym (map-id before) ∙ front in
    let parts : map part_view before ≡ take (length before) (map part_view all) = ap (map part_view) own ∙ sym (take-map part_view (length before) all) in
    name_new (map part_view all) (length before) (part_view x) ns ss apart (omega (arith, inside, length-map all part_view))
    (ap part_view is ∙ sym (get_or-map part_view all (length before) x (part_view x) inside))
    (subst (λ (l : List Part). IsPermutation l (parts_of ns ss)) parts same) each has

pub never_less : (n : List ℕ) → name_cmp n n ≡ Less → ⊥
never_less n h = let other = rising.less_greater names_total n n h in cc

pub rising_apart : (ns : List (List ℕ)) → IsRising name_cmp ns → AllPairs (λ a b. a ≢ b) ns
rising_apart [] h = λ i j d less inside. absurd (omega arith)
rising_apart (n ∷ ns) h =
    AllPairs-cons (λ a b. a ≢ b) n ns
    (All-weaker (λ m. name_cmp n m ≡ Less) (λ m. n ≢ m) (λ m less same. never_less n (subst (λ (l : List ℕ). name_cmp n l ≡ Less) (sym same) less)) ns (All-from_recursion (λ m. name_cmp n m ≡ Less) ns h.0))
    (rising_apart ns h.1)
