-- About Arena: what a changing call leaves of an arena's nodes.
use Rattle.std.proofs.Common.{◌≡◌, ℕ, zero, suc, ◌<◌, ◌≤◌, List, [], ◌∷◌, ◌++◌, length, get_or, slice_set, take, ◌-◌, Result, Ok, is_ok, if◌then◌else◌, refl, sym, ◌∙◌, ap, arith}
use Rattle.std.proofs.lemmas.List.{set-get_or}
use Rattle.jc_rules.specs.declared.key.Tagged.{Tagged}
use Rattle.jc_tree.specs.Arena.{Flat, flat_at, with_child_number, new_flat, changed_flat, former_of_flat}
use Rattle.jc_tree.specs.ArenaUndo.{without_last}
use Rattle.jc_tree.specs.declared.node.Change.{Change}
use Rattle.jc_tree.specs.declared.node.Former.{Former}
use Rattle.jc_tree.proofs.ArenaChangesLemmas.{with_child, with_change}
use Rattle.jc_tree.proofs.ArenaStepsLemmas.{node_read}

read_there : (ns vs : List Flat) (i : ℕ) (x : Flat) → vs ≡ ns → x ≡ get_or vs i x → i < length ns → x ≡ flat_at ns i
read_there ns vs i x e f w = sym (node_read ns i x w (f ∙ ap (λ l. get_or l i x) e))

pub nodes_made : (ns vs ws : List Flat) (i m : ℕ) (t t2 : Tagged) (x x2 child : Flat) → vs ≡ ns → x ≡ get_or vs i x → i < length ns → t2 ≡ t → m ≡ length ns → x2 ≡ with_child_number t2 m x → child ≡ new_flat t → ws ≡ slice_set vs i x2 ++ child ∷ [] → ws ≡ with_child t i ns
nodes_made ns vs ws i m t t2 x x2 child e f w te me xe ce is =
    let fe : x ≡ flat_at ns i = read_there ns vs i x e f w in
    let node : x2 ≡ with_child_number t (length ns) (flat_at ns i) = xe ∙ (λ j. with_child_number (te j) (me j) (fe j)) in
    is ∙ (λ j. slice_set (e j) i (node j) ++ ce j ∷ [])

pub nodes_changed : (ns : List Flat) (i : ℕ) (ch : Change) (x x2 : Flat) → x ≡ get_or ns i x → i < length ns → x2 ≡ changed_flat ch x → slice_set ns i x2 ≡ with_change ch i ns
nodes_changed ns i ch x x2 f w xe =
    let fe : x ≡ flat_at ns i = read_there ns ns i x refl f w in
    ap (λ y. slice_set ns i y) (xe ∙ ap (λ y. changed_flat ch y) fe)

-- what takes a change back, by the node as it was
pub former_there : (ns : List Flat) (i : ℕ) (ch : Change) (x : Flat) (f : Former) → x ≡ get_or ns i x → i < length ns → f ≡ former_of_flat ch x → f ≡ former_of_flat ch (flat_at ns i)
former_there ns i ch x f e w h = h ∙ ap (λ y. former_of_flat ch y) (read_there ns ns i x refl e w)

-- a node that a refused change left as it was
pub nodes_left : (ns vs : List Flat) (i : ℕ) (x x2 : Flat) → vs ≡ ns → x ≡ get_or vs i x → x2 ≡ x → slice_set vs i x2 ≡ ns
nodes_left ns vs i x x2 e f s = ap (λ y. slice_set vs i y) (s ∙ f) ∙ set-get_or vs i x ∙ e

pub pushed_ok : {A E X : Type 0} (r : Result A E) (a : A) (xs ys : List X) (x : X) → r ≡ Ok a → ys ≡ (if is_ok r then xs ++ x ∷ [] else xs) → ys ≡ xs ++ x ∷ []
pushed_ok r a xs ys x e h = h ∙ rw e refl

pub set_past : (ns : List Flat) (i : ℕ) (x : Flat) → length ns ≤ i → slice_set ns i x ≡ ns
set_past [] i x h = refl
set_past (n ∷ ns) zero x h = absurd (omega (arith, h))
set_past (n ∷ ns) (suc i) x h = ap (λ l. n ∷ l) (set_past ns i x (omega (arith, h)))

last_taken : (n : Flat) (ns : List Flat) → take (length ns) (n ∷ ns) ≡ without_last (n ∷ ns)
last_taken n [] = refl
last_taken n (m ∷ ns) = ap (λ l. n ∷ l) (last_taken m ns)

one_less : (ns : List Flat) → take (length ns - 1) ns ≡ without_last ns
one_less [] = refl
one_less (n ∷ ns) = let e : suc (length ns) - 1 ≡ length ns = omega arith in ap (λ i. take i (n ∷ ns)) e ∙ last_taken n ns

pub popped : (ns ms : List Flat) (k : ℕ) → k ≡ length ns → ms ≡ take (k - 1) ns → ms ≡ without_last ns
popped ns ms k l h = h ∙ ap (λ i. take (i - 1) ns) l ∙ one_less ns
