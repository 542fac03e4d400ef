-- About ContextPaths: the path of each context is among them, so one that passes a test is found.
use Rattle.std.proofs.Common.{◌≡◌, ◌≢◌, zero, suc, List, [], ◌∷◌, ◌++◌, map, Option, Some, None, Bool, true, false, cond, Contains, refl, sym, ◌∙◌, ap, arith}
use Rattle.std.specs.Ordering.{eq_by_cmp}
use Rattle.std.proofs.lemmas.Option.{same_Some}
use Rattle.std.proofs.lemmas.List.{length-map, get_or-map}
use Rattle.std.proofs.lemmas.List.Elements.{Contains-append_left, Contains-append_right}
use Rattle.jc_rules.specs.declared.key.Key.{Key}
use Rattle.jc_rules.specs.declared.key.Tagged.{Tagged}
use Rattle.jc_rules.specs.declared.key.Tagged.TheVariants.{MapT, ListT, RegT}
use Rattle.jc_rules.specs.Order.{key_cmp}
use Rattle.jc_rules.specs.Entries.{find}
use Rattle.jc_rules.specs.Context.{Context, context, Children, no_child, child, listed, Register, node_of, values_of}
use Rattle.jc_rules.specs.ContextsAt.{at_node, node_at}
use Rattle.jc_rules.proofs.OrderLemmas.{keys_total, exact_keys}
use Rattle.jc_rules.proofs.EntriesLemmas.{same-eq}
use Rattle.jc_tree.specs.ContextPaths.{paths, paths_in, first_path}

-- with one key before each
longer : (t : Tagged) (ps : List (List Tagged)) (q : List Tagged) → Contains ps q → Contains (map (λ p. t ∷ p) ps) (t ∷ q)
longer t ps q h =
    let long = length-map ps (λ p. t ∷ p) in
    let within = h.1 in
    (h.0, omega (arith, long, within), get_or-map (λ p. t ∷ p) ps h.0 q (t ∷ q) h.1 ∙ ap (λ p. t ∷ p) h.2)

-- the paths through a child are listed
listed_in : (f : Key → Tagged) (cs : Children) (k : Key) (d : Context) (q : List Tagged) → find key_cmp k (listed cs) ≡ Some d → Contains (paths d) q → Contains (paths_in f cs) (f k ∷ q)
listed_in f no_child k d q h i = let no : None ≡ Some d = h in cc
listed_in f (child j c cs) k d q h i = go (eq_by_cmp key_cmp k j) refl (listed_in f cs k d q) h
  where
    go : (b : Bool) → eq_by_cmp key_cmp k j ≡ b → (find key_cmp k (listed cs) ≡ Some d → Contains (paths d) q → Contains (paths_in f cs) (f k ∷ q)) → cond b (Some c) (find key_cmp k (listed cs)) ≡ Some d → Contains (map (λ p. f j ∷ p) (paths c) ++ paths_in f cs) (f k ∷ q)
    go true e ih g = rw (same-eq keys_total exact_keys k j e, same_Some c d g) (Contains-append_left (map (λ p. f j ∷ p) (paths d)) (paths_in f cs) (f j ∷ q) (longer (f j) (paths d) q i))
    go false e ih g = Contains-append_right (map (λ p. f j ∷ p) (paths c)) (paths_in f cs) (f k ∷ q) (ih g i)

-- the path of each context is listed
pub listed_path : (at : List Tagged) (c : Context) → node_at at c ≢ None → Contains (paths c) at
listed_path [] (context m l r p n) h = (0, omega arith, refl)
listed_path (MapT k ∷ ks) (context m l r p n) h = go (find key_cmp k (listed m)) refl (λ d. listed_path ks d) h
  where
    go : (o : Option Context) → find key_cmp k (listed m) ≡ o → ((d : Context) → node_at ks d ≢ None → Contains (paths d) ks) → at_node (node_of o) (λ d. node_at ks d) None ≢ None → Contains (paths (context m l r p n)) (MapT k ∷ ks)
    go None e ih g = absurd (g refl)
    go (Some d) e ih g = Contains-append_right ([] ∷ []) (paths_in (λ j. MapT j) m ++ paths_in (λ j. ListT j) l) (MapT k ∷ ks) (Contains-append_left (paths_in (λ j. MapT j) m) (paths_in (λ j. ListT j) l) (MapT k ∷ ks) (listed_in (λ j. MapT j) m k d ks e (ih d g)))
listed_path (ListT k ∷ ks) (context m l r p n) h = go (find key_cmp k (listed l)) refl (λ d. listed_path ks d) h
  where
    go : (o : Option Context) → find key_cmp k (listed l) ≡ o → ((d : Context) → node_at ks d ≢ None → Contains (paths d) ks) → at_node (node_of o) (λ d. node_at ks d) None ≢ None → Contains (paths (context m l r p n)) (ListT k ∷ ks)
    go None e ih g = absurd (g refl)
    go (Some d) e ih g = Contains-append_right ([] ∷ []) (paths_in (λ j. MapT j) m ++ paths_in (λ j. ListT j) l) (ListT k ∷ ks) (Contains-append_right (paths_in (λ j. MapT j) m) (paths_in (λ j. ListT j) l) (ListT k ∷ ks) (listed_in (λ j. ListT j) l k d ks e (ih d g)))
listed_path (RegT k ∷ ks) (context m l r p n) h = absurd (go (find key_cmp k r) h)
  where
    go : (o : Option Register) → at_node (values_of o) (λ d. node_at ks d) None ≢ None → ⊥
    go None g = g refl
    go (Some v) g = g refl

-- where one of the paths passes, the first that does is found
pub first_passes : (p : List Tagged → Bool) (qs : List (List Tagged)) (q : List Tagged) → Contains qs q → p q ≡ true → p (first_path p qs) ≡ true
first_passes p [] q (k, within, is) h = absurd (omega (arith, within))
first_passes p (x ∷ qs) q i h = go (p x) refl i (first_passes p qs q)
  where
    go : (b : Bool) → p x ≡ b → Contains (x ∷ qs) q → (Contains qs q → p q ≡ true → p (first_path p qs) ≡ true) → p (cond b x (first_path p qs)) ≡ true
    go true e i ih = e
    go false e (zero, within, is) ih = let no : false ≡ true = sym e ∙ ap p is ∙ h in cc
    go false e (suc k, within, is) ih = ih (k, omega (arith, within), is) h
