-- About Tree and Walks: the least key of two lists.
use Rattle.std.proofs.Common.{◌≡◌, List, [], ◌∷◌, ◌++◌, filter, Option, Some, None, option_to_list, refl, ◌∙◌, ap}
use Rattle.std.specs.declared.cmp.Ordering.{Ordering}
use Rattle.std.specs.declared.cmp.Ordering.TheVariants.{Less, Equal, Greater}
use Rattle.std.proofs.lemmas.List.Elements.{filter-append}
use Rattle.jc_rules.specs.declared.key.Key.{Key}
use Rattle.jc_rules.specs.Order.{key_cmp}
use Rattle.jc_rules.specs.Table.{lesser, least}
use Rattle.jc_rules.proofs.OrderLemmas.{keys_total, exact_keys}
use Rattle.jc_rules.proofs.RisingLemmas.{less_greater, greater_less}
use Rattle.jc_tree.specs.Tree.{is_after, least_after}

-- the lesser of what is there
abbrev pub least_of : Option Key → Option Key → Option Key
least_of a b = least (option_to_list a ++ option_to_list b)

of_three : (k j i : Key) → lesser k (lesser j (Some i)) ≡ least_of (lesser k (Some j)) (Some i)
of_three k j i = go (key_cmp k j) (key_cmp j i) refl refl
  where
    go : (o p : Ordering) → key_cmp k j ≡ o → key_cmp j i ≡ p → lesser k (lesser j (Some i)) ≡ least_of (lesser k (Some j)) (Some i)
    go Less Less e f = simp (e, f, keys_total.trans k j i e f)
    go Less Equal e f = let s : j ≡ i = exact_keys j i f in simp (e, f, rw s at e)
    go Less Greater e f = simp (e, f)
    go Equal Less e f = let s : k ≡ j = exact_keys k j e in simp (e, f, rw (← s) at f)
    go Equal Equal e f = let s : k ≡ j = exact_keys k j e in simp (e, f, rw (← s) at f)
    go Equal Greater e f = simp (e, f)
    go Greater Less e f = simp (e, f)
    go Greater Equal e f = simp (e, f)
    go Greater Greater e f = simp (e, f, less_greater keys_total i k (keys_total.trans i j k (greater_less keys_total j i f) (greater_less keys_total k j e)))

lesser-least_of : (k : Key) (a b : Option Key) → lesser k (least_of a b) ≡ least_of (lesser k a) b
lesser-least_of k None None = refl
lesser-least_of k None (Some i) = refl
lesser-least_of k (Some j) None = go (key_cmp k j) refl
  where
    go : (o : Ordering) → key_cmp k j ≡ o → lesser k (Some j) ≡ least_of (lesser k (Some j)) None
    go Less e = rw e refl
    go Equal e = rw e refl
    go Greater e = rw e refl
lesser-least_of k (Some j) (Some i) = of_three k j i

pub least-append : (js ks : List Key) → least (js ++ ks) ≡ least_of (least js) (least ks)
least-append [] ks = go (least ks)
  where
    go : (o : Option Key) → o ≡ least_of None o
    go None = refl
    go (Some k) = refl
least-append (j ∷ js) ks = ap (lesser j) (least-append js ks) ∙ lesser-least_of j (least js) (least ks)

pub least_after-append : (k : Option Key) (is js : List Key) → least_after k (is ++ js) ≡ least_of (least_after k is) (least_after k js)
least_after-append k is js = rw filter-append (least-append (filter (λ j. is_after k j) is) (filter (λ j. is_after k j) js))
