-- About Difference: two trees have a difference where the second keeps what no word tells (`Keeps`).
use Rattle.std.proofs.Common.{◌≡◌, ℕ, zero, suc, ◌+◌, ◌≤◌, ◌<◌, List, [], ◌∷◌, ◌++◌, Bool, true, false, cond, Option, Some, None, is_some, ◌⊎◌, inl, inr, refl, sym, ◌∙◌, ap, subst, arith}
use Rattle.jc_rules.specs.declared.key.Key.{Key}
use Rattle.jc_rules.specs.declared.key.Tagged.{Tagged}
use Rattle.jc_rules.specs.declared.key.Tagged.TheVariants.{MapT, ListT, RegT}
use Rattle.jc_rules.specs.declared.operation.Op.{Op}
use Rattle.jc_rules.specs.Order.{key_cmp, same_key}
use Rattle.jc_rules.specs.Entries.{IsRising, find, put, keys_of}
use Rattle.jc_rules.specs.Ids.{has_id}
use Rattle.jc_rules.specs.Context.{Context, Register, Content, Node, Values, node_of, values_of, content, maps, lists, registers, presences, links, next, keys}
use Rattle.jc_rules.specs.Table.{is_done}
use Rattle.jc_rules.proofs.BoolLemmas.{no_truth, none_of}
use Rattle.jc_rules.proofs.EntriesLemmas.{find-put, rising-put}
use Rattle.jc_rules.proofs.OrderLemmas.{keys_total, exact_keys}
use Rattle.jc_tree.specs.Nested.{nested}
use Rattle.jc_tree.specs.Tree.{all_keys}
use Rattle.jc_clear.proofs.BareLemmas.{nested_below}
use Rattle.jc_meaning.specs.Seen.{context_or_new, seen, ids_of_some, ids_at, reg_at, value_in_some}
use Rattle.jc_meaning.proofs.ClearingEffectsInductionLemmas.{done_found}
use Rattle.jc_meaning.proofs.OrdersLemmas.{keys_back}
use Rattle.jc_effects.specs.Difference.{Differences, no_difference, own_difference, below, IsSameAt, IsSameFrom, IsDifference}
use Rattle.jc_effects.specs.Laws.{IsNextTree}
use Rattle.jc_effects.specs.Parts.{with_difference, IsDifferenceAmong}
use Rattle.jc_effects.proofs.PartsAmongLemmas.{Keeps, itself, same_from, none_among, one_more, all_among}
use Rattle.jc_effects.proofs.PartsOwnLemmas.{keeps_all}

-- ---- where both have the same below a key, or nothing

same_tree : (c : Context) → IsDifference c c no_difference
same_tree c = record { complete = record { rise = tt; others = λ k e P l f. itself l (seen P c) }; exact = tt }

same_content : (t : Tagged) (c d : Context) → content t c ≡ content t d → IsDifference (below t c) (below t d) no_difference
same_content t c d e = subst (λ x. IsDifference (below t c) (context_or_new x t) no_difference) e (same_tree (below t c))

-- nothing is under the key
record IsAbsent (k : Key) (c : Context) : Type 0 where
  map : content (MapT k) c ≡ None
  list : content (ListT k) c ≡ None
  register : reg_at k c ≡ None
  ids : ids_at k c ≡ []
  link : next k c ≡ None

absent_from : (k : Key) (c d : Context) → IsAbsent k c → IsAbsent k d → IsSameFrom k c d
absent_from k c d a b = same_from k c d same (same_content (MapT k) c d (a.map ∙ sym b.map)) (same_content (ListT k) c d (a.list ∙ sym b.list))
  where
    same : IsSameAt k c d
    same = record {
      maps = ap is_some (b.map ∙ sym a.map);
      lists = ap is_some (b.list ∙ sym a.list);
      registers = ap (λ o. is_some (values_of o)) (b.register ∙ sym a.register);
      ids = λ i. ap (has_id i) (b.ids ∙ sym a.ids);
      values = λ i. ap (value_in_some i) (b.register ∙ sym a.register);
      links = b.link ∙ sym a.link;
    }

-- ---- the keys of both, rising

in_neither : (xs ys : List Key) (k : Key) → is_done (xs ++ ys) k ≡ false → (is_done xs k ≡ false) × (is_done ys k ≡ false)
in_neither [] ys k e = (refl, e)
in_neither (x ∷ xs) ys k e = go (same_key x k) e (in_neither xs ys k)
  where
    go : (b : Bool) → cond b true (is_done (xs ++ ys) k) ≡ false → (is_done (xs ++ ys) k ≡ false → (is_done xs k ≡ false) × (is_done ys k ≡ false)) → (cond b true (is_done xs k) ≡ false) × (is_done ys k ≡ false)
    go true f ih = no_truth (sym f)
    go false f ih = ih f

not_found : {X : Type 0} (es : List (Key × X)) (k : Key) → is_done (keys_of es) k ≡ false → find key_cmp k es ≡ None
not_found es k e = none_of (find key_cmp k es) (sym (done_found es k) ∙ e)

is_absent : (k : Key) (c : Context) → is_done (all_keys c) k ≡ false → IsAbsent k c
is_absent k c out =
    let linked = in_neither (keys c ++ keys_of (presences c)) (keys_of (links c)) k out in
    let present = in_neither (keys c) (keys_of (presences c)) k linked.0 in
    let tagged = in_neither (keys_of (maps c) ++ keys_of (lists c)) (keys_of (registers c)) k present.0 in
    let children = in_neither (keys_of (maps c)) (keys_of (lists c)) k tagged.0 in
    record {
      map = ap node_of (not_found (maps c) k children.0);
      list = ap node_of (not_found (lists c) k children.1);
      register = not_found (registers c) k tagged.1;
      ids = ap ids_of_some (not_found (presences c) k present.1);
      link = not_found (links c) k linked.1;
    }

-- the keys, each once, rising
abbrev rising_keys : List Key → List (Key × Bool)
rising_keys [] = []
rising_keys (k ∷ ks) = put key_cmp k true (rising_keys ks)

are_rising : (ks : List Key) → IsRising key_cmp (keys_of (rising_keys ks))
are_rising [] = tt
are_rising (k ∷ ks) = rising-put keys_total exact_keys k true (rising_keys ks) (are_rising ks)

same_keys : (ks : List Key) (k : Key) → is_done (keys_of (rising_keys ks)) k ≡ is_done ks k
same_keys [] k = refl
same_keys (j ∷ js) k =
    done_found (put key_cmp j true (rising_keys js)) k
    ∙ ap is_some (find-put keys_total exact_keys k j true (rising_keys js))
    ∙ go (same_key k j) (sym (done_found (rising_keys js) k) ∙ same_keys js k)
    ∙ ap (λ b. cond b true (is_done js k)) (keys_back k j)
  where
    go : (b : Bool) → is_some (find key_cmp k (rising_keys js)) ≡ is_done js k → is_some (cond b (Some true) (find key_cmp k (rising_keys js))) ≡ cond b true (is_done js k)
    go true e = refl
    go false e = e

abbrev keys_of_both : Context → Context → List Key
keys_of_both c d = keys_of (rising_keys (all_keys c ++ all_keys d))

others_from : (c d : Context) (k : Key) → is_done (keys_of_both c d) k ≡ false → IsSameFrom k c d
others_from c d k e =
    let out = in_neither (all_keys c) (all_keys d) k (sym (same_keys (all_keys c ++ all_keys d) k) ∙ e) in
    absent_from k c d (is_absent k c out.0) (is_absent k d out.1)

-- ---- one key after another

abbrev HasDifference : Context → Context → Type 0
HasDifference c d = (x : Differences) × IsDifference c d x

-- what no word tells is kept at each key, however deep
abbrev KeepsAll : Context → Context → Type 0
KeepsAll c d = (P : List Tagged) (k : Key) → Keeps k (seen P c) (seen P d)

module _ (c d : Context) (keeps : (k : Key) → Keeps k c d) (inside : (t : Tagged) → HasDifference (below t c) (below t d)) where
  among : (ks : List Key) → IsRising key_cmp ks → (x : Differences) × IsDifferenceAmong ks c d x
  among [] h = (no_difference, none_among c d)
  among (k ∷ ks) h =
      let m = inside (MapT k) in
      let l = inside (ListT k) in
      let rest = among ks h.1 in (
        with_difference k (own_difference k c d) m.0 l.0 rest.0,
        one_more k ks c d (own_difference k c d) m.0 l.0 rest.0 h.0 (keeps k) refl m.1 l.1 rest.1,
      )

  by_keys : HasDifference c d
  by_keys =
      let found = among (keys_of_both c d) (are_rising (all_keys c ++ all_keys d)) in
      (found.0, all_among (keys_of_both c d) c d found.0 (others_from c d) found.1)

-- ---- the contexts below

-- what is below a tagged key has fewer contexts, or it is new
fewer_below : (t : Tagged) (c : Context) → (suc (nested (below t c)) ≤ nested c) ⊎ (below t c ≡ context_or_new None t)
fewer_below t c = go (content t c) refl
  where
    no_node : (u : Tagged) (r : Register) → context_or_new (Some (Values r)) u ≡ context_or_new None u
    no_node (MapT k) r = refl
    no_node (ListT k) r = refl
    no_node (RegT k) r = refl

    go : (x : Option Content) → content t c ≡ x → (suc (nested (context_or_new x t)) ≤ nested c) ⊎ (context_or_new x t ≡ context_or_new None t)
    go None e = inr refl
    go (Some (Node d)) e = inl (nested_below t c d e)
    go (Some (Values r)) e = inr (no_node t r)

none_in_new : (t : Tagged) → nested (context_or_new None t) ≡ 0
none_in_new (MapT k) = refl
none_in_new (ListT k) = refl
none_in_new (RegT k) = refl

-- Where both are new they are the same; else there are fewer contexts in both together.
difference_below : (n : ℕ) (t : Tagged) (c d : Context) → nested c + nested d < suc n → (nested (below t c) + nested (below t d) < n → HasDifference (below t c) (below t d)) → HasDifference (below t c) (below t d)
difference_below n t c d within smaller = go (fewer_below t c) (fewer_below t d)
  where
    none : (x : Context) → below t x ≡ context_or_new None t → nested (below t x) ≡ 0
    none x e = ap nested e ∙ none_in_new t

    go : (suc (nested (below t c)) ≤ nested c) ⊎ (below t c ≡ context_or_new None t) → (suc (nested (below t d)) ≤ nested d) ⊎ (below t d ≡ context_or_new None t) → HasDifference (below t c) (below t d)
    go (inl e) (inl f) = smaller (omega (arith, e, f, within))
    go (inl e) (inr f) = smaller (omega (arith, e, none d f, within))
    go (inr e) (inl f) = smaller (omega (arith, none c e, f, within))
    go (inr e) (inr f) = (no_difference, subst (λ x. IsDifference (below t c) x no_difference) (e ∙ sym f) (same_tree (below t c)))

has_difference : (n : ℕ) (c d : Context) → nested c + nested d < n → KeepsAll c d → HasDifference c d
has_difference zero c d within keeps = absurd (omega (arith, within))
has_difference (suc n) c d within keeps = by_keys c d (keeps []) (λ t. difference_below n t c d within (λ less. has_difference n (below t c) (below t d) less (λ P k. keeps (t ∷ P) k)))

-- an operation keeps what no word tells
pub some_difference : (o : Op) (c d : Context) → IsNextTree o c d → HasDifference c d
some_difference o c d x = has_difference (suc (nested c + nested d)) c d (omega arith) (λ P k. keeps_all o c d (o.deps, x) P k)
