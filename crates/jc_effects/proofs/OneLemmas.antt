-- About Difference: two trees have one difference.
use Rattle.std.proofs.Common.{◌≡◌, List, [], ◌∷◌, Bool, true, false, not, ◌&&◌, cond, Option, Some, None, is_some, refl, sym, ◌∙◌, ap, subst}
use Rattle.std.specs.List.{AllByRecursion}
use Rattle.std.specs.declared.cmp.Ordering.{Ordering}
use Rattle.std.specs.declared.cmp.Ordering.TheVariants.{Less, Equal, Greater}
use Rattle.std.specs.Ordering.{eq_by_cmp, is_lt, ordering_reverse}
use Rattle.jc_tree.proofs.WalksLemmas.{after_over}
use Rattle.jc_rules.specs.declared.id.Id.{Id}
use Rattle.jc_rules.specs.declared.key.Key.{Key}
use Rattle.jc_rules.specs.declared.key.Next.{Next}
use Rattle.jc_rules.specs.declared.key.Next.TheVariants.{Tail, Elem as To}
use Rattle.jc_rules.specs.declared.key.Tagged.{Tagged}
use Rattle.jc_rules.specs.declared.key.Tagged.TheVariants.{MapT, ListT, RegT}
use Rattle.jc_rules.specs.declared.value.Value.{Value}
use Rattle.jc_rules.specs.Order.{key_cmp, id_cmp, same_id, same_key}
use Rattle.jc_rules.specs.Entries.{IsRising, find}
use Rattle.jc_rules.specs.Ids.{has_id, without}
use Rattle.jc_rules.specs.Context.{Context, Register, next}
use Rattle.jc_rules.proofs.BoolLemmas.{or_right, no_either}
use Rattle.jc_rules.proofs.IdsLemmas.{same_id-self}
use Rattle.jc_rules.proofs.OrderLemmas.{keys_total, exact_keys}
use Rattle.jc_tree.specs.Tree.{or_no_entries, is_after}
use Rattle.jc_meaning.specs.Seen.{ids_at, reg_at, value_in_some, value_seen_at, has_tag}
use Rattle.jc_meaning.proofs.OrdersLemmas.{keys_self}
use Rattle.jc_effects.specs.Difference.{OwnDifference, same_link, values_without, tag_made, link_changed, own_difference, is_nothing, is_quiet, Differences, no_difference, difference, is_no_difference, differing_keys, is_listed, below, IsSameAt, IsSameFrom, AreComplete, AreExact, IsDifference}

-- ---- where nothing differs, nothing differs of a key's own entries

pub without_none : (xs ys : List Id) → ((i : Id) → has_id i xs ≡ true → has_id i ys ≡ true) → is_nothing (without xs ys) ≡ true
without_none [] ys h = refl
without_none (x ∷ xs) ys h = go (has_id x ys) refl (without_none xs ys (λ i e. h i (or_right (same_id i x) (has_id i xs) e)))
  where
    go : (b : Bool) → has_id x ys ≡ b → is_nothing (without xs ys) ≡ true → is_nothing (without (x ∷ xs) ys) ≡ true
    go true e r = rw e r
    go false e r = let z : has_id x ys ≡ true = h x (rw (same_id-self x) refl) in let w : true ≡ false = sym z ∙ e in cc

pub values_none : (r : Register) (k : Key) (c : Context) → ((i : Id) → is_some (find id_cmp i r) ≡ true → is_some (value_seen_at i k c) ≡ true) → is_nothing (values_without r k c) ≡ true
values_none [] k c h = refl
values_none (e ∷ es) k c h = go (is_some (value_seen_at e.0 k c)) refl (values_none es k c (λ i f. h i (later (eq_by_cmp id_cmp i e.0) (find id_cmp i es) f)))
  where
    later : (b : Bool) (o : Option Value) → is_some o ≡ true → is_some (cond b (Some e.1) o) ≡ true
    later true o f = refl
    later false o f = f

    go : (b : Bool) → is_some (value_seen_at e.0 k c) ≡ b → is_nothing (values_without es k c) ≡ true → is_nothing (values_without (e ∷ es) k c) ≡ true
    go true f r = rw f r
    go false f r = let self : eq_by_cmp id_cmp e.0 e.0 ≡ true = same_id-self e.0 in let z : is_some (value_seen_at e.0 k c) ≡ true = h e.0 (rw self refl) in let w : true ≡ false = sym z ∙ f in cc

taken_none : (k : Key) (c d : Context) → ((i : Id) → value_seen_at i k d ≡ value_seen_at i k c) → is_nothing (values_without (or_no_entries (reg_at k c)) k d) ≡ true
taken_none k c d h = go (reg_at k c) (λ i. h i)
  where
    go : (o : Option Register) → ((i : Id) → value_seen_at i k d ≡ value_in_some i o) → is_nothing (values_without (or_no_entries o) k d) ≡ true
    go None f = refl
    go (Some r) f = values_none r k d (λ i e. ap is_some (f i) ∙ e)

no_tag : (u : Tagged) (c d : Context) → has_tag u d ≡ has_tag u c → tag_made u c d ≡ []
no_tag u c d e = go (has_tag u c) (has_tag u d) e
  where
    go : (x y : Bool) → y ≡ x → cond (y && not x) (u ∷ []) [] ≡ []
    go true y e = rw e refl
    go false true e = cc
    go false false e = refl

same_links : (n : Option Next) → same_link n n ≡ true
same_links None = refl
same_links (Some Tail) = refl
same_links (Some (To i)) = same_id-self i

no_link : (k : Key) (c d : Context) → next k d ≡ next k c → link_changed (next k c) (next k d) ≡ None
no_link k c d e = rw e (ap (λ b. cond b None (Some (next k c, next k c))) (same_links (next k c)))

all_six : (a b c d e f : Bool) → a ≡ true → b ≡ true → c ≡ true → d ≡ true → e ≡ true → f ≡ true → (a && (b && (c && (d && (e && f))))) ≡ true
all_six a b c d e f p q r s t u = rw (p, q, r, s, t, u) refl

pub quiet : (k : Key) (c d : Context) → IsSameAt k c d → is_quiet (own_difference k c d) ≡ true
quiet k c d s =
    all_six _ _ _ _ _ _
    (without_none (ids_at k d) (ids_at k c) (λ i e. sym (s.ids i) ∙ e))
    (without_none (ids_at k c) (ids_at k d) (λ i e. s.ids i ∙ e))
    (rw (no_tag (MapT k) c d s.maps, no_tag (ListT k) c d s.lists, no_tag (RegT k) c d s.registers) refl)
    (ap (λ o. not (is_some o)) (no_link k c d s.links))
    (taken_none k c d s.values)
    (taken_none k d c (λ i. sym (s.values i)))

-- ---- what differs below differs

same_here : (k : Key) (c d : Context) → IsSameFrom k c d → IsSameAt k c d
same_here k c d s = s [] k (keys_self k)

map_same : (k : Key) (c d : Context) → IsSameFrom k c d → (j : Key) → IsSameFrom j (below (MapT k) c) (below (MapT k) d)
map_same k c d s j P l e = s (MapT k ∷ P) l (keys_self k)

list_same : (k : Key) (c d : Context) → IsSameFrom k c d → (j : Key) → IsSameFrom j (below (ListT k) c) (below (ListT k) d)
list_same k c d s j P l e = s (ListT k ∷ P) l (keys_self k)

clash : (a b c : Bool) → a ≡ true → b ≡ true → c ≡ true → (a && (b && c)) ≡ false → ⊥
clash true true true p q r f = cc
clash false b c p q r f = cc
clash true false c p q r f = cc
clash true true false p q r f = cc

none_same : (x : Differences) (c d : Context) → AreExact c d x → ((k : Key) → IsSameFrom k c d) → is_no_difference x ≡ true
none_same no_difference c d r s = refl
none_same (difference k o m l rest) c d r s =
    absurd (clash (is_quiet o) (is_no_difference m) (is_no_difference l)
    (ap is_quiet r.0 ∙ quiet k c d (same_here k c d (s k)))
    (none_same m (below (MapT k) c) (below (MapT k) d) r.3 (map_same k c d (s k)))
    (none_same l (below (ListT k) c) (below (ListT k) d) r.5 (list_same k c d (s k)))
    r.1)

differs : (k : Key) (o : OwnDifference) (m l rest : Differences) (c d : Context) → AreExact c d (difference k o m l rest) → IsSameFrom k c d → ⊥
differs k o m l rest c d r s = clash (is_quiet o) (is_no_difference m) (is_no_difference l)
    (ap is_quiet r.0 ∙ quiet k c d (same_here k c d s))
    (none_same m (below (MapT k) c) (below (MapT k) d) r.3 (map_same k c d s))
    (none_same l (below (ListT k) c) (below (ListT k) d) r.5 (list_same k c d s))
    r.1

-- ---- two lists of places

apart : (j k : Key) → key_cmp j k ≡ Less → same_key j k ≡ false
apart j k e = rw e refl

below_all : (k : Key) (js : Differences) → AllByRecursion (λ j. key_cmp k j ≡ Less) (differing_keys js) → is_listed k js ≡ false
below_all k no_difference a = refl
below_all k (difference j o m l rest) a = no_either (same_key k j) (is_listed k rest) (apart k j a.0) (below_all k rest a.1)

over : (j k : Key) (ks : List Key) → key_cmp j k ≡ Less → AllByRecursion (λ i. key_cmp k i ≡ Less) ks → AllByRecursion (λ i. key_cmp j i ≡ Less) ks
over j k [] e a = tt
over j k (i ∷ is) e a = (keys_total.trans j k i e a.0, over j k is e a.1)

unlisted : (j k : Key) (o : OwnDifference) (m l rest : Differences) → key_cmp j k ≡ Less → IsRising key_cmp (differing_keys (difference k o m l rest)) → is_listed j (difference k o m l rest) ≡ false
unlisted j k o m l rest e r = no_either (same_key j k) (is_listed j rest) (apart j k e) (below_all j rest (over j k (differing_keys rest) e r.0))

pub flipped : (k j : Key) → key_cmp k j ≡ Greater → key_cmp j k ≡ Less
flipped k j e = keys_total.antisymm j k ∙ ap ordering_reverse e

pub is_less : (o : Ordering) → is_lt o ≡ true → o ≡ Less
is_less Less e = refl
is_less Equal e = cc
is_less Greater e = cc

above_less : (j k : Key) → is_after (Some k) j ≡ true → key_cmp k j ≡ Less
above_less j k e = is_less (key_cmp k j) e

after_later : (j k : Key) → is_after (Some k) j ≡ true → same_key j k ≡ false
after_later j k e = rw (keys_total.antisymm j k ∙ ap ordering_reverse (above_less j k e)) refl

all_after : (k : Key) (js : List Key) → AllByRecursion (λ j. key_cmp k j ≡ Less) js → AllByRecursion (λ j. is_after (Some k) j ≡ true) js
all_after k [] a = tt
all_after k (j ∷ js) a = (rw a.0 refl, all_after k js a.1)

all_free : (js : List Key) → AllByRecursion (λ j. is_after None j ≡ true) js
all_free [] = tt
all_free (j ∷ js) = (refl, all_free js)

abbrev Others : Option Key → Context → Context → Differences → Type 0
Others lo c d x = (k : Key) → is_listed k x ≡ false → is_after lo k ≡ true → IsSameFrom k c d

abbrev AllAfter : Option Key → Differences → Type 0
AllAfter lo x = AllByRecursion (λ j. is_after lo j ≡ true) (differing_keys x)

-- the others of the rest, above the first key
rest_others : (lo : Option Key) (c d : Context) (k : Key) (o : OwnDifference) (m l rest : Differences) → is_after lo k ≡ true → Others lo c d (difference k o m l rest) → Others (Some k) c d rest
rest_others lo c d k o m l rest a f j e h = f j (no_either (same_key j k) (is_listed j rest) (after_later j k h) e) (after_over lo k j a (above_less j k h))

abbrev OneBelow : Tagged → Context → Context → Differences → Differences → Type 0
OneBelow t c d m n = AreComplete (below t c) (below t d) n → AreExact (below t c) (below t d) n → m ≡ n

abbrev OneRest : Key → Context → Context → Differences → Differences → Type 0
OneRest k c d rest more = IsRising key_cmp (differing_keys more) → AllAfter (Some k) more → Others (Some k) c d more → AreExact c d more → rest ≡ more

pub one : (x y : Differences) (c d : Context) (lo : Option Key) → IsRising key_cmp (differing_keys x) → IsRising key_cmp (differing_keys y) → AllAfter lo x → AllAfter lo y → Others lo c d x → Others lo c d y → AreExact c d x → AreExact c d y → x ≡ y
one no_difference no_difference c d lo rx ry hx hy ox oy ax ay = refl
one no_difference (difference k o m l rest) c d lo rx ry hx hy ox oy ax ay = absurd (differs k o m l rest c d ay (ox k refl hy.0))
one (difference k o m l rest) no_difference c d lo rx ry hx hy ox oy ax ay = absurd (differs k o m l rest c d ax (oy k refl hx.0))
one (difference k o m l rest) (difference j p n q more) c d lo rx ry hx hy ox oy ax ay =
    go
    (λ a b. one m n (below (MapT k) c) (below (MapT k) d) None ax.2.rise a.rise (all_free (differing_keys m)) (all_free (differing_keys n)) (λ i e g. ax.2.others i e) (λ i e g. a.others i e) ax.3 b)
    (λ a b. one l q (below (ListT k) c) (below (ListT k) d) None ax.4.rise a.rise (all_free (differing_keys l)) (all_free (differing_keys q)) (λ i e g. ax.4.others i e) (λ i e g. a.others i e) ax.5 b)
    (λ r h f b. one rest more c d (Some k) rx.1 r (all_after k (differing_keys rest) rx.0) h (rest_others lo c d k o m l rest hx.0 ox) f ax.6 b)
    (key_cmp k j) refl
  where
    joined : OneBelow (MapT k) c d m n → OneBelow (ListT k) c d l q → OneRest k c d rest more → AreExact c d (difference k p n q more) → IsRising key_cmp (differing_keys (difference k p n q more)) → Others lo c d (difference k p n q more) → difference k o m l rest ≡ difference k p n q more
    joined fm fl fr by ry2 oy2 =
        let own : o ≡ p = ax.0 ∙ sym by.0 in
        let maps : m ≡ n = fm by.2 by.3 in
        let lists : l ≡ q = fl by.4 by.5 in
        let others : rest ≡ more = fr ry2.1 (all_after k (differing_keys more) ry2.0) (rest_others lo c d k p n q more hx.0 oy2) by.6 in
        λ i. difference k (own i) (maps i) (lists i) (others i)

    go : OneBelow (MapT k) c d m n → OneBelow (ListT k) c d l q → OneRest k c d rest more → (r : Ordering) → key_cmp k j ≡ r → difference k o m l rest ≡ difference j p n q more
    go fm fl fr Less e = absurd (differs k o m l rest c d ax (oy k (unlisted k j p n q more e ry) hx.0))
    go fm fl fr Greater e = absurd (differs j p n q more c d ay (ox j (unlisted j k o m l rest (flipped k j e) rx) hy.0))
    go fm fl fr Equal e =
        let same : k ≡ j = exact_keys k j e in
        joined fm fl fr (subst (λ z. AreExact c d (difference z p n q more)) (sym same) ay) (subst (λ z. IsRising key_cmp (differing_keys (difference z p n q more))) (sym same) ry) (subst (λ z. Others lo c d (difference z p n q more)) (sym same) oy)
        ∙ ap (λ z. difference z p n q more) same

pub one_difference : (c d : Context) (x y : Differences) → IsDifference c d x → IsDifference c d y → x ≡ y
one_difference c d x y p q = one x y c d None p.complete.rise q.complete.rise (all_free (differing_keys x)) (all_free (differing_keys y)) (λ k e f. p.complete.others k e) (λ k e f. q.complete.others k e) p.exact q.exact
