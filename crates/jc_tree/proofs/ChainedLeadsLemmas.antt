-- About WellFormed: from each key of a chained list the links lead to the end, in fewer and fewer steps.
use Rattle.std.proofs.Common.{◌≡◌, ◌≢◌, ℕ, zero, suc, ◌<◌, ◌≤◌, List, [], ◌∷◌, length, Option, Some, None, Bool, true, false, cond, Contains, refl, sym, ◌∙◌, ap, subst, arith}
use Rattle.std.specs.List.{AllByRecursion}
use Rattle.std.specs.Ordering.{eq_by_cmp}
use Rattle.jc_rules.specs.declared.id.Id.{Id}
use Rattle.jc_rules.specs.declared.key.Key.{Key}
use Rattle.jc_rules.specs.declared.key.Key.TheVariants.{Head, Elem}
use Rattle.jc_rules.specs.declared.key.Next.{Next}
use Rattle.jc_rules.specs.declared.key.Next.TheVariants.{Tail, Elem as To}
use Rattle.jc_rules.specs.Order.{key_cmp}
use Rattle.jc_rules.specs.Entries.{find}
use Rattle.jc_rules.specs.Table.{after}
use Rattle.jc_rules.specs.Context.{Context, context, links, next}
use Rattle.jc_rules.specs.WellFormed.{LeadsThrough, elements, AreDistinct, chain_of, IsChain, IsChainedList}
use Rattle.jc_rules.proofs.OrderLemmas.{keys_total, exact_keys}
use Rattle.jc_rules.proofs.EntriesLemmas.{same-eq}
use Rattle.jc_rules.proofs.KeyedEntriesLemmas.{key-found}
use Rattle.jc_tree.proofs.LinkedLemmas.{some_next, each_linked}

-- without the entries of a key
abbrev removed : Key → List (Key × Next) → List (Key × Next)
removed k [] = []
removed k (e ∷ es) = cond (eq_by_cmp key_cmp k e.0) (removed k es) (e ∷ removed k es)

removed_le : (k : Key) (es : List (Key × Next)) → length (removed k es) ≤ length es
removed_le k [] = omega arith
removed_le k (e ∷ es) = go (eq_by_cmp key_cmp k e.0) (removed_le k es)
  where
    go : (b : Bool) → length (removed k es) ≤ length es → length (cond b (removed k es) (e ∷ removed k es)) ≤ suc (length es)
    go true ih = omega (arith, ih)
    go false ih = omega (arith, ih)

removed_lt : (k : Key) (es : List (Key × Next)) → find key_cmp k es ≢ None → suc (length (removed k es)) ≤ length es
removed_lt k [] h = absurd (h refl)
removed_lt k (e ∷ es) h = go (eq_by_cmp key_cmp k e.0) (removed_lt k es) h
  where
    go : (b : Bool) → (find key_cmp k es ≢ None → suc (length (removed k es)) ≤ length es) → cond b (Some e.1) (find key_cmp k es) ≢ None → suc (length (cond b (removed k es) (e ∷ removed k es))) ≤ suc (length es)
    go true ih g = omega (arith, removed_le k es)
    go false ih g = omega (arith, ih g)

find-removed : (j k : Key) (es : List (Key × Next)) → j ≢ k → find key_cmp j (removed k es) ≡ find key_cmp j es
find-removed j k [] d = refl
find-removed j k (e ∷ es) d = go (eq_by_cmp key_cmp k e.0) (eq_by_cmp key_cmp j e.0) refl refl (find-removed j k es d)
  where
    go : (b c : Bool) → eq_by_cmp key_cmp k e.0 ≡ b → eq_by_cmp key_cmp j e.0 ≡ c → find key_cmp j (removed k es) ≡ find key_cmp j es → find key_cmp j (removed k (e ∷ es)) ≡ find key_cmp j (e ∷ es)
    go true true p q ih = absurd (d (same-eq keys_total exact_keys j e.0 q ∙ sym (same-eq keys_total exact_keys k e.0 p)))
    go true false p q ih = rw (p, q) ih
    go false true p q ih = rw (p, q) refl
    go false false p q ih = rw (p, q) ih

all_removed : (k : Key) (ks : List Key) (es : List (Key × Next)) → AllByRecursion (λ j. j ≢ k) ks → AllByRecursion (λ j. find key_cmp j es ≢ None) ks → AllByRecursion (λ j. find key_cmp j (removed k es) ≢ None) ks
all_removed k [] es d h = tt
all_removed k (j ∷ js) es d h = (λ e. h.0 (sym (find-removed j k es d.0) ∙ e), all_removed k js es d.1 h.1)

-- different keys that have links are no more than the links
no_more_keys : (ks : List Key) (es : List (Key × Next)) → AreDistinct ks → AllByRecursion (λ j. find key_cmp j es ≢ None) ks → length ks ≤ length es
no_more_keys [] es d h = omega arith
no_more_keys (k ∷ ks) es d h = omega (arith, removed_lt k es h.0, no_more_keys ks (removed k es) d.1 (all_removed k ks es d.0 h.1))

length-elements : (is : List Id) → length (elements is) ≡ length is
length-elements [] = refl
length-elements (i ∷ is) = ap suc (length-elements is)

-- the keys from the given one on, in at most so many steps
abbrev on_from : Option Next → (Next → ℕ) → ℕ
on_from None f = 0
on_from (Some x) f = f x

abbrev pub steps : Option Key → ℕ → Context → ℕ
steps None n c = 0
steps (Some k) zero c = 0
steps (Some k) (suc n) c = suc (on_from (next k c) (λ x. steps (after x) n c))

steps-is : (n : ℕ) (c : Context) (k : Key) (is : List Id) → LeadsThrough c k is → suc (length is) ≤ n → steps (Some k) n c ≡ suc (length is)
steps-is zero c k is h f = omega (arith, f)
steps-is (suc n) c k [] h f = rw h refl
steps-is (suc n) c k (i ∷ is) h f = rw h.0 (ap suc (steps-is n c (Elem i) is h.1 (omega (arith, f))))

abbrev LeadsFrom : Context → Option Key → List Id → Type 0
LeadsFrom c None is = is ≡ []
LeadsFrom c (Some k) is = LeadsThrough c k is

-- from the key the links lead to the end
pub record Leads (c : Context) (key : Option Key) : Type 0 where
  pub elements : List Id
  pub leads : LeadsFrom c key elements
  pub fits : suc (length elements) ≤ length (links c)

pub leads_head : (c : Context) → IsChainedList c → (is : List Id) × IsChain c is
leads_head (context m l r p n) h = h.0

pub leads_whole : (c : Context) → IsChainedList c → Leads c (Some Head)
leads_whole c h =
    let chain = leads_head c h in
    record {
      elements = chain.0;
      leads = chain.1.leads;
      fits = omega (arith, length-elements chain.0, no_more_keys (chain_of chain.0) (links c) chain.1.distinct (each_linked c Head chain.0 chain.1.leads));
    }

-- the part of a chain from one of its keys on
record Part (c : Context) (k : Key) (is : List Id) : Type 0 where
  pub elements : List Id
  pub leads : LeadsThrough c k elements
  pub shorter : length elements ≤ length is

part : (c : Context) (k j : Key) (is : List Id) → LeadsThrough c k is → Contains (k ∷ elements is) j → Part c j is
part c k j is h (zero, lt, e) = let same : k ≡ j = e in record { elements = is; leads = subst (λ (i : Key). LeadsThrough c i is) same h; shorter = omega arith }
part c k j [] h (suc n, lt, e) = absurd (omega (arith, lt))
part c k j (i ∷ is) h (suc n, lt, e) =
    let rest = part c (Elem i) j is h.1 (n, omega (arith, lt), e) in
    record { elements = rest.elements; leads = rest.leads; shorter = omega (arith, rest.shorter) }

-- from each key that is linked in a list
pub leads_from : (c : Context) (k : Key) (x : Next) → IsChainedList c → next k c ≡ Some x → Leads c (Some k)
leads_from c k x h e =
    let chain = leads_head c h in
    let from = part c Head k chain.0 chain.1.leads (key-found (Contains (chain_of chain.0)) k x (links c) chain.1.no_other e) in
    record {
      elements = from.elements;
      leads = from.leads;
      fits = omega (arith, from.shorter, length-elements chain.0, no_more_keys (chain_of chain.0) (links c) chain.1.distinct (each_linked c Head chain.0 chain.1.leads));
    }

pub leads_on : (c : Context) (k : Key) (x : Next) → Leads c (Some k) → next k c ≡ Some x → Leads c (after x) × (steps (after x) (length (links c)) c < steps (Some k) (length (links c)) c)
leads_on c k x w e = go w.elements w.leads w.fits
  where
    go : (is : List Id) → LeadsThrough c k is → suc (length is) ≤ length (links c) → Leads c (after x) × (steps (after x) (length (links c)) c < steps (Some k) (length (links c)) c)
    go [] h f =
        let q : Some x ≡ Some Tail = sym e ∙ h in
        let s : x ≡ Tail = cc in
        rw s (record { elements = []; leads = refl; fits = f }, omega (arith, steps-is (length (links c)) c k [] h f))
    go (i ∷ is) h f =
        let q : Some x ≡ Some (To i) = sym e ∙ h.0 in
        let s : x ≡ To i = cc in
        rw s (record { elements = is; leads = h.1; fits = omega (arith, f) }, omega (arith, steps-is (length (links c)) c k (i ∷ is) h f, steps-is (length (links c)) c (Elem i) is h.1 (omega (arith, f))))

-- a key from which the links lead to the end is linked
pub leads_next : (c : Context) (k : Key) → Leads c (Some k) → next k c ≢ None
leads_next c k w = go w.elements w.leads
  where
    go : (is : List Id) → LeadsThrough c k is → next k c ≢ None
    go [] h = some_next Tail _ h
    go (i ∷ is) h = some_next (To i) _ h.0
