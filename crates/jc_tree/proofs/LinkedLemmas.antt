-- About Laws: a fresh element that is linked behind a place of a list keeps the list chained.
use Rattle.std.proofs.Common.{◌≡◌, ◌≢◌, zero, suc, List, [], ◌∷◌, ◌++◌, Option, Some, None, Bool, true, false, cond, Contains, refl, sym, ◌∙◌, ap, subst, arith}
use Rattle.std.specs.List.{AllByRecursion}
use Rattle.std.specs.Ordering.{eq_by_cmp}
use Rattle.jc_rules.specs.declared.id.Id.{Id}
use Rattle.jc_rules.specs.declared.key.Key.{Key}
use Rattle.jc_rules.specs.declared.key.Key.TheVariants.{Head, Elem}
use Rattle.jc_rules.specs.declared.key.Next.{Next}
use Rattle.jc_rules.specs.declared.key.Next.TheVariants.{Tail, Elem as To}
use Rattle.jc_rules.specs.Order.{key_cmp}
use Rattle.jc_rules.specs.Entries.{keys_of}
use Rattle.jc_rules.specs.Context.{Context, context, links, next, with_next}
use Rattle.jc_rules.specs.WellFormed.{LeadsThrough, elements, AreDistinct, chain_of, IsChain, IsChainedList}
use Rattle.jc_rules.proofs.OrderLemmas.{keys_total, exact_keys}
use Rattle.jc_rules.proofs.EntriesLemmas.{same-self, same-eq, find-put}
use Rattle.jc_rules.proofs.KeyedEntriesLemmas.{key-found, keys-put}

-- ---- chains

pub some_next : (x : Next) (o : Option Next) → o ≡ Some x → o ≢ None
some_next x o e f = let g : None ≡ Some x = sym f ∙ e in cc

-- each key that the links lead through has a link
pub each_linked : (c : Context) (k : Key) (is : List Id) → LeadsThrough c k is → AllByRecursion (λ j. next j c ≢ None) (k ∷ elements is)
each_linked c k [] h = (some_next Tail _ h, tt)
each_linked c k (i ∷ is) h = (some_next (To i) _ h.0, each_linked c (Elem i) is h.1)

all_more : (P Q : Key → Type 0) (ks : List Key) → ((k : Key) → P k → Q k) → AllByRecursion P ks → AllByRecursion Q ks
all_more P Q [] f a = tt
all_more P Q (k ∷ ks) f a = (f k a.0, all_more P Q ks f a.1)

-- the last of a key and the elements behind it
abbrev pub last_of : Key → List Id → Key
last_of k [] = k
last_of k (i ∷ is) = last_of (Elem i) is

-- the chain in two parts, the first of which ends at the place
record Parted (k place : Key) (is : List Id) : Type 0 where
  front : List Id
  rest : List Id
  whole : is ≡ front ++ rest
  ends : last_of k front ≡ place

parted : (k place : Key) (is : List Id) → Contains (k ∷ elements is) place → Parted k place is
parted k place is (zero, lt, e) = record { front = []; rest = is; whole = refl; ends = e }
parted k place [] (suc j, lt, e) = absurd (omega (arith, lt))
parted k place (i ∷ is) (suc j, lt, e) =
    let p = parted (Elem i) place is (j, omega (arith, lt), e) in
    record { front = i ∷ p.front; rest = p.rest; whole = ap (λ js. i ∷ js) p.whole; ends = p.ends }

last_among : (P : Key → Type 0) (k : Key) (front rest : List Id) → AllByRecursion P (k ∷ elements (front ++ rest)) → P (last_of k front)
last_among P k [] rest a = a.0
last_among P k (i ∷ front) rest a = last_among P (Elem i) front rest a.1

-- ---- one element more

all_linked : (P : Key → Type 0) (i : Id) (front rest : List Id) → P (Elem i) → AllByRecursion P (elements (front ++ rest)) → AllByRecursion P (elements (front ++ i ∷ rest))
all_linked P i [] rest h a = (h, a)
all_linked P i (j ∷ front) rest h a = (a.0, all_linked P i front rest h a.1)

distinct_linked : (i : Id) (front rest : List Id) → AreDistinct (elements (front ++ rest)) → AllByRecursion (λ k. k ≢ Elem i) (elements (front ++ rest)) → AreDistinct (elements (front ++ i ∷ rest))
distinct_linked i [] rest d a = (a, d)
distinct_linked i (j ∷ front) rest d a = (all_linked (λ k. k ≢ Elem j) i front rest (λ e. a.0 (sym e)) d.0, distinct_linked i front rest d.1 a.1)

still_among : (i : Id) (k j : Key) (front rest : List Id) → Contains (k ∷ elements (front ++ rest)) j → Contains (k ∷ elements (front ++ i ∷ rest)) j
still_among i k j front rest (zero, lt, e) = (zero, omega arith, e)
still_among i k j [] rest (suc n, lt, e) = (suc (suc n), omega (arith, lt), e)
still_among i k j (a ∷ front) rest (suc n, lt, e) =
    let r = still_among i (Elem a) j front rest (n, omega (arith, lt), e) in
    (suc r.0, omega (arith, r.1), r.2)

now_among : (i : Id) (k : Key) (front rest : List Id) → Contains (k ∷ elements (front ++ i ∷ rest)) (Elem i)
now_among i k [] rest = (suc zero, omega arith, refl)
now_among i k (a ∷ front) rest =
    let r = now_among i (Elem a) front rest in
    (suc r.0, omega (arith, r.1), r.2)

-- Behind the place comes the element, behind that what came behind the place, and nothing else has changed.
record Adds (place : Key) (i : Id) (n : Next) (c d : Context) : Type 1 where
  element : next (Elem i) d ≡ Some n
  before : next place d ≡ Some (To i)
  others : (k : Key) → k ≢ place → k ≢ Elem i → next k d ≡ next k c
  only : (P : Key → Type 0) → P place → P (Elem i) → AllByRecursion P (keys_of (links c)) → AllByRecursion P (keys_of (links d))

module _ (place : Key) (i : Id) (n : Next) (c d : Context) (adds : Adds place i n c d) where
  leads_others : (k : Key) (is : List Id) → AllByRecursion (λ j. j ≢ place) (k ∷ elements is) → AllByRecursion (λ j. j ≢ Elem i) (k ∷ elements is) → LeadsThrough c k is → LeadsThrough d k is
  leads_others k [] a b h = adds.others k a.0 b.0 ∙ h
  leads_others k (j ∷ is) a b h = (adds.others k a.0 b.0 ∙ h.0, leads_others (Elem j) is a.1 b.1 h.1)

  leads_behind : (is : List Id) → next place c ≡ Some n → AllByRecursion (λ j. j ≢ place) (elements is) → AllByRecursion (λ j. j ≢ Elem i) (elements is) → LeadsThrough c place is → LeadsThrough d (Elem i) is
  leads_behind [] e a b h = adds.element ∙ sym e ∙ h
  leads_behind (j ∷ is) e a b h = (adds.element ∙ sym e ∙ h.0, leads_others (Elem j) is a b h.1)

  leads_linked : (k : Key) (front rest : List Id) → next place c ≡ Some n → last_of k front ≡ place → AreDistinct (k ∷ elements (front ++ rest)) → AllByRecursion (λ j. j ≢ Elem i) (k ∷ elements (front ++ rest)) → LeadsThrough c k (front ++ rest) → LeadsThrough d k (front ++ i ∷ rest)
  leads_linked k [] rest e s a b h =
      (ap (λ j. next j d) s ∙ adds.before, leads_behind rest e (subst (λ (x : Key). AllByRecursion (λ j. j ≢ x) (elements rest)) s a.0) b.1 (subst (λ (x : Key). LeadsThrough c x rest) s h))
  leads_linked k (j ∷ front) rest e s a b h =
      let other : last_of (Elem j) front ≢ k = last_among (λ x. x ≢ k) (Elem j) front rest a.0 in
      (adds.others k (λ f. other (s ∙ sym f)) b.0 ∙ h.0, leads_linked (Elem j) front rest e s a.1 b.1 h.1)

  chain_linked : (is : List Id) → IsChain c is → next place c ≡ Some n → next (Elem i) c ≡ None → (js : List Id) × IsChain d js
  chain_linked is h e f =
      let p = parted Head place is (key-found (Contains (chain_of is)) place n (links c) h.no_other e) in
      let fresh = all_more (λ j. next j c ≢ None) (λ j. j ≢ Elem i) (chain_of is) (λ j g s. g (ap (λ k. next k c) s ∙ f)) (each_linked c Head is h.leads) in
      let leads = subst (λ (js : List Id). LeadsThrough c Head js) p.whole h.leads in
      let distinct = subst (λ (js : List Id). AreDistinct (chain_of js)) p.whole h.distinct in
      let differs = subst (λ (js : List Id). AllByRecursion (λ j. j ≢ Elem i) (chain_of js)) p.whole fresh in
      let no_other = subst (λ (js : List Id). AllByRecursion (λ k. Contains (chain_of js) k) (keys_of (links c))) p.whole h.no_other in
      let keys = all_more (Contains (chain_of (p.front ++ p.rest))) (Contains (chain_of (p.front ++ i ∷ p.rest))) (keys_of (links c)) (λ k g. still_among i Head k p.front p.rest g) no_other in (
        p.front ++ i ∷ p.rest,
        record {
          leads = leads_linked Head p.front p.rest e p.ends distinct differs leads;
          distinct = (all_linked (λ k. k ≢ Head) i p.front p.rest (λ g. cc) distinct.0, distinct_linked i p.front p.rest distinct.1 differs.1);
          no_other = adds.only (Contains (chain_of (p.front ++ i ∷ p.rest))) (key-found _ place n (links c) keys e) (now_among i Head p.front p.rest) keys;
        },
      )

-- ---- the links that are set

pub next-with : (j k : Key) (x : Next) (c : Context) → next j (with_next k x c) ≡ cond (eq_by_cmp key_cmp j k) (Some x) (next j c)
next-with j k x (context m l r p n) = find-put keys_total exact_keys j k x n

keys-with : (P : Key → Type 0) (k : Key) (x : Next) (c : Context) → P k → AllByRecursion P (keys_of (links c)) → AllByRecursion P (keys_of (links (with_next k x c)))
keys-with P k x (context m l r p n) h a = keys-put P k x n h a

differ : (j k : Key) → j ≢ k → eq_by_cmp key_cmp j k ≡ false
differ j k h = go (eq_by_cmp key_cmp j k) refl
  where
    go : (b : Bool) → eq_by_cmp key_cmp j k ≡ b → eq_by_cmp key_cmp j k ≡ false
    go true e = absurd (h (same-eq keys_total exact_keys j k e))
    go false e = e

pub next_set : (k : Key) (x : Next) (c : Context) → next k (with_next k x c) ≡ Some x
next_set k x c = rw (next-with k k x c, same-self keys_total exact_keys k) refl

pub next_other : (j k : Key) (x : Next) (c : Context) → j ≢ k → next j (with_next k x c) ≡ next j c
next_other j k x c h = rw (next-with j k x c, differ j k h) refl

module _ (place : Key) (i : Id) (n : Next) (c : Context) (there : next place c ≡ Some n) (fresh : next (Elem i) c ≡ None) where
  apart : place ≢ Elem i
  apart e = let f : None ≡ Some n = sym fresh ∙ ap (λ k. next k c) (sym e) ∙ there in cc

  place_first : Adds place i n c (with_next (Elem i) n (with_next place (To i) c))
  place_first =
      record {
        element = next_set (Elem i) n (with_next place (To i) c);
        before = next_other place (Elem i) n (with_next place (To i) c) apart ∙ next_set place (To i) c;
        others = λ k p q. next_other k (Elem i) n (with_next place (To i) c) q ∙ next_other k place (To i) c p;
        only = λ P p q a. keys-with P (Elem i) n (with_next place (To i) c) q (keys-with P place (To i) c p a);
      }

  element_first : Adds place i n c (with_next place (To i) (with_next (Elem i) n c))
  element_first =
      record {
        element = next_other (Elem i) place (To i) (with_next (Elem i) n c) (λ e. apart (sym e)) ∙ next_set (Elem i) n c;
        before = next_set place (To i) (with_next (Elem i) n c);
        others = λ k p q. next_other k place (To i) (with_next (Elem i) n c) p ∙ next_other k (Elem i) n c q;
        only = λ P p q a. keys-with P place (To i) (with_next (Elem i) n c) p (keys-with P (Elem i) n c q a);
      }

pub linked : (place : Key) (i : Id) (n : Next) (c : Context) → next place c ≡ Some n → next (Elem i) c ≡ None → IsChainedList c → IsChainedList (with_next (Elem i) n (with_next place (To i) c))
linked place i n (context m l r p ns) e f h =
    (chain_linked place i n (context m l r p ns) _ (place_first place i n (context m l r p ns) e f) h.0.0 h.0.1 e f, h.1, h.2)
