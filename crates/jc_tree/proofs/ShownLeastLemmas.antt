-- About Numbered: the least key of what is shown by number.
use Rattle.std.proofs.Common.{◌≡◌, List, [], ◌∷◌, Option, Some, None, Bool, true, false, cond, filter, refl, sym, ap, ◌∙◌, true≢false}
use Rattle.std.specs.List.{AllByRecursion}
use Rattle.std.specs.Ordering.{eq_by_cmp, is_lt}
use Rattle.std.specs.declared.cmp.Ordering.{Ordering}
use Rattle.std.specs.declared.cmp.Ordering.TheVariants.{Less, Equal, Greater}
use Rattle.std.proofs.lemmas.Option.{same_Some}
use Rattle.jc_rules.specs.declared.key.Key.{Key}
use Rattle.jc_rules.specs.Order.{key_cmp}
use Rattle.jc_rules.specs.Entries.{keys_of, find}
use Rattle.jc_rules.specs.Table.{least}
use Rattle.jc_rules.proofs.OrderLemmas.{keys_total, exact_keys}
use Rattle.jc_rules.proofs.EntriesLemmas.{same-self, same-eq}
use Rattle.jc_tree.specs.Sorted.{AreSorted}
use Rattle.jc_tree.specs.Tree.{is_after, least_after}
use Rattle.jc_tree.specs.Numbered.{shown}
use Rattle.jc_tree.proofs.SortedMapLemmas.{least_passing}
use Rattle.jc_tree.proofs.ShownLemmas.{rising-shown, all-shown, behind}

-- of rising entries the first that comes after
first_after : {X : Type 0} (a : Option Key) (e : Key × X) (es : List (Key × X)) → AreSorted (e ∷ es) → least_after a (keys_of (e ∷ es)) ≡ cond (is_after a e.0) (Some e.0) (least_after a (keys_of es))
first_after a e es h = go (is_after a e.0) refl
  where
    go : (b : Bool) → is_after a e.0 ≡ b → least_after a (keys_of (e ∷ es)) ≡ cond (is_after a e.0) (Some e.0) (least_after a (keys_of es))
    go true q = least_passing (λ j. is_after a j) (e ∷ es) h ∙ rw q refl
    go false q = rw q refl

module _ {X : Type 0} (a : Option Key) (e : Key × X) (es : List (Key × X)) (h : AreSorted (e ∷ es)) where
  after_here : is_after a e.0 ≡ true → least_after a (keys_of (e ∷ es)) ≡ Some e.0
  after_here q = first_after a e es h ∙ ap (λ b. cond b (Some e.0) (least_after a (keys_of es))) q

  after_there : is_after a e.0 ≡ false → least_after a (keys_of (e ∷ es)) ≡ least_after a (keys_of es)
  after_there q = first_after a e es h ∙ ap (λ b. cond b (Some e.0) (least_after a (keys_of es))) q

-- the least key that comes after does so
is_it_after : {X : Type 0} (a : Option Key) (k : Key) (es : List (Key × X)) → AreSorted es → least_after a (keys_of es) ≡ Some k → is_after a k ≡ true
is_it_after a k [] h l = cc
is_it_after a k (e ∷ es) h l = go (is_after a e.0) refl (is_it_after a k es h.1)
  where
    go : (b : Bool) → is_after a e.0 ≡ b → (least_after a (keys_of es) ≡ Some k → is_after a k ≡ true) → is_after a k ≡ true
    go true q ih = ap (is_after a) (sym (same_Some e.0 k (sym (after_here a e es h q) ∙ l))) ∙ q
    go false q ih = ih (sym (after_there a e es h q) ∙ l)

-- keys above one that comes after do so too
after_both : (a : Option Key) (k j : Key) → is_after a k ≡ true → key_cmp k j ≡ Less → is_after a j ≡ is_after (Some k) j
after_both None k j h l = rw l refl
after_both (Some i) k j h l = go (key_cmp i k) refl
  where
    go : (o : Ordering) → key_cmp i k ≡ o → is_lt (key_cmp i j) ≡ is_lt (key_cmp k j)
    go Less q = rw (keys_total.trans i k j q l, l) refl
    go Equal q = let b : false ≡ true = rw q at h in cc
    go Greater q = let b : false ≡ true = rw q at h in cc

filtered_both : (p q : Key → Bool) (ks : List Key) → AllByRecursion (λ j. p j ≡ q j) ks → filter p ks ≡ filter q ks
filtered_both p q [] h = refl
filtered_both p q (k ∷ ks) h = rw (h.0, filtered_both p q ks h.1) refl

all_both : (a : Option Key) (k : Key) (ks : List Key) → is_after a k ≡ true → AllByRecursion (λ j. key_cmp k j ≡ Less) ks → AllByRecursion (λ j. is_after a j ≡ is_after (Some k) j) ks
all_both a k [] h l = tt
all_both a k (j ∷ ks) h l = (after_both a k j h l.0, all_both a k ks h l.1)

module _ {N X : Type 0} (p : N → Option X) (a : Option Key) where
  sorted : (e : Key × N) (x : X) (es : List (Key × N)) → AreSorted (e ∷ es) → AreSorted ((e.0, x) ∷ shown p es)
  sorted e x es h = (all-shown keys_total exact_keys (λ j. key_cmp e.0 j ≡ Less) p es h.0, rising-shown keys_total exact_keys p es h.1)

  -- a key that doesn't come after is passed over in what is shown
  passed : (e : Key × N) (es : List (Key × N)) → AreSorted (e ∷ es) → is_after a e.0 ≡ false → least_after a (keys_of (shown p (e ∷ es))) ≡ least_after a (keys_of (shown p es))
  passed e es h q = go (p e.1) refl
    where
      go : (o : Option X) → p e.1 ≡ o → least_after a (keys_of (shown p (e ∷ es))) ≡ least_after a (keys_of (shown p es))
      go None w = rw w refl
      go (Some x) w = rw w (after_there a (e.0, x) (shown p es) (sorted e x es h) q)

  -- where no key comes after, none does in what is shown
  pub none-shown : (es : List (Key × N)) → AreSorted es → least_after a (keys_of es) ≡ None → least_after a (keys_of (shown p es)) ≡ None
  none-shown [] h l = refl
  none-shown (e ∷ es) h l = go (is_after a e.0) refl (none-shown es h.1)
    where
      go : (b : Bool) → is_after a e.0 ≡ b → (least_after a (keys_of es) ≡ None → least_after a (keys_of (shown p es)) ≡ None) → least_after a (keys_of (shown p (e ∷ es))) ≡ None
      go true q ih = let c : Some e.0 ≡ None = sym (after_here a e es h q) ∙ l in cc
      go false q ih = passed e es h q ∙ ih (sym (after_there a e es h q) ∙ l)

module _ {N X : Type 0} (p : N → Option X) (a : Option Key) (k : Key) where
  -- the least key that comes after isn't one that doesn't
  apart : (e : Key × N) (es : List (Key × N)) → AreSorted (e ∷ es) → is_after a e.0 ≡ false → least_after a (keys_of es) ≡ Some k → eq_by_cmp key_cmp k e.0 ≡ false
  apart e es h q l = go (eq_by_cmp key_cmp k e.0) refl
    where
      go : (b : Bool) → eq_by_cmp key_cmp k e.0 ≡ b → eq_by_cmp key_cmp k e.0 ≡ false
      go true d = absurd (true≢false (sym (is_it_after a k es h.1 l) ∙ ap (is_after a) (same-eq keys_total exact_keys k e.0 d) ∙ q))
      go false d = d

  -- the least key that comes after has something that is shown
  pub there-shown : (n : N) (x : X) (es : List (Key × N)) → AreSorted es → least_after a (keys_of es) ≡ Some k → find key_cmp k es ≡ Some n → p n ≡ Some x → least_after a (keys_of (shown p es)) ≡ Some k
  there-shown n x [] h l f w = cc
  there-shown n x (e ∷ es) h l f w = go (is_after a e.0) refl (λ r g. there-shown n x es h.1 r g w)
    where
      go : (b : Bool) → is_after a e.0 ≡ b → (least_after a (keys_of es) ≡ Some k → find key_cmp k es ≡ Some n → least_after a (keys_of (shown p es)) ≡ Some k) → least_after a (keys_of (shown p (e ∷ es))) ≡ Some k
      go true q ih =
          let s : e.0 ≡ k = same_Some e.0 k (sym (after_here a e es h q) ∙ l) in
          let t : eq_by_cmp key_cmp k e.0 ≡ true = ap (eq_by_cmp key_cmp k) s ∙ same-self keys_total exact_keys k in
          let m : e.1 ≡ n = same_Some e.1 n (rw t at f) in
          let v : p e.1 ≡ Some x = ap p m ∙ w in
          rw v (after_here a (e.0, x) (shown p es) (sorted p a e x es h) q) ∙ ap Some s
      go false q ih =
          let r : least_after a (keys_of es) ≡ Some k = sym (after_there a e es h q) ∙ l in
          passed p a e es h q ∙ ih r (rw (apart e es h q r) at f)

  -- where it has nothing that is shown, the least key after it is the one
  pub further-shown : (n : N) (es : List (Key × N)) → AreSorted es → least_after a (keys_of es) ≡ Some k → find key_cmp k es ≡ Some n → p n ≡ None → least_after a (keys_of (shown p es)) ≡ least_after (Some k) (keys_of (shown p es))
  further-shown n [] h l f w = cc
  further-shown n (e ∷ es) h l f w = go (is_after a e.0) refl (λ r g. further-shown n es h.1 r g w)
    where
      go : (b : Bool) → is_after a e.0 ≡ b → (least_after a (keys_of es) ≡ Some k → find key_cmp k es ≡ Some n → least_after a (keys_of (shown p es)) ≡ least_after (Some k) (keys_of (shown p es))) → least_after a (keys_of (shown p (e ∷ es))) ≡ least_after (Some k) (keys_of (shown p (e ∷ es)))
      go true q ih =
          let s : e.0 ≡ k = same_Some e.0 k (sym (after_here a e es h q) ∙ l) in
          let t : eq_by_cmp key_cmp k e.0 ≡ true = ap (eq_by_cmp key_cmp k) s ∙ same-self keys_total exact_keys k in
          let m : e.1 ≡ n = same_Some e.1 n (rw t at f) in
          let v : p e.1 ≡ None = ap p m ∙ w in
          let all = all-shown keys_total exact_keys (λ j. key_cmp e.0 j ≡ Less) p es h.0 in
          let ks : List Key = keys_of (shown p es) in
          rw v (ap least (filtered_both (is_after a) (is_after (Some e.0)) ks (all_both a e.0 ks q all)) ∙ ap (λ i. least_after (Some i) ks) s)
      go false q ih =
          let r : least_after a (keys_of es) ≡ Some k = sym (after_there a e es h q) ∙ l in
          let d : eq_by_cmp key_cmp k e.0 ≡ false = apart e es h q r in
          let g : key_cmp k e.0 ≡ Greater = behind keys_total exact_keys k n e es h f d in
          passed p a e es h q ∙ ih r (rw d at f) ∙ sym (passed p (Some k) e es h (ap is_lt g))
