-- About Forest: an element comes into a chain (`follow`). The rules of inserts use it.
use Rattle.std.proofs.Common.{◌≡◌, List, [], ◌∷◌, ◌++◌, Bool, true, false, ◌||◌, cond, refl, sym, ap}
use Rattle.jc_rules.specs.declared.id.Id.{Id}
use Rattle.jc_rules.specs.declared.key.Key.{Key}
use Rattle.jc_rules.specs.declared.key.Key.TheVariants as K
use Rattle.jc_rules.specs.Order.{id_cmp, same_key}
use Rattle.jc_meaning.specs.Forest.{Forest, bare, tree, preorder, is_less}

-- before the first that isn't greater
abbrev pub skip : Id → List Id → List Id
skip o [] = o ∷ []
skip o (n ∷ ns) = cond (is_less (id_cmp o n)) (n ∷ skip o ns) (o ∷ n ∷ ns)

-- among siblings
abbrev pub add : Id → Forest → Forest
add o bare = tree o bare bare
add o (tree i b r) = cond (is_less (id_cmp o i)) (tree i b (add o r)) (tree o bare (tree i b r))

abbrev pub AllOver : Id → List Id → Type 0
AllOver o [] = Unit {0}
AllOver o (n ∷ ns) = (is_less (id_cmp o n) ≡ true) × AllOver o ns

-- what is below each is over each that the bound is over
abbrev pub Rises : Forest → Type 0
Rises bare = Unit {0}
Rises (tree i b r) = ((o : Id) → is_less (id_cmp o i) ≡ true → AllOver o (preorder b)) × Rises b × Rises r

pub skip_over : (o : Id) (xs ys : List Id) → AllOver o xs → skip o (xs ++ ys) ≡ xs ++ skip o ys
skip_over o [] ys h = refl
skip_over o (n ∷ ns) ys h = rw (h.0, skip_over o ns ys h.1) refl

abbrev pub Stops : Id → List Id → Type 0
Stops o [] = Unit {0}
Stops o (n ∷ ns) = is_less (id_cmp o n) ≡ false

pub skip_stops : (o : Id) (xs ys : List Id) → Stops o ys → skip o (xs ++ ys) ≡ skip o xs ++ ys
skip_stops o [] [] h = refl
skip_stops o [] (y ∷ ys) h = rw h refl
skip_stops o (n ∷ ns) ys h = by_cases (is_less (id_cmp o n)) (skip_stops o ns ys h)
  where
    by_cases : (b : Bool) → skip o (ns ++ ys) ≡ skip o ns ++ ys → cond b (n ∷ skip o (ns ++ ys)) (o ∷ n ∷ (ns ++ ys)) ≡ cond b (n ∷ skip o ns) (o ∷ n ∷ ns) ++ ys
    by_cases true e = rw e refl
    by_cases false e = refl

pub add_preorder : (o : Id) (f : Forest) → Rises f → preorder (add o f) ≡ skip o (preorder f)
add_preorder o bare h = refl
add_preorder o (tree i b r) h = by_cases (is_less (id_cmp o i)) refl (add_preorder o r h.2)
  where
    by_cases : (x : Bool) → is_less (id_cmp o i) ≡ x → preorder (add o r) ≡ skip o (preorder r) → preorder (cond x (tree i b (add o r)) (tree o bare (tree i b r))) ≡ cond x (i ∷ skip o (preorder b ++ preorder r)) (o ∷ i ∷ (preorder b ++ preorder r))
    by_cases true e k = ap (λ l. i ∷ l) (rw (k, skip_over o (preorder b) (preorder r) (h.0 o e)) refl)
    by_cases false e k = refl

-- in the chain j, js: o after r and what is greater
abbrev pub after : Key → Id → Key → List Id → List Id
after r o j [] = cond (same_key j r) (o ∷ []) []
after r o j (n ∷ ns) = cond (same_key j r) (skip o (n ∷ ns)) (n ∷ after r o (K.Elem n) ns)

abbrev pub key_in : Key → List Id → Bool
key_in r [] = false
key_in r (n ∷ ns) = same_key (K.Elem n) r || key_in r ns

-- o after the first r and what is greater
abbrev pub later : Key → Id → List Id → List Id
later r o [] = []
later r o (n ∷ ns) = cond (same_key (K.Elem n) r) (n ∷ skip o ns) (n ∷ later r o ns)

pub later_in : (r : Key) (o : Id) (xs ys : List Id) → key_in r xs ≡ true → Stops o ys → later r o (xs ++ ys) ≡ later r o xs ++ ys
later_in r o [] ys h s = cc
later_in r o (n ∷ ns) ys h s = by_cases (same_key (K.Elem n) r) (λ e. later_in r o ns ys e s) h
  where
    by_cases : (b : Bool) → (key_in r ns ≡ true → later r o (ns ++ ys) ≡ later r o ns ++ ys) → (b || key_in r ns) ≡ true → cond b (n ∷ skip o (ns ++ ys)) (n ∷ later r o (ns ++ ys)) ≡ cond b (n ∷ skip o ns) (n ∷ later r o ns) ++ ys
    by_cases true k e = ap (λ l. n ∷ l) (skip_stops o ns ys s)
    by_cases false k e = ap (λ l. n ∷ l) (k e)

pub later_out : (r : Key) (o : Id) (xs ys : List Id) → key_in r xs ≡ false → later r o (xs ++ ys) ≡ xs ++ later r o ys
later_out r o [] ys h = refl
later_out r o (n ∷ ns) ys h = by_cases (same_key (K.Elem n) r) (later_out r o ns ys) h
  where
    by_cases : (b : Bool) → (key_in r ns ≡ false → later r o (ns ++ ys) ≡ ns ++ later r o ys) → (b || key_in r ns) ≡ false → cond b (n ∷ skip o (ns ++ ys)) (n ∷ later r o (ns ++ ys)) ≡ n ∷ (ns ++ later r o ys)
    by_cases true k e = cc
    by_cases false k e = ap (λ l. n ∷ l) (k e)

-- o below the first r
abbrev pub graft : Key → Id → Forest → Forest
graft r o bare = bare
graft r o (tree i b x) = cond (same_key (K.Elem i) r) (tree i (add o b) x) (cond (key_in r (preorder b)) (tree i (graft r o b) x) (tree i b (graft r o x)))

-- what follows a tree that has r isn't greater than o
abbrev pub Fits : Key → Id → Forest → Type 0
Fits r o bare = Unit {0}
Fits r o (tree i b x) = ((same_key (K.Elem i) r || key_in r (preorder b)) ≡ true → Stops o (preorder x)) × Fits r o b × Fits r o x

pub graft_preorder : (r : Key) (o : Id) (f : Forest) → Rises f → Fits r o f → preorder (graft r o f) ≡ later r o (preorder f)
graft_preorder r o bare h s = refl
graft_preorder r o (tree i b x) h s = by_cases (same_key (K.Elem i) r) (key_in r (preorder b)) refl (s.0) (graft_preorder r o b h.1 s.1) (graft_preorder r o x h.2 s.2)
  where
    by_cases : (y z : Bool) → key_in r (preorder b) ≡ z → ((y || z) ≡ true → Stops o (preorder x)) → preorder (graft r o b) ≡ later r o (preorder b) → preorder (graft r o x) ≡ later r o (preorder x) → preorder (cond y (tree i (add o b) x) (cond z (tree i (graft r o b) x) (tree i b (graft r o x)))) ≡ cond y (i ∷ skip o (preorder b ++ preorder x)) (i ∷ later r o (preorder b ++ preorder x))
    by_cases true z e t k l = ap (λ l. i ∷ l) (rw (add_preorder o b h.1) (sym (skip_stops o (preorder b) (preorder x) (t refl))))
    by_cases false true e t k l = ap (λ l. i ∷ l) (rw k (sym (later_in r o (preorder b) (preorder x) e (t refl))))
    by_cases false false e t k l = ap (λ l2. i ∷ l2) (rw l (sym (later_out r o (preorder b) (preorder x) e)))

pub after_here : (r : Key) (o : Id) (j : Key) (ns : List Id) → same_key j r ≡ true → after r o j ns ≡ skip o ns
after_here r o j [] e = rw e refl
after_here r o j (n ∷ ns) e = rw e refl

-- behind another key than r it is the r further on
pub after_later : (r : Key) (o : Id) (j : Key) (ns : List Id) → same_key j r ≡ false → after r o j ns ≡ later r o ns
after_later r o j [] e = rw e refl
after_later r o j (n ∷ ns) e = rw e (by_cases (same_key (K.Elem n) r) refl (after_later r o (K.Elem n) ns))
  where
    by_cases : (b : Bool) → same_key (K.Elem n) r ≡ b → (same_key (K.Elem n) r ≡ false → after r o (K.Elem n) ns ≡ later r o ns) → n ∷ after r o (K.Elem n) ns ≡ cond b (n ∷ skip o ns) (n ∷ later r o ns)
    by_cases true h k = ap (λ l. n ∷ l) (after_here r o (K.Elem n) ns h)
    by_cases false h k = ap (λ l. n ∷ l) (k h)
