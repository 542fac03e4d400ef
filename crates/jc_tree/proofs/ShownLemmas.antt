-- About Numbered: what is shown by number, in an order R that is total and tells different keys apart.
use Rattle.std.proofs.Common.{◌≡◌, List, [], ◌∷◌, Option, Some, None, Bool, true, false, refl, sym, ap, ◌∙◌}
use Rattle.std.specs.List.{AllByRecursion}
use Rattle.std.specs.Ordering.{eq_by_cmp}
use Rattle.std.specs.declared.cmp.Ordering.{Ordering}
use Rattle.std.specs.declared.cmp.Ordering.TheVariants.{Less, Equal, Greater}
use Rattle.std.specs.Cmp.{IsTotalOrder}
use Rattle.std.proofs.lemmas.Map.Lookups.{CmpEqualImpliesEq}
use Rattle.jc_rules.specs.Entries.{IsRising, keys_of, find, placed, put}
use Rattle.std.proofs.lemmas.Option.{same_Some}
use Rattle.jc_rules.proofs.EntriesLemmas.{same-eq, same-self, none-below}
use Rattle.jc_tree.specs.Arena.{go_on}
use Rattle.jc_tree.specs.Undo.{removed}
use Rattle.jc_tree.specs.Numbered.{adding, shown}

module _ {K : Type 0} {R : K → K → Ordering} (total : IsTotalOrder R) (exact : CmpEqualImpliesEq R) where
  module _ {X : Type 0} where
    absent : (k : K) (es : List (K × X)) → AllByRecursion (λ j. R k j ≡ Less) (keys_of es) → find R k es ≡ None
    absent k [] a = refl
    absent k (f ∷ es) a = rw a.0 (absent k es a.1)

    kept : (k : K) (es : List (K × X)) → AllByRecursion (λ j. R k j ≡ Less) (keys_of es) → removed R k es ≡ es
    kept k [] a = refl
    kept k (f ∷ es) a = rw a.0 (ap (λ l. f ∷ l) (kept k es a.1))

    before : (k : K) (x : X) (es : List (K × X)) → AllByRecursion (λ j. R k j ≡ Less) (keys_of es) → put R k x es ≡ (k, x) ∷ es
    before k x [] a = refl
    before k x (f ∷ es) a = rw (absent k (f ∷ es) a) (rw a.0 refl)

  module _ {X : Type 0} where
    passed : (k : K) (x : X) (e : K × X) (es : List (K × X)) → R k e.0 ≡ Greater → put R k x (e ∷ es) ≡ e ∷ put R k x es
    passed k x e es h = go (find R k es) refl
      where
        go : (o : Option X) → find R k es ≡ o → put R k x (e ∷ es) ≡ e ∷ put R k x es
        go None q = rw (h, q) refl
        go (Some y) q = rw (h, q) refl

  module _ {N : Type 0} where
    -- the first below a key that is found is below it
    pub behind : (k : K) (n : N) (e : K × N) (es : List (K × N)) → IsRising R (keys_of (e ∷ es)) → find R k (e ∷ es) ≡ Some n → eq_by_cmp R k e.0 ≡ false → R k e.0 ≡ Greater
    behind k n e es r f d = go (R k e.0) refl f d
      where
        go : (o : Ordering) → R k e.0 ≡ o → find R k (e ∷ es) ≡ Some n → eq_by_cmp R k e.0 ≡ false → R k e.0 ≡ Greater
        go Less h g c = let z : None ≡ Some n = sym (none-below total exact k e es r h) ∙ g in cc
        go Equal h g c = let b : true ≡ false = rw h at c in cc
        go Greater h g c = h

  module _ {N X : Type 0} where
    pub all-shown : (P : K → Type 0) (p : N → Option X) (es : List (K × N)) → AllByRecursion P (keys_of es) → AllByRecursion P (keys_of (shown p es))
    all-shown P p [] a = tt
    all-shown P p (e ∷ es) a = go (p e.1) refl (all-shown P p es a.1)
      where
        go : (o : Option X) → p e.1 ≡ o → AllByRecursion P (keys_of (shown p es)) → AllByRecursion P (keys_of (shown p (e ∷ es)))
        go None q ih = rw q ih
        go (Some x) q ih = rw q (a.0, ih)

    -- what is shown rises
    pub rising-shown : (p : N → Option X) (es : List (K × N)) → IsRising R (keys_of es) → IsRising R (keys_of (shown p es))
    rising-shown p [] r = tt
    rising-shown p (e ∷ es) r = go (p e.1) refl (rising-shown p es r.1)
      where
        go : (o : Option X) → p e.1 ≡ o → IsRising R (keys_of (shown p es)) → IsRising R (keys_of (shown p (e ∷ es)))
        go None q ih = rw q ih
        go (Some x) q ih = rw q (all-shown (λ j. R e.0 j ≡ Less) p es r.0, ih)

    -- what is found is what p gives at the key's number
    pub find-shown : (k : K) (p : N → Option X) (es : List (K × N)) → IsRising R (keys_of es) → find R k (shown p es) ≡ go_on (find R k es) p
    find-shown k p [] r = refl
    find-shown k p (e ∷ es) r = go (eq_by_cmp R k e.0) refl (p e.1) refl (find-shown k p es r.1)
      where
        go : (b : Bool) → eq_by_cmp R k e.0 ≡ b → (o : Option X) → p e.1 ≡ o → find R k (shown p es) ≡ go_on (find R k es) p → find R k (shown p (e ∷ es)) ≡ go_on (find R k (e ∷ es)) p
        go true h None q ih = let s : k ≡ e.0 = same-eq total exact k e.0 h in rw (q, h) (rw s (absent e.0 (shown p es) (all-shown (λ j. R e.0 j ≡ Less) p es r.0) ∙ sym q))
        go true h (Some x) q ih = rw (q, h) (sym q)
        go false h None q ih = rw (q, h) ih
        go false h (Some x) q ih = rw (q, h) ih

    -- where the other numbers have the same
    pub same-shown : (p q : N → Option X) (es : List (K × N)) → AllByRecursion (λ e. q e.1 ≡ p e.1) es → shown q es ≡ shown p es
    same-shown p q [] a = refl
    same-shown p q (e ∷ es) a = rw (a.0, same-shown p q es a.1) refl

    others : (k : K) (p q : N → Option X) (es : List (K × N)) → AllByRecursion (λ j. R k j ≡ Less) (keys_of es) → AllByRecursion (λ e. eq_by_cmp R k e.0 ≡ false → q e.1 ≡ p e.1) es → AllByRecursion (λ e. q e.1 ≡ p e.1) es
    others k p q [] l a = tt
    others k p q (e ∷ es) l a = (a.0 (rw l.0 refl), others k p q es l.1 a.1)

    -- Where p gets a value at a key's number and stays at all others, what is shown is what was, with the value put under
    -- the key.
    pub put-shown : (k : K) (n : N) (x : X) (p q : N → Option X) (es : List (K × N)) → IsRising R (keys_of es) → find R k es ≡ Some n → q n ≡ Some x → AllByRecursion (λ e. eq_by_cmp R k e.0 ≡ false → q e.1 ≡ p e.1) es → shown q es ≡ put R k x (shown p es)
    put-shown k n x p q [] r f v a = cc
    put-shown k n x p q (e ∷ es) r f v a = go (eq_by_cmp R k e.0) refl (p e.1) refl (λ g. put-shown k n x p q es r.1 g v a.1)
      where
        go : (b : Bool) → eq_by_cmp R k e.0 ≡ b → (o : Option X) → p e.1 ≡ o → (find R k es ≡ Some n → shown q es ≡ put R k x (shown p es)) → shown q (e ∷ es) ≡ put R k x (shown p (e ∷ es))
        go true h None w ih =
            let s : k ≡ e.0 = same-eq total exact k e.0 h in
            let m : e.1 ≡ n = same_Some e.1 n (rw h at f) in
            let t : shown q es ≡ shown p es = same-shown p q es (others k p q es (rw s r.0) a.1) in
            rw (m, v, t, ← m, w) (rw s (sym (before e.0 x (shown p es) (all-shown (λ j. R e.0 j ≡ Less) p es r.0))))
        go true h (Some y) w ih =
            let s : k ≡ e.0 = same-eq total exact k e.0 h in
            let m : e.1 ≡ n = same_Some e.1 n (rw h at f) in
            let t : shown q es ≡ shown p es = same-shown p q es (others k p q es (rw s r.0) a.1) in
            rw (m, v, t, ← m, w) (rw s (rw (same-self total exact e.0) refl))
        go false h None w ih = rw (a.0 h, w) (ih (rw h at f))
        go false h (Some y) w ih =
            let g : R k e.0 ≡ Greater = behind k n e es r f h in
            rw (a.0 h, w) (ap (λ l. (e.0, y) ∷ l) (ih (rw h at f)) ∙ sym (passed k x (e.0, y) (shown p es) g))

    -- Where p loses the value at a key's number, the key's entry goes.
    pub take-shown : (k : K) (n : N) (p q : N → Option X) (es : List (K × N)) → IsRising R (keys_of es) → find R k es ≡ Some n → q n ≡ None → AllByRecursion (λ e. eq_by_cmp R k e.0 ≡ false → q e.1 ≡ p e.1) es → shown q es ≡ removed R k (shown p es)
    take-shown k n p q [] r f v a = cc
    take-shown k n p q (e ∷ es) r f v a = go (eq_by_cmp R k e.0) refl (p e.1) refl (λ g. take-shown k n p q es r.1 g v a.1)
      where
        go : (b : Bool) → eq_by_cmp R k e.0 ≡ b → (o : Option X) → p e.1 ≡ o → (find R k es ≡ Some n → shown q es ≡ removed R k (shown p es)) → shown q (e ∷ es) ≡ removed R k (shown p (e ∷ es))
        go true h None w ih =
            let s : k ≡ e.0 = same-eq total exact k e.0 h in
            let m : e.1 ≡ n = same_Some e.1 n (rw h at f) in
            let t : shown q es ≡ shown p es = same-shown p q es (others k p q es (rw s r.0) a.1) in
            rw (m, v, t, ← m, w) (rw s (sym (kept e.0 (shown p es) (all-shown (λ j. R e.0 j ≡ Less) p es r.0))))
        go true h (Some y) w ih =
            let s : k ≡ e.0 = same-eq total exact k e.0 h in
            let m : e.1 ≡ n = same_Some e.1 n (rw h at f) in
            let t : shown q es ≡ shown p es = same-shown p q es (others k p q es (rw s r.0) a.1) in
            rw (m, v, t, ← m, w) (rw s (rw (same-self total exact e.0) refl))
        go false h None w ih = rw (a.0 h, w) (ih (rw h at f))
        go false h (Some y) w ih = rw (a.0 h, w, h) (ap (λ l. (e.0, y) ∷ l) (ih (rw h at f)))

    placed-shown : (k : K) (n : N) (p : N → Option X) (es : List (K × N)) → p n ≡ None → shown p (placed R k n es) ≡ shown p es
    placed-shown k n p [] w = rw w refl
    placed-shown k n p (e ∷ es) w = go (R k e.0) refl (placed-shown k n p es w)
      where
        go : (o : Ordering) → R k e.0 ≡ o → shown p (placed R k n es) ≡ shown p es → shown p (placed R k n (e ∷ es)) ≡ shown p (e ∷ es)
        go Less h ih = rw (h, w) refl
        go Equal h ih = rw (h, w) refl
        go Greater h ih = rw h (ap (λ l. adding e.0 (p e.1) l) ih)

    -- a key that gets a number under which nothing stands changes nothing that is shown
    pub new-shown : (k : K) (n : N) (p : N → Option X) (es : List (K × N)) → find R k es ≡ None → p n ≡ None → shown p (put R k n es) ≡ shown p es
    new-shown k n p es f w = rw f (placed-shown k n p es w)

    -- nor does a key that goes with its number
    pub gone-shown : (k : K) (n : N) (p : N → Option X) (es : List (K × N)) → find R k es ≡ Some n → p n ≡ None → shown p (removed R k es) ≡ shown p es
    gone-shown k n p [] f w = cc
    gone-shown k n p (e ∷ es) f w = go (eq_by_cmp R k e.0) refl (λ g. gone-shown k n p es g w)
      where
        go : (b : Bool) → eq_by_cmp R k e.0 ≡ b → (find R k es ≡ Some n → shown p (removed R k es) ≡ shown p es) → shown p (removed R k (e ∷ es)) ≡ shown p (e ∷ es)
        go true h ih = let m : e.1 ≡ n = same_Some e.1 n (rw h at f) in rw (h, m, w) refl
        go false h ih = rw h (ap (λ l. adding e.0 (p e.1) l) (ih (rw h at f)))
