-- About Parts: members that are put one after the other.
use Rattle.std.proofs.Common.{◌≡◌, ℕ, ◌+◌, ◌<◌, List, [], ◌∷◌, ◌++◌, length, take, map, get_or, refl, sym, ◌∙◌, ap, subst}
use Rattle.std.specs.declared.cmp.Ordering.{Ordering}
use Rattle.std.specs.declared.cmp.Ordering.TheVariants.{Less, Equal, Greater}
use Rattle.std.specs.Ordering.{match_ordering}
use Rattle.std.proofs.lemmas.List.{take_more, map-append}
use Rattle.serde_json.specs.Data.{Data, Members, no_members, member, put}
use Rattle.jc_rules.specs.Order.{name_cmp}
use Rattle.jc_rules.proofs.OrderLemmas.{names_total, exact_names}
use Rattle.jc_rules.proofs.RisingLemmas.{less_greater}
use Rattle.jc_json.specs.Json.{put_all}

pub put_all-append : (es fs : List (List ℕ × Data)) (ms : Members) → put_all (es ++ fs) ms ≡ put_all fs (put_all es ms)
put_all-append [] fs ms = refl
put_all-append (e ∷ es) fs ms = put_all-append es fs (put e.0 e.1 ms)

-- one more of a list's members
pub put_all_more : {X : Type 0} (f : X → List ℕ × Data) (xs : List X) (i : ℕ) (x : X) (ms : Members) → i < length xs → x ≡ get_or xs i x → put_all (map f (take (i + 1) xs)) ms ≡ put (f x).0 (f x).1 (put_all (map f (take i xs)) ms)
put_all_more f xs i x ms h e =
    ap (λ ys. put_all (map f ys) ms) (take_more xs i x h ∙ ap (λ y. take i xs ++ y ∷ []) (sym e))
    ∙ ap (λ es. put_all es ms) (map-append f (take i xs) (x ∷ []))
    ∙ put_all-append (map f (take i xs)) (f x ∷ []) ms

-- ---- one member, by the order of its name and the first one's

module _ (k l : List ℕ) (d e : Data) (ms : Members) where
  pub put_less : name_cmp k l ≡ Less → put k d (member l e ms) ≡ member k d (member l e ms)
  put_less h = rw h refl

  pub put_equal : name_cmp k l ≡ Equal → put k d (member l e ms) ≡ member l d ms
  put_equal h = rw h refl

  pub put_greater : name_cmp k l ≡ Greater → put k d (member l e ms) ≡ member l e (put k d ms)
  put_greater h = rw h refl

-- ---- two members of different names, in either order

pub put_past : (k l : List ℕ) (d e : Data) (ms : Members) → name_cmp k l ≡ Less → put l e (put k d ms) ≡ put k d (put l e ms)
put_past k l d e no_members h = put_greater l k e d no_members (less_greater names_total k l h) ∙ sym (put_less k l d e no_members h)
put_past k l d e (member j x ms) h = go (name_cmp l j) refl (put_past k l d e ms h)
  where
    over : name_cmp l k ≡ Greater
    over = less_greater names_total k l h

    go : (o : Ordering) → name_cmp l j ≡ o → put l e (put k d ms) ≡ put k d (put l e ms) → put l e (put k d (member j x ms)) ≡ put k d (put l e (member j x ms))
    go Less f ih =
        let g : name_cmp k j ≡ Less = names_total.trans k l j h f in
        ap (put l e) (put_less k j d x ms g) ∙ put_greater l k e d (member j x ms) over ∙ ap (member k d) (put_less l j e x ms f)
        ∙ sym (ap (put k d) (put_less l j e x ms f) ∙ put_less k l d e (member j x ms) h)
    go Equal f ih =
        let g : name_cmp k j ≡ Less = subst (λ (s : List ℕ). name_cmp k s ≡ Less) (exact_names l j f) h in
        ap (put l e) (put_less k j d x ms g) ∙ put_greater l k e d (member j x ms) over ∙ ap (member k d) (put_equal l j e x ms f)
        ∙ sym (ap (put k d) (put_equal l j e x ms f) ∙ put_less k j d e ms g)
    go Greater f ih = past (name_cmp k j) refl ih
      where
        past : (o : Ordering) → name_cmp k j ≡ o → put l e (put k d ms) ≡ put k d (put l e ms) → put l e (put k d (member j x ms)) ≡ put k d (put l e (member j x ms))
        past Less g ih =
            ap (put l e) (put_less k j d x ms g) ∙ put_greater l k e d (member j x ms) over ∙ ap (member k d) (put_greater l j e x ms f)
            ∙ sym (ap (put k d) (put_greater l j e x ms f) ∙ put_less k j d x (put l e ms) g)
        past Equal g ih =
            ap (put l e) (put_equal k j d x ms g) ∙ put_greater l j e d ms f
            ∙ sym (ap (put k d) (put_greater l j e x ms f) ∙ put_equal k j d x (put l e ms) g)
        past Greater g ih =
            ap (put l e) (put_greater k j d x ms g) ∙ put_greater l j e x (put k d ms) f ∙ ap (member j x) ih
            ∙ sym (ap (put k d) (put_greater l j e x ms f) ∙ put_greater k j d x (put l e ms) g)

-- ---- members behind others

abbrev pub joined : Members → Members → Members
joined no_members bs = bs
joined (member k d ls) bs = member k d (joined ls bs)

pub joined-none : (ls : Members) → joined ls no_members ≡ ls
joined-none no_members = refl
joined-none (member k d ls) = ap (member k d) (joined-none ls)

pub joined-assoc : (ls bs cs : Members) → joined (joined ls bs) cs ≡ joined ls (joined bs cs)
joined-assoc no_members bs cs = refl
joined-assoc (member k d ls) bs cs = ap (member k d) (joined-assoc ls bs cs)

-- each name compares so with all names that begin with the word
abbrev pub Compares : Ordering → List ℕ → Members → Type 0
Compares o w no_members = Unit {0}
Compares o w (member j x ms) = ((t : List ℕ) → name_cmp (w ++ t) j ≡ o) × Compares o w ms

module _ (o : Ordering) (w : List ℕ) where
  pub compares-joined : (ls bs : Members) → Compares o w ls → Compares o w bs → Compares o w (joined ls bs)
  compares-joined no_members bs a b = b
  compares-joined (member j x ls) bs a b = (a.0, compares-joined ls bs a.1 b)

  compares-at : (q : Ordering) (k j : List ℕ) (d x : Data) (ms new : Members) → ((t : List ℕ) → name_cmp (w ++ t) k ≡ o) → ((t : List ℕ) → name_cmp (w ++ t) j ≡ o) → Compares o w ms → Compares o w new
      → Compares o w (match_ordering q (member k d (member j x ms)) (member j d ms) (member j x new))
  compares-at Less k j d x ms new h i c b = (h, (i, c))
  compares-at Equal k j d x ms new h i c b = (i, c)
  compares-at Greater k j d x ms new h i c b = (i, b)

  pub compares-put : (k : List ℕ) (d : Data) (ms : Members) → ((t : List ℕ) → name_cmp (w ++ t) k ≡ o) → Compares o w ms → Compares o w (put k d ms)
  compares-put k d no_members h c = (h, tt)
  compares-put k d (member j x ms) h c = compares-at (name_cmp k j) k j d x ms (put k d ms) h c.0 c.1 (compares-put k d ms h c.1)

module _ (w t : List ℕ) (d : Data) where
  -- what is put above all of the first goes into the others
  pub put-above : (ls ms : Members) → Compares Greater w ls → put (w ++ t) d (joined ls ms) ≡ joined ls (put (w ++ t) d ms)
  put-above no_members ms c = refl
  put-above (member j x ls) ms c = put_greater (w ++ t) j d x (joined ls ms) (c.0 t) ∙ ap (member j x) (put-above ls ms c.1)

  -- what is put below all of the last goes into the others
  pub put-below : (ms bs : Members) → Compares Less w bs → put (w ++ t) d (joined ms bs) ≡ joined (put (w ++ t) d ms) bs
  put-below no_members no_members c = refl
  put-below no_members (member j x bs) c = put_less (w ++ t) j d x bs (c.0 t)
  put-below (member j x ms) bs c = go (name_cmp (w ++ t) j) refl (put-below ms bs c)
    where
      go : (o : Ordering) → name_cmp (w ++ t) j ≡ o → put (w ++ t) d (joined ms bs) ≡ joined (put (w ++ t) d ms) bs
          → put (w ++ t) d (member j x (joined ms bs)) ≡ joined (put (w ++ t) d (member j x ms)) bs
      go Less f ih = put_less (w ++ t) j d x (joined ms bs) f ∙ sym (ap (λ ns. joined ns bs) (put_less (w ++ t) j d x ms f))
      go Equal f ih = put_equal (w ++ t) j d x (joined ms bs) f ∙ sym (ap (λ ns. joined ns bs) (put_equal (w ++ t) j d x ms f))
      go Greater f ih = put_greater (w ++ t) j d x (joined ms bs) f ∙ ap (member j x) ih ∙ sym (ap (λ ns. joined ns bs) (put_greater (w ++ t) j d x ms f))
