-- About Flags: flags once a set has changed.
use Rattle.std.proofs.Common.{◌≡◌, ◌≢◌, ◌==◌, ◌<◌, ◌≤◌, ℕ, zero, suc, List, [], ◌∷◌, length, take, slice_get, slice_set, Bool, true, false, not, Option, Some, None, option_map, refl, sym, ◌∙◌, ap, subst, true≢false, arith}
use Rattle.std.proofs.lemmas.Bool.{eqb-true, eq-eqb}
use Rattle.std.proofs.lemmas.List.{get_or-set_same, get_or-set_other, length-set}
use Rattle.jc_rules.specs.declared.id.Id.{Id}
use Rattle.jc_rules.specs.declared.key.Key.{Key}
use Rattle.jc_rules.specs.Order.{key_cmp}
use Rattle.jc_rules.specs.Entries.{find}
use Rattle.jc_tree.specs.Arena.{go_on}
use Rattle.jc_tree.specs.Tree.{or_no_entries, has_ids}
use Rattle.jc_tree.specs.Counted.{is_last}
use Rattle.jc_tree.specs.Undo.{taken_out, out_of_set}
use Rattle.jc_tree.specs.Numbered.{Numbering, IsNumbered, at_number, IsSetAt, column_entries}
use Rattle.jc_tree.specs.Numbered.GetsNumber.{had}
use Rattle.jc_tree.proofs.ColumnLemmas.{number_within, former_column, put_column}
use Rattle.jc_tree.proofs.TablesLemmas.{slot_set, set_back}
use Rattle.jc_tree.specs.Flags.{flag_at, AreFlags}

abbrev inhabited : Option (List Id) → Bool
inhabited o = has_ids (or_no_entries o)

-- what is at a number is there
pub number_there : {X : Type 0} (col : List (Option X)) (n : ℕ) (x : X) → at_number col n ≡ Some x → n < length col
number_there [] n x h = cc
number_there (o ∷ col) zero x h = omega arith
number_there (o ∷ col) (suc n) x h = omega (arith, number_there col n x h)

-- a set changed, and the flag of its number with it
pub flags_with : (fs gs : List Bool) (sets new : List (Option (List Id))) (n : ℕ) (o : Option (List Id)) → AreFlags fs sets → IsSetAt n o sets new → length fs ≤ length gs → n < length gs → flag_at gs n ≡ inhabited o → ((m : ℕ) → m ≢ n → flag_at gs m ≡ flag_at fs m) → AreFlags gs new
flags_with fs gs sets new n o a s l w e d = record {
  within = s.within (length gs) (omega (arith, a.within, l)) w;
  same = λ m. go m (m == n) refl;
}
  where
    go : (m : ℕ) (q : Bool) → (m == n) ≡ q → flag_at gs m ≡ inhabited (at_number new m)
    go m true h =
        let is : m ≡ n = eqb-true m n h in
        ap (flag_at gs) is ∙ e ∙ ap inhabited (sym s.here) ∙ ap (λ k. inhabited (at_number new k)) (sym is)
    go m false h =
        let other : m ≢ n = λ q. true≢false (sym (eq-eqb m n q) ∙ h) in
        d m other ∙ a.same m ∙ ap inhabited (sym (s.others m other))

-- a flag that is written
pub flags_written : (fs hs gs : List Bool) (sets new : List (Option (List Id))) (n : ℕ) (o : Option (List Id)) (b : Bool) → AreFlags fs sets → IsSetAt n o sets new → length fs ≤ length hs → n < length hs → ((m : ℕ) → flag_at hs m ≡ flag_at fs m) → gs ≡ slice_set hs n b → b ≡ inhabited o → AreFlags gs new
flags_written fs hs gs sets new n o b a s l w d g e =
    flags_with fs gs sets new n o a s
    (omega (arith, l, ap length g, length-set hs n b))
    (omega (arith, w, ap length g, length-set hs n b))
    (ap (λ fs. flag_at fs n) g ∙ get_or-set_same hs n b false w ∙ e)
    (λ m other. ap (λ fs. flag_at fs m) g ∙ get_or-set_other hs n m b false other ∙ d m)

no_flag : (most n : ℕ) → flag_at (take most []) n ≡ false
no_flag zero n = refl
no_flag (suc most) n = refl

no_set : (most n : ℕ) → inhabited (at_number {X = List Id} (take most []) n) ≡ false
no_set zero n = refl
no_set (suc most) n = refl

shorter : {X Y : Type 0} (most : ℕ) (xs : List X) (ys : List Y) → length xs ≤ length ys → length (take most xs) ≤ length (take most ys)
shorter zero xs ys h = omega arith
shorter (suc most) [] ys h = omega arith
shorter (suc most) (x ∷ xs) [] h = absurd (omega (arith, h))
shorter (suc most) (x ∷ xs) (y ∷ ys) h = omega (arith, shorter most xs ys (omega (arith, h)))

cut_same : (most : ℕ) (fs : List Bool) (sets : List (Option (List Id))) → ((n : ℕ) → flag_at fs n ≡ inhabited (at_number sets n)) → (n : ℕ) → flag_at (take most fs) n ≡ inhabited (at_number (take most sets) n)
cut_same zero fs sets h n = refl
cut_same (suc most) [] [] h n = refl
cut_same (suc most) [] (s ∷ sets) h zero = h zero
cut_same (suc most) [] (s ∷ sets) h (suc n) = sym (no_flag most n) ∙ cut_same most [] sets (λ k. h (suc k)) n
cut_same (suc most) (f ∷ fs) [] h zero = h zero
cut_same (suc most) (f ∷ fs) [] h (suc n) = cut_same most fs [] (λ k. h (suc k)) n ∙ no_set most n
cut_same (suc most) (f ∷ fs) (s ∷ sets) h zero = h zero
cut_same (suc most) (f ∷ fs) (s ∷ sets) h (suc n) = cut_same most fs sets (λ k. h (suc k)) n

-- flags and sets that are cut at one number
pub flags_cut : (most : ℕ) (fs gs : List Bool) (sets new : List (Option (List Id))) → AreFlags fs sets → gs ≡ take most fs → new ≡ take most sets → AreFlags gs new
flags_cut most fs gs sets new a g e =
    let cut : AreFlags (take most fs) (take most sets) = record { within = shorter most sets fs a.within; same = cut_same most fs sets a.same } in
    rw (g, e) cut

-- nothing is left of a set once its last identifier is taken out
pub none_left : (i : Id) (o : Option (List Id)) → is_last i (or_no_entries o) ≡ true → inhabited (option_map (λ s. taken_out i s) o) ≡ false
none_left i None h = refl
none_left i (Some []) h = refl
none_left i (Some (j ∷ js)) h = go (has_ids (taken_out i (j ∷ js))) refl h
  where
    go : (b : Bool) → has_ids (taken_out i (j ∷ js)) ≡ b → not (has_ids (taken_out i (j ∷ js))) ≡ true → has_ids (taken_out i (j ∷ js)) ≡ false
    go true q n = let c : false ≡ true = rw q at n in cc
    go false q n = q

-- the set that a column lends, which is now seen as another list
module _ (col now : List (Option (List Id))) (n : ℕ) (w : Option (List Id)) (here : slice_get col n ≡ Some w) (seen : col ≡ now) where
  pub lent : w ≡ at_number now n
  lent = sym (ap (λ p. go_on p (λ o. o)) here) ∙ ap (λ (t : List (Option (List Id))). at_number t n) seen

  -- what is written there is set there
  pub lent_set : (v o : Option (List Id)) → v ≡ o → IsSetAt n o now (slice_set col n v)
  lent_set v o e = subst (λ t. IsSetAt n o t (slice_set col n v)) seen (subst (λ p. IsSetAt n p col (slice_set col n v)) e (slot_set n v w col here))

  -- where there is none, none is written back
  pub lent_none : (i : Id) (v : Option (List Id)) → v ≡ option_map (λ s. taken_out i s) w → at_number now n ≡ None → slice_set col n v ≡ now
  lent_none i v e h =
      let none : w ≡ None = lent ∙ h in
      set_back n v w col here (e ∙ ap (λ (o : Option (List Id)). option_map (λ s. taken_out i s) o) none ∙ sym none) ∙ seen

-- an identifier that is taken out of the set at a key's number
module _ (k : Key) (n : ℕ) (i : Id) (col new : List (Option (List Id))) (t : Numbering) (is : IsNumbered t) (f : find key_cmp k t.order ≡ Some n) (l : length col ≤ length t.keys) (some : (s : List Id) → at_number col n ≡ Some s → IsSetAt n (Some (taken_out i s)) col new) (none : at_number col n ≡ None → new ≡ col) where
  pub out_within : length new ≤ length t.keys
  out_within = go (at_number col n) refl
    where
      go : (o : Option (List Id)) → at_number col n ≡ o → length new ≤ length t.keys
      go None e = omega (arith, l, ap length (none e))
      go (Some s) e = (some s e).within (length t.keys) l (number_within k n t t is (had f refl))

  pub out_column : column_entries new t ≡ out_of_set k i (find key_cmp k (column_entries col t)) (column_entries col t)
  out_column = go (at_number col n) refl
    where
      found : at_number col n ≡ find key_cmp k (column_entries col t)
      found = former_column k n col t t is (had f refl) l

      go : (o : Option (List Id)) → at_number col n ≡ o → column_entries new t ≡ out_of_set k i (find key_cmp k (column_entries col t)) (column_entries col t)
      go None e = ap (λ d. column_entries d t) (none e) ∙ ap (λ o. out_of_set k i o (column_entries col t)) (sym e ∙ found)
      go (Some s) e = put_column k n (taken_out i s) col new t t is is (had f refl) l (some s e) ∙ ap (λ o. out_of_set k i o (column_entries col t)) (sym e ∙ found)
