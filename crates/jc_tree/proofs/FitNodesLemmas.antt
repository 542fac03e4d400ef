-- About Blocks and Tables: blocks of a node stay fit once the node changed.
use Rattle.std.proofs.Common.{◌≡◌, ◌≢◌, ◌≤◌, ◌<◌, ◌+◌, ℕ, zero, suc, List, [], ◌∷◌, ◌++◌, length, take, slice_get, Option, Some, None, IfSome, Bool, true, false, not, cond, refl, sym, ◌∙◌, ap, subst, arith}
use Rattle.std.specs.Ordering.{eq_by_cmp}
use Rattle.std.proofs.lemmas.List.{length-take-le}
use Rattle.std.proofs.lemmas.Option.{same_Some, slice_get_within}
use Rattle.jc_rules.specs.declared.id.Id.{Id}
use Rattle.jc_rules.specs.declared.key.Key.{Key}
use Rattle.jc_rules.specs.declared.key.Key.TheVariants.{Elem}
use Rattle.jc_rules.specs.declared.key.Next.{Next}
use Rattle.jc_rules.specs.declared.key.Next.TheVariants.{Elem as To}
use Rattle.jc_rules.specs.Order.{key_cmp}
use Rattle.jc_rules.specs.Entries.{find, replaced, put}
use Rattle.jc_rules.specs.Ids.{with_id}
use Rattle.jc_rules.proofs.OrderLemmas.{keys_total, exact_keys}
use Rattle.jc_rules.proofs.EntriesLemmas.{same-self, same-eq, found-put, other-put}
use Rattle.jc_tree.specs.Arena.{go_on}
use Rattle.jc_tree.specs.Tree.{or_no_entries, has_ids}
use Rattle.jc_tree.specs.Undo.{removed, restored, taken_out, out_of_set}
use Rattle.jc_tree.specs.Counted.{is_last}
use Rattle.jc_tree.specs.Numbered.{Numbering, IsNumbered, at_number, column_entries}
use Rattle.jc_tree.specs.Numbered.GetsNumber.{had, gets}
use Rattle.jc_tree.specs.Tables.{MayNumber}
use Rattle.jc_tree.specs.Tables.MayNumber.{same, numbers}
use Rattle.jc_tree.specs.Blocks.{Members, member, presence_bit, IsLinked, AreFit, AreNumbered, DifferAt, IsApart, IsNumberIn, IsLastLinked}
use Rattle.jc_tree.proofs.NumberedLemmas.{key_at, number_at, find_removed, numbered_again}
use Rattle.jc_tree.proofs.ColumnLemmas.{find_column, sorted_column}
use Rattle.jc_tree.proofs.CountedLemmas.{has_added, some_left}
use Rattle.jc_tree.proofs.BlocksLemmas.{fit_relinked}

-- keys that may be one more

still_there : {X : Type 0} (xs zs : List X) (n : ℕ) (y : X) → slice_get xs n ≡ Some y → slice_get (xs ++ zs) n ≡ Some y
still_there [] zs n y h = cc
still_there (x ∷ xs) zs zero y h = h
still_there (x ∷ xs) zs (suc n) y h = still_there xs zs n y h

pub keys_stay : (k : Key) (t u : Numbering) → MayNumber k t u → (n : ℕ) (j : Key) → slice_get t.keys n ≡ Some j → slice_get u.keys n ≡ Some j
keys_stay k t u (same e) n j h = ap (λ (v : Numbering). slice_get v.keys n) e ∙ h
keys_stay k t u (numbers m i (had f e)) n j h = ap (λ (v : Numbering). slice_get v.keys n) e ∙ h
keys_stay k t u (numbers m i (gets f e g)) n j h = ap (λ (v : Numbering). slice_get v.keys n) g ∙ still_there t.keys (k ∷ []) n j h

-- what is seen is the same, under keys that may be one more
pub fit_seen : (k : Key) (t u : Numbering) → MayNumber k t u → (l l' : List (Key × Next)) (p p' : List (Key × List Id)) (bs : List Members) → l' ≡ l → p' ≡ p → AreFit t.keys l p bs → AreFit u.keys l' p' bs
fit_seen k t u g l l' p p' bs le pe fit = λ b s n m x h i j.
    let w = fit b s n m x h i j in
    record {
      id = w.id;
      numbered = keys_stay k t u g m (Elem w.id) w.numbered;
      linked = record { key = w.linked.key; numbered = keys_stay k t u g n w.linked.key w.linked.numbered; linked = ap (find key_cmp w.linked.key) le ∙ w.linked.linked };
      bit = w.bit ∙ ap (presence_bit (Elem w.id)) (sym pe);
      least = w.least;
    }

-- no key has two numbers
pub keys_numbered : (t : Numbering) → IsNumbered t → AreNumbered t.keys
keys_numbered t i k m n f g = same_Some m n (sym (number_at t i k m f) ∙ number_at t i k n g)

pub may_numbered : (k : Key) (t u : Numbering) → MayNumber k t u → IsNumbered t → IsNumbered u
may_numbered k t u (same e) i = subst IsNumbered (sym e) i
may_numbered k t u (numbers n j g) i = numbered_again k n t u i g

-- the number that is found in a numbering, where there are blocks
pub number_found : (k : Key) (t : Numbering) (o : Option ℕ) (bs : List Members) → IsNumbered t → o ≡ find key_cmp k t.order → IsNumberIn o k t.keys bs
number_found k t None bs i e = λ b s n h g. let no : None ≡ Some n = e ∙ number_at t i k n g in cc
number_found k t (Some n) bs i e = key_at t i k n (sym e)

pub none_apart : (k : Key) (keys : List Key) (bs : List Members) → bs ≡ [] → IsNumberIn None k keys bs
none_apart k keys bs e = λ b s n h. let no : None ≡ Some n = ap (λ (l : List Members). member l b s) (sym e) ∙ h in cc

-- entries that differ at one key

other_key : (j k : Key) → j ≢ k → eq_by_cmp key_cmp j k ≡ false
other_key j k d = go (eq_by_cmp key_cmp j k) refl
  where
    go : (b : Bool) → eq_by_cmp key_cmp j k ≡ b → eq_by_cmp key_cmp j k ≡ false
    go true h = absurd (d (same-eq keys_total exact_keys j k h))
    go false h = h

module _ {X : Type 0} where
  pub differ_put : (k : Key) (x : X) (es : List (Key × X)) → DifferAt k es (put key_cmp k x es)
  differ_put k x es = λ j d. other-put keys_total exact_keys j k x es (other_key j k d)

  find_replaced : (j k : Key) (x : X) (es : List (Key × X)) → j ≢ k → find key_cmp j (replaced key_cmp k x es) ≡ find key_cmp j es
  find_replaced j k x [] d = refl
  find_replaced j k x (e ∷ es) d = go (eq_by_cmp key_cmp k e.0) refl (find_replaced j k x es d)
    where
      go : (b : Bool) → eq_by_cmp key_cmp k e.0 ≡ b → find key_cmp j (replaced key_cmp k x es) ≡ find key_cmp j es → find key_cmp j (replaced key_cmp k x (e ∷ es)) ≡ find key_cmp j (e ∷ es)
      go true p ih =
          let q : k ≡ e.0 = same-eq keys_total exact_keys k e.0 p in
          let other : eq_by_cmp key_cmp j e.0 ≡ false = ap (eq_by_cmp key_cmp j) (sym q) ∙ other_key j k d in
          rw (p, other, other_key j k d) refl
      go false p ih = rw (p, ih) refl

  find_taken : (j k : Key) (es : List (Key × X)) → j ≢ k → find key_cmp j (removed key_cmp k es) ≡ find key_cmp j es
  find_taken j k [] d = refl
  find_taken j k (e ∷ es) d = go (eq_by_cmp key_cmp k e.0) refl (find_taken j k es d)
    where
      go : (b : Bool) → eq_by_cmp key_cmp k e.0 ≡ b → find key_cmp j (removed key_cmp k es) ≡ find key_cmp j es → find key_cmp j (removed key_cmp k (e ∷ es)) ≡ find key_cmp j (e ∷ es)
      go true p ih =
          let q : k ≡ e.0 = same-eq keys_total exact_keys k e.0 p in
          let other : eq_by_cmp key_cmp j e.0 ≡ false = ap (eq_by_cmp key_cmp j) (sym q) ∙ other_key j k d in
          rw (p, other) refl
      go false p ih = rw (p, ih) refl

  pub differ_restored : (k : Key) (o : Option X) (es : List (Key × X)) → DifferAt k es (restored key_cmp k o es)
  differ_restored k None es = λ j d. find_taken j k es d
  differ_restored k (Some x) es = λ j d. find_replaced j k x es d

  pub found_replaced : (k : Key) (x w : X) (es : List (Key × X)) → find key_cmp k es ≡ Some w → find key_cmp k (replaced key_cmp k x es) ≡ Some x
  found_replaced k x w [] h = cc
  found_replaced k x w (e ∷ es) h = go (eq_by_cmp key_cmp k e.0) refl (λ f. found_replaced k x w es f) h
    where
      go : (b : Bool) → eq_by_cmp key_cmp k e.0 ≡ b → (find key_cmp k es ≡ Some w → find key_cmp k (replaced key_cmp k x es) ≡ Some x) → find key_cmp k (e ∷ es) ≡ Some w → find key_cmp k (replaced key_cmp k x (e ∷ es)) ≡ Some x
      go true p ih f = rw (p, same-self keys_total exact_keys k) refl
      go false p ih f = rw (p, p) (ih (rw p at f))

pub if_some : {A : Type 0} (o : Option A) (P : A → Type 0) (a : A) → o ≡ Some a → P a → IfSome o P
if_some o P a e h = subst (λ x. IfSome x P) (sym e) h

-- links

-- what follows the key changed, and a block that has the key's number was mended
pub fit_linked : (k : Key) (t u : Numbering) → MayNumber k t u → (number : Option ℕ) (l l' : List (Key × Next)) (p p' : List (Key × List Id)) (bs cs : List Members) → AreNumbered u.keys → DifferAt k l l' → p' ≡ p → (number ≡ None → IsApart k t.keys bs) → IfSome number (λ n. slice_get t.keys n ≡ Some k) → IfSome number (λ n. (key : Key) (old : List (Key × Next)) → AreNumbered u.keys → slice_get u.keys n ≡ Some key → DifferAt key old l' → AreFit u.keys old p' bs → AreFit u.keys l' p' cs) → (number ≡ None → cs ≡ bs) → AreFit t.keys l p bs → AreFit u.keys l' p' cs
fit_linked k t u g None l l' p p' bs cs distinct differ pe apart there mended none fit =
    subst (AreFit u.keys l' p') (sym (none refl))
    (fit_seen k t u g l' l' p p' bs refl pe (fit_relinked t.keys p k l l' differ bs (λ b s n h more key. apart refl b s n h key) fit))
fit_linked k t u g (Some n) l l' p p' bs cs distinct differ pe apart there mended none fit =
    mended k l distinct (keys_stay k t u g n k there) differ (fit_seen k t u g l l p p' bs refl pe fit)

pub differ_as_put : {X : Type 0} (k : Key) (x : X) (es fs : List (Key × X)) → fs ≡ put key_cmp k x es → DifferAt k es fs
differ_as_put k x es fs e = λ j d. ap (find key_cmp j) e ∙ differ_put k x es j d

pub differ_as_restored : {X : Type 0} (k : Key) (o : Option X) (es fs : List (Key × X)) → fs ≡ restored key_cmp k o es → DifferAt k es fs
differ_as_restored k o es fs e = λ j d. ap (find key_cmp j) e ∙ differ_restored k o es j d

pub number_apart : (o : Option ℕ) (k : Key) (keys : List Key) (bs : List Members) → IsNumberIn o k keys bs → o ≡ None → IsApart k keys bs
number_apart None k keys bs h e = h
number_apart (Some n) k keys bs h e = cc

pub number_there : (o : Option ℕ) (k : Key) (keys : List Key) (bs : List Members) → IsNumberIn o k keys bs → IfSome o (λ n. slice_get keys n ≡ Some k)
number_there None k keys bs h = tt
number_there (Some n) k keys bs h = h

-- presence sets

abbrev bit_of : Option (List Id) → ℕ
bit_of o = cond (has_ids (or_no_entries o)) 1 0

pub bit_put : (k : Key) (s : List Id) (empty : Bool) (es : List (Key × List Id)) → empty ≡ not (has_ids s) → presence_bit k (put key_cmp k s es) ≡ cond (not empty) 1 0
bit_put k s empty es h = ap bit_of (found-put keys_total exact_keys k s es) ∙ ap (λ b. cond b 1 0) (sym (some_left h))

pub bit_added : (k : Key) (i : Id) (s : List Id) (es : List (Key × List Id)) → presence_bit k (put key_cmp k (with_id i s) es) ≡ 1
bit_added k i s es = ap bit_of (found-put keys_total exact_keys k (with_id i s) es) ∙ ap (λ b. cond b 1 0) (has_added i s)

pub gone_removed : (k : Key) (col : List (Option (List Id))) (t : Numbering) → IsNumbered t → find key_cmp k (removed key_cmp k (column_entries col t)) ≡ None
gone_removed k col t i =
    find_removed k k (column_entries col t) (sorted_column col t i)
    ∙ ap (λ b. cond b None (find key_cmp k (column_entries col t))) (same-self keys_total exact_keys k)

pub bit_restored : (k : Key) (o : Option (List Id)) (w : List Id) (is : Bool) (es : List (Key × List Id)) → find key_cmp k (removed key_cmp k es) ≡ None → find key_cmp k es ≡ Some w → is ≡ has_ids (or_no_entries o) → presence_bit k (restored key_cmp k o es) ≡ cond is 1 0
bit_restored k None w is es gone h e = ap bit_of gone ∙ ap (λ b. cond b 1 0) (sym e)
bit_restored k (Some s) w is es gone h e = ap bit_of (found_replaced k s w es h) ∙ ap (λ b. cond b 1 0) (sym e)

-- once an identifier was taken out of a key's set
pub differ_out : (k : Key) (i : Id) (es : List (Key × List Id)) → DifferAt k es (out_of_set k i (find key_cmp k es) es)
differ_out k i es = go (find key_cmp k es)
  where
    go : (o : Option (List Id)) → DifferAt k es (out_of_set k i o es)
    go None = λ j d. refl
    go (Some s) = differ_put k (taken_out i s) es

none_after : (i : Id) (s : List Id) → is_last i s ≡ true → has_ids (taken_out i s) ≡ false
none_after i [] h = cc
none_after i (j ∷ js) h = go (has_ids (taken_out i (j ∷ js))) refl
  where
    go : (b : Bool) → has_ids (taken_out i (j ∷ js)) ≡ b → has_ids (taken_out i (j ∷ js)) ≡ false
    go true e = let no : false ≡ true = rw e at h in cc
    go false e = e

some_after : (i : Id) (s : List Id) → is_last i s ≡ false → has_ids (taken_out i s) ≡ has_ids s
some_after i [] h = refl
some_after i (j ∷ js) h = go (has_ids (taken_out i (j ∷ js))) refl
  where
    go : (b : Bool) → has_ids (taken_out i (j ∷ js)) ≡ b → has_ids (taken_out i (j ∷ js)) ≡ true
    go true e = e
    go false e = let no : true ≡ false = rw e at h in cc

pub bit_out : (k : Key) (i : Id) (es : List (Key × List Id)) → is_last i (or_no_entries (find key_cmp k es)) ≡ true → presence_bit k (out_of_set k i (find key_cmp k es) es) ≡ 0
bit_out k i es h = go (find key_cmp k es) refl h
  where
    go : (o : Option (List Id)) → find key_cmp k es ≡ o → is_last i (or_no_entries o) ≡ true → presence_bit k (out_of_set k i o es) ≡ 0
    go None e h = let no : false ≡ true = h in cc
    go (Some s) e h = ap bit_of (found-put keys_total exact_keys k (taken_out i s) es) ∙ ap (λ b. cond b 1 0) (none_after i s h)

-- where it wasn't the last one, each key is as present as before
pub bits_out : (k : Key) (i : Id) (es : List (Key × List Id)) → is_last i (or_no_entries (find key_cmp k es)) ≡ false → (j : Key) → presence_bit j (out_of_set k i (find key_cmp k es) es) ≡ presence_bit j es
bits_out k i es h j = go (find key_cmp k es) refl h
  where
    go : (o : Option (List Id)) → find key_cmp k es ≡ o → is_last i (or_no_entries o) ≡ false → presence_bit j (out_of_set k i o es) ≡ presence_bit j es
    go None e h = refl
    go (Some s) e h = by (eq_by_cmp key_cmp j k) refl
      where
        by : (b : Bool) → eq_by_cmp key_cmp j k ≡ b → presence_bit j (put key_cmp k (taken_out i s) es) ≡ presence_bit j es
        by true q =
            let at : j ≡ k = same-eq keys_total exact_keys j k q in
            ap (λ (x : Key). presence_bit x (put key_cmp k (taken_out i s) es)) at
            ∙ ap bit_of (found-put keys_total exact_keys k (taken_out i s) es)
            ∙ ap (λ b. cond b 1 0) (some_after i s h)
            ∙ sym (ap (λ (x : Key). presence_bit x es) at ∙ ap bit_of e)
        by false q = ap bit_of (other-put keys_total exact_keys j k (taken_out i s) es q)

pub fit_as_present : (keys : List Key) (links : List (Key × Next)) (old new : List (Key × List Id)) (bs : List Members) → ((j : Key) → presence_bit j new ≡ presence_bit j old) → AreFit keys links old bs → AreFit keys links new bs
fit_as_present keys links old new bs e fit = λ b s n m x h i j.
    let w = fit b s n m x h i j in
    record {
      id = w.id;
      numbered = w.numbered;
      linked = w.linked;
      bit = w.bit ∙ sym (e (Elem w.id));
      least = w.least;
    }

-- growing

-- the last number of a block is that of a key, to which a link belongs
pub last_linked : (t : Numbering) (links : List (Option Next)) (bs : List Members) (b last : ℕ) (id : Id) → IsNumbered t → length links ≤ length t.keys → ((s n : ℕ) → member bs b s ≡ Some n → member bs b (suc s) ≡ None → Some last ≡ Some n) → at_number links last ≡ Some (To id) → IsLastLinked t.keys (column_entries links t) bs b id
last_linked t links bs b last id i w only linked = λ s n h none.
    let at : last ≡ n = same_Some last n (only s n h none) in
    subst (λ m. IsLinked t.keys (column_entries links t) m id) at here
  where
    within : last < length links
    within = go (slice_get links last) refl linked
      where
        go : (o : Option (Option Next)) → slice_get links last ≡ o → go_on o (λ o. o) ≡ Some (To id) → last < length links
        go None e h = cc
        go (Some o) e h = slice_get_within links last o e

    here : IsLinked t.keys (column_entries links t) last id
    here = go (slice_get t.keys last) refl
      where
        go : (o : Option Key) → slice_get t.keys last ≡ o → IsLinked t.keys (column_entries links t) last id
        go None e = absurd (absent t.keys last (omega (arith, within, w)) e)
          where
            absent : (ks : List Key) (n : ℕ) → n < length ks → slice_get ks n ≢ None
            absent [] n h e = omega (arith, h)
            absent (k ∷ ks) zero h e = cc
            absent (k ∷ ks) (suc n) h e = absent ks n (omega (arith, h)) e
        go (Some k) e = record {
          key = k;
          numbered = e;
          linked = find_column k links t i ∙ ap (λ o. go_on o (λ n. at_number links n)) (number_at t i k last e) ∙ linked;
        }

-- the bit of a number
pub number_bit : (t : Numbering) (sets : List (Option (List Id))) (k : Key) (n : ℕ) → IsNumbered t → find key_cmp k t.order ≡ Some n → presence_bit k (column_entries sets t) ≡ cond (has_ids (or_no_entries (at_number sets n))) 1 0
number_bit t sets k n i f = ap bit_of (find_column k sets t i ∙ ap (λ o. go_on o (λ n. at_number sets n)) f)

-- keys of which the last ones go

take_twice : {X : Type 0} (m n : ℕ) (xs : List X) → m ≤ n → take m (take n xs) ≡ take m xs
take_twice zero n xs h = refl
take_twice (suc m) zero xs h = absurd (omega (arith, h))
take_twice (suc m) (suc n) [] h = refl
take_twice (suc m) (suc n) (x ∷ xs) h = ap (λ l. x ∷ l) (take_twice m n xs (omega (arith, h)))

pub keys_cut : (m : ℕ) (keys us fs : List Key) → m + 1 ≡ length keys → us ≡ take m keys → keys ≡ take (length keys) fs → us ≡ take (length us) fs
keys_cut m keys us fs some e h =
    let long : length us ≡ m = ap length e ∙ length-take-le m keys (omega (arith, some)) in
    e ∙ ap (take m) h ∙ take_twice m (length keys) fs (omega (arith, some)) ∙ ap (λ n. take n fs) (sym long)
