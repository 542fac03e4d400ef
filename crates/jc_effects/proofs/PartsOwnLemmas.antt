-- About Parts: what differs of a key's own entries, from what is read of them and what is found among candidates.
use Rattle.std.proofs.Common.{◌≡◌, List, [], ◌∷◌, ◌++◌, Bool, true, false, not, ◌||◌, ◌&&◌, cond, Option, Some, None, is_some, filter, refl, sym, ◌∙◌, ap, subst}
use Rattle.std.proofs.lemmas.List.{append-nil}
use Rattle.jc_rules.specs.declared.id.Id.{Id}
use Rattle.jc_rules.specs.declared.key.Key.{Key}
use Rattle.jc_rules.specs.declared.key.Next.{Next}
use Rattle.jc_rules.specs.declared.key.Next.TheVariants.{Tail, Elem as To}
use Rattle.jc_rules.specs.declared.key.Tagged.{Tagged}
use Rattle.jc_rules.specs.declared.key.Tagged.TheVariants.{MapT, ListT, RegT}
use Rattle.jc_rules.specs.declared.operation.Op.{Op}
use Rattle.jc_rules.specs.declared.value.Value.{Value}
use Rattle.jc_rules.specs.Order.{same_id, same_key}
use Rattle.jc_rules.specs.Ids.{AreRising, has_id, without}
use Rattle.jc_rules.specs.Context.{Context, Register, next, key_of_tagged}
use Rattle.jc_rules.proofs.BoolLemmas.{no_truth, same_tests}
use Rattle.jc_rules.proofs.IdsLemmas.{same_id-self, has_id-without, without-rises, same_members}
use Rattle.jc_tree.specs.Tree.{or_no_entries, has_ids}
use Rattle.jc_vectors.specs.OperationIds.{with_deps}
use Rattle.jc_meaning.specs.Effects.{is_delete, touches, clears, written_by, goes_through}
use Rattle.jc_meaning.specs.Seen.{seen, ids_at, reg_at, value_seen_at, has_tag}
use Rattle.jc_meaning.proofs.OperationActsLemmas.{or_else, Changes}
use Rattle.jc_meaning.proofs.OrdersLemmas.{keys_self}
use Rattle.jc_effects.specs.declared.entries.Entries.{Entries}
use Rattle.jc_effects.specs.declared.own.Candidates.{Candidates}
use Rattle.jc_effects.specs.declared.own.OwnEffects.{OwnEffects}
use Rattle.jc_effects.specs.Difference.{same_link, values_without, tag_made, link_changed, shown_changed, own_difference}
use Rattle.jc_effects.specs.Laws.{IsChangedBy}
use Rattle.jc_effects.specs.Parts.{own_seen, tags_made, new_tags, pairs_without, AreEntries, AreFound, OnlyLosesAt}
use Rattle.jc_effects.proofs.PartsAmongLemmas.{nothing_is, value_found, Keeps}
use Rattle.jc_effects.proofs.OneLemmas.{without_none, values_none}
use Rattle.jc_effects.proofs.ElsewhereLemmas.{changes_of}
use Rattle.jc_effects.proofs.EffectsLemmas.{new_value}
use Rattle.jc_effects.proofs.PartsTargetLemmas.{touched_on_path, uncleared_on_path, off_on_path, unwritten_on_path, passed_on_path}

-- the pairs without a value are the same by the register and by what is seen
pairs_seen : (r : Register) (k : Key) (c : Context) → pairs_without r (or_no_entries (reg_at k c)) ≡ values_without r k c
pairs_seen r k c = λ i. filter (λ e. not (is_some (sym (value_found (reg_at k c) e.0) i))) r

-- What is found among candidates is what differs, where nothing else does.
pub own_is : (k : Key) (c d : Context) (was now : Entries) (among : Candidates) (own : OwnEffects) → AreEntries k c was → AreEntries k d now
    → without among.gained.now (ids_at k c) ≡ without (ids_at k d) (ids_at k c)
    → without among.lost.now (ids_at k d) ≡ without (ids_at k c) (ids_at k d)
    → values_without among.taken.now k d ≡ values_without (or_no_entries (reg_at k c)) k d
    → values_without among.written.now k c ≡ values_without (or_no_entries (reg_at k d)) k c
    → AreFound was now among own → own_seen k own ≡ own_difference k c d
own_is k c d was now among own e f g l t w a = λ i. record {
  gained = (a.gained ∙ ap (without among.gained.now) e.ids ∙ g) i;
  lost = (a.lost ∙ ap (without among.lost.now) f.ids ∙ l) i;
  made = (ap (tags_made k) a.made ∙ tags) i;
  next = (a.next ∙ links) i;
  shown = (a.shown ∙ shown) i;
  taken = (a.taken ∙ ap (pairs_without among.taken.now) f.pairs ∙ pairs_seen among.taken.now k d ∙ t) i;
  written = (a.written ∙ ap (pairs_without among.written.now) e.pairs ∙ pairs_seen among.written.now k c ∙ w) i;
}
  where
    tags : tags_made k (new_tags was.tags now.tags) ≡ tag_made (MapT k) c d ++ tag_made (ListT k) c d ++ tag_made (RegT k) c d
    tags = λ i. cond (f.map i && not (e.map i)) (MapT k ∷ []) [] ++ cond (f.list i && not (e.list i)) (ListT k ∷ []) [] ++ cond (f.register i && not (e.register i)) (RegT k ∷ []) []

    links : link_changed was.next now.next ≡ link_changed (next k c) (next k d)
    links = λ i. link_changed (e.next i) (f.next i)

    shown : shown_changed (has_ids was.ids.now) (has_ids now.ids.now) ≡ shown_changed (has_ids (ids_at k c)) (has_ids (ids_at k d))
    shown = λ i. shown_changed (has_ids (e.ids i)) (has_ids (f.ids i))

-- ---- where nothing but losses can be

none_without : (is js : List Id) → ((i : Id) → has_id i is ≡ true → has_id i js ≡ true) → [] ≡ without is js
none_without is js h = sym (nothing_is (without is js) (without_none is js h))

none_written : (k : Key) (c d : Context) → ((i : Id) → is_some (value_seen_at i k d) ≡ true → is_some (value_seen_at i k c) ≡ true) → [] ≡ values_without (or_no_entries (reg_at k d)) k c
none_written k c d h = sym (nothing_is (values_without (or_no_entries (reg_at k d)) k c) (values_none (or_no_entries (reg_at k d)) k c (λ i e. h i (ap is_some (value_found (reg_at k d) i) ∙ e))))

no_tag_made : (u : Tagged) (c d : Context) → has_tag u d ≡ has_tag u c → [] ≡ tag_made u c d
no_tag_made u c d e = go (has_tag u c) (has_tag u d) e
  where
    go : (a b : Bool) → b ≡ a → [] ≡ cond (b && not a) (u ∷ []) []
    go true true f = refl
    go true false f = refl
    go false true f = no_truth (sym f)
    go false false f = refl

same_self : (m : Option Next) → same_link m m ≡ true
same_self None = refl
same_self (Some Tail) = refl
same_self (Some (To i)) = same_id-self i

no_link : (m n : Option Next) → n ≡ m → None ≡ link_changed m n
no_link m n e = subst (λ z. None ≡ link_changed m z) (sym e) (ap (λ b. cond b None (Some (m, m))) (sym (same_self m)))

-- no tags are made, and the link is the same
tags_of_none : (k : Key) (c d : Context) → has_tag (MapT k) d ≡ has_tag (MapT k) c → has_tag (ListT k) d ≡ has_tag (ListT k) c → has_tag (RegT k) d ≡ has_tag (RegT k) c
    → [] ≡ tag_made (MapT k) c d ++ tag_made (ListT k) c d ++ tag_made (RegT k) c d
tags_of_none k c d m l r = λ i. no_tag_made (MapT k) c d m i ++ no_tag_made (ListT k) c d l i ++ no_tag_made (RegT k) c d r i

pub lost_own : (k : Key) (c d : Context) (was now : List Id) (had has : Register) → OnlyLosesAt k c d
    → was ≡ ids_at k c → now ≡ ids_at k d → had ≡ or_no_entries (reg_at k c) → has ≡ or_no_entries (reg_at k d)
    → (gained lost : List Id) (made : List Tagged) (link : Option (Option Next × Option Next)) (shown : Option Bool) (taken written : Register)
    → gained ≡ [] → lost ≡ without was now → made ≡ [] → link ≡ None → shown ≡ shown_changed (has_ids was) (has_ids now) → taken ≡ pairs_without had has → written ≡ []
    → record { gained = gained; lost = lost; made = made; next = link; shown = shown; taken = taken; written = written } ≡ own_difference k c d
lost_own k c d was now had has h e f r s gained lost made link shown taken written g l m n p t w = λ i. record {
  gained = (g ∙ none_without (ids_at k d) (ids_at k c) h.ids) i;
  lost = (l ∙ (λ j. without (e j) (f j))) i;
  made = (m ∙ tags_of_none k c d h.maps h.lists h.registers) i;
  next = (n ∙ no_link (next k c) (next k d) h.links) i;
  shown = (p ∙ (λ j. shown_changed (has_ids (e j)) (has_ids (f j)))) i;
  taken = (t ∙ (λ j. pairs_without (r j) (s j)) ∙ pairs_seen (or_no_entries (reg_at k c)) k d) i;
  written = (w ∙ none_written k c d (λ j x. ap is_some (sym (h.values j x)) ∙ x)) i;
}

pub lost_keeps : (k : Key) (c d : Context) → OnlyLosesAt k c d → Keeps k c d
lost_keeps k c d h = record { maps = λ e. h.maps ∙ e; lists = λ e. h.lists ∙ e; registers = λ e. h.registers ∙ e; values = λ i e f. h.values i f }

-- ---- at a place of an operation

module _ (o : Op) (c d : Context) (x : IsChangedBy o c d) (P : List Tagged) (k : Key) where
  changes : Changes o.id x.0 o.cursor.path o.cursor.last o.mutation c d
  changes = changes_of (with_deps x.0 o) c d x.1

  tag_kept : (b p : Bool) → b ≡ true → (b || p) ≡ true
  tag_kept true p e = refl
  tag_kept false p e = no_truth e

  value_stays : (s b : Bool) (w v : Option Value) → (s ≡ true → v ≡ None) → is_some v ≡ true → is_some (or_else (cond s w None) (cond b None v)) ≡ true → or_else (cond s w None) (cond b None v) ≡ v
  value_stays true b w v f e g = let z : is_some v ≡ false = ap is_some (f refl) in no_truth (sym z ∙ e)
  value_stays false true w v f e g = no_truth g
  value_stays false false w v f e g = refl

  -- the tags stay, and so do values under their identifiers
  pub keeps_all : Keeps k (seen P c) (seen P d)
  keeps_all = record {
    maps = λ e. changes.tags P (MapT k) ∙ tag_kept _ _ e;
    lists = λ e. changes.tags P (ListT k) ∙ tag_kept _ _ e;
    registers = λ e. changes.tags P (RegT k) ∙ tag_kept _ _ e;
    values = λ i e f. changes.values P k i ∙ value_stays (same_id i o.id) _ _ (value_seen_at i k (seen P c)) (new_value (with_deps x.0 o) c d x.1 P k i) e (ap is_some (sym (changes.values P k i)) ∙ f);
  }

  one_gained : (s x cl y : Bool) → ((s || false) && not x) ≡ (((s && true) || (x && not (cl && y))) && not x)
  one_gained true x cl y = refl
  one_gained false true true true = refl
  one_gained false true true false = refl
  one_gained false true false y = refl
  one_gained false false cl y = refl

  none_gained : (s x cl y : Bool) → ((s && false) || (x && not (cl && y))) ≡ true → x ≡ true
  none_gained s true cl y e = refl
  none_gained true false cl y e = no_truth e
  none_gained false false cl y e = no_truth e

  none_lost : (s t x y : Bool) → x ≡ true → ((s && t) || (x && not (false && y))) ≡ true
  none_lost true true x y e = refl
  none_lost true false x y e = rw e refl
  none_lost false t x y e = rw e refl

  -- where nothing is touched, all were there before
  were_there : touches o P k ≡ false → (j : Id) → has_id j (ids_at k (seen P d)) ≡ true → has_id j (ids_at k (seen P c)) ≡ true
  were_there e j f =
      none_gained (same_id j o.id) (has_id j (ids_at k (seen P c))) (clears o P k) (has_id j x.0)
      (ap (λ b. (same_id j o.id && b) || (has_id j (ids_at k (seen P c)) && not (clears o P k && has_id j x.0))) (sym e) ∙ sym (changes.ids P k j) ∙ f)

  -- where nothing is cleared, all stay
  are_there : clears o P k ≡ false → (j : Id) → has_id j (ids_at k (seen P c)) ≡ true → has_id j (ids_at k (seen P d)) ≡ true
  are_there e j f =
      changes.ids P k j
      ∙ ap (λ b. (same_id j o.id && touches o P k) || (has_id j (ids_at k (seen P c)) && not (b && has_id j x.0))) e
      ∙ none_lost (same_id j o.id) (touches o P k) (has_id j (ids_at k (seen P c))) (has_id j x.0) f

  gained_is : (t : Bool) → t ≡ touches o P k → AreRising (ids_at k (seen P c)) → AreRising (ids_at k (seen P d)) → without (cond t (o.id ∷ []) []) (ids_at k (seen P c)) ≡ without (ids_at k (seen P d)) (ids_at k (seen P c))
  gained_is true e r q =
      same_members (without (o.id ∷ []) (ids_at k (seen P c))) (without (ids_at k (seen P d)) (ids_at k (seen P c)))
      (without-rises (o.id ∷ []) (ids_at k (seen P c)) (tt, tt))
      (without-rises (ids_at k (seen P d)) (ids_at k (seen P c)) q)
      (λ j.
      let is : has_id j (ids_at k (seen P d)) ≡ ((same_id j o.id && true) || (has_id j (ids_at k (seen P c)) && not (clears o P k && has_id j x.0))) =
      changes.ids P k j ∙ ap (λ b. (same_id j o.id && b) || (has_id j (ids_at k (seen P c)) && not (clears o P k && has_id j x.0))) (sym e) in
      has_id-without j (o.id ∷ []) (ids_at k (seen P c))
      ∙ one_gained (same_id j o.id) (has_id j (ids_at k (seen P c))) (clears o P k) (has_id j x.0)
      ∙ ap (λ b. b && not (has_id j (ids_at k (seen P c)))) (sym is)
      ∙ sym (has_id-without j (ids_at k (seen P d)) (ids_at k (seen P c))))
  gained_is false e r q = none_without (ids_at k (seen P d)) (ids_at k (seen P c)) (were_there (sym e))

  lost_is : (b : Bool) → (b ≡ false → clears o P k ≡ false) → without (cond b (ids_at k (seen P c)) []) (ids_at k (seen P d)) ≡ without (ids_at k (seen P c)) (ids_at k (seen P d))
  lost_is true h = refl
  lost_is false h = none_without (ids_at k (seen P c)) (ids_at k (seen P d)) (are_there (h refl))

  unwritten_value : (s cl i y : Bool) (w v : Option Value) → w ≡ None → cl ≡ false → or_else (cond s w None) (cond ((cl || (i && is_some w)) && y) None v) ≡ v
  unwritten_value true false true y None v e f = refl
  unwritten_value true false false y None v e f = refl
  unwritten_value false false true y None v e f = refl
  unwritten_value false false false y None v e f = refl
  unwritten_value s cl i y (Some z) v e f = cc
  unwritten_value s true i y w v e f = no_truth (sym f)

  values_same : (clears o P k ≡ false) × (written_by o P k ≡ None) → (i : Id) → value_seen_at i k (seen P d) ≡ value_seen_at i k (seen P c)
  values_same h i = changes.values P k i ∙ unwritten_value (same_id i o.id) (clears o P k) _ (has_id i x.0) (written_by o P k) (value_seen_at i k (seen P c)) h.1 h.0

  none_taken : (clears o P k ≡ false) × (written_by o P k ≡ None) → [] ≡ values_without (or_no_entries (reg_at k (seen P c))) k (seen P d)
  none_taken h = none_written k (seen P d) (seen P c) (λ i e. ap is_some (values_same h i) ∙ e)

  none_written_there : (clears o P k ≡ false) × (written_by o P k ≡ None) → [] ≡ values_without (or_no_entries (reg_at k (seen P d))) k (seen P c)
  none_written_there h = none_written k (seen P c) (seen P d) (λ i e. ap is_some (sym (values_same h i)) ∙ e)

  -- at the target all is looked at that the operation may have changed
  pub target_own : (gains cleared : Bool) (was now : Entries) (among : Candidates) (own : OwnEffects) → gains ≡ touches o P k → (cleared ≡ false → clears o P k ≡ false)
      → AreEntries k (seen P c) was → AreEntries k (seen P d) now
      → among.gained.now ≡ cond gains (o.id ∷ []) [] → among.lost.now ≡ cond cleared was.ids.now []
      → among.taken.now ≡ was.pairs.now → among.written.now ≡ now.pairs.now
      → AreFound was now among own → own_seen k own ≡ own_difference k (seen P c) (seen P d)
  target_own gains cleared was now among own m n e f g l t w a =
      own_is k (seen P c) (seen P d) was now among own e f
      (ap (λ y. without y (ids_at k (seen P c))) g ∙ gained_is gains m (subst AreRising e.ids e.rising) (subst AreRising f.ids f.rising))
      (ap (λ y. without y (ids_at k (seen P d))) (l ∙ ap (λ z. cond cleared z []) e.ids) ∙ lost_is cleared n)
      (ap (λ y. values_without y k (seen P d)) (t ∙ e.pairs))
      (ap (λ y. values_without y k (seen P c)) (w ∙ f.pairs))
      a

  untagged : (u : Tagged) → goes_through o P u ≡ false → has_tag u (seen P d) ≡ has_tag u (seen P c)
  untagged u e = changes.tags P u ∙ go (has_tag u (seen P c)) (goes_through o P u) e
    where
      go : (a b : Bool) → b ≡ false → (a || b) ≡ a
      go true b f = refl
      go false b f = f

  made_there : (u : Tagged) → goes_through o P u ≡ true → cond (has_tag u (seen P c)) [] (u ∷ []) ≡ tag_made u (seen P c) (seen P d)
  made_there u e = go (has_tag u (seen P c)) (has_tag u (seen P d)) (changes.tags P u ∙ ap (λ b. has_tag u (seen P c) || b) e)
    where
      go : (a b : Bool) → b ≡ (a || true) → cond a [] (u ∷ []) ≡ cond (b && not a) (u ∷ []) []
      go true true f = refl
      go true false f = no_truth f
      go false true f = refl
      go false false f = no_truth f

  some_ids_stay : (is js : List Id) → ((j : Id) → has_id j is ≡ true → has_id j js ≡ true) → has_ids is ≡ true → has_ids js ≡ true
  some_ids_stay [] js h e = no_truth e
  some_ids_stay (i ∷ is) js h e = go js (h i (ap (λ b. b || has_id i is) (same_id-self i)))
    where
      go : (js : List Id) → has_id i js ≡ true → has_ids js ≡ true
      go [] f = no_truth f
      go (j ∷ js) f = refl

  no_change : (a b : Bool) → b ≡ a → None ≡ shown_changed a b
  no_change true true e = refl
  no_change true false e = no_truth e
  no_change false true e = no_truth (sym e)
  no_change false false e = refl

  -- at the key before a new element, which is neither touched nor cleared nor made, the link alone is looked at
  pub link_own : touches o P k ≡ false → clears o P k ≡ false → written_by o P k ≡ None → ((u : Tagged) → same_key k (key_of_tagged u) ≡ true → goes_through o P u ≡ false)
      → (gained lost : List Id) (made : List Tagged) (link : Option (Option Next × Option Next)) (shown : Option Bool) (taken written : Register)
      → gained ≡ [] → lost ≡ [] → made ≡ [] → link ≡ link_changed (next k (seen P c)) (next k (seen P d)) → shown ≡ None → taken ≡ [] → written ≡ []
      → record { gained = gained; lost = lost; made = made; next = link; shown = shown; taken = taken; written = written } ≡ own_difference k (seen P c) (seen P d)
  link_own untouched uncleared unwritten unmade gained lost made link shown taken written g l m n p t w = λ i. record {
    gained = (g ∙ none_without (ids_at k (seen P d)) (ids_at k (seen P c)) (were_there untouched)) i;
    lost = (l ∙ none_without (ids_at k (seen P c)) (ids_at k (seen P d)) (are_there uncleared)) i;
    made = (m ∙ tags_of_none k (seen P c) (seen P d) (untagged (MapT k) (unmade (MapT k) (keys_self k))) (untagged (ListT k) (unmade (ListT k) (keys_self k))) (untagged (RegT k) (unmade (RegT k) (keys_self k)))) i;
    next = n i;
    shown = (p ∙ no_change (has_ids (ids_at k (seen P c))) (has_ids (ids_at k (seen P d))) (same_tests (has_ids (ids_at k (seen P d))) (has_ids (ids_at k (seen P c))) (some_ids_stay (ids_at k (seen P d)) (ids_at k (seen P c)) (were_there untouched)) (some_ids_stay (ids_at k (seen P c)) (ids_at k (seen P d)) (are_there uncleared)))) i;
    taken = (t ∙ none_taken (uncleared, unwritten)) i;
    written = (w ∙ none_written_there (uncleared, unwritten)) i;
  }

-- ---- at a key of the path

module _ (o : Op) (c d : Context) (x : IsChangedBy o c d) (P : List Tagged) (X : List Tagged) where
  -- the tag alone through which the path goes may be new
  made_on_path : (t : Tagged) → o.cursor.path ≡ P ++ t ∷ X
      → cond (has_tag t (seen P c)) [] (t ∷ []) ≡ tag_made (MapT (key_of_tagged t)) (seen P c) (seen P d) ++ tag_made (ListT (key_of_tagged t)) (seen P c) (seen P d) ++ tag_made (RegT (key_of_tagged t)) (seen P c) (seen P d)
  made_on_path (MapT k) e =
      let l = no_tag_made (ListT k) (seen P c) (seen P d) (untagged o c d x P k (ListT k) (passed_on_path o P (MapT k) X e (ListT k))) in
      let r = no_tag_made (RegT k) (seen P c) (seen P d) (untagged o c d x P k (RegT k) (passed_on_path o P (MapT k) X e (RegT k))) in
      sym (append-nil (cond (has_tag (MapT k) (seen P c)) [] (MapT k ∷ []))) ∙ sym (append-nil (cond (has_tag (MapT k) (seen P c)) [] (MapT k ∷ []) ++ [])) ∙ (λ i. made_there o c d x P k (MapT k) (passed_on_path o P (MapT k) X e (MapT k) ∙ keys_self k) i ++ l i ++ r i)
  made_on_path (ListT k) e =
      let m = no_tag_made (MapT k) (seen P c) (seen P d) (untagged o c d x P k (MapT k) (passed_on_path o P (ListT k) X e (MapT k))) in
      let r = no_tag_made (RegT k) (seen P c) (seen P d) (untagged o c d x P k (RegT k) (passed_on_path o P (ListT k) X e (RegT k))) in
      sym (append-nil (cond (has_tag (ListT k) (seen P c)) [] (ListT k ∷ []))) ∙ (λ i. m i ++ made_there o c d x P k (ListT k) (passed_on_path o P (ListT k) X e (ListT k) ∙ keys_self k) i ++ r i)
  made_on_path (RegT k) e =
      let m = no_tag_made (MapT k) (seen P c) (seen P d) (untagged o c d x P k (MapT k) (passed_on_path o P (RegT k) X e (MapT k))) in
      let l = no_tag_made (ListT k) (seen P c) (seen P d) (untagged o c d x P k (ListT k) (passed_on_path o P (RegT k) X e (ListT k))) in
      λ i. m i ++ l i ++ made_there o c d x P k (RegT k) (passed_on_path o P (RegT k) X e (RegT k) ∙ keys_self k) i

  -- what comes there is the operation's identifier
  pub path_own : (t : Tagged) (came was now : List Id) → o.cursor.path ≡ P ++ t ∷ X
      → came ≡ cond (not (is_delete o.mutation)) (o.id ∷ []) [] → was ≡ ids_at (key_of_tagged t) (seen P c) → now ≡ ids_at (key_of_tagged t) (seen P d) → AreRising was → AreRising now
      → (gained lost : List Id) (made : List Tagged) (link : Option (Option Next × Option Next)) (shown : Option Bool) (taken written : Register)
      → gained ≡ without came was → lost ≡ [] → made ≡ cond (has_tag t (seen P c)) [] (t ∷ []) → link ≡ None → shown ≡ shown_changed (has_ids was) (has_ids now) → taken ≡ [] → written ≡ []
      → record { gained = gained; lost = lost; made = made; next = link; shown = shown; taken = taken; written = written } ≡ own_difference (key_of_tagged t) (seen P c) (seen P d)
  path_own t came was now e came_is was_is now_is was_rises now_rises gained lost made link shown taken written g l m n p tk w =
      let k = key_of_tagged t in
      let off : (clears o P k ≡ false) × (written_by o P k ≡ None) = (uncleared_on_path o P t X e, unwritten_on_path o P t X e) in
      λ i. record {
        gained = (g ∙ (λ j. without (came_is j) (was_is j)) ∙ gained_is o c d x P k (not (is_delete o.mutation)) (sym (touched_on_path o P t X e)) (subst AreRising was_is was_rises) (subst AreRising now_is now_rises)) i;
        lost = (l ∙ none_without (ids_at k (seen P c)) (ids_at k (seen P d)) (are_there o c d x P k off.0)) i;
        made = (m ∙ made_on_path t e) i;
        next = (n ∙ no_link (next k (seen P c)) (next k (seen P d)) ((changes o c d x P k).elsewhere P k (off_on_path o P t X e))) i;
        shown = (p ∙ (λ j. shown_changed (has_ids (was_is j)) (has_ids (now_is j)))) i;
        taken = (tk ∙ none_taken o c d x P k off) i;
        written = (w ∙ none_written_there o c d x P k off) i;
      }
