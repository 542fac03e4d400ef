-- About Parts: the places that differ in a context in which nothing but losses can be (`OnlyLoses`).
use Rattle.std.proofs.Common.{◌≡◌, ◌==◌, option_to_list, zero, suc, ◌<◌, List, [], ◌∷◌, ◌++◌, append_assoc, length, Bool, true, false, cond, Option, Some, None, is_some, Contains, refl, sym, ◌∙◌, ap, subst, arith}
use Rattle.std.specs.List.{AllByRecursion}
use Rattle.std.specs.Borrow.{Bor}
use Rattle.std.proofs.lemmas.Bool.{eqb-true}
use Rattle.jc_rules.specs.declared.id.Id.{Id}
use Rattle.jc_rules.specs.declared.key.Key.{Key}
use Rattle.jc_rules.specs.declared.key.Tagged.{Tagged}
use Rattle.jc_rules.specs.declared.key.Tagged.TheVariants.{MapT, ListT, RegT}
use Rattle.jc_rules.specs.declared.value.Value.{Value}
use Rattle.jc_rules.specs.Order.{key_cmp, same_key}
use Rattle.jc_rules.specs.Entries.{IsRising, find, keys_of}
use Rattle.jc_rules.specs.Ids.{has_id}
use Rattle.jc_rules.specs.Context.{Context, node_of, values_of, presences, maps, lists, registers, links, keys, key_of_tagged}
use Rattle.jc_rules.specs.Table.{is_done}
use Rattle.jc_rules.proofs.BoolLemmas.{no_truth, same_tests}
use Rattle.jc_tree.specs.Tree.{all_keys, keys_lent}
use Rattle.jc_tree.proofs.WalksEntriesLemmas.{all-left, all-right}
use Rattle.jc_meaning.specs.Seen.{seen, ids_of_some, ids_at, reg_at, value_in_some, value_seen_at, has_tag}
use Rattle.jc_meaning.proofs.OrdersLemmas.{keys_eq, keys_self}
use Rattle.jc_meaning.proofs.ClearingEffectsLemmas.{ids_below_new, value_below_new}
use Rattle.jc_effects.specs.Difference.{Differences, no_difference, below, IsSameAt, IsSameFrom, IsDifference}
use Rattle.jc_effects.specs.Parts.{OnlyLosesAt, OnlyLoses, AreLater, IsDifferenceAmong}
use Rattle.jc_effects.proofs.PartsAmongLemmas.{same_more, all_among}
use Rattle.jc_effects.proofs.PartsReadLemmas.{IsNew}

-- where nothing was, nothing was lost
lost_nothing : (k : Key) (c d : Context) → OnlyLosesAt k c d → ((i : Id) → has_id i (ids_at k c) ≡ false) → ((i : Id) → value_seen_at i k c ≡ None) → IsSameAt k c d
lost_nothing k c d h none gone = record {
  maps = h.maps;
  lists = h.lists;
  registers = h.registers;
  ids = λ i. same_tests (has_id i (ids_at k d)) (has_id i (ids_at k c)) (h.ids i) (λ e. let z : false ≡ true = sym (none i) ∙ e in no_truth z);
  values = λ i. go i (value_seen_at i k d) refl;
  links = h.links;
}
  where
    go : (i : Id) (v : Option Value) → value_seen_at i k d ≡ v → value_seen_at i k d ≡ value_seen_at i k c
    go i None e = e ∙ sym (gone i)
    go i (Some v) e = h.values i (ap is_some e)

-- a new context loses nothing
pub none_new : (c d : Context) → OnlyLoses c d → ((P : List Tagged) → IsNew (seen P c)) → IsDifference c d no_difference
none_new c d h new = record {
  complete = record {
    rise = tt;
    others = λ k e P l f. lost_nothing l (seen P c) (seen P d) (h.losses P l) (λ i. ap (has_id i) ((new P).ids l)) (λ i. ap (value_in_some i) ((new P).register l));
  };
  exact = tt;
}

pub loses_below : (t : Tagged) (c d : Context) → OnlyLoses c d → OnlyLoses (below t c) (below t d)
loses_below t c d h = record { losses = λ P. h.losses (t ∷ P); kept = λ P. h.kept (t ∷ P) }

-- ---- keys under which nothing stands

contains_done : (ks : List Key) (k : Key) → Contains ks k → is_done ks k ≡ true
contains_done [] k (n, lt, e) = absurd (omega (arith, lt))
contains_done (j ∷ js) k (zero, lt, e) = let same : j ≡ k = e in subst (λ z. cond (same_key j z) true (is_done js z) ≡ true) same (ap (λ b. cond b true (is_done js j)) (keys_self j))
contains_done (j ∷ js) k (suc n, lt, e) = go (same_key j k) (contains_done js k (n, omega (arith, lt), e))
  where
    go : (b : Bool) → is_done js k ≡ true → cond b true (is_done js k) ≡ true
    go true f = refl
    go false f = f

not_found : {X : Type 0} (k : Key) (ks : List Key) (es : List (Key × X)) → AllByRecursion (Contains ks) (keys_of es) → is_done ks k ≡ false → find key_cmp k es ≡ None
not_found k ks [] a e = refl
not_found k ks (x ∷ xs) a e = go (same_key k x.0) refl (not_found k ks xs a.1 e)
  where
    go : (b : Bool) → same_key k x.0 ≡ b → find key_cmp k xs ≡ None → cond (same_key k x.0) (Some x.1) (find key_cmp k xs) ≡ None
    go true f ih =
        let same : k ≡ x.0 = keys_eq k x.0 f in
        let there : is_done ks k ≡ true = subst (λ z. is_done ks z ≡ true) (sym same) (contains_done ks x.0 a.0) in
        let z : false ≡ true = sym e ∙ there in
        no_truth z
    go false f ih = ap (λ b. cond b (Some x.1) (find key_cmp k xs)) f ∙ ih

module _ (k : Key) (ks : List Key) (c : Context) (all : AllByRecursion (Contains ks) (all_keys c)) (out : is_done ks k ≡ false) where
  tagged : AllByRecursion (Contains ks) (keys c)
  tagged = all-left (Contains ks) (keys c) (keys_of (presences c)) (all-left (Contains ks) (keys c ++ keys_of (presences c)) (keys_of (links c)) all)

  children : AllByRecursion (Contains ks) (keys_of (maps c) ++ keys_of (lists c))
  children = all-left (Contains ks) (keys_of (maps c) ++ keys_of (lists c)) (keys_of (registers c)) tagged

  no_ids : ids_at k c ≡ []
  no_ids = ap ids_of_some (not_found k ks (presences c) (all-right (Contains ks) (keys c) (keys_of (presences c)) (all-left (Contains ks) (keys c ++ keys_of (presences c)) (keys_of (links c)) all)) out)

  no_register : reg_at k c ≡ None
  no_register = not_found k ks (registers c) (all-right (Contains ks) (keys_of (maps c) ++ keys_of (lists c)) (keys_of (registers c)) tagged) out

  no_map : has_tag (MapT k) c ≡ false
  no_map = ap (λ o. is_some (node_of o)) (not_found k ks (maps c) (all-left (Contains ks) (keys_of (maps c)) (keys_of (lists c)) children) out)

  no_list : has_tag (ListT k) c ≡ false
  no_list = ap (λ o. is_some (node_of o)) (not_found k ks (lists c) (all-right (Contains ks) (keys_of (maps c)) (keys_of (lists c)) children) out)

  no_values : has_tag (RegT k) c ≡ false
  no_values = ap (λ o. is_some (values_of o)) no_register

  no_tag : (u : Tagged) → same_key k (key_of_tagged u) ≡ true → has_tag u c ≡ false
  no_tag (MapT j) e = subst (λ z. has_tag (MapT z) c ≡ false) (keys_eq k j e) no_map
  no_tag (ListT j) e = subst (λ z. has_tag (ListT z) c ≡ false) (keys_eq k j e) no_list
  no_tag (RegT j) e = subst (λ z. has_tag (RegT z) c ≡ false) (keys_eq k j e) no_values

  pub other_key : (d : Context) → OnlyLoses c d → IsSameFrom k c d
  other_key d h [] l e = subst (λ z. IsSameAt z c d) (keys_eq k l e) (lost_nothing k c d (h.losses [] k) (λ i. ap (has_id i) no_ids) (λ i. ap (value_in_some i) no_register))
  other_key d h (u ∷ P) l e = lost_nothing l (seen (u ∷ P) c) (seen (u ∷ P) d) (h.losses (u ∷ P) l) (λ i. ap (has_id i) (ids_below_new u P l c (no_tag u e))) (λ i. value_below_new u P l i c (no_tag u e))

-- ---- the loop over the keys, from the last one back

-- The places that differ among the keys that the loop has passed; these are left.
pub record PassedBack (all left : List Key) (c d : Context) (x : Differences) : Type 0 where
  pub passed : List Key
  pub is : all ≡ left ++ passed
  pub among : IsDifferenceAmong passed c d x

later_than : (front : List Key) (k : Key) (ks : List Key) → IsRising key_cmp (front ++ k ∷ ks) → AreLater k ks
later_than [] k ks h = h.0
later_than (j ∷ js) k ks h = later_than js k ks h.1

pub passed_one : (all left : List Key) (k : Key) (c d : Context) (x y : Differences) → IsRising key_cmp all → PassedBack all (left ++ k ∷ []) c d x
    → ((ks : List Key) → AreLater k ks → IsDifferenceAmong ks c d x → IsDifferenceAmong (k ∷ ks) c d y) → PassedBack all left c d y
passed_one all left k c d x y rise p step =
    let is : all ≡ left ++ k ∷ p.passed = p.is ∙ append_assoc left (k ∷ []) p.passed in
    record { passed = k ∷ p.passed; is = is; among = step p.passed (later_than left k p.passed (subst (IsRising key_cmp) is rise)) p.among }

-- where nothing was, nothing is lost
pub passed_empty : (all left : List Key) (k : Key) (c d : Context) (x : Differences) → IsRising key_cmp all → PassedBack all (left ++ k ∷ []) c d x → OnlyLoses c d → ids_at k c ≡ [] → PassedBack all left c d x
passed_empty all left k c d x rise p h none =
    passed_one all left k c d x x rise p (λ ks later among. same_more k ks c d x (h.kept [] k (λ i e. let z : false ≡ true = sym (ap (has_id i) none) ∙ e in no_truth z)) among)

pub no_items : {X : Type 0} (xs : List X) (b : Bool) → b ≡ (length xs == 0) → b ≡ true → xs ≡ []
no_items [] b e f = refl
no_items (x ∷ xs) b e f = let none : length (x ∷ xs) ≡ 0 = eqb-true (length (x ∷ xs)) 0 (sym e ∙ f) in absurd (omega (arith, none))

pub passed_all : (all : List Key) (c d : Context) (x : Differences) → AllByRecursion (Contains all) (all_keys c) → OnlyLoses c d → PassedBack all [] c d x → IsDifference c d x
passed_all all c d x keys h p = all_among all c d x (λ k e. other_key k all c keys e d h) (subst (λ ks. IsDifferenceAmong ks c d x) (sym p.is) p.among)

lent_last : {X : Type 0} (ls : List (Bor Key × X)) (l : Bor Key × X) → keys_lent (ls ++ l ∷ []) ≡ keys_lent ls ++ l.0.now ∷ []
lent_last [] l = refl
lent_last (x ∷ xs) l = ap (λ ks. x.0.now ∷ ks) (lent_last xs l)

-- the last one was taken
pub lent_popped : {X : Type 0} (old new : List (Bor Key × X)) (o : Option (Bor Key × X)) (l : Bor Key × X) → o ≡ Some l → old ≡ new ++ option_to_list o → keys_lent old ≡ keys_lent new ++ l.0.now ∷ []
lent_popped old new o l e f = ap keys_lent (f ∙ ap (λ x. new ++ option_to_list x) e) ∙ lent_last new l

-- nothing was left where nothing came
pub emptied : {X : Type 0} (old new : List X) (o : Option X) → o ≡ None → old ≡ new ++ option_to_list o → (0 < length old → is_some o ≡ true) → old ≡ []
emptied [] new o e f v = refl
emptied (x ∷ xs) new None e f v = no_truth (v (omega arith))
emptied (x ∷ xs) new (Some y) e f v = cc
