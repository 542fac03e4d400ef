-- Lemmas about clearing by the rules: it always has an answer. ProgressLemmas cites them.
use Rattle.std.proofs.Common.{◌≡◌, ℕ, zero, suc, ◌≤◌, ◌<◌, List, [], ◌∷◌, length, filter, not, ◌||◌, Option, Some, None, Bool, true, false, refl, sym, ◌∙◌, ap, subst, arith}
use Rattle.std.specs.declared.cmp.Ordering.{Ordering}
use Rattle.std.specs.declared.cmp.Ordering.TheVariants.{Less, Equal, Greater}
use Rattle.jc_rules.specs.declared.id.Id.{Id}
use Rattle.jc_rules.specs.declared.key.Key.{Key}
use Rattle.jc_rules.specs.declared.key.Key.TheVariants as K
use Rattle.jc_rules.specs.declared.key.Next.TheVariants.{Tail, Elem as To}
use Rattle.jc_rules.specs.declared.key.Tagged.{Tagged}
use Rattle.jc_rules.specs.declared.key.Tagged.TheVariants.{MapT, ListT, RegT}
use Rattle.jc_rules.specs.declared.rule.Rule.{Rule}
use Rattle.jc_rules.specs.declared.rule.Rule.TheVariants as R
use Rattle.jc_rules.specs.Order.{key_cmp, same_key}
use Rattle.jc_rules.specs.Entries.{find}
use Rattle.jc_rules.specs.Context.{Context, Content, Node, Values, Register, node_of, values_of, content, presence, links, keys, maps, lists, registers}
use Rattle.jc_rules.specs.WellFormed.{LeadsThrough}
use Rattle.jc_rules.specs.Derivation.{Question, Presence, Clear, ClearAny, ClearElem, ClearMap, ClearList, Answer, ToIds, Cleared, Judgement, gives, derive, Premises, none, premise, conclusions}
use Rattle.jc_rules.specs.Table.{Follows, AllHold, is_done, least, lesser, least_left, kept}
use Rattle.jc_rules.specs.Refused.{IsAnswered}
use Rattle.jc_rules.proofs.OrderLemmas.{keys_total, exact_keys}
use Rattle.jc_rules.proofs.EntriesLemmas.{same-self}
use Rattle.jc_tree.specs.Nested.{nested}
use Rattle.jc_tree.specs.ChainedBelow.{AreChainedBelow}
use Rattle.jc_clear.specs.Bare.{bare}
use Rattle.jc_tree.proofs.ChainedBelowLemmas.{list_below, child_below}
use Rattle.jc_clear.proofs.BareLemmas.{links-same, keys-same, nested-same, below-same, nested_below, bare-with, bare-register, bare-presence}
use Rattle.jc_tree.proofs.ChainedLeadsLemmas.{leads_head}
use Rattle.jc_rules.proofs.ContextLemmas.{no_node}
use Rattle.jc_rules.proofs.BoolLemmas.{or_right}

-- premises with their answers
abbrev pub AllAnswered : List Judgement → Type 0
AllAnswered [] = Unit {0}
AllAnswered (gives q a ∷ js) = IsAnswered q a × AllAnswered js

record Built (js : List Judgement) : Type 0 where
  premises : Premises
  hold : AllHold premises
  are : conclusions premises ≡ js

built : (js : List Judgement) → AllAnswered js → Built js
built [] h = record { premises = none; hold = tt; are = refl }
built (gives q a ∷ js) h =
    let rest = built js h.1 in
    let d = h.0 in
    record { premises = premise d.derivation rest.premises; hold = (d.holds, rest.hold); are = rw (d.concludes, rest.are) refl }

-- an answer by a rule
pub by_rule : (r : Rule) (q : Question) (a : Answer) (js : List Judgement) → Follows r q a js → AllAnswered js → IsAnswered q a
by_rule r q a js f h =
    let b = built js h in
    record { derivation = derive r (gives q a) b.premises; holds = (subst (Follows r q a) (sym b.are) f, b.hold); concludes = refl }

pub record Clears (q : Question) (c : Context) : Type 0 where
  pub now : Context
  pub ids : List Id
  pub answered : IsAnswered q (Cleared now ids)
  pub same : bare now ≡ bare c

abbrev pub ClearsAll : ℕ → Type 0
ClearsAll n = (c : Context) (deps : List Id) (t : Tagged) → nested c ≤ n → AreChainedBelow c → Clears (Clear c deps t) c

abbrev pub ClearsElems : ℕ → Type 0
ClearsElems n = (c : Context) (deps : List Id) (k : Key) → nested c ≤ n → AreChainedBelow c → Clears (ClearElem c deps k) c

pub presence_answered : (c : Context) (k : Key) → (s : List Id) × IsAnswered (Presence c k) (ToIds s)
presence_answered c k = go (presence k c) refl
  where
    go : (o : Option (List Id)) → presence k c ≡ o → (s : List Id) × IsAnswered (Presence c k) (ToIds s)
    go None e = ([], by_rule R.Presence2 (Presence c k) (ToIds []) [] (e, refl, refl) tt)
    go (Some s) e = (s, by_rule R.Presence1 (Presence c k) (ToIds s) [] (s, e, refl, refl) tt)

module _ (n : ℕ) (all : ClearsAll n) where
  clears_any : (c : Context) (deps : List Id) (k : Key) → nested c ≤ n → AreChainedBelow c → Clears (ClearAny c deps k) c
  clears_any c deps k l h =
      let one = all c deps (MapT k) l h in
      let two = all one.now deps (ListT k) (rw (nested-same one.now c one.same) l) (below-same c one.now (sym one.same) h) in
      let both = two.same ∙ one.same in
      let three = all two.now deps (RegT k) (rw (nested-same two.now c both) l) (below-same c two.now (sym both) h) in
      record {
        now = three.now;
        ids = _;
        answered = by_rule R.ClearAny (ClearAny c deps k) _ _ (one.now, one.ids, two.now, two.ids, three.now, three.ids, refl, refl) (one.answered, (two.answered, (three.answered, tt)));
        same = three.same ∙ both;
      }

  pub clears_elem : ClearsElems n
  clears_elem c deps k l h =
      let any = clears_any c deps k l h in
      let s = presence_answered any.now k in
      record {
        now = _;
        ids = _;
        answered = by_rule R.ClearElem (ClearElem c deps k) _ _ (any.now, any.ids, s.0, refl, refl) (any.answered, (s.1, tt));
        same = bare-presence k _ any.now ∙ any.same;
      }

-- ---- the keys of a map

abbrev has_key : Key → List Key → Bool
has_key k [] = false
has_key k (j ∷ js) = same_key k j || has_key k js

least_has : (ks : List Key) (k : Key) → least ks ≡ Some k → has_key k ks ≡ true
least_has [] k e = cc
least_has (j ∷ js) k e = go (least js) refl e (least_has js)
  where
    first : j ≡ k → has_key k (j ∷ js) ≡ true
    first s = rw (← s, same-self keys_total exact_keys j) refl

    go : (o : Option Key) → least js ≡ o → lesser j o ≡ Some k → ((i : Key) → least js ≡ Some i → has_key i js ≡ true) → has_key k (j ∷ js) ≡ true
    go None f g ih = first (let s : j ≡ k = cc in s)
    go (Some i) f g ih = by_order (key_cmp j i) refl g
      where
        by_order : (r : Ordering) → key_cmp j i ≡ r → lesser j (Some i) ≡ Some k → has_key k (j ∷ js) ≡ true
        by_order Less x y = first (let z : Some j ≡ Some k = rw x at y in let s : j ≡ k = cc in s)
        by_order Equal x y = first (let z : Some j ≡ Some k = rw x at y in let s : j ≡ k = cc in s)
        by_order Greater x y = let z : Some i ≡ Some k = rw x at y in let s : i ≡ k = cc in or_right (same_key k j) (has_key k js) (subst (λ m. has_key m js ≡ true) s (ih i f))

abbrev left_of : List Key → List Key → List Key
left_of done ks = filter (λ j. not (is_done done j)) ks

-- one key more that is done
fewer : (k : Key) (done ks : List Key) → length (left_of (k ∷ done) ks) ≤ length (left_of done ks)
fewer k done [] = omega arith
fewer k done (j ∷ js) = go (same_key k j) refl (is_done done j) refl (fewer k done js)
  where
    go : (a : Bool) → same_key k j ≡ a → (b : Bool) → is_done done j ≡ b → length (left_of (k ∷ done) js) ≤ length (left_of done js) → length (left_of (k ∷ done) (j ∷ js)) ≤ length (left_of done (j ∷ js))
    go true e true f ih = rw (e, f) ih
    go true e false f ih = rw (e, f) (omega (arith, ih))
    go false e true f ih = rw (e, f) ih
    go false e false f ih = rw (e, f) (omega (arith, ih))

fewer_one : (k : Key) (done ks : List Key) → has_key k (left_of done ks) ≡ true → length (left_of (k ∷ done) ks) < length (left_of done ks)
fewer_one k done [] h = cc
fewer_one k done (j ∷ js) h = go (same_key k j) refl (is_done done j) refl (fewer k done js) (fewer_one k done js) h
  where
    go : (a : Bool) → same_key k j ≡ a → (b : Bool) → is_done done j ≡ b → length (left_of (k ∷ done) js) ≤ length (left_of done js) → (has_key k (left_of done js) ≡ true → length (left_of (k ∷ done) js) < length (left_of done js)) → has_key k (left_of done (j ∷ js)) ≡ true → length (left_of (k ∷ done) (j ∷ js)) < length (left_of done (j ∷ js))
    go true e true f l ih g = rw (e, f) (ih (rw f at g))
    go true e false f l ih g = rw (e, f) (omega (arith, l))
    go false e true f l ih g = rw (e, f) (ih (rw f at g))
    go false e false f l ih g = let r = ih (rw (f, e) at g) in rw (e, f) (omega (arith, r))

leads_same : (d e : Context) (is : List Id) (k : Key) → links d ≡ links e → LeadsThrough d k is → LeadsThrough e k is
leads_same d e [] k s h = ap (find key_cmp k) (sym s) ∙ h
leads_same d e (i ∷ is) k s h = (ap (find key_cmp k) (sym s) ∙ h.0, leads_same d e is (K.Elem i) s h.1)

module _ (n : ℕ) (elem : ClearsElems n) where
  map_ends : (c : Context) (deps : List Id) (done : List Key) → least_left done c ≡ None → Clears (ClearMap c deps done) c
  map_ends c deps done e = record { now = c; ids = []; answered = by_rule R.ClearMap3 (ClearMap c deps done) (Cleared c []) [] (e, refl, refl) tt; same = refl }

  clears_map : (m : ℕ) (c : Context) (deps : List Id) (done : List Key) → length (left_of done (keys c)) ≤ m → nested c ≤ n → AreChainedBelow c → Clears (ClearMap c deps done) c
  clears_map zero c deps done few l h = go (least_left done c) refl
    where
      go : (o : Option Key) → least_left done c ≡ o → Clears (ClearMap c deps done) c
      go None e = map_ends c deps done e
      go (Some k) e = let x = fewer_one k done (keys c) (least_has (left_of done (keys c)) k e) in absurd (omega (arith, x, few))
  clears_map (suc m) c deps done few l h = go (least_left done c) refl (λ k. clears_map m)
    where
      go : (o : Option Key) → least_left done c ≡ o → ((k : Key) (d : Context) (deps : List Id) (done : List Key) → length (left_of done (keys d)) ≤ m → nested d ≤ n → AreChainedBelow d → Clears (ClearMap d deps done) d) → Clears (ClearMap c deps done) c
      go None e ih = map_ends c deps done e
      go (Some k) e ih =
          let x = fewer_one k done (keys c) (least_has (left_of done (keys c)) k e) in
          let one = elem c deps k l h in
          let same_keys : keys one.now ≡ keys c = keys-same one.now c one.same in
          let less : length (left_of (k ∷ done) (keys one.now)) ≤ m = rw same_keys (omega (arith, x, few)) in
          let rest = ih k one.now deps (k ∷ done) less (rw (nested-same one.now c one.same) l) (below-same c one.now (sym one.same) h) in
          record {
            now = rest.now;
            ids = _;
            answered = by_rule R.ClearMap2 (ClearMap c deps done) _ _ (k, one.now, one.ids, rest.now, rest.ids, e, refl, refl) (one.answered, (rest.answered, tt));
            same = rest.same ∙ one.same;
          }

  -- along the elements of a list
  clears_list : (is : List Id) (k : Key) (c : Context) (deps : List Id) → LeadsThrough c k is → nested c ≤ n → AreChainedBelow c → Clears (ClearList c deps (Some k)) c
  clears_list [] k c deps leads l h =
      let one = elem c deps k l h in
      record {
        now = one.now;
        ids = _;
        answered = by_rule R.ClearList2 (ClearList c deps (Some k)) _ _ (Tail, one.now, one.ids, one.now, [], leads, refl, refl) (one.answered, (by_rule R.ClearList3 (ClearList one.now deps None) (Cleared one.now []) [] (refl, refl) tt, tt));
        same = one.same;
      }
  clears_list (i ∷ is) k c deps leads l h =
      let one = elem c deps k l h in
      let rest = clears_list is (K.Elem i) one.now deps (leads_same c one.now is (K.Elem i) (links-same c one.now (sym one.same)) leads.1) (rw (nested-same one.now c one.same) l) (below-same c one.now (sym one.same) h) in
      record {
        now = rest.now;
        ids = _;
        answered = by_rule R.ClearList2 (ClearList c deps (Some k)) _ _ (To i, one.now, one.ids, rest.now, rest.ids, leads.0, refl, refl) (one.answered, (rest.answered, tt));
        same = rest.same ∙ one.same;
      }

-- ---- all of it

cleared_none : (c : Context) (deps : List Id) (t : Tagged) → content t c ≡ None → Clears (Clear c deps t) c
cleared_none c deps t e = record { now = c; ids = []; answered = by_rule R.ClearNone (Clear c deps t) (Cleared c []) [] (e, refl, refl) tt; same = refl }

found_register : (o : Option Register) (r : Register) → values_of o ≡ Some (Values r) → o ≡ Some r
found_register None r e = cc
found_register (Some v) r e = cc

no_values : {A : Type 0} (o : Option Context) (r : Register) → node_of o ≡ Some (Values r) → A
no_values None r e = cc
no_values (Some d) r e = cc

clears_register : (c : Context) (deps : List Id) (k : Key) (o : Option Content) → content (RegT k) c ≡ o → Clears (Clear c deps (RegT k)) c
clears_register c deps k None e = cleared_none c deps (RegT k) e
clears_register c deps k (Some (Node d)) e = no_node (find key_cmp k (registers c)) d e
clears_register c deps k (Some (Values r)) e =
    record {
      now = _;
      ids = _;
      answered = by_rule R.ClearReg (Clear c deps (RegT k)) _ [] (r, e, refl, refl) tt;
      same = bare-register k (kept deps r) r c (found_register _ r e);
    }

clears_in_map : (n : ℕ) (c : Context) (deps : List Id) (k : Key) → ((d : Context) → content (MapT k) c ≡ Some (Node d) → Clears (ClearMap d deps []) d) → (o : Option Content) → content (MapT k) c ≡ o → Clears (Clear c deps (MapT k)) c
clears_in_map n c deps k f None e = cleared_none c deps (MapT k) e
clears_in_map n c deps k f (Some (Values r)) e = no_values (find key_cmp k (maps c)) r e
clears_in_map n c deps k f (Some (Node d)) e =
    let one = f d e in
    record {
      now = _;
      ids = _;
      answered = by_rule R.ClearMap1 (Clear c deps (MapT k)) _ _ (d, one.now, one.ids, e, refl, refl) (one.answered, tt);
      same = bare-with (MapT k) c d one.now e one.same;
    }

clears_in_list : (n : ℕ) (c : Context) (deps : List Id) (k : Key) → ((d : Context) → content (ListT k) c ≡ Some (Node d) → Clears (ClearList d deps (Some K.Head)) d) → (o : Option Content) → content (ListT k) c ≡ o → Clears (Clear c deps (ListT k)) c
clears_in_list n c deps k f None e = cleared_none c deps (ListT k) e
clears_in_list n c deps k f (Some (Values r)) e = no_values (find key_cmp k (lists c)) r e
clears_in_list n c deps k f (Some (Node d)) e =
    let one = f d e in
    record {
      now = _;
      ids = _;
      answered = by_rule R.ClearList1 (Clear c deps (ListT k)) _ _ (d, one.now, one.ids, e, refl, refl) (one.answered, tt);
      same = bare-with (ListT k) c d one.now e one.same;
    }

clears_all : (n : ℕ) → ClearsAll n
clears_all n c deps (RegT k) l h = clears_register c deps k (content (RegT k) c) refl
clears_all zero c deps (MapT k) l h = clears_in_map zero c deps k (λ d e. let x = nested_below (MapT k) c d e in absurd (omega (arith, x, l))) (content (MapT k) c) refl
clears_all zero c deps (ListT k) l h = clears_in_list zero c deps k (λ d e. let x = nested_below (ListT k) c d e in absurd (omega (arith, x, l))) (content (ListT k) c) refl
clears_all (suc n) c deps (MapT k) l h =
    clears_in_map n c deps k
    (λ d e. let x = nested_below (MapT k) c d e in clears_map n (clears_elem n (clears_all n)) (length (left_of [] (keys d))) d deps [] (omega arith) (omega (arith, x, l)) (child_below (MapT k) c d e h))
    (content (MapT k) c) refl
clears_all (suc n) c deps (ListT k) l h =
    clears_in_list n c deps k
    (λ d e. let x = nested_below (ListT k) c d e in let chain = leads_head d (list_below k c d e h) in clears_list n (clears_elem n (clears_all n)) chain.0 K.Head d deps chain.1.leads (omega (arith, x, l)) (child_below (ListT k) c d e h))
    (content (ListT k) c) refl

pub cleared : (c : Context) (deps : List Id) (t : Tagged) → AreChainedBelow c → Clears (Clear c deps t) c
cleared c deps t h = clears_all (nested c) c deps t (omega arith) h

pub cleared_elem : (c : Context) (deps : List Id) (k : Key) → AreChainedBelow c → Clears (ClearElem c deps k) c
cleared_elem c deps k h = clears_elem (nested c) (clears_all (nested c)) c deps k (omega arith) h
