-- About ClearingEffects: what clearing takes away, the other cases of the rule induction.
use Rattle.std.proofs.Common.{◌≡◌, List, [], ◌∷◌, Bool, true, false, not, ◌||◌, ◌&&◌, cond, Option, Some, None, is_some, refl, sym, ◌∙◌, ap, subst}
use Rattle.jc_rules.specs.declared.id.Id.{Id}
use Rattle.jc_rules.specs.declared.key.Key.{Key}
use Rattle.jc_rules.specs.declared.key.Key.TheVariants as K
use Rattle.jc_rules.specs.declared.key.Tagged.{Tagged}
use Rattle.jc_rules.specs.declared.key.Tagged.TheVariants.{MapT, ListT, RegT}
use Rattle.jc_rules.specs.declared.value.Value.{Value}
use Rattle.jc_rules.specs.Order.{id_cmp, same_key}
use Rattle.jc_rules.specs.Entries.{find, keys_of}
use Rattle.jc_rules.specs.Ids.{has_id, union, without}
use Rattle.jc_rules.specs.Context.{Context, Register, Content, Node, Values, values_of, content, with_content, with_presence, next, key_of_tagged}
use Rattle.jc_rules.specs.ContextsAt.{first_key}
use Rattle.jc_rules.specs.declared.rule.Rule.{Rule}
use Rattle.jc_rules.specs.declared.rule.Rule.TheVariants as R
use Rattle.jc_rules.specs.Derivation.{Presence, Clear, ClearAny, ClearElem, ClearMap, ClearList, Answer, ToIds, Cleared, Judgement, gives}
use Rattle.jc_rules.specs.Table.{Follows, kept}
use Rattle.jc_rules.proofs.IdsLemmas.{has_id-union, has_id-without}
use Rattle.jc_rules.proofs.BoolLemmas.{or_false}
use Rattle.jc_meaning.specs.Seen.{context_or_new, seen, ids_of_some, ids_at, reg_at, value_seen_at, has_tag}
use Rattle.jc_meaning.proofs.ClearingEffectsLemmas.{and_true, takes_both, tidy_after, widen}
use Rattle.jc_meaning.proofs.TagsLemmas.{presence_seen, presence_tag, presence_value, presence_next, presence_ids, has_found, find_kept}
use Rattle.jc_meaning.proofs.InductionLemmas.{All}
use Rattle.jc_meaning.proofs.ClearingEffectsInductionLemmas.{below_key, in_tag, reg_tag, linked_from, everywhere, Bounds, OfElem, OfAny, OfClear, OfPresence, Motive, no_tag, none_takes, reg_takes, child_takes, in_union, was_there, down_tag}
use Rattle.jc_meaning.specs.Effects.{is_list_tag, list_at}
use Rattle.jc_meaning.specs.ClearingEffects.{TidyAt, Tidy, TakesAway, in_key}
use Rattle.jc_meaning.proofs.OrdersLemmas.{keys_eq, keys_back}

tidy_child : (b : Bool) (c d : Context) (t : Tagged) → Tidy b c → content t c ≡ Some (Node d) → Tidy (is_list_tag t) d
tidy_child b c d t h e P = subst (λ o. TidyAt (list_at (is_list_tag t) P) (seen P (context_or_new o t))) e (h (t ∷ P))

-- all presences of a child are in the presence of its key
child_bound : (b : Bool) (c d : Context) (t : Tagged) → Tidy b c → content t c ≡ Some (Node d) → Bounds (ids_at (key_of_tagged t) c) d
child_bound b c d t h e l i x =
    let here : TidyAt b c = h [] in
    here.under t l i (subst (λ o. has_id i (ids_at l (context_or_new o t)) ≡ true) (sym e) x)

abbrev reg_in : Option Content → Register → Option Register
reg_in (Some (Values r)) d = Some r
reg_in _ d = Some d

pub clear_case : (r : Rule) (c : Context) (deps : List Id) (t : Tagged) (a : Answer) (js : List Judgement) → Follows r (Clear c deps t) a js → All Motive js → OfClear c deps t a
clear_case R.ClearNone c deps t a js (e, p, q) hs =
    let all : OfClear c deps t (Cleared c []) = λ b h. (none_takes c deps t (no_tag (content t c) e), λ i x. cc) in
    subst (OfClear c deps t) (sym q) all
clear_case R.ClearReg c deps (RegT k) a js (r, e, p, q) hs =
    let there : reg_at k c ≡ Some r = reg_there (reg_at k c) e in
    let all : OfClear c deps (RegT k) (Cleared (with_content (RegT k) (Values (kept deps r)) c) (keys_of (kept deps r))) = λ b h. (
      reg_takes c deps k r there,
      λ i x.
          let here : TidyAt b c = h [] in
          let found : is_some (find id_cmp i (kept deps r)) ≡ true = sym (has_found i (kept deps r)) ∙ x in
          here.written k i (rw there (some_of (has_id i deps) (find id_cmp i r) (sym (ap is_some (find_kept i deps r)) ∙ found))),
    ) in
    subst (OfClear c deps (RegT k)) (sym q) all
  where
    reg_there : (o : Option Register) → values_of o ≡ Some (Values r) → o ≡ Some r
    reg_there None e = cc
    reg_there (Some s) e = ap (λ x. reg_in x s) e

    some_of : (x : Bool) (v : Option Value) → is_some (cond x None v) ≡ true → is_some v ≡ true
    some_of true v h = cc
    some_of false v h = h
clear_case R.ClearMap1 c deps (MapT k) a js (d, e, s, there, p, q) hs =
    let one : All Motive (gives (ClearMap d deps []) (Cleared e s) ∷ []) = subst (All Motive) p hs in
    let all : OfClear c deps (MapT k) (Cleared (with_content (MapT k) (Node e) c) s) = λ b h.
    let x = one.0 false (tidy_child b c d (MapT k) h there) in
    (child_takes (MapT k) c d e deps refl there x.0, x.1 (ids_at k c) (child_bound b c d (MapT k) h there)) in
    subst (OfClear c deps (MapT k)) (sym q) all
clear_case R.ClearList1 c deps (ListT k) a js (d, e, s, there, p, q) hs =
    let one : All Motive (gives (ClearList d deps (Some K.Head)) (Cleared e s) ∷ []) = subst (All Motive) p hs in
    let all : OfClear c deps (ListT k) (Cleared (with_content (ListT k) (Node e) c) s) = λ b h.
    let tidy : Tidy true d = tidy_child b c d (ListT k) h there in
    let here : TidyAt true d = tidy [] in
    let chain = here.linked refl in
    let x = one.0 true tidy chain.0 chain.1 in
    (child_takes (ListT k) c d e deps refl there (widen true d e deps (linked_from K.Head chain.0) (linked_from K.Head chain.0) everywhere here x.0 (λ P l g. (chain.2 (first_key P l) g, chain.2 (first_key P l) g))), x.1 (ids_at k c) (child_bound b c d (ListT k) h there)) in
    subst (OfClear c deps (ListT k)) (sym q) all
clear_case _ c deps t a js h hs = absurd h

abbrev pub or_in : (p q : List Tagged → Key → Bool) → List Tagged → Key → Bool
or_in p q P l = p P l || q P l

three_tags : (k : Key) (P : List Tagged) (l : Key) → (or_in (in_tag (MapT k)) (in_tag (ListT k)) P l || in_tag (RegT k) P l) ≡ below_key k P l
three_tags k [] l = refl
three_tags k (MapT j ∷ us) l = or_false (same_key k j || false) ∙ or_false (same_key k j)
three_tags k (ListT j ∷ us) l = or_false (same_key k j)
three_tags k (RegT j ∷ us) l = refl

three_regs : (k : Key) (P : List Tagged) (l : Key) → (or_in (reg_tag (MapT k)) (reg_tag (ListT k)) P l || reg_tag (RegT k) P l) ≡ in_key k P l
three_regs k [] l = refl
three_regs k (MapT j ∷ us) l = or_false (same_key k j || false) ∙ or_false (same_key k j)
three_regs k (ListT j ∷ us) l = or_false (same_key k j)
three_regs k (RegT j ∷ us) l = refl

pub any_case : (r : Rule) (c : Context) (deps : List Id) (k : Key) (a : Answer) (js : List Judgement) → Follows r (ClearAny c deps k) a js → All Motive js → OfAny c deps k a
any_case R.ClearAny c deps k a js (c1, s1, c2, s2, c3, s3, p, q) hs =
    let hs2 : All Motive (gives (Clear c deps (MapT k)) (Cleared c1 s1) ∷ gives (Clear c1 deps (ListT k)) (Cleared c2 s2) ∷ gives (Clear c2 deps (RegT k)) (Cleared c3 s3) ∷ []) = subst (All Motive) p hs in
    let all : OfAny c deps k (Cleared c3 (union s1 (union s2 s3))) = λ b t.
    let one = hs2.0 b t in
    let t1 : Tidy b c1 = tidy_after b c c1 deps (in_tag (MapT k)) (reg_tag (MapT k)) t one.0 (down_tag (MapT k)) in
    let two = hs2.1.0 b t1 in
    let t2 : Tidy b c2 = tidy_after b c1 c2 deps (in_tag (ListT k)) (reg_tag (ListT k)) t1 two.0 (down_tag (ListT k)) in
    let three = hs2.1.1.0 b t2 in
    let first : TakesAway c c2 deps (or_in (in_tag (MapT k)) (in_tag (ListT k))) (or_in (reg_tag (MapT k)) (reg_tag (ListT k))) =
    takes_both c c1 c2 deps (in_tag (MapT k)) (in_tag (ListT k)) (or_in (in_tag (MapT k)) (in_tag (ListT k))) (reg_tag (MapT k)) (reg_tag (ListT k)) (or_in (reg_tag (MapT k)) (reg_tag (ListT k))) one.0 two.0 (λ P l. refl) (λ P l. refl) in (
      takes_both c c2 c3 deps (or_in (in_tag (MapT k)) (in_tag (ListT k))) (in_tag (RegT k)) (below_key k) (or_in (reg_tag (MapT k)) (reg_tag (ListT k))) (reg_tag (RegT k)) (in_key k) first three.0 (three_tags k) (three_regs k),
      λ i. in_union i s1 (union s2 s3) (ids_at k c) (one.1 i) (in_union i s2 s3 (ids_at k c) (λ x. was_there c c1 deps (in_tag (MapT k)) (reg_tag (MapT k)) one.0 k i (two.1 i x)) (λ x. was_there c c2 deps (or_in (in_tag (MapT k)) (in_tag (ListT k))) (or_in (reg_tag (MapT k)) (reg_tag (ListT k))) first k i (three.1 i x))),
    )
    in subst (OfAny c deps k) (sym q) all
any_case _ c deps k a js h hs = absurd h

-- the key itself, after what is below it
elem_takes : (c d : Context) (deps s : List Id) (k : Key) → TakesAway c d deps (below_key k) (in_key k) → ((i : Id) → has_id i s ≡ (has_id i (ids_at k c) && not (has_id i deps))) → TakesAway c (with_presence k s d) deps (in_key k) (in_key k)
elem_takes c d deps s k h e = record { tags = tags; ids = ids; values = values; links = links }
  where
    tags : (P : List Tagged) (u : Tagged) → has_tag u (seen P (with_presence k s d)) ≡ has_tag u (seen P c)
    tags [] u = ap is_some (presence_tag k s u d) ∙ h.tags [] u
    tags (v ∷ P) u = ap (has_tag u) (presence_seen k s v P d) ∙ h.tags (v ∷ P) u

    ids : (P : List Tagged) (l : Key) (i : Id) → has_id i (ids_at l (seen P (with_presence k s d))) ≡ (has_id i (ids_at l (seen P c)) && not (in_key k P l && has_id i deps))
    ids [] l i = ap (has_id i) (presence_ids k s d l) ∙ rw (keys_back l k) (go (same_key k l) refl)
      where
        go : (b : Bool) → same_key k l ≡ b → has_id i (cond b s (ids_at l d)) ≡ (has_id i (ids_at l c) && not (b && has_id i deps))
        go true x = e i ∙ ap (λ q. has_id i (ids_at q c) && not (has_id i deps)) (keys_eq k l x)
        go false x = h.ids [] l i
    ids (u ∷ P) l i = ap (λ q. has_id i (ids_at l q)) (presence_seen k s u P d) ∙ h.ids (u ∷ P) l i

    values : (P : List Tagged) (l : Key) (i : Id) → value_seen_at i l (seen P (with_presence k s d)) ≡ cond (in_key k P l && has_id i deps) None (value_seen_at i l (seen P c))
    values [] l i = presence_value k s d l i ∙ h.values [] l i
    values (u ∷ P) l i = ap (value_seen_at i l) (presence_seen k s u P d) ∙ h.values (u ∷ P) l i

    links : (P : List Tagged) (l : Key) → next l (seen P (with_presence k s d)) ≡ next l (seen P c)
    links [] l = presence_next k s d l ∙ h.links [] l
    links (u ∷ P) l = ap (next l) (presence_seen k s u P d) ∙ h.links (u ∷ P) l

both_same : (x y z : Bool) → (x ≡ true → y ≡ true) → z ≡ y → (x || z) ≡ y
both_same true y z f e = sym (f refl)
both_same false y z f e = e

pub elem_case : (r : Rule) (c : Context) (deps : List Id) (k : Key) (a : Answer) (js : List Judgement) → Follows r (ClearElem c deps k) a js → All Motive js → OfElem c deps k a
elem_case R.ClearElem c deps k a js (d, s1, s2, p, q) hs =
    let hs2 : All Motive (gives (ClearAny c deps k) (Cleared d s1) ∷ gives (Presence d k) (ToIds s2) ∷ []) = subst (All Motive) p hs in
    let all : OfElem c deps k (Cleared (with_presence k (without (union s1 s2) deps) d) (without (union s1 s2) deps)) = λ b t.
    let one = hs2.0 b t in
    let there : (i : Id) → has_id i (without (union s1 s2) deps) ≡ (has_id i (ids_at k c) && not (has_id i deps)) = λ i.
    has_id-without i (union s1 s2) deps ∙ ap (λ x. x && not (has_id i deps)) (has_id-union i s1 s2 ∙ both_same (has_id i s1) (has_id i (ids_at k c)) (has_id i s2) (one.1 i) (ap (has_id i) hs2.1.0 ∙ one.0.ids [] k i ∙ sym (and_true (has_id i (ids_at k c))))) in
    (elem_takes c d deps (without (union s1 s2) deps) k one.0 there, there)
    in subst (OfElem c deps k) (sym q) all
elem_case _ c deps k a js h hs = absurd h

pub presence_case : (r : Rule) (c : Context) (k : Key) (a : Answer) (js : List Judgement) → Follows r (Presence c k) a js → OfPresence c k a
presence_case R.Presence1 c k a js (s, e, p, q) = subst (OfPresence c k) (sym q) (sym (ap ids_of_some e))
presence_case R.Presence2 c k a js (e, p, q) = subst (OfPresence c k) (sym q) (sym (ap ids_of_some e))
presence_case _ c k a js h = absurd h
