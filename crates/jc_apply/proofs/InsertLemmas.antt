-- About AppliesAlong: going past elements with greater identifiers, and linking a new one.
use Rattle.std.proofs.Common.{◌≡◌, ◌≢◌, ◌<◌, ◌≤◌, ◌/◌, ℕ, zero, suc, List, [], ◌∷◌, length, Some, None, refl, sym, ◌∙◌, ap, subst, arith}
use Rattle.std.specs.declared.cmp.Ordering.{Ordering}
use Rattle.std.specs.declared.cmp.Ordering.TheVariants.{Less, Equal, Greater}
use Rattle.jc_rules.specs.declared.id.Id.{Id}
use Rattle.jc_rules.specs.declared.key.Key.{Key}
use Rattle.jc_rules.specs.declared.key.Key.TheVariants.{Elem}
use Rattle.jc_rules.specs.declared.key.Next.{Next}
use Rattle.jc_rules.specs.declared.key.Next.TheVariants.{Tail, Elem as To}
use Rattle.jc_rules.specs.declared.key.Tagged.{Tagged}
use Rattle.jc_rules.specs.declared.operation.Mutation.TheVariants.{Assign, Insert}
use Rattle.jc_rules.specs.declared.operation.Op.{Op}
use Rattle.jc_rules.specs.declared.rule.Rule.TheVariants as R
use Rattle.jc_rules.specs.declared.value.Value.{Value}
use Rattle.jc_rules.specs.Order.{id_cmp}
use Rattle.jc_rules.specs.Entries.{find}
use Rattle.jc_rules.specs.Order.{key_cmp}
use Rattle.jc_rules.specs.Context.{Context, links, next, with_next}
use Rattle.jc_rules.specs.ContextsAt.{with_node_at}
use Rattle.jc_rules.specs.Derivation.{Operate, ToContext}
use Rattle.jc_rules.specs.Derives.{Derives}
use Rattle.jc_rules.specs.WellFormed.{IsChained, IsChainedList}
use Rattle.jc_rules.specs.Trace.{Rows, IsLonger, pushed, one_deeper, at_depth}
use Rattle.jc_rules.specs.Runs.{deeper, opened}
use Rattle.jc_rules.proofs.RunsLemmas.{opened_rows}
use Rattle.jc_rules.specs.Table.{moved, IsBefore}
use Rattle.jc_rules.proofs.OrderLemmas.{exact_ids, ids_total}
use Rattle.jc_rules.proofs.DerivesLemmas.{one_premise, same_rows, longer_still}
use Rattle.jc_tree.specs.Tree.{Tree, HasPlace, here, IsChanged}
use Rattle.jc_tree.proofs.ChainedLemmas.{chained_linked}
use Rattle.jc_tree.proofs.ChainedLeadsLemmas.{Leads as LeadsOn, leads_from, leads_next, leads_on, steps}
use Rattle.jc_tree.proofs.PlacesLemmas.{then_here, then_place, then_now}
use Rattle.std.proofs.lemmas.Option.{same_Some}
use Rattle.jc_tree.specs.Blocks.{IsAtMost}
use Rattle.jc_tree.specs.Stretches.{LeadsOver}
use Rattle.jc_apply.specs.Passing.{LeadsOverGreater, PassesOn}
use Rattle.jc_apply.specs.Fits.{IsUnlinked}
use Rattle.jc_apply.specs.AppliesAlong.{LeadsTo, LinksNone, LinksOnly, Passes}
use Rattle.jc_apply.proofs.UnlinkedLemmas.{unlinked_here, unlinked_now, unlinked-linked, no_next}

-- what the loop keeps: its place is on the chain, and what is derived there is derived for the operation
pub record Passing (o : Op) (c : Context) (k : Key) (n : Next) (t u : Rows) : Type 0 where
  pub follows : next k c ≡ Some n
  pub chain : LeadsOn c (Some k)
  pub deeper : t.depth ≤ u.depth
  pub longer : IsLonger t u
  pub rest : (d : Context) (v : Rows) → Derives (Operate c (moved o [] k o.mutation)) (ToContext d) u v → Derives (Operate c (moved o [] o.cursor.last o.mutation)) (ToContext d) t (at_depth t.depth v)

pub first_pass : (o : Op) (c : Context) (k : Key) (n : Next) (t : Rows) → IsChainedList c → k ≡ o.cursor.last → next k c ≡ Some n → Passing o c k n t t
first_pass o c k n t h e f =
    record {
      follows = f;
      chain = leads_from c k n h f;
      deeper = omega arith;
      longer = same_rows t;
      rest = λ d v x.
          let y = subst (λ (j : Key). Derives (Operate c (moved o [] j o.mutation)) (ToContext d) t v) e x in
          record { derivation = y.derivation; holds = y.holds; concludes = y.concludes; rows = y.rows; depth = refl };
    }

-- one element further
pub next_pass : (o : Op) (v : Value) (c : Context) (k j : Key) (n x : Next) (i : Id) (t u p : Rows) → o.mutation ≡ Insert v → Passing o c k n t u → n ≡ To i → id_cmp o.id i ≡ Less → j ≡ Elem i → next j c ≡ Some x → p ≡ one_deeper (pushed u R.Insert2) → Passing o c j x t p × (steps (Some j) (length (links c)) c < steps (Some k) (length (links c)) c)
next_pass o v c k j n x i t u p is w ne less je f pe =
    let goes : next k c ≡ Some (To i) = w.follows ∙ ap (λ (y : Next). Some y) ne in
    let on = leads_on c k (To i) w.chain goes in
    rw (je, pe) (
      record {
        follows = rw je at f;
        chain = on.0;
        deeper = omega (arith, w.deeper);
        longer = longer_still t u (one_deeper (pushed u R.Insert2)) w.longer (record { added = (R.Insert2, u.depth) ∷ []; is = refl });
        rest = λ d z y. w.rest d (at_depth u.depth z) (one_premise R.Insert2 _ _ _ _ u z y (v, i, d, refl, is, goes, less, refl, refl));
      },
      on.1,
    )

-- past as many as are greater

chain_over : (count : ℕ) (c : Context) (i : Id) (k j : Key) → LeadsOn c (Some k) → LeadsOverGreater c i k count j → LeadsOn c (Some j)
chain_over zero c i k j w h = subst (λ (y : Key). LeadsOn c (Some y)) h w
chain_over (suc n) c i k j w h = chain_over n c i (Elem h.0) j (leads_on c k (To h.0) w h.1).0 h.3

-- the last one is linked
pub linked_over : (o : Op) (c : Context) (k j : Key) (n : Next) (t u v : Rows) → Passing o c k n t u → PassesOn c o.id k j u v → next j c ≢ None
linked_over o c k j n t u v w p = leads_next c j (chain_over p.count c o.id k j w.chain p.leads)

past_all : (count : ℕ) (o : Op) (v : Value) (c : Context) (k j : Key) (n x : Next) (t u : Rows) → 0 < count → o.mutation ≡ Insert v → Passing o c k n t u → LeadsOverGreater c o.id k count j → next j c ≡ Some x → Passing o c j x t (opened count R.Insert2 u) × (steps (Some j) (length (links c)) c < steps (Some k) (length (links c)) c)
past_all zero o v c k j n x t u some is w h f = absurd (omega (arith, some))
past_all (suc zero) o v c k j n x t u some is w h f = next_pass o v c k j n x h.0 t u (one_deeper (pushed u R.Insert2)) is w (same_Some n (To h.0) (sym w.follows ∙ h.1)) h.2 (sym h.3) f refl
past_all (suc (suc m)) o v c k j n x t u some is w h f =
    let on = next_pass o v c k (Elem h.0) n (To h.3.0) h.0 t u (one_deeper (pushed u R.Insert2)) is w (same_Some n (To h.0) (sym w.follows ∙ h.1)) h.2 refl h.3.1 refl in
    let last = past_all (suc m) o v c (Elem h.0) j (To h.3.0) x t (one_deeper (pushed u R.Insert2)) (omega arith) is on.0 h.3 f in
    (last.0, omega (arith, on.1, last.1))

pub passed_on : (o : Op) (v : Value) (c : Context) (k j : Key) (n x : Next) (t u z : Rows) → o.mutation ≡ Insert v → Passing o c k n t u → PassesOn c o.id k j u z → next j c ≡ Some x → Passing o c j x t z × (steps (Some j) (length (links c)) c < steps (Some k) (length (links c)) c)
passed_on o v c k j n x t u z is w p f =
    let on = past_all p.count o v c k j n x t u p.some is w p.leads f in
    (subst (λ (y : Rows). Passing o c j x t y) (sym p.rows) on.0, on.1)

-- what is told of elements whose identifiers are not less than a greater one
below_at_most : (i l e : Id) → id_cmp i l ≡ Less → IsAtMost l e → id_cmp i e ≡ Less
below_at_most i l e h a = go (id_cmp l e) refl
  where
    go : (r : Ordering) → id_cmp l e ≡ r → id_cmp i e ≡ Less
    go Less p = ids_total.trans i l e h p
    go Equal p = ap (id_cmp i) (sym (exact_ids l e p)) ∙ h
    go Greater p = absurd (a p)

pub greater_over : (count : ℕ) (c : Context) (i : Id) (k j : Key) (bits : ℕ) (least : Id) → id_cmp i least ≡ Less → LeadsOver c k count bits least j → LeadsOverGreater c i k count j
greater_over zero c i k j bits least less h = h
greater_over (suc n) c i k j bits least less h = (h.0, h.1, below_at_most i least h.0 less h.3, greater_over n c i (Elem h.0) j (bits / 2) least less h.4)

-- past one
pub passes_one : (c : Context) (i : Id) (k j : Key) (d : Id) (t u : Rows) → next k c ≡ Some (To d) → id_cmp i d ≡ Less → j ≡ Elem d → u ≡ one_deeper (pushed t R.Insert2) → PassesOn c i k j t u
passes_one c i k j d t u e less je ue = record {
  count = 1;
  some = omega arith;
  leads = (d, e, less, sym je);
  rows = ue;
}

-- the trace grows
pub longer_over : (n : ℕ) (t u : Rows) → u ≡ opened n R.Insert2 t → IsLonger t u
longer_over n t u e = rw e (record { added = deeper R.Insert2 t.depth n; is = opened_rows n R.Insert2 t })

-- the place of a key that is linked is before what isn't
is_before : (c : Context) (k : Key) (n : Next) (i : Id) → LeadsOn c (Some k) → next k c ≡ Some n → next (Elem i) c ≡ None → ((j : Id) → n ≡ To j → id_cmp i j ≢ Less) → IsBefore n i
is_before c k Tail i w e f g = tt
is_before c k (To j) i w e f g = go (id_cmp i j) refl
  where
    go : (o : Ordering) → id_cmp i j ≡ o → id_cmp i j ≡ Greater
    go Less p = absurd (g j refl p)
    go Equal p =
        let s : i ≡ j = exact_ids i j p in
        absurd (leads_next c (Elem j) (leads_on c k (To j) w e).0 (rw s at f))
    go Greater p = p

pub last_pass : (o : Op) (c : Context) (k : Key) (n : Next) (t u : Rows) → Passing o c k n t u → next (Elem o.id) c ≡ None → ((j : Id) → n ≡ To j → id_cmp o.id j ≢ Less) → Passes o c k n t u
last_pass o c k n t u w f g =
    record { follows = w.follows; before = is_before c k n o.id w.chain w.follows f g; deeper = w.deeper; rest = w.rest }

-- the links of two changes at one place
both_links : (at : List Tagged) (k j : Key) (i : Id) (n x : Next) (a b d : Tree) → HasPlace at a → IsChanged at (with_next k n (here at a)) a b → IsChanged at (with_next j x (here at b)) b d → d.now ≡ with_node_at at (with_next j x (with_next k n (here at a))) a.now
both_links at k j i n x a b d h y z =
    let hb : here at b ≡ with_next k n (here at a) = then_here at _ a b h y.now in
    then_now at _ _ a b d y.now (z.now ∙ rw hb refl)

pub inserted : (at : List Tagged) (o : Op) (v : Value) (k j : Key) (n : Next) (a b d e : Tree) (t u p w z : Rows) → HasPlace at a → o.mutation ≡ Insert v → Passes o (here at a) k n t u → p ≡ one_deeper (pushed u R.Insert1) → j ≡ Elem o.id → LeadsTo (λ c. Operate c (moved o [] j (Assign v))) at a b p w → IsChanged at (with_next k (To o.id) (here at b)) b d → IsChanged at (with_next (Elem o.id) n (here at d)) d e → z ≡ at_depth t.depth w → LeadsTo (λ c. Operate c (moved o [] o.cursor.last o.mutation)) at a e t z
inserted at o v k j n a b d e t u p w z h is pass pe je x1 y1 y2 ze =
    let x = subst (λ (q : Key). LeadsTo (λ c. Operate c (moved o [] q (Assign v))) at a b p w) je x1 in
    let hb : here at b ≡ x.after = then_here at _ a b h x.now in
    let pb : HasPlace at b = then_place at _ a b h x.now in
    let dx = subst (λ (q : Rows). Derives (Operate (here at a) (moved o [] (Elem o.id) (Assign v))) (ToContext x.after) q w) pe x.derives in
    let last = with_next (Elem o.id) n (with_next k (To o.id) x.after) in
    rw ze (record {
      after = last;
      derives = pass.rest last (at_depth u.depth w) (one_premise R.Insert1 _ _ _ _ u w dx (v, n, x.after, refl, is, pass.follows, pass.before, refl, refl));
      now = then_now at _ _ a b e x.now (both_links at k (Elem o.id) o.id (To o.id) n b d e pb y1 y2 ∙ rw hb refl);
    })

-- the new element alone got linked
pub linked_only : (at : List Tagged) (i : Id) (k : Key) (n : Next) (a b d e : Tree) → HasPlace at b → IsChained a.now → IsUnlinked i a.now → next k (here at a) ≡ Some n → LinksNone at a b → IsChanged at (with_next k (To i) (here at b)) b d → IsChanged at (with_next (Elem i) n (here at d)) d e → LinksOnly i a e
linked_only at i k n a b d e pb h fresh follows none y z =
    let after : next k (here at b) ≡ Some n = ap (find key_cmp k) none.same ∙ follows in
    let absent : next (Elem i) (here at b) ≡ None = no_next i (here at b) (unlinked_here i at b pb (none.unlinked i fresh)) in
    record {
      chained = chained_linked at k i n b d e pb after absent y z (none.chained h);
      unlinked = λ j ne g.
          let before : IsUnlinked j b.now = none.unlinked j g in
          unlinked_now j at _ b e (both_links at k (Elem i) i (To i) n b d e pb y z) (unlinked-linked i j k n (here at b) ne after (unlinked_here j at b pb before)) before;
    }
