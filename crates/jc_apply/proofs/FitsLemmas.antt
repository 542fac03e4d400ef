-- About Fits: what fits is refused for nothing.
use Rattle.std.proofs.Common.{◌≡◌, ◌≢◌, List, ◌∷◌, Option, Some, None, refl, sym, ◌∙◌, ap, subst, inl, inr}
use Rattle.std.specs.Prelude.{◌⊎◌}
use Rattle.jc_rules.specs.declared.id.Id.{Id}
use Rattle.jc_rules.specs.declared.key.Key.{Key}
use Rattle.jc_rules.specs.declared.key.Key.TheVariants.{Elem}
use Rattle.jc_rules.specs.declared.key.Next.TheVariants.{Elem as To}
use Rattle.jc_rules.specs.declared.key.Tagged.{Tagged}
use Rattle.jc_rules.specs.declared.key.Tagged.TheVariants.{MapT, ListT, RegT}
use Rattle.jc_rules.specs.declared.operation.Mutation.TheVariants.{Insert}
use Rattle.jc_rules.specs.Order.{key_cmp}
use Rattle.jc_rules.specs.Entries.{find}
use Rattle.jc_rules.specs.Context.{Context, empty, empty_list, Content, Node, Values, content, next, registers}
use Rattle.jc_rules.specs.ContextsAt.{node_in}
use Rattle.jc_rules.specs.WellFormed.{IsChained, IsChainedList}
use Rattle.jc_rules.specs.State.{State}
use Rattle.jc_rules.specs.Syntax.{Expr}
use Rattle.jc_rules.specs.Derivation.{Question, Operate}
use Rattle.jc_rules.specs.Refused.{Cause, Refused, first_expr, in_first, not_a_cursor, operate_below, not_in_list, insert_later}
use Rattle.jc_tree.specs.ChainedBelow.{AreChainedBelow}
use Rattle.jc_tree.proofs.ChainedBelowLemmas.{map_below, list_below, below-chained, below-list, no_links}
use Rattle.jc_tree.proofs.ChainedLeadsLemmas.{leads_from, leads_on, leads_next}
use Rattle.jc_tree.proofs.ChainedLemmas.{new_list_chained}
use Rattle.jc_apply.specs.Fits.{Fits, FitsHere, InChild, content_or_new, child_context}
use Rattle.jc_apply.proofs.FitsAnsweredLemmas.{child_is}
use Rattle.jc_rules.proofs.ContextLemmas.{no_node}

-- a context on the way down a chained document: a list, or none
abbrev pub IsShaped : Context → Type 0
IsShaped c = IsChained c ⊎ IsChainedList c

shaped_below : (c : Context) → IsShaped c → AreChainedBelow c
shaped_below c (inl h) = below-chained c h
shaped_below c (inr h) = below-list c h

empty_chained : IsChained empty
empty_chained = (refl, tt, tt)

-- so is each child, there or new
child_shaped : (t : Tagged) (c d : Context) → IsShaped c → child_context t c ≡ Some d → IsShaped d
child_shaped t c d h e = go t (content t c) refl e
  where
    go : (j : Tagged) (x : Option Content) → content j c ≡ x → node_in (Some (content_or_new j x)) ≡ Some d → IsShaped d
    go (MapT k) (Some (Node y)) p f = let same : y ≡ d = cc in inl (map_below k c d (p ∙ ap (λ (z : Context). Some (Node z)) same) (shaped_below c h))
    go (ListT k) (Some (Node y)) p f = let same : y ≡ d = cc in inr (list_below k c d (p ∙ ap (λ (z : Context). Some (Node z)) same) (shaped_below c h))
    go (RegT k) (Some (Node y)) p f = no_node (find key_cmp k (registers c)) y p
    go j (Some (Values r)) p f = cc
    go (MapT k) None p f = let same : empty ≡ d = cc in inl (subst IsChained same empty_chained)
    go (ListT k) None p f = let same : empty_list ≡ d = cc in inr (subst IsChainedList same new_list_chained)
    go (RegT k) None p f = cc

-- an element that a link leads to is linked
goes_on : (c : Context) (k : Key) (j : Id) → IsShaped c → next k c ≡ Some (To j) → next (Elem j) c ≢ None
goes_on c k j (inl h) e = absurd (no_links k (To j) c h e)
goes_on c k j (inr h) e = leads_next c (Elem j) (leads_on c k (To j) (leads_from c k (To j) h e) e).0

-- the question is of an operation that fits
abbrev pub IsOfFitting : Question → Type 0
IsOfFitting (Operate c o) = IsShaped c × Fits c o.cursor.path o.cursor.last o.mutation
IsOfFitting _ = ⊥

no_first : (q : Question) (x : State × Expr) → IsOfFitting q → first_expr q ≡ Some x → ⊥
no_first (Operate c o) x h e = cc
no_first _ x h e = h

pub unrefused : {q : Question} {why : Cause} → Refused q why → IsOfFitting q → ⊥
unrefused (operate_below {c = c} {o = o} {k = k} {rest = rest} {d = d} e s r) h =
    let is : child_context k c ≡ Some d = child_is k c d s in
    let fits : Fits c (k ∷ rest) o.cursor.last o.mutation = subst (λ (ts : List Tagged). Fits c ts o.cursor.last o.mutation) e h.1 in
    unrefused r (child_shaped k c d h.0 is, subst (λ (x : Option Context). InChild x (λ y. Fits y rest o.cursor.last o.mutation)) is fits)
unrefused (not_in_list {c = c} {o = o} {v = v} e m f) h =
    let here : FitsHere c o.cursor.last o.mutation = subst (λ (ts : List Tagged). Fits c ts o.cursor.last o.mutation) e h.1 in
    let linked : FitsHere c o.cursor.last (Insert v) = subst (FitsHere c o.cursor.last) m here in
    linked f
unrefused (insert_later {c = c} {o = o} {v = v} {n = n} e m f l r) h =
    unrefused r (h.0, subst (FitsHere c (Elem n)) (sym m) (goes_on c o.cursor.last n h.0 f))
unrefused (in_first {q = q} is r) h = no_first q _ h is
unrefused (not_a_cursor {q = q} is w s n) h = no_first q _ h is
unrefused _ h = absurd h
