-- About Fits: what doesn't fit is refused.
use Rattle.std.proofs.Common.{◌≡◌, ◌≢◌, ◌↔◌, IsTrue, IsFalse, List, [], ◌∷◌, Option, Some, None, Bool, refl, sym, ◌∙◌, ap, subst, inl}
use Rattle.std.specs.List.{AllByRecursion}
use Rattle.jc_rules.specs.declared.key.Next.{Next}
use Rattle.jc_rules.specs.declared.key.Tagged.{Tagged}
use Rattle.jc_rules.specs.declared.key.Tagged.TheVariants.{MapT, ListT, RegT}
use Rattle.jc_rules.specs.declared.operation.Mutation.{Mutation}
use Rattle.jc_rules.specs.declared.operation.Mutation.TheVariants.{Assign, Insert, Delete}
use Rattle.jc_rules.specs.declared.operation.Cursor.{Cursor}
use Rattle.jc_rules.specs.declared.operation.Op.{Op}
use Rattle.jc_rules.specs.declared.refusal.Refusal.TheVariants as F
use Rattle.jc_rules.specs.declared.rule.Rule.{Rule}
use Rattle.jc_rules.specs.declared.rule.Rule.TheVariants as R
use Rattle.jc_rules.specs.declared.value.Value.{Value}
use Rattle.jc_rules.specs.Order.{key_cmp}
use Rattle.jc_rules.specs.Entries.{find}
use Rattle.jc_rules.specs.Context.{Context, Content, Node, node_of, content, new_content, next, maps, lists}
use Rattle.jc_rules.specs.ContextsAt.{node_in}
use Rattle.jc_rules.specs.Derivation.{Child, Operate, ToContent, gives, derive, none}
use Rattle.jc_rules.specs.Table.{Follows, moved}
use Rattle.jc_rules.specs.Refused.{Cause, because, IsAnswered, Refused, operate_below, not_in_list}
use Rattle.jc_rules.specs.WellFormed.{IsChained}
use Rattle.jc_rules.specs.Paths.{HasContext, IsPath}
use Rattle.jc_apply.specs.Fits.{Fits, FitsHere, InChild, EachOp, content_or_new, child_context}
use Rattle.jc_apply.proofs.FitsLemmas.{unrefused}
use Rattle.jc_rules.proofs.BoolLemmas.{no_truth}

-- the same cursor and mutation ask for the same
fits_alike : (c : Context) (cursor : Cursor) (m : Mutation) (o : Op) → o.cursor ≡ cursor → o.mutation ≡ m → Fits c o.cursor.path o.cursor.last o.mutation → Fits c cursor.path cursor.last m
fits_alike c cursor m o at is = subst (λ (x : Cursor × Mutation). Fits c x.0.path x.0.last x.1) (λ i. (at i, is i))

alike_fits : (c : Context) (cursor : Cursor) (m : Mutation) (o : Op) → o.cursor ≡ cursor → o.mutation ≡ m → Fits c cursor.path cursor.last m → Fits c o.cursor.path o.cursor.last o.mutation
alike_fits c cursor m o at is = subst (λ (x : Cursor × Mutation). Fits c x.0.path x.0.last x.1) (λ i. (sym at i, sym is i))

-- what is under a tagged key, or is new there, is answered for it
abbrev new_rule : Tagged → Rule
new_rule (MapT k) = R.ChildMap
new_rule (ListT k) = R.ChildList
new_rule (RegT k) = R.ChildReg

new_follows : (t : Tagged) (c : Context) → content t c ≡ None → Follows (new_rule t) (Child c t) (ToContent (new_content t)) []
new_follows (MapT k) c e = (e, refl, refl)
new_follows (ListT k) c e = (e, refl, refl)
new_follows (RegT k) c e = (e, refl, refl)

child_answered : (t : Tagged) (c : Context) → IsAnswered (Child c t) (ToContent (content_or_new t (content t c)))
child_answered t c = go (content t c) refl
  where
    go : (o : Option Content) → content t c ≡ o → IsAnswered (Child c t) (ToContent (content_or_new t o))
    go None e = record { derivation = derive (new_rule t) (gives (Child c t) (ToContent (new_content t))) none; holds = (new_follows t c e, tt); concludes = refl }
    go (Some x) e = record { derivation = derive R.ChildGet (gives (Child c t) (ToContent x)) none; holds = ((x, e, refl, refl), tt); concludes = refl }

pub child_node : (t : Tagged) (c : Context) → HasContext t → (d : Context) × (content_or_new t (content t c) ≡ Node d)
child_node (MapT k) c h = go (find key_cmp k (maps c))
  where
    go : (o : Option Context) → (d : Context) × (content_or_new (MapT k) (node_of o) ≡ Node d)
    go None = (_, refl)
    go (Some d) = (d, refl)
child_node (ListT k) c h = go (find key_cmp k (lists c))
  where
    go : (o : Option Context) → (d : Context) × (content_or_new (ListT k) (node_of o) ≡ Node d)
    go None = (_, refl)
    go (Some d) = (d, refl)
child_node (RegT k) c h = absurd h

-- what doesn't fit is refused
not_linked : (c : Context) (o : Op) → o.cursor.path ≡ [] → (FitsHere c o.cursor.last o.mutation → ⊥) → Refused (Operate c o) (because F.NotInList)
not_linked c o e unfit = go o.mutation refl unfit
  where
    none : (v : Value) (n : Option Next) → next o.cursor.last c ≡ n → o.mutation ≡ Insert v → ((n ≢ None) → ⊥) → Refused (Operate c o) (because F.NotInList)
    none v None f is h = not_in_list {v = v} e is f
    none v (Some n) f is h = absurd (h (λ g. cc))

    go : (m : Mutation) → o.mutation ≡ m → (FitsHere c o.cursor.last m → ⊥) → Refused (Operate c o) (because F.NotInList)
    go (Assign v) is h = absurd (h tt)
    go (Insert v) is h = none v (next o.cursor.last c) refl is h
    go Delete is h = absurd (h tt)

not_fitting : (ts : List Tagged) (c : Context) (o : Op) → o.cursor.path ≡ ts → AllByRecursion HasContext ts → (Fits c ts o.cursor.last o.mutation → ⊥) → Refused (Operate c o) (because F.NotInList)
not_fitting [] c o e all unfit = not_linked c o e unfit
not_fitting (t ∷ ts) c o e all unfit =
    let child = child_node t c all.0 in
    let answered = subst (λ (x : Content). IsAnswered (Child c t) (ToContent x)) child.1 (child_answered t c) in
    let is : child_context t c ≡ Some child.0 = ap (λ (x : Content). node_in (Some x)) child.1 in
    operate_below e answered (not_fitting ts child.0 (moved o ts o.cursor.last o.mutation) refl all.1 (λ f. unfit (subst (λ (x : Option Context). InChild x (λ d. Fits d ts o.cursor.last o.mutation)) (sym is) f)))

refused : (c : Context) (cursor : Cursor) (m : Mutation) → (Fits c cursor.path cursor.last m → ⊥) → AllByRecursion HasContext cursor.path → EachOp cursor m (λ o. Refused (Operate c o) (because F.NotInList))
refused c cursor m unfit all o at is =
    not_fitting o.cursor.path c o refl (subst (λ (x : Cursor). AllByRecursion HasContext x.path) (sym at) all) (λ f. unfit (fits_alike c cursor m o at is f))

-- That a call returns whether an operation fits.
pub record Told (c : Context) (cursor : Cursor) (m : Mutation) (r : Bool) : Type 0 where
  pub fits : IsTrue r ↔ Fits c cursor.path cursor.last m
  pub refused : IsFalse r → EachOp cursor m (λ o. Refused (Operate c o) (because F.NotInList))
  pub not_refused : IsTrue r → IsChained c → EachOp cursor m (λ o. (why : Cause) → Refused (Operate c o) why → ⊥)

pub told : (c : Context) (cursor : Cursor) (m : Mutation) (r : Bool) → IsPath cursor.path → IsTrue r ↔ Fits c cursor.path cursor.last m → Told c cursor m r
told c cursor m r p h = record {
  fits = h;
  refused = λ e. refused c cursor m (λ f. no_truth (sym e ∙ h.1 f)) p.contexts;
  not_refused = λ e chained o at is why x. unrefused x (inl chained, alike_fits c cursor m o at is (h.0 e));
}
