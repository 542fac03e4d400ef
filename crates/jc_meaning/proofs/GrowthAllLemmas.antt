-- About Growth and Listing: what all operations contribute to a tree, one after another, is their meaning.
use Rattle.std.proofs.Common.{◌≡◌, ◌≢◌, ℕ, suc, ◌+◌, ◌<◌, List, [], ◌∷◌, ◌++◌, length, take, drop, get_or, Bool, true, false, not, ◌||◌, ◌&&◌, cond, Option, Some, None, inl, inr, Contains, refl, sym, ◌∙◌, ap, subst}
use Rattle.std.specs.List.{AllByRecursion}
use Rattle.std.proofs.lemmas.List.{take-append-drop, take_more}
use Rattle.std.proofs.Math.Seq.{drop-cons}
use Rattle.jc_rules.specs.declared.id.Id.{Id}
use Rattle.jc_rules.specs.declared.key.Key.{Key}
use Rattle.jc_rules.specs.declared.key.Key.TheVariants as K
use Rattle.jc_rules.specs.declared.key.Next.TheVariants.{Tail}
use Rattle.jc_rules.specs.declared.key.Tagged.{Tagged}
use Rattle.jc_rules.specs.declared.key.Tagged.TheVariants.{MapT, ListT, RegT}
use Rattle.jc_rules.specs.declared.operation.Op.{Op}
use Rattle.jc_rules.specs.declared.value.Value.{Value}
use Rattle.jc_rules.specs.Order.{same_id, same_key}
use Rattle.jc_rules.specs.Context.{Context, next, empty, empty_list}
use Rattle.jc_rules.specs.Ids.{has_id}
use Rattle.jc_rules.specs.WellFormed.{AreDistinct}
use Rattle.jc_rules.specs.Table.{op_of}
use Rattle.jc_rules.proofs.IdsLemmas.{same_id-true}
use Rattle.jc_replica.specs.Operations.{identifiers}
use Rattle.jc_meaning.specs.Effects.{same_path, list_at, is_insert, target, value_in, touches, written_by, goes_through}
use Rattle.jc_meaning.specs.Seen.{seen, ids_at, value_seen_at, has_tag}
use Rattle.jc_meaning.specs.Forest.{bare, follow}
use Rattle.jc_meaning.specs.Meaning.{some_op, holds_of, is_cleared, is_present, written_of, value_written, goes, names, hangs_at, LinksOf, IsMeaning, AreFilled}
use Rattle.jc_meaning.specs.Growth.{Grows, first_some, is_gone, brings_id, brings_value, Brings, tag_on, made_here}
use Rattle.jc_meaning.specs.Listing.{inserts_at, unlinked, AreLinked, LinksNew, IsSameButLinks}
use Rattle.std.proofs.lemmas.List.Elements.{Contains-get_or}
use Rattle.jc_rules.specs.Paths.{HasContext, IsPath}
use Rattle.jc_rules.specs.ContextsAt.{node_at, context_at}
use Rattle.jc_rules.proofs.ContextsAtLemmas.{there}
use Rattle.jc_rules.proofs.BoolLemmas.{or_false, or_right}
use Rattle.jc_meaning.proofs.NextOperationLemmas.{in_some}
use Rattle.jc_meaning.proofs.GrowthPathLemmas.{place_there, passed_is}
use Rattle.jc_meaning.proofs.ChainEndsLemmas.{some_more, new_list, linked_more, linked_still}
use Rattle.jc_meaning.proofs.LinkEffectsLemmas.{start_means}
use Rattle.jc_meaning.proofs.OrdersLemmas.{keys_back}
use Rattle.jc_meaning.proofs.GrowthWriteLemmas.{both_grow, grows_as}
use Rattle.jc_meaning.proofs.SeenLemmas.{node_seen}

op_of_more : (i : Id) (os : List Op) (o : Op) → op_of o.id os ≡ None → op_of i (os ++ o ∷ []) ≡ cond (same_id i o.id) (Some o) (op_of i os)
op_of_more i [] o h = refl
op_of_more i (p ∷ ps) o h = go (same_id o.id p.id) refl h (op_of_more i ps o)
  where
    go : (b : Bool) → same_id o.id p.id ≡ b → cond b (Some p) (op_of o.id ps) ≡ None → (op_of o.id ps ≡ None → op_of i (ps ++ o ∷ []) ≡ cond (same_id i o.id) (Some o) (op_of i ps)) → op_of i ((p ∷ ps) ++ o ∷ []) ≡ cond (same_id i o.id) (Some o) (op_of i (p ∷ ps))
    go true e g ih = cc
    go false e g ih = by_cases (same_id i p.id) (same_id i o.id) refl refl (ih g)
      where
        by_cases : (x y : Bool) → same_id i p.id ≡ x → same_id i o.id ≡ y → op_of i (ps ++ o ∷ []) ≡ cond (same_id i o.id) (Some o) (op_of i ps) → cond x (Some p) (op_of i (ps ++ o ∷ [])) ≡ cond y (Some o) (cond x (Some p) (op_of i ps))
        by_cases true true a b k = let z : true ≡ false = sym a ∙ ap (λ q. same_id q p.id) (same_id-true i o.id b) ∙ e in cc
        by_cases true false a b k = refl
        by_cases false y a b k = k ∙ ap (λ z. cond z (Some o) (op_of i ps)) b

-- the operations before one have no other with its identifier
pub none_before : (os : List Op) (o : Op) (rest : List Op) → AreDistinct (identifiers (os ++ o ∷ rest)) → op_of o.id os ≡ None
none_before [] o rest d = refl
none_before (p ∷ ps) o rest d = go (same_id o.id p.id) refl (none_before ps o rest d.1)
  where
    differs : (qs : List Op) → AllByRecursion (λ y. y ≢ p.id) (identifiers (qs ++ o ∷ rest)) → o.id ≢ p.id
    differs [] a = a.0
    differs (q ∷ qs) a = differs qs a.1

    go : (b : Bool) → same_id o.id p.id ≡ b → op_of o.id ps ≡ None → cond b (Some p) (op_of o.id ps) ≡ None
    go true e h = absurd (differs ps d.0 (same_id-true o.id p.id e))
    go false e h = h

pub none_taken : (os : List Op) (n : ℕ) (o : Op) → n < length os → o ≡ get_or os n o → AreDistinct (identifiers os) → op_of o.id (take n os) ≡ None
none_taken os n o h e d =
    let rest : drop n os ≡ o ∷ drop (suc n) os = drop-cons os n o h ∙ ap (λ p. p ∷ drop (suc n) os) (sym e) in
    let whole : os ≡ take n os ++ o ∷ drop (suc n) os = sym (take-append-drop n os) ∙ ap (λ l. take n os ++ l) rest in
    none_before (take n os) o (drop (suc n) os) (subst (λ l. AreDistinct (identifiers l)) whole d)

-- what some of all operations bring
abbrev pub ids_of_first : List Op → List Op → List Tagged → Key → Id → Bool
ids_of_first O os P k i = holds_of (λ o. touches o P k) (op_of i os) && not (is_cleared O P k i)

abbrev pub values_of_first : List Op → List Op → List Tagged → Key → Id → Option Value
values_of_first O os P k i = cond (is_gone O P k i) None (written_of (op_of i os) P k)

pub more_brought : (O os : List Op) (o : Op) (a b c : Context) → op_of o.id os ≡ None → Grows a b (goes os) (ids_of_first O os) (values_of_first O os) → Brings O o b c
    → Grows a c (goes (os ++ o ∷ [])) (ids_of_first O (os ++ o ∷ [])) (values_of_first O (os ++ o ∷ []))
more_brought O os o a b c new x y =
    grows_as a c (λ P u. goes os P u || goes_through o P u) (goes (os ++ o ∷ []))
    (λ P k i. ids_of_first O os P k i || brings_id O o P k i) (ids_of_first O (os ++ o ∷ []))
    (λ P k i. first_some (brings_value O o P k i) (values_of_first O os P k i)) (values_of_first O (os ++ o ∷ []))
    (λ P u. sym (some_more (λ p. goes_through p P u) os o))
    (λ P k i. ids P k i (same_id i o.id) refl ∙ ap (λ z. holds_of (λ o. touches o P k) z && not (is_cleared O P k i)) (sym (op_of_more i os o new)))
    (λ P k i. values P k i (same_id i o.id) refl ∙ ap (λ z. cond (is_gone O P k i) None (written_of z P k)) (sym (op_of_more i os o new)))
    (both_grow a b c (goes os) (goes_through o) (ids_of_first O os) (brings_id O o) (values_of_first O os) (brings_value O o) x y)
  where
    absent : (i : Id) → same_id i o.id ≡ true → op_of i os ≡ None
    absent i e = ap (λ q. op_of q os) (same_id-true i o.id e) ∙ new

    ids : (P : List Tagged) (k : Key) (i : Id) (s : Bool) → same_id i o.id ≡ s → (ids_of_first O os P k i || (s && (touches o P k && not (is_cleared O P k i)))) ≡ (holds_of (λ o. touches o P k) (cond s (Some o) (op_of i os)) && not (is_cleared O P k i))
    ids P k i true e = ap (λ z. (holds_of (λ o. touches o P k) z && not (is_cleared O P k i)) || (touches o P k && not (is_cleared O P k i))) (absent i e)
    ids P k i false e = or_false (ids_of_first O os P k i)

    one : (g : Bool) (w : Option Value) → first_some (cond (not g) w None) (cond g None None) ≡ cond g None w
    one true w = refl
    one false (Some w) = refl
    one false None = refl

    values : (P : List Tagged) (k : Key) (i : Id) (s : Bool) → same_id i o.id ≡ s → first_some (cond (s && not (is_gone O P k i)) (written_by o P k) None) (values_of_first O os P k i) ≡ cond (is_gone O P k i) None (written_of (cond s (Some o) (op_of i os)) P k)
    values P k i true e = ap (λ z. first_some (cond (not (is_gone O P k i)) (written_by o P k) None) (cond (is_gone O P k i) None (written_of z P k))) (absent i e) ∙ one (is_gone O P k i) (written_by o P k)
    values P k i false e = refl

-- ---- from the empty tree

mutual
  no_links : (P : List Tagged) (k : Key) → next k (seen P empty) ≡ unlinked (list_at false P) k
  no_links [] k = refl
  no_links (MapT j ∷ ts) k = no_links ts k
  no_links (ListT j ∷ ts) k = no_list_links ts k
  no_links (RegT j ∷ ts) k = no_links ts k

  no_list_links : (P : List Tagged) (k : Key) → next k (seen P empty_list) ≡ unlinked (list_at true P) k
  no_list_links [] k = ap (λ b. cond b (Some Tail) None) (keys_back k K.Head)
  no_list_links (MapT j ∷ ts) k = no_links ts k
  no_list_links (ListT j ∷ ts) k = no_list_links ts k
  no_list_links (RegT j ∷ ts) k = no_links ts k

module _ (O : List Op) (c d : Context) (start : c ≡ empty) (g : Grows c d (goes O) (is_present O) (value_written O)) where
  pub new_links : AreLinked [] O d
  new_links = record {
    done = λ P list e. let z : false ≡ true = e in cc;
    rest = λ P e k. g.links P k ∙ ap (λ z. next k (seen P z)) start ∙ no_links P k;
  }

  pub tags_made : (P : List Tagged) (u : Tagged) → has_tag u (seen P d) ≡ goes O P u
  tags_made P u = g.tags P u ∙ ap (λ z. has_tag u (seen P z) || goes O P u) start ∙ ap (λ b. b || goes O P u) (start_means.tags P u)

  hanging_inserts : (os : List Op) (P : List Tagged) (k : Key) (j : Id) → hangs_at os P k j ≡ true → some_op (inserts_at P) os ≡ true
  hanging_inserts [] P k j h = cc
  hanging_inserts (o ∷ os) P k j h = go (same_id j o.id) (hanging_inserts os P k j) h
    where
      some : (x y z : Bool) → (x && (y && z)) ≡ true → (w : Bool) → ((x && y) || w) ≡ true
      some true true z e w = refl
      some true false z e w = cc
      some false y z e w = cc

      go : (b : Bool) → (hangs_at os P k j ≡ true → some_op (inserts_at P) os ≡ true) → holds_of (names P k) (cond b (Some o) (op_of j os)) ≡ true → (inserts_at P o || some_op (inserts_at P) os) ≡ true
      go true ih e = some (is_insert o.mutation) (same_path o.cursor.path P) (same_key o.cursor.last k) e (some_op (inserts_at P) os)
      go false ih e = or_right (inserts_at P o) (some_op (inserts_at P) os) (ih e)

  -- with the links of its lists it is the meaning
  pub meant : (e : Context) → IsSameButLinks d e → AreLinked O O e → IsMeaning O e
  meant e s l = record {
    means = record {
      tags = λ P u. s.tags P u ∙ tags_made P u;
      ids = λ P k i. s.ids P k i ∙ g.ids P k i ∙ ap (λ z. has_id i (ids_at k (seen P z)) || is_present O P k i) start ∙ ap (λ b. b || is_present O P k i) (start_means.ids P k i);
      values = λ P k i. s.values P k i ∙ g.values P k i ∙ ap (λ z. first_some (value_written O P k i) (value_seen_at i k (seen P z))) start ∙ ap (λ b. first_some (value_written O P k i) b) (start_means.values P k i) ∙ first_none (value_written O P k i);
      links = λ P. links P (list_at false P) (some_op (inserts_at P) O) refl refl;
    };
    filled = s.filled (g.filled (subst AreFilled (sym start) (tt, tt, tt)));
  }
    where
      first_none : (w : Option Value) → first_some w None ≡ w
      first_none (Some w) = refl
      first_none None = refl

      links : (P : List Tagged) (a b : Bool) → list_at false P ≡ a → some_op (inserts_at P) O ≡ b → LinksOf a O P (seen P e)
      links P true true f h = let x = l.done P f h in (x.1.forest, x.1.hangs, λ k. x.2 k ∙ ap (λ is. follow K.Head is k) x.1.listed)
      links P true false f h = (
        bare,
        λ j w u. let z : true ≡ false = sym (hanging_inserts O P K.Head j w) ∙ h in cc,
        λ k. l.rest P (ap (λ z. list_at false P && z) h ∙ ap (λ z. z && false) f) k ∙ ap (λ z. unlinked z k) f,
      )
      links P false b f h = λ k. l.rest P (ap (λ z. z && some_op (inserts_at P) O) f) k ∙ ap (λ z. unlinked z k) f

pub next_brought : (O : List Op) (n : ℕ) (o : Op) (a b c : Context) → n < length O → o ≡ get_or O n o → AreDistinct (identifiers O) → Grows a b (goes (take n O)) (ids_of_first O (take n O)) (values_of_first O (take n O)) → Brings O o b c
    → Grows a c (goes (take (n + 1) O)) (ids_of_first O (take (n + 1) O)) (values_of_first O (take (n + 1) O))
next_brought O n o a b c h e d x y =
    let more : take (n + 1) O ≡ take n O ++ o ∷ [] = take_more O n o h ∙ ap (λ u. take n O ++ u ∷ []) (sym e) in
    subst (λ os. Grows a c (goes os) (ids_of_first O os) (values_of_first O os)) (sym more) (more_brought O (take n O) o a b c (none_taken O n o h e d) x y)

-- ---- the loop over the operations that links their lists

-- the path of one of the operations leads to a context
pub op_place : (O : List Op) (n : ℕ) (o : Op) (slice : List Tagged) (c d : Context) → n < length O → o ≡ get_or O n o → slice ≡ o.cursor.path → IsPath o.cursor.path
    → ((P : List Tagged) (u : Tagged) → has_tag u (seen P c) ≡ goes O P u) → IsSameButLinks c d → node_at slice d ≢ None
op_place O n o slice c d h e s p made same = place_there slice d (subst (AllByRecursion HasContext) (sym s) p.contexts) tags
  where
    within : Contains O o
    within = subst (Contains O) (sym e) (Contains-get_or O n o h)

    tags : (P : List Tagged) (u : Tagged) → tag_on slice P u ≡ true → has_tag u (seen P d) ≡ true
    tags P u w =
        let on : tag_on o.cursor.path P u ≡ true = ap (λ Q. tag_on Q P u) (sym s) ∙ w in
        let through : goes_through o P u ≡ true = passed_is o.cursor.path (target o) (value_in o.mutation) P u ∙ ap (λ b. b || made_here o.cursor.path (target o) (value_in o.mutation) P u) on in
        same.tags P u ∙ made P u ∙ in_some (λ q. goes_through q P u) O o within through

pub same_then : (O : List Op) (P : List Tagged) (a b c : Context) → IsSameButLinks a b → LinksNew P O b c → IsSameButLinks a c
same_then O P a b c s (inl (other, e)) = subst (IsSameButLinks a) (sym e) s
same_then O P a b c s (inr (tail, ids, listing, l)) = record {
  tags = λ Q u. l.tags Q u ∙ s.tags Q u;
  ids = λ Q k i. l.ids Q k i ∙ s.ids Q k i;
  values = λ Q k i. l.values Q k i ∙ s.values Q k i;
  filled = λ h. l.filled (s.filled h);
}

module _ (O : List Op) (n : ℕ) (o : Op) (h : n < length O) (e : o ≡ get_or O n o) where
  one_more : take (n + 1) O ≡ take n O ++ o ∷ []
  one_more = take_more O n o h ∙ ap (λ u. take n O ++ u ∷ []) (sym e)

  pub list_linked : (slice : List Tagged) (c d : Context) → slice ≡ o.cursor.path → is_insert o.mutation ≡ true → AreLinked (take n O) O c → LinksNew slice O c d → AreLinked (take (n + 1) O) O d
  list_linked slice c d s is l x = subst (λ os. AreLinked os O d) (sym one_more) (linked_more (take n O) O o c d is l (subst (λ P. LinksNew P O c d) s x))

  pub none_linked : (c : Context) → is_insert o.mutation ≡ false → AreLinked (take n O) O c → AreLinked (take (n + 1) O) O c
  none_linked c is l = subst (λ os. AreLinked os O c) (sym one_more) (linked_still (take n O) O o c is l)

pub list_is_new : (O : List Op) (n : ℕ) (slice : List Tagged) (c : Context) → node_at slice c ≢ None → AreLinked (take n O) O c → next K.Head (context_at slice c) ≡ Some Tail → (k : Key) → next k (context_at slice c) ≡ follow K.Head [] k
list_is_new O n slice c p l tail k = new_list (take n O) O slice c (context_at slice c) l (node_seen slice c (context_at slice c) (there slice c p)) tail k
