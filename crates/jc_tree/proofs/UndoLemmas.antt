-- About Undo: changes are taken back exactly.
use Rattle.std.proofs.Common.{◌≡◌, ◌≢◌, ℕ, ◌+◌, ◌≤◌, suc, length, take, subst, add-one, arith, Bool, true, false, cond, if◌then◌else◌, Result, Ok, Err, is_ok, OnErr, List, [], ◌∷◌, ◌++◌, Option, Some, None, refl, sym, ◌∙◌, ap}
use Rattle.std.specs.List.{AllByRecursion}
use Rattle.std.specs.declared.cmp.Ordering.{Ordering}
use Rattle.std.specs.declared.cmp.Ordering.TheVariants.{Less, Equal, Greater}
use Rattle.jc_rules.specs.declared.id.Id.{Id}
use Rattle.std.specs.Cmp.{IsTotalOrder}
use Rattle.std.proofs.lemmas.Map.Lookups.{CmpEqualImpliesEq}
use Rattle.jc_rules.specs.declared.value.Value.{Value}
use Rattle.jc_rules.specs.declared.key.Key.{Key}
use Rattle.jc_rules.specs.declared.key.Next.{Next}
use Rattle.jc_rules.specs.declared.key.Tagged.{Tagged}
use Rattle.jc_rules.specs.declared.key.Tagged.TheVariants.{MapT, ListT, RegT}
use Rattle.jc_rules.specs.Order.{id_cmp, key_cmp}
use Rattle.jc_rules.specs.Entries.{find, placed, replaced, put}
use Rattle.jc_rules.specs.History.{begun}
use Rattle.jc_rules.specs.Context.{Context, context, Children, Register, listed, node_of, empty, empty_list}
use Rattle.jc_rules.specs.ContextsAt.{node_at, with_node_at, context_at}
use Rattle.jc_rules.proofs.OrderLemmas.{ids_total, exact_ids, keys_total, exact_keys}
use Rattle.jc_rules.proofs.EntriesLemmas.{same-self, found-put, put-put, put-same, value-found}
use Rattle.jc_rules.proofs.ContextsAtLemmas.{listed_children, children_listed, with_node-twice, with_node-same, there}
use Rattle.jc_rules.specs.Ids.{AreRising, has_id, with_id}
use Rattle.jc_rules.proofs.IdsLemmas.{with-present}
use Rattle.jc_rules.specs.WellFormed.{IsWellFormedContext}
use Rattle.jc_tree.specs.Change.{IsNew, changed_by, changed_at}
use Rattle.jc_tree.specs.Tree.{or_no_entries}
use Rattle.jc_tree.specs.Undo.{removed, restored, restored_value, former_of, former_of_id, former_of_value, restored_by, restored_at, tree_undone, earlier_contents}
use Rattle.jc_tree.specs.declared.node.Former.TheVariants as F
use Rattle.jc_tree.specs.declared.node.Change.{Change}
use Rattle.jc_tree.specs.declared.node.Change.TheVariants.{Child, AddId, Presence, Link, PutValue, Register as SetRegister}
use Rattle.jc_tree.specs.declared.plain.Undo.{Undo}
use Rattle.jc_tree.proofs.WellFormedLemmas.{kept-node}
use Rattle.jc_tree.proofs.PlacesLemmas.{then_here}
use Rattle.jc_tree.proofs.PresencesLemmas.{set-out}

module _ {K : Type 0} {R : K → K → Ordering} (total : IsTotalOrder R) (exact : CmpEqualImpliesEq R) {X : Type 0} where
  -- a new entry, taken away
  pub removed-placed : (k : K) (v : X) (es : List (K × X)) → find R k es ≡ None → removed R k (placed R k v es) ≡ es
  removed-placed k v [] h = rw (same-self total exact k) refl
  removed-placed k v (e ∷ es) h = go (R k e.0) refl (λ i. removed-placed k v es i) h
    where
      go : (o : Ordering) → R k e.0 ≡ o → (find R k es ≡ None → removed R k (placed R k v es) ≡ es) → find R k (e ∷ es) ≡ None → removed R k (placed R k v (e ∷ es)) ≡ e ∷ es
      go Less p ih g = rw p (rw (same-self total exact k) refl)
      go Equal p ih g = let n : Some e.1 ≡ None = rw p at g in cc
      go Greater p ih g = rw (p, p) (ap (λ r. e ∷ r) (ih (rw p at g)))

  pub removed-put : (k : K) (v : X) (es : List (K × X)) → find R k es ≡ None → removed R k (put R k v es) ≡ es
  removed-put k v es h = rw h (removed-placed k v es h)

  -- what stood under a key before a put, there again
  pub restored-put : (k : K) (v : X) (es : List (K × X)) → restored R k (find R k es) (put R k v es) ≡ es
  restored-put k v es = go (find R k es) refl
    where
      put_again : (x : X) → put R k x (put R k v es) ≡ replaced R k x (put R k v es)
      put_again x = rw (found-put total exact k v es) refl

      go : (o : Option X) → find R k es ≡ o → restored R k o (put R k v es) ≡ es
      go None p = rw p (removed-placed k v es p)
      go (Some x) p = sym (put_again x) ∙ put-put total exact k x v es ∙ put-same total exact k x es p

-- a value that was put into a key's register, taken back
pub value-back : (k : Key) (i : Id) (v : Value) (r : Register) (es : List (Key × Register)) → find key_cmp k es ≡ Some r → restored_value k i (find id_cmp i r) (find key_cmp k (put key_cmp k (put id_cmp i v r) es)) (put key_cmp k (put id_cmp i v r) es) ≡ es
value-back k i v r es e =
    let new = put id_cmp i v r in
    ap (λ o. restored_value k i (find id_cmp i r) o (put key_cmp k new es)) (found-put keys_total exact_keys k new es)
    ∙ ap (λ w. put key_cmp k w (put key_cmp k new es)) (restored-put ids_total exact_ids i v r)
    ∙ put-put keys_total exact_keys k r new es
    ∙ put-same keys_total exact_keys k r es e

-- an identifier that was added to a key's set, taken back
added_back : (k : Key) (i : Id) (m l : Children) (r : List (Key × Register)) (p : List (Key × List Id)) (n : List (Key × Next)) → ((s : List Id) → find key_cmp k p ≡ Some s → AreRising s) → restored_by (former_of_id k i (find key_cmp k p)) (context m l r (put key_cmp k (with_id i (or_no_entries (find key_cmp k p))) p) n) ≡ context m l r p n
added_back k i m l r p n rises = go (find key_cmp k p) refl
  where
    go : (o : Option (List Id)) → find key_cmp k p ≡ o → restored_by (former_of_id k i o) (context m l r (put key_cmp k (with_id i (or_no_entries o)) p) n) ≡ context m l r p n
    go None e = ap (λ q. context m l r (removed key_cmp k q) n) (put_new e) ∙ ap (λ q. context m l r q n) (removed-placed keys_total exact_keys k (i ∷ []) p e)
      where
        put_new : find key_cmp k p ≡ None → put key_cmp k (i ∷ []) p ≡ placed key_cmp k (i ∷ []) p
        put_new f = rw f refl
    go (Some s) e = step (has_id i s) refl
      where
        step : (b : Bool) → has_id i s ≡ b → restored_by (cond b F.Same (F.NoId k i)) (context m l r (put key_cmp k (with_id i s) p) n) ≡ context m l r p n
        step true h = ap (λ v. context m l r (put key_cmp k v p) n) (with-present i s (rises s e) h) ∙ ap (λ q. context m l r q n) (put-same keys_total exact_keys k s p e)
        step false h = ap (λ q. context m l r q n) (set-out k i s p e h)

-- the same of a context
put_back : (k : Key) (i : Id) (v : Value) (m l : Children) (r : List (Key × Register)) (p : List (Key × List Id)) (n : List (Key × Next)) → restored_by (former_of_value k i (find key_cmp k r)) (context m l (put key_cmp k (put id_cmp i v (or_no_entries (find key_cmp k r))) r) p n) ≡ context m l r p n
put_back k i v m l r p n = go (find key_cmp k r) refl
  where
    go : (o : Option Register) → find key_cmp k r ≡ o → restored_by (former_of_value k i o) (context m l (put key_cmp k (put id_cmp i v (or_no_entries o)) r) p n) ≡ context m l r p n
    go None e = ap (λ q. context m l q p n) (removed-put keys_total exact_keys k (put id_cmp i v []) r e)
    go (Some s) e = ap (λ q. context m l q p n) (value-back k i v s r e)

no_node : (o : Option Context) → node_of o ≡ None → o ≡ None
no_node None h = refl
no_node (Some d) h = cc

restored_changed : (change : Change) (c : Context) → IsWellFormedContext c → IsNew change c → restored_by (former_of change c) (changed_by change c) ≡ c
restored_changed (Child (MapT k)) (context m l r p n) h new = rw (listed_children, removed-put keys_total exact_keys k empty (listed m) (no_node _ new), children_listed m) refl
restored_changed (Child (ListT k)) (context m l r p n) h new = rw (listed_children, removed-put keys_total exact_keys k empty_list (listed l) (no_node _ new), children_listed l) refl
restored_changed (Child (RegT k)) (context m l r p n) h new = rw (restored-put keys_total exact_keys k [] r) refl
restored_changed (AddId k i) (context m l r p n) h new = added_back k i m l r p n (λ s e. value-found keys_total exact_keys AreRising k s p h.6 e)
restored_changed (Presence k s) (context m l r p n) h new = rw (restored-put keys_total exact_keys k s p) refl
restored_changed (Link k x) (context m l r p n) h new = rw (restored-put keys_total exact_keys k x n) refl
restored_changed (PutValue k i v) (context m l r p n) h new = put_back k i v m l r p n
restored_changed (SetRegister k v) (context m l r p n) h new = rw (restored-put keys_total exact_keys k v r) refl

-- a change at a place, taken back
pub restored_change : (at : List Tagged) (change : Change) (c : Context) → node_at at c ≢ None → IsWellFormedContext c → IsNew change (context_at at c) → restored_at at (former_of change (context_at at c)) (changed_at at change c) ≡ c
restored_change at change c place kept new =
    let here = context_at at c in
    let changed = changed_by change here in
    let back = restored_by (former_of change here) in
    let there_now : context_at at (with_node_at at changed c) ≡ changed = then_here at changed (begun c) (record { now = with_node_at at changed c; earlier = [] }) place refl in
    ap (λ y. with_node_at at (back y) (with_node_at at changed c)) there_now
    ∙ with_node-twice at changed (back changed) c
    ∙ ap (λ y. with_node_at at y c) (restored_changed change here (kept-node at c here kept (there at c place)) new)
    ∙ with_node-same at here c (there at c place)

-- the latest change is taken back first
undone_latest : (us : List Undo) (u : Undo) (c : Context) → tree_undone (us ++ u ∷ []) c ≡ tree_undone us (tree_undone (u ∷ []) c)
undone_latest [] u c = refl
undone_latest (v ∷ us) u c = ap (restored_at v.at.items v.former) (undone_latest us u c)

pub contents_latest : (us : List Undo) (u : Undo) (c : Context) → earlier_contents (us ++ u ∷ []) c ≡ earlier_contents us (tree_undone (u ∷ []) c) ++ tree_undone (u ∷ []) c ∷ []
contents_latest [] u c = refl
contents_latest (v ∷ us) u c = rw (undone_latest us u c, contents_latest us u c) refl

pub length_contents : (us : List Undo) (c : Context) → length (earlier_contents us c) ≡ length us
length_contents [] c = refl
length_contents (u ∷ us) c = ap suc (length_contents us c)

-- what is pushed where there is room
pub pushed : {A E X : Type 0} (r : Result A E) (xs : List X) (x : X) (n k : ℕ) → OnErr r (k ≤ n) → n + 1 ≤ k → (if is_ok r then xs ++ x ∷ [] else xs) ≡ xs ++ x ∷ []
pushed (Ok y) xs x n k h room = refl
pushed (Err e) xs x n k h room = absurd (omega (arith, h, room))

-- after a change at a place, with what takes it back pushed
pub contents_changed : {A E : Type 0} (r : Result A E) (us vs ws : List Undo) (u : Undo) (change : Change) (at : List Tagged) (c d : Context) (n k : ℕ) → OnErr r (k ≤ n) → n + 1 ≤ k → vs ≡ us → ws ≡ (if is_ok r then vs ++ u ∷ [] else vs) → node_at at c ≢ None → IsWellFormedContext c → IsNew change (context_at at c) → d ≡ changed_at at change c → u.at.items ≡ at → u.former ≡ former_of change (context_at at c) → earlier_contents ws d ≡ earlier_contents us c ++ c ∷ []
contents_changed r us vs ws u change at c d n k full room same is place kept new e p f =
    let all : ws ≡ us ++ u ∷ [] = is ∙ pushed r vs u n k full room ∙ ap (λ x. x ++ u ∷ []) same in
    let back : tree_undone (u ∷ []) d ≡ c = rw (e, p, f) (restored_change at change c place kept new) in
    rw all (contents_latest us u d) ∙ ap (λ x. earlier_contents us x ++ x ∷ []) back

all_parts : (P : Context → Type 0) (cs : List Context) (c : Context) → AllByRecursion P (cs ++ c ∷ []) → AllByRecursion P cs × P c
all_parts P [] c h = (tt, h.0)
all_parts P (d ∷ cs) c h = let rest = all_parts P cs c h.1 in ((h.0, rest.0), rest.1)

-- what holds of each content holds after the latest change was taken back
pub kept_undone : (P : Context → Type 0) (us : List Undo) (u : Undo) (c : Context) → AllByRecursion P (earlier_contents (us ++ u ∷ []) c) → AllByRecursion P (earlier_contents us (tree_undone (u ∷ []) c)) × P (tree_undone (u ∷ []) c)
kept_undone P us u c h = all_parts P (earlier_contents us (tree_undone (u ∷ []) c)) (tree_undone (u ∷ []) c) (subst (AllByRecursion P) (contents_latest us u c) h)

-- the beginning of a history, by one content shorter
pub shorter : (cs : List Context) (c : Context) (all : List Context) → cs ++ c ∷ [] ≡ take (suc (length cs)) all → cs ≡ take (length cs) all
shorter [] c all e = refl
shorter (d ∷ cs) c [] e = cc
shorter (d ∷ cs) c (b ∷ all) e =
    let heads : d ≡ b = cc in
    let tails : cs ++ c ∷ [] ≡ take (suc (length cs)) all = cc in
    λ i. heads i ∷ shorter cs c all tails i

pub once_shorter : (us : List Undo) (c : Context) (all : List Context) → earlier_contents us c ++ c ∷ [] ≡ take (length us + 1) all → earlier_contents us c ≡ take (length us) all
once_shorter us c all e =
    let n : length (earlier_contents us c) ≡ length us = length_contents us c in
    rw n at (shorter (earlier_contents us c) c all (e ∙ rw (n, add-one) refl))

pub all_of : (cs : List Context) (c : Context) → take (suc (length cs)) (cs ++ c ∷ []) ≡ cs ++ c ∷ []
all_of [] c = refl
all_of (d ∷ cs) c = ap (λ r. d ∷ r) (all_of cs c)

pub whole : (us : List Undo) (c : Context) → earlier_contents us c ++ c ∷ [] ≡ take (length us + 1) (earlier_contents us c ++ c ∷ [])
whole us c = sym (subst (λ n. take (n + 1) (earlier_contents us c ++ c ∷ []) ≡ earlier_contents us c ++ c ∷ []) (length_contents us c) (rw add-one (all_of (earlier_contents us c) c)))
