-- About Meaning and Effects: sets of operations, and an operation that may come next.
use Rattle.std.proofs.Common.{◌≡◌, ◌<◌, List, [], ◌∷◌, ◌++◌, Bool, true, false, ◌||◌, ◌&&◌, Option, Some, None, is_some, Contains, ◌⊎◌, inl, inr, refl, sym, ◌∙◌, ap, subst}
use Rattle.jc_rules.specs.declared.id.Id.{Id}
use Rattle.jc_rules.specs.declared.key.Key.{Key}
use Rattle.jc_rules.specs.declared.key.Key.TheVariants as K
use Rattle.jc_rules.specs.declared.key.Tagged.{Tagged}
use Rattle.jc_rules.specs.declared.key.Tagged.TheVariants.{MapT, ListT, RegT}
use Rattle.jc_rules.specs.declared.operation.Op.{Op}
use Rattle.jc_rules.specs.declared.operation.Mutation.{Mutation}
use Rattle.jc_rules.specs.declared.operation.Mutation.TheVariants as M
use Rattle.jc_rules.specs.Order.{same_key}
use Rattle.jc_rules.specs.Ids.{has_id}
use Rattle.jc_rules.specs.Context.{key_of_tagged}
use Rattle.jc_rules.specs.ContextsAt.{IsAtOrAbove}
use Rattle.jc_rules.specs.Sound.{IsInsert}
use Rattle.jc_rules.specs.Table.{op_of}
use Rattle.jc_rules.proofs.CoveredLemmas.{left_in}
use Rattle.jc_network.proofs.MembersLemmas.{none_in, first_in, later_in, in_cons, op_in}
use Rattle.jc_meaning.specs.Effects.{same_tagged, same_path, is_at_or_above, list_at, is_insert}
use Rattle.jc_meaning.specs.Meaning.{some_op, holds_of, names, hangs_at}
use Rattle.jc_meaning.proofs.OrdersLemmas.{keys_eq, keys_self}
use Rattle.jc_meaning.proofs.TagsLemmas.{tags_eq}
use Rattle.jc_rules.proofs.BoolLemmas.{or_right, first_true, second_true, both_true}

-- ---- members

abbrev pub AllOps : (Op → Type 0) → List Op → Type 0
AllOps Q [] = Unit {0}
AllOps Q (o ∷ os) = Q o × AllOps Q os

pub all_ops : (Q : Op → Type 0) (S : List Op) → ((p : Op) → Contains S p → Q p) → AllOps Q S
all_ops Q [] h = tt
all_ops Q (p ∷ ps) h = (h p (first_in p ps), all_ops Q ps (λ x k. h x (later_in x p ps k)))

pub some_in : (f : Op → Bool) (S : List Op) → some_op f S ≡ true → (p : Op) × Contains S p × (f p ≡ true)
some_in f [] h = cc
some_in f (p ∷ ps) h = go (f p) refl h (some_in f ps)
  where
    go : (b : Bool) → f p ≡ b → (b || some_op f ps) ≡ true → (some_op f ps ≡ true → (q : Op) × Contains ps q × (f q ≡ true)) → (q : Op) × Contains (p ∷ ps) q × (f q ≡ true)
    go true e x k = (p, first_in p ps, e)
    go false e x k = let r = k x in (r.0, later_in r.0 p ps r.1, r.2)

pub in_some : (f : Op → Bool) (S : List Op) (p : Op) → Contains S p → f p ≡ true → some_op f S ≡ true
in_some f [] p k h = none_in p k
in_some f (q ∷ qs) p k h = go (in_cons p q qs k) (λ m. in_some f qs p m h)
  where
    go : (q ≡ p) ⊎ Contains qs p → (Contains qs p → some_op f qs ≡ true) → (f q || some_op f qs) ≡ true
    go (inl e) g = left_in (f q) (some_op f qs) (ap f e ∙ h)
    go (inr m) g = or_right (f q) (some_op f qs) (g m)

-- ---- paths

pub paths_self : (P : List Tagged) → same_path P P ≡ true
paths_self [] = refl
paths_self (MapT k ∷ ts) = both_true (same_key k k) (same_path ts ts) (keys_self k) (paths_self ts)
paths_self (ListT k ∷ ts) = both_true (same_key k k) (same_path ts ts) (keys_self k) (paths_self ts)
paths_self (RegT k ∷ ts) = both_true (same_key k k) (same_path ts ts) (keys_self k) (paths_self ts)

pub paths_eq : (P Q : List Tagged) → same_path P Q ≡ true → P ≡ Q
paths_eq [] [] h = refl
paths_eq [] (u ∷ us) h = cc
paths_eq (t ∷ ts) [] h = cc
paths_eq (t ∷ ts) (u ∷ us) h =
    let one : t ≡ u = tags_eq t u (first_true (same_tagged t u) (same_path ts us) h) in
    let rest : ts ≡ us = paths_eq ts us (second_true (same_tagged t u) (same_path ts us) h) in
    cc

-- a path that ends in a list
pub list_path : (P : List Tagged) → list_at false P ≡ true → (above : List Tagged) × (l : Key) × (P ≡ above ++ ListT l ∷ [])
list_path [] h = cc
list_path (ListT l ∷ []) h = ([], l, refl)
list_path (MapT l ∷ []) h = cc
list_path (RegT l ∷ []) h = cc
list_path (t ∷ u ∷ us) h = let r = list_path (u ∷ us) h in (t ∷ r.0, r.1, ap (λ x. t ∷ x) r.2)

pub is_above : (P : List Tagged) (k : Key) (Q : List Tagged) (q : Key) → is_at_or_above P k Q q ≡ true → IsAtOrAbove P k Q q
is_above [] k [] q h = ([], refl, sym (keys_eq k q h))
is_above [] k (u ∷ us) q h = (u ∷ us, refl, sym (keys_eq k (key_of_tagged u) h))
is_above (t ∷ ts) k [] q h = cc
is_above (t ∷ ts) k (u ∷ us) q h =
    let one : t ≡ u = tags_eq t u (first_true (same_tagged t u) (is_at_or_above ts k us q) h) in
    let r = is_above ts k us q (second_true (same_tagged t u) (is_at_or_above ts k us q) h) in
    let rest : us ≡ ts ++ r.0 = r.1 in
    let whole : u ∷ us ≡ t ∷ (ts ++ r.0) = cc in
    (r.0, whole, r.2)

-- a place above another one, below a list
pub at_list : (P : List Tagged) (k : Key) (Q : List Tagged) (q : Key) → list_at false P ≡ true → is_at_or_above P k Q q ≡ true → (above : List Tagged) × (l : Key) × (P ≡ above ++ ListT l ∷ []) × IsAtOrAbove (above ++ ListT l ∷ []) k Q q
at_list P k Q q list h =
    let x = list_path P list in
    (x.0, x.1, x.2, subst (λ R. IsAtOrAbove R k Q q) x.2 (is_above P k Q q h))

-- ---- inserts

-- the identifier is that of an insert into the list at the path
abbrev pub inserted_at : List Op → List Tagged → Id → Bool
inserted_at U P j = holds_of (λ o. is_insert o.mutation && same_path o.cursor.path P) (op_of j U)

pub insert_is : (m : Mutation) → IsInsert m → is_insert m ≡ true
insert_is (M.Insert v) h = refl
insert_is (M.Assign v) h = absurd h
insert_is M.Delete h = absurd h

pub is_insert-is : (m : Mutation) → is_insert m ≡ true → IsInsert m
is_insert-is (M.Insert v) h = tt
is_insert-is (M.Assign v) h = cc
is_insert-is M.Delete h = cc

pub inserted_by : (U : List Op) (P : List Tagged) (j : Id) (e : Op) → op_of j U ≡ Some e → is_insert e.mutation ≡ true → same_path e.cursor.path P ≡ true → inserted_at U P j ≡ true
inserted_by U P j e found is path = ap (holds_of (λ o. is_insert o.mutation && same_path o.cursor.path P)) found ∙ both_true (is_insert e.mutation) (same_path e.cursor.path P) is path

pub record Inserted (S : List Op) (P : List Tagged) (i : Id) : Type 0 where
  pub op : Op
  pub found : op_of i S ≡ Some op
  pub within : Contains S op
  pub is : op.id ≡ i
  pub inserts : is_insert op.mutation ≡ true
  pub path : same_path op.cursor.path P ≡ true

pub the_insert : (S : List Op) (P : List Tagged) (i : Id) → inserted_at S P i ≡ true → Inserted S P i
the_insert S P i h = go (op_of i S) refl h
  where
    go : (x : Option Op) → op_of i S ≡ x → holds_of (λ o. is_insert o.mutation && same_path o.cursor.path P) x ≡ true → Inserted S P i
    go None e g = cc
    go (Some p) e g =
        let x = op_in i S p e in
        record {
          op = p;
          found = e;
          within = x.0;
          is = x.1;
          inserts = first_true (is_insert p.mutation) (same_path p.cursor.path P) g;
          path = second_true (is_insert p.mutation) (same_path p.cursor.path P) g;
        }

-- what hangs at a key was inserted there
pub hung_inserted : (S : List Op) (P : List Tagged) (k : Key) (i : Id) → hangs_at S P k i ≡ true → inserted_at S P i ≡ true
hung_inserted S P k i h = go (op_of i S) h
  where
    first : (a b c : Bool) → (a && (b && c)) ≡ true → (a && b) ≡ true
    first true true c x = refl
    first true false c x = cc
    first false b c x = cc

    go : (x : Option Op) → holds_of (names P k) x ≡ true → holds_of (λ o. is_insert o.mutation && same_path o.cursor.path P) x ≡ true
    go None g = cc
    go (Some p) g = first (is_insert p.mutation) (same_path p.cursor.path P) (same_key p.cursor.last k) g

pub not_hung : (S : List Op) (P : List Tagged) (k : Key) (i : Id) → inserted_at S P i ≡ false → hangs_at S P k i ≡ false
not_hung S P k i h = go (hangs_at S P k i) refl
  where
    go : (b : Bool) → hangs_at S P k i ≡ b → b ≡ false
    go true e = let x : inserted_at S P i ≡ true = hung_inserted S P k i e in let z : true ≡ false = sym x ∙ h in cc
    go false e = refl

-- at which key an insert hangs
pub hangs_is : (S : List Op) (P : List Tagged) (i : Id) (x : Inserted S P i) (k : Key) → hangs_at S P k i ≡ same_key x.op.cursor.last k
hangs_is S P i x k = ap (holds_of (names P k)) x.found ∙ third (is_insert x.op.mutation) (same_path x.op.cursor.path P) (same_key x.op.cursor.last k) x.inserts x.path
  where
    third : (a b c : Bool) → a ≡ true → b ≡ true → (a && (b && c)) ≡ c
    third true true c h g = refl
    third true false c h g = cc
    third false b c h g = cc

-- ---- one that comes next

-- what an operation depends on is in the set
abbrev pub DepsIn : List Op → Op → Type 0
DepsIn S p = (i : Id) → has_id i p.deps ≡ true → is_some (op_of i S) ≡ true

abbrev pub DepsOlder : Op → Type 0
DepsOlder p = (i : Id) → has_id i p.deps ≡ true → i.counter < p.id.counter

-- the key may stand directly below the list: it is the head, or an element on whose insert the operation depends
abbrev pub IsRoot : List Op → Op → List Tagged → Key → Type 0
IsRoot U o P K.Head = Unit {0}
IsRoot U o P (K.Elem j) = (has_id j o.deps ≡ true) × (inserted_at U P j ≡ true)
IsRoot U o P _ = ⊥

abbrev pub RootedIn : List Op → Op → Type 0
RootedIn U o = (P : List Tagged) (k : Key) → list_at false P ≡ true → is_at_or_above P k o.cursor.path o.cursor.last ≡ true → IsRoot U o P k

-- what is used of a sound and rooted set that is closed under dependencies
pub record IsGood (S : List Op) : Type 0 where
  pub one : (p : Op) → Contains S p → op_of p.id S ≡ Some p
  pub closed : (p : Op) → Contains S p → DepsIn S p
  pub older : (p : Op) → Contains S p → DepsOlder p
  pub rooted : (p : Op) → Contains S p → RootedIn S p

-- the operation may come next
pub record NewFor (S : List Op) (o : Op) : Type 0 where
  pub outside : op_of o.id S ≡ None
  pub deps_in : DepsIn S o
  pub older : DepsOlder o
  pub rooted : RootedIn S o
  pub good : IsGood S

no_dep : (S : List Op) (o p : Op) → op_of o.id S ≡ None → DepsIn S p → has_id o.id p.deps ≡ false
no_dep S o p outside h = go (has_id o.id p.deps) refl
  where
    go : (b : Bool) → has_id o.id p.deps ≡ b → b ≡ false
    go false e = refl
    go true e = let z : is_some (op_of o.id S) ≡ true = h o.id e in let w : false ≡ true = ap is_some (sym outside) ∙ z in cc

-- no operation of the set depends on it, and it doesn't depend on itself
pub not_in_deps_of : (S : List Op) (o : Op) → NewFor S o → (p : Op) → Contains S p → has_id o.id p.deps ≡ false
not_in_deps_of S o n p k = no_dep S o p n.outside (n.good.closed p k)

pub later_than : (S : List Op) (o : Op) → NewFor S o → AllOps (λ p. has_id o.id p.deps ≡ false) S
later_than S o n = all_ops (λ p. has_id o.id p.deps ≡ false) S (not_in_deps_of S o n)

pub not_its_own : (S : List Op) (o : Op) → NewFor S o → has_id o.id o.deps ≡ false
not_its_own S o n = no_dep S o o n.outside n.deps_in

pub not_inserted : (S : List Op) (o : Op) (P : List Tagged) → NewFor S o → inserted_at S P o.id ≡ false
not_inserted S o P n = ap (holds_of (λ p. is_insert p.mutation && same_path p.cursor.path P)) n.outside
