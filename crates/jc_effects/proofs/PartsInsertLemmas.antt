-- About Parts: the key behind which an insert puts its element (`IsKeyBefore`), and the links that it changes.
use Rattle.std.proofs.Common.{◌≡◌, ◌≢◌, zero, suc, ◌<◌, List, [], ◌∷◌, length, Bool, true, false, ◌||◌, cond, Option, Some, None, Contains, refl, sym, ◌∙◌, ap, subst, arith}
use Rattle.std.specs.List.{AllByRecursion}
use Rattle.std.specs.declared.cmp.Ordering.{Ordering}
use Rattle.std.specs.declared.cmp.Ordering.TheVariants.{Less, Equal, Greater}
use Rattle.jc_rules.specs.declared.id.Id.{Id}
use Rattle.jc_rules.specs.declared.key.Key.{Key}
use Rattle.jc_rules.specs.declared.key.Key.TheVariants as K
use Rattle.jc_rules.specs.declared.key.Next.{Next}
use Rattle.jc_rules.specs.declared.key.Next.TheVariants.{Tail, Elem as To}
use Rattle.jc_rules.specs.declared.operation.Mutation.{Mutation}
use Rattle.jc_rules.specs.declared.operation.Mutation.TheVariants as M
use Rattle.jc_rules.specs.declared.operation.Op.{Op}
use Rattle.jc_rules.specs.Order.{id_cmp, key_cmp, same_key}
use Rattle.jc_rules.specs.Entries.{find, keys_of}
use Rattle.jc_rules.specs.Context.{Context, context, no_child, links, next, key_of_tagged}
use Rattle.jc_rules.specs.WellFormed.{elements, AreDistinct, chain_of, IsChainedList}
use Rattle.jc_rules.proofs.BoolLemmas.{no_truth, neither, or_right}
use Rattle.jc_network.proofs.LinksKeptLemmas.{operates}
use Rattle.jc_tree.proofs.ChainedLeadsLemmas.{leads_from, leads_on, steps}
use Rattle.jc_vectors.specs.OperationIds.{with_deps}
use Rattle.jc_meaning.specs.Effects.{list_at, is_insert, target_of, target}
use Rattle.jc_meaning.specs.Forest.{preorder, follow, is_less}
use Rattle.jc_meaning.specs.Meaning.{LinksOf}
use Rattle.jc_meaning.specs.Seen.{seen}
use Rattle.jc_meaning.proofs.ChainLemmas.{after, key_in}
use Rattle.jc_meaning.proofs.ForestOnceLemmas.{IsWhole, whole, distinct_from, head_out}
use Rattle.jc_meaning.proofs.InsertWalkLemmas.{Distinct, StopsAt, followed_in, walked, linked}
use Rattle.jc_meaning.proofs.MeaningStepLemmas.{reached}
use Rattle.jc_meaning.proofs.NextOperationLemmas.{is_insert-is, not_inserted}
use Rattle.jc_meaning.proofs.OperationActsLemmas.{Changes}
use Rattle.jc_meaning.proofs.OrdersLemmas.{keys_eq, keys_self}
use Rattle.jc_meaning.proofs.RootedSetsLemmas.{next_new}
use Rattle.jc_meaning.proofs.RootsLemmas.{leads_through}
use Rattle.jc_effects.specs.Difference.{IsSameAt, IsSameFrom}
use Rattle.jc_effects.specs.Laws.{IsChangedBy}
use Rattle.jc_effects.specs.Parts.{IsKeyBefore}
use Rattle.jc_effects.proofs.ElsewhereLemmas.{changes_of, insert_listed}
use Rattle.jc_effects.proofs.LawsPathLemmas.{below_other, inserted_at_other}

-- ---- the chain of the list as it was

-- What the walk keeps: the key is linked, and the element belongs behind it as behind the operation's last key.
pub record WalkedTo (o : Op) (c : Context) (k : Key) : Type 0 where
  pub elements : List Id
  pub distinct : Distinct K.Head elements
  pub out : key_in (K.Elem o.id) elements ≡ false
  pub links : (l : Key) → next l c ≡ follow K.Head elements l
  pub behind : after o.cursor.last o.id K.Head elements ≡ after k o.id K.Head elements
  pub linked : follow K.Head elements k ≢ None

pub walk_begins : (o : Op) (c d : Context) → IsChangedBy o c d → is_insert o.mutation ≡ true → WalkedTo o (seen o.cursor.path c) o.cursor.last
walk_begins o c d x is =
    let S = x.1.set in
    let new = next_new S (with_deps x.0 o) x.1.next in
    let list : list_at false o.cursor.path ≡ true = insert_listed S (with_deps x.0 o) c d x.1.means x.1.leads is in
    let l : LinksOf true S o.cursor.path (seen o.cursor.path c) = subst (λ b. LinksOf b S o.cursor.path (seen o.cursor.path c)) list (x.1.means.links o.cursor.path) in
    let w : IsWhole S o.cursor.path l.0 = whole S new.good o.cursor.path list l.0 l.1 in
    record {
      elements = preorder l.0;
      distinct = distinct_from (preorder l.0) K.Head (head_out (preorder l.0)) w.once;
      out = w.only o.id (not_inserted S (with_deps x.0 o) o.cursor.path new);
      links = l.2;
      behind = refl;
      linked = λ e. reached o.cursor.path c o.cursor.last ((operates c (with_deps x.0 o) d x.1.leads).wants (is_insert-is o.mutation is)) (l.2 o.cursor.last ∙ e);
    }

in_follows : (j : Key) (ns : List Id) (k : Key) → (same_key j k || key_in k ns) ≡ true → follow j ns k ≢ None
in_follows j [] k e = go (same_key j k) e
  where
    go : (b : Bool) → (b || false) ≡ true → cond b (Some Tail) None ≢ None
    go true f = λ g. cc
    go false f = no_truth f
in_follows j (n ∷ ns) k e = go (same_key j k) e (in_follows (K.Elem n) ns k)
  where
    go : (b : Bool) → (b || key_in k (n ∷ ns)) ≡ true → (key_in k (n ∷ ns) ≡ true → follow (K.Elem n) ns k ≢ None) → cond b (Some (To n)) (follow (K.Elem n) ns k) ≢ None
    go true f h = λ g. cc
    go false f h = h f

less_is : (r : Ordering) → r ≡ Less → is_less r ≡ true
less_is r e = ap is_less e

pub walk_goes : (o : Op) (c : Context) (k : Key) (i : Id) → WalkedTo o c k → next k c ≡ Some (To i) → id_cmp o.id i ≡ Less → WalkedTo o c (K.Elem i)
walk_goes o c k i w e less =
    let f : follow K.Head w.elements k ≡ Some (To i) = sym (w.links k) ∙ e in
    record {
      elements = w.elements;
      distinct = w.distinct;
      out = w.out;
      links = w.links;
      behind = w.behind ∙ walked k o.id i K.Head w.elements w.distinct f (less_is (id_cmp o.id i) less);
      linked = in_follows K.Head w.elements (K.Elem i) (or_right (same_key K.Head (K.Elem i)) (key_in (K.Elem i) w.elements) (followed_in K.Head w.elements k i f));
    }

not_less : (r : Ordering) → r ≢ Less → is_less r ≡ false
not_less Less h = absurd (h refl)
not_less Equal h = refl
not_less Greater h = refl

pub walk_ends : (o : Op) (c : Context) (k : Key) → WalkedTo o c k → ((i : Id) → next k c ≡ Some (To i) → id_cmp o.id i ≢ Less) → IsKeyBefore o c k
walk_ends o c k w none = go (follow K.Head w.elements k) refl
  where
    stops : (n : Next) → follow K.Head w.elements k ≡ Some n → StopsAt o.id n
    stops Tail e = tt
    stops (To m) e = not_less (id_cmp o.id m) (none m (w.links k ∙ e))

    go : (n : Option Next) → follow K.Head w.elements k ≡ n → IsKeyBefore o c k
    go None e = absurd (w.linked e)
    go (Some n) e = record { elements = w.elements; distinct = w.distinct; out = w.out; links = w.links; behind = w.behind; stop = n; stops = e; lesser = stops n e }

-- ---- the walk ends

-- the links alone
abbrev pub only_links : Context → Context
only_links c = context no_child no_child [] [] (links c)

apart_all : (j : Key) (ns : List Id) → key_in j ns ≡ false → AllByRecursion (λ y. y ≢ j) (elements ns)
apart_all j [] e = tt
apart_all j (n ∷ ns) e = (
  λ f. let same : same_key (K.Elem n) j ≡ true = subst (λ z. same_key (K.Elem n) z ≡ true) f (keys_self (K.Elem n)) in let z : false ≡ true = sym (neither (same_key (K.Elem n) j) (key_in j ns) e).0 ∙ same in no_truth z,
  apart_all j ns (neither (same_key (K.Elem n) j) (key_in j ns) e).1,
)

distinct_chain : (j : Key) (ns : List Id) → Distinct j ns → AreDistinct (j ∷ elements ns)
distinct_chain j [] d = (tt, tt)
distinct_chain j (n ∷ ns) d = (apart_all j (n ∷ ns) d.0, distinct_chain (K.Elem n) ns d.1)

all_found : (P : Key → Type 0) (es : List (Key × Next)) → ((k : Key) → find key_cmp k es ≢ None → P k) → AllByRecursion P (keys_of es)
all_found P [] f = tt
all_found P (e ∷ es) f = (f e.0 (λ g. first g), all_found P es (λ k h. f k (λ g. later k h (same_key k e.0) g)))
  where
    first : cond (same_key e.0 e.0) (Some e.1) (find key_cmp e.0 es) ≡ None → ⊥
    first g = let z : Some e.1 ≡ None = ap (λ b. cond b (Some e.1) (find key_cmp e.0 es)) (sym (keys_self e.0)) ∙ g in cc

    later : (k : Key) → find key_cmp k es ≢ None → (b : Bool) → cond b (Some e.1) (find key_cmp k es) ≡ None → ⊥
    later k h true g = cc
    later k h false g = h g

contains_later : (x : Key) (xs : List Key) (k : Key) → Contains xs k → Contains (x ∷ xs) k
contains_later x xs k (n, lt, e) = (suc n, omega (arith, lt), e)

follow_contains : (j : Key) (ns : List Id) (k : Key) → follow j ns k ≢ None → Contains (j ∷ elements ns) k
follow_contains j [] k h = go (same_key j k) refl h
  where
    go : (b : Bool) → same_key j k ≡ b → cond b (Some Tail) None ≢ None → Contains (j ∷ []) k
    go true e f = (zero, omega arith, keys_eq j k e)
    go false e f = absurd (f refl)
follow_contains j (n ∷ ns) k h = go (same_key j k) refl h (follow_contains (K.Elem n) ns k)
  where
    go : (b : Bool) → same_key j k ≡ b → cond b (Some (To n)) (follow (K.Elem n) ns k) ≢ None → (follow (K.Elem n) ns k ≢ None → Contains (elements (n ∷ ns)) k) → Contains (j ∷ elements (n ∷ ns)) k
    go true e f ih = (zero, omega arith, keys_eq j k e)
    go false e f ih = contains_later j (elements (n ∷ ns)) k (ih f)

chained : (o : Op) (c : Context) (k : Key) → WalkedTo o c k → IsChainedList (only_links c)
chained o c k w = (
  (
    w.elements,
    record {
      leads = leads_through (only_links c) w.elements w.distinct (λ l. w.links l);
      distinct = distinct_chain K.Head w.elements w.distinct;
      no_other = all_found (Contains (chain_of w.elements)) (links c) (λ l h. follow_contains K.Head w.elements l (λ e. h (w.links l ∙ e)));
    },
  ),
  tt,
  tt,
)

pub walk_nearer : (o : Op) (c : Context) (k : Key) (i : Id) → WalkedTo o c k → next k c ≡ Some (To i) → steps (Some (K.Elem i)) (length (links c)) (only_links c) < steps (Some k) (length (links c)) (only_links c)
walk_nearer o c k i w e = (leads_on (only_links c) k (To i) (leads_from (only_links c) k (To i) (chained o c k w) e) e).1

-- ---- the links that differ

pub insert_target : (o : Op) → is_insert o.mutation ≡ true → target o ≡ K.Elem o.id
insert_target o is = go o.mutation is
  where
    go : (m : Mutation) → is_insert m ≡ true → target_of m o.id o.cursor.last ≡ K.Elem o.id
    go M.Delete e = no_truth e
    go (M.Assign v) e = no_truth e
    go (M.Insert v) e = refl

-- the key before isn't the new element
pub before_other : (o : Op) (c : Context) (k : Key) → is_insert o.mutation ≡ true → IsKeyBefore o c k → same_key (target o) k ≡ false
before_other o c k is b = subst (λ z. same_key z k ≡ false) (sym (insert_target o is)) (go (same_key (K.Elem o.id) k) refl)
  where
    none : (j : Key) (ns : List Id) → same_key j (K.Elem o.id) ≡ false → key_in (K.Elem o.id) ns ≡ false → follow j ns (K.Elem o.id) ≡ None
    none j [] e f = ap (λ b. cond b (Some Tail) None) e
    none j (n ∷ ns) e f = ap (λ b. cond b (Some (To n)) (follow (K.Elem n) ns (K.Elem o.id))) e ∙ none (K.Elem n) ns (neither (same_key (K.Elem n) (K.Elem o.id)) (key_in (K.Elem o.id) ns) f).0 (neither (same_key (K.Elem n) (K.Elem o.id)) (key_in (K.Elem o.id) ns) f).1

    go : (s : Bool) → same_key (K.Elem o.id) k ≡ s → same_key (K.Elem o.id) k ≡ false
    go false e = e
    go true e =
        let same : K.Elem o.id ≡ k = keys_eq (K.Elem o.id) k e in
        let z : None ≡ Some b.stop = sym (none K.Head b.elements refl b.out) ∙ ap (follow K.Head b.elements) same ∙ b.stops in
        cc

-- no other key is linked otherwise
pub links_at_other : (o : Op) (c d : Context) (x : IsChangedBy o c d) → is_insert o.mutation ≡ true → (k : Key) → IsKeyBefore o (seen o.cursor.path c) k
    → (l : Key) → same_key (K.Elem o.id) l ≡ false → same_key k l ≡ false → next l (seen o.cursor.path d) ≡ next l (seen o.cursor.path c)
links_at_other o c d x is k b l e f =
    let m : Changes o.id x.0 o.cursor.path o.cursor.last o.mutation c d = changes_of (with_deps x.0 o) c d x.1 in
    m.linked is b.elements b.distinct b.out b.links l
    ∙ ap (λ ns. follow K.Head ns l) b.behind
    ∙ linked k o.id K.Head b.elements b.stop b.distinct refl b.out b.stops b.lesser l
    ∙ ap (λ s. cond s (Some b.stop) (cond (same_key k l) (Some (To o.id)) (follow K.Head b.elements l))) e
    ∙ ap (λ s. cond s (Some (To o.id)) (follow K.Head b.elements l)) f
    ∙ sym (b.links l)

pub others_at_insert : (o : Op) (c d : Context) (x : IsChangedBy o c d) → is_insert o.mutation ≡ true → (k : Key) → IsKeyBefore o (seen o.cursor.path c) k
    → (l : Key) → same_key (target o) l ≡ false → same_key k l ≡ false → IsSameFrom l (seen o.cursor.path c) (seen o.cursor.path d)
others_at_insert o c d x is k b l e f [] j g =
    let linked_as : next l (seen o.cursor.path d) ≡ next l (seen o.cursor.path c) = links_at_other o c d x is k b l (ap (λ z. same_key z l) (sym (insert_target o is)) ∙ e) f in
    subst (λ z. IsSameAt z (seen o.cursor.path c) (seen o.cursor.path d)) (keys_eq l j g) (inserted_at_other o c d x l e linked_as)
others_at_insert o c d x is k b l e f (u ∷ R) j g = below_other o c d x u R j (ap (same_key (target o)) (sym (keys_eq l (key_of_tagged u) g)) ∙ e)
