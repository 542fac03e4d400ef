-- Lemmas about Rooted: cursors and trees stay right while more operations are made and applied.
use Rattle.std.proofs.Common.{◌≡◌, ◌≢◌, ℕ, List, [], ◌∷◌, ◌++◌, Option, Some, None, Bool, true, false, cond, refl, sym, ◌∙◌, ap, subst}
use Rattle.std.specs.List.{AllByRecursion}
use Rattle.std.specs.Ordering.{eq_by_cmp}
use Rattle.std.proofs.lemmas.Option.{same_Some}
use Rattle.jc_rules.specs.declared.id.Id.{Id}
use Rattle.jc_rules.specs.declared.key.Key.{Key}
use Rattle.jc_rules.specs.declared.key.Key.TheVariants.{Head, Elem}
use Rattle.jc_rules.specs.declared.key.Next.{Next}
use Rattle.jc_rules.specs.declared.key.Next.TheVariants.{Tail, Elem as To}
use Rattle.jc_rules.specs.declared.key.Tagged.{Tagged}
use Rattle.jc_rules.specs.declared.key.Tagged.TheVariants.{MapT, ListT, RegT}
use Rattle.jc_rules.specs.declared.operation.Op.{Op}
use Rattle.jc_rules.specs.declared.operation.Cursor.{Cursor}
use Rattle.jc_rules.specs.Order.{key_cmp}
use Rattle.jc_rules.specs.Entries.{find, put}
use Rattle.jc_rules.specs.Ids.{has_id, with_id, AreIn}
use Rattle.jc_rules.specs.Context.{Context, Content, Node, Values, node_of, content, maps, lists, empty, empty_list}
use Rattle.jc_rules.specs.State.{Bound, ACursor, Names, Pairs}
use Rattle.jc_rules.specs.Derivation.{Operate, ToContext}
use Rattle.jc_rules.specs.Refused.{IsAnswered}
use Rattle.jc_rules.proofs.OrderLemmas.{keys_total, exact_keys}
use Rattle.jc_rules.proofs.EntriesLemmas.{same-self, find-put}
use Rattle.jc_rules.proofs.HistoryLemmas.{same_ends}
use Rattle.jc_network.specs.LinksEverywhere.{LinksHold, LinksAt, Everywhere, Reach}
use Rattle.jc_apply.specs.Fits.{content_or_new, child_context, InChild}
use Rattle.jc_rules.specs.ContextsAt.{node_in}
use Rattle.jc_rules.specs.Paths.{HasContext}
use Rattle.jc_network.specs.Rooted.{IsListPath, IsInserted, IsRootKey, head, element, IsRootedCursor, IsRootedBound, AreRightLinks}
use Rattle.jc_network.proofs.LinksEverywhereLemmas.{OfNew, entry-found, entries-put, at_root, in_entered, all_follow}
use Rattle.jc_network.proofs.LinksKeptLemmas.{operates}
use Rattle.jc_network.proofs.MembersLemmas.{still_with_id, now_with_id}
use Rattle.jc_rules.proofs.BoolLemmas.{not_none}

-- ---- more is made, and more is applied

module _ (In More : Op → Type 0) (ops others : List Id) (made : (o : Op) → In o → More o) (applied : AreIn ops others) where
  inserted_still : (i : Id) (P : List Tagged) → IsInserted In i P → IsInserted More i P
  inserted_still i P h = record { op = h.op; made = made h.op h.made; is = h.is; inserts = h.inserts; path = h.path }

  pub key_still : (P : List Tagged) (k : Key) → IsRootKey In ops P k → IsRootKey More others P k
  key_still P k (head e) = head e
  key_still P k (element i e a h) = element i e (applied i a) (inserted_still i P h)

  pub cursor_still : (cur : Cursor) → IsRootedCursor In ops cur → IsRootedCursor More others cur
  cursor_still cur h = record { plain = h.plain; rooted = λ above l k s. key_still (above ++ ListT l ∷ []) k (h.rooted above l k s) }

  pub bound_still : (b : Bound) → IsRootedBound In ops b → IsRootedBound More others b
  bound_still (ACursor cur) h = cursor_still cur h
  bound_still (Names ks) h = h
  bound_still (Pairs vs) h = h

  pub vars_still : (vs : List (List ℕ × Bound)) → AllByRecursion (λ v. IsRootedBound In ops v.1) vs → AllByRecursion (λ v. IsRootedBound More others v.1) vs
  vars_still [] h = tt
  vars_still (v ∷ vs) h = (bound_still v.1 h.0, vars_still vs h.1)

  keys_still : (P : List Tagged) (es : LinksHold) → AllByRecursion (λ e. IsListPath P × IsRootKey In ops P e.0) es → AllByRecursion (λ e. IsListPath P × IsRootKey More others P e.0) es
  keys_still P [] h = tt
  keys_still P (e ∷ es) h = ((h.0.0, key_still P e.0 h.0.1), keys_still P es h.1)

  pub links_still : (P : List Tagged) (n : LinksHold) → AreRightLinks In ops P n → AreRightLinks More others P n
  links_still P n h = record { keys = keys_still P n h.keys; closed = h.closed; headed = h.headed }

  pub tree_still : (c : Context) → Everywhere (AreRightLinks In ops) c → Everywhere (AreRightLinks More others) c
  tree_still c h = all_follow _ _ c links_still h

-- ---- new maps and lists, and an insert

not_listed : {A : Type 0} (P : List Tagged) (k : Key) → IsListPath (P ++ MapT k ∷ []) → A
not_listed P k (above, l, e) = let f : MapT k ≡ ListT l = (same_ends P above _ _ e).1 in cc

new_closed : (k : Key) (j : Id) → find key_cmp k ((Head, Tail) ∷ []) ≡ Some (To j) → find key_cmp (Elem j) ((Head, Tail) ∷ []) ≢ None
new_closed k j e = absurd (go (eq_by_cmp key_cmp k Head) e)
  where
    go : (b : Bool) → cond b (Some Tail) None ≡ Some (To j) → ⊥
    go true f = cc
    go false f = cc

pub of_new : (In : Op → Type 0) (ops : List Id) → OfNew (AreRightLinks In ops)
of_new In ops P k = (
  record { keys = tt; closed = λ j i e. cc; headed = λ l. not_listed P k l },
  record { keys = ((((P, k, refl), head refl)), tt); closed = new_closed; headed = λ l e. cc },
)

stays : (k j : Key) (x : Next) (n : LinksHold) → find key_cmp k n ≢ None → find key_cmp k (put key_cmp j x n) ≢ None
stays k j x n h = go (eq_by_cmp key_cmp k j) refl
  where
    go : (b : Bool) → eq_by_cmp key_cmp k j ≡ b → find key_cmp k (put key_cmp j x n) ≢ None
    go true b = not_none x _ (find-put keys_total exact_keys k j x n ∙ rw b refl)
    go false b = λ g. h (sym (find-put keys_total exact_keys k j x n ∙ rw b refl) ∙ g)

put_there : (j : Key) (x : Next) (n : LinksHold) → find key_cmp j (put key_cmp j x n) ≢ None
put_there j x n = not_none x _ (find-put keys_total exact_keys j j x n ∙ rw (same-self keys_total exact_keys j) refl)

module _ (In : Op → Type 0) (ops : List Id) (i : Id) (path : List Tagged) (n : LinksHold) (k : Key) (x : Next) (h : AreRightLinks In ops path n) (there : find key_cmp k n ≡ Some x) (applied : has_id i ops ≡ true) (inserted : IsInserted In i path) where
  abbrev pub with_link : LinksHold
  with_link = put key_cmp (Elem i) x (put key_cmp k (To i) n)

  after_all : (j : Key) → find key_cmp j n ≢ None → find key_cmp j with_link ≢ None
  after_all j g = stays j (Elem i) x (put key_cmp k (To i) n) (stays j k (To i) n g)

  with_keys : AllByRecursion (λ e. IsListPath path × IsRootKey In ops path e.0) with_link
  with_keys =
      let old = entry-found (λ e. IsListPath path × IsRootKey In ops path e.0) k x n h.keys there in
      entries-put (λ e. IsListPath path × IsRootKey In ops path e.0) (Elem i) x (put key_cmp k (To i) n) (old.0, element i refl applied inserted)
      (entries-put (λ e. IsListPath path × IsRootKey In ops path e.0) k (To i) n old h.keys)

  with_closed : (l : Key) (j : Id) → find key_cmp l with_link ≡ Some (To j) → find key_cmp (Elem j) with_link ≢ None
  with_closed l j e = go (eq_by_cmp key_cmp l (Elem i)) refl (eq_by_cmp key_cmp l k) refl
    where
      here : (b : Bool) → eq_by_cmp key_cmp l (Elem i) ≡ b → cond b (Some x) (find key_cmp l (put key_cmp k (To i) n)) ≡ Some (To j)
      here b f = sym (find-put keys_total exact_keys l (Elem i) x (put key_cmp k (To i) n) ∙ rw f refl) ∙ e

      later : (b : Bool) → eq_by_cmp key_cmp l k ≡ b → find key_cmp l (put key_cmp k (To i) n) ≡ cond b (Some (To i)) (find key_cmp l n)
      later b f = find-put keys_total exact_keys l k (To i) n ∙ rw f refl

      go : (b : Bool) → eq_by_cmp key_cmp l (Elem i) ≡ b → (d : Bool) → eq_by_cmp key_cmp l k ≡ d → find key_cmp (Elem j) with_link ≢ None
      go true f d g =
          let s : Some x ≡ Some (To j) = here true f in
          after_all (Elem j) (h.closed k j (there ∙ s))
      go false f true g =
          let s : Some (To i) ≡ Some (To j) = sym (later true g) ∙ here false f in
          let t : i ≡ j = cc in
          subst (λ m. find key_cmp (Elem m) with_link ≢ None) t (put_there (Elem i) x (put key_cmp k (To i) n))
      go false f false g =
          let s : find key_cmp l n ≡ Some (To j) = sym (later false g) ∙ here false f in
          after_all (Elem j) (h.closed l j s)

  pub right_with_link : AreRightLinks In ops path with_link
  right_with_link = record { keys = with_keys; closed = with_closed; headed = λ l. after_all Head (h.headed l) }

-- ---- an operation is applied

module _ (In More : Op → Type 0) (ops : List Id) (made : (o : Op) → In o → More o) (o : Op) (now : More o) where
  pub tree_after : (c d : Context) → Everywhere (AreRightLinks In ops) c → IsAnswered (Operate c o) (ToContext d) → Everywhere (AreRightLinks More (with_id o.id ops)) d
  tree_after c d h s =
      let kept : AreIn ops (with_id o.id ops) = λ j e. still_with_id j o.id ops e in
      let more : (P : List Tagged) (n : LinksHold) → AreRightLinks In ops P n → AreRightLinks More (with_id o.id ops) P n = links_still In More ops (with_id o.id ops) made kept in
      (operates c o d s).all _ _ (of_new In ops) more
      (λ is k x n q there. right_with_link More (with_id o.id ops) o.id o.cursor.path n k x (more o.cursor.path n q) there (now_with_id o.id ops) (record { op = o; made = now; is = refl; inserts = is; path = refl }))
      h

-- ---- what is reached is where it should be

entered : (t : Tagged) (c d : Context) → child_context t c ≡ Some d → Node d ≡ content_or_new t (content t c)
entered t c d e = go (content_or_new t (content t c)) e
  where
    go : (x : Content) → node_in (Some x) ≡ Some d → Node d ≡ x
    go (Node f) g = let s : f ≡ d = same_Some f d g in ap (λ y. Node y) (sym s)
    go (Values v) g = cc

-- S holds of each key that has a link
abbrev LinkedIn : (List Tagged → Key → Type 0) → LinksAt
LinkedIn S = λ P n. (k : Key) → find key_cmp k n ≢ None → S P k

pub reached_in : (S : List Tagged → Key → Type 0) (P : List Tagged) (c : Context) (k : Key) → OfNew (LinkedIn S) → Everywhere (LinkedIn S) c → Reach c P k → S P k
reached_in S [] c k new h r = at_root (LinkedIn S) c h k r
reached_in S (t ∷ P) c k new h r = go (child_context t c) refl (λ d e g. reached_in (λ Q. S (t ∷ Q)) P d k (λ Q. new (t ∷ Q)) (in_entered (LinkedIn S) t c d new (entered t c d e) h) g) r
  where
    go : (o : Option Context) → child_context t c ≡ o → ((d : Context) → child_context t c ≡ Some d → Reach d P k → S (t ∷ P) k) → InChild o (λ d. Reach d P k) → S (t ∷ P) k
    go None e f g = absurd g
    go (Some d) e f g = f d e g

-- a key with a link stands in a list
pub reached_listed : (In : Op → Type 0) (ops : List Id) (P : List Tagged) (c : Context) (k : Key) → Everywhere (AreRightLinks In ops) c → Reach c P k → IsListPath P
reached_listed In ops P c k h r = reached_in (λ Q j. IsListPath Q) P c k new (all_follow _ _ c right h) r
  where
    found : (Q : List Tagged) (n : LinksHold) (j : Key) → AreRightLinks In ops Q n → (x : Option Next) → find key_cmp j n ≡ x → find key_cmp j n ≢ None → IsListPath Q
    found Q n j a None e f = absurd (f e)
    found Q n j a (Some x) e f = (entry-found (λ e. IsListPath Q × IsRootKey In ops Q e.0) j x n a.keys e).0

    right : (Q : List Tagged) (n : LinksHold) → AreRightLinks In ops Q n → (j : Key) → find key_cmp j n ≢ None → IsListPath Q
    right Q n a j f = found Q n j a (find key_cmp j n) refl f

    new : OfNew (λ Q n. (j : Key) → find key_cmp j n ≢ None → IsListPath Q)
    new Q j = (right _ _ (of_new In ops Q j).0, right _ _ (of_new In ops Q j).1)

-- a tagged key of a map or a list has a child, a new one where none was made
pub child_there : (t : Tagged) (c : Context) → HasContext t → (d : Context) × (child_context t c ≡ Some d)
child_there (MapT k) c h = go (find key_cmp k (maps c))
  where
    go : (o : Option Context) → (d : Context) × (node_in (Some (content_or_new (MapT k) (node_of o))) ≡ Some d)
    go None = (empty, refl)
    go (Some d) = (d, refl)
child_there (ListT k) c h = go (find key_cmp k (lists c))
  where
    go : (o : Option Context) → (d : Context) × (node_in (Some (content_or_new (ListT k) (node_of o))) ≡ Some d)
    go None = (empty_list, refl)
    go (Some d) = (d, refl)
child_there (RegT k) c h = absurd h

-- L says of which paths the head is reached
abbrev HeadedIn : (List Tagged → Type 0) → LinksAt
HeadedIn L = λ P n. L P → find key_cmp Head n ≢ None

head_reached_in : (L : List Tagged → Type 0) (P : List Tagged) (c : Context) → OfNew (HeadedIn L) → Everywhere (HeadedIn L) c → AllByRecursion HasContext P → L P → Reach c P Head
head_reached_in L [] c new h a l = at_root (HeadedIn L) c h l
head_reached_in L (t ∷ P) c new h a l =
    let x = child_there t c a.0 in
    subst (λ o. InChild o (λ d. Reach d P Head)) (sym x.1) (head_reached_in (λ Q. L (t ∷ Q)) P x.0 (λ Q. new (t ∷ Q)) (in_entered (HeadedIn L) t c x.0 new (entered t c x.0 x.1) h) a.1 l)

-- the head of each list is reached
pub head_reached : (In : Op → Type 0) (ops : List Id) (P : List Tagged) (c : Context) → Everywhere (AreRightLinks In ops) c → AllByRecursion HasContext P → IsListPath P → Reach c P Head
head_reached In ops P c h a l = head_reached_in IsListPath P c (λ Q k. (((of_new In ops Q k).0).headed, ((of_new In ops Q k).1).headed)) (all_follow _ _ c (λ Q n r. r.headed) h) a l
