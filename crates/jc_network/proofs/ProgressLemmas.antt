-- Lemmas about progress: an operation that fits has an answer, and one that is due can be applied.
use Rattle.std.proofs.Common.{◌≡◌, ◌≢◌, ℕ, List, [], ◌∷◌, Option, Some, None, true, false, ◌⊎◌, inl, inr, refl, sym, ◌∙◌, ap, subst}
use Rattle.std.specs.List.{AllByRecursion}
use Rattle.std.specs.declared.cmp.Ordering.{Ordering}
use Rattle.std.specs.declared.cmp.Ordering.TheVariants.{Less, Equal, Greater}
use Rattle.jc_rules.specs.declared.id.Id.{Id}
use Rattle.jc_rules.specs.declared.key.Key.{Key}
use Rattle.jc_rules.specs.declared.key.Key.TheVariants as K
use Rattle.jc_rules.specs.declared.key.Next.{Next}
use Rattle.jc_rules.specs.declared.key.Next.TheVariants.{Tail, Elem as To}
use Rattle.jc_rules.specs.declared.key.Tagged.{Tagged}
use Rattle.jc_rules.specs.declared.key.Tagged.TheVariants.{MapT, ListT, RegT}
use Rattle.jc_rules.specs.declared.operation.Op.{Op}
use Rattle.jc_rules.specs.declared.operation.Event.TheVariants as E
use Rattle.jc_rules.specs.declared.operation.Mutation.{Mutation}
use Rattle.jc_rules.specs.declared.operation.Mutation.TheVariants as M
use Rattle.jc_rules.specs.declared.rule.Rule.{Rule}
use Rattle.jc_rules.specs.declared.rule.Rule.TheVariants as R
use Rattle.jc_rules.specs.declared.value.Value.{Value}
use Rattle.jc_rules.specs.declared.value.Value.TheVariants as V
use Rattle.jc_rules.specs.Order.{key_cmp, id_cmp}
use Rattle.jc_rules.specs.Entries.{find}
use Rattle.jc_rules.specs.Ids.{has_id, AreIn}
use Rattle.jc_rules.specs.Context.{Context, context, Content, Node, Values, Register, IsPrimitive, values_of, content, new_content, next, registers, empty, empty_list, key_of_tagged}
use Rattle.jc_rules.specs.WellFormed.{LeadsThrough, IsChained, IsChainedList}
use Rattle.jc_rules.specs.Sound.{IsInsert}
use Rattle.jc_rules.specs.State.{State}
use Rattle.jc_rules.specs.Step.{Step}
use Rattle.jc_rules.specs.Syntax.{Cmd, Yield}
use Rattle.jc_rules.specs.Derivation.{Occur, Operate, Child, AddId, ToContext, ToContent}
use Rattle.jc_rules.specs.Table.{op_of, moved, IsBefore}
use Rattle.jc_rules.specs.Refused.{IsAnswered}
use Rattle.jc_rules.proofs.OrderLemmas.{exact_ids}
use Rattle.jc_tree.specs.ChainedBelow.{AreChainedBelow}
use Rattle.jc_tree.proofs.ChainedBelowLemmas.{map_below, list_below, below-chained, below-list}
use Rattle.jc_tree.proofs.ChainedLeadsLemmas.{leads_from}
use Rattle.jc_tree.proofs.ChainedLemmas.{new_list_chained}
use Rattle.jc_network.specs.LinksEverywhere.{Reach}
use Rattle.jc_apply.specs.Fits.{content_or_new, child_context, InChild}
use Rattle.jc_rules.specs.ContextsAt.{node_in}
use Rattle.jc_rules.specs.Paths.{HasContext}
use Rattle.jc_network.specs.Rooted.{IsListPath, IsRootKey, head, element, AreRightLinks}
use Rattle.jc_network.specs.RunInvariant.{IsReplicaAt, IsMadeOp, IsWell}
use Rattle.jc_network.proofs.LinksEverywhereLemmas.{entry-found, all_follow}
use Rattle.jc_network.proofs.MembersLemmas.{op_in}
use Rattle.jc_network.proofs.RootedLemmas.{of_new, reached_in, child_there}
use Rattle.jc_network.proofs.FitsLemmas.{wanted}
use Rattle.jc_network.proofs.ClearAnswersLemmas.{by_rule, presence_answered, cleared, cleared_elem}

-- a context below which lists are chained, and which is a chained list where it has a link
pub record IsGood (c : Context) : Type 0 where
  pub below : AreChainedBelow c
  pub chain : (k : Key) (x : Next) → next k c ≡ Some x → IsChainedList c

no_links : {A : Type 0} (c : Context) (k : Key) (x : Next) → IsChained c → next k c ≡ Some x → A
no_links (context m l r p n) k x h e = let f : None ≡ Some x = ap (find key_cmp k) (sym h.0) ∙ e in cc

pub good_map : (c : Context) → IsChained c → IsGood c
good_map c h = record { below = below-chained c h; chain = λ k x e. no_links c k x h e }

pub good_list : (c : Context) → IsChainedList c → IsGood c
good_list c h = record { below = below-list c h; chain = λ k x e. h }

-- what is entered is good
pub record Entered (c : Context) (t : Tagged) : Type 0 where
  pub node : Context
  pub is : Node node ≡ content_or_new t (content t c)
  pub good : IsGood node

pub enters : (c : Context) (t : Tagged) → HasContext t → IsGood c → (d : Context) → child_context t c ≡ Some d → Entered c t
enters c (MapT k) tag h d there = go (content (MapT k) c) refl
  where
    go : (o : Option Content) → content (MapT k) c ≡ o → Entered c (MapT k)
    go None e = record { node = empty; is = rw e refl; good = good_map empty (refl, tt, tt) }
    go (Some (Node b)) e = record { node = b; is = rw e refl; good = good_map b (map_below k c b e h.below) }
    go (Some (Values r)) e = let f : None ≡ Some d = sym (ap (λ o. node_in (Some (content_or_new (MapT k) o))) e) ∙ there in cc
enters c (ListT k) tag h d there = go (content (ListT k) c) refl
  where
    go : (o : Option Content) → content (ListT k) c ≡ o → Entered c (ListT k)
    go None e = record { node = empty_list; is = rw e refl; good = good_list empty_list new_list_chained }
    go (Some (Node b)) e = record { node = b; is = rw e refl; good = good_list b (list_below k c b e h.below) }
    go (Some (Values r)) e = let f : None ≡ Some d = sym (ap (λ o. node_in (Some (content_or_new (ListT k) o))) e) ∙ there in cc
enters c (RegT k) tag h d there = absurd tag

-- children and presence sets always answer
pub child_answered : (c : Context) (t : Tagged) → IsAnswered (Child c t) (ToContent (content_or_new t (content t c)))
child_answered c t = go (content t c) refl
  where
    made : (u : Tagged) → content u c ≡ None → IsAnswered (Child c u) (ToContent (new_content u))
    made (MapT k) e = by_rule R.ChildMap (Child c (MapT k)) _ [] (e, refl, refl) tt
    made (ListT k) e = by_rule R.ChildList (Child c (ListT k)) _ [] (e, refl, refl) tt
    made (RegT k) e = by_rule R.ChildReg (Child c (RegT k)) _ [] (e, refl, refl) tt

    go : (o : Option Content) → content t c ≡ o → IsAnswered (Child c t) (ToContent (content_or_new t o))
    go None e = made t e
    go (Some x) e = by_rule R.ChildGet (Child c t) (ToContent x) [] (x, e, refl, refl) tt

pub add_answered : (c : Context) (t : Tagged) (i : Id) (m : Mutation) → (d : Context) × IsAnswered (AddId c t i m) (ToContext d)
add_answered c t i (M.Assign v) = let s = presence_answered c (key_of_tagged t) in (_, by_rule R.AddId1 (AddId c t i (M.Assign v)) _ _ (s.0, (λ e. cc), refl, refl) (s.1, tt))
add_answered c t i (M.Insert v) = let s = presence_answered c (key_of_tagged t) in (_, by_rule R.AddId1 (AddId c t i (M.Insert v)) _ _ (s.0, (λ e. cc), refl, refl) (s.1, tt))
add_answered c t i M.Delete = (c, by_rule R.AddId2 (AddId c t i M.Delete) (ToContext c) [] (refl, refl, refl) tt)

abbrev pub Answered : Context → Op → Type 0
Answered c o = (d : Context) × IsAnswered (Operate c o) (ToContext d)

-- the register under a key, or a new one
register_in : (k : Key) (c : Context) → (r : Register) × (content_or_new (RegT k) (content (RegT k) c) ≡ Values r)
register_in k c = go (find key_cmp k (registers c))
  where
    go : (o : Option Register) → (r : Register) × (content_or_new (RegT k) (values_of o) ≡ Values r)
    go None = ([], refl)
    go (Some r) = (r, refl)

primitive_answered : (c : Context) (o : Op) (v : Value) → AreChainedBelow c → o.cursor.path ≡ [] → o.mutation ≡ M.Assign v → IsPrimitive v → Answered c o
primitive_answered c o v h path m p =
    let one = cleared c o.deps (RegT o.cursor.last) h in
    let two = add_answered one.now (RegT o.cursor.last) o.id o.mutation in
    let r = register_in o.cursor.last two.0 in
    let three : IsAnswered (Child two.0 (RegT o.cursor.last)) (ToContent (Values r.0)) = subst (λ x. IsAnswered (Child two.0 (RegT o.cursor.last)) (ToContent x)) r.1 (child_answered two.0 (RegT o.cursor.last)) in
    (_, by_rule R.Assign (Operate c o) _ _ (v, one.now, one.ids, two.0, r.0, path, m, p, refl, refl) (one.answered, (two.1, (three, tt))))

pub assign_answered : (c : Context) (o : Op) (v : Value) → AreChainedBelow c → o.cursor.path ≡ [] → o.mutation ≡ M.Assign v → Answered c o
assign_answered c o V.EmptyMap h path m =
    let one = cleared_elem c o.deps o.cursor.last h in
    let two = add_answered one.now (MapT o.cursor.last) o.id o.mutation in
    (_, by_rule R.EmptyMap (Operate c o) _ _ (one.now, one.ids, two.0, _, path, m, refl, refl) (one.answered, (two.1, (child_answered two.0 (MapT o.cursor.last), tt))))
assign_answered c o V.EmptyList h path m =
    let one = cleared_elem c o.deps o.cursor.last h in
    let two = add_answered one.now (ListT o.cursor.last) o.id o.mutation in
    (_, by_rule R.EmptyList (Operate c o) _ _ (one.now, one.ids, two.0, _, path, m, refl, refl) (one.answered, (two.1, (child_answered two.0 (ListT o.cursor.last), tt))))
assign_answered c o (V.Number t) h path m = primitive_answered c o (V.Number t) h path m tt
assign_answered c o (V.Str t) h path m = primitive_answered c o (V.Str t) h path m tt
assign_answered c o V.True h path m = primitive_answered c o V.True h path m tt
assign_answered c o V.False h path m = primitive_answered c o V.False h path m tt
assign_answered c o V.Null h path m = primitive_answered c o V.Null h path m tt

-- behind its key
insert_here : (c : Context) (o : Op) (v : Value) (n : Next) → AreChainedBelow c → o.cursor.path ≡ [] → o.mutation ≡ M.Insert v → next o.cursor.last c ≡ Some n → (n ≡ Tail) ⊎ ((j : Id) × (n ≡ To j) × (id_cmp o.id j ≡ Greater)) → Answered c o
insert_here c o v n h path m link before =
    let inner = assign_answered c (moved o [] (K.Elem o.id) (M.Assign v)) v h refl refl in
    (_, by_rule R.Insert1 (Operate c o) _ _ (v, n, inner.0, path, m, link, is_before before, refl, refl) (inner.1, tt))
  where
    is_before : (n ≡ Tail) ⊎ ((j : Id) × (n ≡ To j) × (id_cmp o.id j ≡ Greater)) → IsBefore n o.id
    is_before (inl e) = rw e tt
    is_before (inr (j, e, g)) = rw e g

insert_answered : (is : List Id) (c : Context) (o : Op) (v : Value) → AreChainedBelow c → o.cursor.path ≡ [] → o.mutation ≡ M.Insert v → LeadsThrough c o.cursor.last is → next (K.Elem o.id) c ≡ None → Answered c o
insert_answered [] c o v h path m leads fresh = insert_here c o v Tail h path m leads (inl refl)
insert_answered (j ∷ is) c o v h path m leads fresh = go (id_cmp o.id j) refl (insert_answered is c (moved o [] (K.Elem j) o.mutation) v h refl m leads.1 fresh)
  where
    linked : (is : List Id) → LeadsThrough c (K.Elem j) is → next (K.Elem j) c ≢ None
    linked [] l e = let f : Some Tail ≡ None = sym l ∙ e in cc
    linked (i ∷ is) l e = let f : Some (To i) ≡ None = sym l.0 ∙ e in cc

    go : (r : Ordering) → id_cmp o.id j ≡ r → Answered c (moved o [] (K.Elem j) o.mutation) → Answered c o
    go Less e ih = (_, by_rule R.Insert2 (Operate c o) _ _ (v, j, ih.0, path, m, leads.0, e, refl, refl) (ih.1, tt))
    go Equal e ih = let s : o.id ≡ j = exact_ids o.id j e in absurd (linked is leads.1 (ap (λ i. next (K.Elem i) c) (sym s) ∙ fresh))
    go Greater e ih = insert_here c o v (To j) h path m leads.0 (inr (j, refl, e))

pub delete_answered : (c : Context) (o : Op) → AreChainedBelow c → o.cursor.path ≡ [] → o.mutation ≡ M.Delete → Answered c o
delete_answered c o h path m =
    let one = cleared_elem c o.deps o.cursor.last h in
    (_, by_rule R.Delete (Operate c o) _ _ (one.now, one.ids, path, m, refl, refl) (one.answered, tt))

some_next : (k : Key) (c : Context) → next k c ≢ None → (x : Next) × (next k c ≡ Some x)
some_next k c h = go (next k c) refl
  where
    go : (o : Option Next) → next k c ≡ o → (x : Next) × (next k c ≡ Some x)
    go None e = absurd (h e)
    go (Some x) e = (x, e)

pub here_answered : (c : Context) (o : Op) (m : Mutation) → IsGood c → o.cursor.path ≡ [] → o.mutation ≡ m → (IsInsert m → Reach c [] o.cursor.last) → (IsInsert m → Reach c [] (K.Elem o.id) → ⊥) → Answered c o
here_answered c o (M.Assign v) h path m wants fresh = assign_answered c o v h.below path m
here_answered c o (M.Insert v) h path m wants fresh =
    let x = some_next o.cursor.last c (wants tt) in
    let from = leads_from c o.cursor.last x.0 (h.chain o.cursor.last x.0 x.1) x.1 in
    insert_answered from.elements c o v h.below path m from.leads (none_there (next (K.Elem o.id) c) refl)
  where
    none_there : (n : Option Next) → next (K.Elem o.id) c ≡ n → next (K.Elem o.id) c ≡ None
    none_there None e = e
    none_there (Some y) e = absurd (fresh tt (λ f. let g : Some y ≡ None = sym e ∙ f in cc))
here_answered c o M.Delete h path m wants fresh = delete_answered c o h.below path m

-- an operation whose place is reached, and whose identifier isn't
pub operation_answered : (path : List Tagged) (c : Context) (o : Op) → o.cursor.path ≡ path → IsGood c → AllByRecursion HasContext path → (IsInsert o.mutation → Reach c path o.cursor.last) → (IsInsert o.mutation → Reach c path (K.Elem o.id) → ⊥) → Answered c o
operation_answered [] c o path h plain wants fresh = here_answered c o o.mutation h path refl wants fresh
operation_answered (t ∷ rest) c o path h plain wants fresh =
    let x = child_there t c plain.0 in
    let child = enters c t plain.0 h x.0 x.1 in
    let there : child_context t c ≡ Some child.node = ap (λ y. node_in (Some y)) (sym child.is) in
    let inner = operation_answered rest child.node (moved o rest o.cursor.last o.mutation) refl child.good plain.1
    (λ is. subst (λ y. InChild y (λ b. Reach b rest o.cursor.last)) there (wants is))
    (λ is r. fresh is (subst (λ y. InChild y (λ b. Reach b rest (K.Elem o.id))) (sym there) r)) in
    let add = add_answered c t o.id o.mutation in
    let first : IsAnswered (Child c t) (ToContent (Node child.node)) = subst (λ y. IsAnswered (Child c t) (ToContent y)) (sym child.is) (child_answered c t) in
    (_, by_rule R.Descend (Operate c o) _ _ (t, rest, child.node, inner.0, add.0, path, refl, refl) (first, (inner.1, (add.1, tt))))

-- ---- at a yield

-- an identifier that isn't applied is reached nowhere
pub unreached : (N : List State) (w : IsWell N) (p : ℕ) (A : State) → IsReplicaAt N p A → (i : Id) → has_id i A.ops ≡ false → (P : List Tagged) → Reach A.tree P (K.Elem i) → ⊥
unreached N w p A there i un P r = other (reached_in (λ Q k. IsRootKey (IsMadeOp N) A.ops Q k) P A.tree (K.Elem i) (λ Q k. (right _ _ (of_new (IsMadeOp N) A.ops Q k).0, right _ _ (of_new (IsMadeOp N) A.ops Q k).1)) (all_follow _ _ A.tree right (w.trees.known p A there).tree) r)
  where
    found : (Q : List Tagged) (n : List (Key × Next)) (j : Key) → AreRightLinks (IsMadeOp N) A.ops Q n → (x : Option Next) → find key_cmp j n ≡ x → find key_cmp j n ≢ None → IsRootKey (IsMadeOp N) A.ops Q j
    found Q n j a None e f = absurd (f e)
    found Q n j a (Some x) e f = (entry-found (λ e. IsListPath Q × IsRootKey (IsMadeOp N) A.ops Q e.0) j x n a.keys e).1

    right : (Q : List Tagged) (n : List (Key × Next)) → AreRightLinks (IsMadeOp N) A.ops Q n → (j : Key) → find key_cmp j n ≢ None → IsRootKey (IsMadeOp N) A.ops Q j
    right Q n a j f = found Q n j a (find key_cmp j n) refl f

    other : IsRootKey (IsMadeOp N) A.ops P (K.Elem i) → ⊥
    other (head e) = cc
    other (element j e d h) =
        let s : i ≡ j = cc in
        let t : has_id i A.ops ≡ true = subst (λ k. has_id k A.ops ≡ true) (sym s) d in
        let u : false ≡ true = sym un ∙ t in
        cc

pub applies : (N : List State) → IsWell N → (p : ℕ) (A : State) (rest : List Cmd) (i : Id) (o : Op) → IsReplicaAt N p A → IsChained A.tree → A.left ≡ Yield ∷ rest → op_of i A.recv ≡ Some o → has_id i A.ops ≡ false → AreIn o.deps A.ops
    → (M : List State) × (rows : List (Rule × ℕ)) × Step N (E.Apply p i) M rows
applies N w p A rest i o there chained left found new deps =
    let x = op_in i A.recv o found in
    let made = w.sets.received p A o there x.0 in
    let un : has_id o.id A.ops ≡ false = subst (λ j. has_id j A.ops ≡ false) (sym x.1) new in
    let t = operation_answered o.cursor.path A.tree o refl (good_map A.tree chained) (w.trees.rooted o made).plain (wanted N w p A there o made deps) (λ is r. unreached N w p A there o.id un o.cursor.path r) in
    let s = by_rule R.ApplyRemote (Occur A (E.Apply p i) []) _ _ (rest, o, t.0, left, found, new, deps, refl, refl) (t.1, tt) in
    (_, _, record { before = A; after = _; read = []; derivation = s.derivation; is_there = there; reads = refl; holds = s.holds; concludes = s.concludes; is_new = refl; is_trace = refl })
