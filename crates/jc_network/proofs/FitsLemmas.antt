-- Lemmas about progress: an operation whose dependencies are applied is never refused.
use Rattle.std.proofs.Common.{◌≡◌, ◌≢◌, ℕ, List, [], ◌∷◌, ◌++◌, Some, None, true, false, refl, sym, ◌∙◌, ap, subst, append-nil}
use Rattle.std.specs.List.{AllByRecursion}
use Rattle.std.proofs.lemmas.Option.{same_Some}
use Rattle.jc_rules.specs.declared.id.Id.{Id}
use Rattle.jc_rules.specs.declared.key.Key.{Key}
use Rattle.jc_rules.specs.declared.key.Key.TheVariants.{Elem}
use Rattle.jc_rules.specs.declared.key.Next.TheVariants.{Elem as To}
use Rattle.jc_rules.specs.declared.key.Tagged.{Tagged}
use Rattle.jc_rules.specs.declared.key.Tagged.TheVariants.{ListT}
use Rattle.jc_rules.specs.declared.operation.Op.{Op}
use Rattle.jc_rules.specs.declared.operation.Mutation.TheVariants as M
use Rattle.jc_rules.specs.declared.operation.Event.{Event}
use Rattle.jc_rules.specs.declared.operation.Event.TheVariants as E
use Rattle.jc_rules.specs.Order.{key_cmp}
use Rattle.jc_rules.specs.Entries.{find}
use Rattle.jc_rules.specs.Ids.{has_id, AreIn}
use Rattle.jc_rules.specs.Context.{Context, Node, content, next}
use Rattle.jc_rules.specs.Sound.{IsInsert}
use Rattle.jc_rules.specs.State.{State}
use Rattle.jc_rules.specs.Syntax.{Expr, Cmd, Yield}
use Rattle.jc_rules.specs.Derivation.{Question, Occur, Operate, Child, ToContent}
use Rattle.jc_rules.specs.Table.{op_of, moved}
use Rattle.jc_rules.specs.Refused.{Cause, IsAnswered, first_expr, Refused, no_command, at_yield, in_command, no_yield, not_at_yield, not_acted, not_received, not_offered, already_applied, deps_missing, in_received, in_first, not_a_cursor, in_making, in_made, in_applied, unbound, get_on_head, get_too_deep, index_too_deep, in_index, in_keys, in_values, index_no_node, keys_no_node, values_no_node, index_below, keys_below, values_below, past_end, in_counted, in_passed, no_map, no_register, operate_below, not_in_list, insert_later, IsStuck, no_replica, no_sender, refused}
use Rattle.jc_network.specs.LinksEverywhere.{LinksAt, Everywhere, Reach}
use Rattle.jc_apply.specs.Fits.{child_context, InChild, content_or_new}
use Rattle.jc_rules.specs.ContextsAt.{node_in}
use Rattle.jc_network.specs.Rooted.{IsListPath, IsRootKey, head, element}
use Rattle.jc_network.specs.RunInvariant.{IsReplicaAt, IsMadeOp, IsWell}
use Rattle.jc_network.proofs.LinksEverywhereLemmas.{OfNew, at_root, in_entered, all_follow}
use Rattle.jc_network.proofs.LinksKeptLemmas.{child_is}
use Rattle.jc_network.proofs.MembersLemmas.{op_in}
use Rattle.jc_network.proofs.RootedLemmas.{of_new, head_reached}

-- what follows a key has a link too
abbrev Closed : LinksAt
Closed = λ P n. (k : Key) (j : Id) → find key_cmp k n ≡ Some (To j) → find key_cmp (Elem j) n ≢ None

closed_new : OfNew Closed
closed_new P k = (((of_new (λ o. ⊥) [] P k).0).closed, ((of_new (λ o. ⊥) [] P k).1).closed)

-- the place of an insert is reached
abbrev Wants : Context → Op → Type 0
Wants c o = IsInsert o.mutation → Reach c o.cursor.path o.cursor.last

abbrev Never : Question → Type 0
Never (Operate c o) = Everywhere Closed c → Wants c o → ⊥
Never (Occur A (E.Apply p i) read) = (rest : List Cmd) (o : Op) → A.left ≡ Yield ∷ rest → op_of i A.recv ≡ Some o → has_id i A.ops ≡ false → AreIn o.deps A.ops → Everywhere Closed A.tree → Wants A.tree o → ⊥
Never _ = Unit {0}

first_never : (q : Question) (A : State) (e : Expr) → first_expr q ≡ Some (A, e) → Never q
first_never (Occur B (E.Apply p i) read) A e h = cc
first_never (Operate c o) A e h = cc
first_never _ A e h = tt

-- what needs no yield, at one
no_yield_never : (A : State) (event : Event) (read : List Op) → A.left ≡ [] → Never (Occur A event read)
no_yield_never A (E.Apply p i) read e = λ rest o f x y z u v. let g : [] ≡ Yield ∷ rest = sym e ∙ f in cc
no_yield_never A _ read e = tt

not_at_never : (A : State) (event : Event) (read : List Op) (c : Cmd) (rest : List Cmd) → A.left ≡ c ∷ rest → c ≢ Yield → Never (Occur A event read)
not_at_never A (E.Apply p i) read c rest e n = λ more o f x y z u v. n (let g : c ∷ rest ≡ Yield ∷ more = sym e ∙ f in cc)
not_at_never A _ read c rest e n = tt

below_never : (c : Context) (o : Op) (t : Tagged) (rest : List Tagged) (d : Context) → o.cursor.path ≡ t ∷ rest → IsAnswered (Child c t) (ToContent (Node d)) → Never (Operate d (moved o rest o.cursor.last o.mutation)) → Never (Operate c o)
below_never c o t rest d path s n closed wants =
    let is : Node d ≡ content_or_new t (content t c) = child_is c t (Node d) s in
    let there : child_context t c ≡ Some d = ap (λ y. node_in (Some y)) (sym is) in
    n (in_entered Closed t c d closed_new is closed)
    (λ ins. let r : Reach c (t ∷ rest) o.cursor.last = subst (λ P. Reach c P o.cursor.last) path (wants ins) in subst (λ x. InChild x (λ b. Reach b rest o.cursor.last)) there r)

here_never : (c : Context) (o : Op) (v : _) → o.cursor.path ≡ [] → o.mutation ≡ M.Insert v → next o.cursor.last c ≡ None → Never (Operate c o)
here_never c o v path m none closed wants =
    let ins : IsInsert o.mutation = subst IsInsert (sym m) tt in
    let r : Reach c [] o.cursor.last = subst (λ P. Reach c P o.cursor.last) path (wants ins) in
    r none

later_never : (c : Context) (o : Op) (n : Id) → next o.cursor.last c ≡ Some (To n) → Never (Operate c (moved o [] (Elem n) o.mutation)) → Never (Operate c o)
later_never c o n link never closed wants = never closed (λ ins. at_root Closed c closed o.cursor.last n link)

pub never_refused : {q : Question} {why : Cause} → Refused q why → Never q
never_refused (no_command e) = tt
never_refused (at_yield e) = tt
never_refused (in_command e h r) = tt
never_refused (no_yield {A = A} {event = event} {read = read} h e) = no_yield_never A event read e
never_refused (not_at_yield {A = A} {event = event} {read = read} {c = c} {rest = rest} h e k) = not_at_never A event read c rest e k
never_refused (not_acted e f) = tt
never_refused (not_received e f) = λ rest o x y z u v w. let g : None ≡ Some o = sym f ∙ y in cc
never_refused (not_offered e f) = tt
never_refused (already_applied e f g) = λ rest o x y z u v w. let h : true ≡ false = sym g ∙ z in cc
never_refused (deps_missing {o = o} e f g h) = λ rest p x y z u v w. let s : o ≡ p = same_Some o p (sym f ∙ y) in h (λ i d. u i (subst (λ (q : Op). has_id i q.deps ≡ true) s d))
never_refused (in_received {A = A} {o = o} e f g h r) =
    let n = never_refused r in
    λ rest p x y z u v w. let s : p ≡ o = same_Some p o (sym y ∙ f) in n v (subst (λ (q : Op). Wants A.tree q) s w)
never_refused (in_first {q = q} {A = A} {e = e} is r) = first_never q A e is
never_refused (not_a_cursor {q = q} {A = A} {e = e} is w s h) = first_never q A e is
never_refused (in_making is s r) = tt
never_refused (in_made r) = tt
never_refused (in_applied r) = tt
never_refused (unbound e) = tt
never_refused (get_on_head s h) = tt
never_refused (get_too_deep s h l) = tt
never_refused (index_too_deep s l) = tt
never_refused (in_index s l r) = tt
never_refused (in_keys s r) = tt
never_refused (in_values s r) = tt
never_refused (index_no_node e f) = tt
never_refused (keys_no_node e f) = tt
never_refused (values_no_node e f) = tt
never_refused (index_below e f r) = tt
never_refused (keys_below e f r) = tt
never_refused (values_below e f r) = tt
never_refused (past_end e h) = tt
never_refused (in_counted e f h r) = tt
never_refused (in_passed e f h r) = tt
never_refused (no_map e f) = tt
never_refused (no_register e f) = tt
never_refused (operate_below {c = c} {o = o} {k = t} {rest = rest} {d = d} e s r) = let n = never_refused r in below_never c o t rest d e s n
never_refused (not_in_list {c = c} {o = o} {v = v} e m f) = here_never c o v e m f
never_refused (insert_later {c = c} {o = o} {n = n} e m f l r) = let x = never_refused r in later_never c o n f x

-- ---- the place of an operation whose dependencies are applied

module _ (N : List State) (w : IsWell N) (p : ℕ) (A : State) (there : IsReplicaAt N p A) where
  pub closed_tree : Everywhere Closed A.tree
  closed_tree = all_follow _ _ A.tree (λ P n h. h.closed) (w.trees.known p A there).tree

  pub wanted : (o : Op) → IsMadeOp N o → AreIn o.deps A.ops → Wants A.tree o
  wanted o m deps is = at (w.trees.listed o m is)
    where
      reached : (P : List Tagged) → o.cursor.path ≡ P → IsListPath P → IsRootKey (IsMadeOp N) o.deps P o.cursor.last → Reach A.tree P o.cursor.last
      reached P path l (head e) =
          subst (λ k. Reach A.tree P k) (sym e) (head_reached (IsMadeOp N) A.ops P A.tree (w.trees.known p A there).tree (subst (AllByRecursion _) path (w.trees.rooted o m).plain) l)
      reached P path l (element i e d h) =
          let a : has_id h.op.id A.ops ≡ true = deps h.op.id (subst (λ j. has_id j o.deps ≡ true) (sym h.is) d) in
          let r : Reach A.tree h.op.cursor.path (Elem h.op.id) = w.trees.linked p A h.op there h.made a h.inserts in
          let s : Elem h.op.id ≡ o.cursor.last = ap (λ j. Elem j) h.is ∙ sym e in
          subst (λ (x : List Tagged × Key). Reach A.tree x.0 x.1) (λ i2. (h.path i2, s i2)) r

      at : IsListPath o.cursor.path → Reach A.tree o.cursor.path o.cursor.last
      at (above, l, e) =
          let k = (w.trees.rooted o m).rooted above l o.cursor.last ([], e ∙ sym (append-nil _), refl) in
          subst (λ P. Reach A.tree P o.cursor.last) (sym e) (reached (above ++ ListT l ∷ []) e (above, l, refl) k)

pub never_stuck : (N : List State) → IsWell N → (p : ℕ) (A : State) (rest : List Cmd) (i : Id) (o : Op) → IsReplicaAt N p A → A.left ≡ Yield ∷ rest → op_of i A.recv ≡ Some o → has_id i A.ops ≡ false → AreIn o.deps A.ops
    → (why : Cause) → IsStuck N (E.Apply p i) why → ⊥
never_stuck N w p A rest i o there left found new deps why (no_replica e) = let f : None ≡ Some A = sym e ∙ there in cc
never_stuck N w p A rest i o there left found new deps why (no_sender e) = cc
never_stuck N w p A rest i o there left found new deps why (refused {A = B} {read = read} e f r) =
    let s : B ≡ A = same_Some B A (sym e ∙ there) in
    let t : Refused (Occur A (E.Apply p i) read) why = subst (λ (S : State). Refused (Occur S (E.Apply p i) read) why) s r in
    never_refused t rest o left found new deps (closed_tree N w p A there) (wanted N w p A there o (w.sets.received p A o there (op_in i A.recv o found).0) deps)
