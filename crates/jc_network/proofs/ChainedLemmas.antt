-- Lemmas about RunInvariant: lists stay chained, and only what is applied is linked.
use Rattle.std.proofs.Common.{◌≡◌, ◌≢◌, ℕ, ◌+◌, ◌≤◌, List, [], ◌∷◌, Some, None, Bool, true, false, ◌⊎◌, inl, inr, slice_get, slice_set, refl, sym, ◌∙◌, ap, subst, arith}
use Rattle.std.specs.List.{AllByRecursion}
use Rattle.std.proofs.lemmas.Option.{same_Some}
use Rattle.jc_rules.specs.declared.id.Id.{Id}
use Rattle.jc_rules.specs.declared.key.Key.{Key}
use Rattle.jc_rules.specs.declared.key.Key.TheVariants.{Head, Elem}
use Rattle.jc_rules.specs.declared.key.Next.{Next}
use Rattle.jc_rules.specs.declared.key.Next.TheVariants.{Elem as To}
use Rattle.jc_rules.specs.declared.key.Tagged.{Tagged}
use Rattle.jc_rules.specs.declared.key.Tagged.TheVariants.{MapT, ListT, RegT}
use Rattle.jc_rules.specs.declared.operation.Op.{Op}
use Rattle.jc_rules.specs.declared.operation.Event.{Event}
use Rattle.jc_rules.specs.Order.{key_cmp}
use Rattle.jc_rules.specs.Entries.{find, put}
use Rattle.jc_rules.specs.Ids.{has_id, greatest}
use Rattle.jc_rules.specs.Context.{Context, context, Children, no_child, child}
use Rattle.jc_rules.specs.WellFormed.{IsChained, AreChained, AreLists, IsChainedList}
use Rattle.jc_rules.specs.State.{State}
use Rattle.jc_rules.specs.Step.{After, replica_of}
use Rattle.jc_rules.specs.Syntax.{Cmd}
use Rattle.jc_rules.specs.Derivation.{Operate, ToContext}
use Rattle.jc_rules.specs.Refused.{IsAnswered}
use Rattle.jc_tree.proofs.LinkedLemmas.{linked}
use Rattle.jc_tree.proofs.ChainedLemmas.{chain-same, new_list_chained}
use Rattle.jc_apply.specs.Fits.{IsUnlinked, AreUnlinked}
use Rattle.jc_apply.proofs.UnlinkedLemmas.{no_next}
use Rattle.jc_network.specs.LinksEverywhere.{LinksHold, LinksAt, links_below, Everywhere, InMaps, InLists}
use Rattle.jc_network.specs.Rooted.{IsListPath, IsRootKey, head, element, AreRightLinks}
use Rattle.jc_network.specs.RunInvariant.{IsReplicaAt, IsMadeOp, IsWell}
use Rattle.jc_network.specs.Laws.{starts}
use Rattle.jc_network.proofs.LinksEverywhereLemmas.{OfNew, all_follow}
use Rattle.jc_network.proofs.LinksKeptLemmas.{operates}
use Rattle.jc_network.proofs.MembersLemmas.{op_in, set_other, set_there}
use Rattle.jc_network.proofs.EventDidLemmas.{new_op, Did, bound, made, sent, received, took, applied, done, did}
use Rattle.jc_network.proofs.RunInvariantLemmas.{step_well}
use Rattle.jc_network.proofs.RunInvariantStartLemmas.{started}
use Rattle.jc_rules.proofs.IdSetLemmas.{member_greatest}

-- ---- what isn't applied isn't linked

abbrev Unlinked : Id → LinksAt
Unlinked i = λ P n. AllByRecursion (λ (e : Key × Next). e.0 ≢ Elem i) n

other_keys : (In : Op → Type 0) (ops : List Id) (P : List Tagged) (i : Id) → has_id i ops ≡ false → (n : LinksHold) → AllByRecursion (λ e. IsListPath P × IsRootKey In ops P e.0) n → AllByRecursion (λ (e : Key × Next). e.0 ≢ Elem i) n
other_keys In ops P i h [] a = tt
other_keys In ops P i h (e ∷ n) a = (other (a.0.1), other_keys In ops P i h n a.1)
  where
    other : IsRootKey In ops P e.0 → e.0 ≢ Elem i
    other (head f) g = let x : Head ≡ Elem i = sym f ∙ g in cc
    other (element j f d k) g =
        let x : Elem j ≡ Elem i = sym f ∙ g in
        let same : j ≡ i = cc in
        let y : has_id i ops ≡ true = subst (λ l. has_id l ops ≡ true) same d in
        cc

unlinked_all : (In : Op → Type 0) (ops : List Id) (i : Id) (c : Context) → has_id i ops ≡ false → Everywhere (AreRightLinks In ops) c → Everywhere (Unlinked i) c
unlinked_all In ops i c h e = all_follow _ _ c (λ P n a. other_keys In ops P i h n a.keys) e

mutual
  unlinked : (i : Id) (c : Context) → Everywhere (Unlinked i) c → IsUnlinked i c
  unlinked i (context m l r p n) h = (h.0, unlinked_maps i m h.1, unlinked_lists i l h.2)

  unlinked_maps : (i : Id) (cs : Children) → InMaps (Unlinked i) cs → AreUnlinked i cs
  unlinked_maps i no_child h = tt
  unlinked_maps i (child k c cs) h = (unlinked i c h.0, unlinked_maps i cs h.1)

  unlinked_lists : (i : Id) (cs : Children) → InLists (Unlinked i) cs → AreUnlinked i cs
  unlinked_lists i no_child h = tt
  unlinked_lists i (child k c cs) h = (unlinked i c h.0, unlinked_lists i cs h.1)

pub unapplied_unlinked : (N : List State) → IsWell N → (p : ℕ) (A : State) → IsReplicaAt N p A → (i : Id) → has_id i A.ops ≡ false → IsUnlinked i A.tree
unapplied_unlinked N w p A there i h = unlinked i A.tree (unlinked_all (IsMadeOp N) A.ops i A.tree h (w.trees.known p A there).tree)

-- ---- chains

-- a context with these links alone
abbrev bare : LinksHold → Context
bare n = context no_child no_child [] [] n

abbrev ChainedAt : LinksAt
ChainedAt [] n = n ≡ []
ChainedAt (MapT k ∷ []) n = n ≡ []
ChainedAt (ListT k ∷ []) n = IsChainedList (bare n)
ChainedAt (RegT k ∷ []) n = n ≡ []
ChainedAt (t ∷ u ∷ P) n = ChainedAt (u ∷ P) n

below_map : (k : Key) (P : List Tagged) (n : LinksHold) → links_below (MapT k) ChainedAt P n → ChainedAt P n
below_map k [] n h = h
below_map k (u ∷ P) n h = h

mutual
  chained : (c : Context) → Everywhere ChainedAt c → IsChained c
  chained (context m l r p n) h = (h.0, chained_maps m h.1, chained_lists l h.2)

  chained_list : (k : Key) (c : Context) → Everywhere (links_below (ListT k) ChainedAt) c → IsChainedList c
  chained_list k (context m l r p n) h =
      let is = h.0.0 in
      ((is.0, chain-same (bare n) (context m l r p n) is.0 refl is.1), deep_maps k m h.1, deep_lists k l h.2)

  chained_maps : (cs : Children) → InMaps ChainedAt cs → AreChained cs
  chained_maps no_child h = tt
  chained_maps (child k c cs) h = (chained c (all_follow _ _ c (below_map k) h.0), chained_maps cs h.1)

  chained_lists : (cs : Children) → InLists ChainedAt cs → AreLists cs
  chained_lists no_child h = tt
  chained_lists (child k c cs) h = (chained_list k c h.0, chained_lists cs h.1)

  deep_maps : (j : Key) (cs : Children) → InMaps (links_below (ListT j) ChainedAt) cs → AreChained cs
  deep_maps j no_child h = tt
  deep_maps j (child k c cs) h = (chained c (all_follow _ _ c (below_map k) h.0), deep_maps j cs h.1)

  deep_lists : (j : Key) (cs : Children) → InLists (links_below (ListT j) ChainedAt) cs → AreLists cs
  deep_lists j no_child h = tt
  deep_lists j (child k c cs) h = (chained_list k c h.0, deep_lists j cs h.1)

chained_new : OfNew ChainedAt
chained_new [] k = (refl, new_list_chained)
chained_new (t ∷ []) k = (refl, new_list_chained)
chained_new (t ∷ u ∷ P) k = chained_new (u ∷ P) k

none_found : {A : Type 0} (k : Key) (x : Next) (n : LinksHold) → n ≡ [] → find key_cmp k n ≡ Some x → A
none_found k x n e f = let g : None ≡ Some x = ap (find key_cmp k) (sym e) ∙ f in cc

-- a fresh element behind a key
chained_insert : (P : List Tagged) (i : Id) (k : Key) (x : Next) (n : LinksHold) → ChainedAt P n → Unlinked i P n → find key_cmp k n ≡ Some x → ChainedAt P (put key_cmp (Elem i) x (put key_cmp k (To i) n))
chained_insert [] i k x n h u e = none_found k x n h e
chained_insert (MapT j ∷ []) i k x n h u e = none_found k x n h e
chained_insert (RegT j ∷ []) i k x n h u e = none_found k x n h e
chained_insert (ListT j ∷ []) i k x n h u e = linked k i x (bare n) e (no_next i (bare n) (u, tt, tt)) h
chained_insert (t ∷ v ∷ P) i k x n h u e = chained_insert (v ∷ P) i k x n h u e

-- both hold
mutual
  all_both : (Q R : LinksAt) (c : Context) → Everywhere Q c → Everywhere R c → Everywhere (λ P n. Q P n × R P n) c
  all_both Q R (context m l r p n) h g = ((h.0, g.0), maps_both Q R m h.1 g.1, lists_both Q R l h.2 g.2)

  maps_both : (Q R : LinksAt) (cs : Children) → InMaps Q cs → InMaps R cs → InMaps (λ P n. Q P n × R P n) cs
  maps_both Q R no_child h g = tt
  maps_both Q R (child k c cs) h g = (all_both (links_below (MapT k) Q) (links_below (MapT k) R) c h.0 g.0, maps_both Q R cs h.1 g.1)

  lists_both : (Q R : LinksAt) (cs : Children) → InLists Q cs → InLists R cs → InLists (λ P n. Q P n × R P n) cs
  lists_both Q R no_child h g = tt
  lists_both Q R (child k c cs) h g = (all_both (links_below (ListT k) Q) (links_below (ListT k) R) c h.0 g.0, lists_both Q R cs h.1 g.1)

operate_chained : (c : Context) (o : Op) (d : Context) → Everywhere ChainedAt c → Everywhere (Unlinked o.id) c → IsAnswered (Operate c o) (ToContext d) → Everywhere ChainedAt d
operate_chained c o d h u s =
    (operates c o d s).all (λ P n. ChainedAt P n × Unlinked o.id P n) ChainedAt
    (λ P k. (((chained_new P k).0, tt), ((chained_new P k).1, (λ e. cc, tt))))
    (λ P n x. x.0)
    (λ is k x n q e. chained_insert o.cursor.path o.id k x n q.0 q.1 e)
    (all_both _ _ c h u)

-- what a step did to the tree
data Treed (A B : State) : Type 0 where
  same : B.tree ≡ A.tree → Treed A B
  operated : (o : Op) → has_id o.id A.ops ≡ false → IsAnswered (Operate A.tree o) (ToContext B.tree) → Treed A B

pub new_unapplied : (p : ℕ) (A : State) → has_id (record { counter = greatest A.ops + 1; replica = p }) A.ops ≡ false
new_unapplied p A = go (has_id (record { counter = greatest A.ops + 1; replica = p }) A.ops) refl
  where
    go : (b : Bool) → has_id (record { counter = greatest A.ops + 1; replica = p }) A.ops ≡ b → b ≡ false
    go true e = let l : greatest A.ops + 1 ≤ greatest A.ops = member_greatest (record { counter = greatest A.ops + 1; replica = p }) A.ops e in absurd (omega (arith, l))
    go false e = refl

treed : (A : State) (event : Event) (read : List Op) (B : State) → Did A event read B → Treed A B
treed A event read B (bound p rest x e b is left s new) = same (ap (λ (S : State). S.tree) new)
treed A event read B (made p rest c e cur m t is left s op new) =
    subst (λ (S : State). Treed A S) (sym new) (operated (new_op p A cur m) (new_unapplied p A) op)
treed A event read B (sent p rest is left new) = same (ap (λ (S : State). S.tree) new)
treed A event read B (received p q rest is left new) = same (ap (λ (S : State). S.tree) new)
treed A event read B (took p q i rest o is left found new) = same (ap (λ (S : State). S.tree) new)
treed A event read B (applied p i rest o t is left found unapplied deps op new) =
    subst (λ (S : State). Treed A S) (sym new) (operated o (subst (λ j. has_id j A.ops ≡ false) (sym (op_in i A.recv o found).1) unapplied) op)
treed A event read B (done p rest is left new) = same (ap (λ (S : State). S.tree) new)

abbrev AreAllChained : List State → Type 0
AreAllChained N = (p : ℕ) (A : State) → IsReplicaAt N p A → Everywhere ChainedAt A.tree

chained_step : (N : List State) (p : ℕ) (A B : State) → IsReplicaAt N p A → IsWell N → AreAllChained N → Treed A B → AreAllChained (slice_set N p B)
chained_step N p A B there w h t q C e = go (set_other N p q B)
  where
    after : Treed A B → Everywhere ChainedAt B.tree
    after (same s) = subst (Everywhere ChainedAt) (sym s) (h p A there)
    after (operated o f s) = operate_chained A.tree o B.tree (h p A there) (unlinked_all (IsMadeOp N) A.ops o.id A.tree f (w.trees.known p A there).tree) s

    go : (q ≡ p) ⊎ (slice_get (slice_set N p B) q ≡ slice_get N q) → Everywhere ChainedAt C.tree
    go (inl s) =
        let f : slice_get (slice_set N p B) q ≡ Some B = ap (slice_get (slice_set N p B)) s ∙ set_there N p A B there in
        subst (λ (S : State). Everywhere ChainedAt S.tree) (same_Some B C (sym f ∙ e)) (after t)
    go (inr s) = h q C (sym s ∙ e)

after_chained : (N : List State) (events : List Event) (M : List State) → IsWell N → AreAllChained N → After N events M → AreAllChained M
after_chained N [] M w h a = subst AreAllChained a h
after_chained N (e ∷ es) M w h a =
    let s = a.2 in
    after_chained a.0 es M (step_well N e a.0 a.1 w s)
    (subst AreAllChained (sym s.is_new) (chained_step N (replica_of e) s.before s.after s.is_there w h (treed s.before e s.read s.after (did s.before e s.read s.after (record { derivation = s.derivation; holds = s.holds; concludes = s.concludes })))))
    a.3

pub are_chained : (scripts : List (List Cmd)) (events : List Event) (M : List State) → IsWell (starts scripts) → After (starts scripts) events M → (p : ℕ) (A : State) → IsReplicaAt M p A → IsChained A.tree
are_chained scripts events M w a p A e = chained A.tree (after_chained (starts scripts) events M w (λ q C f. let x = started scripts q C f in subst (λ (S : State). Everywhere ChainedAt S.tree) (sym x.1) (refl, tt, tt)) a p A e)
