-- About Clears: the rules of clearing at one place.
use Rattle.std.proofs.Common.{◌≡◌, suc, ◌≤◌, List, [], ◌∷◌, ◌++◌, Some, None, is_some, true, Result, Ok, Err, OnOk, OnErr, refl, sym, ◌∙◌, ap, subst}
use Rattle.jc_rules.specs.declared.id.Id.{Id}
use Rattle.jc_rules.specs.declared.key.Key.{Key}
use Rattle.jc_rules.specs.declared.key.Key.TheVariants.{Head}
use Rattle.jc_rules.specs.declared.key.Tagged.{Tagged}
use Rattle.jc_rules.specs.declared.key.Tagged.TheVariants.{MapT, ListT, RegT}
use Rattle.jc_rules.specs.declared.rule.Rule.{Rule}
use Rattle.jc_rules.specs.declared.rule.Rule.TheVariants as R
use Rattle.jc_rules.specs.Order.{key_cmp}
use Rattle.jc_rules.specs.Entries.{find, keys_of}
use Rattle.jc_rules.specs.Ids.{AreRising, union, without}
use Rattle.jc_rules.specs.Context.{Context, context, Node, Values, Register, registers, maps, lists, values_of, content, with_content, presence, with_presence}
use Rattle.jc_rules.specs.ContextsAt.{node_at, with_node_at}
use Rattle.jc_rules.specs.WellFormed.{IsWellFormedRegister, IsChainedList}
use Rattle.jc_rules.specs.Derivation.{Question, gives, Clear, ClearAny, ClearElem, ClearMap, ClearList, Presence, ToIds, Cleared}
use Rattle.jc_rules.specs.Derives.{Derives}
use Rattle.jc_rules.specs.Trace.{Rows, pushed, one_deeper, at_depth}
use Rattle.jc_rules.specs.Table.{Follows, kept}
use Rattle.jc_rules.proofs.OrderLemmas.{keys_total, exact_keys}
use Rattle.jc_rules.proofs.EntriesLemmas.{put-same}
use Rattle.jc_rules.proofs.IdsLemmas.{union-rises, without-rises}
use Rattle.jc_rules.proofs.ContextsAtLemmas.{there, with_node-same, node-below, with_node-below}
use Rattle.jc_rules.proofs.DerivesLemmas.{by_axiom, one_premise, two_premises, three_premises}
use Rattle.jc_tree.specs.Nested.{nested}
use Rattle.jc_rules.specs.History.{IsLater}
use Rattle.jc_rules.proofs.HistoryLemmas.{still}
use Rattle.jc_tree.specs.Tree.{Tree, HasPlace, here, IsChanged}
use Rattle.jc_tree.proofs.TreeLemmas.{later_changed}
use Rattle.jc_tree.specs.ChainedBelow.{AreChainedBelow}
use Rattle.jc_clear.specs.Bare.{bare}
use Rattle.jc_clear.specs.Clears.{Clears}
use Rattle.jc_clear.proofs.BareLemmas.{bare-presence, bare-register, bare-with, nested_below, below-same, nested-same}
use Rattle.jc_tree.proofs.ChainedBelowLemmas.{map_below, list_below, below-chained}
use Rattle.jc_tree.proofs.PathLemmas.{found_node}
use Rattle.jc_tree.proofs.PlacesLemmas.{then_here, then_place, then_now}

pub presence_there : (c : Context) (k : Key) (s ids : List Id) (t u : Rows) → presence k c ≡ Some s → ids ≡ s → u ≡ pushed t R.Presence1 → Derives (Presence c k) (ToIds ids) t u
presence_there c k s ids t u h i e = rw (i, e) (by_axiom R.Presence1 _ _ t (s, h, refl, refl))

pub presence_absent : (c : Context) (k : Key) (ids : List Id) (t u : Rows) → presence k c ≡ None → ids ≡ [] → u ≡ pushed t R.Presence2 → Derives (Presence c k) (ToIds ids) t u
presence_absent c k ids t u h i e = rw (i, e) (by_axiom R.Presence2 _ _ t (h, refl, refl))

pub clear_none : (at : List Tagged) (deps : List Id) (k : Tagged) (a b : Tree) (ids : List Id) (t u : Rows) → HasPlace at a → content k (here at a) ≡ None → u ≡ pushed t R.ClearNone → b ≡ a → ids ≡ [] → Clears (λ c. Clear c deps k) at a b ids t u
clear_none at deps k a b ids t u p h e s i =
    rw (e, s, i) (record {
      after = here at a;
      derives = by_axiom R.ClearNone _ _ t (h, refl, refl);
      now = sym (with_node-same at (here at a) a.now (there at a.now p));
      same = refl;
      rises = tt;
    })

pub no_register : (at : List Tagged) (deps : List Id) (k : Key) (a b : Tree) (ids : List Id) (t u : Rows) → HasPlace at a → find key_cmp k (registers (here at a)) ≡ None → u ≡ pushed t R.ClearNone → b ≡ a → ids ≡ [] → Clears (λ c. Clear c deps (RegT k)) at a b ids t u
no_register at deps k a b ids t u p h e s i = clear_none at deps (RegT k) a b ids t u p (ap values_of h) e s i

pub clear_values : (at : List Tagged) (deps : List Id) (k : Key) (r left : Register) (a b : Tree) (ids : List Id) (t u : Rows) → find key_cmp k (registers (here at a)) ≡ Some r → left ≡ kept deps r → IsWellFormedRegister left → u ≡ pushed t R.ClearReg → b.now ≡ with_node_at at (with_content (RegT k) (Values left) (here at a)) a.now → ids ≡ keys_of left → Clears (λ c. Clear c deps (RegT k)) at a b ids t u
clear_values at deps k r left a b ids t u h w rising e s i =
    rw (e, i) (record {
      after = with_content (RegT k) (Values left) (here at a);
      derives = by_axiom R.ClearReg _ _ t (r, ap values_of h, refl, rw w refl);
      now = s;
      same = bare-register k left r (here at a) h;
      rises = rising.0;
    })

pub clear_elem : (at : List Tagged) (deps : List Id) (k : Key) (a b d : Tree) (s1 s2 s3 s4 : List Id) (t o u v w : Rows) → HasPlace at a → o ≡ one_deeper (pushed t R.ClearElem) → Clears (λ c. ClearAny c deps k) at a b s1 o u → Derives (Presence (here at b) k) (ToIds s2) u v → s3 ≡ without (union s1 s2) deps → s4 ≡ s3 → d.now ≡ with_node_at at (with_presence k s4 (here at b)) b.now → w ≡ at_depth t.depth v → Clears (λ c. ClearElem c deps k) at a d s3 t w
clear_elem at deps k a b d s1 s2 s3 s4 t o u v w h f any pres is se put e =
    let y = any.after in
    let hb : here at b ≡ y = then_here at y a b h any.now in
    let first = subst (λ (r : Rows). Derives (ClearAny (here at a) deps k) (Cleared y s1) r u) f any.derives in
    let second = subst (λ (x : Context). Derives (Presence x k) (ToIds s2) u v) hb pres in
    rw (e, is) (record {
      after = with_presence k (without (union s1 s2) deps) y;
      derives = two_premises R.ClearElem _ _ _ _ _ _ t u v first second (y, s1, s2, refl, refl);
      now = then_now at y _ a b d any.now (put ∙ rw (hb, se, is) refl);
      same = bare-presence k _ y ∙ any.same;
      rises = without-rises (union s1 s2) deps (union-rises s1 s2);
    })

pub rises_left : (deps s1 s2 s all ids : List Id) → all ≡ union s1 s → s2 ≡ all → ids ≡ without s2 deps → AreRising ids
rises_left deps s1 s2 s all ids e f g = rw (g, f, e) (without-rises (union s1 s) deps (union-rises s1 s))

pub clear_any : (at : List Tagged) (deps : List Id) (k : Key) (a b d e : Tree) (s1 s2 s3 s : List Id) (t o t1 t2 t3 u : Rows) → HasPlace at a → o ≡ one_deeper (pushed t R.ClearAny) → Clears (λ c. Clear c deps (MapT k)) at a b s1 o t1 → Clears (λ c. Clear c deps (ListT k)) at b d s2 t1 t2 → Clears (λ c. Clear c deps (RegT k)) at d e s3 t2 t3 → s ≡ union s1 (union s2 s3) → u ≡ at_depth t.depth t3 → Clears (λ c. ClearAny c deps k) at a e s t u
clear_any at deps k a b d e s1 s2 s3 s t o t1 t2 t3 u h oe x y z is f =
    let hb : here at b ≡ x.after = then_here at _ a b h x.now in
    let pb : HasPlace at b = then_place at _ a b h x.now in
    let hd : here at d ≡ y.after = then_here at _ b d pb y.now in
    let dx = subst (λ (r : Rows). Derives (Clear (here at a) deps (MapT k)) (Cleared x.after s1) r t1) oe x.derives in
    let dy = subst (λ (c : Context). Derives (Clear c deps (ListT k)) (Cleared y.after s2) t1 t2) hb y.derives in
    let dz = subst (λ (c : Context). Derives (Clear c deps (RegT k)) (Cleared z.after s3) t2 t3) hd z.derives in
    rw (f, is) (record {
      after = z.after;
      derives = three_premises R.ClearAny _ _ _ _ _ _ _ _ t t1 t2 t3 dx dy dz (x.after, s1, y.after, s2, z.after, s3, refl, refl);
      now = then_now at _ _ a d e (then_now at _ _ a b d x.now y.now) z.now;
      same = z.same ∙ ap bare hd ∙ y.same ∙ ap bare hb ∙ x.same;
      rises = union-rises s1 (union s2 s3);
    })

-- the place one key further down
down_node : (at : List Tagged) (k : Tagged) (d : Context) (a : Tree) → HasPlace at a → content k (here at a) ≡ Some (Node d) → node_at (at ++ k ∷ []) a.now ≡ Some d
down_node at k d a p h = node-below at k (here at a) d a.now (there at a.now p) h

down_here : (at : List Tagged) (k : Tagged) (d : Context) (a : Tree) → HasPlace at a → content k (here at a) ≡ Some (Node d) → here (at ++ k ∷ []) a ≡ d
down_here at k d a p h = rw (down_node at k d a p h) refl

-- what a call one key further down may ask for
pub record Down (P : Context → Type 0) (at : List Tagged) (k : Tagged) (a : Tree) : Type 0 where
  pub chained : P (here (at ++ k ∷ []) a)
  pub smaller : suc (nested (here (at ++ k ∷ []) a)) ≤ nested (here at a)

down : (P : Context → Type 0) (at : List Tagged) (k : Tagged) (d : Context) (a : Tree) → HasPlace at a → content k (here at a) ≡ Some (Node d) → P d → Down P at k a
down P at k d a h q c =
    let i : here (at ++ k ∷ []) a ≡ d = down_here at k d a h q in
    record { chained = rw i c; smaller = rw i (nested_below k (here at a) d q) }

pub down_map : (at : List Tagged) (k : Key) (a : Tree) → HasPlace at a → is_some (content (MapT k) (here at a)) ≡ true → AreChainedBelow (here at a) → Down AreChainedBelow at (MapT k) a
down_map at k a h q c =
    let d = found_node (find key_cmp k (maps (here at a))) q in
    down AreChainedBelow at (MapT k) d.0 a h d.1 (below-chained d.0 (map_below k (here at a) d.0 d.1 c))

pub down_list : (at : List Tagged) (k : Key) (a : Tree) → HasPlace at a → is_some (content (ListT k) (here at a)) ≡ true → AreChainedBelow (here at a) → Down IsChainedList at (ListT k) a
down_list at k a h q c =
    let d = found_node (find key_cmp k (lists (here at a))) q in
    down IsChainedList at (ListT k) d.0 a h d.1 (list_below k (here at a) d.0 d.1 c)

-- what is under a key was cleared
cleared_below : (at : List Tagged) (deps : List Id) (k : Tagged) (d : Context) (rule : Rule) (q : Context → Question) (a b : Tree) (s : List Id) (t o u v : Rows) → HasPlace at a → content k (here at a) ≡ Some (Node d) → o ≡ one_deeper (pushed t rule) → Clears q (at ++ k ∷ []) a b s o u → v ≡ at_depth t.depth u → ((e : Context) → Follows rule (Clear (here at a) deps k) (Cleared (with_content k (Node e) (here at a)) s) (gives (q d) (Cleared e s) ∷ [])) → Clears (λ c. Clear c deps k) at a b s t v
cleared_below at deps k d rule q a b s t o u v h f oe x ve follows =
    let i : here (at ++ k ∷ []) a ≡ d = down_here at k d a h f in
    let inner = subst (λ (c : Context). Derives (q c) (Cleared x.after s) o u) i x.derives in
    let inner2 = subst (λ (y : Rows). Derives (q d) (Cleared x.after s) y u) oe inner in
    rw ve (record {
      after = with_content k (Node x.after) (here at a);
      derives = one_premise rule (Clear (here at a) deps k) (Cleared (with_content k (Node x.after) (here at a)) s) _ _ t u inner2 (follows x.after);
      now = x.now ∙ with_node-below at k (here at a) d x.after a.now (there at a.now h) f;
      same = bare-with k (here at a) d x.after f (x.same ∙ ap bare i);
      rises = x.rises;
    })

pub map_cleared : (at : List Tagged) (deps : List Id) (k : Key) (a b : Tree) (s : List Id) (t o u v : Rows) → HasPlace at a → is_some (content (MapT k) (here at a)) ≡ true → o ≡ one_deeper (pushed t R.ClearMap1) → Clears (λ c. ClearMap c deps []) (at ++ MapT k ∷ []) a b s o u → v ≡ at_depth t.depth u → Clears (λ c. Clear c deps (MapT k)) at a b s t v
map_cleared at deps k a b s t o u v h q oe x ve =
    let d = found_node (find key_cmp k (maps (here at a))) q in
    cleared_below at deps (MapT k) d.0 R.ClearMap1 (λ c. ClearMap c deps []) a b s t o u v h d.1 oe x ve (λ e. (d.0, e, s, d.1, refl, refl))

pub list_cleared : (at : List Tagged) (deps : List Id) (k : Key) (a b : Tree) (s : List Id) (t o u v : Rows) → HasPlace at a → is_some (content (ListT k) (here at a)) ≡ true → o ≡ one_deeper (pushed t R.ClearList1) → Clears (λ c. ClearList c deps (Some Head)) (at ++ ListT k ∷ []) a b s o u → v ≡ at_depth t.depth u → Clears (λ c. Clear c deps (ListT k)) at a b s t v
list_cleared at deps k a b s t o u v h q oe x ve =
    let d = found_node (find key_cmp k (lists (here at a))) q in
    cleared_below at deps (ListT k) d.0 R.ClearList1 (λ c. ClearList c deps (Some Head)) a b s t o u v h d.1 oe x ve (λ e. (d.0, e, s, d.1, refl, refl))

-- after a call at a place
pub record After (at : List Tagged) (a b : Tree) : Type 0 where
  pub below : AreChainedBelow (here at a) → AreChainedBelow (here at b)
  pub nested : nested (here at b) ≡ nested (here at a)
  pub same : bare (here at b) ≡ bare (here at a)

pub after_change : (at : List Tagged) (y : Context) (a b : Tree) → HasPlace at a → b.now ≡ with_node_at at y a.now → bare y ≡ bare (here at a) → After at a b
after_change at y a b h f s =
    let i : here at b ≡ y = then_here at y a b h f in
    let same : bare (here at b) ≡ bare (here at a) = ap bare i ∙ s in
    record { below = below-same (here at a) (here at b) (sym same); nested = nested-same (here at b) (here at a) same; same = same }

pub after_call : (q : Context → Question) (at : List Tagged) (a b : Tree) (ids : List Id) (t u : Rows) → HasPlace at a → Clears q at a b ids t u → After at a b
after_call q at a b ids t u h x = after_change at x.after a b h x.now x.same

-- what is set to what it is stays
pub presence_stays : (at : List Tagged) (k : Key) (s : List Id) (a : Tree) → HasPlace at a → presence k (here at a) ≡ Some s → a.now ≡ with_node_at at (with_presence k s (here at a)) a.now
presence_stays at k s a p h = sym (ap (λ c. with_node_at at c a.now) (same (here at a) h) ∙ with_node-same at (here at a) a.now (there at a.now p))
  where
    same : (c : Context) → presence k c ≡ Some s → with_presence k s c ≡ c
    same (context m l r q n) e = ap (λ f. context m l r f n) (put-same keys_total exact_keys k s q e)

pub register_stays : (at : List Tagged) (k : Key) (r left : Register) (a : Tree) → HasPlace at a → find key_cmp k (registers (here at a)) ≡ Some r → r ≡ left → a.now ≡ with_node_at at (with_content (RegT k) (Values left) (here at a)) a.now
register_stays at k r left a p h e = sym (ap (λ c. with_node_at at c a.now) (same (here at a) (h ∙ ap Some e)) ∙ with_node-same at (here at a) a.now (there at a.now p))
  where
    same : (c : Context) → find key_cmp k (registers c) ≡ Some left → with_content (RegT k) (Values left) c ≡ c
    same (context m l q ps n) f = ap (λ x. context m l x ps n) (put-same keys_total exact_keys k left q f)

-- a call that changes the tree or refuses
pub later_or_same : {T E : Type 0} (r : Result T E) (at : List Tagged) (y : Context) (a b : Tree) → OnOk r (IsChanged at y a b) → OnErr r (b ≡ a) → IsLater a b
later_or_same (Ok x) at y a b h k = later_changed at y a b h
later_or_same (Err x) at y a b h k = subst (λ (t : Tree). IsLater a t) (sym k) (still a)
