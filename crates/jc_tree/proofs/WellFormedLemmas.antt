-- About Change: changes keep a content well formed.
use Rattle.std.proofs.Common.{◌≡◌, ◌≢◌, List, [], ◌∷◌, ◌++◌, Option, Some, None, refl}
use Rattle.std.specs.List.{AllByRecursion}
use Rattle.jc_rules.specs.declared.id.Id.{Id}
use Rattle.jc_rules.specs.declared.value.Value.{Value}
use Rattle.jc_rules.specs.declared.key.Key.{Key}
use Rattle.jc_rules.specs.declared.key.Tagged.{Tagged}
use Rattle.jc_rules.specs.declared.key.Tagged.TheVariants.{MapT, ListT, RegT}
use Rattle.jc_rules.specs.Order.{id_cmp, key_cmp}
use Rattle.jc_rules.specs.Entries.{IsRising, find, keys_of, put}
use Rattle.jc_rules.specs.Ids.{AreRising, with_id}
use Rattle.jc_rules.specs.Context.{Context, context, Children, no_child, child, children, listed, Register, Content, Node, Values, content, with_content, presence, with_presence, presences, registers, IsPrimitive, empty, empty_list}
use Rattle.jc_rules.specs.ContextsAt.{node_at, with_node_at, context_at}
use Rattle.jc_rules.specs.WellFormed.{IsWellFormedContext, AreWellFormedContexts, IsWellFormedRegister}
use Rattle.jc_rules.proofs.OrderLemmas.{ids_total, exact_ids, keys_total, exact_keys}
use Rattle.jc_rules.proofs.EntriesLemmas.{rising-put, values-put, value-found}
use Rattle.jc_rules.proofs.ContextsAtLemmas.{listed_children, node_found, there}
use Rattle.jc_rules.proofs.IdsLemmas.{with-rises}
use Rattle.jc_tree.specs.Tree.{or_no_entries}
use Rattle.jc_tree.specs.Change.{IsFit, changed_by, changed_at}
use Rattle.jc_tree.proofs.PresencesLemmas.{rising_there}
use Rattle.jc_tree.specs.declared.node.Change.{Change}
use Rattle.jc_tree.specs.declared.node.Change.TheVariants.{Child, AddId, Presence, Link, PutValue, Register as Set}
use Rattle.jc_rules.proofs.ContextLemmas.{no_node}

-- each child is kept
pub all_kept : (cs : Children) → AreWellFormedContexts cs → AllByRecursion (λ e. IsWellFormedContext e.1) (listed cs)
all_kept no_child h = tt
all_kept (child k c cs) h = (h.0, all_kept cs h.1)

pub kept_all : (es : List (Key × Context)) → AllByRecursion (λ e. IsWellFormedContext e.1) es → AreWellFormedContexts (children es)
kept_all [] h = tt
kept_all (e ∷ es) h = (h.0, kept_all es h.1)

kept-child : (k : Key) (d : Context) (cs : Children) → AreWellFormedContexts cs → find key_cmp k (listed cs) ≡ Some d → IsWellFormedContext d
kept-child k d cs h f = value-found keys_total exact_keys IsWellFormedContext k d (listed cs) (all_kept cs h) f

pub kept-put : (k : Key) (d : Context) (cs : Children) → AreWellFormedContexts cs → IsWellFormedContext d → AreWellFormedContexts (children (put key_cmp k d (listed cs)))
kept-put k d cs h g = kept_all (put key_cmp k d (listed cs)) (values-put keys_total exact_keys IsWellFormedContext k d (listed cs) g (all_kept cs h))

-- a kept context holds kept ones
pub kept-content : (t : Tagged) (c d : Context) → IsWellFormedContext c → content t c ≡ Some (Node d) → IsWellFormedContext d
kept-content (MapT k) (context m l r p n) d h f = kept-child k d m h.7 (node_found _ d f)
kept-content (ListT k) (context m l r p n) d h f = kept-child k d l h.8 (node_found _ d f)
kept-content (RegT k) (context m l r p n) d h f = no_node (find key_cmp k r) d f

-- a kept context with a kept one under a tagged key
kept-with : (t : Tagged) (c d : Context) → IsWellFormedContext c → IsWellFormedContext d → IsWellFormedContext (with_content t (Node d) c)
kept-with (MapT k) (context m l r p n) d h g = rw listed_children (rising-put keys_total exact_keys k d (listed m) h.0, h.1, h.2, h.3, h.4, h.5, h.6, kept-put k d m h.7 g, h.8)
kept-with (ListT k) (context m l r p n) d h g = rw listed_children (h.0, rising-put keys_total exact_keys k d (listed l) h.1, h.2, h.3, h.4, h.5, h.6, h.7, kept-put k d l h.8 g)
kept-with (RegT k) (context m l r p n) d h g = h

kept-register : (k : Key) (v : Register) (c : Context) → IsWellFormedContext c → IsWellFormedRegister v → IsWellFormedContext (with_content (RegT k) (Values v) c)
kept-register k v (context m l r p n) h g = (h.0, h.1, rising-put keys_total exact_keys k v r h.2, h.3, h.4, values-put keys_total exact_keys IsWellFormedRegister k v r g h.5, h.6, h.7, h.8)

pub kept-presence : (k : Key) (s : List Id) (c : Context) → AreRising s → IsWellFormedContext c → IsWellFormedContext (with_presence k s c)
kept-presence k s (context m l r p n) f h = (h.0, h.1, h.2, rising-put keys_total exact_keys k s p h.3, h.4, h.5, values-put keys_total exact_keys AreRising k s p f h.6, h.7, h.8)

-- a set of a kept context rises
pub rising : (k : Key) (s : List Id) (c : Context) → IsWellFormedContext c → presence k c ≡ Some s → AreRising s
rising k s (context m l r p n) h e = value-found keys_total exact_keys AreRising k s p h.6 e

-- so does a register, with primitive values
kept_values : (k : Key) (v : Register) (c : Context) → IsWellFormedContext c → find key_cmp k (registers c) ≡ Some v → IsWellFormedRegister v
kept_values k v (context m l r p n) h e = value-found keys_total exact_keys IsWellFormedRegister k v r h.5 e

kept_or_none : (o : Option Register) → ((v : Register) → o ≡ Some v → IsWellFormedRegister v) → IsWellFormedRegister (or_no_entries o)
kept_or_none None h = (tt, tt)
kept_or_none (Some v) h = h v refl

-- with a value that is put under an identifier
register_put : (i : Id) (v : Value) (r : Register) → IsWellFormedRegister r → IsPrimitive v → IsWellFormedRegister (put id_cmp i v r)
register_put i v r h p = (rising-put ids_total exact_ids i v r h.0, values-put ids_total exact_ids IsPrimitive i v r p h.1)

-- what a fit change makes of a kept context
kept-changed : (change : Change) (c : Context) → IsFit change → IsWellFormedContext c → IsWellFormedContext (changed_by change c)
kept-changed (Child (MapT k)) c f h = kept-with (MapT k) c empty h (tt, tt, tt, tt, tt, tt, tt, tt, tt)
kept-changed (Child (ListT k)) c f h = kept-with (ListT k) c empty_list h (tt, tt, tt, tt, (tt, tt), tt, tt, tt, tt)
kept-changed (Child (RegT k)) c f h = kept-register k [] c h (tt, tt)
kept-changed (AddId k i) c f h = kept-presence k (with_id i (or_no_entries (presence k c))) c (with-rises i (or_no_entries (presence k c)) (rising_there (presence k c) (λ s e. rising k s c h e))) h
kept-changed (Presence k s) c f h = kept-presence k s c f h
kept-changed (Link k x) (context m l r p n) f h = (h.0, h.1, h.2, h.3, rising-put keys_total exact_keys k x n h.4, h.5, h.6, h.7, h.8)
kept-changed (PutValue k i v) c f h =
    let old = or_no_entries (find key_cmp k (registers c)) in
    kept-register k (put id_cmp i v old) c h (register_put i v old (kept_or_none (find key_cmp k (registers c)) (λ r e. kept_values k r c h e)) f)
kept-changed (Set k v) c f h = kept-register k v c h f

-- the context at a place of a kept one
pub kept-node : (ks : List Tagged) (c d : Context) → IsWellFormedContext c → node_at ks c ≡ Some d → IsWellFormedContext d
kept-node [] c d h e = let same : c ≡ d = cc in rw (← same) h
kept-node (k ∷ ks) c d h e = go (content k c) refl (λ b f. kept-node ks b d f) e
  where
    go : (o : Option Content) → content k c ≡ o → ((b : Context) → IsWellFormedContext b → node_at ks b ≡ Some d → IsWellFormedContext d) → node_at (k ∷ ks) c ≡ Some d → IsWellFormedContext d
    go None f ih g = let no : None ≡ Some d = rw f at g in cc
    go (Some (Values r)) f ih g = let no : None ≡ Some d = rw f at g in cc
    go (Some (Node b)) f ih g = ih b (kept-content k c b h f) (rw f at g)

kept-with_node : (ks : List Tagged) (y c : Context) → IsWellFormedContext c → IsWellFormedContext y → IsWellFormedContext (with_node_at ks y c)
kept-with_node [] y c h g = g
kept-with_node (k ∷ ks) y c h g = go (content k c) refl (λ b f. kept-with_node ks y b f g)
  where
    go : (o : Option Content) → content k c ≡ o → ((b : Context) → IsWellFormedContext b → IsWellFormedContext (with_node_at ks y b)) → IsWellFormedContext (with_node_at (k ∷ ks) y c)
    go None f ih = rw f h
    go (Some (Values r)) f ih = rw f h
    go (Some (Node b)) f ih = rw f (kept-with k c (with_node_at ks y b) h (ih b (kept-content k c b h f)))

pub kept-changed_at : (ks : List Tagged) (change : Change) (c : Context) → IsWellFormedContext c → node_at ks c ≢ None → IsFit change → IsWellFormedContext (changed_at ks change c)
kept-changed_at ks change c h place f = kept-with_node ks (changed_by change (context_at ks c)) c h (kept-changed change (context_at ks c) f (kept-node ks c (context_at ks c) h (there ks c place)))

pub kept-pushed : (P : Context → Type 0) (cs : List Context) (c : Context) → AllByRecursion P cs → P c → AllByRecursion P (cs ++ c ∷ [])
kept-pushed P [] c h g = (g, tt)
kept-pushed P (d ∷ cs) c h g = (h.0, kept-pushed P cs c h.1 g)

-- what is lent of a kept content
pub presence_rises : (ks : List Tagged) (k : Key) (s ids : List Id) (c : Context) → IsWellFormedContext c → node_at ks c ≢ None → presence k (context_at ks c) ≡ Some s → ids ≡ s → AreRising ids
presence_rises ks k s ids c h place f e = rw e (rising k s (context_at ks c) (kept-node ks c (context_at ks c) h (there ks c place)) f)

pub register_kept : (ks : List Tagged) (k : Key) (v pairs : Register) (c : Context) → IsWellFormedContext c → node_at ks c ≢ None → find key_cmp k (registers (context_at ks c)) ≡ Some v → pairs ≡ v → IsWellFormedRegister pairs
register_kept ks k v pairs c h place f e = rw e (kept_values k v (context_at ks c) (kept-node ks c (context_at ks c) h (there ks c place)) f)

pub presences_rise : (c : Context) → IsWellFormedContext c → IsRising key_cmp (keys_of (presences c))
presences_rise (context m l r p n) h = h.3
