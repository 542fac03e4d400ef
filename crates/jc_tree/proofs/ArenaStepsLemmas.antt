-- About Arena: reading along a path, node by node.
use Rattle.std.proofs.Common.{◌≡◌, ◌≢◌, ℕ, ◌<◌, List, [], ◌∷◌, ◌++◌, length, get_or, Bool, Option, Some, None, is_some, cond, true, false, refl, sym, ◌∙◌, ap}
use Rattle.std.proofs.lemmas.List.{get_or_default}
use Rattle.jc_rules.specs.declared.key.Tagged.{Tagged}
use Rattle.jc_rules.specs.declared.key.Tagged.TheVariants.{MapT, ListT, RegT}
use Rattle.jc_rules.specs.declared.id.Id.{Id}
use Rattle.jc_rules.specs.declared.key.Key.{Key}
use Rattle.jc_rules.specs.Order.{key_cmp}
use Rattle.jc_rules.specs.Entries.{find, keys_of}
use Rattle.jc_rules.specs.Context.{Context, Register, content, keys}
use Rattle.jc_rules.specs.Ids.{has_id}
use Rattle.jc_rules.specs.Paths.{HasContext}
use Rattle.jc_rules.specs.ContextsAt.{node_at, context_at}
use Rattle.jc_rules.proofs.ContextsAtLemmas.{listed_children}
use Rattle.jc_tree.specs.Tree.{least_after, all_keys}
use Rattle.jc_tree.specs.Arena.{Flat, flat_keys, blank, flat_at, filled_all, with_children, content_of_arena, child_number, is_in, walk}
use Rattle.jc_tree.specs.ArenaUndo.{IsGood}
use Rattle.jc_tree.specs.Undo.{was_there, former_of_id, former_of_value}
use Rattle.jc_tree.specs.declared.node.Former.TheVariants as F
use Rattle.jc_tree.proofs.WalksLeastLemmas.{least_of, least_after-append}
use Rattle.jc_tree.proofs.ArenaNumbersLemmas.{absent, content_is}
use Rattle.jc_tree.proofs.ArenaChangesLemmas.{read_here}

pub node_read : (ns : List Flat) (n : ℕ) (x : Flat) → n < length ns → x ≡ get_or ns n x → flat_at ns n ≡ x
node_read ns n x l e = get_or_default ns n blank x l ∙ sym e

-- where the path leads to no number, there is no place
pub no_place_there : (ns : List Flat) (at : List Tagged) → IsGood ns → walk ns 0 at ≡ None → node_at at (content_of_arena ns) ≢ None → ⊥
no_place_there ns at g w h = h (absent ns at g.sound g.some w)

-- what is read of the node that the path leads to is read of the context at the place
pub read_at : {A : Type 0} (P : Context → A) (Q : Flat → A) (ns : List Flat) (at : List Tagged) (i : ℕ) (x : Flat) (r : A) → IsGood ns → walk ns 0 at ≡ Some i → i < length ns → x ≡ flat_at ns i → ((g : ℕ → Context) (n : Flat) → P (with_children g n) ≡ Q n) → r ≡ Q x → r ≡ P (context_at at (content_of_arena ns))
read_at P Q ns at i x r good path w e same h = h ∙ ap Q e ∙ sym (read_here P Q ns at i good path w same)

-- where no child is, there is no number
pub content_absent : (ns : List Flat) (at : List Tagged) (i : ℕ) (t : Tagged) → IsGood ns → walk ns 0 at ≡ Some i → i < length ns → HasContext t → content t (context_at at (content_of_arena ns)) ≡ None → child_number t (flat_at ns i) ≡ None
content_absent ns at i t g path w kind h = none_of t kind (sym (read_here (λ c. is_some (content t c)) (λ n. is_in t n) ns at i g path w (λ f n. content_is f n t)) ∙ ap (λ o. is_some o) h)
  where
    none : (o : Option ℕ) → is_some o ≡ false → o ≡ None
    none None e = refl
    none (Some c) e = cc

    none_of : (t : Tagged) → HasContext t → is_in t (flat_at ns i) ≡ false → child_number t (flat_at ns i) ≡ None
    none_of (MapT k) kind e = none (find key_cmp k (flat_at ns i).maps) e
    none_of (ListT k) kind e = none (find key_cmp k (flat_at ns i).lists) e
    none_of (RegT k) kind e = absurd kind

-- a tagged key that is no register's
pub context_key : (t : Tagged) → ((k : Key) → t ≡ RegT k → ⊥) → HasContext t
context_key (MapT k) h = tt
context_key (ListT k) h = tt
context_key (RegT k) h = h k refl

-- the keys with a tag, by the numbers of children
pub keys_filled : (g : ℕ → Context) (n : Flat) → keys (with_children g n) ≡ keys_of n.maps ++ keys_of n.lists ++ keys_of n.registers
keys_filled g n = rw (listed_children (filled_all g n.maps), listed_children (filled_all g n.lists), same n.maps, same n.lists) refl
  where
    same : (es : List (Key × ℕ)) → keys_of (filled_all g es) ≡ keys_of es
    same [] = refl
    same (e ∷ es) = ap (λ ks. e.0 ∷ ks) (same es)

-- the keys under which something stands, likewise
pub all_filled : (g : ℕ → Context) (n : Flat) → all_keys (with_children g n) ≡ flat_keys n
all_filled g n = ap (λ ks. ks ++ keys_of n.presences ++ keys_of n.links) (keys_filled g n)

-- the least key with a tag, kind by kind
pub least_by_kind : (m l : List (Key × ℕ)) (r : List (Key × Register)) (k : Option Key) → least_after k (keys_of m ++ keys_of l ++ keys_of r) ≡ least_of (least_of (least_after k (keys_of m)) (least_after k (keys_of l))) (least_after k (keys_of r))
least_by_kind m l r k = least_after-append k (keys_of m ++ keys_of l) (keys_of r) ∙ ap (λ o. least_of o (least_after k (keys_of r))) (least_after-append k (keys_of m) (keys_of l))

-- whether there was a presence set or a register, by what takes it back that it was changed
pub id_there : (k : Key) (i : Id) (o : Option (List Id)) → was_there (former_of_id k i o) ≡ is_some o
id_there k i None = refl
id_there k i (Some s) = go (has_id i s)
  where
    go : (b : Bool) → was_there (cond b F.Same (F.NoId k i)) ≡ true
    go true = refl
    go false = refl

pub value_there : (k : Key) (i : Id) (o : Option Register) → was_there (former_of_value k i o) ≡ is_some o
value_there k i None = refl
value_there k i (Some r) = refl
