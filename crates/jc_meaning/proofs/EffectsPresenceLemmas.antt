-- About Growth: an operation's identifier comes into a key's presence set, or it is withheld. `touch` uses it.
use Rattle.std.proofs.Common.{◌≡◌, List, Bool, true, false, not, ◌&&◌, Some, refl, sym, ◌∙◌, ap}
use Rattle.jc_rules.specs.declared.id.Id.{Id}
use Rattle.jc_rules.specs.declared.key.Key.{Key}
use Rattle.jc_rules.specs.declared.key.Tagged.{Tagged}
use Rattle.jc_rules.specs.declared.operation.Op.{Op}
use Rattle.jc_rules.specs.Order.{same_id, same_key}
use Rattle.jc_rules.specs.Ids.{with_id}
use Rattle.jc_rules.specs.Context.{Context, presence, with_presence}
use Rattle.jc_rules.specs.ContextsAt.{node_at, with_node_at}
use Rattle.jc_rules.proofs.IdsLemmas.{same_id-true}
use Rattle.jc_tree.specs.Tree.{or_no_entries}
use Rattle.jc_meaning.specs.Effects.{same_path, is_delete}
use Rattle.jc_meaning.specs.Meaning.{is_cleared}
use Rattle.jc_meaning.specs.Growth.{Grows, no_tag, no_id, no_value, key_here, stays}
use Rattle.jc_meaning.proofs.NextOperationLemmas.{paths_eq}
use Rattle.jc_meaning.proofs.OrdersLemmas.{keys_eq}
use Rattle.jc_meaning.proofs.GrowthWriteLemmas.{presence_grows, grows_as, nothing_grows}

-- at the key, what the operation brings is told there
at_key : (O : List Op) (o : Op) (at : List Tagged) (k : Key) (P : List Tagged) (l : Key) (i : Id) → (b : Bool) → (not (is_delete o.mutation) && not (is_cleared O at k o.id)) ≡ b
    → (key_here at k P l && (same_id i o.id && b)) ≡ (key_here at k P l && stays O o P l i)
at_key O o at k P l i b h = go (same_path at P) (same_key k l) (same_id i o.id) refl refl refl
  where
    go : (x y z : Bool) → same_path at P ≡ x → same_key k l ≡ y → same_id i o.id ≡ z → ((x && y) && (z && b)) ≡ ((x && y) && (z && (not (is_delete o.mutation) && not (is_cleared O P l i))))
    go true true true e f g =
        let one : is_cleared O at k o.id ≡ is_cleared O P l i = ap (λ Q. is_cleared O Q k o.id) (paths_eq at P e) ∙ ap (λ q. is_cleared O P q o.id) (keys_eq k l f) ∙ ap (λ j. is_cleared O P l j) (sym (same_id-true i o.id g)) in
        sym h ∙ ap (λ c. not (is_delete o.mutation) && not c) one
    go true true false e f g = refl
    go true false z e f g = refl
    go false y z e f g = refl

none_here : (x z : Bool) → false ≡ (x && (z && false))
none_here true true = refl
none_here true false = refl
none_here false z = refl

pub withheld : (O : List Op) (o : Op) (at : List Tagged) (k : Key) (c : Context) → (not (is_delete o.mutation) && not (is_cleared O at k o.id)) ≡ false → Grows c c no_tag (λ P l i. key_here at k P l && stays O o P l i) no_value
withheld O o at k c h =
    grows_as c c no_tag no_tag no_id (λ P l i. key_here at k P l && stays O o P l i) no_value no_value (λ P u. refl) (λ P l i. none_here (key_here at k P l) (same_id i o.id) ∙ at_key O o at k P l i false h) (λ P l i. refl) (nothing_grows c)

pub touched_there : (O : List Op) (o : Op) (at : List Tagged) (k : Key) (c d x : Context) → is_delete o.mutation ≡ false → is_cleared O at k o.id ≡ false → node_at at c ≡ Some x → d ≡ with_node_at at (with_presence k (with_id o.id (or_no_entries (presence k x))) x) c
    → Grows c d no_tag (λ P l i. key_here at k P l && stays O o P l i) no_value
touched_there O o at k c d x m clear e is =
    grows_as c d no_tag no_tag (λ P l i. key_here at k P l && same_id i o.id) (λ P l i. key_here at k P l && stays O o P l i) no_value no_value (λ P u. refl) (λ P l i. ap (λ b. key_here at k P l && b) (all (same_id i o.id)) ∙ at_key O o at k P l i true (ap (λ b. not b && not (is_cleared O at k o.id)) m ∙ ap not clear)) (λ P l i. refl) (presence_grows at k o.id c d x e is)
  where
    all : (b : Bool) → b ≡ (b && true)
    all true = refl
    all false = refl
