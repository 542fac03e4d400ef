-- That a call changes the context at a place by the table: the contracts of `apply_op`'s steps.
use Rattle.std.specs.Prelude.{◌≡◌, ◌≢◌, ◌≤◌, List, [], ◌∷◌, Option, Some, None, Bool, is_some}
use Rattle.jc_rules.specs.declared.id.Id.{Id}
use Rattle.jc_rules.specs.declared.key.Key.{Key}
use Rattle.jc_rules.specs.declared.key.Next.{Next}
use Rattle.jc_rules.specs.declared.key.Tagged.{Tagged}
use Rattle.jc_rules.specs.declared.operation.Mutation.{Mutation}
use Rattle.jc_rules.specs.declared.operation.Mutation.TheVariants.{Assign, Delete}
use Rattle.jc_rules.specs.declared.operation.Op.{Op}
use Rattle.jc_rules.specs.declared.rule.Rule.{Rule}
use Rattle.jc_rules.specs.Ids.{with_id}
use Rattle.jc_rules.specs.Context.{Context, Content, Node, with_content, presence, with_presence, links, next, key_of_tagged}
use Rattle.jc_rules.specs.ContextsAt.{with_node_at}
use Rattle.jc_rules.specs.WellFormed.{IsChained}
use Rattle.jc_rules.specs.Derivation.{Question, Operate, ClearElem, AddId, Child, ToContext, ToContent, Cleared, gives}
use Rattle.jc_rules.specs.Derives.{Derives}
use Rattle.jc_rules.specs.Trace.{Rows, at_depth}
use Rattle.jc_rules.specs.Table.{Follows, moved, IsBefore}
use Rattle.jc_tree.specs.Tree.{Tree, here, or_no_entries}
use Rattle.jc_apply.specs.Fits.{child_context, empty_of, IsUnlinked}

-- A derivation answers the question of the context at the place with another context, which is there afterwards, and
-- its rules were added to the trace.
pub record LeadsTo (q : Context → Question) (at : List Tagged) (a b : Tree) (t u : Rows) : Type 0 where
  pub after : Context
  pub derives : Derives (q (here at a)) (ToContext after) t u
  pub now : b.now ≡ with_node_at at after a.now

-- The same for the child under a tagged key, which is there afterwards.
pub record Enters (key : Tagged) (at : List Tagged) (a b : Tree) (t u : Rows) : Type 0 where
  pub below : Context
  pub is : child_context key (here at a) ≡ Some below
  pub derives : Derives (Child (here at a) key) (ToContent (Node below)) t u
  pub now : b.now ≡ with_node_at at (with_content key (Node below) (here at a)) a.now

-- The identifier of an operation with this mutation is added to the first context under the tagged key, which gives the
-- second: to a presence set that was there or to a new one, or for a deletion to none.
abbrev pub IsAdded : Tagged → Id → Mutation → Option Bool → Context → Context → Type 0
IsAdded k i m None c d = (m ≡ Delete) × (d ≡ c)
IsAdded k i m (Some was) c d =
    (m ≢ Delete)
    × (was ≡ is_some (presence (key_of_tagged k) c))
    × (d ≡ with_presence (key_of_tagged k) (with_id i (or_no_entries (presence (key_of_tagged k) c))) c)

-- The same was done with the context at the place.
pub record AddsId
    (k : Tagged) (i : Id) (m : Mutation) (was : Option Bool) (at : List Tagged) (a b : Tree)
    : Type 0 where
  pub after : Context
  pub added : IsAdded k i m was (here at a) after
  pub now : b.now ≡ with_node_at at after a.now

-- The rules that were added to the trace derive just that.
abbrev pub TellsAdded : Option Bool → Rows → Rows → Type 0
TellsAdded was t u =
    (k : Tagged) (i : Id) (m : Mutation) (c d : Context)
    → IsAdded k i m was c d → Derives (AddId c k i m) (ToContext d) t u

-- No link of the place's context changed, lists are still chained, and no identifier got linked.
pub record LinksNone (at : List Tagged) (a b : Tree) : Type 0 where
  pub same : links (here at b) ≡ links (here at a)
  pub chained : IsChained a.now → IsChained b.now
  pub unlinked : (i : Id) → IsUnlinked i a.now → IsUnlinked i b.now

-- Lists are still chained, and no identifier but the given one got linked.
pub record LinksOnly (i : Id) (a b : Tree) : Type 0 where
  pub chained : IsChained b.now
  pub unlinked : (j : Id) → j ≢ i → IsUnlinked j a.now → IsUnlinked j b.now

-- The rule assigns the empty map or the empty list under the tagged key.
abbrev pub AssignsEmpty : Rule → Tagged → Type 0
AssignsEmpty r k =
    (o : Op) (c c1 c2 : Context) (ids : List Id) (x : Content)
    → Follows r (Operate c (moved o [] (key_of_tagged k) (Assign (empty_of k)))) (ToContext (with_content k x c2))
    (gives (ClearElem c o.deps (key_of_tagged k)) (Cleared c1 ids)
    ∷ gives (AddId c1 k o.id (Assign (empty_of k))) (ToContext c2)
    ∷ gives (Child c2 k) (ToContent x)
    ∷ [])

-- From the operation's last key the rules go on to the key k, which n follows: what is derived there is derived for the
-- operation. The new element belongs between k and n.
pub record Passes (o : Op) (c : Context) (k : Key) (n : Next) (t u : Rows) : Type 0 where
  pub follows : next k c ≡ Some n
  pub before : IsBefore n o.id
  pub deeper : t.depth ≤ u.depth
  pub rest : (d : Context) (v : Rows)
      → Derives (Operate c (moved o [] k o.mutation)) (ToContext d) u v
      → Derives (Operate c (moved o [] o.cursor.last o.mutation)) (ToContext d) t (at_depth t.depth v)
