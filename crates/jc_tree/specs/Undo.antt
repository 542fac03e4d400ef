-- How changes are taken back by their undo records, in both stores.
use Rattle.std.specs.Prelude.{List, [], ◌∷◌, Bool, true, false, Option, Some, None, cond}
use Rattle.std.specs.Ordering.{eq_by_cmp}
use Rattle.std.specs.declared.cmp.Ordering.{Ordering}
use Rattle.jc_rules.specs.declared.id.Id.{Id}
use Rattle.jc_rules.specs.declared.key.Key.{Key}
use Rattle.jc_rules.specs.declared.key.Tagged.{Tagged}
use Rattle.jc_rules.specs.declared.key.Tagged.TheVariants.{MapT, ListT, RegT}
use Rattle.jc_rules.specs.declared.value.Value.{Value}
use Rattle.jc_rules.specs.Order.{id_cmp, key_cmp, same_id}
use Rattle.jc_rules.specs.Entries.{find, replaced, put}
use Rattle.jc_rules.specs.Ids.{has_id}
use Rattle.jc_rules.specs.Context.{Context, context, Register, children, listed, registers, presence, next}
use Rattle.jc_rules.specs.ContextsAt.{with_node_at, context_at}
use Rattle.jc_tree.specs.declared.node.Change.{Change}
use Rattle.jc_tree.specs.declared.node.Change.TheVariants.{Child, AddId, Presence, Link, PutValue, Register as SetRegister}
use Rattle.jc_tree.specs.declared.node.Former.{Former}
use Rattle.jc_tree.specs.declared.node.Former.TheVariants as F
use Rattle.jc_tree.specs.declared.plain.Undo.{Undo}

-- without the entry of the key
abbrev pub removed : {K X : Type 0} → (K → K → Ordering) → K → List (K × X) → List (K × X)
removed R k [] = []
removed R k (e ∷ es) = cond (eq_by_cmp R k e.0) es (e ∷ removed R k es)

-- with the value that the key had, where it had one, in the place of the one that it has
abbrev pub restored : {K X : Type 0} → (K → K → Ordering) → K → Option X → List (K × X) → List (K × X)
restored R k (Some x) es = replaced R k x es
restored R k None es = removed R k es

-- without the identifier
abbrev pub taken_out : Id → List Id → List Id
taken_out i [] = []
taken_out i (j ∷ js) = cond (same_id i j) js (j ∷ taken_out i js)

-- with the identifier taken out of the key's set, where it has one
abbrev pub out_of_set : Key → Id → Option (List Id) → List (Key × List Id) → List (Key × List Id)
out_of_set k i None es = es
out_of_set k i (Some s) es = put key_cmp k (taken_out i s) es

-- with the value that the identifier had in the key's register, where there is one
abbrev pub restored_value : Key → Id → Option Value → Option Register → List (Key × Register) → List (Key × Register)
restored_value k i o None es = es
restored_value k i o (Some r) es = put key_cmp k (restored id_cmp i o r) es

-- the undo record of adding the identifier to the key's set
abbrev pub former_of_id : Key → Id → Option (List Id) → Former
former_of_id k i None = F.Presence k None
former_of_id k i (Some s) = cond (has_id i s) F.Same (F.NoId k i)

-- the undo record of putting a value under the identifier into the key's register
abbrev pub former_of_value : Key → Id → Option Register → Former
former_of_value k i None = F.Register k None
former_of_value k i (Some r) = F.Value k i (find id_cmp i r)

-- whether there was a register or a presence set before, by the undo record of setting one
abbrev pub was_there : Former → Bool
was_there (F.Register k None) = false
was_there (F.Presence k None) = false
was_there _ = true

-- what a change is going to set, as it is
abbrev pub former_of : Change → Context → Former
former_of (Child (MapT k)) c = F.Map k
former_of (Child (ListT k)) c = F.List k
former_of (Child (RegT k)) c = F.Register k (find key_cmp k (registers c))
former_of (AddId k i) c = former_of_id k i (presence k c)
former_of (Presence k s) c = F.Presence k (presence k c)
former_of (Link k n) c = F.Link k (next k c)
former_of (PutValue k i v) c = former_of_value k i (find key_cmp k (registers c))
former_of (SetRegister k r) c = F.Register k (find key_cmp k (registers c))

-- with that as it was
abbrev pub restored_by : Former → Context → Context
restored_by (F.Map k) (context m l r p n) = context (children (removed key_cmp k (listed m))) l r p n
restored_by (F.List k) (context m l r p n) = context m (children (removed key_cmp k (listed l))) r p n
restored_by (F.Register k o) (context m l r p n) = context m l (restored key_cmp k o r) p n
restored_by (F.Value k i o) (context m l r p n) = context m l (restored_value k i o (find key_cmp k r) r) p n
restored_by (F.Presence k o) (context m l r p n) = context m l r (restored key_cmp k o p) n
restored_by (F.Link k o) (context m l r p n) = context m l r p (restored key_cmp k o n)
restored_by (F.NoId k i) (context m l r p n) = context m l r (out_of_set k i (find key_cmp k p) p) n
restored_by F.Same c = c

-- that in the context at the place
abbrev pub restored_at : List Tagged → Former → Context → Context
restored_at at former c = with_node_at at (restored_by former (context_at at c)) c

-- the content before all the changes of these undo records, the latest last
abbrev pub tree_undone : List Undo → Context → Context
tree_undone [] c = c
tree_undone (u ∷ us) c = restored_at u.at.items u.former (tree_undone us c)

-- the contents before each of these changes, the oldest first
abbrev pub earlier_contents : List Undo → Context → List Context
earlier_contents [] c = []
earlier_contents (u ∷ us) c = tree_undone (u ∷ us) c ∷ earlier_contents us c
