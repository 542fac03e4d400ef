-- One change of one context, and which changes keep a content well formed, for both stores.
use Rattle.std.specs.Prelude.{◌≡◌, List, None}
use Rattle.jc_rules.specs.declared.key.Tagged.{Tagged}
use Rattle.jc_rules.specs.declared.key.Tagged.TheVariants.{RegT}
use Rattle.jc_rules.specs.Context.{Context, Values, IsPrimitive, registers, content, with_content, presence, with_presence, with_next, new_content}
use Rattle.jc_rules.specs.Order.{id_cmp, key_cmp}
use Rattle.jc_rules.specs.Entries.{find, put}
use Rattle.jc_rules.specs.Ids.{AreRising, with_id}
use Rattle.jc_rules.specs.WellFormed.{IsWellFormedRegister}
use Rattle.jc_rules.specs.ContextsAt.{with_node_at, context_at}
use Rattle.jc_tree.specs.Tree.{or_no_entries}
use Rattle.jc_tree.specs.declared.node.Change.{Change}
use Rattle.jc_tree.specs.declared.node.Change.TheVariants.{Child, AddId, Presence, Link, PutValue, Register}

abbrev pub changed_by : Change → Context → Context
changed_by (Child t) c = with_content t (new_content t) c
changed_by (AddId k i) c = with_presence k (with_id i (or_no_entries (presence k c))) c
changed_by (Presence k s) c = with_presence k s c
changed_by (Link k n) c = with_next k n c
changed_by (PutValue k i v) c =
    with_content (RegT k) (Values (put id_cmp i v (or_no_entries (find key_cmp k (registers c))))) c
changed_by (Register k r) c = with_content (RegT k) (Values r) c

-- with the context at the place changed
abbrev pub changed_at : List Tagged → Change → Context → Context
changed_at at change c = with_node_at at (changed_by change (context_at at c)) c

-- the change leaves a content kept
abbrev pub IsFit : Change → Type 0
IsFit (Child t) = Unit {0}
IsFit (AddId k i) = Unit {0}
IsFit (Presence k s) = AreRising s
IsFit (Link k n) = Unit {0}
IsFit (PutValue k i v) = IsPrimitive v
IsFit (Register k r) = IsWellFormedRegister r

-- nothing stands yet under the tagged key of a new child
abbrev pub IsNew : Change → Context → Type 0
IsNew (Child t) c = content t c ≡ None
IsNew _ c = Unit {0}
