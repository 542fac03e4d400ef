-- What is seen of a context below a path: what is there, or what a descent makes there. `Meaning` reads trees so.
use Rattle.std.specs.Prelude.{List, [], ◌∷◌, Bool, Option, Some, None, is_some}
use Rattle.jc_rules.specs.declared.id.Id.{Id}
use Rattle.jc_rules.specs.declared.key.Key.{Key}
use Rattle.jc_rules.specs.declared.key.Tagged.{Tagged}
use Rattle.jc_rules.specs.declared.key.Tagged.TheVariants.{ListT}
use Rattle.jc_rules.specs.declared.value.Value.{Value}
use Rattle.jc_rules.specs.Order.{key_cmp, id_cmp}
use Rattle.jc_rules.specs.Entries.{find}
use Rattle.jc_rules.specs.Context.{Context, registers, Register, Content, Node, content, presence, empty, empty_list}

-- the context under a tagged key, or what is new there
abbrev pub context_or_new : Option Content → Tagged → Context
context_or_new (Some (Node d)) t = d
context_or_new _ (ListT k) = empty_list
context_or_new _ _ = empty

abbrev pub seen : List Tagged → Context → Context
seen [] c = c
seen (t ∷ ts) c = seen ts (context_or_new (content t c) t)

abbrev pub ids_of_some : Option (List Id) → List Id
ids_of_some None = []
ids_of_some (Some s) = s

-- the presence set of a key; a missing one counts as empty
abbrev pub ids_at : Key → Context → List Id
ids_at k c = ids_of_some (presence k c)

abbrev pub reg_at : Key → Context → Option Register
reg_at k c = find key_cmp k (registers c)

abbrev pub value_in_some : Id → Option Register → Option Value
value_in_some i None = None
value_in_some i (Some r) = find id_cmp i r

abbrev pub value_seen_at : Id → Key → Context → Option Value
value_seen_at i k c = value_in_some i (reg_at k c)

abbrev pub has_tag : Tagged → Context → Bool
has_tag u c = is_some (content u c)
