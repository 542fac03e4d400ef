-- What a store contains, and its changes: the contracts of `TreeStore` and of all rules over it are in these words.
use Rattle.std.specs.Prelude.{◌≡◌, ◌≢◌, ℕ, List, [], ◌∷◌, ◌++◌, map, Option, Some, None, Bool, true, false, filter, count_by}
use Rattle.std.specs.Borrow.{Bor}
use Rattle.std.specs.Ordering.{is_lt}
use Rattle.jc_rules.specs.declared.id.Id.{Id}
use Rattle.jc_rules.specs.declared.key.Key.{Key}
use Rattle.jc_rules.specs.declared.key.Tagged.{Tagged}
use Rattle.jc_rules.specs.Order.{key_cmp}
use Rattle.jc_rules.specs.Entries.{keys_of}
use Rattle.jc_rules.specs.Context.{Context, keys, presences, links}
use Rattle.jc_rules.specs.ContextsAt.{node_at, with_node_at, context_at}
use Rattle.jc_rules.specs.History.{History, timeline}
use Rattle.jc_rules.specs.Table.{least}
use Rattle.jc_tree.specs.declared.store.Place.{Place}
use Rattle.jc_tree.specs.declared.store.KeysOf.{KeysOf}
use Rattle.jc_tree.specs.declared.store.KeysOf.TheVariants.{Content, Presence, Link}

-- the content, and the contents before each change since `forget_marks` was last called
abbrev pub Tree : Type 0
Tree = History Context

-- the path leads to a context
abbrev pub HasPlace : List Tagged → Tree → Type 0
HasPlace at t = node_at at t.now ≢ None

-- the context that the path leads to
abbrev pub here : List Tagged → Tree → Context
here at t = context_at at t.now

-- the identifiers of a presence set or the values of a register, none where it isn't there
abbrev pub or_no_entries : {X : Type 0} → Option (List X) → List X
or_no_entries None = []
or_no_entries (Some s) = s

-- One change: y is now the context at the place, all else in the content is as it was, and the content before it is
-- kept.
pub record IsChanged (at : List Tagged) (y : Context) (old new : Tree) : Type 0 where
  pub now : new.now ≡ with_node_at at y old.now
  pub earlier : new.earlier ≡ timeline old

-- each name of a place still names it
abbrev pub NamesStay : (Place → List Tagged → Type 0) → (Place → List Tagged → Type 0) → Type 0
NamesStay old new = (p : Place) (at : List Tagged) → old p at → new p at

-- each name of a place that both give still names it
abbrev pub AllNamesStay : (Place → List Tagged → Type 0) → (Place → List Tagged → Type 0) → (Place → List Tagged → Type 0) → Type 0
AllNamesStay then old new = (p : Place) (at : List Tagged) → then p at → old p at → new p at

-- whether the key comes after the given one, if one is given
abbrev pub is_after : Option Key → Key → Bool
is_after None k = true
is_after (Some j) k = is_lt (key_cmp j k)

-- the least of the keys that come after the given one
abbrev pub least_after : Option Key → List Key → Option Key
least_after j ks = least (filter (λ k. is_after j k) ks)

-- whether a presence set has an identifier
abbrev pub has_ids : List Id → Bool
has_ids [] = false
has_ids (i ∷ is) = true

-- how many of these keys have a presence set with an identifier
abbrev pub count_present : List (Key × List Id) → ℕ
count_present es = count_by (λ e. has_ids e.1) es

-- the keys of a part of the context
abbrev pub keys_in : KeysOf → Context → List Key
keys_in Content c = keys c
keys_in Presence c = keys_of (presences c)
keys_in Link c = keys_of (links c)

-- the keys under which something stands in the context: a child, a register, a presence set, or what follows in a list
abbrev pub all_keys : Context → List Key
all_keys c = keys c ++ keys_of (presences c) ++ keys_of (links c)

-- the keys that are lent, each beside something
abbrev pub keys_lent : {X : Type 0} → List (Bor Key × X) → List Key
keys_lent lent = map (λ l. l.0.now) lent
