-- Entries that a walk by key comes to, for the loops of jc_json, jc_clear and jc_cursor over a store.
use Rattle.std.specs.Prelude.{List, [], ◌∷◌, ◌++◌, Option, Some, None, filter}
use Rattle.jc_rules.specs.declared.key.Key.{Key}
use Rattle.jc_rules.specs.Order.{key_cmp}
use Rattle.jc_rules.specs.Entries.{find}
use Rattle.jc_tree.specs.Tree.{is_after}

-- the entries above a key, or all
abbrev pub keys_above : {X : Type 0} → Option Key → List (Key × X) → List (Key × X)
keys_above last es = filter (λ e. is_after last e.0) es

-- the entry of a key, if it has one
abbrev pub entry_of : {X : Type 0} → Key → Option X → List (Key × X)
entry_of k None = []
entry_of k (Some v) = (k, v) ∷ []

-- the entries of these keys, key after key
abbrev pub entries_at : {X : Type 0} → List Key → List (Key × X) → List (Key × X)
entries_at [] es = []
entries_at (k ∷ ks) es = entry_of k (find key_cmp k es) ++ entries_at ks es
