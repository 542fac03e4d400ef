-- The orders of identifiers and keys, and the equality test of each.
use Rattle.std.specs.Prelude.{ℕ, List, Bool}
use Rattle.std.specs.Ordering.{nat_cmp, ordering_then, eq_by_cmp}
use Rattle.std.specs.declared.cmp.Ordering.{Ordering}
use Rattle.std.specs.declared.cmp.Ordering.TheVariants.{Less, Equal, Greater}
use Rattle.std.specs.Cmp.Lexicographic.{slice_cmp}
use Rattle.jc_rules.specs.declared.id.Id.{Id}
use Rattle.jc_rules.specs.declared.key.Key.{Key}
use Rattle.jc_rules.specs.declared.key.Key.TheVariants.{Doc, Head, Name, Elem}

-- by counter, then by replica
abbrev pub id_cmp : Id → Id → Ordering
id_cmp i j = ordering_then (nat_cmp i.counter j.counter) (nat_cmp i.replica j.replica)

-- names by their bytes
abbrev pub name_cmp : List ℕ → List ℕ → Ordering
name_cmp = slice_cmp nat_cmp

-- doc, head, names, identifiers
abbrev pub key_cmp : Key → Key → Ordering
key_cmp Doc Doc = Equal
key_cmp Head Head = Equal
key_cmp (Name s) (Name t) = name_cmp s t
key_cmp (Elem i) (Elem j) = id_cmp i j
key_cmp Doc _ = Less
key_cmp _ Doc = Greater
key_cmp Head _ = Less
key_cmp _ Head = Greater
key_cmp (Name s) _ = Less
key_cmp _ (Name t) = Greater

abbrev pub same_id : Id → Id → Bool
same_id = eq_by_cmp id_cmp

abbrev pub same_key : Key → Key → Bool
same_key = eq_by_cmp key_cmp
