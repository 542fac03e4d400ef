-- What differs between two trees, place by place. No operation occurs in it. A missing presence set counts as empty, and
-- a child that isn't there is seen as what a descent makes there.
use Rattle.std.specs.Prelude.{◌≡◌, List, [], ◌∷◌, ◌++◌, Bool, true, false, not, ◌&&◌, ◌||◌, cond, Option, Some, None, is_some, filter}
use Rattle.jc_rules.specs.declared.id.Id.{Id}
use Rattle.jc_rules.specs.declared.key.Key.{Key}
use Rattle.jc_rules.specs.declared.key.Next.{Next}
use Rattle.jc_rules.specs.declared.key.Next.TheVariants.{Tail, Elem as To}
use Rattle.jc_rules.specs.declared.key.Tagged.{Tagged}
use Rattle.jc_rules.specs.declared.key.Tagged.TheVariants.{MapT, ListT, RegT}
use Rattle.jc_rules.specs.Order.{key_cmp, same_id, same_key}
use Rattle.jc_rules.specs.Entries.{IsRising}
use Rattle.jc_rules.specs.Ids.{has_id, without}
use Rattle.jc_rules.specs.Context.{Context, Register, content, next}
use Rattle.jc_tree.specs.Tree.{or_no_entries, has_ids}
use Rattle.jc_meaning.specs.Seen.{context_or_new, seen, ids_at, reg_at, value_seen_at, has_tag}
use Rattle.jc_meaning.specs.ClearingEffects.{in_key}

-- ---- one place

-- What differs of a key's own entries: the identifiers that its presence set gained and lost, the values that were
-- written into its register and taken from it, the tags that were made, what followed it and what follows it now, and
-- whether the place is shown now, where that differs.
pub record OwnDifference : Type 0 where
  pub gained : List Id
  pub lost : List Id
  pub made : List Tagged
  pub next : Option (Option Next × Option Next)
  pub shown : Option Bool
  pub taken : Register
  pub written : Register

abbrev pub same_link : Option Next → Option Next → Bool
same_link None None = true
same_link (Some Tail) (Some Tail) = true
same_link (Some (To i)) (Some (To j)) = same_id i j
same_link _ _ = false

-- the pairs of a register whose identifier has no value in the key's register of the context
abbrev pub values_without : Register → Key → Context → Register
values_without r k c = filter (λ e. not (is_some (value_seen_at e.0 k c))) r

-- the tag, if it is in the second context and not in the first
abbrev pub tag_made : Tagged → Context → Context → List Tagged
tag_made u c d = cond (has_tag u d && not (has_tag u c)) (u ∷ []) []

abbrev pub link_changed : Option Next → Option Next → Option (Option Next × Option Next)
link_changed was now = cond (same_link was now) None (Some (was, now))

abbrev pub shown_changed : Bool → Bool → Option Bool
shown_changed true true = None
shown_changed false false = None
shown_changed was now = Some now

abbrev pub own_difference : Key → Context → Context → OwnDifference
own_difference k c d = record {
  gained = without (ids_at k d) (ids_at k c);
  lost = without (ids_at k c) (ids_at k d);
  made = tag_made (MapT k) c d ++ tag_made (ListT k) c d ++ tag_made (RegT k) c d;
  next = link_changed (next k c) (next k d);
  shown = shown_changed (has_ids (ids_at k c)) (has_ids (ids_at k d));
  taken = values_without (or_no_entries (reg_at k c)) k d;
  written = values_without (or_no_entries (reg_at k d)) k c;
}

abbrev pub is_nothing : {X : Type 0} → List X → Bool
is_nothing [] = true
is_nothing (x ∷ xs) = false

-- nothing differs of a key's own entries
abbrev pub is_quiet : OwnDifference → Bool
is_quiet o =
    is_nothing o.gained && (is_nothing o.lost && (is_nothing o.made && (not (is_some o.next) && (is_nothing o.taken && is_nothing o.written))))

-- ---- trees

-- The places of a context at which two trees differ, rising by key, each with what differs of its own entries, with
-- those of its map and with those of its list.
pub data Differences : Type 0 where
  no_difference : Differences
  difference : Key → OwnDifference → Differences → Differences → Differences → Differences

abbrev pub is_no_difference : Differences → Bool
is_no_difference no_difference = true
is_no_difference (difference k o m l rest) = false

abbrev pub differing_keys : Differences → List Key
differing_keys no_difference = []
differing_keys (difference k o m l rest) = k ∷ differing_keys rest

abbrev pub is_listed : Key → Differences → Bool
is_listed k no_difference = false
is_listed k (difference j o m l rest) = same_key k j || is_listed k rest

-- the context under a tagged key, or what is new there
abbrev pub below : Tagged → Context → Context
below t c = context_or_new (content t c) t

-- the same tags, identifiers, values and link at the key
pub record IsSameAt (k : Key) (c d : Context) : Type 0 where
  pub maps : has_tag (MapT k) d ≡ has_tag (MapT k) c
  pub lists : has_tag (ListT k) d ≡ has_tag (ListT k) c
  pub registers : has_tag (RegT k) d ≡ has_tag (RegT k) c
  pub ids : (i : Id) → has_id i (ids_at k d) ≡ has_id i (ids_at k c)
  pub values : (i : Id) → value_seen_at i k d ≡ value_seen_at i k c
  pub links : next k d ≡ next k c

-- the same at the key and everywhere below it
abbrev pub IsSameFrom : Key → Context → Context → Type 0
IsSameFrom k c d = (P : List Tagged) (l : Key) → in_key k P l ≡ true → IsSameAt l (seen P c) (seen P d)

-- the keys rise, and at each other key nothing differs
pub record AreComplete (c d : Context) (x : Differences) : Type 0 where
  pub rise : IsRising key_cmp (differing_keys x)
  pub others : (k : Key) → is_listed k x ≡ false → IsSameFrom k c d

-- each of them says what differs at its key and below it, and that is something
abbrev pub AreExact : Context → Context → Differences → Type 0
AreExact c d no_difference = Unit {0}
AreExact c d (difference k o m l rest) =
    (o ≡ own_difference k c d)
    × ((is_quiet o && (is_no_difference m && is_no_difference l)) ≡ false)
    × AreComplete (below (MapT k) c) (below (MapT k) d) m
    × AreExact (below (MapT k) c) (below (MapT k) d) m
    × AreComplete (below (ListT k) c) (below (ListT k) d) l
    × AreExact (below (ListT k) c) (below (ListT k) d) l
    × AreExact c d rest

-- These are just the places at which the second tree differs from the first.
pub record IsDifference (c d : Context) (x : Differences) : Type 0 where
  pub complete : AreComplete c d x
  pub exact : AreExact c d x
