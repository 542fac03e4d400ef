-- About Arguments: rows of which each has a readable value, and the arguments whose uses keep them readable.
use Rattle.std.proofs.Common.{◌≡◌, ◌∙◌, ◌||◌, List, [], ◌∷◌, ◌++◌, Bool, true, false, Some, None, if◌then◌else◌, refl, ap, subst, find, codes, slice_get, length}
use Rattle.std.proofs.lemmas.Slice.Eq.{bytes_eq-Decides}
use Rattle.std.specs.Prelude.{IfSome}
use Rattle.std.specs.Option.{option_and_then, option_map_or}
use Rattle.std.specs.Str.{bytes_eq}
use Rattle.clap.specs.Facts.{explicit_source}
use Rattle.clap.specs.Faults.{repeat_fault, use_fault}
use Rattle.clap.specs.Kinds.{Kinds, or_else, range_kinds, values_kinds}
use Rattle.clap.specs.Simple.{filled, help_rule, with_index}
use Rattle.clap.specs.Takes.{is_given}
use Rattle.clap.specs.ValueTests.{is_unsigned_in}
use Rattle.clap.specs.Walk.{Row, Rule, Text, at_row, first_of, has_row, more_values, reading_by, stronger, used, with_default, with_values, without}
use Rattle.clap.specs.declared.builder.value_parser.Reading.{Reading}
use Rattle.clap.specs.declared.error.kind.ErrorKind.{ErrorKind}
use Rattle.clap.specs.declared.parser.matches.ValueSource.{ValueSource}
use Rattle.clap.specs.declared.parser.matches.ValueSource.TheVariants.{DefaultValue, CommandLine}
use Rattle.clap.specs.declared.builder.value_parser.ValueParser.TheVariants.{Unsigned}
use Rattle.jc_cli.specs.Program.{file_rule, flag_rule, limit_rule, at_rule, seed_rule}

-- P holds of each element
abbrev pub Each : {X : Type 0} → (X → Type 0) → List X → Type 0
Each P [] = Unit {0}
Each P (x ∷ xs) = P x × Each P xs

-- where P holds of two lists, it holds of them joined
joined : {X : Type 0} (P : X → Type 0) (xs ys : List X) → Each P xs → Each P ys → Each P (xs ++ ys)
joined P [] ys p q = q
joined P (x ∷ xs) ys p q = (p.0, joined P xs ys p.1 q)

-- P holds of the element that a test finds, where there is one
pub found : {X : Type 0} (P : X → Type 0) (test : X → Bool) (xs : List X) → Each P xs → IfSome (find test xs) (λ x. (test x ≡ true) × P x)
found P test [] p = tt
found {X} P test (x ∷ xs) p = pick (test x) refl (found P test xs p.1)
  where
    pick : (t : Bool) → test x ≡ t → IfSome (find test xs) (λ y. (test y ≡ true) × P y) → IfSome (if t then Some x else find test xs) (λ y. (test y ≡ true) × P y)
    pick true e later = (e, p.0)
    pick false e later = later

-- ---- faults that are none

-- where two steps have no fault, neither has one
pub neither : (a b : Kinds) → or_else a b ≡ [] → (a ≡ []) × (b ≡ [])
neither [] b e = (refl, e)
neither (k ∷ ks) b e = cc

-- where a test has a fault unless it holds, and there is no fault, it holds
pub passed : (k : ErrorKind) (t : Bool) → (if t then [] else k ∷ []) ≡ [] → t ≡ true
passed k true e = refl
passed k false e = cc

-- where a test has a fault if it holds, and there is no fault, it fails, and what follows has no fault
pub failed : (k : ErrorKind) (t : Bool) (more : Kinds) → (if t then k ∷ [] else more) ≡ [] → (t ≡ false) × (more ≡ [])
failed k true more e = cc
failed k false more e = (refl, e)

-- ---- rows

-- There is a first value; that of the limit is a number from 0 to 100,000, and that of the seed one below 2 to the 64.
abbrev pub is_readable : Text → List Text → Bool
is_readable id [] = false
is_readable id (v ∷ vs) =
    if bytes_eq id (codes "limit") then is_unsigned_in 0 100000 v
    else (if bytes_eq id (codes "seed") then is_unsigned_in 0 18446744073709551615 v else true)

-- the values of a row are such
abbrev pub IsReadable : Row → Type 0
IsReadable r = is_readable r.id r.values ≡ true

-- those of each row
abbrev pub AreReadable : List Row → Type 0
AreReadable = Each IsReadable

-- readable rows that a test chooses between
by_test : (a b : List Row) (t : Bool) → AreReadable a → AreReadable b → AreReadable (if t then a else b)
by_test a b true p q = p
by_test a b false p q = q

-- more values leave the first as it is
still : (id : Text) (values more : List Text) → is_readable id values ≡ true → is_readable id (values ++ more) ≡ true
still id [] more e = cc
still id (v ∷ vs) more e = e

-- a change at one row that keeps it readable keeps all
at_one : (id : Text) (change : Row → List Row) (missing rows : List Row) → ((r : Row) → IsReadable r → AreReadable (change r)) → AreReadable missing → AreReadable rows → AreReadable (at_row id change missing rows)
at_one id change missing [] p q h = q
at_one id change missing (r ∷ rs) p q h =
    by_test _ _ (bytes_eq r.id id) (joined IsReadable (change r) rs (p r h.0) h.1) (h.0, at_one id change missing rs p q h.1)

-- readable values that join those before
added : (id : Text) (how : Reading) (s : ValueSource) (values : List Text) (rows : List Row) → is_readable id values ≡ true → AreReadable rows → AreReadable (with_values id how s values rows)
added id how s values rows e h =
    at_one id (more_values s values) (record { id = id; values = values; count = None; source = Some s; reading = how } ∷ []) rows
    (λ r p. (still r.id r.values values p, tt)) (e, tt) h

-- readable values that replace those before
replaced : (id : Text) (how : Reading) (values : List Text) (rows : List Row) → is_readable id values ≡ true → AreReadable rows → AreReadable (with_values id how CommandLine values (without id rows))
replaced id how values rows e h = added id how CommandLine values (without id rows) e (at_one id (λ _. []) [] rows (λ r p. tt) tt h)

-- readable default values
filled_in : (id : Text) (how : Reading) (values : List Text) (rows : List Row) → is_readable id values ≡ true → AreReadable rows → AreReadable (if has_row id rows then rows else with_values id how DefaultValue values rows)
filled_in id how values rows e h = by_test _ _ (has_row id rows) h (added id how DefaultValue values rows e h)

-- an argument without default values leaves the rows as they are
pub unfilled : (t : Bool) (rows : List Row) → (if t then rows else rows) ≡ rows
unfilled true rows = refl
unfilled false rows = refl

-- an argument that the words gave has a row
pub given_row : (id : Text) (rows : List Row) → is_given id rows ≡ true → has_row id rows ≡ true
given_row id [] e = cc
given_row id (r ∷ rs) e = pick (bytes_eq r.id id) (given_row id rs) e
  where
    pick : (t : Bool) → (is_given id rs ≡ true → has_row id rs ≡ true) → option_map_or (λ (x : Row). explicit_source x.source) (if t then Some r else find (λ (x : Row). bytes_eq x.id id) rs) false ≡ true → (t || has_row id rs) ≡ true
    pick true later e = refl
    pick false later e = later e

-- values of another argument take no row away
pub kept_row : (id other : Text) (how : Reading) (values : List Text) (rows : List Row) → has_row id rows ≡ true → has_row id (with_values other how DefaultValue values rows) ≡ true
kept_row id other how values [] e = cc
kept_row id other how values (r ∷ rs) e = next (bytes_eq r.id other) (bytes_eq r.id id) refl e (kept_row id other how values rs)
  where
    next : (t b : Bool) → bytes_eq r.id id ≡ b → (b || has_row id rs) ≡ true → (has_row id rs ≡ true → has_row id (with_values other how DefaultValue values rs) ≡ true) → has_row id (if t then record r { values = r.values ++ values; source = Some (stronger r.source DefaultValue) } ∷ rs else r ∷ with_values other how DefaultValue values rs) ≡ true
    next true b is there more = ap (λ x. x || has_row id rs) is ∙ there
    next false true is there more = ap (λ x. x || has_row id (with_values other how DefaultValue values rs)) is
    next false false is there more = ap (λ x. x || has_row id (with_values other how DefaultValue values rs)) is ∙ more there

-- an argument with a default value has a row after it was filled in
pub row_by_default : (id : Text) (how : Reading) (values : List Text) (rows : List Row) → bytes_eq id id ≡ true → has_row id (if has_row id rows then rows else with_values id how DefaultValue values rows) ≡ true
row_by_default id how values rows same = pick (has_row id rows) refl
  where
    here : (rows : List Row) → has_row id (with_values id how DefaultValue values rows) ≡ true
    here [] = ap (λ b. b || false) same
    here (r ∷ rs) = next r rs (bytes_eq r.id id) refl (here rs)
      where
        next : (r : Row) (rs : List Row) (t : Bool) → bytes_eq r.id id ≡ t → has_row id (with_values id how DefaultValue values rs) ≡ true → has_row id (if t then record r { values = r.values ++ values; source = Some (stronger r.source DefaultValue) } ∷ rs else r ∷ with_values id how DefaultValue values rs) ≡ true
        next r rs true is later = ap (λ b. b || has_row id rs) is
        next r rs false is later = ap (λ b. b || has_row id (with_values id how DefaultValue values rs)) is ∙ later

    pick : (t : Bool) → has_row id rows ≡ t → has_row id (if t then rows else with_values id how DefaultValue values rows) ≡ true
    pick true is = is
    pick false is = here rows

-- an argument that has a row has a first value, which can be read
pub first_there : (id : Text) (rows : List Row) → AreReadable rows → has_row id rows ≡ true → (v : Text) × (first_of id rows ≡ Some v) × (is_readable id (v ∷ []) ≡ true)
first_there id [] h e = cc
first_there id (r ∷ rs) h e = pick (bytes_eq r.id id) refl (first_there id rs h.1) e
  where
    of_values : (values : List Text) → is_readable id values ≡ true → (v : Text) × (slice_get values 0 ≡ Some v) × (is_readable id (v ∷ []) ≡ true)
    of_values [] e = cc
    of_values (v ∷ vs) e = (v, refl, e)

    pick : (t : Bool) → bytes_eq r.id id ≡ t → (has_row id rs ≡ true → (v : Text) × (first_of id rs ≡ Some v) × (is_readable id (v ∷ []) ≡ true)) → (t || has_row id rs) ≡ true → (v : Text) × (option_and_then (λ (x : Row). slice_get x.values 0) (if t then Some r else find (λ (x : Row). bytes_eq x.id id) rs) ≡ Some v) × (is_readable id (v ∷ []) ≡ true)
    pick true is later e = of_values r.values (subst (λ (x : Text). is_readable x r.values ≡ true) ((bytes_eq-Decides r.id id).0 is) h.0)
    pick false is later e = later e

-- ---- the arguments

-- a use without a fault leaves the rows readable, and so do the default values
pub record IsSound (a : Rule) : Type 0 where
  pub by_use : (again : Bool) (values : List Text) (rows : List Row) → use_fault again a values rows ≡ [] → AreReadable rows → AreReadable (used a values rows)
  pub by_default : (rows : List Row) → AreReadable rows → AreReadable (with_default rows a)

-- the file, as the commands are built with it
abbrev pub built_file : Rule
built_file = with_index 1 (filled file_rule)

-- the others, which have no place among the words
abbrev pub built_flag : Text → Rule
built_flag name = with_index 1 (filled (flag_rule name))

abbrev pub built_trace : Rule
built_trace = built_flag (codes "trace")

abbrev pub built_effects : Rule
built_effects = built_flag (codes "effects")

abbrev pub built_limit : Rule
built_limit = with_index 1 (filled limit_rule)

abbrev pub built_at : Rule
built_at = with_index 1 (filled at_rule)

abbrev pub built_seed : Rule
built_seed = with_index 1 (filled seed_rule)

abbrev pub built_help : Rule
built_help = with_index 1 (filled help_rule)

-- a use of the file without a fault has a value
use_of_file : (again : Bool) (values : List Text) (rows : List Row) → use_fault again built_file values rows ≡ [] → AreReadable rows → AreReadable (used built_file values rows)
use_of_file again [] rows e h = cc
use_of_file again (v ∷ vs) rows e h = replaced (codes "file") (reading_by built_file) (v ∷ vs) rows refl h

-- the file has no default value
pub sound_file : IsSound built_file
sound_file = record { by_use = use_of_file; by_default = λ rows h. by_test rows rows (has_row (codes "file") rows) h h }

-- an argument whose name asks for no number has each first value readable
module _ (name : Text) (any : (v : Text) (vs : List Text) → is_readable name (v ∷ vs) ≡ true) where
  -- a use of an option without a value has one, since `true` stands where none is given
  use_of_flag : (values : List Text) (rows : List Row) → AreReadable rows → AreReadable (used (built_flag name) values rows)
  use_of_flag [] rows h = replaced name (reading_by (built_flag name)) (codes "true" ∷ []) rows (any (codes "true") []) h
  use_of_flag (v ∷ vs) rows h = replaced name (reading_by (built_flag name)) (v ∷ vs) rows (any v vs) h

  -- `false` is its default value
  sound_flag : IsSound (built_flag name)
  sound_flag = record {
    by_use = λ again values rows e h. use_of_flag values rows h;
    by_default = λ rows h. filled_in name (reading_by (built_flag name)) (codes "false" ∷ []) rows (any (codes "false") []) h;
  }

pub sound_trace : IsSound built_trace
sound_trace = sound_flag (codes "trace") (λ v vs. refl)

pub sound_effects : IsSound built_effects
sound_effects = sound_flag (codes "effects") (λ v vs. refl)

-- a use of the limit without a fault has a number from 0 to 100,000
use_of_limit : (again : Bool) (values : List Text) (rows : List Row) → use_fault again built_limit values rows ≡ [] → AreReadable rows → AreReadable (used built_limit values rows)
use_of_limit again [] rows e h = cc
use_of_limit again (v ∷ vs) rows e h =
    let later = (neither (range_kinds 1 1 (length (v ∷ vs))) _ e).1 in
    let taken = (neither (repeat_fault again (codes "limit") rows) (values_kinds false (Unsigned 0 100000) (v ∷ vs)) later).1 in
    let number = passed _ (is_unsigned_in 0 100000 v) (neither _ (values_kinds false (Unsigned 0 100000) vs) taken).0 in
    replaced (codes "limit") (reading_by built_limit) (v ∷ vs) rows number h

-- 10,000 is the limit's, and in its range
pub sound_limit : IsSound built_limit
sound_limit = record {
  by_use = use_of_limit;
  by_default = λ rows h. filled_in (codes "limit") (reading_by built_limit) (codes "10000" ∷ []) rows refl h;
}

-- so has one of the number of events
use_of_at : (again : Bool) (values : List Text) (rows : List Row) → use_fault again built_at values rows ≡ [] → AreReadable rows → AreReadable (used built_at values rows)
use_of_at again [] rows e h = cc
use_of_at again (v ∷ vs) rows e h =
    let later = (neither (range_kinds 1 1 (length (v ∷ vs))) _ e).1 in
    let taken = (neither (repeat_fault again (codes "limit") rows) (values_kinds false (Unsigned 0 100000) (v ∷ vs)) later).1 in
    let number = passed _ (is_unsigned_in 0 100000 v) (neither _ (values_kinds false (Unsigned 0 100000) vs) taken).0 in
    replaced (codes "limit") (reading_by built_at) (v ∷ vs) rows number h

pub sound_at : IsSound built_at
sound_at = record {
  by_use = use_of_at;
  by_default = λ rows h. filled_in (codes "limit") (reading_by built_at) (codes "100000" ∷ []) rows refl h;
}

-- a use of the seed without a fault has a number below 2 to the 64
use_of_seed : (again : Bool) (values : List Text) (rows : List Row) → use_fault again built_seed values rows ≡ [] → AreReadable rows → AreReadable (used built_seed values rows)
use_of_seed again [] rows e h = cc
use_of_seed again (v ∷ vs) rows e h =
    let later = (neither (range_kinds 1 1 (length (v ∷ vs))) _ e).1 in
    let taken = (neither (repeat_fault again (codes "seed") rows) (values_kinds false (Unsigned 0 18446744073709551615) (v ∷ vs)) later).1 in
    let number = passed _ (is_unsigned_in 0 18446744073709551615 v) (neither _ (values_kinds false (Unsigned 0 18446744073709551615) vs) taken).0 in
    replaced (codes "seed") (reading_by built_seed) (v ∷ vs) rows number h

-- 0 is the seed's default value
pub sound_seed : IsSound built_seed
sound_seed = record {
  by_use = use_of_seed;
  by_default = λ rows h. filled_in (codes "seed") (reading_by built_seed) (codes "0" ∷ []) rows refl h;
}

-- help changes no row
pub sound_help : IsSound built_help
sound_help = record { by_use = λ again values rows e h. h; by_default = λ rows h. by_test rows rows (has_row (codes "help") rows) h h }
