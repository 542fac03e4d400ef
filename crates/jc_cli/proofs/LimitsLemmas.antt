-- About Arguments (limit_in, HasLimitInRange, file_in): the limits of texts and of commands, by clap's test of a value;
-- that `serve` has no file.
use Rattle.std.proofs.Common.{◌≡◌, ◌≤◌, ◌<◌, ◌^◌, ℕ, List, [], Bool, true, false, if◌then◌else◌, Option, Some, None, option_map, codes, refl, sym, ◌∙◌, ap, subst, arith}
use Rattle.std.proofs.lemmas.Option.{cond_some, option_and_then_some, same_Some}
use Rattle.std.specs.Option.{option_and_then}
use Rattle.std.specs.Str.{bytes_eq}
use Rattle.std.specs.Str.Parse.{IsNumeral, digits_value, without_leading_plus}
use Rattle.clap.specs.Values.{IsUnsignedIn}
use Rattle.clap.specs.ValueTests.{is_unsigned_in}
use Rattle.clap.proofs.ValueTestLemmas.{accepts-Accepts, Accepts-accepts}
use Rattle.clap.specs.Words.{Row, Text, first_of}
use Rattle.clap.specs.declared.builder.value_parser.ValueParser.TheVariants.{Unsigned}
use Rattle.jc_cli.specs.Arguments.{is_traced, has_effects, limit_in, limit_given, seed_in, seed_given, weave_by, order_in, task_in, file_in, with_file, documents, HasLimitInRange}
use Rattle.jc_cli.specs.declared.order.Order.{Order}
use Rattle.jc_cli.specs.declared.order.Task.{Task}
use Rattle.jc_cli.specs.declared.order.Task.TheVariants.{Show, Debug, Serve, Threads, Weave}
use Rattle.jc_cli.specs.declared.order.View.TheVariants.{Check, Print, Run, Journal}

-- ---- the limit of a text

-- a number from 0 to 100,000
pub within : (text : Text) (n : ℕ) → IsNumeral 10 (without_leading_plus text) × (digits_value 10 (without_leading_plus text) < 2 ^ 64) → n ≡ digits_value 10 (without_leading_plus text) → n ≤ 100000 → limit_in text ≡ Some n
within text n read is most =
    let accepted : is_unsigned_in 0 100000 text ≡ true = Accepts-accepts false (Unsigned 0 100000) text (read.0, read.1, omega arith, rw (← is) most) in
    rw accepted (ap Some (sym is))

-- any other text
pub outside : (text : Text) → (IsUnsignedIn 0 100000 text → ⊥) → limit_in text ≡ None
outside text beyond = by_test (is_unsigned_in 0 100000 text) refl where
  by_test : (t : Bool) → is_unsigned_in 0 100000 text ≡ t → limit_in text ≡ None
  by_test true e = absurd (beyond (accepts-Accepts false (Unsigned 0 100000) text e))
  by_test false e = rw e refl

-- ---- the seed of a text

pub seed_within : (text : Text) (n : ℕ) → IsNumeral 10 (without_leading_plus text) × (digits_value 10 (without_leading_plus text) < 2 ^ 64) → n ≡ digits_value 10 (without_leading_plus text) → seed_in text ≡ Some n
seed_within text n read is =
    let accepted : is_unsigned_in 0 18446744073709551615 text ≡ true = Accepts-accepts false (Unsigned 0 18446744073709551615) text (read.0, read.1, omega arith, omega (arith, read.1)) in
    rw accepted (ap Some (sym is))

-- any other text
pub seed_outside : (text : Text) → (IsUnsignedIn 0 18446744073709551615 text → ⊥) → seed_in text ≡ None
seed_outside text beyond = by_test (is_unsigned_in 0 18446744073709551615 text) refl where
  by_test : (t : Bool) → is_unsigned_in 0 18446744073709551615 text ≡ t → seed_in text ≡ None
  by_test true e = absurd (beyond (accepts-Accepts false (Unsigned 0 18446744073709551615) text e))
  by_test false e = rw e refl

-- ---- the limit of an order

text_in_range : (text : Text) (n : ℕ) → limit_in text ≡ Some n → n ≤ 100000
text_in_range text n is =
    let parts = cond_some (is_unsigned_in 0 100000 text) _ n is in
    rw (← parts.1) (accepts-Accepts false (Unsigned 0 100000) text parts.0).3

record IsInRange (o : Option Task) : Type 0 where
  in_range : (task : Task) → o ≡ Some task → HasLimitInRange task

none : IsInRange None
none = record { in_range = λ task e. cc }

one : (task : Task) → HasLimitInRange task → IsInRange (Some task)
one task h = record { in_range = λ other e. subst HasLimitInRange (same_Some task other e) h }

by_test : {a b : Option Task} (t : Bool) → IsInRange a → IsInRange b → IsInRange (if t then a else b)
by_test true p q = p
by_test false p q = q

of_limit : (o : Option ℕ) → ((n : ℕ) → o ≡ Some n → n ≤ 100000) → IsInRange (option_map Threads o)
of_limit None p = none
of_limit (Some n) p = one (Threads n) (p n refl)

given_in_range : (rows : List Row) (n : ℕ) → limit_given rows ≡ Some n → n ≤ 100000
given_in_range rows n e = option_and_then_some limit_in (first_of (codes "limit") rows) n e (λ text _ is. text_in_range text n is)

of_rows : (rows : List Row) → IsInRange (option_map Threads (limit_given rows))
of_rows rows = of_limit (limit_given rows) (given_in_range rows)

of_weave : (seed limit : Option ℕ) → ((n : ℕ) → limit ≡ Some n → n ≤ 100000) → IsInRange (weave_by seed limit)
of_weave None limit p = none
of_weave (Some s) None p = none
of_weave (Some s) (Some n) p = one (Weave s n) (p n refl)

of_documents : (o : Option ℕ) → IsInRange (option_map documents o)
of_documents None = none
of_documents (Some n) = one (documents n) tt

of_task : (name : Text) (rows : List Row) → IsInRange (task_in name rows)
of_task name rows =
    by_test (bytes_eq name (codes "check")) (one (Show Check) tt)
    (by_test (bytes_eq name (codes "print")) (one (Show Print) tt)
    (by_test (bytes_eq name (codes "run")) (one (Show (Run (is_traced rows))) tt)
    (by_test (bytes_eq name (codes "view")) (of_documents (limit_given rows))
    (by_test (bytes_eq name (codes "journal")) (one (Show (Journal (is_traced rows) (has_effects rows))) tt)
    (by_test (bytes_eq name (codes "debug")) (one Debug tt)
    (by_test (bytes_eq name (codes "serve")) (one Serve tt)
    (by_test (bytes_eq name (codes "threads")) (of_rows rows)
    (by_test (bytes_eq name (codes "weave")) (of_weave (seed_given rows) (limit_given rows) (given_in_range rows)) none))))))))

of_file : (t : Option Task) (file : Option Text) (o : Order) → IsInRange t → with_file t file ≡ Some o → HasLimitInRange o.task
of_file (Some task) (Some file) o p e =
    subst (λ (x : Order). HasLimitInRange x.task) (same_Some _ o e) (p.in_range task refl)
of_file (Some task) None o p e = cc
of_file None file o p e = cc

pub order_in_range : (s : Option (Text × List Row)) (o : Order) → option_and_then order_in s ≡ Some o → HasLimitInRange o.task
order_in_range None o e = cc
order_in_range (Some s) o e = of_file (task_in s.0 s.1) (file_in s.0 s.1) o (of_task s.0 s.1) e

-- ---- the file of an order

-- it isn't `serve`
abbrev IsOther : Option Task → Type 0
IsOther o = o ≡ Some Serve → ⊥

both_other : {a b : Option Task} (t : Bool) → IsOther a → IsOther b → IsOther (if t then a else b)
both_other true p q = p
both_other false p q = q

unserved : {b : Option Task} (t : Bool) → t ≡ false → IsOther b → IsOther (if t then Some Serve else b)
unserved true e q = let f : true ≡ false = e in cc
unserved false e q = q

documents_other : (o : Option ℕ) → IsOther (option_map documents o)
documents_other None e = cc
documents_other (Some n) e = cc

threads_other : (o : Option ℕ) → IsOther (option_map Threads o)
threads_other None e = cc
threads_other (Some n) e = cc

weave_other : (seed limit : Option ℕ) → IsOther (weave_by seed limit)
weave_other None limit e = cc
weave_other (Some s) None e = cc
weave_other (Some s) (Some n) e = cc

other_task : (name : Text) (rows : List Row) → bytes_eq name (codes "serve") ≡ false → IsOther (task_in name rows)
other_task name rows otherwise =
    both_other (bytes_eq name (codes "check")) (λ e. cc)
    (both_other (bytes_eq name (codes "print")) (λ e. cc)
    (both_other (bytes_eq name (codes "run")) (λ e. cc)
    (both_other (bytes_eq name (codes "view")) (documents_other (limit_given rows))
    (both_other (bytes_eq name (codes "journal")) (λ e. cc)
    (both_other (bytes_eq name (codes "debug")) (λ e. cc)
    (unserved (bytes_eq name (codes "serve")) otherwise
    (both_other (bytes_eq name (codes "threads")) (threads_other (limit_given rows))
    (both_other (bytes_eq name (codes "weave")) (weave_other (seed_given rows) (limit_given rows)) (λ e. cc)))))))))

taken_task : (t : Option Task) (file : Option Text) (o : Order) → with_file t file ≡ Some o → t ≡ Some o.task
taken_task (Some task) (Some f) o e = ap (λ (x : Order). Some x.task) (same_Some _ o e)
taken_task (Some task) None o e = cc
taken_task None file o e = cc

taken_file : (t : Option Task) (file : Option Text) (o : Order) → with_file t file ≡ Some o → file ≡ Some o.file
taken_file (Some task) (Some f) o e = ap (λ (x : Order). Some x.file) (same_Some _ o e)
taken_file (Some task) None o e = cc
taken_file None file o e = cc

without_file : (name : Text) (rows : List Row) (o : Order) (t : Bool) → bytes_eq name (codes "serve") ≡ t → with_file (task_in name rows) (file_in name rows) ≡ Some o → o.task ≡ Serve → o.file ≡ []
without_file name rows o true is e serves =
    let none : file_in name rows ≡ Some [] = ap (λ (b : Bool). if b then Some [] else first_of (codes "file") rows) is in
    same_Some o.file [] (sym (taken_file (task_in name rows) (file_in name rows) o e) ∙ none)
without_file name rows o false is e serves = absurd (other_task name rows is (taken_task (task_in name rows) (file_in name rows) o e ∙ ap Some serves))

-- `serve` has none
pub serve_has_no_file : (s : Option (Text × List Row)) (o : Order) → option_and_then order_in s ≡ Some o → o.task ≡ Serve → o.file ≡ []
serve_has_no_file None o e serves = cc
serve_has_no_file (Some s) o e serves = without_file s.0 s.1 o (bytes_eq s.0 (codes "serve")) refl e serves
