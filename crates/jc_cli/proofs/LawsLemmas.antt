-- About Laws: arguments without a fault are a command.
use Rattle.std.proofs.Common.{◌≡◌, ◌∙◌, ◌&&◌, ◌||◌, List, [], ◌∷◌, Bool, true, false, not, Option, Some, None, if◌then◌else◌, refl, sym, ap, subst, find, codes, is_some, option_map}
use Rattle.std.specs.Prelude.{IfSome, fold}
use Rattle.std.specs.Option.{option_and_then, option_map_or}
use Rattle.std.specs.Str.Parse.{digits_value, without_leading_plus}
use Rattle.clap.proofs.OnLiterals.{clap_on_literals}
use Rattle.clap.specs.Faults.{built_fault, check_fault, defaults_fault, entered_fault, level_fault, settle_fault, walk_fault}
use Rattle.clap.specs.Kinds.{check_kinds}
use Rattle.clap.specs.Simple.{App, Shape, argument_words, built, built_leaf, entered, inherited, label_of, names_of, rows_at, subcommand_of}
use Rattle.clap.specs.Takes.{is_given}
use Rattle.clap.specs.ValueTests.{is_unsigned_in}
use Rattle.clap.specs.Walk.{Row, Text, answers_to, finished, first_of, has_row, nothing_held, reading_by, settled, stop_after, walk, walk_from, with_default, with_values}
use Rattle.clap.specs.declared.error.kind.ErrorKind.TheVariants as K
use Rattle.clap.specs.declared.parser.matches.ValueSource.TheVariants.{DefaultValue}
use Rattle.jc_cli.specs.Laws.{FaultlessAreOrders}
use Rattle.jc_cli.specs.Program.{bare, journal_app, plain_app, program, run_app, serve_app, threads_app, view_app, weave_app}
use Rattle.jc_cli.specs.Arguments.{with_help_meant, is_traced, has_effects, limit_given, seed_given, weave_by, documents, order_by, order_in, task_in, file_in, with_file, words_order}
use Rattle.jc_cli.specs.declared.order.Task.{Task}
use Rattle.jc_cli.specs.declared.order.Task.TheVariants.{Show, Debug, Serve, Threads, Weave}
use Rattle.jc_cli.specs.declared.order.View.TheVariants.{Check, Print, Run, Journal}
use Rattle.jc_cli.proofs.ArgumentsLemmas.{AreReadable, Each, IsSound, built_file, built_at, built_effects, built_help, built_limit, built_seed, built_trace, failed, first_there, found, given_row, kept_row, neither, row_by_default, sound_at, sound_effects, sound_file, sound_help, sound_limit, sound_seed, sound_trace, unfilled}
use Rattle.jc_cli.proofs.FaultlessLemmas.{of_level}

-- there is a value
abbrev IsThere : {X : Type 0} → Option X → Type 0
IsThere {X} o = (x : X) × (o ≡ Some x)

-- ---- the last checks

-- where the last checks have no fault, no command is missing, and no argument
checked : (a b c : Bool) → check_kinds a b c ≡ [] → (b ≡ false) × (c ≡ false)
checked a b c e =
    let first = failed K.DisplayHelpOnMissingArgumentOrSubcommand a _ e in
    let second = failed K.MissingSubcommand b _ first.1 in
    (second.0, (failed K.MissingRequiredArgument c [] second.1).0)

-- what is required was given
was_given : (given : Bool) → (if not given || false then K.MissingRequiredArgument ∷ [] else []) ≡ [] → given ≡ true
was_given true e = refl
was_given false e = cc

-- a command that is wanted was named
was_named : (named wanted : Bool) → wanted ≡ true → (not named && wanted) ≡ false → named ≡ true
was_named true wanted w e = refl
was_named false true w e = cc
was_named false false w e = cc

-- a file that was given has a text
file_there : (rows : List Row) → AreReadable rows → is_given (codes "file") rows ≡ true → IsThere (first_of (codes "file") rows)
file_there rows h given =
    let first = first_there (codes "file") rows h (given_row (codes "file") rows given) in
    (first.0, first.1)

-- a limit that has a row is a task's
limit_there : (rows : List Row) → AreReadable rows → has_row (codes "limit") rows ≡ true → IsThere (option_map Threads (limit_given rows))
limit_there rows h has =
    let first = first_there (codes "limit") rows h has in
    let number : is_unsigned_in 0 100000 first.0 ≡ true = first.2 in
    (Threads (digits_value 10 (without_leading_plus first.0)), rw (first.1, number) refl)

documents_there : (rows : List Row) → AreReadable rows → has_row (codes "limit") rows ≡ true → IsThere (option_map documents (limit_given rows))
documents_there rows h has =
    let first = first_there (codes "limit") rows h has in
    let number : is_unsigned_in 0 100000 first.0 ≡ true = first.2 in
    (documents (digits_value 10 (without_leading_plus first.0)), rw (first.1, number) refl)

-- so are a seed and a limit
weave_there : (rows : List Row) → AreReadable rows → has_row (codes "seed") rows ≡ true → has_row (codes "limit") rows ≡ true → IsThere (weave_by (seed_given rows) (limit_given rows))
weave_there rows h seeded limited =
    let seed = first_there (codes "seed") rows h seeded in
    let limit = first_there (codes "limit") rows h limited in
    let one : is_unsigned_in 0 18446744073709551615 seed.0 ≡ true = seed.2 in
    let two : is_unsigned_in 0 100000 limit.0 ≡ true = limit.2 in
    (Weave (digits_value 10 (without_leading_plus seed.0)) (digits_value 10 (without_leading_plus limit.0)), rw (seed.1, one, limit.1, two) refl)

-- a task and a file are an order
ordered_by : (t : Option Task) (file : Option Text) → IsThere t → IsThere file → IsThere (with_file t file)
ordered_by t file (task, is) (text, same) = (record { task = task; file = text }, rw (is, same) refl)

-- ---- the commands

-- words of the command without a fault are an order
abbrev Orders : Shape → Type 0
Orders s = (words : List Text) → level_fault s [] nothing_held words false [] ≡ [] → IsThere (order_in (rows_at s words))

-- so it is where the arguments are sound, and readable rows give a file and a task
orders_by : (s : Shape) → Each IsSound s.rules → ((rows : List Row) → AreReadable rows → check_fault s rows false ≡ [] → IsThere (file_in s.name rows))
    → ((before : List Row) → AreReadable (fold with_default before s.rules) → IsThere (task_in s.name (fold with_default before s.rules))) → Orders s
orders_by s sound has_file has_task words e =
    let level = of_level s words sound e in
    let before = (settled s.rules (walk s.rules [] nothing_held words).held).rows in
    let rows = fold with_default before s.rules in
    ordered_by (task_in s.name rows) (file_in s.name rows) (has_task before level.0) (has_file rows level.0 level.1)

-- the file of a command that wants one
wanted_file : (rows : List Row) → AreReadable rows → (if not (is_given (codes "file") rows) || false then K.MissingRequiredArgument ∷ [] else []) ≡ [] → IsThere (first_of (codes "file") rows)
wanted_file rows h e = file_there rows h (was_given (is_given (codes "file") rows) e)

-- a command as it is built
abbrev command : App → Shape
command a = built_leaf (inherited bare.top a.top)

-- a command with nothing but its file
of_plain : (name : Text) (task : Task) → ((rows : List Row) → task_in name rows ≡ Some task) → ((rows : List Row) → file_in name rows ≡ first_of (codes "file") rows) → Orders (command (plain_app name))
of_plain name task is filed =
    orders_by (command (plain_app name)) (sound_file, (sound_help, tt)) (λ rows h e. subst IsThere (sym (filed rows)) (wanted_file rows h e)) (λ before h. (task, is (fold with_default before (built_file ∷ built_help ∷ []))))

-- the command `run`
of_run : Orders (command run_app)
of_run =
    orders_by (command run_app) (sound_trace, (sound_file, (sound_help, tt))) wanted_file
    (λ before h. (Show (Run (is_traced (fold with_default before (built_trace ∷ built_file ∷ built_help ∷ [])))), refl))

-- the command `journal`
of_journal : Orders (command journal_app)
of_journal =
    orders_by (command journal_app) (sound_trace, (sound_effects, (sound_file, (sound_help, tt)))) wanted_file
    (λ before h.
    let rows = fold with_default before (built_trace ∷ built_effects ∷ built_file ∷ built_help ∷ []) in
    (Show (Journal (is_traced rows) (has_effects rows)), refl))

-- the limit has a row at the end, since it has a default value
limit_row : (before : List Row) → has_row (codes "limit") (fold with_default before (built_limit ∷ built_file ∷ built_help ∷ [])) ≡ true
limit_row before =
    let limited = with_default before built_limit in
    let filed = with_default limited built_file in
    let same = unfilled (has_row (codes "help") filed) filed ∙ unfilled (has_row (codes "file") limited) limited in
    ap (has_row (codes "limit")) same ∙ row_by_default (codes "limit") (reading_by built_limit) (codes "10000" ∷ []) before refl

-- the command `threads`
of_threads : Orders (command threads_app)
of_threads =
    orders_by (command threads_app) (sound_limit, (sound_file, (sound_help, tt))) wanted_file
    (λ before h. limit_there (fold with_default before (built_limit ∷ built_file ∷ built_help ∷ [])) h (limit_row before))

-- so has the number of events
at_row : (before : List Row) → has_row (codes "limit") (fold with_default before (built_at ∷ built_file ∷ built_help ∷ [])) ≡ true
at_row before =
    let limited = with_default before built_at in
    let filed = with_default limited built_file in
    let same = unfilled (has_row (codes "help") filed) filed ∙ unfilled (has_row (codes "file") limited) limited in
    ap (has_row (codes "limit")) same ∙ row_by_default (codes "limit") (reading_by built_at) (codes "100000" ∷ []) before refl

-- the command `view`
of_view : Orders (command view_app)
of_view =
    orders_by (command view_app) (sound_at, (sound_file, (sound_help, tt))) wanted_file
    (λ before h. documents_there (fold with_default before (built_at ∷ built_file ∷ built_help ∷ [])) h (at_row before))

-- so have a seed and a limit beside each other
module _ (before : List Row) where
  abbrev seeded_rows : List Row
  seeded_rows = with_default before built_seed

  abbrev woven_rows : List Row
  woven_rows = fold with_default before (built_seed ∷ built_limit ∷ built_file ∷ built_help ∷ [])

  woven_same : woven_rows ≡ with_default seeded_rows built_limit
  woven_same =
      let limited = with_default seeded_rows built_limit in
      let filed = with_default limited built_file in
      unfilled (has_row (codes "help") filed) filed ∙ unfilled (has_row (codes "file") limited) limited

  woven_limit : has_row (codes "limit") woven_rows ≡ true
  woven_limit = ap (has_row (codes "limit")) woven_same ∙ row_by_default (codes "limit") (reading_by built_limit) (codes "10000" ∷ []) seeded_rows refl

  woven_seed : has_row (codes "seed") woven_rows ≡ true
  woven_seed = ap (has_row (codes "seed")) woven_same ∙ by_limit (has_row (codes "limit") seeded_rows) (row_by_default (codes "seed") (reading_by built_seed) (codes "0" ∷ []) before refl)
    where
      by_limit : (t : Bool) → has_row (codes "seed") seeded_rows ≡ true → has_row (codes "seed") (if t then seeded_rows else with_values (codes "limit") (reading_by built_limit) DefaultValue (codes "10000" ∷ []) seeded_rows) ≡ true
      by_limit true there = there
      by_limit false there = kept_row (codes "seed") (codes "limit") (reading_by built_limit) (codes "10000" ∷ []) seeded_rows there

-- the command `weave`
of_weave : Orders (command weave_app)
of_weave =
    orders_by (command weave_app) (sound_seed, (sound_limit, (sound_file, (sound_help, tt)))) wanted_file
    (λ before h. weave_there (fold with_default before (built_seed ∷ built_limit ∷ built_file ∷ built_help ∷ [])) h (woven_seed before) (woven_limit before))

-- the command `serve`, which has no file
of_serve : Orders (command serve_app)
of_serve = orders_by (command serve_app) (sound_help, tt) (λ rows h e. ([], refl)) (λ before h. (Serve, refl))

-- ---- the command that words name

-- the command that was met has an order
abbrev HasOrder : Option (Text × List Row) → Type 0
HasOrder o = (s : Text × List Row) × (o ≡ Some s) × IsThere (order_in s)

-- the command that is found has an order, from the words after its name
by_command : (test : Shape → Bool) (o : Option Shape) (words : List Text) → IfSome o (λ s. (test s ≡ true) × Orders s) → is_some (option_map (λ s. rows_at s words) o) ≡ true
    → option_map_or (λ s. level_fault s [] nothing_held words false []) o [] ≡ [] → HasOrder (option_map (λ s. rows_at s words) o)
by_command test None words h named e = cc
by_command test (Some s) words h named e = (rows_at s words, refl, h.1 words e)

-- the same, by where the walk over all the words stopped
by_stop : (a : App) (stop : Option (Text × List Text)) → Each Orders a.subs → is_some (entered a stop) ≡ true → entered_fault a stop ≡ [] → HasOrder (entered a stop)
by_stop a None each named e = cc
by_stop a (Some p) each named e =
    let test = λ (s : Shape). answers_to p.0 (label_of s) in
    by_command test (find test a.subs) p.1 (found Orders test a.subs each) named e

-- words without a fault name a command, where one is wanted, and are its order
by_words : (a : App) (words : List Text) → Each Orders a.subs → a.top.subcommand_required ≡ true → built_fault a nothing_held words ≡ []
    → HasOrder (entered a (stop_after a.top.rules (names_of a) words))
by_words a words each wanted e =
    let stop = stop_after a.top.rules (names_of a) words in
    let end = (walk a.top.rules (names_of a) nothing_held words).held in
    let one = neither (walk_fault a.top (names_of a) (walk_from nothing_held) words) _ e in
    let two = neither (entered_fault a stop) _ one.1 in
    let three = neither (settle_fault a.top.rules a.top.args_override_self end) _ two.1 in
    let four = neither (defaults_fault (settled a.top.rules end).rows a.top.rules) (check_fault a.top (finished a.top.rules end) (is_some (entered a stop))) three.1 in
    let named = was_named (is_some (entered a stop)) a.top.subcommand_required wanted (checked _ _ _ four.1).0 in
    by_stop a stop each named two.0

-- each command of the program
each_command : Each Orders (built program).subs
unfolding program clap_on_literals
each_command = (
  of_plain (codes "check") (Show Check) (λ rows. refl) (λ rows. refl),
  (of_plain (codes "print") (Show Print) (λ rows. refl) (λ rows. refl), (of_run, (of_view, (of_journal, (of_plain (codes "debug") Debug (λ rows. refl) (λ rows. refl), (of_serve, (of_threads, (of_weave, tt)))))))),
)

-- a command is wanted
is_wanted : (built program).top.subcommand_required ≡ true
unfolding program clap_on_literals
is_wanted = refl

-- words without a fault are an order
pub faultless_are_orders : FaultlessAreOrders
unfolding words_order
faultless_are_orders word words e =
    let met = by_words (built program) (argument_words program (with_help_meant (word ∷ words))) each_command is_wanted e in
    (met.2.0, ap (λ kinds. order_by kinds (subcommand_of program (with_help_meant (word ∷ words)))) e ∙ ap (option_and_then order_in) met.1 ∙ met.2.1)
