-- The definition of the command line for clap. Arguments says by it what arguments are.
use Rattle.std.specs.Prelude.{◌≡◌, true, false, Some, codes, [], ◌∷◌}
use Rattle.clap.specs.Words.{App, Rule, Shape, Text, new_app, new_rule, with_rule, with_subcommand}
use Rattle.clap.specs.declared.builder.command.Command.{Command}
use Rattle.clap.specs.declared.builder.command.Command.TheViews.{out-Command}
use Rattle.clap.specs.declared.builder.action.ArgAction.TheVariants.{SetTrue}
use Rattle.clap.specs.declared.builder.value_parser.ValueParser.TheVariants.{Unsigned}
use Rattle.jc_rules.specs.declared.limits.TheConstants.{MAX_EVENTS, MAX_THREAD_EVENTS}

-- no argument of the command is one of all commands
abbrev pub IsLocal : Command → Type 0
IsLocal c = (out-Command c).has_globals ≡ false

abbrev pub file_rule : Rule
file_rule = record (new_rule (codes "file")) { required = true; value_names = 1 }

-- an option that takes no value
abbrev pub flag_rule : Text → Rule
flag_rule name = record (new_rule name) { long = Some name; action = Some SetTrue }

abbrev pub trace_rule : Rule
trace_rule = flag_rule (codes "trace")

abbrev pub effects_rule : Rule
effects_rule = flag_rule (codes "effects")

-- a number from 0 to 100,000, by default 10,000
abbrev pub limit_rule : Rule
limit_rule = record (new_rule (codes "limit")) {
  long = Some (codes "limit");
  value_names = 1;
  parser = Some (Unsigned 0 MAX_THREAD_EVENTS);
  defaults = codes "10000" ∷ [];
}

-- a command whose only argument is its file
abbrev pub plain_app : Text → App
plain_app name = with_rule (new_app name) file_rule

abbrev pub run_app : App
run_app = with_rule (with_rule (new_app (codes "run")) trace_rule) file_rule

-- a number from 0 to 100,000, the number of events of a schedule at most, by default that
abbrev pub at_rule : Rule
at_rule = record (new_rule (codes "limit")) {
  long = Some (codes "at");
  value_names = 1;
  parser = Some (Unsigned 0 MAX_EVENTS);
  defaults = codes "100000" ∷ [];
}

abbrev pub view_app : App
view_app = with_rule (with_rule (new_app (codes "view")) at_rule) file_rule

abbrev pub journal_app : App
journal_app = with_rule (with_rule (with_rule (new_app (codes "journal")) trace_rule) effects_rule) file_rule

-- it has no argument
abbrev pub serve_app : App
serve_app = new_app (codes "serve")

abbrev pub threads_app : App
threads_app = with_rule (with_rule (new_app (codes "threads")) limit_rule) file_rule

-- a number below 2 to the 64, by default 0
abbrev pub seed_rule : Rule
seed_rule = record (new_rule (codes "seed")) {
  long = Some (codes "seed");
  value_names = 1;
  parser = Some (Unsigned 0 18446744073709551615);
  defaults = codes "0" ∷ [];
}

abbrev pub weave_app : App
weave_app = with_rule (with_rule (with_rule (new_app (codes "weave")) seed_rule) limit_rule) file_rule

-- The program without its commands: one of them is required. It has a version. A flag alone asks for help, so that each
-- fault of the arguments has one kind; `with_help_meant` of Arguments says what the argument `help` means.
abbrev pub bare_shape : Shape → Shape
bare_shape s = record s {
  no_binary_name = true;
  disable_help_subcommand = true;
  subcommand_required = true;
  has_version = true;
}

abbrev pub bare : App
bare = record { top = bare_shape (new_app (codes "jsoncrdt")).top; subs = [] }

unfoldable pub program : App
program =
    with_subcommand (with_subcommand (with_subcommand (with_subcommand (with_subcommand (with_subcommand (with_subcommand
    (with_subcommand (with_subcommand bare (plain_app (codes "check")).top) (plain_app (codes "print")).top) run_app.top)
    view_app.top) journal_app.top) (plain_app (codes "debug")).top) serve_app.top) threads_app.top) weave_app.top
