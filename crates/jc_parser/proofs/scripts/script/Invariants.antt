use Rattle.std.proofs.Common.{◌≡◌, map}
use Rattle.jc_syntax.specs.Trees.{cmd_of}
use Rattle.jc_parser.specs.ScriptReader.{commands_at}
use Rattle.jc_parser.proofs.LoopsLemmas.{with_front}
use Rattle.jc_parser.proofs.scripts.script.Given as goal

-- the commands so far, and those to come
abbrev pub invariant-commands : goal.invariant-commands
invariant-commands l = commands_at 65536 l.fn.cursor ≡ with_front (map cmd_of l.script.items) (commands_at l.left l.cursor)

abbrev pub decreases-commands : goal.decreases-commands
decreases-commands l = l.left
