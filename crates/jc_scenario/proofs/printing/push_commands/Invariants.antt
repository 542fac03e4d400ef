use Rattle.std.proofs.Common.{◌≡◌, ◌++◌, map, take, string_bytes}
use Rattle.jc_syntax.specs.Trees.{cmd_of}
use Rattle.jc_scenario.specs.Canon.{canon_commands}
use Rattle.jc_scenario.proofs.printing.push_commands.Given as goal

-- the commands before the index were written
abbrev pub invariant-loop-cmd : goal.invariant-loop-cmd
invariant-loop-cmd l = string_bytes l.out ≡ string_bytes l.initial.out ++ canon_commands (map cmd_of (take l.cmd-index l.script))
