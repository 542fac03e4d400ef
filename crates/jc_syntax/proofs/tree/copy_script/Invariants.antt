use Rattle.std.proofs.Common.{◌≡◌, map, take}
use Rattle.jc_syntax.specs.Trees.{cmd_of}
use Rattle.jc_syntax.proofs.tree.copy_script.Given as goal

-- the commands before the index were copied
abbrev pub invariant-loop-cmd : goal.invariant-loop-cmd
invariant-loop-cmd l = map cmd_of l.copies.items ≡ map cmd_of (take l.cmd-index l.script)
