use Rattle.std.proofs.Common.{◌≡◌, ◌++◌, map, take, codes, string_bytes}
use Rattle.std.specs.Prelude.{flat_map}
use Rattle.jc_syntax.specs.Trees.{cmd_of}
use Rattle.jc_printer.specs.Canon.{canon_cmd}
use Rattle.jc_printer.proofs.print.print_script.Given as goal

-- the commands before the index were written
abbrev pub invariant-loop-cmd : goal.invariant-loop-cmd
invariant-loop-cmd l = string_bytes l.out ≡ string_bytes l.initial.out ++ flat_map (λ d. codes "; " ++ canon_cmd d) (map cmd_of (take l.cmd-index l.rest))
