use Rattle.std.proofs.Common.{◌≡◌, ◌++◌, length, take, string_bytes}
use Rattle.std.specs.Prelude.{flat_map}
use Rattle.jc_scenario.specs.WellFormed.{parts_of}
use Rattle.jc_scenario.specs.Canon.{canon_part}
use Rattle.jc_scenario.specs.Views.{scripts_view}
use Rattle.jc_scenario.proofs.printing.push_parts.Given as goal

-- the replicas so far were written
abbrev pub invariant-loop-name : goal.invariant-loop-name
invariant-loop-name l =
    string_bytes l.out ≡ string_bytes l.initial.out ++ flat_map canon_part (parts_of (take (length l.yielded) l.names) (scripts_view (take (length l.yielded) l.scripts)))
