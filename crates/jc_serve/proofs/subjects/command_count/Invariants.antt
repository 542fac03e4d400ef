use Rattle.std.proofs.Common.{◌≡◌, ◌≤◌, ◌*◌, length, sum_by, take}
use Rattle.jc_scenario.specs.Views.{scripts_view}
use Rattle.jc_serve.proofs.subjects.command_count.Given as goal

-- the commands of the scripts before the index were counted
abbrev pub invariant-loop-script : goal.invariant-loop-script
invariant-loop-script l = record {
  counted : l.count ≡ sum_by (λ script. length script) (take l.script-index (scripts_view l.scripts));
  few : l.count ≤ l.script-index * 65536;
}
