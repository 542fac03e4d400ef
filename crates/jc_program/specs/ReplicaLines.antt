-- The lines of replicas, as states or as documents. ViewText and `send_lines` cite them.
use Rattle.std.specs.Prelude.{ℕ, List}
use Rattle.jc_rules.specs.State.{State}
use Rattle.jc_dump.specs.Dump.{dump_line}
use Rattle.jc_dump.specs.Texts.{dumps_text}
use Rattle.jc_view.specs.Visible.{view_line, views_text}
use Rattle.jc_program.specs.declared.run.ReplicaLines.{ReplicaLines}
use Rattle.jc_program.specs.declared.run.ReplicaLines.TheVariants.{Dumps, Documents}

-- the line of the replica with the name, in this state
abbrev pub replica_line : ReplicaLines → List (List ℕ) → List ℕ → State → List ℕ
replica_line Dumps names name A = dump_line names name A
replica_line Documents names name A = view_line names name A

-- those of all, in order
abbrev pub lines_text : ReplicaLines → List (List ℕ) → List State → List ℕ
lines_text Dumps names states = dumps_text names states
lines_text Documents names states = views_text names states
