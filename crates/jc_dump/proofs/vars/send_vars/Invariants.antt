use Rattle.jc_dump.specs.DumpParts.{bound_shown}
use Rattle.jc_json.proofs.PartsSendLemmas.{EntriesFrom}
use Rattle.jc_dump.proofs.vars.send_vars.Given as goal

abbrev pub invariant-loop-name : goal.invariant-loop-name
invariant-loop-name g l = EntriesFrom (bound_shown l.names) l.initial.name-iterator l.name-iterator (g.W.Serializer.written l.initial.out) (g.W.Serializer.written l.out)
