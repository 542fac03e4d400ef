use Rattle.std.proofs.Common.{◌≡◌, take, string_bytes}
use Rattle.jc_dump.specs.Texts.{dumps_text}
use Rattle.jc_session.proofs.texts.dump_lines.Given as goal

-- the dumps of the replicas below p
abbrev pub invariant-loop-p : goal.invariant-loop-p
invariant-loop-p l = string_bytes l.text ≡ dumps_text l.net.names (take l.p l.net.history.now.states)
