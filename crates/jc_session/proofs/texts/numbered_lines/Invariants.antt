use Rattle.std.proofs.Common.{◌≡◌, take, string_bytes}
use Rattle.jc_session.specs.Texts.{numbered_lines}
use Rattle.jc_session.proofs.texts.numbered_lines.Given as goal

-- the events so far
abbrev pub invariant-loop-i : goal.invariant-loop-i
invariant-loop-i l = string_bytes l.text ≡ numbered_lines l.names 1 (take l.i l.events)
