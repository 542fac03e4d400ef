use Rattle.std.proofs.Common.{take}
use Rattle.jc_answers.specs.Parts.{HasItems}
use Rattle.jc_serve.specs.Answers.{mark_answers}
use Rattle.jc_serve.specs.InMemory.{marks_of}
use Rattle.jc_serve.proofs.served.told_marks.Given as goal

-- the breakpoints so far
abbrev pub invariant-loop-place : goal.invariant-loop-place
invariant-loop-place l = HasItems l.all (mark_answers l.names 1 (marks_of (take l.place l.marks)))
