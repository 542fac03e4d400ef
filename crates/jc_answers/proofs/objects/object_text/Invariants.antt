use Rattle.std.proofs.Common.{◌≡◌, take}
use Rattle.jc_answers.specs.Parts.{members_of, object_begun}
use Rattle.jc_answers.proofs.objects.object_text.Given as goal

-- the members so far
abbrev pub invariant-loop-member : goal.invariant-loop-member
invariant-loop-member l = l.out.items ≡ object_begun (members_of (take l.member-index l.members))
