use Rattle.std.proofs.lemmas.Result.{IfOk-weaker}
use Rattle.jc_journal.specs.Parts.{rows_of, differences_at, step_members}
use Rattle.jc_journal.proofs.TokensLemmas.{line_is}
use Rattle.jc_journal.proofs.event.line_of.Goals as goal

pub returns : goal.returns
returns c =
    let t = c.args.told.now in
    let s = t.numbered.now in
    let es = step_members c.args.names.now s.given s.number s.event (rows_of t.rules) (differences_at t.effects) t.step in
    IfOk-weaker c.end_line.result _ _
    (λ line e. line_is c.in_ok-out.out c.write_members.new.out es line.items c.in_ok-out.ensures.before c.in_ok-out.ensures.tokens c.in_ok-write_members.ensures e)
    c.end_line.ensures
