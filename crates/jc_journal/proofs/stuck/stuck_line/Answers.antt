use Rattle.std.proofs.Common.{ap, ◌∙◌}
use Rattle.std.proofs.lemmas.Result.{IfOk-weaker}
use Rattle.jc_network.specs.declared.fault.Stuck.{Stuck}
use Rattle.jc_journal.specs.EventLine.{members_line}
use Rattle.jc_journal.specs.Parts.{told_members}
use Rattle.jc_journal.proofs.TokensLemmas.{line_is}
use Rattle.jc_journal.proofs.stuck.stuck_line.Goals as goal

pub returns : goal.returns
returns c =
    let N = c.args.net.now.history.now.states in
    let names = c.args.net.now.names in
    let es = told_members names c.args.given c.args.number N c.args.stuck.now in
    IfOk-weaker c.end_line.result _ _
    (λ line e why is.
    line_is c.in_ok-out.out c.write_members.new.out es line.items c.in_ok-out.ensures.before c.in_ok-out.ensures.tokens c.in_ok-write_members.ensures e
    ∙ ap (λ (s : Stuck). members_line (told_members names c.args.given c.args.number N s)) is)
    c.end_line.ensures
