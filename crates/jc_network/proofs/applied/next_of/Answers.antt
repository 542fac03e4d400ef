use Rattle.std.proofs.Common.{sym}
use Rattle.jc_network.proofs.AppliedLemmas.{next_less, next_equal, next_greater, next_rest}
use Rattle.jc_network.proofs.applied.next_of.Goals as goal

pub returns-in-Less-clause-next : goal.returns-in-Less-clause-next
returns-in-Less-clause-next c =
    let both = c.in-Some-Some in
    next_less c.args.made.now c.args.received.now both.own.now both.other.now both.own_left.now both.other_left.now c.requires.made c.requires.received both.ensures.cases.0 both.ensures'.cases.0 (sym c.in-Less.ensures)

pub returns-in-Equal-clause-next : goal.returns-in-Equal-clause-next
returns-in-Equal-clause-next c =
    let both = c.in-Some-Some in
    next_equal c.args.made.now c.args.received.now both.own.now both.other.now both.own_left.now both.other_left.now c.requires.received both.ensures.cases.0 both.ensures'.cases.0 (sym c.in-Equal.ensures)

pub returns-in-Greater-clause-next : goal.returns-in-Greater-clause-next
returns-in-Greater-clause-next c =
    let both = c.in-Some-Some in
    next_greater c.args.made.now c.args.received.now both.own.now both.other.now both.own_left.now both.other_left.now c.requires.made c.requires.received both.ensures.cases.0 both.ensures'.cases.0 (sym c.in-Greater.ensures)

pub returns-in-None-Some-clause-next : goal.returns-in-None-Some-clause-next
returns-in-None-Some-clause-next c =
    let rest = c.in-None-Some in
    next_rest c.args.made.now c.args.received.now rest.other.now rest.other_left.now c.requires.received rest.ensures.cases rest.ensures'.cases.0
