use Rattle.std.proofs.Common.{rules, ◌≡◌}
use Rattle.jc_meaning.specs.Effects.{target, value_in}
use Rattle.jc_view.proofs.PathTestsLemmas.{tag_told, passed_last, passed_apart, passed_on}
use Rattle.jc_view.proofs.alive.+passes.Goals as goal

pub returns-then-ne : goal.returns-then-ne
returns-then-ne t c =
    let both = c.in-Some-Some in
    let op = c.args.op.now in
    let apart : both.first.now ≡ both.next.now → ⊥ = search rules in
    passed_apart c.args.path.now (target op) (value_in op.mutation) c.args.at.now c.args.tagged.now both.first.now both.path.now both.next.now both.at.now both.ensures.cases.0 both.ensures'.cases.0 apart

pub returns-in-Some-None : goal.returns-in-Some-None
returns-in-Some-None t c =
    let one = c.in-Some-None in
    let op = c.args.op.now in
    passed_last c.args.path.now (target op) (value_in op.mutation) c.args.at.now c.args.tagged.now one.first.now one.field-0-1-0.now c.eq.result one.ensures.cases.0 one.ensures'.cases (tag_told c.eq.result one.first.now c.args.tagged.now (search rules))

pub returns-else-ne : goal.returns-else-ne
returns-else-ne t c =
    let both = c.in-Some-Some in
    let op = c.args.op.now in
    let same : both.first.now ≡ both.next.now = search rules in
    passed_on c.args.path.now (target op) (value_in op.mutation) c.args.at.now c.args.tagged.now both.first.now both.path.now both.next.now both.at.now c.passes.result both.ensures.cases.0 both.ensures'.cases.0 same c.passes.ensures
