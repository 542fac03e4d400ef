use Rattle.std.proofs.Common.{rules, ◌≡◌}
use Rattle.jc_meaning.proofs.EffectsTestsLemmas.{above_apart, above_on}
use Rattle.jc_meaning.proofs.touching.+is_above.Goals as goal

pub returns-then-ne : goal.returns-then-ne
returns-then-ne t c =
    let both = c.in-Some-Some in
    let apart : both.first.now ≡ both.next.now → ⊥ = search rules in
    above_apart c.args.path.now c.args.last.now c.args.at.now c.args.key.now both.first.now both.path.now both.next.now both.at.now both.ensures.cases.0 both.ensures'.cases.0 apart

pub returns-else-ne : goal.returns-else-ne
returns-else-ne t c =
    let both = c.in-Some-Some in
    let same : both.first.now ≡ both.next.now = search rules in
    above_on c.args.path.now c.args.last.now c.args.at.now c.args.key.now both.first.now both.path.now both.next.now both.at.now c.is_above.result both.ensures.cases.0 both.ensures'.cases.0 same c.is_above.ensures
