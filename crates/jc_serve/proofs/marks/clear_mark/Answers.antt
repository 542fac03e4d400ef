use Rattle.std.proofs.Common.{refl, rules}
use Rattle.jc_serve.proofs.MarksLemmas.{not_set, was_set}
use Rattle.jc_serve.proofs.marks.clear_mark.Goals as goal

pub returns-then-is_none-clause-none : goal.returns-then-is_none-clause-none
returns-then-is_none-clause-none c = λ _.
    (λ j b is e. not_set c.args.marks.now.items c.args.number j c.index.result.now b is (search rules) c.index.ensures c.if-is_none.ensures e, refl)

pub returns-clause-cleared : goal.returns-clause-cleared
returns-clause-cleared c = λ _. was_set c.args.marks.now.items c.args.number c.index.result.now c.if-number-eq0.false (search rules) c.index.ensures c.if-is_none.ensures
