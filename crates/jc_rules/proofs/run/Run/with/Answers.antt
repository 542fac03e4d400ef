use Rattle.std.proofs.Common.{rules, ◌≡◌, ◌+◌, refl}
use Rattle.jc_rules.proofs.run.Run.with.Goals as goal

pub returns-then-more-self-2 : goal.returns-then-more-self-2
returns-then-more-self-2 c =
    let rule : c.args.more.rule ≡ c.args.self.rule = search rules in
    let depth : c.args.more.depth ≡ c.args.self.depth + c.args.self.count = search rules in
    let count : c.in_ok-checked_add.field-0 ≡ c.args.self.count + c.args.more.count = search rules in
    (refl, refl, count, rule, depth)
