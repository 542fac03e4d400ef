use Rattle.std.proofs.Common.{◌≡◌, ◌++◌, ◌∷◌, [], refl}
use Rattle.jc_rules.proofs.RunsLemmas.{run_dropped, part_dropped}
use Rattle.jc_rules.specs.Runs.{rows_of_all}
use Rattle.jc_rules.proofs.runs.drop_rows.Goals as goal

pub returns-then-left-size : goal.returns-then-left-size
returns-then-left-size c =
    let rs = c.loop-last.runs.items in
    let parts : rs ≡ c.pop.new.self.items ++ c.in-Some.last ∷ [] = c.in-Some.ensures.items in
    let pushed : c.push.new.self.items ≡ c.pop.new.self.items ++ c.shorter.result ∷ [] = rw c.unwrap.ensures at c.push.ensures.items in
    part_dropped (rows_of_all c.args.runs.now.items) rs c.pop.new.self.items c.push.new.self.items c.in-Some.last c.shorter.result c.args.count c.loop-last.left c.loop-last.left c.loop-last.invariant parts refl c.if-left-size.true c.shorter.ensures pushed

pub loop-last-preserved : goal.loop-last-preserved
loop-last-preserved c =
    let rs = c.loop-last.runs.items in
    let parts : rs ≡ c.pop.new.self.items ++ c.in-Some.last ∷ [] = c.in-Some.ensures.items in
    run_dropped (rows_of_all c.args.runs.now.items) rs c.pop.new.self.items c.in-Some.last c.args.count c.loop-last.left c.in-Some.last.count c.loop-last.invariant parts refl c.if-left-size.false
