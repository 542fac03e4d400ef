use Rattle.std.proofs.Common.{rules, arith, ◌∷◌, [], ◌∙◌, ◌<◌, refl, length, length-append}
use Rattle.jc_network.proofs.AfterLemmas.{after_one_more}
use Rattle.jc_runner.proofs.recorded.Recorded.add.Goals as goal

pub invariant_of-self-2 : goal.invariant_of-self-2
invariant_of-self-2 c =
    let was = c.self.invariant in
    let made = c.in_ok-trace.ensures.made in
    let longer = length-append c.self.inside.schedule.items (c.args.event.now ∷ []) in
    let room : length c.self.inside.schedule.items < 100000 = first_of (search rules, omega arith, omega (arith, c.self.inside.schedule.ok.0)) in
    rw (c.push_reserved.ensures.items, c.reserve.ensures.items, c.begin.ensures) (record {
      legal = record { start = was.legal.start; is_start = was.legal.is_start; after = after_one_more _ _ _ _ _ _ was.legal.after made.step };
      named = made.names ∙ was.named;
      begun = refl;
      small = omega (arith, room, longer);
    })
