use Rattle.std.proofs.Common.{rules, subst}
use Rattle.jc_lock.specs.Shows.{turn_value}
use Rattle.jc_network.specs.Steps.{IsStuckFor}
use Rattle.jc_runner.specs.Recording.{Recording}
use Rattle.jc_runner.proofs.bench.Bench.make.Goals as goal

pub returns-in-Err-Stuck-clause-answer : goal.returns-in-Err-Stuck-clause-answer
returns-in-Err-Stuck-clause-answer c = (
  record {
    network = (turn_value c.args.turn).net.history.now;
    is_front = search rules;
    room = let room = c.in-Err-Stuck.ensures.room c.in-Err-Stuck.stuck (search (rules, c.in-Err-Stuck.is)) in search (rules, room);
    stays = search rules;
    legal = search rules;
    is_stuck = subst (λ (r : Recording). IsStuckFor r.net.history.now c.args.event.now c.in-Err-Stuck.stuck) c.value_mut.ensures.value (c.in-Err-Stuck.ensures.stuck c.in-Err-Stuck.stuck (search (rules, c.in-Err-Stuck.is)));
  },
  search rules,
)
