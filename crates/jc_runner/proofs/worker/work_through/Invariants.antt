use Rattle.std.proofs.Common.{◌≡◌, ◌+◌, length, Some}
use Rattle.jc_lock.specs.Shows.{pass_number, pass_left, pass_origin, pass_seen, pass_mine}
use Rattle.jc_runner.specs.Benches.{IsPassAt, bench_start}
use Rattle.jc_choice.specs.Phases.{last_event_of, phase_after}
use Rattle.jc_choice.specs.Legal.{own_events, AllChosen}
use Rattle.jc_runner.specs.Asked.{Asks, questions_of}
use Rattle.jc_runner.proofs.worker.work_through.Given as goal

abbrev pub invariant-loop : goal.invariant-loop
invariant-loop g l = record {
  of_bench : IsPassAt l.bench l.pass;
  number : pass_number l.pass ≡ l.p;
  origin : pass_origin l.pass ≡ Some (bench_start l.bench);
  own : own_events (pass_seen l.pass) l.p ≡ pass_mine l.pass;
  made : length (pass_mine l.pass) ≡ l.made;
  takes : l.made + pass_left l.pass ≡ pass_left l.fn.pass;
  phase : l.phase ≡ phase_after (last_event_of (pass_mine l.pass));
  chosen : AllChosen (bench_start l.bench) l.p (pass_seen l.pass);
  asked : Asks (g.G.Gate.asked l.initial.gate) (g.G.Gate.asked l.gate) (questions_of l.p l.made);
}
