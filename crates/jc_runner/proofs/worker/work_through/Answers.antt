use Rattle.std.proofs.Common.{arith, ◌≡◌, ◌<◌, ◌+◌, ◌∷◌, [], ◌++◌, refl, sym, ◌∙◌, ap, subst, length, length-append, Some, inl}
use Rattle.jc_lock.specs.Shows.{pass_number, pass_left, pass_origin, pass_seen, pass_mine, turn_value, turn_mine, turn_left}
use Rattle.jc_scenario.specs.Views.{scenario_view}
use Rattle.jc_runner.specs.Benches.{bench_start}
use Rattle.jc_choice.specs.Phases.{last_event_of, phase_after}
use Rattle.jc_choice.specs.Chosen.{choice}
use Rattle.jc_choice.specs.Legal.{IsLegal, own_events, AllChosen}
use Rattle.jc_runner.specs.Asked.{Asks, questions_of}
use Rattle.jc_runner.specs.Answers.{IsStepAnswered, seen_after}
use Rattle.jc_runner.specs.declared.worker.Worked.{Worked}
use Rattle.jc_choice.specs.declared.end.End.TheVariants as N
use Rattle.jc_runner.specs.WorkerResult.{IsWorkerResult}
use Rattle.jc_choice.proofs.LegalGrowsLemmas.{chosen_none, chosen_more}
use Rattle.jc_choice.proofs.ChosenLemmas.{choice_is}
use Rattle.jc_choice.proofs.ChosenNowLemmas.{chosen_now}
use Rattle.jc_runner.proofs.WorkerResultLemmas.{same_start, in_hand, still_chosen, is_next, is_finished, goes_on, ends_by, ended}
use Rattle.jc_runner.proofs.AskedLemmas.{asks_none, asks_next}
use Rattle.jc_runner.proofs.worker.work_through.Goals as goal

pub loop-init : goal.loop-init
loop-init g c =
    let new = c.requires.new in
    record {
      of_bench = new.of_lock;
      number = sym c.number-p.ensures;
      origin = new.origin;
      own = rw (new.seen, new.mine) refl;
      made = rw new.mine refl;
      takes = omega arith;
      phase = rw new.mine refl;
      chosen = rw new.seen (chosen_none (bench_start c.args.bench.now) c.number-p.result);
      asked = asks_none (g.G.Gate.asked c.args.gate.now);
    }

pub returns-in-None-choose-clause-worked : goal.returns-in-None-choose-clause-worked
returns-in-None-choose-clause-worked g c =
    let inv = c.loop.invariant in
    let ok = c.in-Ok.ensures in
    let s = bench_start c.args.bench.now in
    let p = c.number-p.result in
    let history = (turn_value c.in-Ok.turn).schedule in
    let network = c.recorded.inside.net.history.now in
    let same = same_start (turn_value c.in-Ok.turn) s (pass_origin c.loop.pass) ok.origin.1 inv.origin in
    let legal : IsLegal history s network = in_hand s c.recorded.inside.net c.recorded.inside.schedule.items (scenario_view c.recorded.inside.start) (turn_value c.in-Ok.turn) (c.recorded.view_is ∙ c.value-recorded.ensures) c.recorded.invariant same in
    let owned : own_events history p ≡ pass_mine c.loop.pass = ap (own_events history) (sym inv.number) ∙ ok.mine.1 in
    let all : AllChosen s p history = still_chosen s p (pass_seen c.loop.pass) history (pass_mine c.loop.pass) ok.list.1 inv.own owned inv.chosen in
    let give = c.give.ensures in
    let low : p < length s.scripts = subst (λ k. k < length s.scripts) (sym c.number-p.ensures) c.requires.there in
    let worked : Worked = record { pass = c.give.result; made = c.loop.made; end = N.Finished } in
    subst (λ k. IsWorkerResult c.args.bench.now k (pass_left c.args.pass) worked) c.number-p.ensures
    (ended c.args.bench.now p (pass_left c.args.pass) worked history (pass_mine c.loop.pass) give.lock (give.number.0 ∙ (ok.number.0 ∙ inv.number)) (give.origin ∙ (ok.origin.0 ∙ inv.origin)) give.own give.seen owned inv.made (inl (omega (arith, give.number.1, ok.number.1, inv.takes))) all
    (is_finished s p history network c.loop.phase legal low (sym c.choose.ensures ∙ c.in-None-choose.is), omega (arith, ok.number.1, inv.takes, inv.made)))

pub make-back-requires-clause-number : goal.make-back-requires-clause-number
make-back-requires-clause-number g c =
    let inv = c.loop.invariant in
    let is : choice c.recorded.inside.net.history.now.states c.number-p.result c.loop.phase ≡ Some (c.in-Some-choose.chosen.0, c.in-Some-choose.chosen.1) = sym c.choose.ensures ∙ c.in-Some-choose.is in
    (choice_is _ _ _ _ _ is).0 ∙ (sym inv.number ∙ sym c.in-Ok.ensures.number.0)

pub loop-preserved : goal.loop-preserved
loop-preserved g c =
    let inv = c.loop.invariant in
    let ok = c.in-Ok.ensures in
    let s = bench_start c.args.bench.now in
    let p = c.number-p.result in
    let history = (turn_value c.in-Ok.turn).schedule in
    let network = c.recorded.inside.net.history.now in
    let same = same_start (turn_value c.in-Ok.turn) s (pass_origin c.loop.pass) ok.origin.1 inv.origin in
    let legal : IsLegal history s network = in_hand s c.recorded.inside.net c.recorded.inside.schedule.items (scenario_view c.recorded.inside.start) (turn_value c.in-Ok.turn) (c.recorded.view_is ∙ c.value-recorded.ensures) c.recorded.invariant same in
    let owned : own_events history p ≡ pass_mine c.loop.pass = ap (own_events history) (sym inv.number) ∙ ok.mine.1 in
    let all : AllChosen s p history = still_chosen s p (pass_seen c.loop.pass) history (pass_mine c.loop.pass) ok.list.1 inv.own owned inv.chosen in
    let e = c.in-Some-choose.chosen.0 in
    let next = c.in-Some-choose.chosen.1 in
    let is : choice network.states p c.loop.phase ≡ Some (e, next) = sym c.choose.ensures ∙ c.in-Some-choose.is in
    let m = c.make-back.ensures in
    let new = c.make-back.result.0 in
    let a = c.make-back.result.1 in
    let number : pass_number new ≡ p = m.number.0 ∙ (ok.number.0 ∙ inv.number) in
    let made = goes_on (turn_value c.in-Ok.turn).start e (pass_seen new) (turn_mine c.in-Ok.turn) (pass_mine new) history (turn_left c.in-Ok.turn + 1) (pass_left new) a (sym c.end_of.ensures ∙ c.in_default.is) m.answer (m.list ∙ ap (λ h. seen_after h e a) ok.list.0) in
    let mine : pass_mine new ≡ pass_mine c.loop.pass ++ e ∷ [] = made.1 ∙ ap (λ l. l ++ e ∷ []) ok.mine.0 in
    record {
      of_bench = m.lock;
      number = number;
      origin = m.number.1 ∙ (ok.origin.0 ∙ inv.origin);
      own = ap (own_events (pass_seen new)) (sym number) ∙ m.own;
      made = omega (arith, ap length mine, length-append (pass_mine c.loop.pass) (e ∷ []), inv.made);
      takes = omega (arith, m.left, ok.number.1, inv.takes);
      phase = is_next p (pass_mine c.loop.pass) network c.loop.phase next e is ∙ ap (λ l. phase_after (last_event_of l)) (sym mine);
      chosen = subst (AllChosen s p) (sym made.0) (chosen_more s p history e all (chosen_now s p history (pass_mine c.loop.pass) network c.loop.phase next e legal owned inv.phase is));
      asked = asks_next p c.loop.made _ _ _ inv.asked c.before-in-loop.ensures;
    }

pub returns-in-Some-end_of-clause-worked : goal.returns-in-Some-end_of-clause-worked
returns-in-Some-end_of-clause-worked g c =
    let inv = c.loop.invariant in
    let ok = c.in-Ok.ensures in
    let s = bench_start c.args.bench.now in
    let p = c.number-p.result in
    let history = (turn_value c.in-Ok.turn).schedule in
    let network = c.recorded.inside.net.history.now in
    let same = same_start (turn_value c.in-Ok.turn) s (pass_origin c.loop.pass) ok.origin.1 inv.origin in
    let legal : IsLegal history s network = in_hand s c.recorded.inside.net c.recorded.inside.schedule.items (scenario_view c.recorded.inside.start) (turn_value c.in-Ok.turn) (c.recorded.view_is ∙ c.value-recorded.ensures) c.recorded.invariant same in
    let owned : own_events history p ≡ pass_mine c.loop.pass = ap (own_events history) (sym inv.number) ∙ ok.mine.1 in
    let all : AllChosen s p history = still_chosen s p (pass_seen c.loop.pass) history (pass_mine c.loop.pass) ok.list.1 inv.own owned inv.chosen in
    let e = c.in-Some-choose.chosen.0 in
    let next = c.in-Some-choose.chosen.1 in
    let is : choice network.states p c.loop.phase ≡ Some (e, next) = sym c.choose.ensures ∙ c.in-Some-choose.is in
    let m = c.make-back.ensures in
    let new = c.make-back.result.0 in
    let a = c.make-back.result.1 in
    let number : pass_number new ≡ p = m.number.0 ∙ (ok.number.0 ∙ inv.number) in
    let limit = pass_left c.args.pass in
    let answered = subst (λ t. IsStepAnswered t e (pass_seen new) (turn_mine c.in-Ok.turn) (pass_mine new) (turn_left c.in-Ok.turn + 1) (pass_left new) a) same m.answer in
    let worked : Worked = record { pass = new; made = c.loop.made; end = c.in-Some-end_of.end } in
    let by =
    ends_by s p limit history (pass_mine c.loop.pass) network c.loop.phase next e legal owned inv.phase is (omega (arith, ok.number.1, inv.takes, inv.made)) (pass_seen new) (turn_mine c.in-Ok.turn) (pass_mine new) (turn_left c.in-Ok.turn + 1) (pass_left new) a c.in-Some-end_of.end (sym c.end_of.ensures ∙ c.in-Some-end_of.is) m.waited answered (m.list ∙ ap (λ h. seen_after h e a) ok.list.0) in
    subst (λ k. IsWorkerResult c.args.bench.now k limit worked) c.number-p.ensures
    (ended c.args.bench.now p limit worked history (pass_mine c.loop.pass) m.lock number (m.number.1 ∙ (ok.origin.0 ∙ inv.origin)) m.own by.0 owned inv.made (inl (omega (arith, m.left, ok.number.1, inv.takes))) all by.1)

pub returns-in-Err-clause-asked : goal.returns-in-Err-clause-asked
returns-in-Err-clause-asked g c =
    subst (λ k. Asks (g.G.Gate.asked c.args.gate.now) (g.G.Gate.asked c.before-in-loop.new.self) (questions_of k (c.loop.made + 1))) c.number-p.ensures
    (asks_next c.number-p.result c.loop.made _ _ _ c.loop.invariant.asked c.before-in-loop.ensures)

pub returns-in-None-choose-clause-asked : goal.returns-in-None-choose-clause-asked
returns-in-None-choose-clause-asked g c =
    subst (λ k. Asks (g.G.Gate.asked c.args.gate.now) (g.G.Gate.asked c.before-in-loop.new.self) (questions_of k (c.loop.made + 1))) c.number-p.ensures
    (asks_next c.number-p.result c.loop.made _ _ _ c.loop.invariant.asked c.before-in-loop.ensures)

pub returns-in-Some-end_of-clause-asked : goal.returns-in-Some-end_of-clause-asked
returns-in-Some-end_of-clause-asked g c =
    subst (λ k. Asks (g.G.Gate.asked c.args.gate.now) (g.G.Gate.asked c.before-in-loop.new.self) (questions_of k (c.loop.made + 1))) c.number-p.ensures
    (asks_next c.number-p.result c.loop.made _ _ _ c.loop.invariant.asked c.before-in-loop.ensures)
