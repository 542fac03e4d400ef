use Rattle.std.proofs.Common.{rules, arith, ◌≡◌, ◌<◌, sym, ◌∙◌, ap, subst, length, vec_len, vec_items, get_or, map}
use Rattle.std.specs.Prelude.{All}
use mathlib.Core.List.{IsPrefix}
use Rattle.std.specs.List.{range_with_len}
use Rattle.std.proofs.lemmas.Bool.{false≢true}
use Rattle.std.proofs.lemmas.List.{get_or-map, length-map}
use Rattle.std.proofs.lemmas.List.Elements.{All-get_or}
use Rattle.std.proofs.lemmas.List.FromFn.{get_or-range_with_len, length-range_with_len}
use Rattle.jc_rules.specs.Step.{replica_of}
use Rattle.jc_lock.specs.Shows.{pass_number, pass_seen, pass_mine}
use Rattle.jc_lock.proofs.GatheredLemmas.{each_of}
use Rattle.jc_lock.proofs.NumbersLemmas.{each_once_in_order}
use Rattle.jc_scenario.specs.Views.{scenario_view}
use Rattle.jc_runner.specs.declared.worker.Worked.{Worked}
use Rattle.jc_runner.specs.Benches.{IsPassAt, IsNewAt, bench_start, bench_passes}
use Rattle.jc_choice.specs.Legal.{own_events}
use Rattle.jc_runner.specs.WorkerResult.{HaveWorked}
use Rattle.jc_runner.proofs.ReportsLemmas.{numbered, reported, all_mapped, mapped_all, map_twice}
use Rattle.jc_runner.proofs.run.run_threads.Goals as goal

pub run_on-requires-after_bounds : goal.run_on-requires-after_bounds
run_on-requires-after_bounds g c κs within =
    let opened = c.in-Ok.ensures in
    let bench = c.in-Ok.opened.0 in
    let passes = vec_items c.in-Ok.opened.1 in
    let n = length (scenario_view c.args.scenario).scripts in
    let long : length passes ≡ n = sym (length-map passes pass_number) ∙ (ap length opened.numbers ∙ length-range_with_len 0 n) in
    let count : vec_len c.in-Ok.opened.1 ≡ length passes = c.in-Ok.opened.1.ok.0 in
    record {
      new = λ k d low. All-get_or (IsNewAt bench c.args.limit) passes k d (omega (arith, low, count)) opened.new;
      numbers = λ k d low.
          sym (get_or-map pass_number passes k d 0 (omega (arith, low, count))) ∙ (ap (λ l. get_or l k 0) opened.numbers ∙ (get_or-range_with_len 0 n k 0 (omega (arith, low, count, long)) ∙ omega arith));
      there = count ∙ (long ∙ ap (λ s. length s.scripts) (sym opened.start));
      gates_are = search (rules, length-map, count, long);
    }

pub close-requires : goal.close-requires
close-requires g c =
    let opened = c.in-Ok.ensures in
    let bench = c.in-Ok.opened.0 in
    let passes = vec_items c.in-Ok.opened.1 in
    let ws = vec_items c.in_ok-all.all in
    let long : length ws ≡ vec_len c.in-Ok.opened.1 = sym c.in_ok-all.all.ok.0 ∙ c.in_ok-all.ensures.len in
    mapped_all (IsPassAt bench) (λ (w : Worked). w.pass) (vec_items c.in-Some.parts.passes) ws c.in-Some.ensures.passes (λ k d low. (c.in_ok-all.ensures.each k d (omega (arith, low, long))).of_bench)

pub unreachable-requires : goal.unreachable-requires
unreachable-requires g c =
    let opened = c.in-Ok.ensures in
    let bench = c.in-Ok.opened.0 in
    let passes = vec_items c.in-Ok.opened.1 in
    let n = length (scenario_view c.args.scenario).scripts in
    let ws = vec_items c.in_ok-all.all in
    let few : vec_len c.in-Ok.opened.1 ≡ n = c.in-Ok.opened.1.ok.0 ∙ (sym (length-map passes pass_number) ∙ (ap length opened.numbers ∙ length-range_with_len 0 n)) in
    let long : length ws ≡ n = sym c.in_ok-all.all.ok.0 ∙ (c.in_ok-all.ensures.len ∙ few) in
    let numbers : range_with_len 0 n ≡ map pass_number (vec_items c.in-Some.parts.passes) =
    sym (numbered (λ (w : Worked). pass_number w.pass) 0 n ws long (λ k d low. (c.in_ok-all.ensures.each k d (omega (arith, low, few))).is_number ∙ omega arith)) ∙ (sym (map_twice (λ (w : Worked). w.pass) pass_number ws) ∙ ap (map pass_number) (sym c.in-Some.ensures.passes)) in
    false≢true (c.in-Err.ensures.when.1 (each_of n (bench_passes bench) (range_with_len 0 n) (map pass_number (vec_items c.in-Some.parts.passes)) (sym opened.passes) numbers (each_once_in_order n)))

pub returns-clause-report : goal.returns-clause-report
returns-clause-report g c =
    let opened = c.in-Ok.ensures in
    let bench = c.in-Ok.opened.0 in
    let passes = vec_items c.in-Ok.opened.1 in
    let n = length (scenario_view c.args.scenario).scripts in
    let ws = vec_items c.in_ok-all.all in
    let few : vec_len c.in-Ok.opened.1 ≡ n = c.in-Ok.opened.1.ok.0 ∙ (sym (length-map passes pass_number) ∙ (ap length opened.numbers ∙ length-range_with_len 0 n)) in
    let long : length ws ≡ n = sym c.in_ok-all.all.ok.0 ∙ (c.in_ok-all.ensures.len ∙ few) in
    let same : n ≡ length (bench_start bench).scripts = ap (λ s. length s.scripts) (sym opened.start) in
    let worked : HaveWorked bench c.args.limit (length (bench_start bench).scripts) ws = λ k d low. c.in_ok-all.ensures.each k d (omega (arith, low, few, same)) in
    let closed = c.in-Ok-close.ensures in
    let whole = c.recorded.view_is in
    let history : c.recorded.inside.schedule.items ≡ c.in-Ok-close.recorded.schedule = ap (λ x. x.schedule) whole in
    let start : scenario_view c.recorded.inside.start ≡ bench_start bench = ap (λ x. x.start) whole ∙ closed.origin in
    let seen = all_mapped (λ q. IsPrefix (pass_seen q) c.recorded.inside.schedule.items) (λ (w : Worked). w.pass) (vec_items c.in-Some.parts.passes) ws c.in-Some.ensures.passes (rw history closed.seen) in
    let mine = all_mapped (λ q. own_events c.recorded.inside.schedule.items (pass_number q) ≡ pass_mine q) (λ (w : Worked). w.pass) (vec_items c.in-Some.parts.passes) ws c.in-Some.ensures.passes (rw history closed.mine) in
    let makers : All (λ e. replica_of e < length (bench_start bench).scripts) c.recorded.inside.schedule.items = rw history (subst (λ m. All (λ e. replica_of e < m) c.in-Ok-close.recorded.schedule) (opened.passes ∙ same) closed.makers) in
    reported bench (scenario_view c.args.scenario) c.args.limit _ ws opened.start c.requires c.recorded.invariant start (long ∙ same) worked c.in-Some.ensures.made c.in-Some.ensures.ends
    (λ k d low. (seen k d (omega (arith, low, long, same)), mine k d (omega (arith, low, long, same)))) makers
