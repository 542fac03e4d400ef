use Rattle.std.proofs.Common.{◌≡◌, ℕ, ◌+◌, ◌<◌, ◌≤◌, [], length, take, get_or, sum_by, vec_len, ap, sym, ◌∙◌, arith}
use Rattle.jc_scenario.specs.Views.{scripts_view}
use Rattle.jc_serve.proofs.CommandCountLemmas.{as_many, script_length, count_more}
use Rattle.jc_serve.proofs.subjects.command_count.Goals as goal

pub loop-script-preserved : goal.loop-script-preserved
loop-script-preserved c =
    let i : ℕ = c.loop-script.script-index in
    let xs = c.args.scripts.now in
    let script = c.script-item.result in
    let inside : i < length xs = c.loop-script-test.true in
    let own : vec_len script ≡ length script.items = omega (arith, script.ok.0) in
    let len : c.len-count.result ≡ length (get_or xs i script).items = c.len-count.ensures ∙ (own ∙ ap (λ v. length v.items) c.script-item.is) in
    let viewed : i < length (scripts_view xs) = omega (arith, as_many xs, inside) in
    let most : length (get_or (scripts_view xs) i []) ≤ 65536 = (c.requires.short i [] viewed).commands in
    let same = script_length xs i script inside in
    record {
      counted = ap (λ n. n + c.len-count.result) c.loop-script.invariant.counted ∙ (ap (λ n. sum_by (λ script. length script) (take i (scripts_view xs)) + n) len ∙ sym (count_more xs i script inside));
      few = omega (arith, c.loop-script.invariant.few, len, most, same);
    }
