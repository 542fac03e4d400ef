use Rattle.std.proofs.Common.{ℕ, List, ◌-◌, string_bytes, sym, subst, ◌∙◌, arith}
use Rattle.std.proofs.lemmas.Result.{IfOk-weaker}
use Rattle.std.proofs.lemmas.Str.{IsUtf8-string_bytes}
use Rattle.jc_syntax.specs.Lexemes.{token_content}
use Rattle.jc_syntax.specs.Strings.{IsString}
use Rattle.jc_syntax.proofs.StringsContentLemmas.{token_is_string}
use Rattle.jc_syntax.proofs.StringsDecodeLemmas.{left_at_first, left_before, run_boundary, step_to_end, step_to_escape}
use Rattle.jc_syntax.proofs.content.string_of.Goals as goal

pub runs-init : goal.runs-init
runs-init c = rw c.new-content.ensures.bytes (left_at_first c.args.text.now c.args.token.now c.utf8.text c.requires)

pub range-requires-clause-end_boundary : goal.range-requires-clause-end_boundary
range-requires-clause-end_boundary c = run_boundary c.args.text.now c.as_bytes-bytes.result.now (c.args.token.now.stop - 1) c.runs.at c.skip_plain-end.result (string_bytes c.runs.content) (token_content c.args.text.now c.args.token.now) c.as_bytes-bytes.ensures.value c.skip_plain-end.ensures.place c.runs.invariant

pub returns-in_default-clause-content : goal.returns-in_default-clause-content
returns-in_default-clause-content c =
    let all = step_to_end c.args.text.now c.as_bytes-bytes.result.now c.range.result.now (c.args.token.now.stop - 1) c.runs.at c.skip_plain-end.result (string_bytes c.runs.content) (string_bytes c.push_str.new.self) (token_content c.args.text.now c.args.token.now) c.as_bytes-bytes.ensures.value c.skip_plain-end.ensures.place c.range.ensures.value c.in_ok-push_str.ensures.bytes c.runs.invariant c.in_default.ensures.value in
    IfOk-weaker c.new.result _ _ (λ t is. is ∙ all) c.new.ensures

pub returns-in_default-clause-spells : goal.returns-in_default-clause-spells
returns-in_default-clause-spells c =
    let all = step_to_end c.args.text.now c.as_bytes-bytes.result.now c.range.result.now (c.args.token.now.stop - 1) c.runs.at c.skip_plain-end.result (string_bytes c.runs.content) (string_bytes c.push_str.new.self) (token_content c.args.text.now c.args.token.now) c.as_bytes-bytes.ensures.value c.skip_plain-end.ensures.place c.range.ensures.value c.in_ok-push_str.ensures.bytes c.runs.invariant c.in_default.ensures.value in
    IfOk-weaker c.new.result _ _ (λ t is. subst (λ (b : List ℕ). IsString c.args.text.now c.args.token.now.start c.args.token.now.stop b) (sym (is ∙ all)) (token_is_string c.args.text.now c.args.token.now c.requires.0 c.requires.1.1)) c.new.ensures

pub returns-in_default-clause-utf8 : goal.returns-in_default-clause-utf8
returns-in_default-clause-utf8 c = IfOk-weaker c.new.result _ _ (λ t is. rw is (IsUtf8-string_bytes c.push_str.new.self)) c.new.ensures

pub runs-preserved : goal.runs-preserved
runs-preserved c =
    step_to_escape c.args.text.now c.as_bytes-bytes.result.now c.range.result.now (c.args.token.now.stop - 1) c.runs.at c.skip_plain-end.result c.in-Some.len c.in-Some.character (string_bytes c.runs.content) (string_bytes c.push_str.new.self) (string_bytes c.push.new.self) (token_content c.args.text.now c.args.token.now) c.utf8.text c.as_bytes-bytes.ensures.value c.skip_plain-end.ensures.place c.range.ensures.value c.in_ok-push_str.ensures.bytes c.runs.invariant c.in-Some.ensures.value c.in_ok-push.ensures.bytes

pub runs-smaller : goal.runs-smaller
runs-smaller c =
    let left = left_before c.args.text.now (c.args.token.now.stop - 1) c.runs.at (string_bytes c.runs.content) (token_content c.args.text.now c.args.token.now) c.runs.invariant in
    omega (arith, left, c.runs.invariant.inside, c.skip_plain-end.ensures.from, c.in-Some.ensures.len.0)
