use Rattle.std.proofs.Common.{string_bytes, ◌++◌}
use Rattle.jc_printer.specs.Canon.{escape}
use Rattle.jc_printer.proofs.EscapesLemmas.{first_ascii, first_special, last_run, one_run}
use Rattle.jc_printer.proofs.quote.push_content.Goals as goal

pub split_first-requires : goal.split_first-requires
split_first-requires c = record { ascii = λ h. first_ascii c.runs.rest.now c.split_plain.result.1.now c.split_plain.ensures.back h }

pub returns-in_default : goal.returns-in_default
returns-in_default c =
    let total = string_bytes c.args.out.now ++ escape c.args.text.now in
    last_run c.runs.rest.now c.split_plain.result.0.now c.split_plain.result.1.now (string_bytes c.runs.out) (string_bytes c.push_str.new.self) total c.split_plain.ensures.front c.split_plain.ensures.back c.in_default.ensures.parts c.runs.invariant.1 c.in_ok-push_str.ensures.bytes

pub push_escape-requires : goal.push_escape-requires
push_escape-requires c = first_special c.runs.rest.now c.split_plain.result.1.now c.in-Some.next.now c.in-Some.byte c.split_plain.ensures.back c.in-Some.ensures.parts

pub runs-preserved : goal.runs-preserved
runs-preserved c =
    let total = string_bytes c.args.out.now ++ escape c.args.text.now in
    let out = string_bytes c.runs.out in
    let new = string_bytes c.push_str.new.self in
    let newer = string_bytes c.push_escape.new.out in (
      c.in-Some.ensures.utf8,
      one_run c.runs.rest.now c.split_plain.result.0.now c.split_plain.result.1.now c.in-Some.next.now out new newer total c.in-Some.byte c.split_plain.ensures.front c.split_plain.ensures.back c.in-Some.ensures.parts c.runs.invariant.1 c.in_ok-push_str.ensures.bytes c.in_ok-push_escape.ensures,
    )
