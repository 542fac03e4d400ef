use Rattle.std.proofs.Common.{◌≡◌, ◌++◌, cond, is_ok, ap, sym, subst, ◌∙◌, IsUtf8}
use Rattle.jc_dump.specs.Lines.{row_text}
use Rattle.jc_dump.proofs.BytesLemmas.{pushed_utf8}
use Rattle.jc_dump.proofs.RowsLemmas.{row_utf8}
use Rattle.jc_dump.proofs.rows.RowLine.push.Goals as goal

pub returns-clause-bytes : goal.returns-clause-bytes
returns-clause-bytes c =
    let shown = c.in_ok-show.ensures in
    let old = c.args.out.now.items in
    let text : c.as_slice.result.now ≡ row_text (c.args.rule, c.args.depth) = c.as_slice.ensures.value ∙ (shown.0.text ∙ (λ i. row_text (shown.1 i, shown.2 i))) in
    c.extend_from_slice.ensures.items ∙ ap (λ t. cond (is_ok c.extend_from_slice.result) (old ++ t) old) text

pub returns-clause-utf8 : goal.returns-clause-utf8
returns-clause-utf8 c =
    let shown = c.in_ok-show.ensures in
    let line = c.show.new.self in
    let own = row_utf8 line.rule line.depth shown.0.small shown.0.name in
    pushed_utf8 c.extend_from_slice.result c.args.out.now.items _ c.as_slice.result.now c.extend_from_slice.ensures.items (subst IsUtf8 (sym (c.as_slice.ensures.value ∙ shown.0.text)) own)
