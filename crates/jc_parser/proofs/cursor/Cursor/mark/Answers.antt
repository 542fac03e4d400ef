use Rattle.std.proofs.Common.{Err, sym, ap, ◌∙◌}
use Rattle.jc_parser.specs.ReaderState.{has_kind}
use Rattle.jc_parser.proofs.FirstTokensLemmas.{not_skipped}
use Rattle.jc_parser.proofs.cursor.Cursor.mark.Goals as goal

pub returns-then-not-begins : goal.returns-then-not-begins
returns-then-not-begins c _ =
    not_skipped (has_kind c.args.kind) c.args.self.now (sym c.begins.ensures ∙ c.if-not-begins.true) ∙ ap (λ f. Err f) (sym c.stuck.ensures)
