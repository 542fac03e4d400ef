use Rattle.std.proofs.Common.{List, ℕ, [], ◌∷◌, decimal, ap, ◌∙◌}
use Rattle.std.proofs.lemmas.Result.{IfOk-weaker}
use Rattle.jc_printer.specs.Canon.{quoted}
use Rattle.jc_answers.specs.JsonTexts.{array_text}
use Rattle.jc_replies.proofs.shown.row.Goals as goal

pub returns : goal.returns
returns c =
    let depth = c.args.depth in
    let name = c.name.result.now in
    IfOk-weaker c.end.result _ _ (λ text h.
    h (decimal depth ∷ quoted name ∷ []) (c.in_ok-push_string.ensures (decimal depth ∷ []) (c.in_ok-push_number.ensures [] c.in_ok-list.ensures))
    ∙ ap (λ (s : List ℕ). array_text (decimal depth ∷ quoted s ∷ [])) c.name.ensures) c.end.ensures
