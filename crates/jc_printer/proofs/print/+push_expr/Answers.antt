use Rattle.jc_printer.proofs.PushedTextsLemmas.{four_pushed, where_pushed}
use Rattle.jc_printer.proofs.print.+push_expr.Goals as goal

-- the expression, and the selector of its key
pub returns-in_ok-push_quoted-in-Get : goal.returns-in_ok-push_quoted-in-Get
returns-in_ok-push_quoted-in-Get t c =
    rw c.in-Get.is
    (where_pushed c.push_str-in-Get-2.result _ _ _ c.push_str-in-Get-2.ensures.bytes
    (λ last. four_pushed _ _ _ _ _ _ _ _ _ (rw c.deref.ensures at c.in_ok-push_expr-in-Get.ensures) c.in_ok-push_str-in-Get.ensures.bytes (rw c.as_str-in-Get.ensures at c.in_ok-push_quoted-in-Get.ensures) last))
