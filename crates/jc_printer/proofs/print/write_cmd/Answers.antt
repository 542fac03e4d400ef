use Rattle.jc_printer.proofs.PushedTextsLemmas.{four_pushed, where_pushed}
use Rattle.jc_printer.proofs.print.write_cmd.Goals as goal

-- the expression, and the value that is inserted
pub returns-in_ok-push_value-in-InsertAfter : goal.returns-in_ok-push_value-in-InsertAfter
returns-in_ok-push_value-in-InsertAfter c =
    rw c.in-InsertAfter.is
    (where_pushed c.push_str-in-InsertAfter-2.result _ _ _ c.push_str-in-InsertAfter-2.ensures.bytes
    (λ last. four_pushed _ _ _ _ _ _ _ _ _ c.in_ok-push_expr-in-InsertAfter.ensures c.in_ok-push_str-in-InsertAfter.ensures.bytes c.in_ok-push_value-in-InsertAfter.ensures last))
