use Rattle.jc_syntax.proofs.TokenEndsLemmas.{lexeme_end, malformed_no_end}
use Rattle.jc_syntax.proofs.lexer.run_end.Goals as goal

pub returns-in-Ok : goal.returns-in-Ok
returns-in-Ok c =
    let extent = c.in-Ok.extent in
    record { end = lexeme_end c.args.kind c.args.text.now c.args.at extent.stop extent.size c.in_default.not-Number c.in-Ok.ensures.found; none = tt; inside = c.in-Ok.ensures.inside }

pub returns-in-Err : goal.returns-in-Err
returns-in-Err c =
    record { end = tt; none = λ stop h. malformed_no_end c.args.kind c.args.text.now c.args.at stop c.in-Err.field-0 c.in_default.not-Number c.in-Err.ensures.malformed h; inside = tt }
