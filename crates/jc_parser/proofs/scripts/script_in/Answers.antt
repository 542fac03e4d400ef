use Rattle.std.proofs.Common.{◌≢◌, inl, inr, refl, ap}
use Rattle.std.proofs.lemmas.Result.{err_from_is_err_and, IfErr-weaker}
use Rattle.jc_parser.specs.declared.fault.ScenarioFault.TheVariants.{Memory}
use Rattle.jc_parser.specs.Faults.{from_lexer}
use Rattle.jc_parser.specs.ReaderState.{reading_of}
use Rattle.jc_parser.specs.Sentences.{IsFaultOfText}
use Rattle.jc_parser.specs.Scripts.{IsNoScript}
use Rattle.jc_parser.proofs.SentencesLemmas.{lexical_is}
use Rattle.jc_parser.proofs.scripts.script_in.Goals as goal

pub returns-in_err-tokens-clause-fault : goal.returns-in_err-tokens-clause-fault
returns-in_err-tokens-clause-fault c =
    let p = err_from_is_err_and c.from_residual.result c.from_residual.ensures.1 in
    rw (p.1, p.2) (λ kept. inl (c.in_err-tokens.field-0.0, c.in_err-tokens.ensures.fault (λ is. kept (ap from_lexer is)), refl))

pub returns-in_err-tokens-clause-kind : goal.returns-in_err-tokens-clause-kind
returns-in_err-tokens-clause-kind c =
    let p = err_from_is_err_and c.from_residual.result c.from_residual.ensures.1 in
    rw (p.1, p.2) (lexical_is c.in_err-tokens.field-0.0)

pub returns-clause-fault : goal.returns-clause-fault
returns-clause-fault c =
    let h = rw c.deref.ensures.value at c.script_of.ensures.fault in
    IfErr-weaker c.script_of.result (λ e. e ≢ Memory → IsNoScript (reading_of c.args.text.now c.in_ok-tokens.tokens.items) e) (λ e. e ≢ Memory → IsFaultOfText IsNoScript c.args.text.now e)
    (λ e is kept. inr (c.in_ok-tokens.tokens.items, c.in_ok-tokens.ensures.tokens, is kept)) h
