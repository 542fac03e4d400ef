use Rattle.std.proofs.Common.{Some, option_map, ap, sym, ◌∙◌}
use Rattle.jc_session.specs.Requests.{words}
use Rattle.jc_requests.specs.Asked.{Position}
use Rattle.jc_requests.specs.Asked as K
use Rattle.jc_requests.specs.Views.{asked_view}
use Rattle.jc_requests.proofs.AskedLemmas.{journal_between}
use Rattle.jc_requests.proofs.forms.journal.Goals as goal

pub returns-in_err-between : goal.returns-in_err-between
returns-in_err-between c =
    let d = c.past_details-trace.result in
    let is = journal_between (words c.args.rest.now) (words c.in-Some.rest.now) (d.0, d.1, words d.2.now) c.in-Some.first.now c.in_ok-only.field-0.now c.past_details-trace.ensures c.in-Some.ensures.parts.0 c.in_ok-only.ensures in
    ap (option_map asked_view) c.from_residual-in_err-between.ensures
    ∙ ap (option_map (λ (p : Position × Position). K.journal d.0 d.1 (Some p))) c.in_err-between.ensures
    ∙ sym is

pub returns : goal.returns
returns c =
    let d = c.past_details-trace.result in
    let is = journal_between (words c.args.rest.now) (words c.in-Some.rest.now) (d.0, d.1, words d.2.now) c.in-Some.first.now c.in_ok-only.field-0.now c.past_details-trace.ensures c.in-Some.ensures.parts.0 c.in_ok-only.ensures in
    ap (option_map (λ (p : Position × Position). K.journal d.0 d.1 (Some p))) c.in_ok-between.ensures ∙ sym is
