use Rattle.std.proofs.lemmas.Result.{err_from_is_err_and}
use Rattle.jc_scenario.specs.Views.{scenario_view}
use Rattle.jc_requests.specs.Views.{between_view}
use Rattle.jc_listings.specs.Journals as J
use Rattle.jc_serve.proofs.FindsLemmas.{refuses_weaker}
use Rattle.jc_serve.proofs.AnswersLemmas.{no_journal}
use Rattle.jc_serve.proofs.texts.journal.Goals as goal

pub returns-in_err-first : goal.returns-in_err-first
returns-in_err-first c =
    let q = err_from_is_err_and c.from_residual.result c.from_residual.ensures.1 in
    rw (q.1, q.2) (refuses_weaker _ (no_journal c.args.details (scenario_view c.args.scenario.now) c.args.schedule.now (between_view c.args.between)) c.in_err-first.ensures)

pub returns : goal.returns
returns c = J.lists c.in_ok-first.ensures c.in_ok-lines_between.ensures
