use Rattle.std.proofs.Common.{ℕ, List, sym, subst, ◌∙◌}
use Rattle.std.proofs.lemmas.Result.{IfOk-weaker}
use Rattle.jc_scenario.specs.Views.{scenario_view}
use Rattle.jc_listings.specs.JournalParts.{IsNextLine}
use Rattle.jc_listings.proofs.JournalPartsLemmas.{lines_more, lines_stuck, lines_end}
use Rattle.jc_listings.proofs.journals.Networks.lines.Goals as goal

pub returns-then-line : goal.returns-then-line
returns-then-line c =
    let s = scenario_view c.args.events.now.scenario.now in
    let line = subst (λ (t : List ℕ). IsNextLine c.args.details c.loop-count.self.first.names c.behind-next.result c.loop-count.self.first.history.now c.line.new.self.first.history.now c.in_ok-line.line.is_stuck t) (sym c.as_slice.ensures.value) c.in_ok-line.ensures.line in
    let all = lines_stuck c.args.details s c.args.events.now.schedule.now c.args.first c.args.last c.args.self.now.first.history.now c.loop-count.count c.loop-count.self.first.history.now c.line.new.self.first.history.now c.loop-count.self.first.names c.loop-count.invariant.names c.loop-count.lines c.push.new.self c.behind-next.result c.loop-count.invariant.lines c.loop-count-test.true c.behind-next.ensures.event c.behind-next.ensures.number c.in_ok-line.line.is_stuck c.as_slice.result.now line c.in_ok-push.ensures c.if-line.true in
    IfOk-weaker c.end.result _ _ (λ answer h. (all.0, all.1, h all.0 all.2)) c.end.ensures

pub loop-count-preserved : goal.loop-count-preserved
loop-count-preserved c =
    let s = scenario_view c.args.events.now.scenario.now in
    let line = subst (λ (t : List ℕ). IsNextLine c.args.details c.loop-count.self.first.names c.behind-next.result c.loop-count.self.first.history.now c.line.new.self.first.history.now c.in_ok-line.line.is_stuck t) (sym c.as_slice.ensures.value) c.in_ok-line.ensures.line in
    record {
      twins = c.in_ok-line.ensures.twins;
      names = c.in_ok-line.ensures.names ∙ c.loop-count.invariant.names;
      lines = lines_more c.args.details s c.args.events.now.schedule.now c.args.first c.args.last c.args.self.now.first.history.now c.loop-count.count c.loop-count.self.first.history.now c.line.new.self.first.history.now c.loop-count.self.first.names c.loop-count.invariant.names c.loop-count.lines c.push.new.self c.behind-next.result c.loop-count.invariant.lines c.loop-count-test.true c.behind-next.ensures.event c.behind-next.ensures.number c.in_ok-line.line.is_stuck c.as_slice.result.now line c.in_ok-push.ensures c.if-line.false;
    }

pub returns : goal.returns
returns c =
    let s = scenario_view c.args.events.now.scenario.now in
    let all = lines_end c.args.details s c.args.events.now.schedule.now c.args.first c.args.last c.args.self.now.first.history.now c.loop-count.count c.loop-count.self.first.history.now c.loop-count.lines c.loop-count.invariant.lines c.loop-count-test.false in
    IfOk-weaker c.end-2.result _ _ (λ answer h. (all.0, all.1, h all.0 all.2)) c.end-2.ensures
