use Rattle.std.proofs.Common.{rules, ◌≡◌, ◌≤◌, ◌*◌, ◌-◌, ap, sym, ◌∙◌, subst, map, arith, ℕ}
use Rattle.std.specs.Prelude.{All}
use Rattle.std.proofs.lemmas.List.Elements.{All-push}
use Rattle.jc_lock.specs.Steps.{rest_of_deal}
use Rattle.jc_lock.specs.Shows.{pass_number, IsNewPass}
use Rattle.jc_lock.proofs.DealLemmas.{dealt_enough, dealt_head, dealt_next, numbers_dealt}
use Rattle.jc_lock.proofs.lock.HistoryLock.deal_all.Goals as goal

pub deal-pass-requires-clause-table : goal.deal-pass-requires-clause-table
deal-pass-requires-clause-table g c = c.loop-number.invariant.table ∙ c.requires.table

pub deal-pass-requires-clause-rests : goal.deal-pass-requires-clause-rests
deal-pass-requires-clause-rests g c = ap (λ v. v.stage) c.loop-number.invariant.view

pub deal-pass-requires-clause-share : goal.deal-pass-requires-clause-share
deal-pass-requires-clause-share g c = ap (λ v. v.share) c.loop-number.invariant.view

pub deal-pass-requires-clause-enough : goal.deal-pass-requires-clause-enough
deal-pass-requires-clause-enough g c =
    let takes : ℕ = c.args.terms.now.takes in
    let rest : ℕ = (c.args.passes - c.loop-number.number) * takes in
    let left : c.loop-number.seat.me.0.left ≡ rest = ap (λ v. v.left) c.loop-number.invariant.view in
    let some : takes ≤ rest = dealt_enough c.loop-number.number c.args.passes takes (search rules) in
    omega arith

pub deal-pass-requires-clause-origin : goal.deal-pass-requires-clause-origin
deal-pass-requires-clause-origin g c = ap (λ v. v.origin) c.loop-number.invariant.view

pub deal-pass-requires-clause-next : goal.deal-pass-requires-clause-next
deal-pass-requires-clause-next g c = (_, ap (λ v. v.knows) c.loop-number.invariant.view ∙ dealt_head c.loop-number.number c.args.passes (search rules))

pub loop-number-preserved : goal.loop-number-preserved
loop-number-preserved g c =
    let inv = c.loop-number.invariant in
    let o = g.K.Kept.origin c.args.terms.now.opened.value in
    let takes : ℕ = c.args.terms.now.takes in
    let pushed = c.push_reserved.ensures.items in record {
      table = c.deal-pass.ensures.same.0 ∙ inv.table;
      view = ap (λ m. m.0) c.deal-pass.ensures.left ∙ (ap rest_of_deal inv.view ∙ dealt_next o takes c.loop-number.number c.args.passes (search rules));
      count = search rules;
      room = search rules;
      numbers = ap (map pass_number) pushed ∙ numbers_dealt pass_number c.loop-number.out.items c.deal-pass.result c.loop-number.number inv.numbers c.deal-pass.ensures.number;
      new = subst (All (IsNewPass c.args.self.now takes o)) (sym pushed) (All-push (IsNewPass c.args.self.now takes o) c.loop-number.out.items c.deal-pass.result inv.new c.deal-pass.ensures.new);
    }
