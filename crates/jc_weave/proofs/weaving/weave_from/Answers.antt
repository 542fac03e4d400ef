use Rattle.std.proofs.Common.{rules, ◌≡◌, ◌∙◌, ◌⊎◌, [], ap, inl, inr}
use Rattle.jc_weave.specs.Weaving.{ends_in}
use Rattle.jc_weave.proofs.WeavingLemmas.{after_turn, of_three, is_woven, nil_of}
use Rattle.jc_weave.proofs.weaving.weave_from.Goals.{then-loop-loom-test+else-not-is_empty, else-loop-loom-test}
use Rattle.jc_weave.proofs.weaving.weave_from.Goals as goal

pub loop-loom-preserved : goal.loop-loom-preserved
loop-loom-preserved c = record {
  after = λ s is. after_turn s c.args.seed c.args.limit _ _ _ _ _ _ (c.loop-loom.invariant.after s is) c.in_ok-turn.ensures.turn;
  begun = c.in_ok-turn.ensures.begun;
  listed = c.in_ok-turn.ensures.listed ∙ c.loop-loom.invariant.listed;
  names = c.in_ok-turn.ensures.names ∙ c.loop-loom.invariant.names;
}

-- the turns have ended
pub returns-clause-woven : goal.returns-clause-woven
returns-clause-woven c =
    let L = c.loop-loom.loom in
    let inv = c.loop-loom.invariant in
    let over : (L.left ≡ 0) ⊎ (L.live.items ≡ []) = elim c.loop-loom-test.branch [ then-loop-loom-test+else-not-is_empty w ↦ inr (nil_of L.live.items (search (rules, w.if-not-is_empty.ensures, w.is_empty.ensures))) | else-loop-loom-test w ↦ inl (search rules) ] in
    of_three _ _ _ _ c.woven.result c.woven.ensures.net c.woven.ensures.schedule c.woven.ensures.ends (λ w net schedule ends s is. is_woven s c.args.seed c.args.limit _ _ _ _ _ _ (inv.after s is) over (ap (λ v. v.items) schedule) (ap (λ n. n.history.now) net) (ends ∙ ap (ends_in L.stucks.items L.net.history.now.states) (inv.names ∙ is.names)))
