use Rattle.std.proofs.Common.{take, arith}
use Rattle.jc_tree.proofs.BlocksLemmas.{fit_fewer, gone_once_more}
use Rattle.jc_tree.proofs.blocks.Blocks.forget_all.Goals as goal

pub loop-number-preserved : goal.loop-number-preserved
loop-number-preserved c = record {
  fit = λ keys links presences h. c.forget.ensures.fit keys links presences (c.loop-number.invariant.fit keys links presences h);
  gone = gone_once_more _ _ c.args.first c.loop-number.number c.loop-number.invariant.gone c.forget.ensures.gone c.forget.ensures.fewer;
}

pub returns : goal.returns
returns c = record {
  fit = λ keys links presences within fit. c.drop_empty.ensures.fit (take c.args.first keys) links presences (fit_fewer keys links presences c.args.first c.args.end _ within (λ n from below b s h. c.loop-number.invariant.gone n from (omega (arith, below, c.loop-number-test.false)) b s h) (c.loop-number.invariant.fit keys links presences fit));
}
