use Rattle.std.proofs.Common.{arith}
use Rattle.jc_listings.proofs.PlacesLemmas.{item_ends, past_braces, past_other}
use Rattle.jc_listings.proofs.placing.item_len.Goals as goal

pub returns-in-Semi : goal.returns-in-Semi
returns-in-Semi c = item_ends c.args.tokens.now c.tokens.len _ c.tokens.invariant (omega arith) c.in-Semi.is

pub tokens-preserved-in-BraceL : goal.tokens-preserved-in-BraceL
tokens-preserved-in-BraceL c = past_braces c.args.tokens.now c.tokens.len _ c.tokens.invariant (omega arith) c.in-BraceL.is

pub tokens-preserved : goal.tokens-preserved
tokens-preserved c =
    past_other c.args.tokens.now c.tokens.len _ c.tokens.invariant (omega arith) c.in_default.not-Semi c.in_default.not-BraceL c.in_default.not-BraceR
