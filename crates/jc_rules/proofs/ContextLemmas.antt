-- What a context holds under a tagged key of a register.
use Rattle.std.proofs.Common.{◌≡◌, Option, Some, None}
use Rattle.jc_rules.specs.Context.{Context, Node, Register, values_of}

-- a register is no node
pub no_node : {A : Type 0} (x : Option Register) (d : Context) → values_of x ≡ Some (Node d) → A
no_node None d h = cc
no_node (Some v) d h = cc

pub none_some : {A : Type 0} {d : Context} → None ≡ Some d → A
none_some h = cc
