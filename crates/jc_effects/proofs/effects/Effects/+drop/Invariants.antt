use Rattle.std.proofs.Common.{◌≤◌}
use Rattle.jc_effects.specs.declared.effects.Effects.{size-Effects}
use Rattle.jc_effects.proofs.effects.Effects.+drop.Given as goal

abbrev pub invariant-loop-self : goal.invariant-loop-self
invariant-loop-self l = size-Effects l.self ≤ size-Effects l.initial.self
