use Rattle.jc_effects.proofs.below.contexts_below.Goals as goal

pub returns : goal.returns
returns g c at contexts = record { old = c.name_below.ensures at contexts.old; new = c.name_below-2.ensures at contexts.new }
