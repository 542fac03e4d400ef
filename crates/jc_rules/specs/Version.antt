-- Which events a version has: the definition behind `Version::allows`.
use Rattle.jc_rules.specs.declared.version.Version.{Version}
use Rattle.jc_rules.specs.declared.version.Version.TheVariants.{One, Two}
use Rattle.jc_rules.specs.declared.operation.Event.{Event}
use Rattle.jc_rules.specs.declared.operation.Event.TheVariants.{Take}

-- takes are of version 2 alone
abbrev pub Allows : Event → Version → Type 0
Allows (Take p q i) One = ⊥
Allows (Take p q i) Two = Unit {0}
Allows event version = Unit {0}
