-- That the lists below a context are chained, whatever the context itself is: clearing needs no more, and goes by it into maps
-- and lists alike.
use Rattle.jc_rules.specs.Context.{Context, context}
use Rattle.jc_rules.specs.WellFormed.{AreChained, AreLists}

abbrev pub AreChainedBelow : Context → Type 0
AreChainedBelow (context m l r p n) = AreChained m × AreLists l
