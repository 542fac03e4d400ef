-- What selectors and chains in memory represent, for the contracts of `expressions`.
use Rattle.jc_syntax.specs.Trees.{expr_of}
use Rattle.jc_parser.specs.declared.expressions.Selector as language
use Rattle.jc_parser.specs.declared.expressions.Selector.TheVariants as selectors
use Rattle.jc_parser.specs.declared.expressions.Chain as chains
use Rattle.jc_parser.specs.ExpressionReader.{Selector, by_key, by_index, by_keys, by_values, Chain}

abbrev pub selector_view : language.Selector → Selector
selector_view (selectors.Get key) = by_key key
selector_view (selectors.Idx i) = by_index i
selector_view selectors.Keys = by_keys
selector_view selectors.Values = by_values

abbrev pub chain_view : chains.Chain → Chain
chain_view c = record { expression = expr_of c.expression; dotted = c.dotted }
