use Rattle.std.proofs.Common.{◌∙◌, ap}
use Rattle.jc_rules.specs.Order.{key_cmp}
use Rattle.jc_rules.specs.Entries.{find}
use Rattle.jc_tree.specs.Numbered.{Numbering}
use Rattle.jc_tree.proofs.NumberedLemmas.{number_of_key}
use Rattle.jc_tree.proofs.keys.KeyTable.number.Goals as goal

pub returns-clause-found : goal.returns-clause-found
returns-clause-found c = number_of_key c.args.key.now _ c.get_index_of.result c.self.invariant c.get_index_of.ensures.index c.get_index_of.ensures.found ∙ ap (λ (t : Numbering). find key_cmp c.args.key.now t.order) c.self.view_is
