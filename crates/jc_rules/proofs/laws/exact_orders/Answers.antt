use Rattle.jc_rules.proofs.OrderLemmas.{ids_total, exact_ids, names_total, exact_names, keys_total, exact_keys}
use Rattle.jc_rules.proofs.laws.exact_orders.Goals as goal

pub returns : goal.returns
returns c = record {
  ids = record { total = ids_total; exact = exact_ids };
  names = record { total = names_total; exact = exact_names };
  keys = record { total = keys_total; exact = exact_keys };
}
