use Rattle.std.proofs.Common.{rules}
use Rattle.jc_rules.specs.WellFormed.{IsWellFormedContext}
use Rattle.jc_tree.proofs.NamedLemmas.{empty_named}
use Rattle.jc_tree.proofs.plain.PlainTree.new.Goals as goal

pub invariant_of-result : goal.invariant_of-result
invariant_of-result c =
    let kept : IsWellFormedContext c.new.result = search rules in
    record {
      root_kept = kept;
      earlier_kept = rw c.new-2.ensures.items tt;
      root_named = rw c.new.ensures (empty_named c.new-3.result.items);
      earlier_named = rw c.new-2.ensures.items tt;
    }
