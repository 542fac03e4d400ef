use Rattle.jc_rules.proofs.IdsLemmas.{has_id-with, has_id-union, has_id-without, with-rises, union-rises, without-rises, same_members}
use Rattle.jc_rules.proofs.laws.sets.Goals as goal

pub returns : goal.returns
returns c = record {
  with_one = has_id-with;
  in_either = has_id-union;
  in_first = has_id-without;
  with_rises = with-rises;
  union_rises = union-rises;
  without_rises = without-rises;
  extensional = same_members;
}
