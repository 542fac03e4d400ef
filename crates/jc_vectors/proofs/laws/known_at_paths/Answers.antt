use Rattle.jc_rules.specs.Ids.{has_id}
use Rattle.jc_vectors.proofs.KnownIdsAtLemmas.{each_node, each-with_node}
use Rattle.jc_vectors.proofs.laws.known_at_paths.Goals as goal
use Rattle.std.proofs.Common.{◌≡◌, true}

pub returns : goal.returns
returns c = λ ids path document at h. (
  (λ there. each_node (λ i. has_id i ids ≡ true) path document at there h),
  (λ g. each-with_node (λ i. has_id i ids ≡ true) path at document h g),
)
