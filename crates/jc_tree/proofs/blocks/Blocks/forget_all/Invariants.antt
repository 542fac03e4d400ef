use Rattle.std.proofs.Common.{◌≢◌, ◌≤◌, ◌<◌, ℕ, List, Some}
use Rattle.jc_rules.specs.declared.id.Id.{Id}
use Rattle.jc_rules.specs.declared.key.Key.{Key}
use Rattle.jc_rules.specs.declared.key.Next.{Next}
use Rattle.jc_tree.specs.Blocks.{member, AreFit}
use Rattle.jc_tree.proofs.blocks.Blocks.forget_all.Given as goal

abbrev pub invariant-loop-number : goal.invariant-loop-number
invariant-loop-number l = record {
  fit : (keys : List Key) (links : List (Key × Next)) (presences : List (Key × List Id)) → AreFit keys links presences l.initial.self → AreFit keys links presences l.self;
  gone : (n : ℕ) → l.fn.first ≤ n → n < l.number → (b s : ℕ) → member l.self b s ≢ Some n;
}
