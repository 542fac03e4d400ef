-- About specs/DumpParts: the parts of the state that a replica of a network keeps.
use Rattle.std.proofs.Common.{◌≡◌, ℕ, List, Some, slice_get, map, length, sym, ◌∙◌, ap}
use Rattle.std.proofs.lemmas.List.{length-map}
use Rattle.std.proofs.lemmas.Option.{same_Some}
use Rattle.jc_rules.specs.declared.operation.Op.{Op}
use Rattle.jc_rules.specs.Context.{Context}
use Rattle.jc_rules.specs.State.{State}
use Rattle.jc_vectors.specs.StoredStates.{stored_state}
use Rattle.jc_syntax.specs.declared.tree.Cmd.{Cmd}
use Rattle.jc_syntax.specs.Trees.{cmd_of}
use Rattle.jc_cursor.specs.Bounds.{vars_of}
use Rattle.jc_replica.specs.ReplicaHistory.{ReplicaHistory}
use Rattle.jc_network.proofs.AppliedIdsLemmas.{kept_ids}
use Rattle.jc_network.specs.Steps.{HasReplica}
use Rattle.jc_dump.specs.declared.dump.Shown.{Shown}
use Rattle.jc_dump.specs.Dump.{ids_of_dumped}
use Rattle.jc_dump.specs.DumpParts.{HasParts}

-- the parts of K, which is the stored state of A, are those of A
pub parts_kept : (A K : State) (shown : Shown) (tree : Context) (left : List Cmd) (queue recv send : List Op) → K ≡ stored_state A
    → shown.acted ≡ K.acted → shown.left ≡ length left → map cmd_of left ≡ K.left → shown.ops.items ≡ A.ops
    → shown.queue.items ≡ ids_of_dumped queue → queue ≡ K.queue
    → shown.recv.items ≡ ids_of_dumped recv → recv ≡ K.recv
    → shown.send.items ≡ ids_of_dumped send → send ≡ K.send
    → tree ≡ K.tree → vars_of shown.vars.now.entries ≡ K.vars → HasParts A shown tree
parts_kept A K shown tree left queue recv send k acted n l o q q2 r r2 s s2 t v = record {
  acted = sym (acted ∙ ap (λ (S : State). S.acted) k);
  left = sym (n ∙ (sym (length-map left cmd_of) ∙ ap length (l ∙ ap (λ (S : State). S.left) k)));
  ops = sym o;
  queue = sym (q ∙ ap ids_of_dumped (q2 ∙ ap (λ (S : State). S.queue) k) ∙ kept_ids A.queue);
  recv = sym (r ∙ ap ids_of_dumped (r2 ∙ ap (λ (S : State). S.recv) k) ∙ kept_ids A.recv);
  send = sym (s ∙ ap ids_of_dumped (s2 ∙ ap (λ (S : State). S.send) k) ∙ kept_ids A.send);
  tree_is = sym (t ∙ ap (λ (S : State). S.tree) k);
  vars = sym (v ∙ ap (λ (S : State). S.vars) k);
}

-- the state that a network keeps for its replica
pub of_replica : (network : List State) (p : ℕ) (replica : ReplicaHistory) (A : State) → HasReplica network p replica → slice_get network p ≡ Some A → replica.history.now ≡ stored_state A
of_replica network p replica A has there = has.kept ∙ ap stored_state (same_Some has.at A (sym has.there ∙ there))
