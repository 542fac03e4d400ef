use Rattle.std.proofs.Common.{◌≡◌, ◌<◌, ◌≤◌, ◌+◌, ℕ, vec_len, vec_items, vec_capacity, get_or}
use Rattle.std.specs.Vec.Iter.{into_iter_items, into_iter_len}
use Rattle.jc_lock.specs.Shows.{pass_number}
use Rattle.jc_runner.specs.Benches.{IsNewAt}
use Rattle.jc_runner.proofs.run.start_all.Given as goal

abbrev pub invariant-loop-pass : goal.invariant-loop-pass
invariant-loop-pass g l = record {
  done : vec_len l.handles + into_iter_len l.pass-iterator ≡ vec_len l.fn.passes;
  gates : into_iter_len l.gates ≡ into_iter_len l.pass-iterator;
  room : vec_len l.fn.passes ≤ vec_capacity l.handles;
  promised : (k : ℕ) (d : _) → k < vec_len l.handles → ((get_or (vec_items l.handles) k d).promise.number ≡ k) × ((get_or (vec_items l.handles) k d).promise.limit ≡ l.limit) × ((get_or (vec_items l.handles) k d).promise.bench.value ≡ l.bench);
  rest : (k : ℕ) (d : _) → k < into_iter_len l.pass-iterator → (pass_number (get_or (into_iter_items l.pass-iterator) k d) ≡ vec_len l.handles + k) × IsNewAt l.bench l.limit (get_or (into_iter_items l.pass-iterator) k d);
}
