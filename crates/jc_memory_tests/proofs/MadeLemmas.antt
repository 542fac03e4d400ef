-- About Ready: a document stays ready after an operation. The loops of `stores` use it.
use Rattle.std.proofs.Common.{◌≡◌, ◌≢◌, ℕ, ◌+◌, [], None, ap, arith}
use Rattle.jc_rules.specs.declared.id.Id.{Id}
use Rattle.jc_rules.specs.Context.{Context}
use Rattle.jc_rules.specs.WellFormed.{IsChained}
use Rattle.jc_rules.specs.ContextsAt.{node_at}
use Rattle.jc_apply.specs.Fits.{IsUnlinked}
use Rattle.jc_memory_tests.specs.Ready.{IsReady}

pub ready_on : (n : ℕ) (id : Id) (a b : Context) → IsReady n a → id.counter ≡ n + 1 → IsChained b → ((i : Id) → i ≢ id → IsUnlinked i a → IsUnlinked i b) → IsReady (n + 1) b
ready_on n id a b r e chained unlinked = record {
  chained = chained;
  fresh = λ i h. unlinked i (λ s. (let same : i.counter ≡ id.counter = ap (λ (j : Id). j.counter) s in absurd (omega arith))) (r.fresh i (omega (arith, h)));
}

pub at_top : (c : Context) → node_at [] c ≢ None
at_top c e = let no : ⊥ = cc in no
