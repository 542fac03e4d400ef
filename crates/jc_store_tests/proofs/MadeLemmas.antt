-- Documents that operations made, one after another.
use Rattle.std.proofs.Common.{◌≡◌, ◌≢◌, ℕ, ◌+◌, ap, arith}
use Rattle.jc_rules.specs.declared.id.Id.{Id}
use Rattle.jc_rules.specs.Context.{Context}
use Rattle.jc_rules.specs.WellFormed.{IsChained}
use Rattle.jc_apply.specs.Fits.{IsUnlinked}
use Rattle.jc_store_tests.specs.Ready.{IsReady}

pub ready_on : (n : ℕ) (id : Id) (a b : Context) → IsReady n a → id.counter ≡ n + 1 → IsChained b → ((i : Id) → i ≢ id → IsUnlinked i a → IsUnlinked i b) → IsReady (n + 1) b
ready_on n id a b r e chained unlinked = record {
  chained = chained;
  fresh = λ i h. unlinked i (λ s. (let same : i.counter ≡ id.counter = ap (λ (j : Id). j.counter) s in absurd (omega arith))) (r.fresh i (omega (arith, h)));
}
