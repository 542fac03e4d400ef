use Rattle.std.specs.Prelude.{refl}
use Rattle.std.proofs.Common.{arith}
use Rattle.jc_rules.proofs.ExamplesLemmas.{worked, exec, let_in, doc, idx1, idx2, idx3, idx4, idx5}
use Rattle.jc_rules.proofs.examples.index_past_tombstone.Goals as goal

pub returns : goal.returns
returns c =
    worked
    (exec refl (λ e. cc)
    (let_in (idx1 doc (omega arith) (idx2 refl refl (idx4 refl refl tt (idx3 refl refl (λ h. h) (idx5 refl))) refl))))
    refl refl
