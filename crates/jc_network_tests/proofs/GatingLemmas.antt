-- Of `Asked` in `jc_runner`: the gate `Own` of the tests lists its calls.
use Rattle.std.proofs.Common.{arith, ◌≡◌, ℕ, suc, ◌+◌, ap, ◌∙◌, [], ◌∷◌, ◌++◌, Bool, true, false, refl, sym, Some, None, if◌then◌else◌}
use Rattle.jc_runner.specs.Asked.{Asks, questions_of}

-- one call more, which it expected
pub one_more : (right : Bool) (p n q s : ℕ) → right ≡ true → q ≡ p → s ≡ n → Asks (if right then Some (questions_of p n) else None) (if right then Some (questions_of p (n + 1)) else None) ((q, s) ∷ [])
one_more true p n q s is same at =
    let one : n + 1 ≡ suc n = omega arith in
    ap (questions_of p) one ∙ (λ i. questions_of p n ++ (sym same i, sym at i) ∷ [])
one_more false p n q s is same at = cc

-- another call: it lists none any more
pub no_more : (right : Bool) (p n q s : ℕ) → Asks (if right then Some (questions_of p n) else None) None ((q, s) ∷ [])
no_more true p n q s = tt
no_more false p n q s = refl
