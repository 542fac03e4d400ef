-- About specs/Asked: questions that follow one another.
use Rattle.std.proofs.Common.{arith, ◌≡◌, ℕ, ◌+◌, suc, List, [], ◌∷◌, ◌++◌, refl, sym, ◌∙◌, ap, subst, Option, Some, None, append_assoc, append-nil}
use Rattle.jc_runner.specs.Asked.{GateQuestion, Asks, questions_of}

pub asks_none : (o : Option (List GateQuestion)) → Asks o o []
asks_none None = refl
asks_none (Some qs) = sym (append-nil qs)

pub asks_more : (a b c : Option (List GateQuestion)) (qs rs : List GateQuestion) → Asks a b qs → Asks b c rs → Asks a c (qs ++ rs)
asks_more None None c qs rs first then = then
asks_more None (Some ys) c qs rs first then = cc
asks_more (Some xs) None None qs rs first then = tt
asks_more (Some xs) None (Some zs) qs rs first then = cc
asks_more (Some xs) (Some ys) None qs rs first then = tt
asks_more (Some xs) (Some ys) (Some zs) qs rs first then = then ∙ (ap (λ l. l ++ rs) first ∙ append_assoc xs qs rs)

-- the next question of replica p
pub asks_next : (p n : ℕ) (a b c : Option (List GateQuestion)) → Asks a b (questions_of p n) → Asks b c ((p, n) ∷ []) → Asks a c (questions_of p (n + 1))
asks_next p n a b c first then =
    let one : suc n ≡ n + 1 = omega arith in
    let more : Asks a c (questions_of p (suc n)) = asks_more a b c (questions_of p n) ((p, n) ∷ []) first then in
    subst (λ k. Asks a c (questions_of p k)) one more
