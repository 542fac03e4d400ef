-- The questions to a gate: the contracts of `Gate::before` and of a thread's work.
use Rattle.std.specs.Prelude.{◌≡◌, ℕ, zero, suc, List, [], ◌∷◌, ◌++◌, Option, Some, None, IsNone, IfSome}

-- a replica's number, and the number of events that it has made
abbrev pub GateQuestion : Type 0
GateQuestion = ℕ × ℕ

-- The questions come after those before, if the gate shows them. A gate that shows none never does again.
abbrev pub Asks : Option (List GateQuestion) → Option (List GateQuestion) → List GateQuestion → Type 0
Asks None new questions = IsNone new
Asks (Some before) new questions = IfSome new (λ all. all ≡ before ++ questions)

-- the first n questions of replica p: one before each take, with the number of events that it has made by then
abbrev pub questions_of : ℕ → ℕ → List GateQuestion
questions_of p zero = []
questions_of p (suc n) = questions_of p n ++ (p, n) ∷ []
