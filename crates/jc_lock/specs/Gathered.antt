-- What the seats of several passes know together, once `close` has joined them.
use Rattle.std.specs.Prelude.{ℕ, ◌<◌, List, [], ◌∷◌, ◌++◌, count_by}
use Rattle.jc_lock.specs.declared.kept.Kept.{Ghosts}
use Rattle.jc_lock.specs.declared.lock.Pass.{Pass}
use Rattle.jc_lock.specs.declared.view.Known.{Known}
use Rattle.jc_lock.specs.Knowledge.{is_for}

abbrev pub known_of : {K E O : Type 0} {g : Ghosts K E O} → List (Pass K E O g) → List (Known E)
known_of [] = []
known_of (p ∷ ps) = p.seat.me.0.knows ++ known_of ps

-- something is known for each number below n
abbrev pub KnowsAll : {E : Type 0} → ℕ → List (Known E) → Type 0
KnowsAll n known = (p : ℕ) → p < n → 0 < count_by (is_for p) known
