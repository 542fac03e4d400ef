use Rattle.std.proofs.Common.{map, take}
use Rattle.std.specs.Prelude.{filter}
use Rattle.jc_expected.specs.Appended.{Appends}
use Rattle.jc_expected.proofs.place.Place.push_those.Given as goal

-- those so far
abbrev pub invariant-loop-spelling : goal.invariant-loop-spelling
invariant-loop-spelling l =
    Appends l.self.text.now l.self.at (λ goes_on. filter goes_on (map (λ s. s.now) (take l.spelling-index l.spellings)))
    l.initial.list l.list
