-- The laws of what outputs are given, which `laws` states.
use Rattle.std.specs.Prelude.{◌≡◌, ℕ, List, [], ◌++◌, false}
use Rattle.jc_out.specs.Out.{OutState, GaveText, AddsText}

-- Nothing is added where nothing changes, and texts that are added one behind another are added joined.
abbrev pub TextsAreJoined : Type 0
TextsAreJoined =
    ((o : OutState) → AddsText [] o o)
    × ((a b c : OutState) (text more : List ℕ) → AddsText text a b → AddsText more b c → AddsText (text ++ more) a c)

-- An output that isn't broken was given what it holds, since its sink is as it is.
abbrev pub HeldBytesAreGiven : Type 0
HeldBytesAreGiven = (o : OutState) → o.is_broken ≡ false → GaveText o.held o.stream o
