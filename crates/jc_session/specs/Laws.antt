-- The laws of a session's text, which `laws` proves: there is one, and one at most.
use Rattle.std.specs.Prelude.{◌≡◌, ℕ, List}
use Rattle.jc_session.specs.SessionText.{End, ShowsSession}

-- The bytes of a scenario and of lines have one text at most, and a session on them ends in one way.
abbrev pub OneSession : Type 0
OneSession =
    (scenario lines text other : List ℕ) (end other_end : End)
    → ShowsSession scenario lines text end
    → ShowsSession scenario lines other other_end
    → (text ≡ other)
    × (end ≡ other_end)

-- They have one: whatever they are, there is a text that the session shows, and a way in which it ends.
abbrev pub SessionHasAText : Type 0
SessionHasAText = (scenario lines : List ℕ) → (text : List ℕ) × (end : End) × ShowsSession scenario lines text end
