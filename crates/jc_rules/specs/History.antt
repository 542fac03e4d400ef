-- Histories: what there is now and what there was. A tree is one; a replica and a network have one.
use Rattle.std.specs.Prelude.{◌≡◌, ◌-◌, List, [], ◌∷◌, ◌++◌, length, take, slice_get, unwrap_or, refl}
use Rattle.std.specs.Coded.{Coded, code_by, coded×, coded_list}

-- what there is now, and what there was before each step, the oldest first
pub record History (X : Type 0) : Type 0 where
  pub now : X
  pub earlier : List X

abbrev pub history_code : {X : Type 0} → Coded X → Coded (History X)
history_code {X} code =
    code_by (X × List X)
    (coded× code (coded_list code))
    (λ h. (h.now, h.earlier))
    (λ t. record { now = t.0; earlier = t.1 })
    (λ _. refl)

-- all of it, from the oldest to what there is now
abbrev pub timeline : {X : Type 0} → History X → List X
timeline h = h.earlier ++ h.now ∷ []

-- the one that begins with this
abbrev pub begun : {X : Type 0} → X → History X
begun x = record { now = x; earlier = [] }

-- what there was before all steps
abbrev pub first_of : {X : Type 0} → History X → X
first_of h = unwrap_or (slice_get (timeline h) 0) h.now

-- the last of a list, or what is given if it is empty
abbrev pub last_or : {X : Type 0} → X → List X → X
last_or x [] = x
last_or x (y ∷ ys) = last_or y ys

-- the history before its last step
abbrev pub one_back : {X : Type 0} → History X → History X
one_back h = record {
  now = last_or h.now h.earlier;
  earlier = take (length h.earlier - 1) h.earlier;
}

-- Only steps have been made: the timeline by then is a prefix of the timeline now.
pub record IsLater {X : Type 0} (old new : History X) : Type 0 where
  pub added : List X
  pub is : timeline new ≡ timeline old ++ added
