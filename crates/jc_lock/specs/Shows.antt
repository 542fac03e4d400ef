-- What contracts see of a lock, its passes and its turns: all public calls cite it.
use Rattle.std.specs.Prelude.{◌≡◌, ◌⊎◌, ℕ, ◌<◌, ◌≤◌, List, [], ◌∷◌, ◌++◌, Option, Some}
use Rattle.jc_lock.specs.declared.lock.OpenFault.{OpenFault}
use Rattle.jc_lock.specs.declared.lock.OpenFault.TheVariants.{NoPasses, TooManyTakes, Memory}
use Rattle.jc_lock.specs.declared.lock.HistoryLock.{HistoryLock}
use Rattle.jc_lock.specs.declared.kept.Kept.{Ghosts}
use Rattle.jc_lock.specs.declared.open.TheConstants.{MOST_TAKES}
use Rattle.jc_lock.specs.declared.lock.Pass.{Pass}
use Rattle.jc_lock.specs.declared.lock.Turn.{Turn}
use Rattle.jc_lock.specs.Knowledge.{seen_in, mine_in}

module _ {K E O : Type 0} where
  -- the number of passes that the lock was opened with
  abbrev pub lock_passes : HistoryLock K E O → ℕ
  lock_passes lock = lock.table.shared.key.passes

  -- the value that the lock was opened with
  abbrev pub opened_value : HistoryLock K E O → K
  opened_value lock = lock.table.shared.key.opened.value

  -- the two locks have the same passes and turns, and were opened with the same value and number of passes
  abbrev pub IsSameLock : HistoryLock K E O → HistoryLock K E O → Type 0
  IsSameLock lock lock' = lock'.table.shared ≡ lock.table.shared

module _ {K E O : Type 0} {g : Ghosts K E O} where
  abbrev pub IsPassOf : HistoryLock K E O → Pass K E O g → Type 0
  IsPassOf lock pass = pass.seat.table_id ≡ lock.table.shared.table_id

  abbrev pub pass_number : Pass K E O g → ℕ
  pass_number p = p.number

  -- the takes that are left
  abbrev pub pass_left : Pass K E O g → ℕ
  pass_left p = p.left

  -- the origin of the value that the pass's lock was opened with; each pass has one
  abbrev pub pass_origin : Pass K E O g → Option O
  pass_origin p = p.seat.me.0.origin

  -- the history as far as the pass has seen it
  abbrev pub pass_seen : Pass K E O g → List E
  pass_seen p = seen_in p.seat.me.0.knows

  -- the entries that were made under the pass
  abbrev pub pass_mine : Pass K E O g → List E
  pass_mine p = mine_in p.seat.me.0.knows

  abbrev pub IsTurnOf : HistoryLock K E O → Turn K E O g → Type 0
  IsTurnOf lock turn = turn.held.seat.table_id ≡ lock.table.shared.table_id

  -- the number of its pass
  abbrev pub turn_number : Turn K E O g → ℕ
  turn_number t = t.held.number

  abbrev pub turn_left : Turn K E O g → ℕ
  turn_left t = t.held.left

  abbrev pub turn_origin : Turn K E O g → Option O
  turn_origin t = t.held.seat.me.0.origin

  -- the list as it was when the turn began
  abbrev pub turn_seen : Turn K E O g → List E
  turn_seen t = seen_in t.held.seat.me.0.knows

  abbrev pub turn_mine : Turn K E O g → List E
  turn_mine t = mine_in t.held.seat.me.0.knows

  -- the value as it is now
  abbrev pub turn_value : Turn K E O g → K
  turn_value t = t.value

  -- a pass of the lock that has all its takes and has seen nothing
  pub record IsNewPass (lock : HistoryLock K E O) (takes : ℕ) (o : O) (pass : Pass K E O g) : Type 0 where
    pub of_lock : IsPassOf lock pass
    pub left : pass_left pass ≡ takes
    pub origin : pass_origin pass ≡ Some o
    pub seen : pass_seen pass ≡ []
    pub mine : pass_mine pass ≡ []

-- when `open` refuses; a request for memory may be refused wherever the other two don't apply
abbrev pub IsRefusedFor : OpenFault → ℕ → ℕ → Type 0
IsRefusedFor NoPasses passes takes = passes ≡ 0
IsRefusedFor TooManyTakes passes takes = (0 < passes) × (MOST_TAKES < takes)
IsRefusedFor Memory passes takes = (0 < passes) × (takes ≤ MOST_TAKES)

-- the list is as it was, or has one more entry, made under pass p
abbrev pub AddsOneAtMost : {E : Type 0} → (E → ℕ) → List E → List E → ℕ → Type 0
AddsOneAtMost {E} maker list list' p = (list' ≡ list) ⊎ ((e : E) × (list' ≡ list ++ e ∷ []) × (maker e ≡ p))
