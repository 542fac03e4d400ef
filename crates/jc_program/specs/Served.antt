-- What the command `serve` writes, whole or up to a fault. The promise cites both.
use Rattle.std.specs.Prelude.{◌≡◌, ◌⊎◌, ℕ, List, Option}
use Rattle.jc_io.specs.Written.{Stream, Written}
use Rattle.jc_requests.specs.Input.{finished, cut_short, too_many}
use Rattle.jc_serve.specs.Serving.{Serves}
use Rattle.jc_serve.specs.Stopped.{StoppedAtRead, StoppedWhole, StoppedInside, LeftPast}
use Rattle.jc_program.specs.SessionRuns.{IsUnstarted}
use Rattle.jc_program.specs.declared.fault.WorkFault.{WorkFault}
use Rattle.jc_program.specs.declared.fault.WorkFault.TheVariants.{Read, Write, TooManyLines, CutShort, NoThread, Memory}

-- The answers of the requests of an input were written: of the one that was read, where its bytes are known, and else of
-- some. The command ended with 0.
abbrev pub ServesTo : Option (List ℕ) → Stream → Stream → ℕ → Type 0
ServesTo input old new status = (status ≡ 0) × Written (λ text. Serves input text finished) old new

-- What has been written and read that a fault stopped. After a failed read: the answers of all requests that were read
-- whole. After a failed write: those of first requests, whole, and the next one up to the failure. Past a limit all
-- answers, where no more was read than shows it; all, where the input ended within a text. Without memory: those of first
-- requests; or nothing was read or written.
abbrev pub StopsServing : WorkFault → Option (List ℕ) → Option (List ℕ) → Stream → Stream → Type 0
StopsServing Read input left old new = StoppedAtRead input left old new
StopsServing Write input left old new = StoppedInside input left old new
StopsServing TooManyLines input left old new =
    Written (λ text. Serves input text too_many) old new × LeftPast input left
StopsServing CutShort input left old new = Written (λ text. Serves input text cut_short) old new
StopsServing (NoThread refused) input left old new = ⊥
StopsServing Memory input left old new = IsUnstarted input left old new ⊎ StoppedWhole input left old new
