-- What contracts see of a bench and of its passes: all calls of `Bench` cite it.
use Rattle.std.specs.Prelude.{◌≡◌, ℕ, ◌≤◌, ◌<◌}
use Rattle.jc_lock.specs.declared.lock.Pass.{Pass}
use Rattle.jc_lock.specs.Shows.{IsPassOf, IsNewPass, IsSameLock, lock_passes, opened_value, pass_number}
use Rattle.jc_network.specs.Given.{before_given, IsGivenFault}
use Rattle.jc_rules.specs.declared.limits.TheConstants.{MAX_THREAD_EVENTS}
use Rattle.jc_rules.specs.declared.operation.Event.{Event}
use Rattle.jc_scenario.specs.WellFormed.{Scenario}
use Rattle.jc_runner.specs.declared.bench.Bench.{Bench}
use Rattle.jc_runner.specs.declared.bench.BenchFault.{BenchFault}
use Rattle.jc_runner.specs.declared.bench.BenchFault.TheVariants as B
use Rattle.jc_runner.specs.declared.recorded.Beginning.{Beginning}
use Rattle.jc_runner.specs.declared.recorded.Recorded.{Recorded}
use Rattle.jc_runner.specs.contracts.recorded.RecordedKept.TheImpl.{ghosts}

abbrev pub ReplicaPass : Type 0
ReplicaPass = Pass Recorded Event Beginning ghosts

-- the scenario that the bench was opened with
abbrev pub bench_start : Bench → Scenario
bench_start bench = (opened_value bench.lock).start

-- the number of its passes
abbrev pub bench_passes : Bench → ℕ
bench_passes bench = lock_passes bench.lock

abbrev pub IsPassAt : Bench → ReplicaPass → Type 0
IsPassAt bench pass = IsPassOf bench.lock pass

-- a pass of the bench for replica p
abbrev pub IsPassFor : Bench → ℕ → ReplicaPass → Type 0
IsPassFor bench p pass = IsPassAt bench pass × (pass_number pass ≡ p)

-- a pass of the bench that has all its takes and has seen nothing
abbrev pub IsNewAt : Bench → ℕ → ReplicaPass → Type 0
IsNewAt bench takes pass = IsNewPass bench.lock takes (bench_start bench) pass

-- the two benches have the same passes, and were opened with the same scenario
abbrev pub IsSameBench : Bench → Bench → Type 0
IsSameBench bench other = IsSameLock bench.lock other.lock

-- when `open` refuses, in order
abbrev pub IsOpenFault : BenchFault → Scenario → ℕ → Type 0
IsOpenFault B.LimitTooLarge s limit = MAX_THREAD_EVENTS < limit
IsOpenFault (B.Given at stuck) s limit =
    (limit ≤ MAX_THREAD_EVENTS) × IsGivenFault (before_given s) s.given at stuck
IsOpenFault B.Memory s limit = limit ≤ MAX_THREAD_EVENTS
