-- The lines and requests that values in memory represent, for the clauses of requests and answers.
use Rattle.std.specs.Prelude.{◌≡◌, ℕ, nat_lt, true, List, Option, option_map}
use Rattle.std.specs.Borrow.{Bor}
use Rattle.std.specs.List.{list_all}
use Rattle.jc_session.specs.declared.request.Request.{Request as AnyRequest}
use Rattle.jc_session.specs.declared.request.Request.TheVariants as R
use Rattle.jc_session.specs.declared.request.Meaning.{Meaning as AnyMeaning}
use Rattle.jc_session.specs.declared.request.Meaning.TheVariants as M
use Rattle.jc_session.specs.Lines.{Line}
use Rattle.jc_session.specs.Requests as Q
use Rattle.jc_session.specs.Requests.{Request, Meaning, nothing, asks, bad}

abbrev pub line_of_bytes : Option (Bor (List ℕ)) → Line
line_of_bytes line = option_map (λ s. s.now) line

-- each byte is below 128
abbrev pub AreAscii : List ℕ → Type 0
AreAscii bytes = list_all (λ b. nat_lt b 128) bytes ≡ true

abbrev pub request_view : AnyRequest → Request
request_view (R.Step n) = Q.step n
request_view (R.Back n) = Q.back n
request_view (R.Goto n) = Q.goto n
request_view (R.Act rest) = Q.act rest.now
request_view R.Run = Q.run
request_view (R.BreakAt n) = Q.break_at n
request_view (R.BreakRule name) = Q.break_rule name.now
request_view (R.BreakReplica name) = Q.break_replica name.now
request_view (R.Unbreak k) = Q.unbreak k
request_view R.State = Q.state
request_view (R.StateOf name) = Q.state_of name.now
request_view R.Trace = Q.trace
request_view R.Enabled = Q.enabled
request_view R.Schedule = Q.schedule
request_view R.Position = Q.position
request_view (R.Compare name other) = Q.compare name.now other.now
request_view R.Quit = Q.quit

abbrev pub meaning_view : AnyMeaning → Meaning
meaning_view M.Nothing = nothing
meaning_view (M.Asks request) = asks (request_view request)
meaning_view M.Bad = bad
