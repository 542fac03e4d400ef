-- The requests that values in memory represent, for the clause of `asked`.
use Rattle.std.specs.Prelude.{ℕ, List, Option, option_map}
use Rattle.std.specs.Borrow.{Bor}
use Rattle.jc_requests.specs.declared.kinds.Position.{Position as AnyPosition}
use Rattle.jc_requests.specs.declared.kinds.Position.TheVariants as P
use Rattle.jc_requests.specs.declared.kinds.Asked.{Asked as AnyAsked}
use Rattle.jc_requests.specs.declared.kinds.Asked.TheVariants as A
use Rattle.jc_session.specs.Requests.{Word}
use Rattle.jc_session.specs.Views.{request_view}
use Rattle.jc_requests.specs.Asked as K
use Rattle.jc_requests.specs.Asked.{Position, Asked}

abbrev pub position_view : AnyPosition → Position
position_view (P.After n) = K.after n
position_view (P.Before n) = K.before n

abbrev pub at_view : Option AnyPosition → Option Position
at_view at = option_map position_view at

abbrev pub word_view : Option (Bor (List ℕ)) → Option Word
word_view word = option_map (λ w. w.now) word

abbrev pub between_view : Option (AnyPosition × AnyPosition) → Option (Position × Position)
between_view between = option_map (λ p. (position_view p.0, position_view p.1)) between

abbrev pub asked_view : AnyAsked → Asked
asked_view (A.Scenario n) = K.scenario n
asked_view A.Places = K.places
asked_view A.Print = K.print
asked_view (A.OfSession request) = K.of_session (request_view request)
asked_view A.GotoEnd = K.goto_end
asked_view A.BackRun = K.back_run
asked_view (A.BreakOp n name) = K.break_op n name.now
asked_view (A.BreakPlace name expression) = K.break_place name.now expression.now
asked_view A.Breaks = K.breaks
asked_view (A.View at name) = K.view (at_view at) (word_view name)
asked_view (A.ViewPlace at name expression) = K.view_place (at_view at) name.now expression.now
asked_view (A.StateAt at name) = K.state_at (position_view at) (word_view name)
asked_view (A.Brief at name) = K.brief (at_view at) name.now
asked_view (A.Eval at name expression) = K.eval (at_view at) name.now expression.now
asked_view (A.Event at trace effects) = K.event (at_view at) trace effects
asked_view (A.Journal trace effects between) = K.journal trace effects (between_view between)
asked_view (A.Weave seed limit) = K.weave seed limit
