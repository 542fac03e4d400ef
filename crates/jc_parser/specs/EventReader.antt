-- How an event is read from left to right. The code follows these readers; a reader believes the grammar.
use Rattle.std.specs.Prelude.{ℕ, codes, if◌then◌else◌, Result, Ok}
use Rattle.jc_rules.specs.declared.version.Version.{Version}
use Rattle.jc_rules.specs.declared.version.Version.TheVariants.{One, Two}
use Rattle.jc_syntax.specs.declared.token.TokenKind.TheVariants.{Dot, ParenL, ParenR, Comma}
use Rattle.jc_syntax.specs.declared.tree.Named.{Named}
use Rattle.jc_syntax.specs.declared.tree.NamedEvent.{NamedEvent}
use Rattle.jc_syntax.specs.declared.tree.NamedEvent.TheVariants.{Exec, Send, Recv, Take, Apply, Done}
use Rattle.jc_parser.specs.declared.fault.ScenarioFault.{ScenarioFault}
use Rattle.jc_parser.specs.ReaderState.{Reading, ReadOutcome, ◌>>=◌, begins, has_kind, is_word, skip, named_at}
use Rattle.jc_parser.specs.PartReaders.{result_of_read}
use Rattle.jc_parser.specs.ExpressionReader.{index_at}

-- a name and the closing parenthesis
unfoldable pub last_name_at : Reading → ReadOutcome Named
last_name_at r = do
  q ← named_at r
  a ← skip (has_kind ParenR) q.1
  Ok (q.0, a.1)

-- the sender of `recv`, from its word on
unfoldable pub sender_at : Reading → ReadOutcome Named
sender_at r = do
  a ← skip (is_word (codes "recv")) r
  b ← skip (has_kind ParenL) a.1
  last_name_at b.1

-- an identifier and the closing parenthesis
unfoldable pub last_identifier_at : Reading → ReadOutcome (ℕ × Named)
last_identifier_at r = do
  i ← index_at r
  a ← skip (has_kind Comma) i.1
  q ← last_name_at a.1
  Ok ((i.0, q.0), q.1)

-- the event `take` of a replica, from its word on
unfoldable pub taking_at : Named → Reading → ReadOutcome NamedEvent
taking_at p r = do
  a ← skip (is_word (codes "take")) r
  b ← skip (has_kind ParenL) a.1
  q ← named_at b.1
  c ← skip (has_kind Comma) q.1
  i ← last_identifier_at c.1
  Ok (Take p q.0 i.0.0 i.0.1, i.1)

-- the event `apply` of a replica, from its word on
unfoldable pub application_at : Named → Reading → ReadOutcome NamedEvent
application_at p r = do
  a ← skip (is_word (codes "apply")) r
  b ← skip (has_kind ParenL) a.1
  i ← last_identifier_at b.1
  Ok (Apply p i.0.0 i.0.1, i.1)

-- the event of a replica, after its dot, where each version has it
unfoldable pub common_action_at : Named → Reading → ReadOutcome NamedEvent
common_action_at p r =
    if begins (is_word (codes "exec")) r then (skip (is_word (codes "exec")) r >>= λ a. Ok (Exec p, a.1))
    else (if begins (is_word (codes "send")) r then (skip (is_word (codes "send")) r >>= λ a. Ok (Send p, a.1))
    else (if begins (is_word (codes "recv")) r then (sender_at r >>= λ q. Ok (Recv p q.0, q.1))
    else (if begins (is_word (codes "apply")) r then application_at p r
    else (skip (is_word (codes "done")) r >>= λ a. Ok (Done p, a.1)))))

-- the event of a replica, after its dot
unfoldable pub action_at : Version → Named → Reading → ReadOutcome NamedEvent
action_at One p r = common_action_at p r
action_at Two p r = if begins (is_word (codes "take")) r then taking_at p r else common_action_at p r

-- an event of any kind
unfoldable pub any_event_at : Version → Reading → ReadOutcome NamedEvent
any_event_at v r = do
  p ← named_at r
  a ← skip (has_kind Dot) p.1
  action_at v p.0 a.1

-- an event and nothing more
unfoldable pub only_event_at : Version → Reading → Result NamedEvent ScenarioFault
only_event_at v r = do
  e ← any_event_at v r
  result_of_read e
