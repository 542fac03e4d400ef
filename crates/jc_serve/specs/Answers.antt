-- What each request leads to, and its answer: the text of `serve` is made of these.
use Rattle.std.specs.Prelude.{◌≡◌, ◌≢◌, Bool, ℕ, suc, ◌+◌, List, [], ◌∷◌, ◌++◌, length, slice_get, Option, Some, None, Ok, Err, codes}
use Rattle.jc_rules.specs.declared.operation.Cursor.{Cursor}
use Rattle.jc_rules.specs.declared.operation.Event.{Event}
use Rattle.jc_rules.specs.declared.refusal.Refusal.{Refusal}
use Rattle.jc_rules.specs.declared.refusal.Refusal.TheVariants as F
use Rattle.jc_rules.specs.declared.rule.Rule.{Rule}
use Rattle.jc_rules.specs.declared.version.Version.{Version}
use Rattle.jc_rules.specs.declared.version.Version.TheVariants.{Two}
use Rattle.jc_rules.specs.Refused.{Cause}
use Rattle.jc_rules.specs.RuleNames.{rule_name}
use Rattle.jc_rules.specs.ReplicaNames.{name_at}
use Rattle.jc_rules.specs.State.{State, Bound, ACursor}
use Rattle.jc_rules.specs.Step.{Network}
use Rattle.jc_rules.specs.Syntax.{Expr}
use Rattle.jc_syntax.specs.declared.tree.Expr.{Expr as AnyExpr}
use Rattle.jc_parser.specs.declared.fault.ScenarioFault.{ScenarioFault}
use Rattle.jc_parser.specs.Expressions.{IsExpressionOf}
use Rattle.jc_printer.specs.Canon.{quoted}
use Rattle.jc_scenario.specs.Canon.{canon}
use Rattle.jc_scenario.specs.WellFormed.{Scenario}
use Rattle.jc_json.specs.Json.{id_text}
use Rattle.jc_cursor.specs.Evaluates.{IsEvalRefused}
use Rattle.jc_dump.specs.Dump.{cursor_text}
use Rattle.jc_debug.specs.declared.breaks.Break.TheVariants as Kind
use Rattle.jc_debug.specs.declared.breaks.Break.{Break}
use Rattle.jc_debug.specs.DebuggerState.{Session, IsNetworkAt, IsLeast, RunOutcome}
use Rattle.jc_session.specs.Answers.{origin_of, IsNamed, IsStrange, IsMisspelled, IsEventText, Knows, Replies}
use Rattle.jc_session.specs.Reply as Y
use Rattle.jc_session.specs.Reply.{Reply}
use Rattle.jc_session.specs.Requests as Q
use Rattle.jc_session.specs.Requests.{Request, Word}
use Rattle.jc_requests.specs.Asked as K
use Rattle.jc_requests.specs.Asked.{Asked, Position}
use Rattle.jc_answers.specs.JsonTexts.{NamedText, number_member, string_member, text_member, object_text, array_text}
use Rattle.jc_answers.specs.Refusals.{refusal_answer, IsRefusedText}
use Rattle.jc_replies.specs.ReplyTexts.{IsAnswer, true_member, move_answer}
use Rattle.jc_replies.specs.AnswerOf.{event_text}
use Rattle.jc_looks.specs.declared.looks.Look.{Look}
use Rattle.jc_looks.specs.Looks.{OfReplica, ShowsLook, Gives, no_value_answer}
use Rattle.jc_listings.specs.declared.journals.Details.{Details}
use Rattle.jc_listings.specs.Journals.{AnswersJournal, AnswersEvent}
use Rattle.jc_listings.specs.Places.{IsPlaces}
use Rattle.jc_listings.specs.Positions.{count_of, background, IsAt}
use Rattle.jc_listings.specs.WovenTexts.{IsWovenText}
use Rattle.jc_serve.specs.Asking.{IsOneOrEach, IsExpressionAt, IsBadLook, IsBadExpression, AsksLook, AnswersLook}
use Rattle.jc_serve.specs.Marks.{Mark, of_session, operation, place, Served, moved_to, with_mark, session_in, after_session, RunsTo, RunsBack}
use Rattle.jc_serve.specs.Subjects.{Subject, no_scenario, stuck_given, served, GivenStop, IsFaultAnswer, given_stuck_answer}

abbrev pub quit_answer : List ℕ
quit_answer = object_text (true_member (codes "quit"))

abbrev pub details : Bool → Bool → Details
details trace effects = record { trace = trace; effects = effects }

-- no rule of the version has the name
abbrev pub IsNoRule : Version → Word → Type 0
IsNoRule version name = (rule : Rule) → Knows rule version → rule_name rule ≢ name

-- ---- where there is no scenario

-- the answer to any request but `quit`, and but one that names a rule which no version has
pub data AnswersRefused (text : List ℕ) (fault : ScenarioFault) : Asked → List ℕ → Type 0 where
  quits : AnswersRefused text fault (K.of_session Q.quit) quit_answer
  no_rule : {name : Word}
      → IsNoRule Two name
      → AnswersRefused text fault (K.of_session (Q.break_rule name)) (refusal_answer F.BadLine)
  refuses : {request : Asked} {answer : List ℕ}
      → request ≢ K.of_session Q.quit
      → ((name : Word) → IsNoRule Two name → request ≢ K.of_session (Q.break_rule name))
      → IsFaultAnswer text fault answer
      → AnswersRefused text fault request answer

-- ---- what is wrong in a request itself

-- Its name is no replica's or no rule's, or its text is no event or expression. This comes before what a session would
-- refuse it for.
pub data IsBadRequest (s : Scenario) : Asked → List ℕ → Type 0 where
  no_rule : {name : Word}
      → IsNoRule s.version name
      → IsBadRequest s (K.of_session (Q.break_rule name)) (refusal_answer F.BadLine)
  strange_break : {name : Word}
      → IsStrange s.names name
      → IsBadRequest s (K.of_session (Q.break_replica name)) (refusal_answer F.UnknownReplica)
  strange_state : {name : Word}
      → IsStrange s.names name
      → IsBadRequest s (K.of_session (Q.state_of name)) (refusal_answer F.UnknownReplica)
  strange_first : {name other : Word}
      → IsStrange s.names name
      → IsBadRequest s (K.of_session (Q.compare name other)) (refusal_answer F.UnknownReplica)
  strange_second : {name other : Word}
      → IsStrange s.names other
      → IsBadRequest s (K.of_session (Q.compare name other)) (refusal_answer F.UnknownReplica)
  strange_maker : {counter : ℕ} {name : Word}
      → IsStrange s.names name
      → IsBadRequest s (K.break_op counter name) (refusal_answer F.UnknownReplica)
  misspelled : {rest answer : List ℕ} {refusal : Refusal} {at : ℕ}
      → IsMisspelled s.version s.names rest refusal at
      → IsRefusedText rest refusal at answer
      → IsBadRequest s (K.of_session (Q.act rest)) answer
  bad_look : {request : Asked} {answer : List ℕ} → IsBadLook s.names request answer → IsBadRequest s request answer
  bad_place : {name : Word} {text answer : List ℕ}
      → IsBadExpression s.names name text answer
      → IsBadRequest s (K.break_place name text) answer

-- a replica has the name
abbrev pub IsOwnName : Scenario → Word → Type 0
IsOwnName s name = (p : ℕ) × IsNamed s.names name p

-- Its names are those of replicas or of a rule, and its text is an event or an expression.
abbrev pub IsGoodRequest : Scenario → Asked → Type 0
IsGoodRequest s (K.of_session (Q.break_rule name)) = (rule : Rule) × Knows rule s.version × (rule_name rule ≡ name)
IsGoodRequest s (K.of_session (Q.break_replica name)) = IsOwnName s name
IsGoodRequest s (K.of_session (Q.state_of name)) = IsOwnName s name
IsGoodRequest s (K.of_session (Q.compare name other)) = IsOwnName s name × IsOwnName s other
IsGoodRequest s (K.of_session (Q.act rest)) = (event : Event) × IsEventText s.version s.names rest event
IsGoodRequest s (K.break_op counter name) = IsOwnName s name
IsGoodRequest s (K.break_place name text) = (found : ℕ × AnyExpr) × IsExpressionAt s.names name text found
IsGoodRequest s (K.view at name) = (p : Option ℕ) × IsOneOrEach s.names name p
IsGoodRequest s (K.view_place at name text) = (found : ℕ × AnyExpr) × IsExpressionAt s.names name text found
IsGoodRequest s (K.state_at at name) = (p : Option ℕ) × IsOneOrEach s.names name p
IsGoodRequest s (K.brief at name) = IsOwnName s name
IsGoodRequest s (K.eval at name text) = (found : ℕ × AnyExpr) × IsExpressionAt s.names name text found
IsGoodRequest s request = Unit {0}

-- ---- where a given event is stuck

-- what a look or an event is asked at, where one is
abbrev pub position_in : Asked → Option Position
position_in (K.view at name) = at
position_in (K.view_place at name text) = at
position_in (K.state_at at name) = Some at
position_in (K.brief at name) = at
position_in (K.eval at name text) = at
position_in (K.event at rules effects) = at
position_in request = None

-- it is about the text as a whole, or is to end
abbrev pub IsOfText : Asked → Type 0
IsOfText K.places = Unit {0}
IsOfText K.print = Unit {0}
IsOfText (K.journal rules effects between) = Unit {0}
IsOfText (K.of_session Q.quit) = Unit {0}
IsOfText request = ⊥

-- its position is reached
pub record IsReached (s : Scenario) (request : Asked) : Type 0 where
  pub at : Position
  pub count : ℕ
  pub network : Network
  pub asked : position_in request ≡ Some at
  pub counts : count_of s s.schedule at ≡ Ok count
  pub is_at : IsAt s s.schedule count network

-- its position isn't there
abbrev pub IsNowhere : Scenario → Asked → Refusal → Type 0
IsNowhere s request refusal =
    (at : Position) × (position_in request ≡ Some at) × (count_of s s.schedule at ≡ Err refusal)

-- What is answered where a given event is stuck.
pub data AnswersStuck (text : List ℕ) (s : Scenario) (stop : GivenStop s) : Asked → List ℕ → Type 0 where
  quits : AnswersStuck text s stop (K.of_session Q.quit) quit_answer
  places : {answer : List ℕ} → IsPlaces text answer → AnswersStuck text s stop K.places answer
  prints : AnswersStuck text s stop K.print (quoted (canon s))
  journal : {rules effects : Bool} {between : Option (Position × Position)} {answer : List ℕ}
      → AnswersJournal (details rules effects) s s.schedule between answer
      → AnswersStuck text s stop (K.journal rules effects between) answer
  shows : {request : Asked} {answer : List ℕ} (look : Look) (to : IsReached s request)
      → AsksLook s.names request (Some to.at) look
      → ShowsLook s.names to.network.states look answer
      → AnswersStuck text s stop request answer
  event : {at : Position} {rules effects : Bool} {answer : List ℕ}
      → IsReached s (K.event (Some at) rules effects)
      → AnswersEvent (details rules effects) s s.schedule 0 (Some at) answer
      → AnswersStuck text s stop (K.event (Some at) rules effects) answer
  bad : {request : Asked} {answer : List ℕ}
      → IsBadRequest s request answer
      → AnswersStuck text s stop request answer
  nowhere : {request : Asked} {refusal : Refusal}
      → IsGoodRequest s request
      → IsNowhere s request refusal
      → AnswersStuck text s stop request (refusal_answer refusal)
  stuck : {request : Asked}
      → IsGoodRequest s request
      → ((refusal : Refusal) → IsNowhere s request refusal → ⊥)
      → (IsOfText request → ⊥)
      → (IsReached s request → ⊥)
      → AnswersStuck text s stop request (given_stuck_answer s stop)

-- ---- breakpoints of a session

-- A new breakpoint gets the least place that is free.
pub data SetsMark (A : Served) (b : Mark) : Served → List ℕ → Type 0 where
  set : {j : ℕ}
      → IsLeast (λ i. slice_get A.marks i ≡ Some None) j
      → SetsMark A b (with_mark A j (Some b)) (object_text (number_member (codes "set") (j + 1)))
  none_free : ((j : ℕ) → slice_get A.marks j ≢ Some None) → SetsMark A b A (refusal_answer F.TooManyBreaks)

-- a breakpoint that has the name of what it is of, under its kind
abbrev pub named_mark : List ℕ → ℕ → List ℕ → List NamedText
named_mark kind number name =
    string_member (codes "kind") kind ++ number_member (codes "number") number ++ string_member kind name

-- what a breakpoint of a session is told as
abbrev pub session_mark : List (List ℕ) → ℕ → Break → List NamedText
session_mark names number (Kind.Position n) =
    number_member (codes "at") n ++ string_member (codes "kind") (codes "at") ++ number_member (codes "number") number
session_mark names number (Kind.Rule rule) = named_mark (codes "rule") number (rule_name rule)
session_mark names number (Kind.Replica p) = named_mark (codes "replica") number (name_at names p)

abbrev pub mark_members : List (List ℕ) → ℕ → Mark → List NamedText
mark_members names number (of_session b) = session_mark names number b
mark_members names number (operation i) = named_mark (codes "op") number (id_text names i)
mark_members names number (place p c) =
    text_member (codes "cursor") (cursor_text names c) ++ string_member (codes "kind") (codes "place")
    ++ number_member (codes "number") number ++ string_member (codes "replica") (name_at names p)

-- the breakpoints that there are; the first place has this number
abbrev pub mark_answers : List (List ℕ) → ℕ → List (Option Mark) → List (List ℕ)
mark_answers names number [] = []
mark_answers names number (None ∷ marks) = mark_answers names (suc number) marks
mark_answers names number (Some b ∷ marks) =
    object_text (mark_members names number b) ∷ mark_answers names (suc number) marks

-- The expression gives the cursor at the replica of the name.
pub record IsPlace (names : List (List ℕ)) (states : List State) (name : Word) (text : List ℕ) (p : ℕ) (c : Cursor)
    : Type 0 where
  pub expression : Expr
  pub named : IsNamed names name p
  pub is : IsExpressionOf text expression
  pub gives : OfReplica states p (λ A. Gives A expression (ACursor c))

-- Why a name and an expression give no place.
pub data IsNoPlace (names : List (List ℕ)) (states : List State) (name : Word) (text : List ℕ) : List ℕ → Type 0 where
  bad : {answer : List ℕ} → IsBadExpression names name text answer → IsNoPlace names states name text answer
  no_value : {why : Cause} (p : ℕ) (e : Expr)
      → IsNamed names name p
      → IsExpressionOf text e
      → OfReplica states p (λ A. IsEvalRefused A.tree A.vars e why)
      → IsNoPlace names states name text (no_value_answer names why)
  no_cursor : (p : ℕ) (e : Expr) (b : Bound)
      → IsNamed names name p
      → IsExpressionOf text e
      → OfReplica states p (λ A. Gives A e b)
      → ((c : Cursor) → b ≢ ACursor c)
      → IsNoPlace names states name text (refusal_answer F.NotACursor)

-- A breakpoint at the place that an expression gives at a replica.
pub data SetsPlace (names : List (List ℕ)) (states : List State) (A : Served) (name : Word) (text : List ℕ)
    : Served → List ℕ → Type 0 where
  refuses : {answer : List ℕ} → IsNoPlace names states name text answer → SetsPlace names states A name text A answer
  sets : {p : ℕ} {c : Cursor} {B : Served} {answer : List ℕ}
      → IsPlace names states name text p c
      → SetsMark A (place p c) B answer
      → SetsPlace names states A name text B answer

-- ---- moves of a session

-- where a run back ended: at a breakpoint, or else at position 0
abbrev pub at_mark : Option ℕ → List NamedText
at_mark (Some j) = number_member (codes "break") (j + 1)
at_mark None = []

abbrev pub at_start : Option ℕ → List NamedText
at_start (Some j) = []
at_start None = true_member (codes "start")

-- a session's request that has to do with breakpoints, or `quit`
abbrev pub IsOwn : Request → Type 0
IsOwn Q.run = Unit {0}
IsOwn (Q.break_at n) = Unit {0}
IsOwn (Q.break_rule name) = Unit {0}
IsOwn (Q.break_replica name) = Unit {0}
IsOwn (Q.unbreak k) = Unit {0}
IsOwn Q.quit = Unit {0}
IsOwn request = ⊥

-- What a request leads to where there is a session, and its answer.
pub data AnswersServed (text : List ℕ) (s : Scenario) (start : Network) (A : Served)
    : Asked → Served → List ℕ → Type 0 where
  quits : AnswersServed text s start A (K.of_session Q.quit) A quit_answer
  -- about the text
  places : {answer : List ℕ} → IsPlaces text answer → AnswersServed text s start A K.places A answer
  prints : AnswersServed text s start A K.print A (quoted (canon (record s { schedule = A.schedule })))
  weaves : {seed limit : ℕ} {answer : List ℕ}
      → IsWovenText s seed limit answer
      → AnswersServed text s start A (K.weave seed limit) A answer
  -- what a session has too, but for breakpoints
  replies : {request : Request} {B : Session} {reply : Reply} {answer : List ℕ} (network : Network)
      → (IsOwn request → ⊥)
      → Replies (origin_of s start) (session_in A) request B reply
      → IsNetworkAt start B.schedule B.position network
      → IsAnswer (background s B.schedule network.states) (event_text request) reply answer
      → AnswersServed text s start A (K.of_session request) (after_session A B) answer
  goes_to_end : {B : Served} {answer : List ℕ}
      → AnswersServed text s start A (K.of_session (Q.goto (length A.schedule))) B answer
      → AnswersServed text s start A K.goto_end B answer
  -- runs
  runs : {n : ℕ} {end : RunOutcome} {answer : List ℕ} (network : Network)
      → A.position ≢ length A.schedule
      → RunsTo start A n end
      → IsNetworkAt start A.schedule n network
      → IsAnswer (background s A.schedule network.states) [] (Y.ran n end) answer
      → AnswersServed text s start A (K.of_session Q.run) (moved_to A n) answer
  runs_past : A.position ≡ length A.schedule
      → AnswersServed text s start A (K.of_session Q.run) A (refusal_answer F.AtEnd)
  runs_back : {n : ℕ} {end : Option ℕ}
      → A.position ≢ 0
      → RunsBack start A n end
      → AnswersServed text s start A K.back_run (moved_to A n)
      (move_answer (background s A.schedule []) n (at_mark end) (at_start end))
  runs_back_past : A.position ≡ 0 → AnswersServed text s start A K.back_run A (refusal_answer F.AtStart)
  -- breakpoints
  breaks_at : {n : ℕ} {B : Served} {answer : List ℕ}
      → SetsMark A (of_session (Kind.Position n)) B answer
      → AnswersServed text s start A (K.of_session (Q.break_at n)) B answer
  breaks_rule : {name : Word} {B : Served} {answer : List ℕ} (rule : Rule)
      → Knows rule s.version
      → rule_name rule ≡ name
      → SetsMark A (of_session (Kind.Rule rule)) B answer
      → AnswersServed text s start A (K.of_session (Q.break_rule name)) B answer
  breaks_replica : {name : Word} {B : Served} {answer : List ℕ} (p : ℕ)
      → IsNamed s.names name p
      → SetsMark A (of_session (Kind.Replica p)) B answer
      → AnswersServed text s start A (K.of_session (Q.break_replica name)) B answer
  breaks_op : {counter p : ℕ} {name : Word} {B : Served} {answer : List ℕ}
      → IsNamed s.names name p
      → SetsMark A (operation (record { counter = counter; replica = p })) B answer
      → AnswersServed text s start A (K.break_op counter name) B answer
  breaks_place : {name : Word} {expression : List ℕ} {network : Network} {B : Served} {answer : List ℕ}
      → IsNetworkAt start A.schedule A.position network
      → SetsPlace s.names network.states A name expression B answer
      → AnswersServed text s start A (K.break_place name expression) B answer
  clears : (j : ℕ) (b : Mark)
      → slice_get A.marks j ≡ Some (Some b)
      → AnswersServed text s start A (K.of_session (Q.unbreak (j + 1))) (with_mark A j None)
      (object_text (number_member (codes "cleared") (j + 1)))
  no_break : {k : ℕ}
      → ((j : ℕ) (b : Mark) → k ≡ j + 1 → slice_get A.marks j ≢ Some (Some b))
      → AnswersServed text s start A (K.of_session (Q.unbreak k)) A (refusal_answer F.NoSuchBreak)
  lists_breaks : AnswersServed text s start A K.breaks A (array_text (mark_answers s.names 1 A.marks))
  bad : {request : Asked} {answer : List ℕ}
      → IsBadRequest s request answer
      → AnswersServed text s start A request A answer
  -- what there is at a position
  looks : {request : Asked} {answer : List ℕ}
      → AnswersLook s A.schedule A.position request answer
      → AnswersServed text s start A request A answer
  tells_event : {at : Option Position} {rules effects : Bool} {answer : List ℕ}
      → AnswersEvent (details rules effects) s A.schedule A.position at answer
      → AnswersServed text s start A (K.event at rules effects) A answer
  tells_journal : {rules effects : Bool} {between : Option (Position × Position)} {answer : List ℕ}
      → AnswersJournal (details rules effects) s A.schedule between answer
      → AnswersServed text s start A (K.journal rules effects between) A answer

-- ---- any text

-- What a request other than one that brings a text leads to, and its answer.
pub data AnswersAbout (text : List ℕ) : Subject → Asked → Subject → List ℕ → Type 0 where
  of_refused : {fault : ScenarioFault} {request : Asked} {answer : List ℕ}
      → AnswersRefused text fault request answer
      → AnswersAbout text (no_scenario fault) request (no_scenario fault) answer
  of_stuck : {s : Scenario} {stop : GivenStop s} {request : Asked} {answer : List ℕ}
      → AnswersStuck text s stop request answer
      → AnswersAbout text (stuck_given s stop) request (stuck_given s stop) answer
  of_served : {s : Scenario} {start : Network} {A B : Served} {request : Asked} {answer : List ℕ}
      → AnswersServed text s start A request B answer
      → AnswersAbout text (served s start A) request (served s start B) answer
