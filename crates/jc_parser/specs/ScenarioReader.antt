-- How a scenario is read from left to right. The code follows these readers; a reader believes the grammar.
use Rattle.std.specs.Prelude.{ℕ, zero, suc, ◌-◌, List, [], ◌∷◌, ◌++◌, Bool, false, if◌then◌else◌, codes, Result, Ok, Err}
use Rattle.std.specs.Str.{bytes_eq}
use Rattle.std.specs.List.{list_any}
use Rattle.jc_rules.specs.declared.version.Version.{Version}
use Rattle.jc_rules.specs.declared.version.Version.TheVariants.{One, Two}
use Rattle.jc_syntax.specs.declared.token.TokenKind.TheVariants.{Name, BraceL, BraceR}
use Rattle.jc_syntax.specs.declared.tree.NamedEvent.{NamedEvent}
use Rattle.jc_rules.specs.Syntax.{Cmd}
use Rattle.jc_rules.specs.declared.limits.TheConstants.{MAX_EVENTS, MAX_REPLICAS}
use Rattle.jc_parser.specs.declared.fault.ScenarioFault.{ScenarioFault}
use Rattle.jc_parser.specs.declared.fault.ScenarioFault.TheVariants.{ReservedName, SameName, TooManyReplicas, TooManyEvents}
use Rattle.jc_grammar.specs.Symbols.{Symbol, word}
use Rattle.jc_parser.specs.ReaderState.{Reading, ReadOutcome, ◌>>=◌, place, stuck, begins, has_kind, is_word, reserved, named_at, skip}
use Rattle.jc_parser.specs.PartReaders.{items_at, front_at, result_of_read}
use Rattle.jc_parser.specs.ScriptReader.{closed_script_at}
use Rattle.jc_parser.specs.EventReader.{any_event_at}
use Rattle.jc_parser.specs.NamedTrees.{Part, NamedTree, tree, with_replica_part}

-- ---- a replica

-- the name is one of these
abbrev pub is_among : List (List ℕ) → List ℕ → Bool
is_among names name = list_any (bytes_eq name) names

abbrev pub known : List (List ℕ) → Symbol → Bool
known names (word name) = is_among names name
known names s = false

-- a name, if none of these
unfoldable pub other_name_at : List (List ℕ) → Reading → ReadOutcome (List ℕ)
other_name_at names r = do
  n ← named_at r
  if is_among names n.0.name then Err (SameName n.0.place) else Ok (n.0.name, n.1)

-- a name that is no reserved word and none of these
unfoldable pub new_name_at : List (List ℕ) → Reading → ReadOutcome (List ℕ)
new_name_at names r = if begins reserved r then Err (ReservedName (place r)) else other_name_at names r

-- a script with its braces
unfoldable pub body_at : Reading → ReadOutcome (List Cmd)
body_at r = do
  a ← skip (has_kind BraceL) r
  closed_script_at a.1

-- a replica from its name on, where these are taken
unfoldable pub part_at : List (List ℕ) → Reading → ReadOutcome Part
part_at names r = do
  n ← new_name_at names r
  s ← body_at n.1
  Ok (record { name = n.0; script = s.0 }, s.1)

-- ---- blocks of events

-- at most n events, with the offsets of their names
abbrev pub events_at : Version → ℕ → Reading → ReadOutcome (List NamedEvent)
events_at v n r = items_at (has_kind Name) (any_event_at v) (λ s. TooManyEvents (place s)) n r

-- a block with this word
unfoldable pub block_at : List ℕ → Version → ℕ → Reading → ReadOutcome (List NamedEvent)
block_at name v n r = do
  a ← skip (is_word name) r
  b ← skip (has_kind BraceL) a.1
  es ← events_at v n b.1
  c ← skip (has_kind BraceR) es.1
  Ok (es.0, c.1)

-- a block with this word, or nothing
unfoldable pub any_block_at : List ℕ → Version → ℕ → Reading → ReadOutcome (List NamedEvent)
any_block_at name v n r = if begins (is_word name) r then block_at name v n r else Ok ([], r)

-- the given events, which version 2 alone has
unfoldable pub given_at : Version → ℕ → Reading → ReadOutcome (List NamedEvent)
given_at One n r = Ok ([], r)
given_at Two n r = any_block_at (codes "given") Two n r

-- ---- scenarios

-- the given events and the schedule, behind the replicas
unfoldable pub blocks_at : Version → ℕ → Reading → ReadOutcome NamedTree
blocks_at v n r = do
  g ← given_at v n r
  s ← any_block_at (codes "schedule") v n g.1
  Ok (tree v [] g.0 s.0, s.1)

-- the fault of one replica more than there may be, after its word
abbrev pub too_many_replicas_at : List (List ℕ) → Reading → ScenarioFault
too_many_replicas_at names r =
    if begins reserved r then ReservedName (place r)
    else (if begins (known names) r then SameName (place r)
    else (if begins (has_kind Name) r then TooManyReplicas (place r) else stuck r))

-- at most n replicas more, and at most m events in each block
unfoldable pub tail_at : Version → ℕ → ℕ → List (List ℕ) → Reading → ReadOutcome NamedTree
tail_at v m zero names r =
    if begins (is_word (codes "replica")) r
    then (skip (is_word (codes "replica")) r >>= λ a. Err (too_many_replicas_at names a.1))
    else blocks_at v m r
tail_at v m (suc n) names r =
    if begins (is_word (codes "replica")) r
    then (skip (is_word (codes "replica")) r >>= λ a. part_at names a.1
    >>= λ p. tail_at v m n (names ++ p.0.name ∷ []) p.1
    >>= λ t. Ok (with_replica_part p.0 t.0, t.1))
    else blocks_at v m r

-- a scenario from the name of its first replica on
unfoldable pub rest_at : Version → ℕ → ℕ → Reading → ReadOutcome NamedTree
rest_at v m n r = do
  p ← part_at [] r
  t ← tail_at v m n (p.0.name ∷ []) p.1
  Ok (with_replica_part p.0 t.0, t.1)

-- a scenario and nothing more
unfoldable pub tree_at : Reading → Result NamedTree ScenarioFault
tree_at r = do
  a ← front_at r
  t ← rest_at a.0 MAX_EVENTS (MAX_REPLICAS - 1) a.1
  result_of_read t
