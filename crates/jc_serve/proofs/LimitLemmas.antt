-- Of jc_requests' `Asked`: no line asks `weave` for more events than a schedule may have.
use Rattle.std.proofs.Common.{◌≡◌, ℕ, Bool, true, false, nat_le, nat_lt, ◌==◌, if◌then◌else◌, List, [], ◌∷◌, ◌+◌, take, drop, position, Option, Some, None, option_map, refl, subst, codes, rules}
use Rattle.std.specs.Option.{option_and_then}
use Rattle.std.specs.List.{list_all}
use Rattle.std.specs.Str.{bytes_eq}
use Rattle.jc_rules.specs.declared.limits.TheConstants.{MAX_EVENTS}
use Rattle.jc_session.specs.Lines.{Line}
use Rattle.jc_session.specs.Requests.{Word, Meaning, asks, nothing, bad, among, words, meaning, number_in}
use Rattle.jc_requests.specs.Asked as K
use Rattle.jc_requests.specs.Asked.{Asked, Position, asked, asked_by, meant, in_session, alone, viewed, stated, briefed, evaluated, event_of, journal_by, pair_of, at_position, op_by, op_in, break_of, weave_by, weave_of, limit_of, seed_in, exactly, own, or_by_session, only, past_at, past_details, position_in}
use Rattle.jc_serve.specs.AnswerOf.{IsWithinLimit}

abbrev HasLimit : Option Asked → Type 0
HasLimit None = Unit {0}
HasLimit (Some r) = IsWithinLimit r

if_limit : (b : Bool) (x y : Option Asked) → HasLimit x → HasLimit y → HasLimit (if b then x else y)
if_limit true x y h k = h
if_limit false x y h k = k

map_limit : {X : Type 0} (f : X → Asked) (o : Option X) → ((x : X) → IsWithinLimit (f x)) → HasLimit (option_map f o)
map_limit f None h = tt
map_limit f (Some x) h = h x

then_limit : {X : Type 0} (f : X → Option Asked) (o : Option X) → ((x : X) → HasLimit (f x)) → HasLimit (option_and_then f o)
then_limit f None h = tt
then_limit f (Some x) h = h x

meant_limit : (m : Meaning) → HasLimit (meant m)
meant_limit nothing = tt
meant_limit (asks request) = tt
meant_limit bad = tt

session_limit : (line : List ℕ) → HasLimit (in_session line)
session_limit line = meant_limit (meaning (Some line))

alone_limit : (r : Asked) (ws : List Word) → IsWithinLimit r → HasLimit (alone r ws)
alone_limit r [] h = h
alone_limit r (w ∷ ws) h = tt

viewed_limit : (line : List ℕ) (at : Option Position) (ws : List Word) → HasLimit (viewed line at ws)
viewed_limit line at [] = tt
viewed_limit line at (name ∷ []) = tt
viewed_limit line at (name ∷ w ∷ ws) = tt

stated_limit : (line : List ℕ) (at : Option Position) (ws : List Word) → HasLimit (stated line at ws)
stated_limit line None ws = session_limit line
stated_limit line (Some p) [] = tt
stated_limit line (Some p) (name ∷ []) = tt
stated_limit line (Some p) (name ∷ w ∷ ws) = tt

evaluated_limit : (line : List ℕ) (at : Option Position) (ws : List Word) → HasLimit (evaluated line at ws)
evaluated_limit line at [] = tt
evaluated_limit line at (name ∷ ws) = tt

journal_limit : (trace effects : Bool) (ws : List Word) → HasLimit (journal_by trace effects ws)
journal_limit trace effects [] = tt
journal_limit trace effects (v ∷ []) = tt
journal_limit trace effects (v ∷ w ∷ []) = map_limit (λ p. K.journal trace effects (Some p)) (pair_of (position_in v) (position_in w)) (λ p. tt)
journal_limit trace effects (v ∷ w ∷ x ∷ ws) = tt

at_limit : (f : Option Position → List Word → Option Asked) (ws : List Word) → ((at : Option Position) (vs : List Word) → HasLimit (f at vs)) → HasLimit (at_position f ws)
at_limit f ws h = then_limit (λ p. f p.0 p.1) (past_at ws) (λ p. h p.0 p.1)

op_limit : (n : Option ℕ) (name : Word) → HasLimit (op_by n name)
op_limit None name = tt
op_limit (Some n) name = if_limit (K.is_name name) (Some (K.break_op n name)) None tt tt

break_limit : (line : List ℕ) (ws : List Word) → HasLimit (break_of line ws)
break_limit line [] = session_limit line
break_limit line (v ∷ []) = session_limit line
break_limit line (v ∷ w ∷ ws) =
    if_limit (bytes_eq v (codes "op")) (option_and_then op_in (only (w ∷ ws))) (if bytes_eq v (codes "place") then Some (K.break_place w (K.after_words 3 line)) else in_session line)
    (then_limit op_in (only (w ∷ ws)) (λ x. then_limit (λ at. op_by (number_in (take at x)) (drop (at + 1) x)) (position (λ b. b == 64) x) (λ at. op_limit (number_in (take at x)) (drop (at + 1) x))))
    (if_limit (bytes_eq v (codes "place")) (Some (K.break_place w (K.after_words 3 line))) (in_session line) tt (session_limit line))

within_limit : (seed : Option ℕ) (n : ℕ) (b : Bool) → nat_le n MAX_EVENTS ≡ b → HasLimit (weave_by seed (if b then Some n else None))
within_limit None n true is = tt
within_limit None n false is = tt
within_limit (Some seed) n true is = search (rules, is)
within_limit (Some seed) n false is = tt

weave_limit : (ws : List Word) → HasLimit (weave_of ws)
weave_limit [] = tt
weave_limit (v ∷ []) = tt
weave_limit (v ∷ w ∷ []) = go (seed_in v) (number_in w)
  where
    go : (seed n : Option ℕ) → HasLimit (weave_by seed (limit_of n))
    go None None = tt
    go (Some seed) None = tt
    go seed (Some n) = within_limit seed n (nat_le n MAX_EVENTS) refl
weave_limit (v ∷ w ∷ x ∷ ws) = tt

exactly_limit : (line word : List ℕ) (r : Asked) (ws : List Word) → IsWithinLimit r → HasLimit (exactly line word r ws)
exactly_limit line word r [] h = session_limit line
exactly_limit line word r (w ∷ []) h = if_limit (bytes_eq w word) (Some r) (in_session line) h (session_limit line)
exactly_limit line word r (v ∷ w ∷ ws) h = session_limit line

-- ---- by the first word

abbrev AllLimited : List (Word × (List Word → Option Asked)) → Type 0
AllLimited [] = Unit {0}
AllLimited (e ∷ es) = (((ws : List Word) → HasLimit (e.1 ws)) × AllLimited es)

among_limit : (line : List ℕ) (v : Word) (ws : List Word) (es : List (Word × (List Word → Option Asked))) → AllLimited es → HasLimit (or_by_session line (among v es) ws)
among_limit line v ws [] h = session_limit line
among_limit line v ws (e ∷ es) h = go (bytes_eq v e.0) (among_limit line v ws es h.1)
  where
    go : (b : Bool) → HasLimit (or_by_session line (among v es) ws) → HasLimit (or_by_session line (if b then Some e.1 else among v es) ws)
    go true rest = h.0 ws
    go false rest = rest

by_limit : (line : List ℕ) (ws : List Word) → HasLimit (asked_by line ws)
by_limit line [] = tt
by_limit line (v ∷ ws) =
    among_limit line v ws (own line)
    ((λ us. map_limit K.scenario (option_and_then number_in (only us)) (λ n. tt)), ((λ us. alone_limit K.places us tt), ((λ us. alone_limit K.print us tt), ((λ us. alone_limit K.breaks us tt), ((λ us. exactly_limit line (codes "end") K.goto_end us tt), ((λ us. exactly_limit line (codes "run") K.back_run us tt), ((λ us. break_limit line us), ((λ us. weave_limit us), ((λ us. at_limit (viewed line) us (λ at vs. viewed_limit line at vs)), ((λ us. at_limit (stated line) us (λ at vs. stated_limit line at vs)), ((λ us. at_limit briefed us (λ at vs. map_limit (K.brief at) (only vs) (λ w. tt))), ((λ us. at_limit (evaluated line) us (λ at vs. evaluated_limit line at vs)), ((λ us. at_limit event_of us (λ at vs. alone_limit (K.event at (past_details vs).0 (past_details vs).1) (past_details vs).2 tt)), ((λ us. journal_limit (past_details us).0 (past_details us).1 (past_details us).2), tt))))))))))))))

limited : (l : Line) → HasLimit (asked l)
unfolding asked
limited None = tt
limited (Some l) = if_limit (list_all (λ b. nat_lt b 128) l) (asked_by l (words l)) None (by_limit l (words l)) tt

-- what a line asks is within the limit
pub asked_within : (line : Line) (r : Asked) → asked line ≡ Some r → IsWithinLimit r
asked_within line r is = subst HasLimit is (limited line)
