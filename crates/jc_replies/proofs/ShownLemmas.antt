-- Of `ReplyTexts`: lists of events and of rules, and traces.
use Rattle.std.proofs.Common.{◌≡◌, ℕ, ◌+◌, ◌<◌, ◌≤◌, List, [], ◌∷◌, ◌++◌, length, map, take, get_or, codes, append_assoc, sym, ap, subst, ◌∙◌, arith}
use Rattle.std.proofs.lemmas.List.{map_more, map-append, take_all, take_more}
use Rattle.jc_rules.specs.declared.operation.Event.{Event}
use Rattle.jc_rules.specs.declared.rule.Rule.{Rule}
use Rattle.jc_rules.specs.declared.run.Run.{Run}
use Rattle.jc_rules.specs.Runs.{deeper, run_rows, rows_of_all}
use Rattle.jc_rules.proofs.RunsLemmas.{deeper_more, rows_of_all_more}
use Rattle.jc_network.specs.NetworkHistory.{NetworkHistory}
use Rattle.jc_network.specs.Enabled.{AreEnabled, candidates}
use Rattle.jc_debug.specs.DebuggerState.{MakesEvent}
use Rattle.jc_debug.specs.Invariant.{Seen, start_of}
use Rattle.jc_debug.specs.Moves.{IsTraceOf}
use Rattle.jc_debug.proofs.BreaksLemmas.{one_makes}
use Rattle.jc_session.specs.AnswerOf.{IsTraceReply, traced, at_start}
use Rattle.jc_session.specs.Reply.{Reply}
use Rattle.jc_session.proofs.ChosenEventsLemmas.{one_enabled}
use Rattle.jc_answers.specs.declared.arrays.ArrayText.{ArrayText}
use Rattle.jc_answers.specs.JsonTexts.{object_text}
use Rattle.jc_answers.specs.Parts.{HasItems}
use Rattle.jc_replies.specs.ReplyTexts.{events_answer, true_member, row_text, trace_answer, IsAnswer}
use Rattle.jc_replies.specs.AnswerOf.{background_of}

-- ---- items

pub with_items : (a : ArrayText) (ts us : List (List ℕ)) → ts ≡ us → HasItems a ts → HasItems a us
with_items a ts us same h = subst (λ (xs : List (List ℕ)). HasItems a xs) same h

pub all_items : {X : Type 0} (f : X → List ℕ) (xs : List X) (n : ℕ) (a : ArrayText) → length xs ≤ n → HasItems a (map f (take n xs)) → HasItems a (map f xs)
all_items f xs n a enough h = with_items a (map f (take n xs)) (map f xs) (ap (map f) (take_all n xs enough)) h

pub more_items : {X : Type 0} (f : X → List ℕ) (xs : List X) (i : ℕ) (d : X) (a : ArrayText) (text : List ℕ) → i < length xs → text ≡ f (get_or xs i d) → HasItems a (map f (take i xs) ++ text ∷ []) → HasItems a (map f (take (i + 1) xs))
more_items f xs i d a text lt is h =
    with_items a (map f (take i xs) ++ text ∷ []) (map f (take (i + 1) xs)) (ap (λ t. map f (take i xs) ++ t ∷ []) is ∙ sym (map_more f xs i d lt)) h

-- ---- the rules of a trace, run by run

-- the next rule of a run
pub run_items : (ts : List (List ℕ)) (rule : Rule) (depth i n : ℕ) (a : ArrayText) (text : List ℕ) → n ≡ i → text ≡ row_text (rule, depth + n) → HasItems a ((ts ++ map row_text (deeper rule depth i)) ++ text ∷ []) → HasItems a (ts ++ map row_text (deeper rule depth (i + 1)))
run_items ts rule depth i n a text same is h =
    let rows = deeper rule depth i in
    let row : Rule × ℕ = (rule, depth + i) in
    with_items a ((ts ++ map row_text rows) ++ text ∷ []) (ts ++ map row_text (deeper rule depth (i + 1)))
    (append_assoc ts (map row_text rows) (text ∷ [])
    ∙ ap (λ t. ts ++ (map row_text rows ++ t ∷ [])) (is ∙ ap (λ m. row_text (rule, depth + m)) same)
    ∙ ap (λ l. ts ++ l) (sym (map-append row_text rows (row ∷ [])) ∙ ap (map row_text) (sym (deeper_more rule depth i)))) h

-- the next run
pub runs_items : (runs : List Run) (i : ℕ) (run : Run) (a : ArrayText) → i < length runs → run ≡ get_or runs i run → HasItems a (map row_text (rows_of_all (take i runs)) ++ map row_text (run_rows run)) → HasItems a (map row_text (rows_of_all (take (i + 1) runs)))
runs_items runs i run a inside at h =
    let before = rows_of_all (take i runs) in
    let more : take (i + 1) runs ≡ take i runs ++ run ∷ [] = take_more runs i run inside ∙ ap (λ r. take i runs ++ r ∷ []) (sym at) in
    with_items a (map row_text before ++ map row_text (run_rows run)) (map row_text (rows_of_all (take (i + 1) runs)))
    (sym (map-append row_text before (run_rows run)) ∙ ap (map row_text) (sym (ap rows_of_all more ∙ rows_of_all_more (take i runs) run))) h

pub all_runs : (runs : List Run) (n : ℕ) (a : ArrayText) → length runs ≤ n → HasItems a (map row_text (rows_of_all (take n runs))) → HasItems a (map row_text (rows_of_all runs))
all_runs runs n a enough h = with_items a (map row_text (rows_of_all (take n runs))) (map row_text (rows_of_all runs)) (ap (λ (rs : List Run). map row_text (rows_of_all rs)) (take_all n runs enough)) h

-- ---- events that aren't stuck

pub enabled_told : (net : NetworkHistory) (names : List (List ℕ)) (found shown : List Event) (items : List ℕ) → names ≡ net.names → shown ≡ found → AreEnabled net.history.now (candidates net.history.now) found → items ≡ events_answer names shown → (listed : List Event) → AreEnabled net.history.now (candidates net.history.now) listed → items ≡ events_answer net.names listed
enabled_told net names found shown items is value enabled h listed others =
    let same : shown ≡ listed = value ∙ one_enabled net.history.now found listed enabled others in
    h ∙ (λ i. events_answer (is i) (same i))

-- ---- traces

pub trace_told : (d : Seen) (t : List (Rule × ℕ)) (net : NetworkHistory) (names : List (List ℕ)) (n : ℕ) (event : Event) (items : List ℕ) → net ≡ d.net → names ≡ net.names → n ≡ length d.traces → (h : IsTraceOf d t) → event ≡ h.event → items ≡ trace_answer names n event t → (given : List Event) (text : List ℕ) (r : Reply) → IsTraceReply d r → IsAnswer (background_of given d) text r items
trace_told d t net names n event items same is at h event_is due given text r (traced {rows} k) =
    let known : names ≡ d.net.names = is ∙ ap (λ (c : NetworkHistory). c.names) same in
    let here = h.position in
    let there = k.position in
    let number : h.before ≡ k.before = omega (arith, here, there) in
    let one = one_makes (start_of d) d.schedule k.before h.event k.event t rows (subst (λ (m : ℕ). MakesEvent (start_of d) d.schedule m h.event t) number h.makes) k.makes in
    let same_event : event ≡ k.event = event_is ∙ one.0 in
    due ∙ (λ i. trace_answer (known i) (at i) (same_event i) (one.1 i))
trace_told d t net names n event items same is at h event_is due given text r (at_start none) = let position = h.position in absurd (omega (arith, position, none))

pub start_told : (d : Seen) (items : List ℕ) → length d.traces ≡ 0 → items ≡ object_text (true_member (codes "start")) → (given : List Event) (text : List ℕ) (r : Reply) → IsTraceReply d r → IsAnswer (background_of given d) text r items
start_told d items none h given text r (at_start is) = h
start_told d items none h given text r (traced k) = let position = k.position in absurd (omega (arith, position, none))
