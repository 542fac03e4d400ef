-- About Laws: what a look shows has no LF.
use Rattle.std.proofs.Common.{ℕ, suc, inl, inr, List, [], ◌∷◌, ◌++◌, Some, None}
use Rattle.json.specs.Print.{print}
use Rattle.json.specs.Tree.{json_tokens}
use Rattle.serde_json.specs.Written.{compact_text}
use Rattle.jc_rules.specs.declared.operation.Cursor.{Cursor}
use Rattle.jc_rules.specs.declared.refusal.Refusal.{Refusal}
use Rattle.jc_rules.specs.Refused.{Cause, because, no_node, refusal_of}
use Rattle.jc_rules.specs.Refusals.{refusal_name, refusal_number}
use Rattle.jc_rules.specs.ReplicaNames.{name_at}
use Rattle.jc_rules.specs.State.{State, Bound, ACursor, Names, Pairs}
use Rattle.jc_rules.specs.Syntax.{Expr}
use Rattle.jc_syntax.specs.Trees.{expr_of}
use Rattle.jc_json.specs.Json.{tagged_text, object_of}
use Rattle.jc_dump.specs.Dump.{bound_data, bound_text, brief_members, brief_text, dump_of, dump_line}
use Rattle.jc_view.specs.Visible.{view_line, view_json, line_json}
use Rattle.jc_view.specs.Places.{place_line, shown_at}
use Rattle.jc_view.proofs.NumbersLemmas.{view_numbers}
use Rattle.jc_answers.specs.Refusals.{refusal_members}
use Rattle.jc_looks.specs.declared.looks.Look.{Look}
use Rattle.jc_looks.specs.declared.looks.Look.TheVariants as L
use Rattle.jc_looks.specs.Looks.{view_text, state_text, place_text, viewed_text, texts_from, missing_key, no_value_answer, ShowsValue, ShowsLook}
use Rattle.jc_lines.specs.OneLine.{HasNoLf}
use Rattle.jc_lines.proofs.NoLfLemmas.{decimal_line, canon_quoted, ended}
use Rattle.jc_lines.proofs.CompactLemmas.{compact_line}
use Rattle.jc_lines.proofs.PrintedLemmas.{printed_line, line_numbers}
use Rattle.jc_lines.proofs.PlaceNumbersLemmas.{place_numbers}
use Rattle.jc_lines.proofs.AnswersLemmas.{AreLines, HaveLines, array_line, refused_line}

-- ---- texts of states

bound_line : (names : List (List ℕ)) (b : Bound) → HasNoLf (bound_text names b)
unfolding bound_text
bound_line names b = compact_line (bound_data names b)

brief_line : (names : List (List ℕ)) (name : List ℕ) (A : State) → HasNoLf (brief_text names name A)
unfolding brief_text
brief_line names name A = compact_line (object_of (brief_members names name A))

pub state_line : (names : List (List ℕ)) (name : List ℕ) (A : State) → HasNoLf (state_text names name A)
unfolding dump_line
state_line names name A = ended (compact_text (dump_of names name A)) (compact_line (dump_of names name A))

shown_line : (names : List (List ℕ)) (name : List ℕ) (A : State) → HasNoLf (view_text names name A)
unfolding view_line
shown_line names name A =
    let j = view_json names name A in
    ended (print (json_tokens j)) (printed_line j (line_numbers j (view_numbers names name A)))

at_line : (names : List (List ℕ)) (name : List ℕ) (A : State) (cursor : Cursor) → HasNoLf (place_text names name A cursor)
unfolding place_line
at_line names name A cursor =
    let j = line_json name (shown_at names A cursor) in
    ended (print (json_tokens j)) (printed_line j (line_numbers j (place_numbers names name A cursor)))

viewed_line : (names : List (List ℕ)) (name : List ℕ) (A : State) (b : Bound) → HasNoLf (viewed_text names name A b)
viewed_line names name A (ACursor cursor) = at_line names name A cursor
viewed_line names name A (Names keys) = bound_line names (Names keys)
viewed_line names name A (Pairs pairs) = bound_line names (Pairs pairs)

-- ---- answers

pub refusal_lines : (refusal : Refusal) → HaveLines (refusal_members refusal)
refusal_lines refusal = (canon_quoted (refusal_name refusal), (decimal_line (refusal_number refusal), tt))

pub no_value_line : (names : List (List ℕ)) (why : Cause) → HasNoLf (no_value_answer names why)
no_value_line names (because refusal) = refused_line (refusal_members refusal) (refusal_lines refusal)
no_value_line names (no_node k) = refused_line (missing_key names (no_node k) ++ refusal_members (refusal_of (no_node k))) (canon_quoted (tagged_text names k), refusal_lines (refusal_of (no_node k)))

value_line : (text : Bound → List ℕ) (names : List (List ℕ)) (A : State) (e : Expr) (answer : List ℕ) → ((b : Bound) → HasNoLf (text b)) → ShowsValue text names A e answer → HasNoLf answer
value_line text names A e answer h (inl given) = rw given.2 (h given.0)
value_line text names A e answer h (inr refused) = rw refused.2 (no_value_line names refused.0)

pub lines_from : (text : List (List ℕ) → List ℕ → State → List ℕ) (names : List (List ℕ)) → ((name : List ℕ) (A : State) → HasNoLf (text names name A)) → (p : ℕ) (states : List State) → AreLines (texts_from text p names states)
lines_from text names h p [] = tt
lines_from text names h p (A ∷ states) = (h (name_at names p) A, lines_from text names h (suc p) states)

pub look_line : (names : List (List ℕ)) (states : List State) (look : Look) (answer : List ℕ) → ShowsLook names states look answer → HasNoLf answer
look_line names states (L.View None) answer h = rw h (array_line (texts_from view_text 0 names states) (lines_from view_text names (shown_line names) 0 states))
look_line names states (L.View (Some p)) answer h = rw h.2 (shown_line names (name_at names p) h.0)
look_line names states (L.ViewPlace p e) answer h = value_line (viewed_text names (name_at names p) h.0) names h.0 (expr_of e) answer (viewed_line names (name_at names p) h.0) h.2
look_line names states (L.State None) answer h = rw h (array_line (texts_from state_text 0 names states) (lines_from state_text names (state_line names) 0 states))
look_line names states (L.State (Some p)) answer h = rw h.2 (state_line names (name_at names p) h.0)
look_line names states (L.Brief p) answer h = rw h.2 (brief_line names (name_at names p) h.0)
look_line names states (L.Eval p e) answer h = value_line (bound_text names) names h.0 (expr_of e) answer (bound_line names) h.2
