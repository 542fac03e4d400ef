-- Of `Texts`: lines that are written one after another, of events and of replicas.
use Rattle.std.proofs.Common.{◌≡◌, ℕ, zero, suc, ◌+◌, ◌<◌, List, [], ◌∷◌, ◌++◌, length, take, get_or, slice_get, Some, sym, ap, ◌∙◌, arith, append_assoc, append-nil}
use Rattle.std.proofs.lemmas.List.{take_more, length-take-le}
use Rattle.std.proofs.lemmas.Option.{slice_get-get_or}
use Rattle.jc_rules.specs.declared.operation.Event.{Event}
use Rattle.jc_rules.specs.ReplicaNames.{name_at}
use Rattle.jc_rules.specs.State.{State, start}
use Rattle.jc_dump.specs.Dump.{dump_line}
use Rattle.jc_dump.specs.Texts.{dumps_from, dumps_text}
use Rattle.jc_session.specs.Texts.{numbered_line, numbered_lines}

-- ---- events with their numbers

numbered_push : (names : List (List ℕ)) (n : ℕ) (es : List Event) (e : Event) → numbered_lines names n (es ++ e ∷ []) ≡ numbered_lines names n es ++ numbered_line names (n + length es) e
numbered_push names n [] e = let same : n ≡ n + 0 = omega arith in append-nil (numbered_line names n e) ∙ ap (λ m. numbered_line names m e) same
numbered_push names n (x ∷ es) e =
    let same : n + 1 + length es ≡ n + suc (length es) = omega arith in
    ap (λ t. numbered_line names n x ++ t) (numbered_push names (n + 1) es e ∙ ap (λ m. numbered_lines names (n + 1) es ++ numbered_line names m e) same)
    ∙ sym (append_assoc (numbered_line names n x) (numbered_lines names (n + 1) es) (numbered_line names (n + suc (length es)) e))

pub numbered_more : (names : List (List ℕ)) (es : List Event) (i : ℕ) (d : Event) → i < length es → numbered_lines names 1 (take (i + 1) es) ≡ numbered_lines names 1 (take i es) ++ numbered_line names (i + 1) (get_or es i d)
numbered_more names es i d lt =
    let same : 1 + length (take i es) ≡ i + 1 = omega (arith, length-take-le i es (omega (arith, lt))) in
    ap (numbered_lines names 1) (take_more es i d lt) ∙ numbered_push names 1 (take i es) (get_or es i d) ∙ ap (λ k. numbered_lines names 1 (take i es) ++ numbered_line names k (get_or es i d)) same

-- ---- dumps

pub next_dumps : (names : List (List ℕ)) (n p : ℕ) (network : List State) (A : State) → slice_get network p ≡ Some A → dumps_from n names (take (suc p) network) ≡ dumps_from n names (take p network) ++ dump_line names (name_at names (n + p)) A
next_dumps names n p [] A e = let no : slice_get {X = State} [] p ≡ Some A = e in cc
next_dumps names n zero (B ∷ network) A e =
    let same : B ≡ A = cc in
    let number : n ≡ n + 0 = omega arith in
    append-nil (dump_line names (name_at names n) B) ∙ (λ i. dump_line names (name_at names (number i)) (same i))
next_dumps names n (suc p) (B ∷ network) A e =
    let number : suc n + p ≡ n + suc p = omega arith in
    ap (λ t. dump_line names (name_at names n) B ++ t) (next_dumps names (suc n) p network A e ∙ ap (λ k. dumps_from (suc n) names (take p network) ++ dump_line names (name_at names k) A) number)
    ∙ sym (append_assoc (dump_line names (name_at names n) B) (dumps_from (suc n) names (take p network)) (dump_line names (name_at names (n + suc p)) A))

pub dumps_more : (names : List (List ℕ)) (network : List State) (p : ℕ) (text : List ℕ) → p < length network → ((A : State) → slice_get network p ≡ Some A → text ≡ dump_line names (name_at names p) A) → dumps_text names (take (p + 1) network) ≡ dumps_text names (take p network) ++ text
dumps_more names network p text lt h =
    let there = slice_get-get_or network p (start []) lt in
    let A = get_or network p (start []) in
    let one : p + 1 ≡ suc p = omega arith in
    let number : 0 + p ≡ p = omega arith in
    ap (λ m. dumps_text names (take m network)) one ∙ next_dumps names 0 p network A there ∙ ap (λ k. dumps_text names (take p network) ++ dump_line names (name_at names k) A) number ∙ ap (λ t. dumps_text names (take p network) ++ t) (sym (h A there))
