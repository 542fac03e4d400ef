-- About ReplicaLines: lines of replicas that are added one after the other. `add_lines` uses it.
use Rattle.std.proofs.Common.{◌≡◌, ℕ, zero, suc, ◌+◌, ◌<◌, List, [], ◌∷◌, ◌++◌, length, take, get_or, slice_get, Some, refl, sym, ◌∙◌, ap, append_assoc, append-nil, arith}
use Rattle.std.proofs.lemmas.Option.{slice_get-get_or, same_Some}
use Rattle.jc_rules.specs.ReplicaNames.{name_at}
use Rattle.jc_rules.specs.State.{State, start}
use Rattle.jc_dump.specs.Dump.{dump_line}
use Rattle.jc_dump.specs.Texts.{dumps_from, dumps_text}
use Rattle.jc_view.specs.Visible.{view_line, views_from, views_text}
use Rattle.jc_out.specs.Out.{OutState, AddsText}
use Rattle.jc_out.proofs.OutLemmas.{adds_both, adds_same}
use Rattle.jc_session.proofs.TextsListLemmas.{next_dumps}
use Rattle.jc_program.specs.declared.run.ReplicaLines.{ReplicaLines}
use Rattle.jc_program.specs.declared.run.ReplicaLines.TheVariants.{Dumps, Documents}
use Rattle.jc_program.specs.ReplicaLines.{replica_line, lines_text}

next_views : (names : List (List ℕ)) (n p : ℕ) (network : List State) (A : State) → slice_get network p ≡ Some A → views_from n names (take (suc p) network) ≡ views_from n names (take p network) ++ view_line names (name_at names (n + p)) A
next_views names n p [] A e = cc
next_views names n zero (B ∷ network) A e =
    let same : B ≡ A = same_Some B A e in
    let number : n ≡ n + 0 = omega arith in
    append-nil (view_line names (name_at names n) B) ∙ (ap (view_line names (name_at names n)) same ∙ ap (λ k. view_line names (name_at names k) A) number)
next_views names n (suc p) (B ∷ network) A e =
    let number : suc n + p ≡ n + suc p = omega arith in
    ap (λ t. view_line names (name_at names n) B ++ t) (next_views names (suc n) p network A e)
    ∙ sym (append_assoc (view_line names (name_at names n) B) (views_from (suc n) names (take p network)) _)
    ∙ ap (λ k. (view_line names (name_at names n) B ++ views_from (suc n) names (take p network)) ++ view_line names (name_at names k) A) number

-- one line more
lines_more : (lines : ReplicaLines) (names : List (List ℕ)) (p : ℕ) (network : List State) (A : State) → slice_get network p ≡ Some A → lines_text lines names (take (p + 1) network) ≡ lines_text lines names (take p network) ++ replica_line lines names (name_at names p) A
lines_more Dumps names p network A e =
    let one : p + 1 ≡ suc p = omega arith in
    let zero_more : 0 + p ≡ p = omega arith in
    ap (λ m. dumps_text names (take m network)) one ∙ (next_dumps names 0 p network A e ∙ ap (λ k. dumps_text names (take p network) ++ dump_line names (name_at names k) A) zero_more)
lines_more Documents names p network A e =
    let one : p + 1 ≡ suc p = omega arith in
    let zero_more : 0 + p ≡ p = omega arith in
    ap (λ m. views_text names (take m network)) one ∙ (next_views names 0 p network A e ∙ ap (λ k. views_text names (take p network) ++ view_line names (name_at names k) A) zero_more)

-- what follows the first of some lines that stand one behind another
split : (line : ℕ → State → List ℕ) (from : ℕ → List State → List ℕ) → ((n : ℕ) → from n [] ≡ []) → ((n : ℕ) (A : State) (network : List State) → from n (A ∷ network) ≡ line n A ++ from (suc n) network) → (n k : ℕ) (network : List State) → (rest : List ℕ) × (from n network ≡ from n (take k network) ++ rest)
split line from none more n zero network = (from n network, ap (λ t. t ++ from n network) (sym (none n)))
split line from none more n (suc k) [] = ([], sym (append-nil (from n [])))
split line from none more n (suc k) (A ∷ network) =
    let later = split line from none more (suc n) k network in
    let first = sym (append_assoc (line n A) (from (suc n) (take k network)) later.0) ∙ ap (λ (t : List ℕ). t ++ later.0) (sym (more n A (take k network))) in
    (later.0, more n A network ∙ (ap (λ t. line n A ++ t) later.1 ∙ first))

pub lines_split : (lines : ReplicaLines) (k : ℕ) (names : List (List ℕ)) (network : List State) → (rest : List ℕ) × (lines_text lines names network ≡ lines_text lines names (take k network) ++ rest)
lines_split Dumps k names network = split (λ n A. dump_line names (name_at names n) A) (λ n network. dumps_from n names network) (λ n. refl) (λ n A network. refl) 0 k network
lines_split Documents k names network = split (λ n A. view_line names (name_at names n) A) (λ n network. views_from n names network) (λ n. refl) (λ n A network. refl) 0 k network

module _ (lines : ReplicaLines) (names : List (List ℕ)) (network : List State) (p : ℕ) (a b c : OutState) (inside : p < length network) (before : AddsText (lines_text lines names (take p network)) a b) where
  pub lines_go_on : (line : List ℕ) → ((A : State) → slice_get network p ≡ Some A → line ≡ replica_line lines names (name_at names p) A) → AddsText line b c → AddsText (lines_text lines names (take (p + 1) network)) a c
  lines_go_on line is next =
      let A = get_or network p (start []) in
      let there = slice_get-get_or network p (start []) inside in
      let text = lines_text lines names (take p network) in
      let own = ap (λ (t : List ℕ). text ++ t) (is A there) ∙ sym (lines_more lines names p network A there) in
      adds_same a c (text ++ line) (lines_text lines names (take (p + 1) network)) own (adds_both a b c text line before next)
